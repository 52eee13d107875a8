use Rattle.std.proofs.Common.{◌≡◌, ◌∷◌, Bool, true, false, cond, refl, sym, ap, ◌∙◌}
use Rattle.std.specs.Prelude.{◌||◌}
use Rattle.std.specs.BTreeSet.{contains}
use Rattle.std.specs.Map.Iter.{deref}
use Rattle.std.specs.Ordering.{nat_cmp}
use Rattle.std.proofs.lemmas.Map.Iter.{rest_more}
use Rattle.cpi_rows.specs.Held.{held_cmp}
use Rattle.cpi_store.specs.Series.{is_handed_over, same_series}
use Rattle.cpi_store.proofs.GivenSlots.{level_slots}
use Rattle.cpi_store.proofs.frozen.series_handed_over.Goals as goal

-- one that is put is no longer to come
passed : (found here rest : Bool) → (cond here true found || rest) ≡ (found || (here || rest))
passed true true rest = refl
passed true false rest = refl
passed false true rest = refl
passed false false rest = refl

pub loop-over-preserved : goal.loop-over-preserved
loop-over-preserved c = λ s.
    let over = c.in-Some.over.now in
    let rest = c.next.new.self in
    let left : c.loop-over.over-iterator ≡ over ∷ rest = rest_more deref c.loop-over.over-iterator rest c.next.result
    c.in-Some.over c.in-Some.is c.next.ensures.steps in
    let found = contains (held_cmp nat_cmp) c.loop-over.found (s.collector, s.slot) in
    ap (λ b. b || is_handed_over rest s) (c.in_ok-insert.ensures.updates.0 (s.collector, s.slot)
    ∙ ap (λ b. cond b true found) (level_slots over.series.collector over.series.slot s.collector s.slot))
    ∙ passed found (same_series over.series s) (is_handed_over rest s)
    ∙ ap (λ ts. found || is_handed_over ts s) (sym left)
    ∙ c.loop-over.invariant s
