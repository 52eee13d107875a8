use Rattle.std.proofs.Common.{◌≡◌, ◌≢◌, ℕ, true, false, eqb, cond, refl, ap, ◌∙◌, inl, inr}
use Rattle.std.specs.Prelude.{◌⊎◌, Option, Some, max, if◌then◌else◌}
use Rattle.std.specs.BTreeMap.{get}
use Rattle.std.specs.Ordering.{nat_cmp, is_eq}
use Rattle.std.proofs.lemmas.Bool.Decides.{eqb_tells}
use Rattle.cpi_rows.specs.Held.{held_cmp}
use Rattle.cpi_codes.specs.declared.series.SeriesId.{SeriesId}
use Rattle.cpi_store.specs.declared.series_ends.SeriesEnds.{SeriesEnds}
use Rattle.cpi_store.specs.Series.{last_known, or_first, same_series}
use Rattle.cpi_store.proofs.GivenSlots.{level_slots}
use Rattle.cpi_store.proofs.series_ends.SeriesEnds.put.Goals as goal

-- what is known of a series after the latest month of one was put
after_put : (old new : SeriesEnds) (series s : SeriesId) (last_month latest : ℕ) →
    latest ≡ max last_month (last_known old series) →
    get (held_cmp nat_cmp) new.ends (s.collector, s.slot) ≡ cond
    (is_eq (held_cmp nat_cmp (series.collector, series.slot) (s.collector, s.slot))) (Some latest)
    (get (held_cmp nat_cmp) old.ends (s.collector, s.slot)) →
    last_known new s ≡ if same_series series s then max last_month (last_known old s) else last_known old s
after_put old new series s last_month latest is put =
    ap or_first put ∙ ap (λ b. or_first (cond b (Some latest) (known s.collector s.slot)))
    (level_slots series.collector series.slot s.collector s.slot)
    ∙ cases (eqb_tells series.collector s.collector) (eqb_tells series.slot s.slot)
  where
    known : ℕ → ℕ → Option ℕ
    known c n = get (held_cmp nat_cmp) old.ends (c, n)

    cases : ((eqb series.collector s.collector ≡ true) × (series.collector ≡ s.collector))
        ⊎ ((eqb series.collector s.collector ≡ false) × (series.collector ≢ s.collector)) →
        ((eqb series.slot s.slot ≡ true) × (series.slot ≡ s.slot))
        ⊎ ((eqb series.slot s.slot ≡ false) × (series.slot ≢ s.slot)) →
        or_first (cond (same_series series s) (Some latest) (known s.collector s.slot)) ≡ if same_series series s then
        max last_month (last_known old s) else last_known old s
    cases (inl a) (inl b) = rw (a.0, b.0) (is ∙ ap (λ c. max last_month (or_first (known c series.slot))) a.1
        ∙ ap (λ n. max last_month (or_first (known s.collector n))) b.1)
    cases (inl a) (inr b) = rw (a.0, b.0) refl
    cases (inr a) d = rw a.0 refl

pub returns : goal.returns
returns c = record {
  ok = λ s.
      let latest : c.later_of-latest.result ≡ max c.args.last_month (last_known c.args.self.now c.args.series) =
      c.later_of-latest.ensures ∙ ap (λ k. max c.args.last_month (or_first k))
      (c.copied.ensures ∙ c.get.ensures.value) in
      after_put c.args.self.now (record { ends = c.insert.new.self }) c.args.series s c.args.last_month
      c.later_of-latest.result latest (c.in_ok-insert.ensures.updates.0 (s.collector, s.slot));
}
