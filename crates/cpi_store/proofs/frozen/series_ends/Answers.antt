use Rattle.std.proofs.Common.{◌≡◌, ℕ, ◌+◌, ◌<◌, List, [], ◌∷◌, ◌++◌, length, take, get_or, sym, ap, ◌∙◌, arith}
use Rattle.std.specs.Prelude.{max}
use Rattle.std.proofs.lemmas.List.{append-nil, take_more}
use Rattle.cpi_store.specs.declared.holder.Holder.{Holder}
use Rattle.cpi_store.specs.declared.taken_over.TakenOver.{TakenOver}
use Rattle.cpi_store.specs.Series.{last_handed_over}
use Rattle.cpi_store.specs.Holders.{all_given, own_given}
use Rattle.cpi_store.proofs.FrozenRows.{all_given_append, all_given_cons}
use Rattle.cpi_store.proofs.HandedSeries.{last_handed_over_append}
use Rattle.cpi_store.proofs.frozen.series_ends.Goals as goal

-- what one more collector adds
given_more : (taken : List TakenOver) (hs : List Holder) (i : ℕ) (h : Holder) → i < length hs → h ≡ get_or hs i h →
    all_given taken (take (i + 1) hs) ≡ all_given taken (take i hs) ++ own_given taken h
given_more taken hs i h lt is =
    ap (all_given taken) (take_more hs i h lt)
    ∙ all_given_append taken (take i hs) (get_or hs i h ∷ [])
    ∙ ap (λ ys. all_given taken (take i hs) ++ ys)
    (all_given_cons taken (get_or hs i h) [] ∙ append-nil (own_given taken (get_or hs i h)))
    ∙ ap (λ g. all_given taken (take i hs) ++ own_given taken g) (sym is)

pub loop-holder-preserved : goal.loop-holder-preserved
loop-holder-preserved c = λ s.
    let taken = c.args.taken.now in
    let hs = c.args.holders.now in
    let i = c.loop-holder.holder-index in
    let h = c.holder-item.result in
    c.in_ok-put_ends.ensures s
    ∙ ap (λ m. max m (last_handed_over taken s (own_given taken h))) (c.loop-holder.invariant s)
    ∙ sym (last_handed_over_append taken s (all_given taken (take i hs)) (own_given taken h))
    ∙ ap (last_handed_over taken s) (sym (given_more taken hs i h (omega arith) c.holder-item.is))
