use Rattle.std.proofs.Common.{rules, ℕ}
use Rattle.std.proofs.lemmas.List.Sorted.{answers_always}
use Rattle.cpi_index.specs.Frozen.{Frozen}
use Rattle.cpi_store.proofs.BySeries.{sorted_is_by_series}
use Rattle.cpi_store.proofs.sorting.sort_by_series.Goals as goal

pub returns : goal.returns
returns c = λ whole.
    let key : Frozen → ℕ × ℕ = λ f. (f.series.collector, f.series.slot) in
    let sorted = c.in_ok-sort_by_key.ensures.sorted key (answers_always _ _ _ (λ f a r f' called. search rules)) in
    sorted_is_by_series c.args.quotes.now.items c.sort_by_key.new.self.items c.in_ok-sort_by_key.ensures.permutation
    sorted whole
