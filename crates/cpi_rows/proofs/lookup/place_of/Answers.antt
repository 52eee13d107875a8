use Rattle.std.proofs.Common.{rules}
use Rattle.std.proofs.lemmas.List.Sorted.{answers_always}
use Rattle.cpi_rows.proofs.Places.{placed}
use Rattle.cpi_rows.proofs.lookup.place_of.Goals as goal

pub returns : goal.returns
returns g c =
    let facts = c.binary_search_by_key.ensures in
    let by_key = facts.position g.T.Keyed.key (answers_always _ _ _ (λ f a r f' called. search rules)) in
    placed g.met.T.Key.Ord.total g.T.Keyed.key c.args.rows.now c.requires c.args.key.now _ facts.bound by_key
