use Rattle.std.proofs.Common.{◌≡◌, ap, ◌∙◌, ◌++◌, ◌∷◌, [], sym, rules}
use Rattle.std.proofs.lemmas.List.{append_assoc}
use Rattle.cpi_rows.specs.Keyed.{with_row}
use Rattle.cpi_sql_rows.proofs.Keyed.{put_next}
use Rattle.cpi_sql_rows.proofs.stored.by_key.Goals as goal

pub rows-preserved : goal.rows-preserved
rows-preserved g c =
    let next : c.rows.row-iterator.rest.items ≡ c.in-Some.row ∷ c.next.new.self.rest.items = search rules in
    let whole : c.rows.yielded ++ c.in-Some.row ∷ c.next.new.self.rest.items ≡ c.args.rows.items =
    ap (λ ys. c.rows.yielded ++ ys) (sym next) ∙ c.rows.invariant.rest in
    let was : c.put.new.self ≡ with_row g.T.Key.Ord.cmp g.T.Keyed.key c.in-Some.row c.rows.found = search rules in
    record {
      found = was ∙ ap (λ ys. with_row g.T.Key.Ord.cmp g.T.Keyed.key c.in-Some.row ys) c.rows.invariant.found
          ∙ put_next g.met.T.Key.Ord.total g.T.Keyed.key c.in-Some.row c.rows.yielded c.next.new.self.rest.items
          c.args.rows.items whole c.requires;
      rest = append_assoc c.rows.yielded (c.in-Some.row ∷ []) c.next.new.self.rest.items ∙ whole;
    }
