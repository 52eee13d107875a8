-- Rowids stay right when rows are taken out of a table, and others put in.
use Rattle.std.proofs.Common.{◌≡◌, ◌⊎◌, inl, inr, ℕ, ℤ, List, [], ◌∷◌, true, false, sym, ap, subst, ◌∙◌}
use Rattle.std.proofs.lemmas.Bool.{and_parts, both_ways, not-true}
use Rattle.std.specs.Cmp.{tied_back}
use Rattle.std.specs.Ordering.{is_eq}
use Rattle.std.specs.declared.cmp.Ordering.TheVariants.{Equal}
use Rattle.sqlite.specs.Edit.{put_all, have_rowids, is_taken, are_fresh, edit_of, without_all, Applies}
use Rattle.sqlite.specs.Order.{Row, value_cmp}
use Rattle.sqlite.specs.Rowids.{Rowids}
use Rattle.sqlite.specs.Schema.{Schema}
use Rattle.sqlite.specs.Table.{Table}
use Rattle.sqlite.specs.Tree.{Trees, has_rowid, rowid, put_row}
use Rattle.sqlite.specs.declared.types.Value.TheVariants.{Int}
use Rattle.sqlite_rules.proofs.ListLemmas.{some_from}
use Rattle.sqlite_rules.proofs.TableLemmas.{put_has}
use Rattle.sqlite_rules.specs.Lists.{Has}
use Rattle.sqlite_schema.specs.declared.schema.Keys.{Keys}
use Rattle.sqlite_trees.specs.View.{is_int}
use Rattle.sqlite_value.proofs.OrderLemmas.{value_cmp_total}
use Rattle.cpi_rows.proofs.Truth.{equal_of_is_eq}
use Rattle.cpi_sql_rows.proofs.Reading.{left_has}
use Rattle.cpi_sql_rows.specs.Shelf.{HasRowids}

-- the row that has a rowid is the only one
pub same_rowid : (rows : List Row) → HasRowids rows → (r s : Row) (i : ℤ) → Has rows r → Has rows s → rowid s ≡ Int i
    → has_rowid i r ≡ true → r ≡ s
unfolding HasRowids
same_rowid rows h r s i hr hs is hit =
    h.1 r s hr hs (subst (λ v. value_cmp (rowid r) v ≡ Equal) (sym is) (equal_of_is_eq _ hit))

pub rowids_left : (ids : List ℤ) (rows : List Row) → HasRowids rows → HasRowids (without_all rows ids)
unfolding HasRowids
rowids_left ids rows h = (
  λ r k. h.0 r (left_has ids rows r k).0,
  λ r s k l tie. h.1 r s (left_has ids rows r k).0 (left_has ids rows s l).0 tie,
)

one_shaped : (x : Row) (rows : List Row) → HasRowids rows → is_taken rows x ≡ false → is_int (rowid x) ≡ true
    → HasRowids (put_row x rows)
unfolding HasRowids
one_shaped x rows h free is = (
  λ r k. elim (put_has x rows r k) [ inl same ↦ ap (λ z. is_int (rowid z)) same ∙ is | inr was ↦ h.0 r was ],
  λ r s k l tie. both r s tie (put_has x rows r k) (put_has x rows s l),
)
  where
    apart : (r : Row) → Has rows r → value_cmp (rowid r) (rowid x) ≡ Equal → ⊥
    apart r was tie = both_ways _ free
        (some_from (λ z. is_eq (value_cmp (rowid z) (rowid x))) rows r was (ap is_eq tie))

    both : (r s : Row) → value_cmp (rowid r) (rowid s) ≡ Equal → (r ≡ x) ⊎ Has rows r → (s ≡ x) ⊎ Has rows s → r ≡ s
    both r s tie (inl a) (inl b) = a ∙ sym b
    both r s tie (inl a) (inr b) =
        absurd (apart s b (tied_back value_cmp_total (rowid x) (rowid s) (subst
        (λ z. value_cmp (rowid z) (rowid s) ≡ Equal) a tie)))
    both r s tie (inr a) (inl b) = absurd (apart r a (subst (λ z. value_cmp (rowid r) (rowid z) ≡ Equal) b tie))
    both r s tie (inr a) (inr b) = h.1 r s a b tie

pub put_shaped : (news rows : List Row) → HasRowids rows → have_rowids news ≡ true → are_fresh rows news ≡ true
    → HasRowids (put_all rows news)
put_shaped [] rows h e f = h
put_shaped (x ∷ news) rows h e f =
    let parts = and_parts _ _ e in
    let fresh = and_parts _ _ f in
    put_shaped news (put_row x rows) (one_shaped x rows h (not-true _ fresh.0) parts.0) parts.1 fresh.1

pub shaped_after : (schema : Schema) (keys : Keys) (it : Table) (db next : Trees) (gone : List ℤ) (way : Rowids)
    (from : ℕ) (sources : List Row) → HasRowids (db it.tree)
    → Applies schema keys db (edit_of db it gone way from sources) next → HasRowids (next it.tree)
shaped_after schema keys it db next gone way from sources h applied =
    subst HasRowids (sym applied.rows) (put_shaped (edit_of db it gone way from sources).news
    (without_all (db it.tree) gone) (rowids_left gone (db it.tree) h) applied.keyed applied.fresh)
