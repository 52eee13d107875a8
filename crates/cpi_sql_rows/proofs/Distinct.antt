-- The rowids that a query shows of a table, if they rise: each row has its own.
use Rattle.std.proofs.Common.{◌≡◌, ◌≢◌, inl, inr, ℕ, true, List, [], ◌∷◌}
use Rattle.std.proofs.Common.{map, Some, Option, refl, sym, ap, subst, ◌∙◌}
use Rattle.std.specs.List.{flat_map}
use Rattle.std.specs.List.Sorted.{IsPermutation}
use Rattle.std.specs.declared.cmp.Ordering.TheVariants.{Less, Equal}
use Rattle.std.specs.Ordering.{int_cmp, is_eq}
use Rattle.std.specs.Cmp.{tied_itself}
use Rattle.std.proofs.lemmas.Cmp.{int_cmp_total}
use Rattle.std.proofs.lemmas.List.Sorted.{IsPermutation-refl, IsPermutation-trans, IsPermutation-sym}
use Rattle.std.proofs.lemmas.List.Sorted.{IsPermutation-cons, IsPermutation-map, IsPermutation-append_left}
use Rattle.std.proofs.lemmas.List.Sorted.{IsPermutation-append_comm}
use Rattle.sqlite.specs.declared.types.Value.{Value}
use Rattle.sqlite.specs.declared.types.Value.TheVariants.{Null, Int}
use Rattle.sqlite.specs.Order.{Row, column}
use Rattle.sqlite.specs.Tree.{Trees, rowid}
use Rattle.sqlite_trees.specs.Tree.{IsAscending}
use Rattle.sqlite_trees.specs.View.{is_int}
use Rattle.sqlite_trees.proofs.ListLemmas.{along_permutation, all-permutation, map-map}
use Rattle.sqlite.specs.Program.{overlay}
use Rattle.sqlite.specs.Term.{Term, eval_all}
use Rattle.sqlite.specs.Query.{IsAnswer, Output, output}
use Rattle.sqlite_value.specs.declared.keys.Key.{Key}
use Rattle.sqlite.specs.State.{State, Shown}
use Rattle.sqlite.proofs.Callers.{reads_as}
use Rattle.sqlite_rules.specs.Lists.{Has}
use Rattle.sqlite_rules.proofs.ListLemmas.{all_has, all_from}
use Rattle.sqlite_rules.proofs.ProbeLemmas.{has_mapped, mapped_has}
use Rattle.cpi_rows.specs.Keyed.{IsInOrder}
use Rattle.cpi_sql_rows.specs.declared.rowids.Rowid.{Rowid}
use Rattle.cpi_sql_rows.specs.Texts.{select, whole_query, columns, by_columns}
use Rattle.cpi_sql_rows.specs.Read.{AreRead}
use Rattle.cpi_sql_rows.specs.Finding.{AsksRowids, rowid_from}
use Rattle.cpi_sql_rows.specs.Shelf.{HasRowids}
use Rattle.cpi_sql_rows.proofs.KeyColumns.{same_int}
use Rattle.cpi_sql_rows.proofs.Listed.{head_in}
use Rattle.cpi_sql_rows.proofs.Lists.{stands_as}
use Rattle.cpi_sql_rows.proofs.Reading.{has_permuted}
use Rattle.std.proofs.lemmas.Map.Keys.{sorted_tail}

-- no two places have one element
abbrev pub AreApart : {X : Type 0} → List X → Type 0
AreApart = IsAscending (λ a b. a ≢ b)

module _ {X : Type 0} where
  abbrev Carries : List X → List X → Type 0
  Carries xs ys = IsPermutation xs ys × (AreApart xs → AreApart ys)

  carries : (xs ys : List X) → IsPermutation xs ys → Carries xs ys
  carries = along_permutation Carries
      (λ xs. (IsPermutation-refl xs, λ up. up))
      (λ x xs ys h. (IsPermutation-cons x xs ys h.0, λ up. (all-permutation (λ y. x ≢ y) xs ys h.0 up.0, h.1 up.1)))
      (λ x y xs. (
        IsPermutation-append_left xs (x ∷ y ∷ []) (y ∷ x ∷ [])
            (IsPermutation-append_comm (x ∷ []) (y ∷ [])),
        λ up. ((λ e. up.0.0 (sym e), up.1.0), (up.0.1, up.1.1)),
      ))
      (λ xs ys zs h k. (IsPermutation-trans xs ys zs h.0 k.0, λ up. k.1 (h.1 up)))

  pub apart_permuted : (xs ys : List X) → IsPermutation xs ys → AreApart xs → AreApart ys
  apart_permuted xs ys h = (carries xs ys h).1

  pub apart_same : {Y : Type 0} (f : Y → X) (ys : List Y) → AreApart (map f ys) → (r s : Y) → Has ys r → Has ys s
      → f r ≡ f s → r ≡ s
  apart_same f [] up r s h k e = absurd h
  apart_same f (y ∷ ys) up r s (inl a) (inl b) e = a ∙ sym b
  apart_same f (y ∷ ys) up r s (inl a) (inr b) e =
      absurd (all_has _ (map f ys) (f s) up.0 (mapped_has f ys s b) (sym (ap f a) ∙ e))
  apart_same f (y ∷ ys) up r s (inr a) (inl b) e =
      absurd (all_has _ (map f ys) (f r) up.0 (mapped_has f ys r a) (sym (ap f b) ∙ sym e))
  apart_same f (y ∷ ys) up r s (inr a) (inr b) e = apart_same f ys up.1 r s a b e

-- ---- an answer to a query with no test, on one table

each_one : {X Y : Type 0} (f : X → Y) (xs : List X) → flat_map (λ x. f x ∷ []) xs ≡ map f xs
each_one f [] = refl
each_one f (x ∷ xs) = ap (λ l. f x ∷ l) (each_one f xs)

pub shown_all : (tree : ℕ) (project : List Term) (order : List (Term
    × Key)) (db : Trees) (params : Row) (rows : List Row) → IsAnswer (whole_query tree [] project order) db params rows
    → IsPermutation (map (λ r. eval_all project (params ∷ r ∷ [])) (db tree)) rows
shown_all tree project order db params rows answer =
    let q = whole_query tree [] project order in
    let env = λ (r : Row). params ∷ r ∷ [] in
    let kept : answer.kept ≡ map (output q) (map env (db tree)) = answer.distinct
    ∙ ap (map (output q)) (answer.grouped ∙ each_one env (db tree)) in
    let all : map (λ (o : Output). o.1) answer.kept ≡ map (λ r. eval_all project (params ∷ r ∷ [])) (db tree)
    = ap (map (λ (o : Output). o.1)) kept ∙ map-map (λ (o : Output). o.1) (output q) (map env (db tree))
    ∙ map-map (λ e. (output q e).1) env (db tree) in
    subst (λ l. IsPermutation l rows) all (subst (IsPermutation (map (λ (o : Output). o.1) answer.kept))
    (sym answer.shown) (IsPermutation-map (λ (o : Output). o.1) answer.kept answer.ordered answer.same))

-- ---- the rowids

rowid_int : (v : Value) (i : Rowid) → rowid_from v ≡ Some i → is_int v ≡ true
rowid_int (Int n) i e = refl
rowid_int _ i e = cc

risen : (ids : List Rowid) → IsInOrder int_cmp (λ i. i.number) ids → AreApart (map Some ids)
risen [] up = tt
risen (i ∷ ids) up = (
  all_from (λ o. Some i ≢ o) (map Some ids) (λ o h e.
      let it = has_mapped Some ids o h in
      let same : ◌≡◌ {A = Option Rowid} (Some i) (Some it.0) = e ∙ it.2 in
      let one : i ≡ it.0 = cc in
      let less = head_in int_cmp_total (λ (r : Rowid). r.number) i ids it.0 up it.1 in
      let level = tied_itself int_cmp_total i.number in
      absurd (let no : Equal ≡ Less = sym level
      ∙ subst (λ (r : Rowid). int_cmp i.number r.number ≡ Less) (sym one) less in cc)),
  risen ids (sorted_tail (λ (a b : Rowid). int_cmp a.number b.number) i ids up),
)

pub rowids_read : (table rows : List Row) (ids : List Rowid) → IsPermutation (map (λ r. column r 0 ∷ []) table) rows
    → AreRead (λ x. rowid_from (column x 0)) rows ids → IsInOrder int_cmp (λ i. i.number) ids → HasRowids table
unfolding HasRowids
rowids_read table rows ids same read order =
    let entry = λ (x : Row). rowid_from (column x 0) in
    let shape = λ (r : Row). column r 0 ∷ [] in
    let back : IsPermutation rows (map shape table) = IsPermutation-sym _ _ same in
    let up : AreApart (map entry rows) = subst AreApart (sym read) (risen ids order) in
    let apart : AreApart (map (λ r. rowid_from (rowid r)) table) =
    subst AreApart (map-map entry shape table) (apart_permuted (map entry rows) (map entry (map shape table))
    (IsPermutation-map entry rows (map shape table) back) up) in
    let is : (r : Row) → Has table r → is_int (rowid r) ≡ true = λ r h.
    let it = stands_as entry rows ids (shape r) read
    (has_permuted rows (map shape table) (shape r) back (mapped_has shape table r h)) in
    rowid_int (rowid r) it.0 it.1 in (
      is,
      λ r s h k tie. apart_same (λ (r : Row). rowid_from (rowid r)) table apart r s h k (ap rowid_from
          (same_int (rowid r) (rowid s) (is r h) (is s k) (ap is_eq tie))),
    )

pub rowids_rise : (text : List ℕ) (tree : ℕ) (old new : State) (rows : List Row) (ids : List Rowid)
    → AsksRowids old.now.schema text tree → Shown text [] old new rows
    → AreRead (λ x. rowid_from (column x 0)) rows ids → IsInOrder int_cmp (λ i. i.number) ids
    → HasRowids (overlay old.now.trees [] tree)
rowids_rise text tree old new rows ids asks shown read order =
    let r = reads_as text [] old new old.now.schema refl (select tree [] (0 ∷ []) (0 ∷ []) asks.names) asks.command
    asks.plain asks.listing rows shown in
    rowids_read (overlay old.now.trees [] tree) rows ids (shown_all tree (columns (0 ∷ [])) (by_columns (0 ∷ []))
    (overlay old.now.trees []) [] rows (r.answer Null)) read order
