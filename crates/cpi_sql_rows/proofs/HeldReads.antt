-- What the statements show that read the rows of one holder, and the quotes of all.
use Rattle.std.proofs.Common.{◌≡◌, ◌≤◌, ℕ, pos, List, [], ◌∷◌, map, true, Option, Some, None}
use Rattle.std.proofs.Common.{IsSome, refl, sym, ap, subst, ◌∙◌}
use Rattle.std.specs.Cmp.{IsTotalOrder}
use Rattle.std.specs.List.{list_all}
use Rattle.std.specs.List.Sorted.{IsPermutation}
use Rattle.std.specs.declared.cmp.Ordering.{Ordering}
use Rattle.std.proofs.lemmas.List.Sorted.{IsPermutation-sym}
use Rattle.sqlite.specs.declared.types.Value.TheVariants.{Int}
use Rattle.sqlite.specs.Order.{Row, column}
use Rattle.sqlite.specs.State.{State, Shown}
use Rattle.sqlite.specs.Term.{Term, holds}
use Rattle.cpi_rows.specs.Keyed.{IsInOrder}
use Rattle.cpi_rows.specs.Held.{held_by, held_cmp, held_key}
use Rattle.cpi_rows.proofs.Held.{held_total}
use Rattle.cpi_survey.proofs.Latest.{quote_order}
use Rattle.cpi_survey.specs.Quote.{QuoteRow, quote_cmp, quote_key}
use Rattle.cpi_sql_rows.specs.HeldTables.{HeldTable, Holds, row_with_holder, release_in}
use Rattle.cpi_sql_rows.specs.Lists.{and_then, rows_in_key_order, month_at, quote_in, quotes_in, release_number}
use Rattle.cpi_sql_rows.specs.Lists.{shown_quote}
use Rattle.cpi_sql_rows.specs.Read.{AreRead}
use Rattle.cpi_sql_rows.specs.Shelf.{HasTables, AllStand, AllStandFor, year_in}
use Rattle.cpi_sql_rows.specs.Tables.{table_of_quotes_2}
use Rattle.cpi_sql_rows.specs.Texts.{all_quotes_text, is_first_parameter, is_release}
use Rattle.cpi_sql_rows.specs.WholeTables.{all_quotes_asked}
use Rattle.cpi_sql_rows.proofs.Listed.{listed_is}
use Rattle.cpi_sql_rows.proofs.Lists.{Shows, bound_is, equal_number, has_read, held_read}
use Rattle.cpi_sql_rows.proofs.Lists.{some_is}
use Rattle.cpi_sql_rows.proofs.Lists.{ranged_is, read_has, same_number, stands_read}
use Rattle.cpi_sql_rows.proofs.Reading.{equality, has_permuted}
use Rattle.cpi_sql_rows.proofs.ReleaseRows.{release_named, release_numbered, release_tested}
use Rattle.cpi_sql_rows.proofs.Whole.{shows}

-- ---- the rows of one holder

-- if the statement is given these parameters, the rows that pass are those of the holder with that number
pub record Names (holder : Row → Option ℕ) (terms : List Term) (params : Row) (number : ℕ) : Type 0 where
  pub own : (r : Row) (n : ℕ) → list_all (holds (params ∷ r ∷ [])) terms ≡ true → holder r ≡ Some n → n ≡ number
  pub all : (r : Row) → holder r ≡ Some number → list_all (holds (params ∷ r ∷ [])) terms ≡ true

module _ {X K : Type 0} {R : K → K → Ordering} (o : IsTotalOrder R) (key : X → K) (holder : Row → Option ℕ)
    {terms : List Term} (stands : Row → Option X) (t : HeldTable X terms) (law : Holds holder R key stands t)
    (params : Row) (number : ℕ) (names : Names holder terms params number) where
  same : (r : Row) (x : X) → list_all (holds (params ∷ r ∷ [])) terms ≡ true
      → stands (map (column r) t.shown) ≡ Some x → row_with_holder holder t.after r ≡ Some (number, x)
  same r x passes e =
      let it = bound_is (holder r) _ _ (sym (law.same r) ∙ e) in
      let is : holder r ≡ Some number = it.1 ∙ ap Some (names.own r it.0 passes it.1) in
      ap (λ n. and_then n (λ k. and_then (t.after r) (λ w. Some (k, w)))) is
      ∙ ap (λ a. and_then a (λ w. Some (number, w))) it.2

  back : (r : Row) (x : X) → row_with_holder holder t.after r ≡ Some (number, x)
      → (list_all (holds (params ∷ r ∷ [])) terms ≡ true) × (stands (map (column r) t.shown) ≡ Some x)
  back r x e =
      let one = bound_is (holder r) _ _ e in
      let two = bound_is (t.after r) _ _ one.2 in
      let pair : ◌≡◌ {A = ℕ × X} (one.0, two.0) (number, x) = some_is two.2 in
      let is : holder r ≡ Some number = one.1 ∙ ap (λ (p : ℕ × X). Some p.0) pair in (
        names.all r is,
        law.same r ∙ ap (λ n. and_then n (λ _. t.after r)) is ∙ two.1
            ∙ ap (λ (p : ℕ × X). Some p.1) pair,
      )

  -- a row of the holder stands for something, if the columns that are read do
  some : (r : Row) → holder r ≡ Some number → IsSome (stands (map (column r) t.shown))
      → IsSome (row_with_holder holder t.after r)
  some r e is =
      subst (λ n. IsSome {T = ℕ × X} (and_then n (λ k. and_then (t.after r) (λ x. Some (k, x))))) (sym e)
      (cases (t.after r) (subst (λ n. IsSome (and_then n (λ _. t.after r))) e (subst (λ a. IsSome a) (law.same r) is)))
    where
      cases : (a : Option X) → IsSome a → IsSome {T = ℕ × X} (and_then a (λ x. Some (number, x)))
      cases (Some x) is = refl
      cases None is = absurd (let no = is in cc)

  module _ (old new : State) (rows : List Row) (xs : List X) (has : HasTables old)
      (h : Shown t.text params old new rows) (read : AreRead stands rows xs) where
    seen : Shows (λ r. list_all (holds (params ∷ r ∷ [])) terms) (λ r. map (column r) t.shown)
        (old.now.trees t.tree) rows
    seen = shows t.text t.tree terms t.shown old new params rows (rw has.schema t.asks) h

    pub list_is : IsInOrder R key xs
        → xs ≡ held_by number (rows_in_key_order (held_cmp R) (held_key key) (row_with_holder holder t.after)
        (old.now.trees t.tree))
    list_is order =
        held_read o key (row_with_holder holder t.after) stands (λ r. map (column r) t.shown)
        (λ r. list_all (holds (params ∷ r ∷ [])) terms) number same back (old.now.trees t.tree) rows xs
        (law.keyed old.now.trees has.plans has.releases) seen read order

    pub list_stands : AllStandFor holder (row_with_holder holder t.after) number (old.now.trees t.tree)
    unfolding AllStandFor
    list_stands r k e =
        some r e (stands_read stands rows xs (map (column r) t.shown) read (seen.complete r k (names.all r e)))

-- ---- the parameters

-- the number of a year
pub names_year : (place c : ℕ) → Names (year_in place) (is_first_parameter place) (Int (pos c) ∷ []) c
names_year place c = record {
  own = λ r n passes e.
      same_number (column r place) n c (ranged_is 2000 2199 (column r place) n e)
      (sym (equality (column r place) (pos c)) ∙ passes);
  all = λ r e.
      equality (column r place) (pos c)
      ∙ equal_number (column r place) c (ranged_is 2000 2199 (column r place) c e);
}

-- the month of a release, and its revision
pub names_release : (n m v : ℕ) → month_at n ≡ Some m → 1 ≤ v → v ≤ 9
    → Names release_in is_release (Int (pos n) ∷ Int (pos v) ∷ []) (release_number m v)
names_release n m v is low high = record {
  own = λ r k passes e. release_numbered n m v is r k (sym (release_tested r n v) ∙ passes) e;
  all = λ r e. release_tested r n v ∙ release_named n m v is low high r e;
}

-- ---- the quotes of all collectors, in the order of their rows

module _ (old new : State) (rows : List Row) (read : List (ℕ × QuoteRow)) (has : HasTables old)
    (h : Shown all_quotes_text [] old new rows) (are : AreRead shown_quote rows read) where
  quotes_show : Shows (λ r. true) (λ r. map (column r) (1 ∷ 2 ∷ 3 ∷ 4 ∷ 5 ∷ 6 ∷ []))
      (old.now.trees table_of_quotes_2.tree) rows
  quotes_show =
      shows all_quotes_text table_of_quotes_2.tree [] (1 ∷ 2 ∷ 3 ∷ 4 ∷ 5 ∷ 6 ∷ []) old new [] rows
      (all_quotes_asked old.now.schema has.schema) h

  pub all_quotes_read : (xs : List (ℕ × QuoteRow)) → IsPermutation read xs
      → IsInOrder (held_cmp quote_cmp) (held_key quote_key) xs → xs ≡ quotes_in (old.now.trees table_of_quotes_2.tree)
  all_quotes_read xs moved order =
      listed_is (held_total quote_order) (held_key quote_key) quote_in (old.now.trees table_of_quotes_2.tree) xs
      has.quotes order
      (λ x k.
      let s = read_has shown_quote rows read x are (has_permuted read xs x moved k) in
      let r = quotes_show.sound s.0 s.1 in
      (r.0, r.1, ap shown_quote (sym r.3) ∙ s.2))
      (λ r x k e. has_permuted xs read x (IsPermutation-sym read xs moved)
      (has_read shown_quote rows read _ x are (quotes_show.complete r k refl) e))

  pub all_quotes_stand : AllStand quote_in (old.now.trees table_of_quotes_2.tree)
  unfolding AllStand
  all_quotes_stand r k = stands_read shown_quote rows read _ are (quotes_show.complete r k refl)
