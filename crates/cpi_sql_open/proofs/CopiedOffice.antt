-- What the copies of the rows of schema 1 are, and what they stand for.
use Rattle.std.proofs.Common.{◌≡◌, pos, true, List, [], ◌∷◌, drop, Option, refl, sym, ap, ◌∙◌}
use Rattle.std.proofs.lemmas.List.Sorted.{IsPermutation-sym}
use Rattle.std.specs.Cmp.{IsTotalOrder}
use Rattle.std.specs.declared.cmp.Ordering.{Ordering}
use Rattle.sqlite.specs.declared.types.Value.{Value}
use Rattle.sqlite.specs.declared.types.Value.TheVariants.{Null, Int}
use Rattle.sqlite.specs.Order.{Row, column}
use Rattle.sqlite.specs.Cast.{cast}
use Rattle.sqlite.specs.Kind.TheVariants as kind
use Rattle.sqlite_trees.specs.View.{is_int}
use Rattle.sqlite_rules.specs.Lists.{Has}
use Rattle.sqlite_rules.proofs.ProbeLemmas.{has_mapped, mapped_has}
use Rattle.cpi_sql_rows.specs.Copies.{AreCopies, contents}
use Rattle.cpi_sql_rows.specs.Lists.{rows_in_key_order, assignment_in_row, quote_in, header_in, frozen_in}
use Rattle.cpi_sql_rows.specs.Lists.{carried_in_row, level_in_row}
use Rattle.cpi_sql_rows.specs.Shelf.{IsKeyed}
use Rattle.cpi_sql_rows.proofs.Listed.{listed_is, listed_in_order, listed_stands, stands_listed}
use Rattle.cpi_sql_rows.proofs.Reading.{has_permuted}
use Rattle.cpi_sql_rows.proofs.Writing.{cast_int, cast_null}
use Rattle.cpi_sql_open.proofs.CopiedRows.{Fits}
use Rattle.cpi_sql_open.proofs.Moves.{assignments, quotes, releases, frozen, carried, levels}
use Rattle.cpi_sql_open.proofs.Texts.{◌▸◌}

-- ---- the new tables take the copies as they are

pub assignments_fit : Fits assignments
assignments_fit r id s =
    s.0 ▸ s.1.0 ▸ s.1.1.0 ▸ s.1.1.1.0 ▸ s.1.1.1.1.0 ▸ s.1.1.1.1.1.0 ▸ s.0 ▸ s.1.0 ▸ cast_null ▸ tt

pub quotes_fit : Fits quotes
quotes_fit r id s = s

number_cast : (v : Value) → is_int v ≡ true → cast kind.Integer v ≡ v
number_cast (Int n) e = cast_int n
number_cast v e = cc

pub releases_fit : Fits releases
releases_fit r id s = number_cast (column r 0) id ▸ cast_int (pos 1) ▸ s.1.0 ▸ s.1.1.0 ▸ s.1.1.1.0 ▸ tt

pub frozen_fit : Fits frozen
frozen_fit r id s = s.0 ▸ cast_int (pos 1) ▸ s.1

pub carried_fit : Fits carried
carried_fit r id s = s.0 ▸ cast_int (pos 1) ▸ s.1

pub levels_fit : Fits levels
levels_fit r id s = s.0 ▸ cast_int (pos 1) ▸ s.1

-- ---- what a row stands for, whatever its rowid

abbrev IsOfContents : {X : Type 0} → (Row → Option X) → Type 0
IsOfContents entry = (r : Row) → entry r ≡ entry (Null ∷ drop 1 r)

pub assignment_contents : IsOfContents assignment_in_row
assignment_contents [] = refl
assignment_contents (v ∷ r) = refl

pub quote_contents : IsOfContents quote_in
quote_contents [] = refl
quote_contents (v ∷ r) = refl

pub header_contents : IsOfContents header_in
header_contents [] = refl
header_contents (v ∷ r) = refl

pub frozen_contents : IsOfContents frozen_in
frozen_contents [] = refl
frozen_contents (v ∷ r) = refl

pub carried_contents : IsOfContents carried_in_row
carried_contents [] = refl
carried_contents (v ∷ r) = refl

pub level_contents : IsOfContents level_in_row
level_contents [] = refl
level_contents (v ∷ r) = refl

-- ---- the lists that the copies make

module _ {X K : Type 0} {R : K → K → Ordering} (o : IsTotalOrder R) (key : X → K) (entry : Row → Option X)
    (is : IsOfContents entry) (copy : Row → Row) (old new : List Row) (copies : AreCopies copy old new)
    (keyed : IsKeyed R key entry new) where
  abbrev first : Row → Option X
  first r = entry (copy r)

  alike : (r s : Row) → contents r ≡ contents s → entry r ≡ entry s
  alike r s same = is r ∙ ap (λ vs. entry (Null ∷ vs)) same ∙ sym (is s)

  sound : (s : Row) → Has new s → (r : Row) × Has old r × (entry s ≡ first r)
  sound s h =
      let from = has_mapped (λ r. contents (copy r)) old (contents s)
      (has_permuted _ _ (contents s) copies (mapped_has contents new s h)) in
      (from.0, from.1, alike s (copy from.0) from.2)

  complete : (r : Row) → Has old r → (s : Row) × Has new s × (entry s ≡ first r)
  complete r h =
      let from = has_mapped contents new (contents (copy r)) (has_permuted _ _ (contents (copy r))
      (IsPermutation-sym _ _ copies) (mapped_has (λ r. contents (copy r)) old r h)) in
      (from.0, from.1, sym (alike (copy r) from.0 from.2))

  first_keyed : IsKeyed R key first old
  unfolding IsKeyed
  first_keyed r q x y hr hq er eq same =
      let a = complete r hr in
      let b = complete q hq in
      keyed a.0 b.0 x y a.1 b.1 (a.2 ∙ er) (b.2 ∙ eq) same

  -- the new rows make the list that the old ones did
  pub copied_list : rows_in_key_order R key entry new ≡ rows_in_key_order R key first old
  copied_list = sym (listed_is o key entry new (rows_in_key_order R key first old) keyed
      (listed_in_order o key first old)
      (λ x h. let it = listed_stands o key first old x h in
      let there = complete it.0 it.1 in (there.0, there.1, there.2 ∙ it.2))
      (λ r x h e. let it = sound r h in stands_listed o key first old x it.0 first_keyed it.1 (sym it.2 ∙ e)))
