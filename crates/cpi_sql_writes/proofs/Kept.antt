-- The rows that a statement leaves: an INSERT all, and one that puts a row over another all but that one.
use Rattle.std.proofs.Common.{◌≡◌, inl, inr, ℕ, pos, true, List, [], ◌∷◌, Some, sym, ap, ◌∙◌}
use Rattle.std.proofs.lemmas.Bool.{and_parts, cases_Bool}
use Rattle.sqlite.specs.Order.{Row, column}
use Rattle.sqlite.specs.declared.types.Value.{Value}
use Rattle.sqlite.specs.declared.types.Value.TheVariants.{Null, Int}
use Rattle.sqlite_rules.specs.Lists.{Has}
use Rattle.sqlite_schema.specs.Rules.{agree}
use Rattle.sqlite_value.specs.Keys.{first_key, plain}
use Rattle.cpi_store.specs.declared.registration.Registration.{Registration}
use Rattle.cpi_survey.specs.Quote.{QuoteRow}
use Rattle.cpi_sql_rows.specs.Lists.{quote_in}
use Rattle.cpi_sql_rows.specs.Shelf.{equals}
use Rattle.cpi_sql_rows.proofs.KeyColumns.{equal_exact, is_exact}
use Rattle.cpi_sql_rows.proofs.QuoteOffice.{numbers_of}
use Rattle.cpi_sql_rows.proofs.QuoteRows.{quote_places}
use Rattle.cpi_sql_rows.proofs.Upserts.{PutsOver, has_key}
use Rattle.cpi_sql_writes.specs.Rest.{IsNumber, IsOfQuote, KeepsAll, KeepsBut}

-- a row that is added leaves the others
pub all_kept : (old new : List Row) → ((r : Row) → Has old r → Has new r) → KeepsAll old new
unfolding KeepsAll
all_kept old new kept = kept

-- a row that agrees with a number has it
pub agreed_number : (p : ℕ) (ps : List ℕ) (r s : Row) (n : ℕ) → column s p ≡ Int (pos n)
    → agree plain (p ∷ ps) r (p ∷ ps) s ≡ true → IsNumber n (column r p) × (agree plain ps r ps s ≡ true)
unfolding first_key
agreed_number p ps r s n is h =
    let both = and_parts _ _ h in (
      ap (equals (column r p)) (sym is) ∙ sym (equal_exact (column r p) (column s p) (ap is_exact is)) ∙ both.0,
      both.1,
    )

-- a row that is put over another leaves those that haven't its key
pub over_kept : (places : List ℕ) (first : Value) (columns : Row) (old new : List Row)
    → PutsOver places first columns old new → (Of : Row → Type 0)
    → ((r : Row) → has_key places first columns r ≡ true → Of r) → KeepsBut Of old new
unfolding KeepsBut
over_kept places first columns old new p Of of r h = elim (cases_Bool (has_key places first columns r)) [
  | inl hit ↦ inr (of r hit)
  | inr miss ↦ inl (p.kept r h miss)
]

-- a quote leaves those of other slots and months
pub quote_kept : (b : Registration) (q : QuoteRow) (columns : Row)
    → ((id : Value) → quote_in (id ∷ columns) ≡ Some (b.number, q))
    → (old new : List Row) → PutsOver quote_places Null columns old new
    → KeepsBut (IsOfQuote b.number q.slot q.month) old new
quote_kept b q columns is old new p =
    over_kept quote_places Null columns old new p (IsOfQuote b.number q.slot q.month) (λ r hit.
    let row = Null ∷ columns in
    let n = numbers_of row b.number q (is Null) in
    let one = agreed_number 1 (2 ∷ 3 ∷ []) r row b.number n.collector hit in
    let two = agreed_number 2 (3 ∷ []) r row q.slot n.slot one.1 in
    let three = agreed_number 3 [] r row n.month.number n.month.column two.1 in
    ((one.0, two.0), (n.month.number, n.month.is, three.0)))
