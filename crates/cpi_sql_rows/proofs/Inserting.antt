-- One row that goes into a table where no row has its key.
use Rattle.std.proofs.Common.{◌≡◌, ◌≢◌, inl, inr, List, [], ◌∷◌, Bool, true, false, Some, None}
use Rattle.std.proofs.Common.{Option, refl, sym, ap, subst, ◌∙◌}
use Rattle.std.specs.Prelude.{if◌then◌else◌}
use Rattle.std.specs.declared.cmp.Ordering.{Ordering}
use Rattle.std.specs.declared.cmp.Ordering.TheVariants.{Equal}
use Rattle.std.specs.Ordering.{is_eq}
use Rattle.std.specs.Cmp.{IsTotalOrder}
use Rattle.sqlite.specs.Order.{Row}
use Rattle.sqlite.specs.Tree.{put_row}
use Rattle.sqlite_rules.specs.Lists.{Has}
use Rattle.sqlite_rules.proofs.TableLemmas.{has_put as has_put_row, put_has as put_row_has}
use Rattle.cpi_rows.specs.Keyed.{row_at}
use Rattle.cpi_sql_rows.specs.Lists.{rows_in_key_order}
use Rattle.cpi_sql_rows.specs.Shelf.{IsKeyed}
use Rattle.cpi_sql_rows.proofs.Listed.{PutsRow, stands_listed, takes_one}

pub none_apart : {X K : Type 0} (R : K → K → Ordering) (key : X → K) (k : K) (xs : List X) (x : X)
    → row_at R key k xs ≡ None → Has xs x → R (key x) k ≢ Equal
none_apart R key k [] x none h e = absurd h
none_apart {X} R key k (y ∷ xs) x none h e = at (is_eq (R (key y) k)) refl none h (λ n l. none_apart R key k xs x n l e)
  where
    at : (b : Bool) → is_eq (R (key y) k) ≡ b → (if b then Some y else row_at R key k xs) ≡ None → Has (y ∷ xs) x
        → (row_at R key k xs ≡ None → Has xs x → ⊥) → ⊥
    at true f none h later = absurd (let n : ◌≡◌ {A = Option X} (Some y) None = none in cc)
    at false f none (inl is) later =
        absurd (let n : true ≡ false = sym (ap is_eq (subst (λ z. R (key z) k ≡ Equal) is e)) ∙ f in cc)
    at false f none (inr more) later = later none more

module _ {X K : Type 0} {R : K → K → Ordering} (o : IsTotalOrder R) (key : X → K) (entry : Row → Option X) where
  pub inserted : (x : X) (old new : List Row) (row : Row) → entry row ≡ Some x → new ≡ put_row row old
      → ((r : Row) → Has old r → Has new r) → IsKeyed R key entry old
      → ((y : X) → Has (rows_in_key_order R key entry old) y → R (key y) (key x) ≢ Equal) → PutsRow o key entry
      x old new
  inserted x old new row is rows keeps keyed apart = record {
    row = row;
    there = subst (λ l. Has l row) (sym rows) (has_put_row row old);
    is = is;
    others = λ r y h e. elim (put_row_has row old r (subst (λ l. Has l r) rows h)) [
      | inl same ↦ inl same
      | inr was ↦ inr (was, apart y (stands_listed o key entry old y r keyed was e))
    ];
    kept = λ r y h e other. keeps r h;
    takes = takes_one entry x row old new is (λ r h. put_row_has row old r (subst (λ l. Has l r) rows h));
  }
