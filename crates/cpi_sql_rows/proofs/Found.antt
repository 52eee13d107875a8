-- What is known of the tables that were found.
use Rattle.std.proofs.Common.{◌≡◌, inl, inr, true, List, [], ◌∷◌, Option, IsSome, refl, sym, subst, ◌∙◌}
use Rattle.std.specs.declared.cmp.Ordering.{Ordering}
use Rattle.std.specs.declared.cmp.Ordering.TheVariants.{Less, Equal}
use Rattle.std.specs.Ordering.{nat_cmp}
use Rattle.std.specs.Cmp.{IsTotalOrder, tied_back}
use Rattle.std.proofs.lemmas.Map.Keys.{sorted_tail}
use Rattle.sqlite.specs.Order.{Row}
use Rattle.sqlite.specs.Tree.{Trees}
use Rattle.sqlite_catalog.specs.Listing.{IsSound}
use Rattle.sqlite_schema.specs.declared.schema.Constraint.TheVariants.{Unique}
use Rattle.sqlite_rules.specs.Lists.{Has}
use Rattle.cpi_rows.specs.Keyed.{IsInOrder}
use Rattle.cpi_rows.specs.Held.{held_cmp, held_key}
use Rattle.cpi_store.specs.declared.given.Given.{Given}
use Rattle.cpi_survey.specs.Quote.{quote_cmp, quote_key}
use Rattle.cpi_sql_rows.specs.Tables.{office_schema, table_of_assignments_2, table_of_quotes_2}
use Rattle.cpi_sql_rows.specs.Read.{AreRead}
use Rattle.cpi_sql_rows.specs.Lists.{assignment_in_row, quote_in}
use Rattle.cpi_sql_rows.specs.Shelf.{IsKeyed, IsWhole, AllStand, HasRowids}
use Rattle.cpi_sql_rows.proofs.Listed.{head_in}
use Rattle.cpi_sql_rows.proofs.Lists.{Shows, has_read, stands_read}
use Rattle.cpi_sql_rows.proofs.GivenRows.{slot_places, slot_tells, slots_unique}
use Rattle.cpi_sql_rows.proofs.KeyColumns.{keyed}
use Rattle.cpi_sql_rows.proofs.QuoteRows.{quote_places, quotes_unique}
use Rattle.cpi_sql_rows.proofs.QuoteOffice.{quote_tells}

-- ---- a table that was read whole

module _ {X K : Type 0} {R : K → K → Ordering} (o : IsTotalOrder R) (key : X → K) where
  never_level : (x y : X) → R (key x) (key y) ≡ Less → R (key x) (key y) ≡ Equal → ⊥
  never_level x y less level = let no : Less ≡ Equal = sym less ∙ level in cc

  pub in_order_same : (xs : List X) (x y : X) → IsInOrder R key xs → Has xs x → Has xs y → R (key x) (key y) ≡ Equal
      → x ≡ y
  in_order_same [] x y up h k e = absurd h
  in_order_same (z ∷ xs) x y up (inl a) (inl b) e = a ∙ sym b
  in_order_same (z ∷ xs) x y up (inl a) (inr b) e =
      absurd (never_level z y (head_in o key z xs y up b) (subst (λ w. R (key w) (key y) ≡ Equal) a e))
  in_order_same (z ∷ xs) x y up (inr a) (inl b) e =
      absurd (never_level z x (head_in o key z xs x up a)
      (tied_back o (key x) (key z) (subst (λ w. R (key x) (key w) ≡ Equal) b e)))
  in_order_same (z ∷ xs) x y up (inr a) (inr b) e =
      in_order_same xs x y (sorted_tail (λ a b. R (key a) (key b)) z xs up) a b e

  keyed_read : (entry stands : Row → Option X) (shape : Row → Row) (same : (r : Row)
      → stands (shape r) ≡ entry r) (table rows : List Row) (xs : List X)
      → Shows (λ r. true) shape table rows → AreRead stands rows xs → IsInOrder R key xs → IsKeyed R key entry table
  unfolding IsKeyed
  keyed_read entry stands shape same table rows xs shows read order r s x y hr hs er es tie =
      in_order_same xs x y order
      (has_read stands rows xs (shape r) x read (shows.complete r hr refl) (same r ∙ er))
      (has_read stands rows xs (shape s) y read (shows.complete s hs refl) (same s ∙ es)) tie

  pub whole_read : (entry stands : Row → Option X) (shape : Row → Row) (same : (r : Row)
      → stands (shape r) ≡ entry r) (table rows : List Row) (xs : List X)
      → Shows (λ r. true) shape table rows → AreRead stands rows xs → IsInOrder R key xs → IsWhole R key entry table
  unfolding AllStand
  whole_read entry stands shape same table rows xs shows read order = record {
    keyed = keyed_read entry stands shape same table rows xs shows read order;
    stand = λ r h. subst (λ (o : Option X). IsSome o) (same r)
        (stands_read stands rows xs (shape r) read (shows.complete r h refl));
  }

pub none_whole : {X K : Type 0} (R : K → K → Ordering) (key : X → K) (entry : Row → Option X) → IsWhole R key entry []
unfolding IsKeyed AllStand
none_whole R key entry = record { keyed = λ r s x y hr hs er es tie. absurd hr; stand = λ r h. absurd h }

-- ---- tables of the survey, whose keys are UNIQUE

module _ (db : Trees) (sound : IsSound office_schema db) where
  pub assignments_keyed : HasRowids (db 22) → IsKeyed (held_cmp nat_cmp)
      (held_key (λ g. g.assignment.slot)) assignment_in_row (db 22)
  assignments_keyed = keyed (held_cmp nat_cmp) (held_key (λ (g : Given). g.assignment.slot)) assignment_in_row
      slot_places
      slot_tells table_of_assignments_2 slots_unique db (sound.obeys.rules Unique)

  pub quotes_keyed : HasRowids (db 24) → IsKeyed (held_cmp quote_cmp) (held_key quote_key) quote_in (db 24)
  quotes_keyed = keyed (held_cmp quote_cmp) (held_key quote_key) quote_in quote_places quote_tells table_of_quotes_2
      quotes_unique
      db (sound.obeys.rules Unique)
