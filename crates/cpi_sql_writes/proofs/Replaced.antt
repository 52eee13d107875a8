-- The rows of one holder put in place of the holder's former rows.
use Rattle.std.proofs.Common.{◌≡◌, ◌≢◌, ◌⊎◌, inl, inr, ℕ, List, Some, Option}
use Rattle.std.proofs.Common.{refl, sym, ap, ◌∙◌}
use Rattle.std.specs.declared.cmp.Ordering.{Ordering}
use Rattle.std.specs.declared.cmp.Ordering.TheVariants.{Equal}
use Rattle.std.specs.Cmp.{IsTotalOrder}
use Rattle.sqlite.specs.Order.{Row}
use Rattle.sqlite_rules.specs.Lists.{Has}
use Rattle.cpi_rows.specs.Keyed.{IsInOrder}
use Rattle.cpi_rows.specs.Held.{held_by, held_cmp, held_key}
use Rattle.cpi_sql_rows.specs.Lists.{rows_in_key_order}
use Rattle.cpi_sql_rows.specs.Shelf.{HasRowids, IsKeyed, Takes}
use Rattle.cpi_sql_rows.proofs.Frame.{WritesIds}
use Rattle.cpi_sql_rows.proofs.Found.{in_order_same}
use Rattle.cpi_sql_rows.proofs.Listed.{same_in_order, listed_in_order, listed_stands, stands_listed}
use Rattle.cpi_sql_rows.proofs.Lists.{held_total, has_held, held_has, held_in_order, held_tied}

module _ {X K : Type 0} {R : K → K → Ordering} (o : IsTotalOrder R) (key : X → K) where
  module _ (entry : Row → Option (ℕ × X)) where
    -- the rows of the holder stand for the list, and those of others are as they were
    pub record ReplacesRows (holder : ℕ) (xs : List X) (old new : List Row) : Type 0 where
      pub others : (r : Row) (n : ℕ) (x : X) → Has new r → entry r ≡ Some (n, x) → ((n ≡ holder) × Has xs x)
          ⊎ ((n ≢ holder) × Has old r)
      pub kept : (r : Row) (n : ℕ) (x : X) → Has old r → entry r ≡ Some (n, x) → n ≢ holder → Has new r
      pub there : (x : X) → Has xs x → (r : Row) × Has new r × (entry r ≡ Some (holder, x))
      pub takes : Takes entry old new

    abbrev all : List Row → List (ℕ × X)
    all rows = rows_in_key_order (held_cmp R) (held_key key) entry rows

    abbrev Keyed : List Row → Type 0
    Keyed rows = IsKeyed (held_cmp R) (held_key key) entry rows

    -- so the holder has the list, and every other what it had
    pub record Replaced (holder : ℕ) (xs : List X) (old new : List Row) : Type 0 where
      pub here : held_by holder (all new) ≡ xs
      pub there : (n : ℕ) → n ≢ holder → held_by n (all new) ≡ held_by n (all old)
      pub written : HasRowids new → WritesIds (held_cmp R) (held_key key) entry old new

    -- what is held is what rows stand for
    standing : (n : ℕ) (x : X) (rows : List Row) → Has (held_by n (all rows)) x
        → (r : Row) × Has rows r × (entry r ≡ Some (n, x))
    standing n x rows h =
        listed_stands (held_total o) (held_key key) entry rows (n, x) (held_has o key n x (all rows) h)

    held : (n : ℕ) (x : X) (rows : List Row) → Keyed rows → (r : Row) → Has rows r → entry r ≡ Some (n, x)
        → Has (held_by n (all rows)) x
    held n x rows keyed r h e =
        has_held o key n x (all rows) (stands_listed (held_total o) (held_key key) entry rows (n, x) r keyed h e)

    in_order : (n : ℕ) (rows : List Row) → IsInOrder R key (held_by n (all rows))
    in_order n rows = held_in_order o key n (all rows) (listed_in_order (held_total o) (held_key key) entry rows)

    module _ (holder : ℕ) (xs : List X) (old new : List Row) (keyed : Keyed old) (sorted : IsInOrder R key xs)
        (p : ReplacesRows holder xs old new) where
      replaced_keyed : Keyed new
      unfolding IsKeyed
      replaced_keyed r s y z hr hs er es same = both (p.others r y.0 y.1 hr er) (p.others s z.0 z.1 hs es)
        where
          tie : (y.0 ≡ z.0) × (R (key y.1) (key z.1) ≡ Equal)
          tie = held_tied R (y.0, key y.1) (z.0, key z.1) same

          both : ((y.0 ≡ holder) × Has xs y.1) ⊎ ((y.0 ≢ holder) × Has old r) → ((z.0 ≡ holder) × Has xs z.1)
              ⊎ ((z.0 ≢ holder) × Has old s) → y ≡ z
          both (inl a) (inl b) = ap (λ n. (n, y.1)) tie.0
              ∙ ap (λ w. (z.0, w)) (in_order_same o key xs y.1 z.1 sorted a.1 b.1 tie.1)
          both (inl a) (inr b) = absurd (b.0 (sym tie.0 ∙ a.0))
          both (inr a) (inl b) = absurd (a.0 (tie.0 ∙ b.0))
          both (inr a) (inr b) = keyed r s y z a.1 b.1 er es same

      pub replaced : Replaced holder xs old new
      replaced = record {
        here = same_in_order o key (held_by holder (all new)) xs (in_order holder new) sorted
            (λ x h.
            let it = standing holder x new h in
            elim (p.others it.0 holder x it.1 it.2) [ inl mine ↦ mine.1 | inr other ↦ absurd (other.0 refl) ])
            (λ x h. let it = p.there x h in held holder x new replaced_keyed it.0 it.1 it.2);
        there = λ n apart. same_in_order o key (held_by n (all new)) (held_by n (all old)) (in_order n new)
            (in_order n old)
            (λ x h.
            let it = standing n x new h in
            elim (p.others it.0 n x it.1 it.2) [
              | inl mine ↦ absurd (apart mine.0)
              | inr other ↦ held n x old keyed it.0 other.1 it.2
            ])
            (λ x h.
            let it = standing n x old h in
            held n x new replaced_keyed it.0 (p.kept it.0 n x it.1 it.2 apart) it.2);
        written = λ ids. record {
          rows = record { keyed = λ k. replaced_keyed; takes = p.takes };
          rowids = λ _. ids;
        };
      }
