-- Rows added to those of a holder one by one, and rows dropped before.
use Rattle.std.proofs.Common.{◌≡◌, ◌⊎◌, inl, inr, ℕ, List, [], ◌∷◌, ◌++◌, Bool, true, Some, Option}
use Rattle.std.proofs.Common.{Result, refl, sym, ap, subst, ◌∙◌, ◌+◌, arith, take, drop, slice_range}
use Rattle.std.proofs.lemmas.Bool.{cases_Bool, true≢false}
use Rattle.std.proofs.Math.Seq.{take-add}
use Rattle.std.specs.Prelude.{is_some}
use Rattle.std.specs.declared.cmp.Ordering.{Ordering}
use Rattle.std.specs.Cmp.{IsTotalOrder}
use Rattle.sqlite.specs.Order.{Row}
use Rattle.sqlite.specs.Tree.{put_row}
use Rattle.sqlite.specs.State.{State}
use Rattle.sqlite_rules.specs.Lists.{Has}
use Rattle.sqlite_rules.proofs.ListLemmas.{has_left, has_right, has_either}
use Rattle.sqlite_rules.proofs.TableLemmas.{has_put as has_put_row, put_has as put_row_has}
use Rattle.cpi_rows.specs.Keyed.{IsInOrder}
use Rattle.cpi_rows.specs.Held.{held_cmp, held_key}
use Rattle.cpi_sql_rows.proofs.FoundTables.{on_ok_implies}
use Rattle.cpi_sql_rows.specs.Steps.{IsRowStep}
use Rattle.cpi_sql_writes.specs.Rest.{KeepsBut}
use Rattle.cpi_sql_rows.specs.Shelf.{AllStandFor, IsKeyed, Takes}
use Rattle.cpi_sql_writes.specs.Within.{Adds, AddsTo, Changes, Drops, Inside, IsReady, Replaces, Within}
use Rattle.cpi_sql_writes.proofs.Replaced.{Replaced, replaced}
use Rattle.cpi_sql_writes.proofs.Withins.{inside_here, inside_then, on_given}
use Rattle.cpi_sql_rows.proofs.Lists.{some_is}

-- a step leaves the table ready for the next
pub step_ready : (tree : ℕ) (Rows : List Row → List Row → Type 0) (a b : State) → IsRowStep tree Rows a b
    → IsReady tree b
step_ready tree Rows a b p = record { schema = p.schema; rowids = p.rowids }

-- two steps on the rows of one table
pub step_then : (tree : ℕ) (P Q R : List Row → List Row → Type 0)
    → ((a b c : List Row) → P a b → Q b c → R a c)
    → (a b c : State) → IsRowStep tree P a b → IsRowStep tree Q b c → IsRowStep tree R a c
step_then tree P Q R f a b c p q = record {
  inside = q.inside;
  schema = q.schema;
  all = λ h. q.all (p.all h);
  rows = f (a.now.trees tree) (b.now.trees tree) (c.now.trees tree) p.rows q.rows;
  rowids = q.rowids;
  others = λ n e. q.others n e ∙ p.others n e;
}

module _ {X : Type 0} (entry : Row → Option (ℕ × X)) where
  added_none : (number : ℕ) (mid : List Row) → Adds entry number [] mid mid
  added_none number mid = record { others = λ r h. inl h; kept = λ r h. h; there = λ x h. absurd h }

  pub added_one : (number : ℕ) (x : X) (row : Row) (mid new : List Row) → entry row ≡ Some (number, x)
      → new ≡ put_row row mid → ((r : Row) → Has mid r → Has new r) → Adds entry number (x ∷ []) mid new
  added_one number x row mid new is rows keeps = record {
    others = λ r h. elim (put_row_has row mid r (subst (λ l. Has l r) rows h)) [
      | inl same ↦ inr (x, inl refl, ap entry same ∙ is)
      | inr was ↦ inl was
    ];
    kept = keeps;
    there = λ y h. elim h [
      | inl same ↦ (
        row,
        subst (λ l. Has l row) (sym rows) (has_put_row row mid),
        is
            ∙ ap (λ z. Some (number, z)) (sym same),
      )
      | inr none ↦ absurd none
    ];
  }

  -- rows added after others
  added_then : (number : ℕ) (xs ys : List X) (a b c : List Row) → Adds entry number xs a b → Adds entry number ys b c
      → Adds entry number (xs ++ ys) a c
  added_then number xs ys a b c p q = record {
    others = λ r h. elim (q.others r h) [
      | inl was ↦ elim (p.others r was) [
        | inl old ↦ inl old
        | inr it ↦ inr (it.0, has_left xs ys it.0 it.1, it.2)
      ]
      | inr it ↦ inr (it.0, has_right xs ys it.0 it.1, it.2)
    ];
    kept = λ r h. q.kept r (p.kept r h);
    there = λ y h. elim (has_either xs ys y h) [
      | inl front ↦ let it = p.there y front in (it.0, q.kept it.0 it.1, it.2)
      | inr rest ↦ q.there y rest
    ];
  }

  module _ (tree : ℕ) (GoesBy : ℕ → Type 0) where
    abbrev Lists : List X → State → State → Type 0
    Lists xs = Changes tree (AddsTo entry GoesBy xs)

    -- before the first row of a list
    pub list_begun : (a : State) → Inside a a (Lists [] a a)
    list_begun a = inside_here a (λ inside ready. record {
      inside = inside;
      schema = ready.schema;
      all = λ h. h;
      rows = λ number is. added_none number (a.now.trees tree);
      rowids = ready.rowids;
      others = λ n e. refl;
    })

    -- rows more of a list
    pub list_then : (xs ys : List X) (a b c : State) → Inside a b (Lists xs a b) → Inside b c (Lists ys b c)
        → Inside a c (Lists (xs ++ ys) a c)
    list_then xs ys a b c p q = inside_then a b c p q (λ mid clean inside ready.
        let first = p.step mid inside ready in
        let next = q.step clean first.inside (step_ready tree _ a b first) in
        step_then tree (AddsTo entry GoesBy xs) (AddsTo entry GoesBy ys) (AddsTo entry GoesBy (xs ++ ys))
        (λ d e f one two number named. added_then number xs ys d e f (one number named) (two number named))
        a b c first next)

    -- the next rows of a list, which are so many from a place on
    pub list_further : (xs : List X) (at count : ℕ) (a b c : State) → Inside a b (Lists (take at xs) a b)
        → Inside b c (Lists (slice_range xs at (at + count)) b c) → Inside a c (Lists (take (at + count) xs) a c)
    list_further xs at count a b c p q = subst (λ ys. Inside a c (Lists ys a c)) (sym (take-add at count xs))
        (list_then (take at xs) (take count (drop at xs)) a b c p
        (subst (λ n. Inside b c (Lists (take n (drop at xs)) b c)) (omega arith) q))

    -- the holder's rows dropped, and then a list added
    pub list_replaces : {A E : Type 0} (is_of : Row → Bool) (xs : List X) (a b c : State) (r : Result A E)
        → Inside a b (Changes tree (Drops is_of) a b) → Within b c r (Lists xs)
        → Within a c r (Changes tree (Replaces entry is_of GoesBy xs))
    list_replaces is_of xs a b c r p q = inside_then a b c p q (λ mid clean inside. on_given r _ _ (λ ready.
        let dropped = p.step mid inside ready in
        on_ok_implies r _ _ (q.step clean dropped.inside) (λ lists.
        step_then tree (Drops is_of) (AddsTo entry GoesBy xs) (Replaces entry is_of GoesBy xs)
        (λ d e f one two. (e, one, two)) a b c dropped (lists (step_ready tree (Drops is_of) a b dropped)))))

  -- Each row with the number is the holder's, so it is of the list, and stands for something.
  pub all_stand : (holder : Row → Option ℕ) (is_of : Row → Bool) (GoesBy : ℕ → Type 0) (number : ℕ) → GoesBy number
      → ((r : Row) → holder r ≡ Some number → is_of r ≡ true) → (xs : List X) (old new : List Row)
      → Replaces entry is_of GoesBy xs old new → AllStandFor holder entry number new
  unfolding AllStandFor
  all_stand holder is_of GoesBy number named each xs old new p r h e = elim ((p.2 number named).others r h) [
    | inl was ↦ absurd (true≢false (sym (each r e) ∙ ((p.1 r).0 was).1))
    | inr it ↦ ap is_some it.2
  ]

  -- Each row that isn't the holder's is there.
  pub list_kept : (is_of : Row → Bool) (GoesBy : ℕ → Type 0) (number : ℕ) → GoesBy number → (Of : Row → Type 0)
      → ((r : Row) → is_of r ≡ true → Of r) → (xs : List X) (old new : List Row)
      → Replaces entry is_of GoesBy xs old new → KeepsBut Of old new
  unfolding KeepsBut
  list_kept is_of GoesBy number named Of of xs old new p r h = elim (cases_Bool (is_of r)) [
    | inl hit ↦ inr (of r hit)
    | inr miss ↦ inl ((p.2 number named).kept r ((p.1 r).1 (h, miss)))
  ]

  -- The rows of the holder are those with its number, so the list takes their place.
  module _ {K : Type 0} {R : K → K → Ordering} (o : IsTotalOrder R) (key : X → K) (is_of : Row → Bool)
      (GoesBy : ℕ → Type 0) (number : ℕ) (named : GoesBy number)
      (only : (r : Row) (n : ℕ) (x : X) → entry r ≡ Some (n, x) → is_of r ≡ true → n ≡ number)
      (each : (r : Row) (x : X) → entry r ≡ Some (number, x) → is_of r ≡ true) where
    -- each row was there, or stands for one of the list
    taken : (xs : List X) (old new : List Row) (p : Replaces entry is_of GoesBy xs old new)
        → ((r : Row) → Has new r → Has p.0 r ⊎ ((x : X) × Has xs x × (entry r ≡ Some (number, x))))
        → Takes entry old new
    unfolding Takes
    taken xs old new p from r h = elim (from r h) [ inl was ↦ inl ((p.1 r).0 was).0 | inr it ↦ inr (ap is_some it.2) ]

    pub list_replaced : (xs : List X) (old new : List Row) → IsKeyed (held_cmp R) (held_key key) entry old
        → IsInOrder R key xs → Replaces entry is_of GoesBy xs old new → Replaced o key entry number xs old new
    list_replaced xs old new keyed sorted p =
        let adds = p.2 number named in
        replaced o key entry number xs old new keyed sorted (record {
          others = λ r n x h e. elim (adds.others r h) [
            | inl was ↦
                let it = (p.1 r).0 was in
                inr (λ same. true≢false (sym (each r x (e ∙ ap (λ k. Some (k, x)) same)) ∙ it.1), it.0)
            | inr it ↦
                let pair : ◌≡◌ {A = ℕ × X} (n, x) (number, it.0) = some_is (sym e ∙ it.2) in
                inl (ap (λ (q : ℕ × X). q.0) pair, subst (Has xs) (sym (ap (λ (q : ℕ × X). q.1) pair)) it.1)
          ];
          kept = λ r n x h e apart. adds.kept r ((p.1 r).1 (
            h,
            elim (cases_Bool (is_of r)) [
              | inl hit ↦ absurd (apart (only r n x e hit))
              | inr miss ↦ miss
            ],
          ));
          there = adds.there;
          takes = taken xs old new p adds.others;
        })
