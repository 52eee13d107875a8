-- A table that was read whole, and the rows of one holder.
use Rattle.std.proofs.Common.{◌≡◌, ◌≢◌, ◌⊎◌, inl, inr, ℕ, pos, negsuc, Bool, true, false, eqb, ◌&&◌, List, []}
use Rattle.std.proofs.Common.{◌∷◌, Some, None, Option, IsSome, refl, sym, ap, subst, ◌∙◌}
use Rattle.std.specs.Prelude.{filter, nat_le, if◌then◌else◌, is_some}
use Rattle.std.specs.declared.cmp.Ordering.{Ordering}
use Rattle.std.specs.declared.cmp.Ordering.TheVariants.{Less, Equal}
use Rattle.std.specs.Ordering.{nat_cmp, int_cmp, is_eq, ordering_then}
use Rattle.std.specs.Cmp.{IsTotalOrder, tied_itself}
use Rattle.std.specs.List.Sorted.{IsStrictlySortedBy}
use Rattle.std.proofs.lemmas.Bool.{eq-eqb}
use Rattle.std.proofs.lemmas.Bool.Decides.{eqb_tells}
use Rattle.std.proofs.lemmas.Cmp.{nat_cmp_total, int_ranked}
use Rattle.sqlite.specs.declared.types.Value.{Value}
use Rattle.sqlite.specs.declared.types.Value.TheVariants.{Null, Int, Real, Text, Blob}
use Rattle.sqlite.specs.Order.{Row}
use Rattle.sqlite_value.proofs.OrderLemmas.{value_cmp-Int, value_cmp_total}
use Rattle.sqlite_rules.specs.Lists.{Has}
use Rattle.sqlite_rules.proofs.ListLemmas.{all_from, has_filtered, has_kept}
use Rattle.sqlite_rules.proofs.ProbeLemmas.{has_mapped, mapped_has}
use Rattle.cpi_rows.specs.Keyed.{IsInOrder}
use Rattle.cpi_rows.specs.Held.{held_by, held_cmp, held_key}
pub use Rattle.cpi_rows.proofs.Held.{held_total}
use Rattle.cpi_rows.proofs.Truth.{equal_of_is_eq, equal_of_order, then_first, then_second}
use Rattle.cpi_sql_rows.specs.Read.{AreRead}
use Rattle.cpi_sql_rows.specs.Lists.{rows_in_key_order, number_in_value, if_within, number_within, and_then}
use Rattle.cpi_sql_rows.specs.Shelf.{IsKeyed, equals}
use Rattle.cpi_sql_rows.proofs.Listed.{same_in_order, listed_is, listed_in_order, listed_stands}
use Rattle.cpi_sql_rows.proofs.Listed.{stands_listed, head_in}

-- rows of one key are of one holder
pub held_tied : {K : Type 0} (R : K → K → Ordering) (j k : ℕ × K) → held_cmp R j k ≡ Equal → (j.0 ≡ k.0)
    × (R j.1 k.1 ≡ Equal)
held_tied R j k e = (equal_of_order j.0 k.0 (then_first _ _ e), then_second _ _ e)

pub some_is : {X : Type 0} {x y : X} → ◌≡◌ {A = Option X} (Some x) (Some y) → x ≡ y
some_is e = cc

module _ {X : Type 0} (stands : Row → Option X) where
  pub read_has : (rows : List Row) (xs : List X) (x : X) → AreRead stands rows xs → Has xs x → (s : Row) × Has rows s
      × (stands s ≡ Some x)
  read_has [] [] x e h = absurd h
  read_has [] (y ∷ xs) x e h = cc
  read_has (r ∷ rows) [] x e h = absurd h
  read_has (r ∷ rows) (y ∷ xs) x e (inl is) = let here : stands r ≡ Some y = cc in
      (r, inl refl, here ∙ ap Some (sym is))
  read_has (r ∷ rows) (y ∷ xs) x e (inr h) =
      let later : AreRead stands rows xs = cc in
      let it = read_has rows xs x later h in
      (it.0, inr it.1, it.2)

  -- each row that was read stands for something
  pub stands_as : (rows : List Row) (xs : List X) (s : Row) → AreRead stands rows xs → Has rows s → (x : X)
      × (stands s ≡ Some x)
  stands_as [] xs s e h = absurd h
  stands_as (r ∷ rows) [] s e h = cc
  stands_as (r ∷ rows) (y ∷ xs) s e (inl same) = let here : stands r ≡ Some y = cc in (y, ap stands same ∙ here)
  stands_as (r ∷ rows) (y ∷ xs) s e (inr h) = let later : AreRead stands rows xs = cc in stands_as rows xs s later h

  pub stands_read : (rows : List Row) (xs : List X) (s : Row) → AreRead stands rows xs → Has rows s → IsSome (stands s)
  stands_read rows xs s e h = ap is_some (stands_as rows xs s e h).1

  pub has_read : (rows : List Row) (xs : List X) (s : Row) (x : X) → AreRead stands rows xs → Has rows s
      → stands s ≡ Some x → Has xs x
  has_read [] xs s x e h is = absurd h
  has_read (r ∷ rows) [] s x e h is = cc
  has_read (r ∷ rows) (y ∷ xs) s x e (inl same) is =
      let here : stands r ≡ Some y = cc in
      inl (some_is (sym is ∙ ap stands same ∙ here))
  has_read (r ∷ rows) (y ∷ xs) s x e (inr h) is = let later : AreRead stands rows xs = cc in
      inr (has_read rows xs s x later h is)

-- what a query shows of a table: the rows that pass, each in the shape of the answer
pub record Shows (test : Row → Bool) (shape : Row → Row) (table rows : List Row) : Type 0 where
  pub sound : (x : Row) → Has rows x → (r : Row) × Has table r × (test r ≡ true) × (x ≡ shape r)
  pub complete : (r : Row) → Has table r → test r ≡ true → Has rows (shape r)

module _ {X K : Type 0} {R : K → K → Ordering} (o : IsTotalOrder R) (key : X → K) (entry stands : Row
    → Option X) (shape : Row → Row) (same : (r : Row) → stands (shape r) ≡ entry r) where
  pub list_read : (table rows : List Row) (xs : List X) → IsKeyed R key entry table
      → Shows (λ r. true) shape table rows → AreRead stands rows xs → IsInOrder R key xs → xs ≡ rows_in_key_order R key
      entry table
  list_read table rows xs keyed shows read order =
      listed_is o key entry table xs keyed order
      (λ x h.
      let s = read_has stands rows xs x read h in
      let r = shows.sound s.0 s.1 in
      (r.0, r.1, sym (same r.0) ∙ ap stands (sym r.3) ∙ s.2))
      (λ r x h e. has_read stands rows xs (shape r) x read (shows.complete r h refl) (same r ∙ e))

-- ---- the rows of one holder

module _ {X K : Type 0} {R : K → K → Ordering} (o : IsTotalOrder R) (key : X → K) where
  pub has_held : (c : ℕ) (x : X) (ys : List (ℕ × X)) → Has ys (c, x) → Has (held_by c ys) x
  has_held c x ys h = mapped_has (λ (y : ℕ × X). y.1) (filter (λ y. eqb y.0 c) ys) (
    c,
    x,
  ) (has_kept (λ y. eqb y.0 c) ys (c, x) h (eq-eqb c c refl))

  pair_is : (y : ℕ × X) (c : ℕ) (x : X) → y.0 ≡ c → x ≡ y.1 → y ≡ (c, x)
  pair_is y c x e f = ap (λ n. (n, y.1)) e ∙ ap (λ z. (c, z)) (sym f)

  pub held_has : (c : ℕ) (x : X) (ys : List (ℕ × X)) → Has (held_by c ys) x → Has ys (c, x)
  held_has c x ys h =
      let it = has_mapped (λ (y : ℕ × X). y.1) (filter (λ y. eqb y.0 c) ys) x h in
      let kept = has_filtered (λ (y : ℕ × X). eqb y.0 c) ys it.0 it.1 in
      elim (eqb_tells it.0.0 c) [
        | inl mine ↦ subst (Has ys) (pair_is it.0 c x mine.1 it.2) kept.0
        | inr other ↦ absurd (let no : true ≡ false = sym kept.1 ∙ other.0 in cc)
      ]

  after : (a b : ℕ) (k l : K) → a ≡ b → held_cmp R (a, k) (b, l) ≡ Less → R k l ≡ Less
  after a b k l e less = let level = ap
      (λ s. ordering_then s (R k l)) (subst (λ z. nat_cmp a z ≡ Equal) e (tied_itself nat_cmp_total a)) in sym level
      ∙ less

  pub held_in_order : (c : ℕ) (ys : List (ℕ × X)) → IsInOrder (held_cmp R) (held_key key) ys
      → IsInOrder R key (held_by c ys)
  unfolding IsStrictlySortedBy
  held_in_order c [] sorted = tt
  held_in_order c (y ∷ ys) sorted = at (eqb_tells y.0 c) (held_in_order c ys sorted.1)
    where
      at : ((eqb y.0 c ≡ true) × (y.0 ≡ c)) ⊎ ((eqb y.0 c ≡ false) × (y.0 ≢ c)) → IsInOrder R key (held_by c ys)
          → IsInOrder R key (held_by c (y ∷ ys))
      at (inl mine) rest = rw mine.0 (
        all_from (λ z. R (key y.1) (key z) ≡ Less) (held_by c ys)
            (λ z h. after y.0 c (key y.1) (key z) mine.1 (head_in (held_total o) (held_key key) y ys (
              c,
              z,
            ) sorted (held_has c z ys h))),
        rest,
      )
      at (inr other) rest = rw other.0 rest

  module _ (entry : Row → Option (ℕ × X)) (stands : Row → Option X) (shape : Row → Row) (test : Row → Bool) (c : ℕ)
      (same : (r : Row) (x : X) → test r ≡ true → stands (shape r) ≡ Some x → entry r ≡ Some (c, x))
      (back : (r : Row) (x : X) → entry r ≡ Some (c, x) → (test r ≡ true) × (stands (shape r) ≡ Some x)) where
    pub held_read : (table rows : List Row) (xs : List X) → IsKeyed (held_cmp R) (held_key key) entry table
        → Shows test shape table rows → AreRead stands rows xs → IsInOrder R key xs
        → xs ≡ held_by c (rows_in_key_order (held_cmp R) (held_key key) entry table)
    held_read table rows xs keyed shows read order =
        let all = rows_in_key_order (held_cmp R) (held_key key) entry table in
        same_in_order o key xs (held_by c all) order
        (held_in_order c all (listed_in_order (held_total o) (held_key key) entry table))
        (λ x h.
        let s = read_has stands rows xs x read h in
        let r = shows.sound s.0 s.1 in
        has_held c x all (stands_listed (held_total o) (held_key key) entry table (
          c,
          x,
        ) r.0 keyed r.1 (same r.0 x r.2 (ap stands (sym r.3) ∙ s.2))))
        (λ x h.
        let it = listed_stands (held_total o) (held_key key) entry table (c, x) (held_has c x all h) in
        let both = back it.0 x it.2 in
        has_read stands rows xs (shape it.0) x read (shows.complete it.0 it.1 both.0) both.1)

-- ---- numbers in columns

pub number_is : (v : Value) (n : ℕ) → number_in_value v ≡ Some n → v ≡ Int (pos n)
number_is (Int (pos k)) n e = let same : k ≡ n = cc in ap (λ x. Int (pos x)) same
number_is (Int (negsuc k)) n e = cc
number_is Null n e = cc
number_is (Real x) n e = cc
number_is (Text t) n e = cc
number_is (Blob b) n e = cc

pub bound_is : {A B : Type 0} (a : Option A) (f : A → Option B) (b : B) → and_then a f ≡ Some b → (x : A)
    × (a ≡ Some x) × (f x ≡ Some b)
bound_is None f b e = cc
bound_is (Some a) f b e = (a, refl, e)

within_is : (low high n m : ℕ) → if_within low high n ≡ Some m → n ≡ m
within_is low high n m e = at (nat_le low n && nat_le n high) e
  where
    at : (b : Bool) → (if b then Some n else None) ≡ Some m → n ≡ m
    at true e = some_is e
    at false e = cc

pub ranged_is : (low high : ℕ) (v : Value) (n : ℕ) → number_within low high v ≡ Some n → v ≡ Int (pos n)
ranged_is low high v n e =
    let it = bound_is (number_in_value v) (if_within low high) n e in
    number_is v it.0 it.1 ∙ ap (λ z. Int (pos z)) (within_is low high it.0 n it.2)

pub same_number : (v : Value) (a c : ℕ) → v ≡ Int (pos a) → equals v (Int (pos c)) ≡ true → a ≡ c
same_number v a c is h =
    let tie : int_cmp (pos a) (pos c) ≡ Equal = sym (value_cmp-Int (pos a) (pos c))
    ∙ equal_of_is_eq _ (subst (λ w. equals w (Int (pos c)) ≡ true) is h) in
    let same = int_ranked (pos a) (pos c) Equal (sym tie) in cc

pub equal_number : (v : Value) (c : ℕ) → v ≡ Int (pos c) → equals v (Int (pos c)) ≡ true
equal_number v c is = ap (λ w. equals w (Int (pos c))) is ∙ ap is_eq (tied_itself value_cmp_total (Int (pos c)))
