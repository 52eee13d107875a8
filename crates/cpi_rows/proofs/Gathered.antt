-- What is found and what is put among the rows of holders in order.
use Rattle.std.proofs.Common.{◌≡◌, ◌≢◌, ℕ, zero, suc, ◌<◌, Bool, true, false, eqb, List, [], ◌∷◌, ◌++◌, map, length}
use Rattle.std.proofs.Common.{get_or, set, None, refl, sym, ap, ◌∙◌, arith, append_assoc, inl, inr}
use Rattle.std.specs.Prelude.{filter, ◌⊎◌}
use Rattle.std.specs.declared.cmp.Ordering.{Ordering}
use Rattle.std.specs.declared.cmp.Ordering.TheVariants.{Less, Equal, Greater}
use Rattle.std.specs.Ordering.{nat_cmp, is_lt, is_gt, is_eq, ordering_then, ordering_reverse}
use Rattle.std.specs.List.{AllByRecursion}
use Rattle.std.proofs.lemmas.Bool.{eq-eqb}
use Rattle.std.proofs.lemmas.Bool.Decides.{eqb_tells}
use Rattle.std.proofs.lemmas.Cmp.{tied_itself, nat_cmp_total}
use Rattle.std.proofs.lemmas.List.Elements.{filter-append}
use Rattle.std.proofs.lemmas.List.{map-append, append-nil}
use Rattle.std.proofs.lemmas.Map.Keys.{sorted_head, sorted_tail, Less-from_sorted}
use Rattle.cpi_rows.specs.Keyed.{with_row, row_at, IsInOrder}
use Rattle.cpi_rows.specs.Held.{held_cmp, held_key, held_by}
use Rattle.cpi_rows.specs.Gathered.{rows_with_holders, rows_in}
use Rattle.cpi_rows.proofs.Held.{held_append}
use Rattle.cpi_rows.proofs.Truth.{different}

-- a key below those of all rows is the key of none
missing_above : {G : Type 0} (number : G → ℕ) (c : ℕ) (gs : List G) →
    AllByRecursion (λ g. nat_cmp c (number g) ≡ Less) gs → row_at nat_cmp number c gs ≡ None
missing_above number c [] all = refl
missing_above number c (g ∷ gs) all =
    let e : nat_cmp (number g) c ≡ Greater = nat_cmp_total.antisymm (number g) c ∙ ap ordering_reverse all.0 in
    rw (ap is_eq e) (missing_above number c gs all.1)

module _ {X : Type 0} where
  -- the rows of one holder, and of another
  held_mine : (c : ℕ) (xs : List X) → held_by c (map (λ x. (c, x)) xs) ≡ xs
  held_mine c [] = refl
  held_mine c (x ∷ xs) = rw (eq-eqb c c refl) (ap (λ ys. x ∷ ys) (held_mine c xs))

  held_theirs : (c n : ℕ) (xs : List X) → eqb n c ≡ false → held_by c (map (λ x. (n, x)) xs) ≡ []
  held_theirs c n [] apart = refl
  held_theirs c n (x ∷ xs) apart = rw apart (held_theirs c n xs apart)

module _ {G X K : Type 0} (cmp : K → K → Ordering) (key : X → K) (number : G → ℕ) (rows : G → List X) where
  abbrev Sorted : List G → Type 0
  Sorted gs = IsInOrder nat_cmp number gs

  abbrev named : G → List (ℕ × X)
  named g = map (λ x. (number g, x)) (rows g)

  pub held_gathered : (c : ℕ) (gs : List G) → Sorted gs → held_by c (rows_with_holders number rows gs) ≡ rows_in rows
      (row_at nat_cmp number c gs)
  held_gathered c [] sorted = refl
  held_gathered c (g ∷ gs) sorted =
      held_append cmp key c (named g) (rows_with_holders number rows gs)
      ∙ cases (eqb_tells (number g) c) (held_gathered c gs (sorted_tail _ g gs sorted)) (sorted_head _ g gs sorted)
    where
      cases : ((eqb (number g) c ≡ true) × (number g ≡ c)) ⊎ ((eqb (number g) c ≡ false) × (number g ≢ c)) →
          held_by c (rows_with_holders number rows gs) ≡ rows_in rows (row_at nat_cmp number c gs) →
          AllByRecursion (λ h. nat_cmp (number g) (number h) ≡ Less) gs →
          held_by c (named g) ++ held_by c (rows_with_holders number rows gs) ≡ rows_in rows
          (row_at nat_cmp number c (g ∷ gs))
      cases (inl same) rest above =
          let none : row_at nat_cmp number c gs ≡ None = missing_above number c gs (rw (sym same.1) above) in
          let here : nat_cmp (number g) c ≡ Equal = rw same.1 (tied_itself nat_cmp_total c) in
          let mine : held_by c (named g) ≡ rows g = rw same.1 (held_mine c (rows g)) in
          rw (ap is_eq here, mine, rest, none) (append-nil (rows g))
      cases (inr apart) rest above =
          let other = different (number g) c apart.1 in
          rw (other, held_theirs c (number g) (rows g) apart.0) rest

  -- one holder's rows against a row of a holder with a greater, the same or a smaller number
  module _ (test : Ordering → Bool) (n c : ℕ) (k : K) where
    abbrev passed : List (ℕ × X) → List (ℕ × X)
    passed rs = filter (λ r. test (held_cmp cmp (held_key key r) (c, k))) rs

    keeps : (s : Ordering) → nat_cmp n c ≡ s → ((t : Ordering) → ordering_then s t ≡ s) → test s ≡ true →
        (xs : List X) → passed (map (λ x. (n, x)) xs) ≡ map (λ x. (n, x)) xs
    keeps s e fixed hits [] = refl
    keeps s e fixed hits (x ∷ xs) = rw (e, fixed (cmp (key x) k), hits)
        (ap (λ ys. (n, x) ∷ ys) (keeps s e fixed hits xs))

    drops : (s : Ordering) → nat_cmp n c ≡ s → ((t : Ordering) → ordering_then s t ≡ s) → test s ≡ false →
        (xs : List X) → passed (map (λ x. (n, x)) xs) ≡ []
    drops s e fixed fails [] = refl
    drops s e fixed fails (x ∷ xs) = rw (e, fixed (cmp (key x) k), fails) (drops s e fixed fails xs)

    sifted_more : (x : X) (xs : List X) → nat_cmp n c ≡ Equal → (t : Bool) → test (cmp (key x) k) ≡ t →
        passed (map (λ x. (n, x)) xs) ≡ map (λ x. (n, x)) (filter (λ x. test (cmp (key x) k)) xs) →
        passed (map (λ x. (n, x)) (x ∷ xs)) ≡ map (λ x. (n, x)) (filter (λ x. test (cmp (key x) k)) (x ∷ xs))
    sifted_more x xs e true p rest = rw (e, p) (ap (λ ys. (n, x) ∷ ys) rest)
    sifted_more x xs e false p rest = rw (e, p) rest

    sifted : nat_cmp n c ≡ Equal → (xs : List X) → passed (map (λ x. (n, x)) xs) ≡ map (λ x. (n, x))
        (filter (λ x. test (cmp (key x) k)) xs)
    sifted e [] = refl
    sifted e (x ∷ xs) = sifted_more x xs e (test (cmp (key x) k)) refl (sifted e xs)

  module _ (c : ℕ) (k : K) where
    -- all rows of later holders are greater
    later_none : (gs : List G) → AllByRecursion (λ g. nat_cmp c (number g) ≡ Less) gs →
        passed is_lt c c k (rows_with_holders number rows gs) ≡ []
    later_none [] all = refl
    later_none (g ∷ gs) all =
        let above : nat_cmp (number g) c ≡ Greater = nat_cmp_total.antisymm (number g) c ∙ ap ordering_reverse all.0 in
        filter-append _ (named g) (rows_with_holders number rows gs)
        ∙ rw (drops is_lt (number g) c k Greater above (λ _. refl) refl (rows g)) (later_none gs all.1)

    later_all : (gs : List G) → AllByRecursion (λ g. nat_cmp c (number g) ≡ Less) gs →
        passed is_gt c c k (rows_with_holders number rows gs) ≡ rows_with_holders number rows gs
    later_all [] all = refl
    later_all (g ∷ gs) all =
        let above : nat_cmp (number g) c ≡ Greater = nat_cmp_total.antisymm (number g) c ∙ ap ordering_reverse all.0 in
        filter-append _ (named g) (rows_with_holders number rows gs)
        ∙ rw (keeps is_gt (number g) c k Greater above (λ _. refl) refl (rows g))
        (ap (λ ys. named g ++ ys) (later_all gs all.1))

  -- a row that is put among its holder's rows is put among everybody's
  pub put_gathered : (x : X) (h : G) (gs : List G) (i : ℕ) (d : G) → Sorted gs → i < length gs →
      number h ≡ number (get_or gs i d) → rows h ≡ with_row cmp key x (rows (get_or gs i d)) →
      rows_with_holders number rows (set gs i h) ≡ with_row (held_cmp cmp) (held_key key) (number (get_or gs i d), x)
      (rows_with_holders number rows gs)
  put_gathered x h [] i d sorted in_range same after = absurd (omega arith)
  put_gathered x h (g ∷ gs) zero d sorted in_range same after =
      let c = number g in
      let k = key x in
      let e : nat_cmp c c ≡ Equal = tied_itself nat_cmp_total c in
      let above = sorted_head _ g gs sorted in
      let front = filter-append (λ r. is_lt (held_cmp cmp (held_key key r) (c, k))) (named g)
      (rows_with_holders number rows gs) in
      let back = filter-append (λ r. is_gt (held_cmp cmp (held_key key r) (c, k))) (named g)
      (rows_with_holders number rows gs) in
      rw (
        front,
        back,
        sifted is_lt c c k e (rows g),
        sifted is_gt c c k e (rows g),
        later_none c k gs above,
        later_all c k gs above,
      )
      (let R : List (ℕ × X) = rows_with_holders number rows gs in
      let f : X → ℕ × X = λ y. (number g, y) in
      let P = filter (λ y. is_lt (cmp (key y) k)) (rows g) in
      let Q = filter (λ y. is_gt (cmp (key y) k)) (rows g) in
      ap (λ n. map (λ y. (n, y)) (rows h) ++ R) same ∙ ap (λ xs. map f xs ++ R) after
      ∙ ap (λ ys. ys ++ R) (map-append f P (x ∷ Q))
      ∙ append_assoc (map f P) (map f (x ∷ Q)) R ∙ ap (λ ys. ys ++ ((number g, x) ∷ (map f Q ++ R)))
      (sym (append-nil (map f P))))
  put_gathered x h (g ∷ gs) (suc i) d sorted in_range same after =
      let c = number (get_or gs i d) in
      let k = key x in
      let less : nat_cmp (number g) c ≡ Less = Less-from_sorted _ (g ∷ gs) 0 (suc i) d sorted (omega arith) in_range in
      let front = filter-append (λ r. is_lt (held_cmp cmp (held_key key r) (c, k))) (named g)
      (rows_with_holders number rows gs) in
      let back = filter-append (λ r. is_gt (held_cmp cmp (held_key key r) (c, k))) (named g)
      (rows_with_holders number rows gs) in
      rw (
        front,
        back,
        keeps is_lt (number g) c k Less less (λ _. refl) refl (rows g),
        drops is_gt (number g) c k Less less (λ _. refl) refl (rows g),
        put_gathered x h gs i d (sorted_tail _ g gs sorted) (omega arith) same after,
      )
      (sym (append_assoc (named g) (passed is_lt c c k (rows_with_holders number rows gs))
      ((c, x) ∷ passed is_gt c c k (rows_with_holders number rows gs))))
