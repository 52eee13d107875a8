-- What one holder sees of a row that is put among the rows of all.
use Rattle.std.proofs.Common.{◌≡◌, ◌≢◌, ℕ, Bool, true, false, eqb, List, [], ◌∷◌, ◌++◌, map, refl, sym, ap, ◌∙◌, inl}
use Rattle.std.proofs.Common.{inr}
use Rattle.std.specs.Prelude.{filter, ◌⊎◌}
use Rattle.std.specs.declared.cmp.Ordering.{Ordering}
use Rattle.std.specs.declared.cmp.Ordering.TheVariants.{Less, Equal, Greater}
use Rattle.std.specs.Ordering.{nat_cmp, is_lt, is_gt}
use Rattle.std.specs.Cmp.{IsTotalOrder}
use Rattle.std.proofs.lemmas.Bool.{eq-eqb}
use Rattle.std.proofs.lemmas.Bool.Decides.{eqb_tells}
use Rattle.std.proofs.lemmas.Cmp.{tied_itself, nat_cmp_total, on_total, ranked, then_total}
use Rattle.std.proofs.lemmas.List.Elements.{filter-append}
use Rattle.std.proofs.lemmas.List.{map-append, append-nil}
use Rattle.cpi_rows.specs.Keyed.{with_row}
use Rattle.cpi_rows.specs.Held.{held_cmp, held_key, held_by}

module _ {X K : Type 0} (cmp : K → K → Ordering) (key : X → K) where
  pub held_append : (c : ℕ) (xs ys : List (ℕ × X)) → held_by c (xs ++ ys) ≡ held_by c xs ++ held_by c ys
  held_append c xs ys = ap (map (λ r. r.1)) (filter-append (λ r. eqb r.0 c) xs ys)
      ∙ map-append (λ r. r.1) (filter (λ r. eqb r.0 c) xs) (filter (λ r. eqb r.0 c) ys)

  module _ (test : Ordering → Bool) (c : ℕ) (k : K) (r : ℕ × X) (rows : List (ℕ × X)) where
    abbrev Tested : List (ℕ × X) → Type 0
    Tested rs = held_by c (filter (λ r. test (held_cmp cmp (held_key key r) (c, k))) rs) ≡ filter
        (λ x. test (cmp (key x) k)) (held_by c rs)

    of_this_row : eqb r.0 c ≡ true → nat_cmp r.0 c ≡ Equal → (t : Bool) → test (cmp (key r.1) k) ≡ t → Tested rows →
        Tested (r ∷ rows)
    of_this_row e f true p rest = rw (f, p, e, p) (ap (λ ys. r.1 ∷ ys) rest)
    of_this_row e f false p rest = rw (f, p, e, p) rest

    other : eqb r.0 c ≡ false → (t : Bool) → test (held_cmp cmp (held_key key r) (c, k)) ≡ t → Tested rows →
        Tested (r ∷ rows)
    other e true p rest = rw (p, e) rest
    other e false p rest = rw (p, e) rest

    tested_more : ((eqb r.0 c ≡ true) × (r.0 ≡ c)) ⊎ ((eqb r.0 c ≡ false) × (r.0 ≢ c)) → Tested rows → Tested (r ∷ rows)
    tested_more (inl same) rest = of_this_row same.0 (rw same.1 (tied_itself nat_cmp_total c))
        (test (cmp (key r.1) k)) refl rest
    tested_more (inr apart) rest = other apart.0 (test (held_cmp cmp (held_key key r) (c, k))) refl rest

  -- a test on the order among all rows is, among one holder's, the test on the order of the keys
  tested : (test : Ordering → Bool) (c : ℕ) (k : K) (rows : List (ℕ × X)) →
      held_by c (filter (λ r. test (held_cmp cmp (held_key key r) (c, k))) rows) ≡ filter (λ x. test (cmp (key x) k))
      (held_by c rows)
  tested test c k [] = refl
  tested test c k (r ∷ rows) = tested_more test c k r rows (eqb_tells r.0 c) (tested test c k rows)

  held_head : (c : ℕ) (x : X) (rows : List (ℕ × X)) → held_by c ((c, x) ∷ rows) ≡ x ∷ held_by c rows
  held_head c x rows = rw (eq-eqb c c refl) refl

  pub puts_own : (c : ℕ) (row : X) (rows : List (ℕ × X)) →
      held_by c (with_row (held_cmp cmp) (held_key key) (c, row) rows) ≡ with_row cmp key row (held_by c rows)
  puts_own c row rows =
      held_append c (filter (λ r. is_lt (held_cmp cmp (held_key key r) (c, key row))) rows)
      ((c, row) ∷ filter (λ r. is_gt (held_cmp cmp (held_key key r) (c, key row))) rows)
      ∙ ap (λ ys. held_by c (filter (λ r. is_lt (held_cmp cmp (held_key key r) (c, key row))) rows) ++ ys)
      (held_head c row (filter (λ r. is_gt (held_cmp cmp (held_key key r) (c, key row))) rows))
      ∙ ap (λ ys. ys ++ row ∷ held_by c (filter (λ r. is_gt (held_cmp cmp (held_key key r) (c, key row))) rows))
      (tested is_lt c (key row) rows)
      ∙ ap (λ ys. filter (λ x. is_lt (cmp (key x) (key row))) (held_by c rows) ++ row ∷ ys)
      (tested is_gt c (key row) rows)

  module _ (test : Ordering → Bool) (c n : ℕ) (k : K) (r : ℕ × X) (rows : List (ℕ × X)) where
    abbrev Passed : List (ℕ × X) → List (ℕ × X)
    Passed rs = filter (λ r. test (held_cmp cmp (held_key key r) (n, k))) rs

    level : (s : Ordering) → nat_cmp c n ≡ s → c ≢ n → r.0 ≡ c → test (held_cmp cmp (held_key key r) (n, k)) ≡ test
        (nat_cmp c n)
    level Less e differ same = rw (same, e) refl
    level Equal e differ same = absurd (differ (ranked c n Equal (sym e)))
    level Greater e differ same = rw (same, e) refl

    all_more : c ≢ n → test (nat_cmp c n) ≡ true → ((eqb r.0 c ≡ true) × (r.0 ≡ c))
        ⊎ ((eqb r.0 c ≡ false) × (r.0 ≢ c)) → (t : Bool) → test (held_cmp cmp (held_key key r) (n, k)) ≡ t →
        held_by c (Passed rows) ≡ held_by c rows → held_by c (Passed (r ∷ rows)) ≡ held_by c (r ∷ rows)
    all_more differ passes (inl same) true p rest = rw (p, same.0) (ap (λ ys. r.1 ∷ ys) rest)
    all_more differ passes (inl same) false p rest = let e : true ≡ false = sym passes
        ∙ sym (level (nat_cmp c n) refl differ same.1) ∙ p in cc
    all_more differ passes (inr apart) true p rest = rw (p, apart.0) rest
    all_more differ passes (inr apart) false p rest = rw (p, apart.0) rest

    none_more : c ≢ n → test (nat_cmp c n) ≡ false → ((eqb r.0 c ≡ true) × (r.0 ≡ c))
        ⊎ ((eqb r.0 c ≡ false) × (r.0 ≢ c)) → (t : Bool) → test (held_cmp cmp (held_key key r) (n, k)) ≡ t →
        held_by c (Passed rows) ≡ [] → held_by c (Passed (r ∷ rows)) ≡ []
    none_more differ fails (inl same) true p rest = let e : false ≡ true = sym fails
        ∙ sym (level (nat_cmp c n) refl differ same.1) ∙ p in cc
    none_more differ fails (inl same) false p rest = rw p rest
    none_more differ fails (inr apart) true p rest = rw (p, apart.0) rest
    none_more differ fails (inr apart) false p rest = rw p rest

  all_pass : (test : Ordering → Bool) (c n : ℕ) (k : K) → c ≢ n → test (nat_cmp c n) ≡ true → (rows : List (ℕ × X)) →
      held_by c (filter (λ r. test (held_cmp cmp (held_key key r) (n, k))) rows) ≡ held_by c rows
  all_pass test c n k differ passes [] = refl
  all_pass test c n k differ passes (r ∷ rows) = all_more test c n k r rows differ passes (eqb_tells r.0 c)
      (test (held_cmp cmp (held_key key r) (n, k))) refl (all_pass test c n k differ passes rows)

  none_pass : (test : Ordering → Bool) (c n : ℕ) (k : K) → c ≢ n → test (nat_cmp c n) ≡ false →
      (rows : List (ℕ × X)) → held_by c (filter (λ r. test (held_cmp cmp (held_key key r) (n, k))) rows) ≡ []
  none_pass test c n k differ fails [] = refl
  none_pass test c n k differ fails (r ∷ rows) = none_more test c n k r rows differ fails (eqb_tells r.0 c)
      (test (held_cmp cmp (held_key key r) (n, k))) refl (none_pass test c n k differ fails rows)

  held_other : (c n : ℕ) (x : X) (rows : List (ℕ × X)) → c ≢ n → held_by c ((n, x) ∷ rows) ≡ held_by c rows
  held_other c n x rows differ = cases (eqb_tells n c)
    where
      cases : ((eqb n c ≡ true) × (n ≡ c)) ⊎ ((eqb n c ≡ false) × (n ≢ c)) → held_by c ((n, x) ∷ rows) ≡ held_by c rows
      cases (inl same) = absurd (differ (sym same.1))
      cases (inr apart) = rw apart.0 refl

  -- another holder's row changes nothing for this one
  pub puts_other : (c n : ℕ) (row : X) (rows : List (ℕ × X)) → c ≢ n →
      held_by c (with_row (held_cmp cmp) (held_key key) (n, row) rows) ≡ held_by c rows
  puts_other c n row rows differ =
      held_append c (filter (λ r. is_lt (held_cmp cmp (held_key key r) (n, key row))) rows)
      ((n, row) ∷ filter (λ r. is_gt (held_cmp cmp (held_key key r) (n, key row))) rows)
      ∙ ap (λ ys. held_by c (filter (λ r. is_lt (held_cmp cmp (held_key key r) (n, key row))) rows) ++ ys)
      (held_other c n row (filter (λ r. is_gt (held_cmp cmp (held_key key r) (n, key row))) rows) differ)
      ∙ cases (nat_cmp c n) refl
    where
      cases : (s : Ordering) → nat_cmp c n ≡ s → held_by c
          (filter (λ r. is_lt (held_cmp cmp (held_key key r) (n, key row))) rows)
          ++ held_by c (filter (λ r. is_gt (held_cmp cmp (held_key key r) (n, key row))) rows) ≡ held_by c rows
      cases Less e = rw (
        all_pass is_lt c n (key row) differ (ap is_lt e) rows,
        none_pass is_gt c n (key row) differ (ap is_gt e) rows,
      ) (append-nil (held_by c rows))
      cases Equal e = absurd (differ (ranked c n Equal (sym e)))
      cases Greater e = rw (
        none_pass is_lt c n (key row) differ (ap is_lt e) rows,
        all_pass is_gt c n (key row) differ (ap is_gt e) rows,
      ) refl

-- rows of many holders are in a total order when the rows of one holder are
pub held_total : {K : Type 0} {R : K → K → Ordering} → IsTotalOrder R → IsTotalOrder (held_cmp R)
held_total o = then_total (on_total (λ r. r.0) nat_cmp_total) (on_total (λ r. r.1) o)
