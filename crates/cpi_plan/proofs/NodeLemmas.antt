-- The nodes of a plan, made of the titles in order and the sums that are kept.
use Rattle.std.proofs.Common.{◌≡◌, ◌≤◌, ℕ, zero, suc, ◌<◌, ◌^◌, Bool, true, false, cond, List, [], ◌∷◌, map, filter}
use Rattle.std.proofs.Common.{Option, Some, None, refl, sym, ap, ◌∙◌, arith, ◌&&◌, not, ◌==◌}
use Rattle.std.proofs.lemmas.Bool.Decides.{nat_tests}
use Rattle.std.specs.Prelude.{nat_lt, is_some, option_map}
use Rattle.std.specs.declared.cmp.Ordering.{Ordering}
use Rattle.std.specs.declared.cmp.Ordering.TheVariants.{Less, Equal, Greater}
use Rattle.std.specs.Ordering.{nat_cmp, is_eq}
use Rattle.std.specs.Cmp.{IsTotalOrder}
use Rattle.std.specs.BTreeMap.{BTreeMap}
use Rattle.std.specs.List.{list_any, list_all, AllByRecursion, Contains}
use Rattle.std.specs.List.Sorted.{IsStrictlySortedBy, IsPermutation}
use Rattle.std.proofs.lemmas.List.Sorted.{list_any-IsPermutation, Contains-permutation}
use Rattle.std.proofs.lemmas.List.Kept.{IsStrictlySortedBy-filter}
use Rattle.cpi_codes.specs.CodeOrder.{code_cmp, is_same_code, is_code_elementary}
use Rattle.cpi_codes.specs.declared.codes.Code.{Code}
use Rattle.cpi_rows.specs.Keyed.{row_at, IsInOrder}
use Rattle.cpi_rows.proofs.Places.{row_found}
use Rattle.cpi_rows.proofs.Truth.{and_first}
use Rattle.cpi_plan.specs.declared.limits.TheConstants.{ALL_PARTS}
use Rattle.cpi_plan.specs.declared.plan_rows.Title.{Title}
use Rattle.cpi_plan.specs.declared.plan_rows.Weight.{Weight}
use Rattle.cpi_plan.specs.declared.plan_rows.Node.{Node}
use Rattle.cpi_plan.specs.declared.plan_rows.Place.{Place}
use Rattle.cpi_plan.specs.Sums.{sum_at, weight_under, is_node}
use Rattle.cpi_plan.specs.Steps.{is_without, IsFirstCode, node_with, nodes_with}
use Rattle.cpi_plan.specs.Plan.{Plan, IsPlan, are_all_elementary, has_zero_weight, total_weight, is_untitled}
use Rattle.cpi_plan.specs.Plan.{has_unplaced_item, node_of_code, node_of_title}
use Rattle.cpi_plan.specs.Plan.{may_refer_to, has_fit_reference, reference_in, is_fit_reference}
use Rattle.cpi_plan.proofs.UnderLemmas.{weighs, under_total}
use Rattle.cpi_plan.proofs.RowLemmas.{found}
use Rattle.cpi_plan.proofs.FirstLemmas.{same_sum}

-- ---- a code has a sum if and only if it is a node
both : (n : ℕ) (b : Bool) → (0 < n → b ≡ true) → (b ≡ true → 0 < n) → nat_lt 0 n ≡ b
both n true f g = let h : 0 < n = g refl in grind (arith, nat_tests)
both n false f g = none n f where
  none : (n : ℕ) → (0 < n → false ≡ true) → nat_lt 0 n ≡ false
  none zero f = refl
  none (suc n) f = absurd (no (f (omega arith))) where
    no : false ≡ true → ⊥
    no e = cc

both_same : (b : Bool) (n : Option Node) → n ≡ cond b n n
both_same true n = refl
both_same false n = refl

abbrev pub plan_with : ℕ → List Weight → List Place → Option ℕ → List Node → Plan
plan_with year weights places reference nodes =
    record { year = year; nodes = nodes; weights = weights; places = places; reference = reference }

module _ (sums : BTreeMap Code ℕ) (weights : List Weight) (kept : (q : Code) → sum_at sums q ≡ weight_under q weights)
    (positive : has_zero_weight weights ≡ false) where
  pub has_sum : (q : Code) → nat_lt 0 (sum_at sums q) ≡ is_node weights q
  has_sum q =
      let w = weighs q weights positive in
      ap (nat_lt 0) (kept q) ∙ both (weight_under q weights) (is_node weights q) w.0 w.1

  pub without_untitled : (titles : List Title) (q : Code) → is_without sums titles q ≡ is_untitled titles weights q
  without_untitled titles q = ap (λ b. b && not (list_any (λ t. is_same_code t.code q) titles)) (has_sum q)

  pub first_is : (titles : List Title) (k : Code) → IsFirstCode (is_without sums titles) k →
      IsFirstCode (is_untitled titles weights) k
  first_is titles k f = (
    sym (without_untitled titles k) ∙ f.0,
    λ other h. f.1 other (without_untitled titles other ∙ h),
  )

  same_row : (o : Option Title) → option_map (node_with (sum_at sums)) o ≡ option_map (node_of_title weights) o
  same_row None = refl
  same_row (Some t) = ap (λ n. Some (record { code = t.code; title = t.title; weight = n })) (kept t.code)

  rows_step : (q : Code) (t : Title) (ts : List Title) (s : Ordering) (b : Bool) → code_cmp t.code q ≡ s →
      nat_lt 0 (sum_at sums t.code) ≡ b
      → row_at code_cmp (λ n. n.code) q (nodes_with (sum_at sums) ts) ≡ cond (nat_lt 0 (sum_at sums q))
      (option_map (node_with (sum_at sums)) (row_at code_cmp (λ x. x.code) q ts)) None
      → row_at code_cmp (λ n. n.code) q (map (node_with (sum_at sums))
      (cond b (t ∷ filter (λ x. nat_lt 0 (sum_at sums x.code)) ts)
      (filter (λ x. nat_lt 0 (sum_at sums x.code)) ts))) ≡ cond (nat_lt 0 (sum_at sums q))
      (option_map (node_with (sum_at sums)) (cond (is_eq s) (Some t) (row_at code_cmp (λ x. x.code) q ts))) None
  rows_step q t ts Equal true e p h = let same : nat_lt 0 (sum_at sums q) ≡ true =
      ap (nat_lt 0) (sym (same_sum sums t.code q e)) ∙ p in rw (e, same) refl
  rows_step q t ts Equal false e p h = let same : nat_lt 0 (sum_at sums q) ≡ false =
      ap (nat_lt 0) (sym (same_sum sums t.code q e)) ∙ p in h ∙ (rw same refl)
  rows_step q t ts Less true e p h = rw e h
  rows_step q t ts Less false e p h = h
  rows_step q t ts Greater true e p h = rw e h
  rows_step q t ts Greater false e p h = h

  rows_with : (q : Code) (ts : List Title) → row_at code_cmp (λ n. n.code) q (nodes_with (sum_at sums) ts) ≡ cond
      (nat_lt 0 (sum_at sums q)) (option_map (node_with (sum_at sums)) (row_at code_cmp (λ x. x.code) q ts)) None
  rows_with q [] = both_same (nat_lt 0 (sum_at sums q)) None
  rows_with q (t ∷ ts) = rows_step q t ts (code_cmp t.code q) (nat_lt 0 (sum_at sums t.code)) refl refl (rows_with q ts)

  pub node_rows : (ts : List Title) (q : Code) →
      row_at code_cmp (λ n. n.code) q (nodes_with (sum_at sums) ts) ≡ node_of_code ts weights q
  node_rows ts q = rows_with q ts ∙ ap (λ b. cond b
      (option_map (node_with (sum_at sums)) (row_at code_cmp (λ x. x.code) q ts)) None) (has_sum q)
      ∙ ap (λ o. cond (is_node weights q) o None) (same_row (row_at code_cmp (λ x. x.code) q ts))

  complete_step : (b any : Bool) (o : Option Title) → is_some o ≡ any → (b && not any) ≡ false →
      is_some (cond b (option_map (node_of_title weights) o) None) ≡ b
  complete_step true true (Some x) h u = refl
  complete_step true true None h u = h
  complete_step true false o h u = cc
  complete_step false any o h u = refl

  pub nodes_complete : (ts : List Title) → ((q : Code) → is_untitled ts weights q ≡ false) → (q : Code) →
      is_node weights q ≡ list_any (λ n. is_same_code n.code q) (nodes_with (sum_at sums) ts)
  nodes_complete ts titled q =
      sym (complete_step (is_node weights q) (list_any (λ t. is_same_code t.code q) ts)
      (row_at code_cmp (λ t. t.code) q ts) (found code_cmp (λ t. t.code) q ts) (titled q))
      ∙ ap is_some (sym (node_rows ts q))
      ∙ found code_cmp (λ n. n.code) q (nodes_with (sum_at sums) ts)

  even : (m n : ℕ) → m ≡ n → (m == n) ≡ true
  even m n e = grind (arith, nat_tests)

  pub all_weighed : (ts : List Title) → list_all (λ n. n.weight == weight_under n.code weights)
      (map (node_with (sum_at sums)) ts) ≡ true
  all_weighed [] = refl
  all_weighed (t ∷ ts) = rw (even (sum_at sums t.code) (weight_under t.code weights) (kept t.code)) (all_weighed ts)

  above_map : (c : Code) (ts : List Title) → AllByRecursion (λ t. code_cmp c t.code ≡ Less) ts →
      AllByRecursion (λ n. code_cmp c n.code ≡ Less) (map (node_with (sum_at sums)) ts)
  above_map c [] h = tt
  above_map c (t ∷ ts) h = (h.0, above_map c ts h.1)

  in_order_map : (ts : List Title) → IsInOrder code_cmp (λ t. t.code) ts →
      IsInOrder code_cmp (λ n. n.code) (map (node_with (sum_at sums)) ts)
  unfolding IsStrictlySortedBy
  in_order_map [] h = tt
  in_order_map (t ∷ ts) h = (above_map t.code ts h.0, in_order_map ts h.1)

  pub nodes_in_order : (ts : List Title) → IsInOrder code_cmp (λ t. t.code) ts →
      IsInOrder code_cmp (λ n. n.code) (nodes_with (sum_at sums) ts)
  nodes_in_order ts h = in_order_map (filter (λ t. nat_lt 0 (sum_at sums t.code)) ts)
      (IsStrictlySortedBy-filter (λ a b. code_cmp a.code b.code) (λ t. nat_lt 0 (sum_at sums t.code)) ts h)

  pub few : total_weight weights ≡ ALL_PARTS → (q : Code) → sum_at sums q < 2 ^ 32
  few whole q = omega (arith, kept q, under_total q weights, whole)

  pub is_plan : (year : ℕ) (titles : List Title) (places : List Place) (reference : Option ℕ) → (2000 ≤ year)
      × (year ≤ 2199) → IsInOrder code_cmp (λ t. t.code) titles → IsInOrder code_cmp (λ w. w.code) weights →
      IsInOrder nat_cmp (λ p. p.item) places
      → are_all_elementary weights places ≡ true → total_weight weights ≡ ALL_PARTS →
      ((q : Code) → is_untitled titles weights q ≡ false) → has_unplaced_item weights places ≡ false →
      is_fit_reference year reference ≡ true
      → IsPlan (plan_with year weights places reference (nodes_with (sum_at sums) titles))
  is_plan year titles places reference y s t u elementary whole titled placed referred = record {
    in_calendar = y;
    nodes_in_order = nodes_in_order titles s;
    weights_in_order = t;
    places_in_order = u;
    elementary = and_first (list_all (λ w. is_code_elementary w.code) weights)
        (list_all (λ p. is_code_elementary p.aggregate) places) elementary;
    positive = positive;
    whole = whole;
    complete = λ q. nodes_complete titles titled q;
    weighed = all_weighed (filter (λ t. nat_lt 0 (sum_at sums t.code)) titles);
    placed = placed;
    referred = referred;
  }

-- ---- the only reference month that was sent is fit, if weights may refer to it
pub fit_alone : (year : ℕ) (months : List ℕ) → has_fit_reference year months ≡ true →
    is_fit_reference year (reference_in months) ≡ true
fit_alone year [] h = refl
fit_alone year (month ∷ []) h = and_first (may_refer_to year month) true h
fit_alone year (month ∷ other ∷ months) h = cc

-- ---- a look-up finds the same row after rows were put in order
module _ {X K : Type 0} {R : K → K → Ordering} (o : IsTotalOrder R) (key : X → K) (k : K) where
  contained : (xs : List X) (x : X) → row_at R key k xs ≡ Some x → Contains xs x × (R (key x) k ≡ Equal)
  contained [] x e = cc
  contained (y ∷ ys) x e = cases (R (key y) k) refl e (λ t. contained ys x t)
    where
      later : Contains ys x → Contains (y ∷ ys) x
      later c = (suc c.0, omega (arith, c.1), c.2)

      cases : (s : Ordering) → R (key y) k ≡ s → cond (is_eq s) (Some y) (row_at R key k ys) ≡ Some x →
          (row_at R key k ys ≡ Some x → Contains ys x × (R (key x) k ≡ Equal)) → Contains (y ∷ ys) x
          × (R (key x) k ≡ Equal)
      cases Equal p e rest = let same : y ≡ x = cc in ((0, omega arith, same), ap (λ z. R (key z) k) (sym same) ∙ p)
      cases Less p e rest = let r = rest e in (later r.0, r.1)
      cases Greater p e rest = let r = rest e in (later r.0, r.1)

  pub row_moved : (xs ys : List X) → IsPermutation xs ys → IsInOrder R key ys → row_at R key k ys ≡ row_at R key k xs
  row_moved xs ys m sorted = cases (row_at R key k xs) refl
    where
      nothing : (r : Option X) → is_some r ≡ false → r ≡ None
      nothing None h = refl
      nothing (Some x) h = cc

      cases : (r : Option X) → row_at R key k xs ≡ r → row_at R key k ys ≡ r
      cases None e = nothing (row_at R key k ys) (found R key k ys
          ∙ sym (list_any-IsPermutation (λ x. is_eq (R (key x) k)) xs ys m) ∙ sym (found R key k xs) ∙ ap is_some e)
      cases (Some x) e =
          let has = contained xs x e in
          let there = Contains-permutation xs ys x m has.0 in
          row_found o key ys sorted k there.0 x there.1 (ap (λ z. R (key z) k) there.2 ∙ has.1)
          ∙ ap (λ z. Some z) there.2
