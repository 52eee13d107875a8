-- The first code of a map of sums that has no title.
use Rattle.std.proofs.Common.{◌≡◌, ℕ, ◌<◌, Bool, true, false, cond, List, [], ◌∷◌, Some, unwrap_or, refl, sym, ap, ◌∙◌}
use Rattle.std.proofs.Common.{arith, ◌&&◌}
use Rattle.std.proofs.lemmas.Bool.Decides.{nat_tests}
use Rattle.std.specs.Prelude.{nat_lt}
use Rattle.std.specs.declared.cmp.Ordering.{Ordering}
use Rattle.std.specs.declared.cmp.Ordering.TheVariants.{Less, Equal, Greater}
use Rattle.std.specs.Ordering.{is_eq, is_gt, ordering_reverse}
use Rattle.std.specs.Map.{keys_of, lookup}
use Rattle.std.specs.List.{list_any, AllByRecursion}
use Rattle.std.specs.List.Sorted.{IsStrictlySortedBy}
use Rattle.std.specs.BTreeMap.{BTreeMap}
use Rattle.std.proofs.lemmas.Cmp.{alike_right}
use Rattle.std.proofs.lemmas.Map.Keys.{sorted_head}
use Rattle.cpi_codes.specs.CodeOrder.{code_cmp, is_same_code}
use Rattle.cpi_codes.specs.declared.codes.Code.{Code}
use Rattle.cpi_codes.specs.contracts.codes.CodeOrd.TheImpl.Laws.{total-law}
use Rattle.cpi_rows.proofs.Truth.{no_true_false}
use Rattle.cpi_plan.specs.declared.plan_rows.Title.{Title}
use Rattle.cpi_plan.specs.Sums.{sum_at}
use Rattle.cpi_plan.specs.Steps.{is_without, IsFirstCode}
use Rattle.cpi_plan.proofs.SumLemmas.{lookup_agree}
use Rattle.cpi_plan.proofs.UnderLemmas.{any_agree}

-- the codes without a title are still to come
abbrev pub Ahead : BTreeMap Code ℕ → List Title → List (Code × ℕ) → Type 0
Ahead sums titles es = (q : Code) → is_without sums titles q ≡ true →
    unwrap_or (lookup (λ k. is_eq (code_cmp q k)) es) 0 ≡ sum_at sums q

positive : (n : ℕ) (b : Bool) → (nat_lt 0 n && b) ≡ true → 0 < n
positive n b h = grind (arith, nat_tests)

found_above : (k q : Code) (es : List (Code × ℕ)) → AllByRecursion (λ y. code_cmp k y ≡ Less) (keys_of es) →
    0 < unwrap_or (lookup (λ y. is_eq (code_cmp q y)) es) 0 → code_cmp k q ≡ Less
found_above k q [] above h = absurd (omega arith)
found_above k q (e ∷ es) above h = cases (code_cmp q e.0) refl h (λ t. found_above k q es above.1 t)
  where
    cases : (s : Ordering) → code_cmp q e.0 ≡ s → 0 < unwrap_or
        (cond (is_eq s) (Some e.1) (lookup (λ y. is_eq (code_cmp q y)) es)) 0 →
        (0 < unwrap_or (lookup (λ y. is_eq (code_cmp q y)) es) 0 → code_cmp k q ≡ Less) → code_cmp k q ≡ Less
    cases Less p h rest = rest h
    cases Equal p h rest = alike_right total-law q e.0 k p ∙ above.0
    cases Greater p h rest = rest h

pub same_sum : (sums : BTreeMap Code ℕ) (q k : Code) → code_cmp q k ≡ Equal → sum_at sums q ≡ sum_at sums k
same_sum sums q k p = ap (λ o. unwrap_or o 0)
    (lookup_agree (λ e. is_eq (code_cmp q e)) (λ e. is_eq (code_cmp k e))
    (λ e. ap is_eq (total-law.congr q k e p)) sums.entries)

pub same_without : (sums : BTreeMap Code ℕ) (titles : List Title) (q k : Code) → code_cmp q k ≡ Equal →
    is_without sums titles q ≡ is_without sums titles k
same_without sums titles q k p =
    let sum : sum_at sums q ≡ sum_at sums k = ap (λ o. unwrap_or o 0)
    (lookup_agree (λ e. is_eq (code_cmp q e)) (λ e. is_eq (code_cmp k e))
    (λ e. ap is_eq (total-law.congr q k e p)) sums.entries) in
    let any : list_any (λ t. is_same_code t.code q) titles ≡ list_any (λ t. is_same_code t.code k) titles =
    any_agree (λ t. is_same_code t.code q) (λ t. is_same_code t.code k)
    (λ t. ap is_eq (alike_right total-law q k t.code p))
    titles in
    rw (sum, any) refl

pub first_at : (sums : BTreeMap Code ℕ) (titles : List Title) (k : Code) (v : ℕ) (es : List (Code × ℕ)) →
    IsStrictlySortedBy code_cmp (keys_of ((k, v) ∷ es)) → Ahead sums titles ((k, v) ∷ es) →
    is_without sums titles k ≡ true → IsFirstCode (is_without sums titles) k
first_at sums titles k v es rising ahead here =
    (here, λ other wanted. cases other wanted (code_cmp other k) refl (ahead other wanted))
  where
    cases : (other : Code) → is_without sums titles other ≡ true → (s : Ordering) → code_cmp other k ≡ s →
        unwrap_or (cond (is_eq s) (Some v) (lookup (λ y. is_eq (code_cmp other y)) es)) 0 ≡ sum_at sums other →
        is_gt (code_cmp k other) ≡ false
    cases other wanted Equal p h = ap is_gt (total-law.antisymm k other ∙ ap ordering_reverse p)
    cases other wanted Less p h = ap is_gt (found_above k other es (sorted_head code_cmp k (keys_of es) rising)
        (omega (arith, h, positive (sum_at sums other) _ wanted)))
    cases other wanted Greater p h = ap is_gt (found_above k other es (sorted_head code_cmp k (keys_of es) rising)
        (omega (arith, h, positive (sum_at sums other) _ wanted)))

pub ahead_after : (sums : BTreeMap Code ℕ) (titles : List Title) (k : Code) (v : ℕ) (es : List (Code × ℕ)) →
    Ahead sums titles ((k, v) ∷ es) → is_without sums titles k ≡ false → Ahead sums titles es
ahead_after sums titles k v es ahead here = λ q wanted. cases q wanted (code_cmp q k) refl (ahead q wanted)
  where
    cases : (q : Code) → is_without sums titles q ≡ true → (s : Ordering) → code_cmp q k ≡ s →
        unwrap_or (cond (is_eq s) (Some v) (lookup (λ y. is_eq (code_cmp q y)) es)) 0 ≡ sum_at sums q →
        unwrap_or (lookup (λ y. is_eq (code_cmp q y)) es) 0 ≡ sum_at sums q
    cases q wanted Equal p h = absurd (no_true_false (sym wanted ∙ same_without sums titles q k p ∙ here))
    cases q wanted Less p h = h
    cases q wanted Greater p h = h
