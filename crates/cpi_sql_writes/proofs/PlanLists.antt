-- A plan whose rows are put in place of those of its year is put among the plans.
use Rattle.std.proofs.Common.{◌≡◌, ◌≢◌, inl, inr, ℕ, zero, suc, ◌+◌, ◌<◌, ◌≤◌}
use Rattle.std.proofs.Common.{◌∷◌, Some, None, Option, refl, sym, ap, subst, ◌∙◌, arith}
use Rattle.std.proofs.lemmas.Bool.Decides.{eqb_tells, nat_tests}
use Rattle.std.specs.Prelude.{filter_map}
use Rattle.std.specs.declared.cmp.Ordering.TheVariants.{Less, Equal}
use Rattle.std.specs.Ordering.{nat_cmp}
use Rattle.std.specs.Cmp.{tied_itself}
use Rattle.std.specs.List.Sorted.{IsStrictlySortedBy}
use Rattle.std.proofs.lemmas.Cmp.{nat_cmp_total}
use Rattle.sqlite_rules.specs.Lists.{Has}
use Rattle.sqlite_rules.proofs.ListLemmas.{all_from}
use Rattle.cpi_rows.specs.Keyed.{IsInOrder, with_row}
use Rattle.cpi_rows.proofs.Places.{put_in_order}
use Rattle.cpi_sql_rows.specs.Lists.{numbers}
use Rattle.cpi_sql_rows.proofs.Listed.{same_in_order, put_has, has_put, put_keeps}
use Rattle.cpi_rows.proofs.Truth.{equal_of_order}
use Rattle.cpi_sql_rows.proofs.Lists.{some_is}
use Rattle.cpi_sql_rows.proofs.Members.{given_has, has_given}

numbers_low : (first n y : ℕ) → Has (numbers first n) y → first ≤ y
numbers_low first zero y h = absurd h
numbers_low first (suc n) y (inl e) = omega (arith, e)
numbers_low first (suc n) y (inr h) = let low = numbers_low (first + 1) n y h in omega (arith, low)

numbers_has : (first n y : ℕ) → first ≤ y → y < first + n → Has (numbers first n) y
numbers_has first zero y h k = absurd (omega (arith, h, k))
numbers_has first (suc n) y h k = elim (eqb_tells y first) [
  | inl is ↦ inl is.1
  | inr other ↦ inr (numbers_has (first + 1) n y (omega (arith, h, other.1)) (omega (arith, k)))
]

module _ {P : Type 0} (key : P → ℕ) where
  below : (a b : ℕ) → a + 1 ≤ b → nat_cmp a b ≡ Less
  below a b h = grind (arith, nat_tests)

  pub made_in_order : (f : ℕ → Option P) → ((y : ℕ) (q : P) → f y ≡ Some q → key q ≡ y) → (first n : ℕ)
      → IsInOrder nat_cmp key (filter_map f (numbers first n))
  unfolding IsStrictlySortedBy
  made_in_order f is first zero = tt
  made_in_order f is first (suc n) = at (f first) refl (made_in_order f is (first + 1) n)
    where
      at : (o : Option P) → f first ≡ o → IsInOrder nat_cmp key (filter_map f (numbers (first + 1) n))
          → IsInOrder nat_cmp key (filter_map f (first ∷ numbers (first + 1) n))
      at None e rest = rw e rest
      at (Some p) e rest = rw e (
        all_from (λ z. nat_cmp (key p) (key z) ≡ Less) (filter_map f (numbers (first + 1) n))
            (λ z h.
            let it = has_given f (numbers (first + 1) n) z h in
            let low = numbers_low (first + 1) n it.0 it.1 in
            below (key p) (key z) (omega (arith, low, is first p e, is it.0 z it.2))),
        rest,
      )

  module _ (f g : ℕ → Option P) (p : P) (f_is : (y : ℕ) (q : P) → f y ≡ Some q → key q ≡ y) (g_is : (y : ℕ) (q : P)
      → g y ≡ Some q → key q ≡ y)
      (here : g (key p) ≡ Some p) (there : (y : ℕ) → y ≢ key p
      → g y ≡ f y) (first n : ℕ) (low : first ≤ key p) (high : key p < first + n) where
    pub made_put : filter_map g (numbers first n) ≡ with_row nat_cmp key p (filter_map f (numbers first n))
    made_put =
        let old = filter_map f (numbers first n) in
        let sorted = made_in_order f f_is first n in
        same_in_order nat_cmp_total key (filter_map g (numbers first n)) (with_row nat_cmp key p old)
        (made_in_order g g_is first n) (put_in_order nat_cmp_total key old p sorted)
        (λ q h.
        let it = has_given g (numbers first n) q h in
        elim (eqb_tells it.0 (key p)) [
          | inl e ↦
              let same : p ≡ q = some_is (sym here ∙ ap g (sym e.1) ∙ it.2) in
              subst (Has (with_row nat_cmp key p old)) same (has_put nat_cmp_total key p old)
          | inr other ↦
              put_keeps nat_cmp_total key p old q (given_has f (numbers first n) it.0 q it.1 (sym (there it.0 other.1)
              ∙ it.2))
              (λ tie. other.1 (sym (g_is it.0 q it.2) ∙ equal_of_order (key q) (key p) tie))
        ])
        (λ q h. elim (put_has nat_cmp_total key p old q h) [
          | inl e ↦ given_has g (numbers first n) (key p) q (numbers_has first n (key p) low high) (here
              ∙ ap Some (sym e))
          | inr was ↦
              let it = has_given f (numbers first n) q was.0 in
              let other : it.0 ≢ key p = λ e. was.1 (subst (λ k. nat_cmp k (key p) ≡ Equal) (sym (f_is it.0 q it.2
              ∙ e)) (tied_itself nat_cmp_total (key p))) in
              given_has g (numbers first n) it.0 q it.1 (there it.0 other ∙ it.2)
        ])
