-- Facts of rows that stay true when the rows change places.
use Rattle.std.proofs.Common.{◌≡◌, ℕ, ◌+◌, Bool, true, false, cond, List, [], ◌∷◌, filter, sum_by, refl, sym, ap, ◌∙◌}
use Rattle.std.proofs.Common.{arith, ◌&&◌, ◌||◌, not}
use Rattle.std.specs.List.{list_any, list_all}
use Rattle.std.specs.List.Sorted.{IsPermutation}
use Rattle.std.proofs.lemmas.List.Sorted.{list_any-IsPermutation, sum_by-IsPermutation}
use Rattle.std.proofs.lemmas.List.Sums.{sum_by-cons}
use Rattle.cpi_codes.specs.CodeText.{is_code_at_or_below}
use Rattle.cpi_codes.specs.declared.codes.Code.{Code}
use Rattle.cpi_plan.specs.declared.plan_rows.Weight.{Weight}
use Rattle.cpi_plan.specs.Sums.{weight_under}

not_step : (a b c : Bool) → b ≡ not c → (a && b) ≡ not (not a || c)
not_step true b c h = h
not_step false b c h = refl

all_any : {X : Type 0} (p : X → Bool) (xs : List X) → list_all p xs ≡ not (list_any (λ x. not (p x)) xs)
all_any p [] = refl
all_any p (x ∷ xs) = not_step (p x) (list_all p xs) (list_any (λ y. not (p y)) xs) (all_any p xs)

pub all_moved : {X : Type 0} (p : X → Bool) (xs ys : List X) → IsPermutation xs ys → list_all p xs ≡ list_all p ys
all_moved p xs ys m = all_any p xs ∙ ap not (list_any-IsPermutation (λ x. not (p x)) xs ys m) ∙ sym (all_any p ys)

part_step : {X : Type 0} (f : X → ℕ) (p : X → Bool) (x : X) (xs : List X) (b : Bool) → p x ≡ b →
    sum_by f (filter p xs) ≡ sum_by (λ y. cond (p y) (f y) 0) xs →
    sum_by f (cond b (x ∷ filter p xs) (filter p xs)) ≡ cond b (f x) 0 + sum_by (λ y. cond (p y) (f y) 0) xs
part_step f p x xs true e h = sum_by-cons f x (filter p xs) ∙ ap (λ n. f x + n) h
part_step f p x xs false e h = h ∙ omega arith

part_sum : {X : Type 0} (f : X → ℕ) (p : X → Bool) (xs : List X) →
    sum_by f (filter p xs) ≡ sum_by (λ y. cond (p y) (f y) 0) xs
part_sum f p [] = refl
part_sum f p (x ∷ xs) = part_step f p x xs (p x) refl (part_sum f p xs)
    ∙ sym (sum_by-cons (λ y. cond (p y) (f y) 0) x xs)

pub weight_moved : (q : Code) (xs ys : List Weight) → IsPermutation xs ys → weight_under q ys ≡ weight_under q xs
weight_moved q xs ys m =
    let f : Weight → ℕ = λ w. w.parts in
    let p : Weight → Bool = λ w. is_code_at_or_below q w.code in
    part_sum f p ys ∙ sum_by-IsPermutation (λ w. cond (p w) (f w) 0) xs ys m ∙ sym (part_sum f p xs)
