-- How many arguments a list of fields has.
use Rattle.std.proofs.Common.{◌≡◌, ◌≢◌, refl, true, false, List, [], ◌∷◌, length, get_or, map, None, Some, Bor, arith}
use Rattle.cpi_wire.specs.Arguments.{Text, none, exactly_one, exactly_two, exactly_two_or_three, exactly_four}
use Rattle.cpi_wire.specs.Arguments.{exactly_four_and_confirm, is_confirm, exactly_five, exactly_six}

abbrev pub texts : List (Bor Text) → List Text
texts xs = map (λ a. a.now) xs

pub none_is : (xs : List (Bor Text)) → length xs ≡ 0 → Some tt ≡ none (texts xs)
unfolding none
none_is [] h = refl
none_is (z ∷ xs) h = absurd (omega arith)

pub none_not : (xs : List (Bor Text)) → length xs ≢ 0 → None ≡ none (texts xs)
unfolding none
none_not [] h = absurd (h refl)
none_not (z ∷ xs) h = refl

pub two_is : (xs : List (Bor Text)) (o : Bor Text) → length xs ≡ 2 →
    Some ((get_or xs 0 o).now, (get_or xs 1 o).now) ≡ exactly_two (texts xs)
unfolding exactly_two
two_is [] o h = absurd (omega arith)
two_is (a ∷ []) o h = absurd (omega arith)
two_is (a ∷ b ∷ []) o h = refl
two_is (a ∷ b ∷ z ∷ xs) o h = absurd (omega arith)

pub two_not : (xs : List (Bor Text)) → length xs ≢ 2 → None ≡ exactly_two (texts xs)
unfolding exactly_two
two_not [] h = refl
two_not (a ∷ []) h = refl
two_not (a ∷ b ∷ []) h = absurd (h refl)
two_not (a ∷ b ∷ z ∷ xs) h = refl

pub one_is : (xs : List (Bor Text)) (o : Bor Text) → length xs ≡ 1 → Some (get_or xs 0 o).now ≡ exactly_one (texts xs)
unfolding exactly_one
one_is [] o h = absurd (omega arith)
one_is (a ∷ []) o h = refl
one_is (a ∷ z ∷ xs) o h = absurd (omega arith)

pub one_not : (xs : List (Bor Text)) → length xs ≢ 1 → None ≡ exactly_one (texts xs)
unfolding exactly_one
one_not [] h = refl
one_not (a ∷ []) h = absurd (h refl)
one_not (a ∷ z ∷ xs) h = refl

pub confirm_four : (xs : List (Bor Text)) (o : Bor Text) → length xs ≡ 4 →
    Some ((get_or xs 0 o).now, (get_or xs 1 o).now, (get_or xs 2 o).now, (get_or xs 3 o).now, false) ≡
    exactly_four_and_confirm (texts xs)
unfolding exactly_four_and_confirm
confirm_four [] o h = absurd (omega arith)
confirm_four (a ∷ []) o h = absurd (omega arith)
confirm_four (a ∷ b ∷ []) o h = absurd (omega arith)
confirm_four (a ∷ b ∷ c ∷ []) o h = absurd (omega arith)
confirm_four (a ∷ b ∷ c ∷ d ∷ []) o h = refl
confirm_four (a ∷ b ∷ c ∷ d ∷ e ∷ []) o h = absurd (omega arith)
confirm_four (a ∷ b ∷ c ∷ d ∷ e ∷ z ∷ xs) o h = absurd (omega arith)

pub confirm_five : (xs : List (Bor Text)) (o : Bor Text) → length xs ≡ 5 → is_confirm (get_or xs 4 o).now ≡ true →
    Some ((get_or xs 0 o).now, (get_or xs 1 o).now, (get_or xs 2 o).now, (get_or xs 3 o).now, true) ≡
    exactly_four_and_confirm
    (texts xs)
unfolding exactly_four_and_confirm
confirm_five [] o h yes_it = absurd (omega arith)
confirm_five (a ∷ []) o h yes_it = absurd (omega arith)
confirm_five (a ∷ b ∷ []) o h yes_it = absurd (omega arith)
confirm_five (a ∷ b ∷ c ∷ []) o h yes_it = absurd (omega arith)
confirm_five (a ∷ b ∷ c ∷ d ∷ []) o h yes_it = absurd (omega arith)
confirm_five (a ∷ b ∷ c ∷ d ∷ e ∷ []) o h yes_it = rw yes_it refl
confirm_five (a ∷ b ∷ c ∷ d ∷ e ∷ z ∷ xs) o h yes_it = absurd (omega arith)

pub confirm_other : (xs : List (Bor Text)) (o : Bor Text) → length xs ≡ 5 → is_confirm (get_or xs 4 o).now ≡ false →
    None ≡ exactly_four_and_confirm (texts xs)
unfolding exactly_four_and_confirm
confirm_other [] o h not_it = absurd (omega arith)
confirm_other (a ∷ []) o h not_it = absurd (omega arith)
confirm_other (a ∷ b ∷ []) o h not_it = absurd (omega arith)
confirm_other (a ∷ b ∷ c ∷ []) o h not_it = absurd (omega arith)
confirm_other (a ∷ b ∷ c ∷ d ∷ []) o h not_it = absurd (omega arith)
confirm_other (a ∷ b ∷ c ∷ d ∷ e ∷ []) o h not_it = rw not_it refl
confirm_other (a ∷ b ∷ c ∷ d ∷ e ∷ z ∷ xs) o h not_it = absurd (omega arith)

pub confirm_not : (xs : List (Bor Text)) → length xs ≢ 4 → length xs ≢ 5 → None ≡ exactly_four_and_confirm (texts xs)
unfolding exactly_four_and_confirm
confirm_not [] h i = refl
confirm_not (a ∷ []) h i = refl
confirm_not (a ∷ b ∷ []) h i = refl
confirm_not (a ∷ b ∷ c ∷ []) h i = refl
confirm_not (a ∷ b ∷ c ∷ d ∷ []) h i = absurd (h refl)
confirm_not (a ∷ b ∷ c ∷ d ∷ e ∷ []) h i = absurd (i refl)
confirm_not (a ∷ b ∷ c ∷ d ∷ e ∷ z ∷ xs) h i = refl

pub four_is : (xs : List (Bor Text)) (o : Bor Text) → length xs ≡ 4 →
    Some ((get_or xs 0 o).now, (get_or xs 1 o).now, (get_or xs 2 o).now, (get_or xs 3 o).now) ≡ exactly_four (texts xs)
unfolding exactly_four
four_is [] o h = absurd (omega arith)
four_is (a ∷ []) o h = absurd (omega arith)
four_is (a ∷ b ∷ []) o h = absurd (omega arith)
four_is (a ∷ b ∷ c ∷ []) o h = absurd (omega arith)
four_is (a ∷ b ∷ c ∷ d ∷ []) o h = refl
four_is (a ∷ b ∷ c ∷ d ∷ z ∷ xs) o h = absurd (omega arith)

pub four_not : (xs : List (Bor Text)) → length xs ≢ 4 → None ≡ exactly_four (texts xs)
unfolding exactly_four
four_not [] h = refl
four_not (a ∷ []) h = refl
four_not (a ∷ b ∷ []) h = refl
four_not (a ∷ b ∷ c ∷ []) h = refl
four_not (a ∷ b ∷ c ∷ d ∷ []) h = absurd (h refl)
four_not (a ∷ b ∷ c ∷ d ∷ z ∷ xs) h = refl

pub five_is : (xs : List (Bor Text)) (o : Bor Text) → length xs ≡ 5 →
    Some ((get_or xs 0 o).now, (get_or xs 1 o).now, (get_or xs 2 o).now, (get_or xs 3 o).now, (get_or xs 4 o).now) ≡
    exactly_five (texts xs)
unfolding exactly_five
five_is [] o h = absurd (omega arith)
five_is (a ∷ []) o h = absurd (omega arith)
five_is (a ∷ b ∷ []) o h = absurd (omega arith)
five_is (a ∷ b ∷ c ∷ []) o h = absurd (omega arith)
five_is (a ∷ b ∷ c ∷ d ∷ []) o h = absurd (omega arith)
five_is (a ∷ b ∷ c ∷ d ∷ e ∷ []) o h = refl
five_is (a ∷ b ∷ c ∷ d ∷ e ∷ z ∷ xs) o h = absurd (omega arith)

pub five_not : (xs : List (Bor Text)) → length xs ≢ 5 → None ≡ exactly_five (texts xs)
unfolding exactly_five
five_not [] h = refl
five_not (a ∷ []) h = refl
five_not (a ∷ b ∷ []) h = refl
five_not (a ∷ b ∷ c ∷ []) h = refl
five_not (a ∷ b ∷ c ∷ d ∷ []) h = refl
five_not (a ∷ b ∷ c ∷ d ∷ e ∷ []) h = absurd (h refl)
five_not (a ∷ b ∷ c ∷ d ∷ e ∷ z ∷ xs) h = refl

pub six_is : (xs : List (Bor Text)) (o : Bor Text) → length xs ≡ 6 →
    Some (
      (get_or xs 0 o).now,
      (get_or xs 1 o).now,
      (get_or xs 2 o).now,
      (get_or xs 3 o).now,
      (get_or xs 4 o).now,
      (get_or xs 5 o).now,
    ) ≡ exactly_six (texts xs)
unfolding exactly_six
six_is [] o h = absurd (omega arith)
six_is (a ∷ []) o h = absurd (omega arith)
six_is (a ∷ b ∷ []) o h = absurd (omega arith)
six_is (a ∷ b ∷ c ∷ []) o h = absurd (omega arith)
six_is (a ∷ b ∷ c ∷ d ∷ []) o h = absurd (omega arith)
six_is (a ∷ b ∷ c ∷ d ∷ e ∷ []) o h = absurd (omega arith)
six_is (a ∷ b ∷ c ∷ d ∷ e ∷ f ∷ []) o h = refl
six_is (a ∷ b ∷ c ∷ d ∷ e ∷ f ∷ z ∷ xs) o h = absurd (omega arith)

pub six_not : (xs : List (Bor Text)) → length xs ≢ 6 → None ≡ exactly_six (texts xs)
unfolding exactly_six
six_not [] h = refl
six_not (a ∷ []) h = refl
six_not (a ∷ b ∷ []) h = refl
six_not (a ∷ b ∷ c ∷ []) h = refl
six_not (a ∷ b ∷ c ∷ d ∷ []) h = refl
six_not (a ∷ b ∷ c ∷ d ∷ e ∷ []) h = refl
six_not (a ∷ b ∷ c ∷ d ∷ e ∷ f ∷ []) h = absurd (h refl)
six_not (a ∷ b ∷ c ∷ d ∷ e ∷ f ∷ z ∷ xs) h = refl

pub third_none : (xs : List (Bor Text)) (o : Bor Text) → length xs ≡ 2 →
    Some ((get_or xs 0 o).now, (get_or xs 1 o).now, None) ≡ exactly_two_or_three (texts xs)
unfolding exactly_two_or_three
third_none [] o h = absurd (omega arith)
third_none (a ∷ []) o h = absurd (omega arith)
third_none (a ∷ b ∷ []) o h = refl
third_none (a ∷ b ∷ c ∷ []) o h = absurd (omega arith)
third_none (a ∷ b ∷ c ∷ z ∷ xs) o h = absurd (omega arith)

pub third_is : (xs : List (Bor Text)) (o : Bor Text) → length xs ≡ 3 →
    Some ((get_or xs 0 o).now, (get_or xs 1 o).now, Some (get_or xs 2 o).now) ≡ exactly_two_or_three (texts xs)
unfolding exactly_two_or_three
third_is [] o h = absurd (omega arith)
third_is (a ∷ []) o h = absurd (omega arith)
third_is (a ∷ b ∷ []) o h = absurd (omega arith)
third_is (a ∷ b ∷ c ∷ []) o h = refl
third_is (a ∷ b ∷ c ∷ z ∷ xs) o h = absurd (omega arith)

pub third_not : (xs : List (Bor Text)) → length xs ≢ 2 → length xs ≢ 3 → None ≡ exactly_two_or_three (texts xs)
unfolding exactly_two_or_three
third_not [] h i = refl
third_not (a ∷ []) h i = refl
third_not (a ∷ b ∷ []) h i = absurd (h refl)
third_not (a ∷ b ∷ c ∷ []) h i = absurd (i refl)
third_not (a ∷ b ∷ c ∷ z ∷ xs) h i = refl
