-- Whether a slot has a quote of a month or of a later one: its last quote tells.
use Rattle.std.proofs.Common.{◌≡◌, ℕ, ◌-◌, ◌≤◌, Bool, true, false, List, [], ◌∷◌, Some, None, refl, sym, ap, ◌∙◌, arith}
use Rattle.std.proofs.Common.{length, get_or, suc}
use Rattle.std.specs.Prelude.{filter, nat_le, ◌&&◌, ◌||◌, ◌==◌}
use Rattle.std.specs.List.{AllByRecursion, slice_get}
use Rattle.std.specs.declared.cmp.Ordering.{Ordering}
use Rattle.std.specs.declared.cmp.Ordering.TheVariants.{Less, Equal, Greater}
use Rattle.std.specs.Ordering.{nat_cmp, is_le}
use Rattle.std.proofs.lemmas.Bool.{and_parts, eqb-true, leb-true, le-leb, lt-leb}
use Rattle.std.proofs.lemmas.Cmp.{ranked}
use Rattle.std.proofs.lemmas.List.Elements.{filter_passes, recursion_from_All}
use Rattle.std.proofs.lemmas.Map.Keys.{sorted_head, sorted_tail}
use Rattle.std.proofs.lemmas.Map.Views.{any-filter_same}
use Rattle.std.proofs.lemmas.Option.{slice_get-get_or}
use Rattle.cpi_rows.specs.Keyed.{IsInOrder}
use Rattle.cpi_survey.specs.Quote.{QuoteRow, quote_cmp, quote_key}
use Rattle.cpi_survey.specs.Slots.{is_in_slot}
use Rattle.cpi_survey.specs.Within.{has_quotes_since, stands_since}
use Rattle.cpi_survey.proofs.Latest.{below_key}

-- the comparison's answer is the test's
pub is_le_tells : (a b : ℕ) → is_le (nat_cmp a b) ≡ nat_le a b
is_le_tells a b = cases (nat_cmp a b) refl
  where
    cases : (s : Ordering) → nat_cmp a b ≡ s → is_le (nat_cmp a b) ≡ nat_le a b
    cases Less e = let less = ranked a b Less (sym e) in ap is_le e ∙ sym (le-leb a b (omega (arith, less)))
    cases Equal e = let same = ranked a b Equal (sym e) in ap is_le e ∙ sym (le-leb a b (omega (arith, same)))
    cases Greater e = let greater = ranked a b Greater (sym e) in ap is_le e ∙ sym (lt-leb a b (omega (arith, greater)))

-- the quotes of other slots don't count
of_slot : (slot month : ℕ) (all : List QuoteRow) →
    has_quotes_since slot month (filter (is_in_slot slot) all) ≡ has_quotes_since slot month all
of_slot slot month all = any-filter_same (stands_since slot month) (is_in_slot slot) true
    (λ q since. (and_parts (q.slot == slot) (nat_le month q.month) since).0) all

-- a quote of the slot counts only by its month
own_since : (slot month : ℕ) (q : QuoteRow) → is_in_slot slot q ≡ true →
    stands_since slot month q ≡ nat_le month q.month
own_since slot month q own = ap (λ same. same && nat_le month q.month) own

either_way : (month earlier later : ℕ) (rest : Bool) → earlier ≤ later → (nat_le month later ≡ true → rest ≡ true) →
    (nat_le month earlier || rest) ≡ rest
either_way month earlier later rest le settles = cases (nat_le month earlier) refl
  where
    cases : (s : Bool) → nat_le month earlier ≡ s → (s || rest) ≡ rest
    cases true e = let reached = leb-true month earlier e in
        sym (settles (le-leb month later (omega (arith, le, reached))))
    cases false e = refl

-- the last of the quotes of a slot tells for all of them
last_tells : (slot month : ℕ) (qs : List QuoteRow) (q : QuoteRow) → IsInOrder quote_cmp quote_key qs →
    AllByRecursion (λ x. is_in_slot slot x ≡ true) qs → slice_get qs (length qs - 1) ≡ Some q →
    nat_le month q.month ≡ has_quotes_since slot month qs
last_tells slot month [] q sorted own last = let wrong : None ≡ Some q = last in cc
last_tells slot month (x ∷ []) q sorted own last =
    let same : x ≡ q = (let here : Some x ≡ Some q = last in cc) in
    cases (nat_le month x.month) refl same
  where
    cases : (s : Bool) → nat_le month x.month ≡ s → x ≡ q → nat_le month q.month ≡ has_quotes_since slot month (x ∷ [])
    cases true e same = rw (← same) (rw (own_since slot month x own.0, e) refl)
    cases false e same = rw (← same) (rw (own_since slot month x own.0, e) refl)
last_tells slot month (x ∷ y ∷ ys) q sorted own last =
    let next = below_key (quote_key x) (quote_key y) (sorted_head _ x (y ∷ ys) sorted).0 in
    let same : x.slot ≡ y.slot = eqb-true x.slot slot own.0 ∙ sym (eqb-true y.slot slot own.1.0) in
    let place : suc (length (y ∷ ys) - 1) ≡ length (x ∷ y ∷ ys) - 1 = omega arith in
    let rest = last_tells slot month (y ∷ ys) q (sorted_tail _ x (y ∷ ys) sorted) own.1
    (ap (slice_get (x ∷ y ∷ ys)) place ∙ last) in
    let later = next.1 same in
    rest
    ∙ sym (
    ap (λ first. first || has_quotes_since slot month (y ∷ ys)) (own_since slot month x own.0)
    ∙ either_way month x.month y.month (has_quotes_since slot month (y ∷ ys)) (omega (arith, later))
    (λ e. rw (own_since slot month y own.1.0, e) refl)
    )

none_tells : (slot month : ℕ) (qs : List QuoteRow) → slice_get qs (length qs - 1) ≡ None →
    false ≡ has_quotes_since slot month qs
none_tells slot month [] last = refl
none_tells slot month (x ∷ qs) last =
    let there : slice_get (x ∷ qs) (length (x ∷ qs) - 1) ≡ Some (get_or (x ∷ qs) (length (x ∷ qs) - 1) x) =
    slice_get-get_or (x ∷ qs) (length (x ∷ qs) - 1) x (omega arith) in
    let wrong : None ≡ Some (get_or (x ∷ qs) (length (x ∷ qs) - 1) x) = sym last ∙ there in cc

-- the same of all quotes, if the slot's own are known
pub since_last : (slot month : ℕ) (own all : List QuoteRow) (q : QuoteRow) → own ≡ filter (is_in_slot slot) all →
    IsInOrder quote_cmp quote_key own → slice_get own (length own - 1) ≡ Some q →
    nat_le month q.month ≡ has_quotes_since slot month all
since_last slot month own all q is sorted last =
    last_tells slot month own q sorted (rw is (recursion_from_All _ _ (filter_passes (is_in_slot slot) all))) last
    ∙ ap (has_quotes_since slot month) is ∙ of_slot slot month all

pub since_none : (slot month : ℕ) (own all : List QuoteRow) → own ≡ filter (is_in_slot slot) all →
    slice_get own (length own - 1) ≡ None → false ≡ has_quotes_since slot month all
since_none slot month own all is none = none_tells slot month own none ∙ ap (has_quotes_since slot month) is
    ∙ of_slot slot month all
