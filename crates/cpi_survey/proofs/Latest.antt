-- The latest quote that passes, among quotes by slot and month.
use Rattle.std.proofs.Common.{◌≡◌, ◌≢◌, ℕ, ◌<◌, ◌≤◌, Bool, true, false, List, [], ◌∷◌, ◌++◌, Some, None, refl, sym, ap}
use Rattle.std.proofs.Common.{◌∙◌, arith, inl, inr, length, take, get_or, zero, suc}
use Rattle.std.specs.Prelude.{filter, nat_lt, ◌&&◌, ◌==◌, is_some, Ok, Err}
use Rattle.std.specs.List.{AllByRecursion}
use Rattle.std.specs.declared.cmp.Ordering.{Ordering}
use Rattle.std.specs.declared.cmp.Ordering.TheVariants.{Less, Equal, Greater}
use Rattle.std.specs.Ordering.{nat_cmp, is_lt, ordering_reverse}
use Rattle.std.specs.Cmp.{IsTotalOrder}
use Rattle.std.proofs.lemmas.Cmp.{then_total, on_total, nat_cmp_total, ranked, alike_right}
use Rattle.std.proofs.lemmas.Bool.{le-ltb, lt-ltb, ltb-true, eqb-true, eq-eqb, ne_eqb, and_parts, and_from}
use Rattle.std.proofs.lemmas.Bool.{false_from_ne_true, cases_lt, both_ways}
use Rattle.std.proofs.lemmas.Bool.Decides.{nat_tests}
use Rattle.std.specs.List.Sorted.{IsStrictlySortedBy}
use Rattle.std.proofs.lemmas.List.Kept.{IsStrictlySortedBy-filter}
use Rattle.std.proofs.lemmas.Map.Keys.{sorted_head, sorted_tail, Less-from_sorted}
use Rattle.cpi_rows.specs.Keyed.{IsInOrder, IsPlace}
use Rattle.cpi_survey.specs.Mark.{observed_price}
use Rattle.cpi_survey.specs.Quote.{QuoteRow, quote_cmp, quote_key}
use Rattle.cpi_survey.specs.LastPrice.{latest_quote, is_earlier}

pub quote_order : IsTotalOrder quote_cmp
quote_order = then_total (on_total (λ (k : ℕ × ℕ). k.0) nat_cmp_total) (on_total (λ (k : ℕ × ℕ). k.1) nat_cmp_total)

-- a key below another has a smaller slot, or the same slot and an earlier month
pub below_key : (a b : ℕ × ℕ) → quote_cmp a b ≡ Less → (a.0 ≤ b.0) × (a.0 ≡ b.0 → a.1 < b.1)
below_key a b less = cases (nat_cmp a.0 b.0) (nat_cmp a.1 b.1) refl refl
  where
    cases : (s t : Ordering) → nat_cmp a.0 b.0 ≡ s → nat_cmp a.1 b.1 ≡ t → (a.0 ≤ b.0) × (a.0 ≡ b.0 → a.1 < b.1)
    cases Less t p q = let less = ranked a.0 b.0 Less (sym p) in (omega arith, λ same. absurd (omega arith))
    cases Equal Less p q = let same = ranked a.0 b.0 Equal (sym p) in let less = ranked a.1 b.1 Less (sym q) in
        (omega arith, λ _. omega arith)
    cases Equal Equal p q = let wrong : Equal ≡ Less = rw (p, q) at less in cc
    cases Equal Greater p q = let wrong : Greater ≡ Less = rw (p, q) at less in cc
    cases Greater t p q = let wrong : Greater ≡ Less = rw p at less in cc

module _ (passes : QuoteRow → Bool) where
  -- where none passes there is no latest
  pub latest_none : (qs : List QuoteRow) → AllByRecursion (λ q. passes q ≡ false) qs → latest_quote passes qs ≡ None
  latest_none [] all = refl
  latest_none (q ∷ qs) all = rw all.0 (latest_none qs all.1)

  -- rows that cannot pass may be left out
  pub latest_filter : (keeps : QuoteRow → Bool) → ((q : QuoteRow) → keeps q ≡ false → passes q ≡ false) →
      (qs : List QuoteRow) → latest_quote passes qs ≡ latest_quote passes (filter keeps qs)
  latest_filter keeps out [] = refl
  latest_filter keeps out (q ∷ qs) = cases (keeps q) refl (latest_filter keeps out qs)
    where
      cases : (s : Bool) → keeps q ≡ s → latest_quote passes qs ≡ latest_quote passes (filter keeps qs) →
          latest_quote passes (q ∷ qs) ≡ latest_quote passes (filter keeps (q ∷ qs))
      cases true e rest = rw (e, rest) refl
      cases false e rest = rw (e, out q e) rest

  -- a last row that passes, of no earlier month than the others that pass, is the latest
  pub latest_last : (qs : List QuoteRow) (q : QuoteRow) → passes q ≡ true →
      AllByRecursion (λ x. passes x ≡ true → x.month ≤ q.month) qs → latest_quote passes (qs ++ q ∷ []) ≡ Some q
  latest_last [] q e all = rw e refl
  latest_last (x ∷ qs) q e all = cases (passes x) refl (latest_last qs q e all.1)
    where
      cases : (s : Bool) → passes x ≡ s → latest_quote passes (qs ++ q ∷ []) ≡ Some q → latest_quote passes
          (x ∷ qs ++ q ∷ []) ≡ Some q
      cases true p rest = rw (p, rest, le-ltb q.month x.month (all.0 p)) refl
      cases false p rest = rw (p, rest) refl

-- ---- the rows before a place

filter_front : {X : Type 0} (p : X → Bool) (xs : List X) (i : ℕ) → i ≤ length xs →
    ((j : ℕ) (d : X) → j < i → p (get_or xs j d) ≡ true) →
    ((j : ℕ) (d : X) → i ≤ j → j < length xs → p (get_or xs j d) ≡ false) → take i xs ≡ filter p xs
filter_front p [] zero le hits misses = refl
filter_front p [] (suc i) le hits misses = refl
filter_front p (x ∷ xs) zero le hits misses =
    rw (misses 0 x (omega arith) (omega arith)) (filter_front p xs zero (omega arith) (λ j d lt. absurd (omega arith))
    (λ j d ge lt. misses (suc j) d (omega arith) (omega arith)))
filter_front p (x ∷ xs) (suc i) le hits misses =
    rw (hits 0 x (omega arith)) (ap (λ ys. x ∷ ys)
    (filter_front p xs i (omega arith) (λ j d lt. hits (suc j) d (omega arith))
    (λ j d ge lt. misses (suc j) d (omega arith) (omega arith))))

abbrev is_below : ℕ × ℕ → QuoteRow → Bool
is_below k q = is_lt (quote_cmp (quote_key q) k)

-- the rows before the place of a key are those below it
pub before_gap : (k : ℕ × ℕ) (qs : List QuoteRow) (i : ℕ) → IsPlace quote_cmp quote_key k qs (Err i) →
    take i qs ≡ filter (is_below k) qs
before_gap k qs i place = filter_front (is_below k) qs i place.0 (λ j d lt. ap is_lt (place.1 j d lt))
    (λ j d ge lt. ap is_lt (place.2 j d ge lt))

pub before_row : (k : ℕ × ℕ) (qs : List QuoteRow) → IsInOrder quote_cmp quote_key qs → (i : ℕ) →
    IsPlace quote_cmp quote_key k qs (Ok i) → take i qs ≡ filter (is_below k) qs
before_row k qs sorted i place =
    let o = quote_order in
    filter_front (is_below k) qs i (omega (arith, place.0))
    (λ j d lt. ap is_lt (sym (alike_right o (quote_key (get_or qs i d)) k (quote_key (get_or qs j d)) (place.1 d))
    ∙ Less-from_sorted (λ a b. quote_cmp (quote_key a) (quote_key b)) qs j i d sorted lt place.0))
    (λ j d ge in_range. elim (cases_lt i j) [
      | inl past ↦ ap is_lt (o.antisymm (quote_key (get_or qs j d)) k
          ∙ ap ordering_reverse (sym (o.congr (quote_key (get_or qs i d)) k (quote_key (get_or qs j d)) (place.1 d))
          ∙ Less-from_sorted (λ a b. quote_cmp (quote_key a) (quote_key b)) qs i j d sorted past in_range))
      | inr upto ↦ let same : j ≡ i = omega arith in rw same (ap is_lt (place.1 d))
    ])

all_below : (k : ℕ × ℕ) (qs : List QuoteRow) → AllByRecursion (λ q. quote_cmp (quote_key q) k ≡ Less)
    (filter (is_below k) qs)
all_below k [] = tt
all_below k (q ∷ qs) = cases (quote_cmp (quote_key q) k) refl (all_below k qs)
  where
    cases : (s : Ordering) → quote_cmp (quote_key q) k ≡ s → AllByRecursion (λ q. quote_cmp (quote_key q) k ≡ Less)
        (filter (is_below k) qs) → AllByRecursion (λ q. quote_cmp (quote_key q) k ≡ Less) (filter (is_below k) (q ∷ qs))
    cases Less e rest = rw (ap is_lt e) (e, rest)
    cases Equal e rest = rw (ap is_lt e) rest
    cases Greater e rest = rw (ap is_lt e) rest

-- an earlier quote of the slot is below the slot and the month
earlier_below : (slot month : ℕ) (q : QuoteRow) → is_earlier slot month q ≡ true → (q.slot ≡ slot) × (q.month < month)
earlier_below slot month q passes =
    let parts = and_parts (q.slot == slot) (nat_lt q.month month)
    (and_parts (q.slot == slot && nat_lt q.month month) _ passes).0 in
    (eqb-true q.slot slot parts.0, ltb-true q.month month parts.1)

not_below : (slot month : ℕ) (q : QuoteRow) → is_below (slot, month) q ≡ false → is_earlier slot month q ≡ false
not_below slot month q e = false_from_ne_true (is_earlier slot month q) (λ passes.
    let at = earlier_below slot month q passes in
    let below : is_below (slot, month) q ≡ true = rw (at.0, lt-ltb q.month month at.1) (grind (arith, nat_tests)) in
    both_ways (is_below (slot, month) q) e below)

-- what the walk back starts from
pub record Starts (slot month : ℕ) (qs earlier : List QuoteRow) : Type 0 where
  pub order : IsInOrder quote_cmp quote_key earlier
  pub below : AllByRecursion (λ q. quote_cmp (quote_key q) (slot, month) ≡ Less) earlier
  pub latest : latest_quote (is_earlier slot month) qs ≡ latest_quote (is_earlier slot month) earlier

pub starts : (slot month : ℕ) (qs earlier : List QuoteRow) → IsInOrder quote_cmp quote_key qs →
    earlier ≡ filter (is_below (slot, month)) qs → Starts slot month qs earlier
starts slot month qs earlier sorted is = record {
  order = rw is (IsStrictlySortedBy-filter _ _ qs sorted);
  below = rw is (all_below (slot, month) qs);
  latest = rw is (latest_filter (is_earlier slot month) (is_below (slot, month)) (not_below slot month) qs);
}

-- ---- the last row

below_last : (qs : List QuoteRow) (q : QuoteRow) → IsInOrder quote_cmp quote_key (qs ++ q ∷ []) →
    AllByRecursion (λ x. quote_cmp (quote_key x) (quote_key q) ≡ Less) qs
below_last [] q sorted = tt
below_last (x ∷ qs) q sorted = (
  head qs (sorted_head _ x (qs ++ q ∷ []) sorted),
  below_last qs q (sorted_tail _ x (qs ++ q ∷ []) sorted),
)
  where
    head : (ys : List QuoteRow) → AllByRecursion (λ y. quote_cmp (quote_key x) (quote_key y) ≡ Less) (ys ++ q ∷ []) →
        quote_cmp (quote_key x) (quote_key q) ≡ Less
    head [] all = all.0
    head (y ∷ ys) all = head ys all.1

at_last : (P : QuoteRow → Type 0) (qs : List QuoteRow) (q : QuoteRow) → AllByRecursion P (qs ++ q ∷ []) → P q
at_last P [] q all = all.0
at_last P (x ∷ qs) q all = at_last P qs q all.1

front_all : {X : Type 0} (P : X → Type 0) (xs : List X) (x : X) → AllByRecursion P (xs ++ x ∷ []) → AllByRecursion P xs
front_all P [] x all = tt
front_all P (y ∷ xs) x all = (all.0, front_all P xs x all.1)

sorted_front : {X : Type 0} (c : X → X → Ordering) (xs : List X) (x : X) → IsStrictlySortedBy c (xs ++ x ∷ []) →
    IsStrictlySortedBy c xs
unfolding IsStrictlySortedBy
sorted_front c [] x sorted = tt
sorted_front c (y ∷ xs) x sorted = (front_all (λ z. c y z ≡ Less) xs x sorted.0, sorted_front c xs x sorted.1)

latest_front : (passes : QuoteRow → Bool) (qs : List QuoteRow) (q : QuoteRow) → passes q ≡ false →
    latest_quote passes (qs ++ q ∷ []) ≡ latest_quote passes qs
latest_front passes [] q e = rw e refl
latest_front passes (x ∷ qs) q e = rw (latest_front passes qs q e) refl

-- a last row in which no price was observed may be left out
pub without_last : (slot month : ℕ) (qs : List QuoteRow) (q : QuoteRow) → observed_price q.mark ≡ None →
    latest_quote (is_earlier slot month) (qs ++ q ∷ []) ≡ latest_quote (is_earlier slot month) qs
without_last slot month qs q none = latest_front (is_earlier slot month) qs q
    (cases (q.slot == slot && nat_lt q.month month))
  where
    cases : (earlier : Bool) → (earlier && is_some (observed_price q.mark)) ≡ false
    cases true = ap is_some none
    cases false = refl

pub front_in_order : (qs : List QuoteRow) (q : QuoteRow) → IsInOrder quote_cmp quote_key (qs ++ q ∷ []) →
    IsInOrder quote_cmp quote_key qs
front_in_order qs q sorted = sorted_front (λ a b. quote_cmp (quote_key a) (quote_key b)) qs q sorted

pub front_below : (k : ℕ × ℕ) (qs : List QuoteRow) (q : QuoteRow) →
    AllByRecursion (λ q. quote_cmp (quote_key q) k ≡ Less) (qs ++ q ∷ []) →
    AllByRecursion (λ q. quote_cmp (quote_key q) k ≡ Less) qs
front_below k qs q all = front_all (λ q. quote_cmp (quote_key q) k ≡ Less) qs q all

-- a last row of another slot: the slot has none
pub latest_other : (slot month : ℕ) (qs : List QuoteRow) (q : QuoteRow) →
    IsInOrder quote_cmp quote_key (qs ++ q ∷ []) → AllByRecursion (λ q. quote_cmp (quote_key q) (slot, month) ≡ Less)
    (qs ++ q ∷ []) → q.slot ≢ slot → latest_quote (is_earlier slot month) (qs ++ q ∷ []) ≡ None
latest_other slot month qs q sorted below other =
    latest_none (is_earlier slot month) (qs ++ q ∷ []) (none qs (below_last qs q sorted))
  where
    lower : q.slot < slot
    lower = let at = below_key (quote_key q) (slot, month) (at_last _ qs q below) in
        elim (cases_lt q.slot slot) [ inl lt ↦ lt | inr ge ↦ absurd (other (omega (arith, at.0))) ]

    out : (x : QuoteRow) → x.slot < slot → is_earlier slot month x ≡ false
    out x lt = rw (ne_eqb x.slot slot (λ e. absurd (omega arith))) refl

    none : (xs : List QuoteRow) → AllByRecursion (λ x. quote_cmp (quote_key x) (quote_key q) ≡ Less) xs →
        AllByRecursion (λ x. is_earlier slot month x ≡ false) (xs ++ q ∷ [])
    none [] all = (out q lower, tt)
    none (x ∷ xs) all = let at = below_key (quote_key x) (quote_key q) all.0 in
        (out x (omega (arith, lower, at.0)), none xs all.1)

-- a last row of the slot in which a price was observed is the latest
pub latest_own : (slot month : ℕ) (qs : List QuoteRow) (q : QuoteRow) → IsInOrder quote_cmp quote_key (qs ++ q ∷ []) →
    AllByRecursion (λ q. quote_cmp (quote_key q) (slot, month) ≡ Less) (qs ++ q ∷ []) → q.slot ≡ slot →
    is_some (observed_price q.mark) ≡ true → latest_quote (is_earlier slot month) (qs ++ q ∷ []) ≡ Some q
latest_own slot month qs q sorted below own observed =
    latest_last (is_earlier slot month) qs q passes (no_later qs (below_last qs q sorted))
  where
    passes : is_earlier slot month q ≡ true
    passes =
        let at = below_key (quote_key q) (slot, month) (at_last _ qs q below) in
        and_from (q.slot == slot && nat_lt q.month month) _
        (and_from (q.slot == slot) (nat_lt q.month month) (eq-eqb q.slot slot own)
        (lt-ltb q.month month (at.1 own))) observed

    no_later : (xs : List QuoteRow) → AllByRecursion (λ x. quote_cmp (quote_key x) (quote_key q) ≡ Less) xs →
        AllByRecursion (λ x. is_earlier slot month x ≡ true → x.month ≤ q.month) xs
    no_later [] all = tt
    no_later (x ∷ xs) all =
        let at = below_key (quote_key x) (quote_key q) all.0 in
        (λ e. omega (arith, at.1 ((earlier_below slot month x e).0 ∙ sym own)), no_later xs all.1)
