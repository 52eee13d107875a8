-- Quotes slot by slot: those of one slot among all, one that is put among its own, and a slot with none.
use Rattle.std.proofs.Common.{◌≡◌, ◌≢◌, ℕ, zero, suc, ◌+◌, ◌<◌, Bool, true, false, List, [], ◌∷◌, ◌++◌, map, length}
use Rattle.std.proofs.Common.{get_or, set, take, drop, Some, None, Option, Ok, Err, refl, sym, ap, ◌∙◌, arith, inl, inr}
use Rattle.std.specs.Prelude.{if◌then◌else◌, filter, ◌==◌, ◌⊎◌, IsSome}
use Rattle.std.specs.declared.cmp.Ordering.{Ordering}
use Rattle.std.specs.declared.cmp.Ordering.TheVariants.{Less, Equal, Greater}
use Rattle.std.specs.Ordering.{nat_cmp, is_lt, is_gt, is_eq, ordering_then}
use Rattle.std.specs.List.{AllByRecursion, flat_map, insert}
use Rattle.std.proofs.lemmas.Bool.Decides.{eqb_tells}
use Rattle.std.proofs.lemmas.Cmp.{nat_cmp_total, ranked}
use Rattle.std.proofs.lemmas.Grind.{flat_map-append}
use Rattle.std.proofs.lemmas.List.{append-nil, map-append, take-append-drop, take_more}
use Rattle.std.proofs.lemmas.List.Elements.{filter-append}
use Rattle.std.proofs.lemmas.Map.Keys.{Less-from_sorted, sorted_tail}
use Rattle.cpi_rows.specs.Keyed.{with_row, row_at, row_by_number, IsInOrder, IsPlace}
use Rattle.cpi_rows.specs.Held.{held_cmp, held_key}
use Rattle.cpi_rows.specs.Gathered.{rows_with_holders, rows_in}
use Rattle.cpi_rows.proofs.Gathered.{held_gathered, put_gathered}
use Rattle.cpi_rows.proofs.Lists.{all_put, flat_map_passes}
use Rattle.cpi_rows.proofs.Places.{none_in_order, put_at_gap, put_at_row, put_in_order, row_found}
use Rattle.cpi_survey.specs.declared.assignment.Assignment.{Assignment}
use Rattle.cpi_survey.specs.declared.slot_quotes.SlotQuotes.{SlotQuotes}
use Rattle.cpi_survey.specs.Quote.{QuoteRow, quote_cmp, quote_key}
use Rattle.cpi_survey.specs.LastPrice.{is_earlier, last_price, observed_before, or_copied, price_in}
use Rattle.cpi_survey.specs.Slots.{AreBySlot, AreOfSlot, quotes_of_slots, is_in_slot}
use Rattle.cpi_survey.proofs.Latest.{latest_filter}

abbrev slot_of : SlotQuotes → ℕ
slot_of s = s.slot

abbrev own_quotes : SlotQuotes → List QuoteRow
own_quotes s = s.quotes.items

abbrev second : ℕ × QuoteRow → QuoteRow
second r = r.1

-- ---- each quote beside its slot

abbrev beside : List SlotQuotes → List (ℕ × QuoteRow)
beside ss = rows_with_holders slot_of own_quotes ss

abbrev IsOwn : ℕ × QuoteRow → Type 0
IsOwn r = r.1.slot ≡ r.0

named : (n : ℕ) (qs : List QuoteRow) → map second (map (λ q. (n, q)) qs) ≡ qs
named n [] = refl
named n (q ∷ qs) = ap (λ ys. q ∷ ys) (named n qs)

beside_all : (ss : List SlotQuotes) → map second (beside ss) ≡ quotes_of_slots ss
beside_all [] = refl
beside_all (s ∷ ss) =
    map-append second (map (λ q. (s.slot, q)) s.quotes.items) (beside ss)
    ∙ ap (λ ys. ys ++ map second (beside ss)) (named s.slot s.quotes.items)
    ∙ ap (λ ys. s.quotes.items ++ ys) (beside_all ss)

own_named : (n : ℕ) (qs : List QuoteRow) (rs : List (ℕ × QuoteRow)) → AllByRecursion (λ q. q.slot ≡ n) qs →
    AllByRecursion IsOwn rs → AllByRecursion IsOwn (map (λ q. (n, q)) qs ++ rs)
own_named n [] rs own rest = rest
own_named n (q ∷ qs) rs own rest = (own.0, own_named n qs rs own.1 rest)

beside_own : (ss : List SlotQuotes) → AllByRecursion AreOfSlot ss → AllByRecursion IsOwn (beside ss)
beside_own [] all = tt
beside_own (s ∷ ss) all = own_named s.slot s.quotes.items (beside ss) all.0.own (beside_own ss all.1)

-- a test of the rows that says of each what another says of its quote
sifted : (p : ℕ × QuoteRow → Bool) (t : QuoteRow → Bool) → ((r : ℕ × QuoteRow) → IsOwn r → p r ≡ t r.1) →
    (rs : List (ℕ × QuoteRow)) → AllByRecursion IsOwn rs → map second (filter p rs) ≡ filter t (map second rs)
sifted p t agree [] own = refl
sifted p t agree (r ∷ rs) own = cases (t r.1) refl (sifted p t agree rs own.1)
  where
    cases : (s : Bool) → t r.1 ≡ s → map second (filter p rs) ≡ filter t (map second rs) →
        map second (filter p (r ∷ rs)) ≡ filter t (map second (r ∷ rs))
    cases true e rest = rw (agree r own.0, e) (ap (λ ys. r.1 ∷ ys) rest)
    cases false e rest = rw (agree r own.0, e) rest

-- ---- what a slot has of all

of_slot : (slot : ℕ) (ss : List SlotQuotes) → AreBySlot ss →
    filter (is_in_slot slot) (quotes_of_slots ss) ≡ rows_in own_quotes (row_by_number slot_of slot ss)
of_slot slot ss kept =
    ap (filter (is_in_slot slot)) (sym (beside_all ss))
    ∙ sym (sifted (λ r. r.0 == slot) (is_in_slot slot) (λ r own. ap (λ n. n == slot) (sym own)) (beside ss)
    (beside_own ss kept.own))
    ∙ held_gathered quote_cmp quote_key slot_of own_quotes slot ss kept.order

pub quotes_found : (slot : ℕ) (ss : List SlotQuotes) (s : SlotQuotes) → AreBySlot ss → row_by_number slot_of slot ss
    ≡ Some s →
    s.quotes.items ≡ filter (is_in_slot slot) (quotes_of_slots ss)
quotes_found slot ss s kept found = sym (of_slot slot ss kept ∙ ap (rows_in own_quotes) found)

pub quotes_missing : (slot : ℕ) (ss : List SlotQuotes) → AreBySlot ss → row_by_number slot_of slot ss ≡ None →
    [] ≡ filter (is_in_slot slot) (quotes_of_slots ss)
quotes_missing slot ss kept none = sym (of_slot slot ss kept ∙ ap (rows_in own_quotes) none)

-- what is found is one of them
found_all : (P : SlotQuotes → Type 0) (slot : ℕ) (s : SlotQuotes) (ss : List SlotQuotes) → AllByRecursion P ss →
    row_by_number slot_of slot ss ≡ Some s → P s
found_all P slot s [] all found = let wrong : None ≡ Some s = found in cc
found_all P slot s (x ∷ ss) all found = cases (is_eq (nat_cmp x.slot slot)) refl (found_all P slot s ss all.1)
  where
    cases : (t : Bool) → is_eq (nat_cmp x.slot slot) ≡ t → (row_by_number slot_of slot ss ≡ Some s → P s) → P s
    cases true e rest = let same : Some x ≡ Some s = rw e at found in let here : x ≡ s = cc in rw (← here) all.0
    cases false e rest = rest (rw e at found)

pub order_found : (slot : ℕ) (ss : List SlotQuotes) (s : SlotQuotes) → AreBySlot ss → row_by_number slot_of slot ss
    ≡ Some s →
    IsInOrder quote_cmp quote_key s.quotes.items
order_found slot ss s kept found = (found_all AreOfSlot slot s ss kept.own found).order

-- ---- what is asked of a slot's quotes

other_slot : (k : ℕ × ℕ) (q : QuoteRow) → q.slot ≢ k.0 → is_eq (quote_cmp (quote_key q) k) ≡ false
other_slot k q apart = cases (nat_cmp q.slot k.0) refl
  where
    cases : (s : Ordering) → nat_cmp q.slot k.0 ≡ s →
        is_eq (ordering_then (nat_cmp q.slot k.0) (nat_cmp q.month k.1)) ≡ false
    cases Less p = rw p refl
    cases Equal p = absurd (apart (ranked q.slot k.0 Equal (sym p)))
    cases Greater p = rw p refl

front : (p : QuoteRow → Bool) (q : QuoteRow) (qs : List QuoteRow) → p q ≡ true → filter p (q ∷ qs) ≡ q ∷ filter p qs
front p q qs e = rw e refl

behind : (p : QuoteRow → Bool) (q : QuoteRow) (qs : List QuoteRow) → p q ≡ false → filter p (q ∷ qs) ≡ filter p qs
behind p q qs e = rw e refl

-- a key is found among the quotes of its slot
pub row_of_slot : (k : ℕ × ℕ) (qs : List QuoteRow) →
    row_at quote_cmp quote_key k (filter (is_in_slot k.0) qs) ≡ row_at quote_cmp quote_key k qs
row_of_slot k [] = refl
row_of_slot k (q ∷ qs) = cases (eqb_tells q.slot k.0) (row_of_slot k qs)
  where
    cases : (((q.slot == k.0) ≡ true) × (q.slot ≡ k.0)) ⊎ (((q.slot == k.0) ≡ false) × (q.slot ≢ k.0)) →
        row_at quote_cmp quote_key k (filter (is_in_slot k.0) qs) ≡ row_at quote_cmp quote_key k qs →
        row_at quote_cmp quote_key k (filter (is_in_slot k.0) (q ∷ qs)) ≡ row_at quote_cmp quote_key k (q ∷ qs)
    cases (inl same) rest = ap (row_at quote_cmp quote_key k) (front (is_in_slot k.0) q qs same.0)
        ∙ ap (λ found. if is_eq (quote_cmp (quote_key q) k) then Some q else found) rest
    cases (inr apart) rest =
        ap (row_at quote_cmp quote_key k) (behind (is_in_slot k.0) q qs apart.0) ∙ rest
        ∙ sym (ap (λ test. if test then Some q else row_at quote_cmp quote_key k qs) (other_slot k q apart.1))

not_earlier : (slot month : ℕ) (q : QuoteRow) → is_in_slot slot q ≡ false → is_earlier slot month q ≡ false
not_earlier slot month q e = rw e refl

-- the last price is that among the quotes of the slot
pub price_of_slot : (slot month : ℕ) (qs : List QuoteRow) →
    observed_before slot month (filter (is_in_slot slot) qs) ≡ observed_before slot month qs
price_of_slot slot month qs = sym (ap price_in
    (latest_filter (is_earlier slot month) (is_in_slot slot) (not_earlier slot month) qs))

-- and so is that of an assignment, with the price that was copied where none was found
pub last_of_slot : (a : Assignment) (month : ℕ) (found : Option ℕ) (own qs : List QuoteRow) →
    own ≡ filter (is_in_slot a.slot) qs → found ≡ observed_before a.slot month own →
    or_copied found a.copied ≡ last_price a month qs
last_of_slot a month found own qs is_own is_found =
    ap (λ price. or_copied price a.copied) (is_found ∙ ap (observed_before a.slot month) is_own
    ∙ price_of_slot a.slot month qs)

-- ---- a quote that is put among those of its slot

once : (s t : Ordering) → ordering_then s (ordering_then s t) ≡ ordering_then s t
once Less t = refl
once Equal t = refl
once Greater t = refl

level : (q : QuoteRow) (r : ℕ × QuoteRow) → IsOwn r →
    held_cmp quote_cmp (held_key quote_key r) (q.slot, quote_key q) ≡ quote_cmp (quote_key r.1) (quote_key q)
level q r own = rw (sym own) (once (nat_cmp r.1.slot q.slot) (nat_cmp r.1.month q.month))

put_beside : (q : QuoteRow) (rs : List (ℕ × QuoteRow)) → AllByRecursion IsOwn rs →
    map second (with_row (held_cmp quote_cmp) (held_key quote_key) (q.slot, q) rs) ≡ with_row quote_cmp quote_key q
    (map second rs)
put_beside q rs own =
    map-append second (filter (λ r. is_lt (held_cmp quote_cmp (held_key quote_key r) (q.slot, quote_key q))) rs)
    ((q.slot, q) ∷ filter (λ r. is_gt (held_cmp quote_cmp (held_key quote_key r) (q.slot, quote_key q))) rs)
    ∙ ap (λ ys. ys ++ q ∷ map second (filter (λ r. is_gt
    (held_cmp quote_cmp (held_key quote_key r) (q.slot, quote_key q))) rs))
    (sifted _ (λ x. is_lt (quote_cmp (quote_key x) (quote_key q))) (λ r o. ap is_lt (level q r o)) rs own)
    ∙ ap (λ ys. filter (λ x. is_lt (quote_cmp (quote_key x) (quote_key q))) (map second rs) ++ q ∷ ys)
    (sifted _ (λ x. is_gt (quote_cmp (quote_key x) (quote_key q))) (λ r o. ap is_gt (level q r o)) rs own)

all_set : {X : Type 0} (P : X → Type 0) (xs : List X) (i : ℕ) (x : X) → P x → AllByRecursion P xs →
    AllByRecursion P (set xs i x)
all_set P [] i x here all = tt
all_set P (y ∷ xs) zero x here all = (here, all.1)
all_set P (y ∷ xs) (suc i) x here all = (all.0, all_set P xs i x here all.1)

all_at : {X : Type 0} (P : X → Type 0) (xs : List X) (i : ℕ) (d : X) → i < length xs → AllByRecursion P xs →
    P (get_or xs i d)
all_at P [] i d lt all = absurd (omega arith)
all_at P (x ∷ xs) zero d lt all = all.0
all_at P (x ∷ xs) (suc i) d lt all = all_at P xs i d (omega arith) all.1

-- a slot at its place, and the slot after its quotes changed
module _ (ss : List SlotQuotes) (kept : AreBySlot ss) (slot : ℕ) (i : ℕ)
    (place : IsPlace nat_cmp slot_of slot ss (Ok i)) (s : SlotQuotes) (stands : s ≡ get_or ss i s) where
  slot_is : s.slot ≡ slot
  slot_is = ap slot_of stands ∙ ranked _ _ _ (sym (place.1 s))

  standing : AreOfSlot s
  standing = rw stands (all_at AreOfSlot ss i s place.0 kept.own)

  pub order_standing : IsInOrder quote_cmp quote_key s.quotes.items
  order_standing = standing.order

  -- a month that stands among all, stands in the slot
  pub row_standing : (month : ℕ) → row_at quote_cmp quote_key (slot, month) s.quotes.items ≡ row_at quote_cmp
      quote_key (slot, month) (quotes_of_slots ss)
  row_standing month =
      let found : row_by_number slot_of slot ss ≡ Some s = row_found nat_cmp_total slot_of ss kept.order slot i
      s place.0
      (place.1 s) ∙ ap Some (sym stands) in
      ap (row_at quote_cmp quote_key (slot, month)) (quotes_found slot ss s kept found)
      ∙ row_of_slot (slot, month) (quotes_of_slots ss)

  module _ (after : SlotQuotes) (same : after.slot ≡ s.slot) where
    slots_set : IsInOrder nat_cmp slot_of (set ss i after)
    slots_set =
        rw (put_at_row nat_cmp_total slot_of ss kept.order after i (place.0, λ d. rw (same ∙ slot_is) (place.1 d)))
        (put_in_order nat_cmp_total slot_of ss after kept.order)

    -- if nothing changed
    pub quotes_same : after.quotes.items ≡ s.quotes.items → quotes_of_slots (set ss i after) ≡ quotes_of_slots ss
    quotes_same e = set_same own_quotes ss i after s (e ∙ ap own_quotes stands)
      where
        set_same : {X Y : Type 0} (f : X → List Y) (xs : List X) (j : ℕ) (y d : X) → f y ≡ f (get_or xs j d) →
            flat_map f (set xs j y) ≡ flat_map f xs
        set_same f [] j y d e = refl
        set_same f (x ∷ xs) zero y d e = ap (λ vs. vs ++ flat_map f xs) e
        set_same f (x ∷ xs) (suc j) y d e = ap (λ vs. f x ++ vs) (set_same f xs j y d e)

    pub slots_same : after.quotes.items ≡ s.quotes.items → AreBySlot (set ss i after)
    slots_same e = record {
      order = slots_set;
      own = all_set AreOfSlot ss i after (record { own = rw (e, same) standing.own; order = rw e standing.order })
          kept.own;
    }

    module _ (q : QuoteRow) (its : q.slot ≡ slot) (e : after.quotes.items ≡ with_row quote_cmp quote_key q
        s.quotes.items)
      where
        pub quotes_put : quotes_of_slots (set ss i after) ≡ with_row quote_cmp quote_key q (quotes_of_slots ss)
        quotes_put =
            let slot_there : slot_of (get_or ss i s) ≡ q.slot = ap slot_of (sym stands) ∙ slot_is ∙ sym its in
            sym (beside_all (set ss i after))
            ∙ ap (map second) (put_gathered quote_cmp quote_key slot_of own_quotes q after ss i s kept.order place.0
            (same ∙ ap slot_of stands) (e ∙ ap (λ g. with_row quote_cmp quote_key q (own_quotes g)) stands)
            ∙ ap (λ n. with_row (held_cmp quote_cmp) (held_key quote_key) (n, q) (beside ss)) slot_there)
            ∙ put_beside q (beside ss) (beside_own ss kept.own)
            ∙ ap (with_row quote_cmp quote_key q) (beside_all ss)

        pub slots_put : IsInOrder quote_cmp quote_key after.quotes.items → AreBySlot (set ss i after)
        slots_put order = record {
          order = slots_set;
          own = all_set AreOfSlot ss i after (record {
            own = rw (e, same) (all_put (λ x. x.slot ≡ s.slot) quote_cmp quote_key q s.quotes.items
                (its ∙ sym slot_is) standing.own);
            order = order;
          }) kept.own;
        }

-- ---- a slot with none

all_insert : {X : Type 0} (P : X → Type 0) (x : X) (xs ys : List X) → P x → AllByRecursion P (xs ++ ys) →
    AllByRecursion P (xs ++ x ∷ ys)
all_insert P x [] ys here all = (here, all)
all_insert P x (y ∷ xs) ys here all = (all.0, all_insert P x xs ys here all.1)

module _ (ss : List SlotQuotes) (kept : AreBySlot ss) (i : ℕ) (s : SlotQuotes) (none : s.quotes.items ≡ []) where
  pub quotes_added : quotes_of_slots (insert ss i s) ≡ quotes_of_slots ss
  quotes_added = flat_map_passes own_quotes s (take i ss) (drop i ss) none ∙ ap quotes_of_slots (take-append-drop i ss)

  pub slots_added : IsPlace nat_cmp slot_of s.slot ss (Err i) → AreBySlot (insert ss i s)
  slots_added place = record {
    order = rw (put_at_gap nat_cmp_total slot_of ss s i place) (put_in_order nat_cmp_total slot_of ss s kept.order);
    own = all_insert AreOfSlot s (take i ss) (drop i ss)
        (record { own = rw none tt; order = rw none (none_in_order quote_cmp quote_key) })
        (rw (take-append-drop i ss) kept.own);
  }

-- a slot that has a quote is found
pub slot_known : (k : ℕ × ℕ) (ss : List SlotQuotes) → AreBySlot ss →
    IsSome (row_at quote_cmp quote_key k (quotes_of_slots ss)) → IsSome (row_by_number slot_of k.0 ss)
slot_known k ss kept some = cases (row_by_number slot_of k.0 ss) refl
  where
    cases : (w : Option SlotQuotes) → row_by_number slot_of k.0 ss ≡ w → IsSome (row_by_number slot_of k.0 ss)
    cases (Some s) e = rw e refl
    cases None e =
        let none : row_at quote_cmp quote_key k (quotes_of_slots ss) ≡ None = sym (row_of_slot k (quotes_of_slots ss))
        ∙ ap (row_at quote_cmp quote_key k) (sym (quotes_missing k.0 ss kept e)) in
        let wrong : false ≡ true = rw none at some in cc

-- ---- slot by slot, and quote by quote

pub none_by_slot : AreBySlot []
none_by_slot = record { order = none_in_order nat_cmp slot_of; own = tt }

-- the next of quotes in order is put behind those before it
put_behind : (qs : List QuoteRow) (i : ℕ) (d : QuoteRow) → IsInOrder quote_cmp quote_key qs → i < length qs →
    with_row quote_cmp quote_key (get_or qs i d) (take i qs) ≡ take i qs ++ get_or qs i d ∷ []
put_behind [] i d sorted lt = absurd (omega arith)
put_behind (q ∷ qs) zero d sorted lt = refl
put_behind (q ∷ qs) (suc i) d sorted lt =
    let less : quote_cmp (quote_key q) (quote_key (get_or qs i d)) ≡ Less =
    Less-from_sorted _ (q ∷ qs) 0 (suc i) d sorted (omega arith) lt in
    rw (ap is_lt less, ap is_gt less) (ap (λ ys. q ∷ ys) (put_behind qs i d (sorted_tail _ q qs sorted) (omega arith)))

pub put_next : (qs : List QuoteRow) (i : ℕ) (q : QuoteRow) → IsInOrder quote_cmp quote_key qs → i < length qs →
    q ≡ get_or qs i q → with_row quote_cmp quote_key q (take i qs) ≡ take (i + 1) qs
put_next qs i q sorted lt stands = ap (λ x. with_row quote_cmp quote_key x (take i qs)) stands
    ∙ put_behind qs i q sorted lt ∙ sym (take_more qs i q lt)

-- one slot more
pub filter_next : (p : QuoteRow → Bool) (ss : List SlotQuotes) (i : ℕ) (s : SlotQuotes) → i < length ss →
    s ≡ get_or ss i s → filter p (quotes_of_slots (take (i + 1) ss)) ≡ filter p (quotes_of_slots (take i ss))
    ++ filter p s.quotes.items
filter_next p ss i s lt stands =
    ap (λ xs. filter p (quotes_of_slots xs)) (take_more ss i s lt)
    ∙ ap (filter p) (flat_map-append own_quotes (take i ss) (get_or ss i s ∷ []))
    ∙ filter-append p (quotes_of_slots (take i ss)) (own_quotes (get_or ss i s) ++ [])
    ∙ ap (λ ys. filter p (quotes_of_slots (take i ss)) ++ filter p ys)
    (append-nil (own_quotes (get_or ss i s)) ∙ ap own_quotes (sym stands))
