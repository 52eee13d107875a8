-- Which slots of which collectors were given, among the rows of all, and what is put among them.
use Rattle.std.proofs.Common.{◌≡◌, ◌≢◌, ℕ, Bool, true, false, eqb, List, [], ◌∷◌, map, None, refl, sym, ap, ◌∙◌, inl}
use Rattle.std.proofs.Common.{inr}
use Rattle.std.specs.Prelude.{◌&&◌, ◌||◌, ◌==◌, ◌⊎◌, filter, is_some}
use Rattle.std.specs.declared.cmp.Ordering.{Ordering}
use Rattle.std.specs.declared.cmp.Ordering.TheVariants.{Less, Equal, Greater}
use Rattle.std.specs.Ordering.{nat_cmp, is_lt, is_gt, is_eq}
use Rattle.std.specs.Cmp.{tied_then, unsigned_tied}
use Rattle.std.specs.List.{AllByRecursion, list_any}
use Rattle.std.proofs.lemmas.Bool.Decides.{eqb_tells}
use Rattle.std.proofs.lemmas.List.Folds.{list_any-append}
use Rattle.cpi_rows.specs.Keyed.{row_by_number, with_row, row_at}
use Rattle.cpi_rows.specs.Held.{held_by, held_cmp, held_key}
use Rattle.cpi_rows.proofs.Truth.{or_of_first, or_of_second}
use Rattle.cpi_store.proofs.GivenRows.{given_total}
use Rattle.cpi_survey.specs.declared.assignment.Assignment.{Assignment}
use Rattle.cpi_store.specs.declared.taken_over.TakenOver.{TakenOver}
use Rattle.cpi_store.specs.Holders.{IsGiven}

-- two slots compare equal if they are one
pub level_slots : (c s n k : ℕ) → is_eq (held_cmp nat_cmp (c, s) (n, k)) ≡ (c == n && s == k)
level_slots c s n k = sym (tied_then (nat_cmp c n) (nat_cmp s k))
    ∙ ap (λ b. b && is_eq (nat_cmp s k)) (unsigned_tied c n) ∙ ap (λ b. c == n && b) (unsigned_tied s k)

-- whether the row is of the collector's slot
abbrev pub is_of : ℕ → ℕ → ℕ × Assignment → Bool
is_of c slot row = row.0 == c && row.1.slot == slot

abbrev slot_of : Assignment → ℕ
slot_of a = a.slot

-- a slot is found among its collector's if a row is of it
pub has_slot : (c slot : ℕ) (rows : List (ℕ × Assignment)) →
    is_some (row_by_number (λ a. a.slot) slot (held_by c rows)) ≡ list_any (is_of c slot) rows
has_slot c slot [] = refl
has_slot c slot (r ∷ rows) = cases (eqb_tells r.0 c) (has_slot c slot rows)
  where
    here : (b : Bool) → is_eq (nat_cmp r.1.slot slot) ≡ b → is_some (row_by_number slot_of slot (held_by c rows))
        ≡ list_any
        (is_of c slot) rows → is_some (row_by_number slot_of slot (r.1 ∷ held_by c rows)) ≡
        (b || list_any (is_of c slot) rows)
    here true e rest = rw e refl
    here false e rest = rw e rest

    cases : ((eqb r.0 c ≡ true) × (r.0 ≡ c)) ⊎ ((eqb r.0 c ≡ false) × (r.0 ≢ c)) →
        is_some (row_by_number slot_of slot (held_by c rows)) ≡ list_any (is_of c slot) rows →
        is_some (row_by_number slot_of slot (held_by c (r ∷ rows))) ≡ list_any (is_of c slot) (r ∷ rows)
    cases (inl same) rest = rw same.0 (here (eqb r.1.slot slot) (unsigned_tied r.1.slot slot) rest)
    cases (inr apart) rest = rw apart.0 rest

-- a slot that isn't found has no row
pub free_slot : (c slot : ℕ) (rows : List (ℕ × Assignment)) → row_by_number (λ a. a.slot) slot (held_by c rows) ≡ None →
    list_any (is_of c slot) rows ≡ false
free_slot c slot rows none = sym (has_slot c slot rows) ∙ ap is_some none

-- ---- tests over rows that were put, or mapped

one_of_or : (a b : Bool) → (a || b) ≡ true → (a ≡ true) ⊎ (b ≡ true)
one_of_or true b h = inl refl
one_of_or false b h = inr h

pub any_map : {X Y : Type 0} (f : X → Y) (p : Y → Bool) (q : X → Bool) → ((x : X) → p (f x) ≡ q x) → (xs : List X) →
    list_any p (map f xs) ≡ list_any q xs
any_map f p q same [] = refl
any_map f p q same (x ∷ xs) = ap (λ b. b || list_any p (map f xs)) (same x) ∙ ap (λ b. q x || b) (any_map f p q same xs)

module _ {X K : Type 0} (R : K → K → Ordering) (key : X → K) (p : X → Bool) (row : X) where
  abbrev below : List X → List X
  below rows = filter (λ r. is_lt (R (key r) (key row))) rows

  abbrev above : List X → List X
  above rows = filter (λ r. is_gt (R (key r) (key row))) rows

  -- what passes a test is kept, or replaced by the row, which passes too
  kept_or_replaced : (rows : List X) → ((x : X) → R (key x) (key row) ≡ Equal → p x ≡ true → p row ≡ true) →
      list_any p rows ≡ true → (list_any p (below rows) ≡ true) ⊎ (list_any p (row ∷ above rows) ≡ true)
  kept_or_replaced [] alike h = let no : false ≡ true = h in cc
  kept_or_replaced (x ∷ xs) alike h = cases (R (key x) (key row)) refl (one_of_or (p x) (list_any p xs) h)
      (kept_or_replaced xs alike)
    where
      Either : List X → Type 0
      Either rows = (list_any p (below rows) ≡ true) ⊎ (list_any p (row ∷ above rows) ≡ true)

      lower : Either xs → is_lt (R (key x) (key row)) ≡ true → is_gt (R (key x) (key row)) ≡ false → Either (x ∷ xs)
      lower (inl l) e f = inl (rw e (or_of_second (p x) (list_any p (below xs)) l))
      lower (inr g) e f = inr (rw f g)

      level : Either xs → is_lt (R (key x) (key row)) ≡ false → is_gt (R (key x) (key row)) ≡ false → Either (x ∷ xs)
      level (inl l) e f = inl (rw e l)
      level (inr g) e f = inr (rw f g)

      higher : Either xs → is_lt (R (key x) (key row)) ≡ false → is_gt (R (key x) (key row)) ≡ true → Either (x ∷ xs)
      higher (inl l) e f = inl (rw e l)
      higher (inr g) e f = inr (rw f (by_row (one_of_or (p row) (list_any p (above xs)) g)))
        where
          by_row : (p row ≡ true) ⊎ (list_any p (above xs) ≡ true) → (p row || (p x || list_any p (above xs))) ≡ true
          by_row (inl r) = or_of_first (p row) (p x || list_any p (above xs)) r
          by_row (inr a) =
              or_of_second (p row) (p x || list_any p (above xs)) (or_of_second (p x) (list_any p (above xs)) a)

      cases : (s : Ordering) → R (key x) (key row) ≡ s → (p x ≡ true) ⊎ (list_any p xs ≡ true) →
          (list_any p xs ≡ true → Either xs) → Either (x ∷ xs)
      cases Less e (inl here) rest = inl (rw (ap is_lt e) (or_of_first (p x) (list_any p (below xs)) here))
      cases Less e (inr later) rest = lower (rest later) (ap is_lt e) (ap is_gt e)
      cases Equal e (inl here) rest = inr
          (rw (ap is_gt e) (or_of_first (p row) (list_any p (above xs)) (alike x e here)))
      cases Equal e (inr later) rest = level (rest later) (ap is_lt e) (ap is_gt e)
      cases Greater e (inl here) rest = inr (rw (ap is_gt e)
          (or_of_second (p row) (p x || list_any p (above xs)) (or_of_first (p x) (list_any p (above xs)) here)))
      cases Greater e (inr later) rest = higher (rest later) (ap is_lt e) (ap is_gt e)

  pub any_put : (rows : List X) → ((x : X) → R (key x) (key row) ≡ Equal → p x ≡ true → p row ≡ true) →
      list_any p rows ≡ true → list_any p (with_row R key row rows) ≡ true
  any_put rows alike h = list_any-append p (below rows) (row ∷ above rows) ∙ cases (kept_or_replaced rows alike h)
    where
      cases : (list_any p (below rows) ≡ true) ⊎ (list_any p (row ∷ above rows) ≡ true) →
          (list_any p (below rows) || list_any p (row ∷ above rows)) ≡ true
      cases (inl l) = or_of_first (list_any p (below rows)) (list_any p (row ∷ above rows)) l
      cases (inr g) = or_of_second (list_any p (below rows)) (list_any p (row ∷ above rows)) g

  pub any_put_own : (rows : List X) → p row ≡ true → list_any p (with_row R key row rows) ≡ true
  any_put_own rows h = list_any-append p (below rows) (row ∷ above rows)
      ∙ or_of_second (list_any p (below rows)) (list_any p (row ∷ above rows))
      (or_of_first (p row) (list_any p (above rows)) h)

-- ---- the slots that took a series over were given

-- a slot that is among the rows stays among those after an assignment was put
pub slot_stays : (c slot n : ℕ) (a : Assignment) (rows : List (ℕ × Assignment)) →
    list_any (is_of c slot) rows ≡ true → list_any (is_of c slot)
    (with_row (held_cmp nat_cmp) (held_key (λ a. a.slot)) (n, a) rows) ≡ true
slot_stays c slot n a rows h = any_put (held_cmp nat_cmp) (held_key slot_of) (is_of c slot) (n, a) rows alike h
  where
    alike : (x : ℕ × Assignment) → held_cmp nat_cmp (x.0, x.1.slot) (n, a.slot) ≡ Equal → is_of c slot x ≡ true →
        is_of c slot (n, a) ≡ true
    alike x e h =
        sym (level_slots n a.slot c slot) ∙ ap is_eq (sym
        (given_total.congr (x.0, x.1.slot) (n, a.slot) (c, slot) e)) ∙ level_slots x.0 x.1.slot c slot ∙ h

-- what every slot that was given keeps, those that took over keep
pub given_after : (rows after : List (ℕ × Assignment)) →
    ((c slot : ℕ) → list_any (is_of c slot) rows ≡ true → list_any (is_of c slot) after ≡ true) →
    (taken : List TakenOver) → AllByRecursion (IsGiven rows) taken → AllByRecursion (IsGiven after) taken
given_after rows after keeps [] all = tt
given_after rows after keeps (t ∷ taken) all = (
  has_slot t.collector t.slot after ∙ keeps t.collector t.slot (sym (has_slot t.collector t.slot rows) ∙ all.0),
  given_after rows after keeps taken all.1,
)

abbrev pub taken_key : TakenOver → ℕ × ℕ
taken_key t = (t.collector, t.slot)

-- a slot that wasn't given took no series over
pub none_taken : (c slot : ℕ) (rows : List (ℕ × Assignment)) → row_by_number (λ a. a.slot) slot
    (held_by c rows) ≡ None →
    (taken : List TakenOver) → AllByRecursion (IsGiven rows) taken →
    row_at (held_cmp nat_cmp) taken_key (c, slot) taken ≡ None
none_taken c slot rows none [] all = refl
none_taken c slot rows none (t ∷ taken) all = cases (is_eq (held_cmp nat_cmp (t.collector, t.slot) (c, slot))) refl
    (none_taken c slot rows none taken all.1)
  where
    collectors : (a b : Bool) → (a && b) ≡ true → a ≡ true
    collectors true b h = refl
    collectors false b h = h

    slots : (a b : Bool) → (a && b) ≡ true → b ≡ true
    slots true b h = h
    slots false b h = let no : false ≡ true = h in cc

    is : (m n : ℕ) → eqb m n ≡ true → m ≡ n
    is m n h = cases (eqb_tells m n)
      where
        cases : ((eqb m n ≡ true) × (m ≡ n)) ⊎ ((eqb m n ≡ false) × (m ≢ n)) → m ≡ n
        cases (inl same) = same.1
        cases (inr apart) = let no : true ≡ false = sym h ∙ apart.0 in cc

    cases : (b : Bool) → is_eq (held_cmp nat_cmp (t.collector, t.slot) (c, slot)) ≡ b →
        row_at (held_cmp nat_cmp) taken_key (c, slot) taken ≡ None →
        row_at (held_cmp nat_cmp) taken_key (c, slot) (t ∷ taken) ≡ None
    cases true e rest =
        let both : (eqb t.collector c && eqb t.slot slot) ≡ true = sym (level_slots t.collector t.slot c slot) ∙ e in
        let collector : t.collector ≡ c = is t.collector c (collectors (eqb t.collector c) (eqb t.slot slot) both) in
        let at_slot : t.slot ≡ slot = is t.slot slot (slots (eqb t.collector c) (eqb t.slot slot) both) in
        let there : is_some (row_by_number slot_of slot (held_by c rows)) ≡ true = rw (← collector, ← at_slot) all.0 in
        let no : false ≡ true = sym (ap is_some none) ∙ there in
        cc
    cases false e rest = rw e rest
