-- Rows in order are determined by their members, and what the rows of a table stand for is put and found by members.
use Rattle.std.proofs.Common.{◌≡◌, ◌≢◌, ◌⊎◌, inl, inr, true, false, List, [], ◌∷◌, Some, None}
use Rattle.std.proofs.Common.{Option, refl, sym, ap, subst, ◌∙◌}
use Rattle.std.specs.Prelude.{filter, is_some}
use Rattle.std.specs.declared.cmp.Ordering.{Ordering}
use Rattle.std.specs.declared.cmp.Ordering.TheVariants.{Less, Equal, Greater}
use Rattle.std.specs.Ordering.{is_lt, is_gt, ordering_reverse}
use Rattle.std.specs.Cmp.{IsTotalOrder, tied_itself}
use Rattle.std.proofs.lemmas.Map.Keys.{sorted_head, sorted_tail}
use Rattle.sqlite.specs.Order.{Row}
use Rattle.sqlite_rules.specs.Lists.{Has}
use Rattle.sqlite_rules.proofs.ListLemmas.{all_has, has_either, has_filtered, has_kept, has_left, has_right}
use Rattle.cpi_rows.specs.Keyed.{with_row, IsInOrder}
use Rattle.cpi_rows.proofs.Places.{put_in_order, none_in_order}
use Rattle.cpi_sql_rows.specs.Lists.{rows_in_key_order, put_entry}
use Rattle.cpi_sql_rows.specs.Shelf.{IsKeyed, Takes}

-- each row was there, or is the one that stands for what is put
pub takes_one : {X : Type 0} (entry : Row → Option X) (x : X) (row : Row) (old new : List Row) → entry row ≡ Some x
    → ((r : Row) → Has new r → (r ≡ row) ⊎ Has old r) → Takes entry old new
unfolding Takes
takes_one entry x row old new is from r h = elim (from r h) [
  | inl same ↦ inr (ap is_some (ap entry same ∙ is))
  | inr was ↦ inl was
]

module _ {X K : Type 0} {R : K → K → Ordering} (o : IsTotalOrder R) (key : X → K) where
  abbrev c : X → X → Ordering
  c a b = R (key a) (key b)

  never_below : (x : X) → R (key x) (key x) ≢ Less
  never_below x less = absurd (let e : Equal ≡ Less = sym (tied_itself o (key x)) ∙ less in cc)

  pub head_in : (x : X) (xs : List X) (y : X) → IsInOrder R key (x ∷ xs) → Has xs y → R (key x) (key y) ≡ Less
  head_in x xs y sorted h = all_has (λ z. R (key x) (key z) ≡ Less) xs y (sorted_head c x xs sorted) h

  -- one list in order has the members
  pub same_in_order : (xs ys : List X) → IsInOrder R key xs → IsInOrder R key ys → ((x : X) → Has xs x → Has ys x)
      → ((x : X) → Has ys x → Has xs x) → xs ≡ ys
  same_in_order [] [] sx sy f g = refl
  same_in_order [] (y ∷ ys) sx sy f g = absurd (g y (inl refl))
  same_in_order (x ∷ xs) [] sx sy f g = absurd (f x (inl refl))
  same_in_order (x ∷ xs) (y ∷ ys) sx sy f g =
      let same : x ≡ y = heads (f x (inl refl)) (g y (inl refl)) in
      let front : (z : X) → Has xs z → Has ys z = λ z h. elim (f z (inr h)) [
        | inl is ↦ absurd (never_below x (subst (λ w. R (key x) (key w) ≡ Less) (is ∙ sym same) (head_in x xs z sx h)))
        | inr k ↦ k
      ] in
      let back : (z : X) → Has ys z → Has xs z = λ z h. elim (g z (inr h)) [
        | inl is ↦ absurd (never_below y (subst (λ w. R (key y) (key w) ≡ Less) (is ∙ same) (head_in y ys z sy h)))
        | inr k ↦ k
      ] in
      ap (λ z. z ∷ xs) same
      ∙ ap (λ zs. y ∷ zs) (same_in_order xs ys (sorted_tail c x xs sx) (sorted_tail c y ys sy) front back)
    where
      heads : Has (y ∷ ys) x → Has (x ∷ xs) y → x ≡ y
      heads (inl e) k = e
      heads (inr h) (inl e) = sym e
      heads (inr h) (inr k) =
          absurd (never_below x (o.trans (key x) (key y) (key x) (head_in x xs y sx k) (head_in y ys x sy h)))

  -- what is put, and the rows of other keys
  pub put_has : (row : X) (xs : List X) (x : X) → Has (with_row R key row xs) x → (x ≡ row)
      ⊎ (Has xs x × (R (key x) (key row) ≢ Equal))
  put_has row xs x h = elim (has_either (filter (λ r. is_lt (R (key r) (key row))) xs) (row ∷ filter
      (λ r. is_gt (R (key r) (key row))) xs) x h) [
        | inl low ↦
            let it = has_filtered (λ r. is_lt (R (key r) (key row))) xs x low in
            inr (it.0, λ e. absurd (let n : true ≡ false = sym it.1 ∙ ap is_lt e in cc))
        | inr rest ↦ elim rest [
          | inl is ↦ inl is
          | inr high ↦
              let it = has_filtered (λ r. is_gt (R (key r) (key row))) xs x high in
              inr (it.0, λ e. absurd (let n : true ≡ false = sym it.1 ∙ ap is_gt e in cc))
        ]
      ]

  pub has_put : (row : X) (xs : List X) → Has (with_row R key row xs) row
  has_put row xs = has_right (filter (λ r. is_lt (R (key r) (key row))) xs) (row ∷ filter
      (λ r. is_gt (R (key r) (key row))) xs) row (inl refl)

  pub put_keeps : (row : X) (xs : List X) (x : X) → Has xs x → R (key x) (key row) ≢ Equal → Has
      (with_row R key row xs) x
  put_keeps row xs x h apart = at (R (key x) (key row)) refl
    where
      low : List X
      low = filter (λ r. is_lt (R (key r) (key row))) xs

      high : List X
      high = filter (λ r. is_gt (R (key r) (key row))) xs

      at : (s : Ordering) → R (key x) (key row) ≡ s → Has (with_row R key row xs) x
      at Less e = has_left low (row ∷ high) x (has_kept (λ r. is_lt (R (key r) (key row))) xs x h (ap is_lt e))
      at Equal e = absurd (apart e)
      at Greater e = has_right low (row ∷ high) x
          (inr (has_kept (λ r. is_gt (R (key r) (key row))) xs x h (ap is_gt e)))

  module _ (entry : Row → Option X) where
    pub listed_in_order : (rows : List Row) → IsInOrder R key (rows_in_key_order R key entry rows)
    listed_in_order [] = none_in_order R key
    listed_in_order (r ∷ rows) = at (entry r) (listed_in_order rows)
      where
        at : (e : Option X) → IsInOrder R key (rows_in_key_order R key entry rows)
            → IsInOrder R key (put_entry R key e (rows_in_key_order R key entry rows))
        at None sorted = sorted
        at (Some x) sorted = put_in_order o key (rows_in_key_order R key entry rows) x sorted

    abbrev pub StandsFor : List Row → X → Type 0
    StandsFor rows x = (r : Row) × Has rows r × (entry r ≡ Some x)

    pub listed_stands : (rows : List Row) (x : X) → Has (rows_in_key_order R key entry rows) x → StandsFor rows x
    listed_stands [] x h = absurd h
    listed_stands (r ∷ rows) x h = at (entry r) refl h (listed_stands rows x)
      where
        later : StandsFor rows x → StandsFor (r ∷ rows) x
        later it = (it.0, inr it.1, it.2)

        at : (e : Option X) → entry r ≡ e → Has (put_entry R key e (rows_in_key_order R key entry rows)) x
            → (Has (rows_in_key_order R key entry rows) x → StandsFor rows x) → StandsFor (r ∷ rows) x
        at None e h rest = later (rest h)
        at (Some y) e h rest = elim (put_has y (rows_in_key_order R key entry rows) x h) [
          | inl is ↦ (r, inl refl, e ∙ ap Some (sym is))
          | inr was ↦ later (rest was.0)
        ]

    pub stands_listed : (rows : List Row) (x : X) (s : Row) → IsKeyed R key entry rows → Has rows s → entry s ≡ Some x
        → Has (rows_in_key_order R key entry rows) x
    unfolding IsKeyed
    stands_listed [] x s keyed h e = absurd h
    stands_listed (r ∷ rows) x s keyed (inl is) e =
        let here : entry r ≡ Some x = ap entry (sym is) ∙ e in
        subst (λ o. Has (put_entry R key o (rows_in_key_order R key entry rows)) x) (sym here)
        (has_put x (rows_in_key_order R key entry rows))
    stands_listed (r ∷ rows) x s keyed (inr h) e =
        later (entry r) refl (stands_listed rows x s
        (λ a b y z ha hb ea eb same. keyed a b y z (inr ha) (inr hb) ea eb same) h e)
      where
        at : (y : X) → entry r ≡ Some y → Has (rows_in_key_order R key entry rows) x → (t : Ordering) → R (key x)
            (key y) ≡ t
            → Has (with_row R key y (rows_in_key_order R key entry rows)) x
        at y g k Less f = put_keeps y (rows_in_key_order R key entry rows) x k
            (λ n. absurd (let m : Less ≡ Equal = sym f ∙ n in
            cc))
        at y g k Equal f = subst (Has (with_row R key y (rows_in_key_order R key entry rows)))
            (sym (keyed s r x y (inr h) (inl refl) e g f)) (has_put y (rows_in_key_order R key entry rows))
        at y g k Greater f = put_keeps y (rows_in_key_order R key entry rows) x k
            (λ n. absurd (let m : Greater ≡ Equal = sym f
            ∙ n in cc))

        later : (o : Option X) → entry r ≡ o → Has (rows_in_key_order R key entry rows) x
            → Has (put_entry R key o (rows_in_key_order R key entry rows)) x
        later None g k = k
        later (Some y) g k = at y g k (R (key x) (key y)) refl

    -- rows in order that are what the rows stand for, are the list
    pub listed_is : (rows : List Row) (xs : List X) → IsKeyed R key entry rows → IsInOrder R key xs
        → ((x : X) → Has xs x → StandsFor rows x) → ((r : Row) (x : X) → Has rows r → entry r ≡ Some x → Has xs x)
        → xs ≡ rows_in_key_order R key entry rows
    listed_is rows xs keyed sorted sound complete =
        same_in_order xs (rows_in_key_order R key entry rows) sorted (listed_in_order rows)
        (λ x h. let it = sound x h in stands_listed rows x it.0 keyed it.1 it.2)
        (λ x h. let it = listed_stands rows x h in complete it.0 x it.1 it.2)

    -- one row stands for what is put, and those of other keys are as they were
    pub record PutsRow (x : X) (old new : List Row) : Type 0 where
      pub row : Row
      pub there : Has new row
      pub is : entry row ≡ Some x
      pub others : (r : Row) (y : X) → Has new r → entry r ≡ Some y → (r ≡ row)
          ⊎ (Has old r × (R (key y) (key x) ≢ Equal))
      pub kept : (r : Row) (y : X) → Has old r → entry r ≡ Some y → R (key y) (key x) ≢ Equal → Has new r
      pub takes : Takes entry old new

    same_entry : (r : Row) (x y : X) → entry r ≡ Some x → entry r ≡ Some y → x ≡ y
    same_entry r x y a b = let both : Some x ≡ Some y = sym a ∙ b in cc

    pub still_keyed : (x : X) (old new : List Row) → IsKeyed R key entry old → PutsRow x old new
        → IsKeyed R key entry new
    unfolding IsKeyed
    still_keyed x old new keyed p r s y z hr hs er es same = both (p.others r y hr er) (p.others s z hs es)
      where
        both : (r ≡ p.row) ⊎ (Has old r × (R (key y) (key x) ≢ Equal)) → (s ≡ p.row)
            ⊎ (Has old s × (R (key z) (key x) ≢ Equal)) → y ≡ z
        both (inl a) (inl b) = same_entry p.row y z (ap entry (sym a) ∙ er) (ap entry (sym b) ∙ es)
        both (inl a) (inr b) =
            let is : y ≡ x = same_entry p.row y x (ap entry (sym a) ∙ er) p.is in
            absurd (b.1 (o.antisymm (key z) (key x)
            ∙ ap ordering_reverse (subst (λ w. R (key w) (key z) ≡ Equal) is same)))
        both (inr a) (inl b) =
            let is : z ≡ x = same_entry p.row z x (ap entry (sym b) ∙ es) p.is in
            absurd (a.1 (subst (λ w. R (key y) (key w) ≡ Equal) is same))
        both (inr a) (inr b) = keyed r s y z a.0 b.0 er es same

    -- the list has the row in its place
    pub listed_put : (x : X) (old new : List Row) → IsKeyed R key entry old → PutsRow x old new
        → rows_in_key_order R key entry new ≡ with_row R key x (rows_in_key_order R key entry old)
    listed_put x old new keyed p =
        sym (listed_is new (with_row R key x (rows_in_key_order R key entry old)) (still_keyed x old new keyed p)
        (put_in_order o key (rows_in_key_order R key entry old) x (listed_in_order old)) sound complete)
      where
        sound : (y : X) → Has (with_row R key x (rows_in_key_order R key entry old)) y → StandsFor new y
        sound y h = elim (put_has x (rows_in_key_order R key entry old) y h) [
          | inl is ↦ (p.row, p.there, p.is ∙ ap Some (sym is))
          | inr was ↦
              let it = listed_stands old y was.0 in
              (it.0, p.kept it.0 y it.1 it.2 was.1, it.2)
        ]

        complete : (r : Row) (y : X) → Has new r → entry r ≡ Some y → Has
            (with_row R key x (rows_in_key_order R key entry old)) y
        complete r y h e = elim (p.others r y h e) [
          | inl is ↦ subst (Has (with_row R key x (rows_in_key_order R key entry old)))
              (sym (same_entry p.row y x (ap entry (sym is)
              ∙ e) p.is)) (has_put x (rows_in_key_order R key entry old))
          | inr was ↦ put_keeps x (rows_in_key_order R key entry old) y (stands_listed old y r keyed was.0 e) was.1
        ]
