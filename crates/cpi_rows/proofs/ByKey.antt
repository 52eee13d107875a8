-- What a map of rows finds and puts is what the rows in their order find and put.
use Rattle.std.proofs.Common.{◌≡◌, ℕ, zero, suc, ◌<◌, ◌≤◌, List, [], ◌∷◌, length, get_or, refl, ap, ◌∙◌, arith}
use Rattle.std.proofs.Common.{Option, Some, None, true, false, sym, subst}
use Rattle.std.specs.declared.cmp.Ordering.{Ordering}
use Rattle.std.specs.declared.cmp.Ordering.TheVariants.{Less, Equal, Greater}
use Rattle.std.specs.Prelude.{IsSome}
use Rattle.std.specs.Ordering.{ordering_reverse, is_lt}
use Rattle.std.specs.Cmp.{IsTotalOrder}
use Rattle.std.specs.Map.{lookup, values_of}
use Rattle.std.specs.BTreeMap.{insert_entry, is_at}
use Rattle.std.proofs.lemmas.Bool.{false≢true}
use Rattle.std.proofs.lemmas.Cmp.{tied_itself}
use Rattle.std.proofs.lemmas.Map.Keys.{sorted_tail, Less-from_sorted}
use Rattle.cpi_rows.specs.Keyed.{with_row, row_at, IsInOrder}
use Rattle.cpi_rows.specs.ByKey.{AreUnderKeys}
use Rattle.cpi_rows.proofs.Places.{put_at_gap, put_at_row}

module _ {X K : Type 0} {R : K → K → Ordering} (o : IsTotalOrder R) (key : X → K) where
  abbrev c : X → X → Ordering
  c a b = R (key a) (key b)

  -- the key of an entry compares as its row's
  turned : (k : K) (e : K × X) → R e.0 (key e.1) ≡ Equal → R k e.0 ≡ ordering_reverse (R (key e.1) k)
  turned k e level = o.antisymm k e.0 ∙ ap ordering_reverse (o.congr e.0 (key e.1) k level)

  pub lookup_row : (k : K) (es : List (K × X)) → AreUnderKeys R key es →
      lookup (is_at (R k)) es ≡ row_at R key k (values_of es)
  lookup_row k [] under = refl
  lookup_row k (e ∷ es) under = cases (R (key e.1) k) refl (lookup_row k es under.1)
    where
      Finds : List (K × X) → Type 0
      Finds es = lookup (is_at (R k)) es ≡ row_at R key k (values_of es)

      cases : (s : Ordering) → R (key e.1) k ≡ s → Finds es → Finds (e ∷ es)
      cases Less p rest = rw (turned k e under.0, p) rest
      cases Equal p rest = rw (turned k e under.0, p) refl
      cases Greater p rest = rw (turned k e under.0, p) rest

  -- a key above the last one is nowhere
  pub past_last : (last k : K) (es : List (K × X)) →
      ((q : K) → IsSome (lookup (is_at (R q)) es) → is_lt (R last q) ≡ false) →
      is_lt (R last k) ≡ true → lookup (is_at (R k)) es ≡ None
  past_last last k es upper above = cases (lookup (is_at (R k)) es) refl
    where
      cases : (w : Option X) → lookup (is_at (R k)) es ≡ w → lookup (is_at (R k)) es ≡ None
      cases None e = e
      cases (Some x) e = absurd (false≢true (sym (upper k (subst IsSome (sym e) refl)) ∙ above))

  module _ (row : X) where
    pub stay_under : (es : List (K × X)) → AreUnderKeys R key es →
        AreUnderKeys R key (insert_entry R es (key row) row)
    stay_under [] under = (tied_itself o (key row), tt)
    stay_under (e ∷ es) under = cases (R (key row) e.0) refl (stay_under es under.1)
      where
        Stays : List (K × X) → Type 0
        Stays es = AreUnderKeys R key (insert_entry R es (key row) row)

        cases : (s : Ordering) → R (key row) e.0 ≡ s → Stays es → Stays (e ∷ es)
        cases Less p rest = rw p (tied_itself o (key row), under)
        cases Equal p rest = rw p (o.antisymm e.0 (key row) ∙ ap ordering_reverse p, under.1)
        cases Greater p rest = rw p (under.0, rest)

    -- rows of which the first is above the row
    above : (x : X) (xs : List X) → IsInOrder R key (x ∷ xs) → R (key x) (key row) ≡ Greater →
        (j : ℕ) (d : X) → 0 ≤ j → j < length (x ∷ xs) → R (key (get_or (x ∷ xs) j d)) (key row) ≡ Greater
    above x xs sorted p zero d from lt = p
    above x xs sorted p (suc j) d from lt =
        let below : R (key row) (key x) ≡ Less = o.antisymm (key row) (key x) ∙ ap ordering_reverse p in
        let far : K = key (get_or (x ∷ xs) (suc j) d) in
        let next : R (key x) far ≡ Less =
        Less-from_sorted c (x ∷ xs) 0 (suc j) d sorted (omega arith) lt in
        o.antisymm far (key row) ∙ ap ordering_reverse (o.trans (key row) (key x) far below next)

    pub insert_puts : (es : List (K × X)) → AreUnderKeys R key es → IsInOrder R key (values_of es) →
        values_of (insert_entry R es (key row) row) ≡ with_row R key row (values_of es)
    insert_puts [] under sorted = refl
    insert_puts (e ∷ es) under sorted =
        cases (R (key e.1) (key row)) refl (insert_puts es under.1 (sorted_tail c e.1 (values_of es) sorted))
      where
        Puts : List (K × X) → Type 0
        Puts es = values_of (insert_entry R es (key row) row) ≡ with_row R key row (values_of es)

        cases : (s : Ordering) → R (key e.1) (key row) ≡ s → Puts es → Puts (e ∷ es)
        cases Less p rest = rw (turned (key row) e under.0, p) (ap (λ xs. e.1 ∷ xs) rest)
        cases Equal p rest =
            let placed = put_at_row o key (e.1 ∷ values_of es) sorted row 0 (omega arith, λ d. p) in
            rw (turned (key row) e under.0, p) (rw p at placed)
        cases Greater p rest =
            let higher = above e.1 (values_of es) sorted p in
            let placed =
            put_at_gap o key (e.1 ∷ values_of es) row 0 (omega arith, λ j d lt. absurd (omega arith), higher) in
            rw (turned (key row) e under.0, p) (rw p at placed)
