-- An entry that is put into a map and taken out again, and rows that are put one after the other.
use Rattle.std.proofs.Common.{◌≡◌, ℕ, ◌+◌, ◌<◌, List, [], ◌∷◌, ◌++◌, length, take, drop, get_or, None, Some, refl, sym, ap}
use Rattle.std.proofs.Common.{◌∙◌, subst}
use Rattle.std.specs.declared.cmp.Ordering.{Ordering}
use Rattle.std.specs.declared.cmp.Ordering.TheVariants.{Less, Equal, Greater}
use Rattle.std.specs.BTreeMap.{insert_entry, is_at}
use Rattle.std.specs.Cmp.{IsTotalOrder}
use Rattle.std.specs.List.{AllByRecursion}
use Rattle.std.specs.Map.{lookup, remove_entry}
use Rattle.std.proofs.lemmas.Cmp.{tied_itself}
use Rattle.std.proofs.lemmas.List.{drop_more, take_more, take-append-drop}
use Rattle.std.proofs.lemmas.Map.Keys.{sorted_head, sorted_tail}
use Rattle.cpi_rows.specs.Keyed.{IsInOrder, with_row}
use Rattle.cpi_rows.proofs.Puts.{put_last}

module _ {K X : Type 0} {R : K → K → Ordering} (o : IsTotalOrder R) (k : K) (v : X) where
  pub taken_out : (es : List (K × X)) → lookup (is_at (R k)) es ≡ None →
      remove_entry (is_at (R k)) (insert_entry R es k v) ≡ es
  taken_out [] none = rw (tied_itself o k) refl
  taken_out (e ∷ es) none = cases (R k e.0) refl none (taken_out es)
    where
      Leaves : List (K × X) → Type 0
      Leaves es = remove_entry (is_at (R k)) (insert_entry R es k v) ≡ es

      cases : (s : Ordering) → R k e.0 ≡ s → lookup (is_at (R k)) (e ∷ es) ≡ None →
          (lookup (is_at (R k)) es ≡ None → Leaves es) → Leaves (e ∷ es)
      cases Less p none rest =
          let put : insert_entry R (e ∷ es) k v ≡ (k, v) ∷ e ∷ es = rw p refl in
          let out : remove_entry (is_at (R k)) ((k, v) ∷ e ∷ es) ≡ e ∷ es = rw (tied_itself o k) refl in
          ap (remove_entry (is_at (R k))) put ∙ out
      cases Equal p none rest = absurd (let found : Some e.1 ≡ None = rw p at none in cc)
      cases Greater p none rest =
          let put : insert_entry R (e ∷ es) k v ≡ e ∷ insert_entry R es k v = rw p refl in
          let past : remove_entry (is_at (R k)) (e ∷ insert_entry R es k v)
          ≡ e ∷ remove_entry (is_at (R k)) (insert_entry R es k v) = rw p refl in
          ap (remove_entry (is_at (R k))) put ∙ past ∙ ap (λ ys. e ∷ ys) (rest (rw p at none))

holds_at : {X : Type 0} (P : X → Type 0) (x : X) (xs ys : List X) → AllByRecursion P (xs ++ x ∷ ys) → P x
holds_at P x [] ys all = all.0
holds_at P x (r ∷ xs) ys all = holds_at P x xs ys all.1

module _ {X K : Type 0} {R : K → K → Ordering} (o : IsTotalOrder R) (key : X → K) where
  before : (x : X) (xs ys : List X) → IsInOrder R key (xs ++ x ∷ ys) → AllByRecursion (λ r. R (key r) (key x) ≡ Less) xs
  before x [] ys sorted = tt
  before x (r ∷ xs) ys sorted = (
    holds_at (λ y. R (key r) (key y) ≡ Less) x xs ys (sorted_head (λ a b. R (key a) (key b)) r (xs ++ x ∷ ys) sorted),
    before x xs ys (sorted_tail (λ a b. R (key a) (key b)) r (xs ++ x ∷ ys) sorted),
  )

  -- the next of rows in order comes after those before it
  pub put_next : (rows : List X) (i : ℕ) (x : X) → i < length rows → x ≡ get_or rows i x → IsInOrder R key rows →
      with_row R key x (take i rows) ≡ take (i + 1) rows
  put_next rows i x lt is sorted =
      let split : take i rows ++ x ∷ drop (i + 1) rows ≡ rows =
      ap (λ ys. take i rows ++ ys) (ap (λ z. z ∷ drop (i + 1) rows) is ∙ sym (drop_more rows i x lt))
      ∙ take-append-drop i rows in
      put_last o key x (take i rows)
      (before x (take i rows) (drop (i + 1) rows) (subst (IsInOrder R key) (sym split) sorted))
      ∙ ap (λ z. take i rows ++ z ∷ []) is ∙ sym (take_more rows i x lt)
