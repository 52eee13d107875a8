-- The latest row of a month is one of the list's, and of the month.
use Rattle.std.proofs.Common.{◌≡◌, ◌≢◌, ◌⊎◌, inl, inr, ℕ, zero, suc, ◌<◌, true, false, eqb, cond, List, [], ◌∷◌, ◌++◌}
use Rattle.std.proofs.Common.{Option, Some, None, length, get_or, map, refl, sym, ap, ◌∙◌, subst, arith}
use Rattle.std.specs.Option.{option_or}
use Rattle.std.specs.List.{AllByRecursion}
use Rattle.std.proofs.lemmas.Bool.Decides.{eqb_tells}
use Rattle.cpi_release.specs.Latest.{latest_row}

module _ {X : Type 0} (month_of : X → ℕ) (month : ℕ) where
  or_assoc : (a b c : Option X) → option_or (option_or a b) c ≡ option_or a (option_or b c)
  or_assoc None b c = refl
  or_assoc (Some x) b c = refl

  or_none : (a : Option X) → option_or a None ≡ a
  or_none None = refl
  or_none (Some x) = refl

  abbrev own : X → Option X
  own x = cond (eqb (month_of x) month) (Some x) None

  -- one more row after the others
  pub latest_behind : (xs : List X) (x : X) → latest_row month_of month (xs ++ x ∷ []) ≡ option_or (own x)
      (latest_row month_of month xs)
  latest_behind [] x = sym (or_none (own x))
  latest_behind (y ∷ ys) x = ap (λ o. option_or o (own y)) (latest_behind ys x)
      ∙ or_assoc (own x) (latest_row month_of month ys) (own y)

  pub latest_own : (xs : List X) (x : X) → month_of x ≡ month → latest_row month_of month (xs ++ x ∷ []) ≡ Some x
  latest_own xs x is = cases (eqb_tells (month_of x) month)
    where
      cases : ((eqb (month_of x) month ≡ true) × (month_of x ≡ month))
          ⊎ ((eqb (month_of x) month ≡ false) × (month_of x ≢ month)) → latest_row month_of month
          (xs ++ x ∷ []) ≡ Some x
      cases (inl same) = latest_behind xs x ∙ ap (λ b. option_or (cond b (Some x) None)
          (latest_row month_of month xs)) same.0
      cases (inr apart) = absurd (apart.1 is)

  pub latest_other : (xs : List X) (x : X) → month_of x ≢ month →
      latest_row month_of month (xs ++ x ∷ []) ≡ latest_row month_of month xs
  latest_other xs x apart = cases (eqb_tells (month_of x) month)
    where
      cases : ((eqb (month_of x) month ≡ true) × (month_of x ≡ month))
          ⊎ ((eqb (month_of x) month ≡ false) × (month_of x ≢ month)) →
          latest_row month_of month (xs ++ x ∷ []) ≡ latest_row month_of month xs
      cases (inl same) = absurd (apart same.1)
      cases (inr other) = latest_behind xs x ∙ ap (λ b. option_or (cond b (Some x) None) (latest_row month_of month xs))
          other.0

  -- a fact about all rows is one about the latest
  pub latest_all : (P : X → Type 0) (xs : List X) (x : X) → AllByRecursion P xs → latest_row month_of month xs
      ≡ Some x →
      P x × (month_of x ≡ month)
  latest_all P [] x all e = cc
  latest_all P (y ∷ ys) x all e = cases (latest_row month_of month ys) refl (eqb_tells (month_of y) month)
      (latest_all P ys x all.1)
    where
      cases : (o : Option X) → latest_row month_of month ys ≡ o →
          ((eqb (month_of y) month ≡ true) × (month_of y ≡ month))
          ⊎ ((eqb (month_of y) month ≡ false) × (month_of y ≢ month)) →
          (latest_row month_of month ys ≡ Some x → P x × (month_of x ≡ month)) → P x × (month_of x ≡ month)
      cases (Some z) f tells rest = rest
          (let is : Some z ≡ Some x = sym (ap (λ o. option_or o (own y)) f) ∙ e in f ∙ is)
      cases None f (inl same) rest =
          let is : Some y ≡ Some x = sym (ap (λ o. option_or o (own y)) f ∙ ap (λ b. cond b (Some y) None) same.0)
          ∙ e in
          let here : y ≡ x = cc in
          (subst P here all.0, subst (λ z. month_of z ≡ month) here same.1)
      cases None f (inr other) rest =
          let no : None ≡ Some x = sym (ap (λ o. option_or o (own y)) f ∙ ap (λ b. cond b (Some y) None) other.0)
          ∙ e in cc

  pub latest_place : (xs : List X) (x : X) → latest_row month_of month xs ≡ Some x → (k : ℕ)
      × (k < length (map month_of xs)) × (get_or (map month_of xs) k 0 ≡ month)
  latest_place [] x e = cc
  latest_place (y ∷ ys) x e = cases (latest_row month_of month ys) refl (eqb_tells (month_of y) month) (latest_place ys)
    where
      cases : (o : Option X) → latest_row month_of month ys ≡ o →
          ((eqb (month_of y) month ≡ true) × (month_of y ≡ month))
          ⊎ ((eqb (month_of y) month ≡ false) × (month_of y ≢ month)) →
          ((z : X) → latest_row month_of month ys ≡ Some z → (k : ℕ) × (k < length (map month_of ys))
          × (get_or (map month_of ys) k 0 ≡ month)) → (k : ℕ) × (k < length (map month_of (y ∷ ys)))
          × (get_or (map month_of (y ∷ ys)) k 0 ≡ month)
      cases (Some z) f tells rest = let found = rest z f in (suc found.0, omega (arith, found.1), found.2)
      cases None f (inl same) rest = (zero, omega arith, same.1)
      cases None f (inr other) rest =
          let no : None ≡ Some x = sym (ap (λ o. option_or o (own y)) f ∙ ap (λ b. cond b (Some y) None) other.0)
          ∙ e in cc
