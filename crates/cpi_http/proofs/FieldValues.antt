-- The values of the fields with a name, field by field.
use Rattle.std.proofs.Common.{◌≡◌, ◌<◌, ◌≤◌, ◌+◌, ℕ, true, false, List, [], ◌∷◌, ◌++◌, length, take, drop, get_or, map}
use Rattle.std.proofs.Common.{if◌then◌else◌, refl, sym, ap, ◌∙◌, subst, arith, append-nil, length-append}
use Rattle.std.proofs.Common.{take-append-drop}
use Rattle.std.proofs.lemmas.List.{take_more, map-append}
use Rattle.std.proofs.lemmas.Grind.{flat_map-append}
use Rattle.std.specs.Borrow.{Bor}
use Rattle.cpi_http.specs.declared.fields.Named.{Named}
use Rattle.cpi_http.specs.declared.fields.Named.TheVariants as Of
use Rattle.cpi_http.specs.Fields.{Header, is_same_text, values_named, AreNamed}

abbrev one : List ℕ → Header → List (List ℕ)
one name h = if is_same_text h.0 name then h.1 ∷ [] else []

values_append : (name : List ℕ) (xs ys : List Header)
    → values_named name (xs ++ ys) ≡ values_named name xs ++ values_named name ys
values_append name xs ys = flat_map-append (one name) xs ys

-- one field more
pub values_more : {X : Type 0} (name : List ℕ) (f : X → Header) (xs : List X) (i : ℕ) (d : X) → i < length xs
    → values_named name (map f (take (i + 1) xs)) ≡ values_named name (map f (take i xs))
    ++ (if is_same_text (f (get_or xs i d)).0 name then (f (get_or xs i d)).1 ∷ [] else [])
values_more name f xs i d inside =
    ap (λ l. values_named name (map f l)) (take_more xs i d inside)
    ∙ ap (values_named name) (map-append f (take i xs) (get_or xs i d ∷ []))
    ∙ values_append name (map f (take i xs)) (f (get_or xs i d) ∷ [])
    ∙ ap (λ l. values_named name (map f (take i xs)) ++ l) (append-nil (one name (f (get_or xs i d))))

pub values_front : {X : Type 0} (name : List ℕ) (f : X → Header) (xs : List X) (i : ℕ)
    → length (values_named name (map f (take i xs))) ≤ length (values_named name (map f xs))
values_front name f xs i =
    let e = ap (λ l. length (values_named name (map f l))) (sym (take-append-drop i xs)) in
    let m = ap (λ l. length (values_named name l)) (map-append f (take i xs) (drop i xs)) in
    let a = ap length (values_append name (map f (take i xs)) (map f (drop i xs))) in
    let n = length-append (values_named name (map f (take i xs))) (values_named name (map f (drop i xs))) in
    omega (arith, e, m, a, n)

-- a field of another name
pub other_name : {X : Type 0} (name : List ℕ) (f : X → Header) (xs : List X) (i : ℕ) (d : X) (found : Named)
    → i < length xs
    → AreNamed (values_named name (map f (take i xs))) found → is_same_text (f (get_or xs i d)).0 name ≡ false
    → AreNamed (values_named name (map f (take (i + 1) xs))) found
other_name name f xs i d found inside before other =
    subst (λ l. AreNamed l found) (sym (values_more name f xs i d inside
    ∙ ap (λ b. values_named name (map f (take i xs)) ++ (if b then (f (get_or xs i d)).1 ∷ [] else [])) other
    ∙ append-nil _)) before

-- the values with a field of the name
pub same_name : {X : Type 0} (name : List ℕ) (f : X → Header) (xs : List X) (i : ℕ) (d : X) → i < length xs
    → is_same_text (f (get_or xs i d)).0 name ≡ true
    → values_named name (map f (take (i + 1) xs)) ≡ values_named name (map f (take i xs)) ++ (f (get_or xs i d)).1 ∷ []
same_name name f xs i d inside same =
    values_more name f xs i d inside
    ∙ ap (λ b. values_named name (map f (take i xs)) ++ (if b then (f (get_or xs i d)).1 ∷ [] else [])) same

some : (values : List (List ℕ)) (found : Named) → AreNamed values found → ¬ (found ≡ Of.Never) → 1 ≤ length values
some values Of.Never is other = absurd (other refl)
some values (Of.Once v) is other = let e = ap length is in omega (arith, e)
some values Of.Again is other = omega (arith, is)

-- the name comes a second time
pub again : {X : Type 0} (name : List ℕ) (f : X → Header) (xs : List X) (i : ℕ) (d : X) (found : Named) → i < length xs
    → AreNamed (values_named name (map f (take i xs))) found → ¬ (found ≡ Of.Never)
    → is_same_text (f (get_or xs i d)).0 name ≡ true
    → 2 ≤ length (values_named name (map f xs))
again name f xs i d found inside before other same =
    let e = ap length (same_name name f xs i d inside same) in
    let n = length-append (values_named name (map f (take i xs))) ((f (get_or xs i d)).1 ∷ []) in
    let s = some _ found before other in
    let w = values_front name f xs (i + 1) in
    omega (arith, e, n, s, w)

-- the name comes for the first time
pub first_name : {X : Type 0} (name : List ℕ) (f : X → Header) (xs : List X) (i : ℕ) (d : X) (old new : Named)
    (v : Bor (List ℕ)) → i < length xs
    → AreNamed (values_named name (map f (take i xs))) old → old ≡ Of.Never
    → is_same_text (f (get_or xs i d)).0 name ≡ true
    → new ≡ Of.Once v → v.now ≡ (f (get_or xs i d)).1 → AreNamed (values_named name (map f (take (i + 1) xs))) new
first_name name f xs i d old new v inside before never same is value =
    let nil : values_named name (map f (take i xs)) ≡ [] =
    subst (AreNamed (values_named name (map f (take i xs)))) never before in
    subst (AreNamed (values_named name (map f (take (i + 1) xs)))) (sym is)
    (same_name name f xs i d inside same ∙ ap (λ l. l ++ (f (get_or xs i d)).1 ∷ []) nil ∙ ap (λ l. l ∷ []) (sym value))
