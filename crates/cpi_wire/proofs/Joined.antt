-- The texts of the items of a list, joined by commas.
use Rattle.std.proofs.Common.{◌≡◌, ◌∙◌, refl, sym, ap, ℕ, List, [], ◌∷◌, ◌++◌, Bool, true, false, codes}
use Rattle.std.proofs.Common.{◌+◌, ◌<◌, ◌≤◌, append_assoc, append-nil, length, map, take, get_or}
use Rattle.std.proofs.lemmas.List.{map-append, take_all, take_more}
use Rattle.serde_json.specs.Data.{Data}
use Rattle.serde_json.specs.View.{items_of}
use Rattle.serde_json.specs.Written.{comma_if, compact_text, items_text}
use Rattle.serde_json.proofs.OnLiterals.{serde_json_on_literals}
use Rattle.cpi_wire.specs.Json.{added_item, list, object_of_one}

-- the texts, with a comma before each, but for the first if nothing is before it
abbrev pub joined : Bool → List Data → List ℕ
joined later [] = []
joined later (d ∷ ds) = comma_if later ++ (compact_text d ++ joined true ds)

abbrev pub none_yet : List Data → Bool
none_yet [] = true
none_yet (d ∷ ds) = false

pub items_joined : (later : Bool) (ds : List Data) → items_text later (items_of ds) ≡ joined later ds ++ 93 ∷ []
items_joined later [] = refl
items_joined later (d ∷ ds) = rw (append_assoc, append_assoc, items_joined true ds) refl

joined_behind : (ds : List Data) (d : Data) → joined true (ds ++ d ∷ []) ≡ joined true ds ++ 44 ∷ compact_text d
joined_behind [] d = rw append-nil refl
joined_behind (x ∷ ds) d =
    ap (λ ys. 44 ∷ (compact_text x ++ ys)) (joined_behind ds d)
    ∙ ap (λ ys. 44 ∷ ys) (sym (append_assoc (compact_text x) (joined true ds) (44 ∷ compact_text d)))

pub joined_more : (ds : List Data) (d : Data)
    → joined false (ds ++ d ∷ []) ≡ joined false ds ++ added_item (none_yet ds) d
joined_more [] d = rw append-nil refl
joined_more (x ∷ ds) d =
    ap (λ ys. compact_text x ++ ys) (joined_behind ds d)
    ∙ sym (append_assoc (compact_text x) (joined true ds) (44 ∷ compact_text d))

pub none_more : (ds : List Data) (d : Data) → false ≡ none_yet (ds ++ d ∷ [])
none_more [] d = refl
none_more (x ∷ ds) d = refl

-- the text is that of a list so far, and one item more is added to it
pub text_more : (begin text grown : List ℕ) (is_first : Bool) (ds : List Data) (d : Data)
    → text ≡ begin ++ joined false ds → is_first ≡ none_yet ds → grown ≡ text ++ added_item is_first d
    → grown ≡ begin ++ joined false (ds ++ d ∷ [])
text_more begin text grown is_first ds d so_far first added =
    added ∙ rw (so_far, first) (append_assoc begin (joined false ds) (added_item (none_yet ds) d))
    ∙ ap (λ ys. begin ++ ys) (sym (joined_more ds d))

-- the text of a list so far, and whether it has no item yet
abbrev pub ListSoFar : List ℕ → List ℕ → Bool → List Data → Type 0
ListSoFar begin text is_first ds = (text ≡ begin ++ joined false ds) × (is_first ≡ none_yet ds)

-- one row more
pub row_more : {X : Type 0} (f : X → Data) (begin text grown : List ℕ) (is_first : Bool) (xs : List X) (i : ℕ) (x : X)
    → i < length xs → x ≡ get_or xs i x → ListSoFar begin text is_first (map f (take i xs))
    → grown ≡ text ++ added_item is_first (f x) → ListSoFar begin grown false (map f (take (i + 1) xs))
row_more f begin text grown is_first xs i x within is so_far added =
    let next = take_more xs i x within ∙ ap (λ y. take i xs ++ y ∷ []) (sym is) in
    let ds = map f (take i xs) in
    let more = sym (map-append f (take i xs) (x ∷ [])) ∙ ap (map f) (sym next) in (
      text_more begin text grown is_first ds (f x) so_far.0 so_far.1 added
          ∙ ap (λ ys. begin ++ joined false ys) more,
      none_more ds (f x) ∙ ap none_yet more,
    )

-- after the last
pub all_rows : {X : Type 0} (f : X → Data) (begin text : List ℕ) (is_first : Bool) (xs : List X) (i : ℕ)
    → length xs ≤ i → ListSoFar begin text is_first (map f (take i xs)) → text ≡ begin ++ joined false (map f xs)
all_rows f begin text is_first xs i whole so_far =
    so_far.0 ∙ ap (λ ys. begin ++ joined false (map f ys)) (take_all i xs whole)

-- the end of a list, and of the object around it
pub list_ended : (ds : List Data) → joined false ds ++ codes "]}" ≡ items_text false (items_of ds) ++ 125 ∷ []
list_ended ds =
    sym (ap (λ ys. ys ++ 125 ∷ []) (items_joined false ds) ∙ append_assoc (joined false ds) (93 ∷ []) (125 ∷ []))

-- ---- the lists of replies

pub items_list : (ds : List Data)
    → (codes "{\"items\":[" ++ joined false ds) ++ codes "]}" ≡ compact_text (object_of_one (codes "items") (list ds))
unfolding serde_json_on_literals
items_list ds = ap (λ ys. codes "{\"items\":[" ++ ys) (list_ended ds)

pub quotes_list : (ds : List Data)
    → (codes "{\"quotes\":[" ++ joined false ds) ++ codes "]}" ≡ compact_text (object_of_one (codes "quotes") (list ds))
unfolding serde_json_on_literals
quotes_list ds = ap (λ ys. codes "{\"quotes\":[" ++ ys) (list_ended ds)

pub tables_list : (ds : List Data)
    → (codes "{\"tables\":[" ++ joined false ds) ++ codes "]}" ≡ compact_text (object_of_one (codes "tables") (list ds))
unfolding serde_json_on_literals
tables_list ds = ap (λ ys. codes "{\"tables\":[" ++ ys) (list_ended ds)

pub work_list : (ds : List Data)
    → (codes "{\"work\":[" ++ joined false ds) ++ codes "]}" ≡ compact_text (object_of_one (codes "work") (list ds))
unfolding serde_json_on_literals
work_list ds = ap (λ ys. codes "{\"work\":[" ++ ys) (list_ended ds)
