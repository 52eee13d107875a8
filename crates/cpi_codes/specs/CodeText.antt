-- The one spelling of a code, as bytes of ASCII: "01.1.1.1-01", and what stands below what.
use Rattle.std.specs.Prelude.{ℕ, Bool, true, false, ◌&&◌, ◌||◌, not, ◌==◌, List, [], ◌∷◌, ◌++◌}
use Rattle.cpi_codes.specs.CodeParts.{two_digits, dot_and_digit, dash_and_number}
use Rattle.cpi_codes.specs.declared.codes.Code.{Code}

abbrev pub code_text : Code → List ℕ
code_text c = two_digits c.division ++ (dot_and_digit c.group ++
    (dot_and_digit c.class ++ (dot_and_digit c.subclass ++ dash_and_number c.aggregate)))

-- whether a text begins with another
abbrev pub begins_with : List ℕ → List ℕ → Bool
begins_with xs [] = true
begins_with [] (y ∷ ys) = false
begins_with (x ∷ xs) (y ∷ ys) = (x == y) && begins_with xs ys

abbrev pub are_one_text : List ℕ → List ℕ → Bool
are_one_text xs ys = begins_with xs ys && begins_with ys xs

-- `00`, which stands above every other code
abbrev pub all_items : List ℕ
all_items = 48 ∷ 48 ∷ []

-- a code is below a node where it is another code, and the node is `00` or the code's text begins with the node's
abbrev pub is_code_below : Code → Code → Bool
is_code_below node code = not (are_one_text (code_text code) (code_text node))
    && (are_one_text (code_text node) all_items || begins_with (code_text code) (code_text node))

abbrev pub same_code : Code → Code → Bool
same_code a b = are_one_text (code_text a) (code_text b)

abbrev pub is_code_at_or_below : Code → Code → Bool
is_code_at_or_below node code = same_code node code || is_code_below node code
