-- The codes at and above a code.
use Rattle.std.specs.Prelude.{◌≡◌, ℕ, Bool, true, false, List, [], ◌∷◌, ◌++◌, Option, None, refl}
use Rattle.cpi_codes.specs.CodeParts.{are_parts}
use Rattle.cpi_codes.specs.declared.codes.Code.{Code}

abbrev pub code_if : (d : ℕ) (g c s a : Option ℕ) (b : Bool) → are_parts d g c s a ≡ b → List Code
code_if d g c s a true e = record { division = d; group = g; class = c; subclass = s; aggregate = a; valid = e } ∷ []
code_if d g c s a false e = []

-- the code of these parts, and nothing where they are those of no code
abbrev pub code_with : ℕ → Option ℕ → Option ℕ → Option ℕ → Option ℕ → List Code
code_with d g c s a = code_if d g c s a (are_parts d g c s a) refl

-- `00`, the division, the group, the class, the subclass and the code itself
abbrev pub path : Code → List Code
path c =
    code_with 0 None None None None ++ (code_with c.division None None None None
    ++ (code_with c.division c.group None None None
    ++ (code_with c.division c.group c.class None None
    ++ (code_with c.division c.group c.class c.subclass None ++ c ∷ []))))
