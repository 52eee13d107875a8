-- A text spells one code at most.
use Rattle.std.proofs.Common.{◌≡◌, ℕ, ◌≤◌, IsTrue, List, [], ◌∷◌, Option, Some, None, refl, sym, ap, ◌∙◌, arith}
use Rattle.std.specs.declared.cmp.Ordering.{Ordering}
use Rattle.std.specs.declared.cmp.Ordering.TheVariants.{Less, Equal, Greater}
use Rattle.std.specs.Ordering.{nat_cmp, ordering_then}
use Rattle.std.specs.Option.{option_cmp}
use Rattle.std.specs.Cmp.Lexicographic.{slice_cmp}
use Rattle.std.proofs.lemmas.Bool.Decides.{nat_tests}
use Rattle.cpi_rows.proofs.Truth.{then_first, then_second, equal_of_order}
use Rattle.cpi_codes.specs.CodeParts.{are_parts}
use Rattle.cpi_codes.specs.CodeText.{code_text}
use Rattle.cpi_codes.specs.CodeSpelling.{spelling, is_numbered, is_nested, IsSpelled}
use Rattle.cpi_codes.specs.declared.codes.Code.{Code}
use Rattle.cpi_codes.specs.declared.spelling.Parts.{Parts}
use Rattle.cpi_codes.proofs.CodeBytes.{parts_cmp, absent_below, empty_under}
use Rattle.cpi_codes.proofs.CodeIs.{same_code_is}

pub part_same : (x y : Option ℕ) → option_cmp nat_cmp x y ≡ Equal → x ≡ y
part_same None None e = refl
part_same None (Some n) e = cc
part_same (Some m) None e = cc
part_same (Some m) (Some n) e = ap (λ k. Some k) (equal_of_order m n e)

same_bytes : (xs : List ℕ) → slice_cmp nat_cmp xs xs ≡ Equal
same_bytes [] = refl
same_bytes (x ∷ xs) = first x (slice_cmp nat_cmp xs xs) (same_bytes xs) where
  first : (n : ℕ) (o : Ordering) → o ≡ Equal → ordering_then (nat_cmp n n) o ≡ Equal
  first n o e = grind (arith, nat_tests)

-- the parts of a code
abbrev pub parts_of : Code → Parts
parts_of c = record {
  division = c.division;
  group = c.group;
  class = c.class;
  subclass = c.subclass;
  aggregate =
      c.aggregate;
}

nested_below : (p : Parts) → IsTrue (is_nested p) → (p.group ≡ None → p.class ≡ None)
    × (p.class ≡ None → p.subclass ≡ None) × (p.subclass ≡ None → p.aggregate ≡ None)
nested_below p h = (
  λ e. empty_under p.group p.class (grind (arith, nat_tests)) e,
  λ e. empty_under p.class p.subclass (grind (arith, nat_tests)) e,
  λ e. empty_under p.subclass p.aggregate (grind (arith, nat_tests)) e,
)

-- parts that are spelled as a code's text are the code's
pub same_parts : (p : Parts) (c : Code) → IsTrue (is_nested p) → spelling p ≡ code_text c → (p.division ≡ c.division)
    × (p.group ≡ c.group) × (p.class ≡ c.class) × (p.subclass ≡ c.subclass) × (p.aggregate ≡ c.aggregate)
same_parts p c h e =
    let equal = sym (parts_cmp p.division p.group p.class p.subclass p.aggregate c.division c.group c.class c.subclass
    c.aggregate (nested_below p h) (absent_below c.division _ _ _ _ c.valid))
    ∙ ap (λ xs. slice_cmp nat_cmp xs (code_text c)) e ∙ same_bytes (code_text c) in
    let rest = then_second (nat_cmp p.division c.division) _ equal in
    let third = then_second (option_cmp nat_cmp p.group c.group) _ rest in
    let fourth = then_second (option_cmp nat_cmp p.class c.class) _ third in (
      equal_of_order p.division c.division (then_first (nat_cmp p.division c.division) _ equal),
      part_same p.group c.group (then_first (option_cmp nat_cmp p.group c.group) _ rest),
      part_same p.class c.class (then_first (option_cmp nat_cmp p.class c.class) _ third),
      part_same p.subclass c.subclass (then_first (option_cmp nat_cmp p.subclass c.subclass) _ fourth),
      part_same p.aggregate c.aggregate (then_second (option_cmp nat_cmp p.subclass c.subclass) _ fourth),
    )

valid_nested : (d : ℕ) (g c s a : Option ℕ) → IsTrue (are_parts d g c s a) →
    IsTrue (is_nested (record { division = d; group = g; class = c; subclass = s; aggregate = a }))
valid_nested d g c s None h = grind (arith, nat_tests)
valid_nested d g c s (Some n) h = grind (arith, nat_tests)

valid_numbered : (d : ℕ) (g c s a : Option ℕ) → IsTrue (are_parts d g c s a) →
    IsTrue (is_numbered (record { division = d; group = g; class = c; subclass = s; aggregate = a }))
valid_numbered d g c s a h = grind (arith, nat_tests)

-- the text of a code is spelled by its parts
pub spells : (c : Code) (bytes : List ℕ) → code_text c ≡ bytes → IsSpelled (parts_of c) bytes
spells c bytes e = (
  valid_numbered c.division c.group c.class c.subclass c.aggregate c.valid,
  valid_nested c.division c.group c.class c.subclass c.aggregate c.valid,
  e,
)

-- codes with one text are one
pub same_text_is : (c d : Code) → code_text c ≡ code_text d → c ≡ d
same_text_is c d e =
    let same = same_parts (parts_of c) d (valid_nested c.division c.group c.class c.subclass c.aggregate c.valid) e in
    same_code_is c d same.0 same.1 same.2 same.3 same.4

valid_household : (d : ℕ) (g c s a : Option ℕ) → IsTrue (are_parts d g c s a) → d ≤ 13
valid_household d g c s a h = grind (arith, nat_tests)

pub household : (c : Code) → c.division ≤ 13
household c = valid_household c.division c.group c.class c.subclass c.aggregate c.valid

valid_aggregate : (d : ℕ) (g c s a : Option ℕ) → IsTrue (are_parts d g c s a) → a ≡ Some 0 → ⊥
valid_aggregate d g c s None h e = cc
valid_aggregate d g c s (Some n) h e = let zero : n ≡ 0 = cc in grind (arith, nat_tests)

pub aggregate_some : (c : Code) → c.aggregate ≡ Some 0 → ⊥
aggregate_some c = valid_aggregate c.division c.group c.class c.subclass c.aggregate c.valid
