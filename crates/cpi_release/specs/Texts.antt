-- Lists of texts.
use Rattle.std.specs.Prelude.{ℕ, List, [], ◌∷◌}
use Rattle.std.specs.Str.{IsUtf8}

-- each of these byte strings is UTF-8
abbrev pub AreTexts : List (List ℕ) → Type 0
AreTexts [] = Unit {0}
AreTexts (text ∷ texts) = IsUtf8 text × AreTexts texts
