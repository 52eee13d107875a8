-- The elementary aggregates that fields write, one after the other.
use Rattle.std.proofs.Common.{◌≡◌, refl, sym, ap, List, [], ◌∷◌, ◌++◌, Option, Some, None, append_assoc}
use Rattle.std.proofs.lemmas.List.{append-nil}
use Rattle.cpi_codes.specs.Following.{◌>>=◌}
use Rattle.cpi_codes.specs.declared.codes.Code.{Code}
use Rattle.cpi_wire.specs.Arguments.{Text}
use Rattle.cpi_wire.specs.Values.{spelled_elementary_code}
use Rattle.cpi_wire.specs.Words.{elementary_codes}

-- codes that were found, and others after them
abbrev pub behind : List Code → Option (List Code) → Option (List Code)
behind found None = None
behind found (Some more) = Some (found ++ more)

pub behind_none : (more : Option (List Code)) → behind [] more ≡ more
behind_none None = refl
behind_none (Some more) = refl

pub behind_all : (found : List Code) → behind found (Some []) ≡ Some found
behind_all found = ap (λ codes. Some codes) (append-nil found)

-- one code more
pub behind_more : (found : List Code) (text : Text) (code : Code) (texts : List Text)
    → spelled_elementary_code text ≡ Some code
    → behind found (elementary_codes (text ∷ texts)) ≡ behind (found ++ code ∷ []) (elementary_codes texts)
behind_more found text code texts e = rw e (cases (elementary_codes texts))
  where
    cases : (more : Option (List Code)) → behind found (more >>= λ codes. Some (code ∷ codes))
        ≡ behind (found ++ code ∷ []) more
    cases None = refl
    cases (Some codes) = ap (λ all. Some all) (sym (append_assoc found (code ∷ []) codes))

-- a text that writes none
pub behind_bad : (found : List Code) (text : Text) (texts : List Text) → spelled_elementary_code text ≡ None
    → behind found (elementary_codes (text ∷ texts)) ≡ None
behind_bad found text texts e = rw e refl
