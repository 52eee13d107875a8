-- The codes that a release may carry, one after the other.
use Rattle.std.proofs.Common.{◌≡◌, ℕ, List, [], ◌∷◌, ◌++◌, take, length, get_or, ◌<◌, ◌+◌, refl, sym, ap, ◌∙◌}
use Rattle.std.proofs.lemmas.List.{take_more, append_assoc}
use Rattle.cpi_codes.specs.CodeText.{code_text}
use Rattle.cpi_codes.specs.declared.codes.Code.{Code}
use Rattle.cpi_sql_rows.specs.ReleaseRows.{carry_text}

-- a code more, after a space
pub carry_push : (c : Code) (cs : List Code) (d : Code) → carry_text (c ∷ cs ++ d ∷ []) ≡ carry_text (c ∷ cs)
    ++ 32 ∷ code_text d
carry_push c [] d = refl
carry_push c (b ∷ cs) d =
    ap (λ l. code_text c ++ 32 ∷ l) (carry_push b cs d)
    ∙ sym (append_assoc (code_text c) (32 ∷ carry_text (b ∷ cs)) (32 ∷ code_text d))

-- the next of the codes, after a space
pub carry_more : (c : Code) (cs : List Code) (i : ℕ) (d : Code) (old mid new more : List ℕ) → i < length cs
    → d ≡ get_or cs i d
    → old ≡ carry_text (c ∷ take i cs) → more ≡ code_text d → mid ≡ old ++ 32 ∷ [] → new ≡ mid ++ more
    → new ≡ carry_text (c ∷ take (i + 1) cs)
carry_more c cs i d old mid new more low is was part space done =
    done ∙ ap (λ l. l ++ more) space ∙ append_assoc old (32 ∷ []) more ∙ ap (λ l. l ++ 32 ∷ more) was
    ∙ ap (λ l. carry_text (c ∷ take i cs) ++ 32 ∷ l) part ∙ sym (carry_push c (take i cs) d)
    ∙ ap (λ l. carry_text (c ∷ l)) (sym (take_more cs i d low ∙ ap (λ y. take i cs ++ y ∷ []) (sym is)))
