-- Lists of texts.
use Rattle.std.proofs.Common.{◌≡◌, ℕ, ◌≤◌, ◌-◌, List, [], ◌∷◌, length, drop, get_or, map, take, Bor, sym, ap, arith}
use Rattle.std.proofs.lemmas.List.{take_all}

abbrev pub Said : Type 0
Said = Bor (List ℕ)

abbrev pub said : List Said → List (List ℕ)
said texts = map (λ t. t.now) texts

abbrev pub blank : Said
blank = record { ref_ptr = (0, 0); now = [] }

-- the first of the texts, and those after it
pub said_more : (texts : List Said) → 1 ≤ length texts
    → said texts ≡ (get_or texts 0 blank).now ∷ said (take (length texts - 1) (drop 1 texts))
said_more [] some = absurd (omega (arith, some))
said_more (text ∷ texts) some =
    ap (λ l. text.now ∷ said l) (sym (take_all (length (text ∷ texts) - 1) texts (omega arith)))

infixr 3 ◌▸◌
-- what is shown of one text, and of those after it
abbrev pub ◌▸◌ : {A B : Type 0} → A → B → A × B
a ▸ b = (a, b)
