-- Codes with the same parts are one code.
use Rattle.std.proofs.Common.{◌≡◌, ℕ, Bool, true, Option, IsTrue, ap, subst}
use Rattle.std.proofs.Math.Bool.{Bool-set}
use Rattle.cpi_codes.specs.CodeParts.{are_parts}
use Rattle.cpi_codes.specs.declared.codes.Code.{Code}

abbrev pub code : (d : ℕ) (g c s a : Option ℕ) → IsTrue (are_parts d g c s a) → Code
code d g c s a v = record { division = d; group = g; class = c; subclass = s; aggregate = a; valid = v }

one_proof : (b : Bool) (v w : IsTrue b) → v ≡ w
one_proof b v w = Bool-set b true v w

pub code_is : (d : ℕ) (g c s a : Option ℕ) (v : IsTrue (are_parts d g c s a)) (e : ℕ) (h k t b : Option ℕ) → d ≡ e →
    g ≡ h → c ≡ k → s ≡ t → a ≡ b → (w : IsTrue (are_parts e h k t b)) → code d g c s a v ≡ code e h k t b w
code_is d g c s a v e h k t b p q r x y =
    subst (λ z. (w : IsTrue (are_parts e h k t z)) → code d g c s a v ≡ code e h k t z w) y
    (subst (λ z. (w : IsTrue (are_parts e h k z a)) → code d g c s a v ≡ code e h k z a w) x
    (subst (λ z. (w : IsTrue (are_parts e h z s a)) → code d g c s a v ≡ code e h z s a w) r
    (subst (λ z. (w : IsTrue (are_parts e z c s a)) → code d g c s a v ≡ code e z c s a w) q
    (subst (λ z. (w : IsTrue (are_parts z g c s a)) → code d g c s a v ≡ code z g c s a w) p
    (λ w. ap (code d g c s a) (one_proof (are_parts d g c s a) v w))))))

pub same_code_is : (m n : Code) → m.division ≡ n.division → m.group ≡ n.group → m.class ≡ n.class →
    m.subclass ≡ n.subclass → m.aggregate ≡ n.aggregate → m ≡ n
same_code_is m n p q r x y = code_is m.division m.group m.class m.subclass m.aggregate m.valid n.division n.group
    n.class n.subclass n.aggregate p q r x y n.valid
