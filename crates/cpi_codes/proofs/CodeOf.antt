-- The code of a text as it is computed is the one that it writes.
use mathlib.Core.Bool.{true≢false}
use Rattle.std.proofs.Common.{◌≡◌, sym, ap, refl, ℕ, List, ◌+◌, ◌-◌, ◌*◌, ◌/◌, ◌%◌, Bool, true, false, IsTrue, Option}
use Rattle.std.proofs.Common.{Some, None, Result, Ok, Err, IfSome, IfOk, bytes_eq, Decides, arith, if◌then◌else◌}
use Rattle.std.proofs.Math.Bool.{Bool-set}
use Rattle.std.proofs.lemmas.Bool.Decides.{nat_tests}
use Rattle.std.proofs.lemmas.Slice.Eq.{bytes_eq-Decides}
use Rattle.std.specs.Result.{result_ok}
use Rattle.cpi_codes.specs.Following.{◌>>=◌}
use Rattle.cpi_codes.specs.CodeOf.{code_in, digit_at, number_at, spelled_code}
use Rattle.cpi_codes.specs.CodeParts.{are_parts}
use Rattle.cpi_codes.specs.CodeText.{code_text}
use Rattle.cpi_codes.specs.Ranges.{holds}
use Rattle.cpi_codes.specs.declared.code_texts.CodeFault.{CodeFault}
use Rattle.cpi_codes.specs.declared.codes.Code.{Code}
use Rattle.cpi_codes.proofs.CodeIs.{code}

-- ---- each code is read from its text

held : (b : Bool) (v : IsTrue b) → holds b ≡ Some v
held true v = ap (λ w. Some w) (Bool-set true true _ v)
held false v = absurd (true≢false (sym v))

placed : (bytes : List ℕ) (c : Code) → number_at bytes 0 ≡ Some c.division → digit_at bytes 3 ≡ c.group →
    digit_at bytes 5 ≡ c.class
    → digit_at bytes 7 ≡ c.subclass → number_at bytes 9 ≡ c.aggregate → code_text c ≡ bytes → spelled_code
    bytes ≡ Some c
unfolding spelled_code
placed bytes c division group class subclass aggregate e =
    let same : bytes_eq (code_text c) bytes ≡ true = (bytes_eq-Decides (code_text c) bytes).1 e in
    rw (division, group, class, subclass, aggregate, held _ c.valid, same) refl

one : (n : ℕ) → Some (48 + n - 48) ≡ Some n
one n = ap (λ k. Some k) (omega arith)

two : (n : ℕ) → Some ((48 + n / 10 - 48) * 10 + (48 + n % 10 - 48)) ≡ Some n
two n = ap (λ k. Some k) (omega arith)

read_back : (d : ℕ) (g c s a : Option ℕ) (v : IsTrue (are_parts d g c s a)) →
    spelled_code (code_text (code d g c s a v)) ≡ Some (code d g c s a v)
read_back d None None None None v = placed _ (code d None None None None v) (two d) refl refl refl refl refl
read_back d (Some g) None None None v = placed _ (code d (Some g) None None None v) (two d) (one g) refl refl refl refl
read_back d (Some g) (Some c) None None v = placed _ (code d (Some g) (Some c) None None v) (two d) (one g)
    (one c) refl refl refl
read_back d (Some g) (Some c) (Some s) None v = placed _ (code d (Some g) (Some c) (Some s) None v) (two d) (one g)
    (one c) (one s) refl refl
read_back d (Some g) (Some c) (Some s) (Some a) v = placed _ (code d (Some g) (Some c) (Some s) (Some a) v) (two d)
    (one g) (one c) (one s) (two a) refl
read_back d None (Some c) s a v = absurd (grind (arith, nat_tests))
read_back d None None (Some s) a v = absurd (grind (arith, nat_tests))
read_back d None None None (Some a) v = absurd (grind (arith, nat_tests))
read_back d (Some g) None (Some s) a v = absurd (grind (arith, nat_tests))
read_back d (Some g) None None (Some a) v = absurd (grind (arith, nat_tests))
read_back d (Some g) (Some c) None (Some a) v = absurd (grind (arith, nat_tests))

pub there : (bytes : List ℕ) (c : Code) → code_text c ≡ bytes → spelled_code bytes ≡ Some c
there bytes c e = rw (← e) (read_back c.division c.group c.class c.subclass c.aggregate c.valid)

-- ---- and what is read is written so

after : (P : Code → Type 0) (o : Option Code) (f : Code → Option Code) → ((c : Code) → IfSome (f c) P) →
    IfSome (o >>= f) P
after P None f h = tt
after P (Some c) f h = h c

pub spelled_has_text : (bytes : List ℕ) → IfSome (spelled_code bytes) (λ c. code_text c ≡ bytes)
unfolding spelled_code
spelled_has_text bytes =
    after (λ c. code_text c ≡ bytes) (code_in bytes) (λ c. if bytes_eq (code_text c) bytes then Some c else None)
    (λ c. cases c (bytes_eq (code_text c) bytes) (bytes_eq-Decides (code_text c) bytes))
  where
    cases : (c : Code) (same : Bool) → Decides same (code_text c ≡ bytes) →
        IfSome (if same then Some c else None) (λ x. code_text x ≡ bytes)
    cases c true is = is.0 refl
    cases c false is = tt

-- ---- so an answer that is a code exactly where the text writes one is that one

pub reads_code : (bytes : List ℕ) (r : Result Code CodeFault) → IfOk r (λ c. code_text c ≡ bytes) →
    ((c : Code) → code_text c ≡ bytes → r ≡ Ok c) → result_ok r ≡ spelled_code bytes
reads_code bytes (Ok c) is every = sym (there bytes c is)
reads_code bytes (Err f) is every = cases (spelled_code bytes) (spelled_has_text bytes)
  where
    cases : (o : Option Code) → IfSome o (λ c. code_text c ≡ bytes) → None ≡ o
    cases None w = refl
    cases (Some c) w = absurd (let no = every c w in (cc no))
