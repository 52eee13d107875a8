-- The answer of a call that answers what it found, or counts a failure.
use Rattle.std.proofs.Common.{◌≡◌, ℕ, true, Result, Ok, Err, refl}
use Rattle.std.specs.Result.{is_ok}
use Rattle.std.specs.Prelude.{OnErr, OnOk}
use Rattle.cpi_sql.specs.Calls.{IsCounted}

module _ {T E F : Type 0} {before after : ℕ} where
  -- an answer was found
  pub on_ok : {P : Type 0} {u : T} (found : Result T E) → IsCounted {F = F} found (Ok u) before after → OnOk found P → P
  on_ok (Ok x) counted p = p
  on_ok (Err e) counted p = absurd (let no = counted.failed in cc)

  -- if the answer is a fault, nothing was found
  pub on_err : {P : Type 0} {f : F} (found : Result T E) → IsCounted found (Err f) before after → OnErr found P → P
  on_err (Ok x) counted p = absurd (let no = counted.answered in cc)
  on_err (Err e) counted p = p

  -- a fact that holds if something was found holds if it is the answer
  pub answers : (P : Type 0) (found : Result T E) (result : Result T F) → IsCounted found result before after
      → OnOk found P → OnOk result P
  answers P (Ok x) result counted p = rw counted.answered p
  answers P (Err e) (Ok y) counted p = absurd (let no = counted.failed in cc)
  answers P (Err e) (Err f) counted p = tt

-- a read was answered, since its fault is no other
pub was_ok : {E : Type 0} (r : Result (Unit {0}) E) → true ≡ is_ok r → r ≡ Ok tt
was_ok (Ok x) is = refl
was_ok (Err e) is = absurd (let no = is in cc)
