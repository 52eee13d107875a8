-- A statement about an answer, in another form.
use Rattle.std.specs.Prelude.{Result, Ok, Err, IfOk, IfErr}

module _ {A E : Type 0} where
  pub if_ok : (r : Result A E) (P Q : A → Type 0) → IfOk r P → ((a : A) → P a → Q a) → IfOk r Q
  if_ok (Ok a) P Q h f = f a h
  if_ok (Err e) P Q h f = tt

  pub if_err : (r : Result A E) (P Q : E → Type 0) → IfErr r P → ((e : E) → P e → Q e) → IfErr r Q
  if_err (Ok a) P Q h f = tt
  if_err (Err e) P Q h f = f e h
