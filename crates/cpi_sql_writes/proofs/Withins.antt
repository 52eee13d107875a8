-- Calls within a transaction, one after the other.
use Rattle.std.proofs.Common.{◌∙◌, inl, Result, Ok, Err, OnOk, IsTrue, arith, refl}
use Rattle.sqlite.specs.State.{State, HasCleanDisk}
use Rattle.sqlite.proofs.StateLemmas.{survives_then}
use Rattle.cpi_sql_rows.proofs.FoundTables.{on_ok_implies}
use Rattle.cpi_sql_writes.specs.Within.{Inside, Within}

-- a premise that doesn't turn on the answer
pub on_given : {A E : Type 0} (r : Result A E) (P Q : Type 0) → (P → OnOk r Q) → OnOk r (P → Q)
on_given (Ok a) P Q f = f
on_given (Err e) P Q f = tt

-- if the disk is clean, it was clean before
pub clean_before : {P : Type 0} (a b : State) → Inside a b P → HasCleanDisk b → HasCleanDisk a
clean_before a b p clean = omega (arith, p.survives.clean)

-- the same call, stated in another way
pub within_as : {A E : Type 0} (a b : State) (r : Result A E) (P Q : State → State → Type 0) → Within a b r P
    → (IsTrue a.in_transaction → P a b → Q a b) → Within a b r Q
within_as a b r P Q p f = record {
  step = λ clean inside. on_ok_implies r (P a b) (Q a b) (p.step clean inside) (f inside);
  kept = p.kept;
  survives = p.survives;
}

-- one after the other; `f` states what both have done
pub inside_then : {P Q R : Type 0} (a b c : State) → Inside a b P → Inside b c Q
    → (HasCleanDisk b → HasCleanDisk c → IsTrue a.in_transaction → R) → Inside a c R
inside_then a b c p q f = record {
  step = λ clean inside. f (clean_before b c q clean) clean inside;
  kept = λ clean.
      let one = p.kept (clean_before b c q clean) in
      let two = q.kept clean in record {
        was_open = λ is. one.was_open (two.was_open is);
        committed = λ is. two.committed is ∙ one.committed (two.was_open is);
      };
  survives = survives_then a b c _ _ _ (λ _ db none. absurd none) (λ _ db none. absurd none) p.survives q.survives;
}

-- before the first
pub inside_here : {P : Type 0} (a : State) → (IsTrue a.in_transaction → P) → Inside a a P
inside_here a f = record {
  step = λ clean inside. f inside;
  kept = λ clean. record { was_open = λ is. is; committed = λ is. refl };
  survives = record {
    clean = omega arith;
    shield = λ is. is;
    counts = omega arith;
    limit = refl;
    closes = λ clean is. inl is;
    crash = λ clean db may. inl may;
  };
}
