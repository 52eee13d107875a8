-- Looks, one after the other: nothing is committed.
use Rattle.std.proofs.Common.{Result, arith, refl, inl, subst}
use Rattle.std.specs.Prelude.{⊤}
use Rattle.std.specs.Result.{IsErr}
use Rattle.sqlite.specs.Effect.{Database}
use Rattle.sqlite.specs.Tree.{Trees}
use Rattle.sqlite.specs.State.{State, HasCleanDisk}
use Rattle.sqlite.proofs.StateLemmas.{survives_then}
use Rattle.cpi_sql_rows.specs.Shelf.{HasTables, IsCleanBook, IsLook, Looked, Looks, StaysOpen}
use Rattle.cpi_sql_rows.proofs.Kept.{kept_tables, kept_then}
use Rattle.cpi_sql_rows.proofs.Whole.{looks_failed, looks_more}

-- before the first
pub looks_none : (a : State) → Looked a a (StaysOpen a a)
looks_none a = record {
  still = record {
    clean = λ is. is;
    kept = λ is has. record { now = refl; alone = has.alone };
    crash = record {
      clean = omega arith;
      shield = λ is. is;
      counts = omega arith;
      limit = refl;
      closes = λ disk was. inl was;
      crash = λ disk db may. inl may;
    };
  };
  stays = λ disk was. was;
}

module _ {a b c : State} (one : Looked a b (StaysOpen a b)) where
  still_both : IsLook b c → IsLook a c
  still_both two = record {
    clean = λ is. one.still.clean (two.clean is);
    kept = λ is has.
        let first = one.still.kept (two.clean is) has in
        kept_then a b c first (two.kept is (kept_tables a b first has));
    crash = survives_then a b c _ _ _ (λ _ db no. no) (λ disk db no is has.
        let before : HasCleanDisk b = omega (arith, two.crash.clean) in
        let open_b : IsCleanBook b = record { disk = before; is_open = one.stays before is.is_open } in
        no open_b (kept_tables a b (one.still.kept open_b has) has)) one.still.crash two.crash;
  }

  -- both were answered
  pub looks_both : Looked b c (StaysOpen b c) → Looked a c (StaysOpen a c)
  looks_both two = record {
    still = still_both two.still;
    stays = λ disk was. let before : HasCleanDisk b = omega (arith, two.still.crash.clean) in
        two.stays disk (one.stays before was);
  }

  -- the second wasn't
  pub looks_refused : {A E N : Type 0} (r : Result A E) → Looked b c N → IsErr r → Looks a c r
  looks_refused r two failed =
      let look : Looked a c ⊤ = record { still = still_both two.still; stays = tt } in looks_failed r a c look failed

  -- both were, and no more is asked
  pub looks_done : {A E : Type 0} (r : Result A E) → Looked b c (StaysOpen b c) → Looks a c r
  looks_done r two = looks_more r a c (looks_both two)

  -- a fact from the second look is one about the rows before the first, which are the same
  pub later : {N : Type 0} (P : Trees → Type 0) → Looked b c N
      → (IsCleanBook c → HasTables b → P b.now.trees) → IsCleanBook c → HasTables a → P a.now.trees
  later P two told clean has =
      let kept = one.still.kept (two.still.clean clean) has in
      subst (λ (d : Database). P d.trees) kept.now (told clean (kept_tables a b kept has))
