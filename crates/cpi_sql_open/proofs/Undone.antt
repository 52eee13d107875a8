-- A query inside a transaction commits nothing, whatever its text means.
use Rattle.std.proofs.Common.{◌≡◌, ◌⊎◌, inl, inr, List, ℕ, Option, Some, None, Result, Ok, Err, IfOk}
use Rattle.std.proofs.Common.{IfErr, IsTrue, sym, ap, ◌∙◌}
use Rattle.std.specs.Prelude.{if◌then◌else◌}
use Rattle.sqlite.specs.Order.{Row}
use Rattle.sqlite_schema.specs.declared.command.Returning.{Returning}
use Rattle.sqlite.specs.declared.error.Error.{Error}
use Rattle.sqlite.specs.Clock.{timed}
use Rattle.sqlite.specs.State.{State, KeepsCommit, IsRolledBack, IsNotRun, Shown, ShowsRows, FailsToQuery}
use Rattle.sqlite.specs.State.{FailsToShow, IsTooLate}
use Rattle.sqlite.proofs.InsideLemmas.{unchanged_keeps}
use Rattle.cpi_sql_rows.specs.Shelf.{IsKept}

module _ (old new : State) (inside : IsTrue old.in_transaction) where
  shows_keep : (sql : List ℕ) (c : _) (params : Row) (rows : List Row) (returning : Option Returning)
      → ShowsRows old new sql c params rows returning → KeepsCommit old new
  shows_keep sql c params rows None h = unchanged_keeps old new (inl h.3)
  shows_keep sql c params rows (Some what) h = record {
    was_open = λ _. h.1.shown.was_open;
    committed = λ _. h.1.shown.committed_is ∙ ap (λ b. if b then old.committed else new.now) inside;
  }

  fails_keep : (sql : List ℕ) (c : _) (params : Row) (e : Error) (returning : Option Returning)
      → FailsToShow old new sql c params e returning → KeepsCommit old new
  fails_keep sql c params e None h = unchanged_keeps old new (inl h.3)
  fails_keep sql c params e (Some what) (inl h) = unchanged_keeps old new (inl h.1)
  fails_keep sql c params e (Some what) (inr h) = unchanged_keeps old new (inr h.3)

  not_run_keeps : (sql : List ℕ) (params : Row) (e : Error) → IsNotRun old new sql params e → KeepsCommit old new
  unfolding IsNotRun
  not_run_keeps sql params e (inl h) = unchanged_keeps old new (inl h.1)
  not_run_keeps sql params e (inr h) = unchanged_keeps old new (inr h.3)

  pub query_keeps : {A : Type 0} (items : A → List Row) (sql : List ℕ) (params : Row) (r : Result A Error)
      → IfOk r (λ a. Shown sql params old new (items a))
      → IfErr r (λ e. FailsToQuery sql params old new e ⊎ IsTooLate sql params old new e) → KeepsCommit old new
  unfolding Shown FailsToQuery
  query_keeps items sql params (Ok a) ok err = shows_keep sql ok.0 (timed params ok.0.formats ok.1.now)
      (items a) ok.0.returning ok.2
  query_keeps items sql params (Err e) ok (inl (inl h)) = not_run_keeps sql params e h
  query_keeps items sql params (Err e) ok (inl (inr h)) =
      fails_keep sql h.0 (timed params h.0.formats h.1.now) e h.0.returning h.2
  query_keeps items sql params (Err e) ok (inr h) = unchanged_keeps old new (inl h.5)

-- a transaction that committed nothing was rolled back
pub undone_kept : (old mid new : State) → (IsTrue old.is_open → old.now ≡ old.committed) → IsTrue new.is_open
    → (mid.committed ≡ old.committed) → (IsTrue mid.is_open → IsTrue old.is_open) → IsRolledBack mid new
    → IsKept old new
undone_kept old mid new settled is_open same was back = record {
  now = (back.undone is_open).0 ∙ same
      ∙ sym (settled (was (back.was_open is_open)));
  alone = back.autocommit;
}
