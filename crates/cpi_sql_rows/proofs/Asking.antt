-- What is known of a statement whatever its text is.
use Rattle.std.proofs.Common.{◌≡◌, inl, inr, ℕ, List, false, Option, Some, None, Result, OnOk}
use Rattle.std.proofs.Common.{OnErr, IfOk, IfErr, Ok, Err, IsTrue, sym, subst, ◌∙◌}
use Rattle.std.proofs.lemmas.Bool.{cases_Bool}
use Rattle.sqlite.specs.Order.{Row}
use Rattle.sqlite_schema.specs.declared.command.Command.{Command}
use Rattle.sqlite_schema.specs.declared.command.Command.TheVariants.{Select, Insert, InsertOr, Update, Delete}
use Rattle.sqlite_schema.specs.declared.command.Command.TheVariants.{CreateTable, CreateIndex, DropTable}
use Rattle.sqlite_schema.specs.declared.command.Command.TheVariants.{DropIndex, Begin, Commit, Rollback}
use Rattle.sqlite_schema.specs.declared.command.Command.TheVariants.{Savepoint as Save, Release, RollbackTo}
use Rattle.sqlite_schema.specs.declared.command.Command.TheVariants.{Nothing, CreateView, DropView, Rows}
use Rattle.sqlite_schema.specs.declared.command.Returning.{Returning}
use Rattle.sqlite.specs.declared.error.Error.{Error}
use Rattle.sqlite.specs.Clock.{timed}
use Rattle.sqlite.specs.Listing.{understood}
use Rattle.sqlite.specs.State.{State, IsUnchanged, Fails, Executes, ExecutesIn, IsNotRun}
use Rattle.sqlite.specs.State.{shows_rows, Shown, ShowsRows, FailsToQuery, FailsToShow, RunsCommand, Runs}
use Rattle.sqlite.specs.State.{text_of}
use Rattle.sqlite.proofs.Callers.{IsPlain}
use Rattle.cpi_sql_rows.specs.Shelf.{IsKept}

abbrev pub WasOpen : State → State → Type 0
WasOpen old new = IsTrue new.is_open → IsTrue old.is_open

module _ (old new : State) where
  runs_open : (returning : Option Returning) (command : Command) (text : List ℕ) (params : Row) (count : ℕ)
      → Runs old new returning command text params count → WasOpen old new
  runs_open returning (Select q names) text params count h is_open = absurd h
  runs_open returning (Insert at from) text params count h is_open = h.shown.was_open
  runs_open returning (InsertOr at how from clauses) text params count h is_open = h.shown.was_open
  runs_open returning (Update at q) text params count h is_open = h.shown.was_open
  runs_open returning (Delete at q) text params count h is_open = h.shown.was_open
  runs_open returning CreateTable text params count h is_open = h.shown.was_open
  runs_open returning (CreateIndex at) text params count h is_open = h.shown.was_open
  runs_open returning (DropTable at) text params count h is_open = h.shown.was_open
  runs_open returning (DropIndex at) text params count h is_open = h.shown.was_open
  runs_open returning Begin text params count h is_open = h.1.was_open
  runs_open returning Commit text params count h is_open = h.1.was_open
  runs_open returning Rollback text params count h is_open = h.1.was_open is_open
  runs_open returning (Save name) text params count h is_open = h.0.0.was_open
  runs_open returning (Release name) text params count h is_open =
      elim h.2 [ inl commits ↦ commits.1.0.was_open | inr drops ↦ drops.1.0.was_open ]
  runs_open returning (RollbackTo name) text params count h is_open = h.2.2.was_open
  runs_open returning (Rows values width names) text params count h is_open = h.0.0.was_open
  runs_open returning Nothing text params count h is_open = h.0.0.was_open
  runs_open returning CreateView text params count h is_open = h.shown.was_open
  runs_open returning (DropView at) text params count h is_open = h.shown.was_open

  fails_open : (P : Type 0) (e : Error) → Fails old new P e → WasOpen old new
  fails_open P e h = h.3.was_open

  not_run_open : (sql : List ℕ) (params : Row) (e : Error) → IsNotRun old new sql params e → WasOpen old new
  unfolding IsNotRun
  not_run_open sql params e (inl h) is_open = h.1.0.was_open
  not_run_open sql params e (inr h) is_open = fails_open _ e h is_open

  ran_open : (sql : List ℕ) (c : _) (params : Row) (r : Result ℕ Error) → RunsCommand old new sql c params r
      → WasOpen old new
  ran_open sql c params (Ok count) h is_open = runs_open c.returning c.command (text_of sql c) params count h is_open
  ran_open sql c params (Err e) (inl h) is_open = h.1.0.was_open
  ran_open sql c params (Err e) (inr h) is_open = fails_open _ e h is_open

  pub executes_open : (sql : List ℕ) (params : Row) (r : Result ℕ Error) → Executes sql params old new r
      → WasOpen old new
  unfolding ExecutesIn
  executes_open sql params (Ok count) h is_open = elim (cases_Bool (shows_rows false h.0)) [
    | inl shows ↦ let it = rw shows at h.2 in it.1.0.was_open
    | inr runs ↦ let it = rw runs at h.2 in ran_open sql h.0 (timed params h.0.formats h.1.now) (Ok count) it is_open
  ]
  executes_open sql params (Err e) (inl h) is_open = not_run_open sql params e h is_open
  executes_open sql params (Err e) (inr h) is_open = elim (cases_Bool (shows_rows false h.0)) [
    | inl shows ↦ let it = rw shows at h.2 in it.1.0.was_open
    | inr runs ↦ let it = rw runs at h.2 in ran_open sql h.0 (timed params h.0.formats h.1.now) (Err e) it is_open
  ]

  shows_open : (sql : List ℕ) (c : _) (params : Row) (rows : List Row) (returning : Option Returning)
      → ShowsRows old new sql c params rows returning → WasOpen old new
  shows_open sql c params rows None h is_open = h.3.0.was_open
  shows_open sql c params rows (Some what) h is_open = h.1.shown.was_open

  shown_open : (sql : List ℕ) (params : Row) (rows : List Row) → Shown sql params old new rows → WasOpen old new
  unfolding Shown
  shown_open sql params rows h = shows_open sql h.0 (timed params h.0.formats h.1.now) rows h.0.returning h.2

  unshown_open : (sql : List ℕ) (c : _) (params : Row) (e : Error) (returning : Option Returning)
      → FailsToShow old new sql c params e returning → WasOpen old new
  unshown_open sql c params e None h is_open = h.3.0.was_open
  unshown_open sql c params e (Some what) h is_open = ran_open sql c params (Err e) h is_open

  refused_open : (sql : List ℕ) (params : Row) (e : Error) → FailsToQuery sql params old new e → WasOpen old new
  unfolding FailsToQuery
  refused_open sql params e (inl h) = not_run_open sql params e h
  refused_open sql params e (inr h) = unshown_open sql h.0 (timed params h.0.formats h.1.now) e h.0.returning h.2

  pub asked_open : {A : Type 0} (items : A → List Row) (sql : List ℕ) (params : Row) (r : Result A Error)
      → IfOk r (λ a. Shown sql params old new (items a)) → IfErr r (FailsToQuery sql params old new) → WasOpen old new
  asked_open items sql params (Ok a) ok err = shown_open sql params (items a) ok
  asked_open items sql params (Err e) ok err = refused_open sql params e err

  module _ (settled : IsTrue old.is_open
      → old.now ≡ old.committed) (alone : old.in_transaction ≡ false) (is_open : IsTrue new.is_open) where
    unchanged : IsUnchanged old new → IsKept old new
    unchanged h = record { now = h.0.now_is; alone = h.0.mode ∙ alone }

    failed : (P : Type 0) (e : Error) → Fails old new P e → IsKept old new
    failed P e h = let back = h.3 in record {
      now = (back.undone is_open).0 ∙ sym (settled (back.was_open is_open));
      alone = back.autocommit;
    }

    not_run : (sql : List ℕ) (params : Row) (e : Error) → IsNotRun old new sql params e → IsKept old new
    unfolding IsNotRun
    not_run sql params e (inl h) = unchanged h.1
    not_run sql params e (inr h) = failed _ e h

    pub failed_same : (sql : List ℕ) (params : Row) (e : Error) → Executes sql params old new (Err e) → IsKept old new
    unfolding ExecutesIn
    failed_same sql params e (inl h) = not_run sql params e h
    failed_same sql params e (inr h) = elim (cases_Bool (shows_rows false h.0)) [
      | inl shows ↦ let it = rw shows at h.2 in unchanged it.1
      | inr runs ↦ let it = rw runs at h.2 in elim it [ inl kept ↦ unchanged kept.1 | inr fails ↦ failed _ e fails ]
    ]

    pub ran_kept : (sql : List ℕ) (params : Row) (r : Result ℕ Error) → Executes sql params old new r
        → OnErr r (IsKept old new)
    ran_kept sql params (Ok count) h = tt
    ran_kept sql params (Err e) h = failed_same sql params e h

    unshown : (sql : List ℕ) (c : _) (params : Row) (e : Error) (returning : Option Returning) → returning ≡ None
        → FailsToShow old new sql c params e returning → IsKept old new
    unshown sql c params e None none h = unchanged h.3
    unshown sql c params e (Some what) none h = absurd cc

    pub asked_same : {A : Type 0} (items : A → List Row) (sql : List ℕ) (params : Row) (r : Result A Error)
        → IsPlain (understood old.now.schema sql)
        → IfOk r (λ a. Shown sql params old new (items a)) → IfErr r (FailsToQuery sql params old new) → IsKept old new
    unfolding Shown FailsToQuery
    asked_same items sql params (Ok a) plain ok err =
        let none = (subst IsPlain ok.1.is plain).0 in
        let it = subst (ShowsRows old new sql ok.0 (timed params ok.0.formats ok.1.now) (items a)) none ok.2 in
        unchanged it.3
    asked_same items sql params (Err e) plain ok (inl h) = not_run sql params e h
    asked_same items sql params (Err e) plain ok (inr h) =
        unshown sql h.0 (timed params h.0.formats h.1.now) e h.0.returning (subst IsPlain h.1.is plain).0 h.2

pub if_ran : (r : Result ℕ Error) (sql : List ℕ) (params : Row) (old new : State) → Executes sql params old new r
    → IfOk r (λ count. Executes sql params old new (Ok count))
if_ran (Ok count) sql params old new h = h
if_ran (Err e) sql params old new h = tt

pub shown_opens : {A E : Type 0} (items : A
    → List Row) (sql : List ℕ) (params : Row) (old new : State) (r : Result A E)
    → IfOk r (λ a. Shown sql params old new (items a)) → OnOk r (IsTrue new.is_open)
unfolding Shown
shown_opens items sql params old new (Ok a) h = at h.0.returning h.2
  where
    at : (returning : Option Returning)
        → ShowsRows old new sql h.0 (timed params h.0.formats h.1.now) (items a) returning → IsTrue new.is_open
    at None it = it.3.0.is_open
    at (Some what) it = it.1.shown.is_open
shown_opens items sql params old new (Err e) h = tt

-- a statement outside a transaction that is done leaves the connection open
module _ (old new : State) (alone : old.in_transaction ≡ false) where
  none_inside : IsTrue old.in_transaction → ⊥
  none_inside inside = let no : IsTrue false = subst IsTrue alone inside in cc

  runs_opens : (returning : Option Returning) (command : Command) (text : List ℕ) (params : Row) (count : ℕ)
      → Runs old new returning command text params count → IsTrue new.is_open
  runs_opens returning (Select q names) text params count h = absurd h
  runs_opens returning (Insert at from) text params count h = h.shown.is_open
  runs_opens returning (InsertOr at how from clauses) text params count h = h.shown.is_open
  runs_opens returning (Update at q) text params count h = h.shown.is_open
  runs_opens returning (Delete at q) text params count h = h.shown.is_open
  runs_opens returning CreateTable text params count h = h.shown.is_open
  runs_opens returning (CreateIndex at) text params count h = h.shown.is_open
  runs_opens returning (DropTable at) text params count h = h.shown.is_open
  runs_opens returning (DropIndex at) text params count h = h.shown.is_open
  runs_opens returning Begin text params count h = h.1.is_open
  runs_opens returning Commit text params count h = h.1.is_open
  runs_opens returning Rollback text params count h = absurd (none_inside h.0)
  runs_opens returning (Save name) text params count h = h.0.0.is_open
  runs_opens returning (Release name) text params count h =
      elim h.2 [ inl commits ↦ commits.1.0.is_open | inr drops ↦ drops.1.0.is_open ]
  runs_opens returning (RollbackTo name) text params count h = h.2.2.is_open
  runs_opens returning (Rows values width names) text params count h = h.0.0.is_open
  runs_opens returning Nothing text params count h = h.0.0.is_open
  runs_opens returning CreateView text params count h = h.shown.is_open
  runs_opens returning (DropView at) text params count h = h.shown.is_open

  pub executes_opens : (sql : List ℕ) (params : Row) (r : Result ℕ Error) → Executes sql params old new r
      → OnOk r (IsTrue new.is_open)
  unfolding ExecutesIn
  executes_opens sql params (Err e) h = tt
  executes_opens sql params (Ok count) h = elim (cases_Bool (shows_rows false h.0)) [
    | inl shows ↦ let it = rw shows at h.2 in it.1.0.is_open
    | inr runs ↦ let it = rw runs at h.2 in
        runs_opens h.0.returning h.0.command (text_of sql h.0) (timed params h.0.formats h.1.now) count it
  ]
