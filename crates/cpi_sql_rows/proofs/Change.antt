-- A statement of a known text that changes rows: what it leaves, and what it commits.
use Rattle.std.proofs.Common.{◌≡◌, ◌⊎◌, inl, inr, ℕ, List, Option, None, Ok}
use Rattle.std.proofs.Common.{subst}
use Rattle.sqlite.specs.Order.{Row}
use Rattle.sqlite.specs.Tree.{Trees}
use Rattle.sqlite.specs.Command.{Command}
use Rattle.sqlite.specs.Command.TheVariants.{Commit, Release}
use Rattle.sqlite.specs.Does.{Tally, Does}
use Rattle.sqlite.specs.Effect.{Database, IsDatabase}
use Rattle.sqlite.specs.Listing.{understood}
use Rattle.sqlite.specs.State.{State, Writes, Runs, Executes, CommitsBy, mode_of}
use Rattle.sqlite.proofs.Callers.{runs_as, statement_of}
use Rattle.cpi_sql_rows.specs.Tables.{office_schema}
use Rattle.cpi_sql_rows.proofs.Texts.{Makes}
use Rattle.cpi_sql_rows.proofs.Commits.{commits_as}

-- the effect of the statement on the tables of the office, when it is run and when a crash leaves it
pub record IsChange (text : List ℕ) (params : Row) (Done : Trees → Database → Type 0) : Type 1 where
  pub ran : (old new : State) (count : ℕ) → old.now.schema ≡ office_schema
      → Executes text params old new (Ok count)
      → Done old.now.trees new.now × (new.in_transaction ≡ old.in_transaction) × IsDatabase new.now
  pub commits : (old : State) (db : Trees) → old.now.schema ≡ office_schema → CommitsBy text params old db
      → (after : Database) × Done old.now.trees after × (db ≡ after.trees) × IsDatabase after

module _ (text : List ℕ) (command : Command) (is : Makes text command) (params : Row)
    (writes : (old new : State) (t : List ℕ) (count : ℕ) → Runs old new None command t params count
    → Writes old new None command t params count)
    (ends : (command ≡ Commit) ⊎ ((name : List ℕ) × (command ≡ Release name)) → ⊥)
    (Done : Trees → Database → Type 0)
    (does : (limit : Option ℕ) (s : State) (db : Trees) (tally : Tally) (after : Database)
    → Does limit (mode_of s) params (record {
      schema = office_schema;
      trees = db;
    }) (statement_of text (understood office_schema text)) None command (Ok (tally, after))
    → Done db after) where
  change_done : (old new : State) (count : ℕ) → old.now.schema ≡ office_schema
      → Executes text params old new (Ok count)
      → Done old.now.trees new.now × (new.in_transaction ≡ old.in_transaction) × IsDatabase new.now
  change_done old new count has h =
      let t = statement_of text (understood office_schema text) in
      let w = writes old new t count (runs_as text params old new office_schema has command is.0 is.1 count h) in (
        does old.step_limit old old.now.trees w.tally new.now (subst
            (λ s. Does old.step_limit (mode_of old) params (record old.now { schema = s }) t None command (Ok (
              w.tally,
              new.now,
            ))) has w.changed),
        w.shown.mode,
        w.sound,
      )

  change_commits : (old : State) (db : Trees) → old.now.schema ≡ office_schema → CommitsBy text params old db
      → (after : Database) × Done old.now.trees after × (db ≡ after.trees) × IsDatabase after
  change_commits old db has may =
      let t = statement_of text (understood office_schema text) in
      elim (commits_as text params old office_schema has command is.0 is.1 db may) [
        | inl it ↦ absurd (ends (elim it.0 [ inl commit ↦ inl commit | inr release ↦ inr (release.0, release.2) ]))
        | inr it ↦ (
          it.2,
          does old.step_limit old old.now.trees it.1 it.2 (subst
              (λ s. Does old.step_limit (mode_of old) params (record old.now { schema = s }) t None command (Ok (
                it.1,
                it.2,
              ))) has it.3),
          it.5,
          it.4,
        )
      ]

  pub is_change : IsChange text params Done
  is_change = record { ran = change_done; commits = change_commits }
