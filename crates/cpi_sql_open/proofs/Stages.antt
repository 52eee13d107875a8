-- Statements that are run in turn, one after the other.
use Rattle.std.proofs.Common.{ℕ, List, [], ◌∷◌, ◌++◌, None, Ok, IsTrue, sym, subst}
use Rattle.sqlite.specs.Command.{Command}
use Rattle.sqlite.specs.Command.TheVariants.{Insert, Delete, CreateTable}
use Rattle.sqlite.specs.Does.{Does}
use Rattle.sqlite.specs.Listing.{understood}
use Rattle.sqlite.specs.State.{State, Executes, Runs, Writes}
use Rattle.sqlite.proofs.Callers.{runs_as, statement_of}
use Rattle.cpi_sql_open.specs.Stages.{RanAtStage, RanEach, Stage, is_write, stage_of, usual}

writes : (old new : State) (command : Command) (text : List ℕ) (count : ℕ) → IsTrue (is_write command)
    → Runs old new None command text [] count → Writes old new None command text [] count
writes old new (Insert table from) text count write w = w
writes old new (Delete table rows) text count write w = w
writes old new CreateTable text count write w = w
writes old new _ text count write w = absurd cc

-- what was executed within a transaction ran there
pub executed : (text : List ℕ) (old new : State) (count : ℕ)
    → (IsTrue old.in_transaction → Executes text [] old new (Ok count)) → RanAtStage text (stage_of old) (stage_of new)
executed text old new count ran schema command write is plain inside has =
    let s = statement_of text (understood schema text) in
    let w = writes old new command s count write
    (runs_as text [] old new schema has command is plain count (ran inside)) in
    record {
      limit = old.step_limit;
      tally = w.tally;
      does = subst
          (λ x. Does old.step_limit usual [] (record old.now { schema = x }) s None command (Ok (w.tally, new.now)))
          has w.changed;
      sound = w.sound;
      mode = w.shown.mode;
    }

pub ran_then : (xs ys : List (List ℕ)) (a b c : Stage) → RanEach xs a b → RanEach ys b c → RanEach (xs ++ ys) a c
ran_then [] ys a b c one two = subst (λ s. RanEach ys s c) (sym one) two
ran_then (x ∷ xs) ys a b c one two = (one.0, one.1, ran_then xs ys one.0 b c one.2 two)
