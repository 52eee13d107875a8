-- The clauses of the main theorem.
use Rattle.std.proofs.Common.{sym}
use Rattle.cpi_release.specs.State.{State}
use Rattle.cpi_store.specs.Office.{Office}
use Rattle.cpi_office.specs.Theorem.{TheProgramIsTheOffice, ACrashLeavesIt, OwnRulesAreFit}
use Rattle.cpi_office.proofs.Fit.{judged_fit}
use Rattle.cpi_office.proofs.IsolationOfMessages.{replied_by_view, judged_by_view}
use Rattle.cpi_office.proofs.IsolationOfRequests.{judged_apart}
use Rattle.cpi_office.proofs.Served.{run_sound}

pub the_program_is_the_office : {B : Type 0} (state : B → State Office) → TheProgramIsTheOffice state
the_program_is_the_office state old new asks rs ran =
    let run = ran.over.run ran.clean ran.sound in (
      sym run.answers,
      run.office,
      run_sound (state old).held (state new).held asks rs run ran.sound,
    )

pub a_crash_leaves_it : {B : Type 0} (state : B → State Office) → ACrashLeavesIt state
a_crash_leaves_it state old new asks rs ran none = ran.over.lasts ran.clean ran.sound none

pub own_rules_are_fit : OwnRulesAreFit
own_rules_are_fit = record {
  orderly = λ o s. s.orderly;
  fit = judged_fit;
  replies = replied_by_view;
  viewed = judged_by_view;
  apart = judged_apart;
}
