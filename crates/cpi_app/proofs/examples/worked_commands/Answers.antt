use Rattle.std.proofs.Common.{refl}
use Rattle.clap.proofs.OnLiterals.{clap_on_literals}
use Rattle.clap.specs.Walk.{walked}
use Rattle.cpi_app.proofs.examples.worked_commands.Goals as goal

pub returns-clause-replays : goal.returns-clause-replays
unfolding walked
returns-clause-replays c = (refl, refl, refl, refl, refl, refl)

pub returns-clause-serves : goal.returns-clause-serves
unfolding walked
returns-clause-serves c = (refl, refl, refl, refl, refl, refl)

pub returns-clause-serves_by_key_file : goal.returns-clause-serves_by_key_file
unfolding walked
returns-clause-serves_by_key_file c = (refl, refl, refl)

pub returns-clause-prints : goal.returns-clause-prints
unfolding walked
returns-clause-prints c = (refl, refl, refl, refl, refl, refl)

pub returns-clause-names_none : goal.returns-clause-names_none
unfolding walked
returns-clause-names_none c = (refl, refl, refl, refl, refl)

pub returns-clause-follows_rules : goal.returns-clause-follows_rules
unfolding clap_on_literals
returns-clause-follows_rules c = (refl, refl, refl, refl, refl)

pub returns-clause-breaks_rules : goal.returns-clause-breaks_rules
unfolding clap_on_literals
returns-clause-breaks_rules c = (refl, refl, refl, refl, refl, refl)
