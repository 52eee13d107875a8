use Rattle.cpi_store.proofs.History.{releases_computed}
use Rattle.cpi_store.proofs.Stored.{frozen_are_stored}
use Rattle.cpi_store.proofs.Theorem.{tables_as_written}
use Rattle.cpi_release.proofs.TheoremBases.{bases_as_written}
use Rattle.cpi_office.proofs.Causes as causes
use Rattle.cpi_office.proofs.ComputedTables.{tables_are_told}
use Rattle.cpi_office.proofs.Isolation.{views_are_rebuilt, replies_are_from_views, answers_are_alike}
use Rattle.cpi_office.proofs.IsolationOfMessages as messages
use Rattle.cpi_office.proofs.IsolationOfRequests as requests
use Rattle.cpi_office.proofs.OneChange.{changes_one}
use Rattle.cpi_office.proofs.RebuiltProjections.{releases_stay}
use Rattle.cpi_office.proofs.Theorem.{the_program_is_the_office, a_crash_leaves_it, own_rules_are_fit}
use Rattle.cpi_office.proofs.laws.main_theorem.Goals as goal

pub returns-clause-program_is_office : goal.returns-clause-program_is_office
returns-clause-program_is_office c start = the_program_is_the_office c.B.Book.state

pub returns-clause-isolation : goal.returns-clause-isolation
returns-clause-isolation c start = views_are_rebuilt

pub returns-clause-replies_are_from_views : goal.returns-clause-replies_are_from_views
returns-clause-replies_are_from_views c start = replies_are_from_views

pub returns-clause-offices_answer_alike : goal.returns-clause-offices_answer_alike
returns-clause-offices_answer_alike c start = answers_are_alike

pub returns-clause-responses_are_alike : goal.returns-clause-responses_are_alike
returns-clause-responses_are_alike c start = messages.responses_are_alike

pub returns-clause-causes_are_all : goal.returns-clause-causes_are_all
returns-clause-causes_are_all c start = causes.causes_are_all

pub returns-clause-others_do_not_matter : goal.returns-clause-others_do_not_matter
returns-clause-others_do_not_matter c start = requests.others_do_not_matter

pub returns-clause-own_rules_are_fit : goal.returns-clause-own_rules_are_fit
returns-clause-own_rules_are_fit c start = own_rules_are_fit

pub returns-clause-tables_are_the_index : goal.returns-clause-tables_are_the_index
returns-clause-tables_are_the_index c start = tables_as_written

pub returns-clause-bases_are_the_index : goal.returns-clause-bases_are_the_index
returns-clause-bases_are_the_index c start = bases_as_written

pub returns-clause-releases_are_computed : goal.returns-clause-releases_are_computed
returns-clause-releases_are_computed c start = releases_computed

pub returns-clause-frozen_are_stored : goal.returns-clause-frozen_are_stored
returns-clause-frozen_are_stored c start = frozen_are_stored

pub returns-clause-releases_stay : goal.returns-clause-releases_stay
returns-clause-releases_stay c start = releases_stay

pub returns-clause-tables_are_told : goal.returns-clause-tables_are_told
returns-clause-tables_are_told c start = tables_are_told

pub returns-clause-crash : goal.returns-clause-crash
returns-clause-crash c start = a_crash_leaves_it c.B.Book.state

pub returns-clause-one_change : goal.returns-clause-one_change
returns-clause-one_change c start = changes_one
