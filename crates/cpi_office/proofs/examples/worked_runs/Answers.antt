use Rattle.std.proofs.Common.{refl}
use Rattle.cpi_office.proofs.examples.worked_runs.Goals as goal

pub returns-clause-one_quote : goal.returns-clause-one_quote
returns-clause-one_quote c = refl

pub returns-clause-two_collectors : goal.returns-clause-two_collectors
returns-clause-two_collectors c = refl

pub returns-clause-ten_of_another : goal.returns-clause-ten_of_another
returns-clause-ten_of_another c = refl

pub returns-clause-again : goal.returns-clause-again
returns-clause-again c = refl

pub returns-clause-window : goal.returns-clause-window
returns-clause-window c = refl

pub returns-clause-entry_refusals : goal.returns-clause-entry_refusals
returns-clause-entry_refusals c = refl

pub returns-clause-last_receipt : goal.returns-clause-last_receipt
returns-clause-last_receipt c = refl

pub returns-clause-by_month : goal.returns-clause-by_month
returns-clause-by_month c = refl

pub returns-clause-tolerance : goal.returns-clause-tolerance
returns-clause-tolerance c = refl

pub returns-clause-replacements : goal.returns-clause-replacements
returns-clause-replacements c = refl

pub returns-clause-work_lists : goal.returns-clause-work_lists
returns-clause-work_lists c = refl

pub returns-clause-items_of_all : goal.returns-clause-items_of_all
returns-clause-items_of_all c = refl

pub returns-clause-not_for_callers : goal.returns-clause-not_for_callers
returns-clause-not_for_callers c = refl

pub returns-clause-stands_already : goal.returns-clause-stands_already
returns-clause-stands_already c = refl

pub returns-clause-taken_places : goal.returns-clause-taken_places
returns-clause-taken_places c = refl

pub returns-clause-assign_refusals : goal.returns-clause-assign_refusals
returns-clause-assign_refusals c = refl

pub returns-clause-new_window : goal.returns-clause-new_window
returns-clause-new_window c = refl
