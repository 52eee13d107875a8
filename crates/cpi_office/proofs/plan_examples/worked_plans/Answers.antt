use Rattle.std.proofs.Common.{refl}
use Rattle.cpi_office.proofs.plan_examples.worked_plans.Goals as goal

pub returns-clause-each_fault : goal.returns-clause-each_fault
returns-clause-each_fault c = refl

pub returns-clause-faults_change_nothing : goal.returns-clause-faults_change_nothing
returns-clause-faults_change_nothing c = refl

pub returns-clause-first_fault : goal.returns-clause-first_fault
returns-clause-first_fault c = refl

pub returns-clause-plan_stands : goal.returns-clause-plan_stands
returns-clause-plan_stands c = (refl, refl, refl)

pub returns-clause-reference_stands : goal.returns-clause-reference_stands
returns-clause-reference_stands c = (refl, refl)

pub returns-clause-no_first_reference : goal.returns-clause-no_first_reference
returns-clause-no_first_reference c = refl

pub returns-clause-plans_are_seen : goal.returns-clause-plans_are_seen
returns-clause-plans_are_seen c = refl

pub returns-clause-plans_by_year : goal.returns-clause-plans_by_year
returns-clause-plans_by_year c = refl

pub returns-clause-items_first : goal.returns-clause-items_first
returns-clause-items_first c = refl

pub returns-clause-plans_of_the_desk : goal.returns-clause-plans_of_the_desk
returns-clause-plans_of_the_desk c = refl
