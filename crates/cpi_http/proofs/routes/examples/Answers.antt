use Rattle.std.proofs.Common.{refl}
use Rattle.matchit.proofs.OnLiterals.{matchit_on_literals}
use Rattle.cpi_http.specs.Routes.{all_routes}
use Rattle.cpi_http.proofs.routes.examples.Goals as goal

pub returns-clause-items : goal.returns-clause-items
unfolding matchit_on_literals all_routes
returns-clause-items c = refl

pub returns-clause-tables : goal.returns-clause-tables
unfolding matchit_on_literals all_routes
returns-clause-tables c = refl

pub returns-clause-table : goal.returns-clause-table
unfolding matchit_on_literals all_routes
returns-clause-table c = refl

pub returns-clause-table_revision : goal.returns-clause-table_revision
unfolding matchit_on_literals all_routes
returns-clause-table_revision c = refl

pub returns-clause-work : goal.returns-clause-work
unfolding matchit_on_literals all_routes
returns-clause-work c = refl

pub returns-clause-quotes : goal.returns-clause-quotes
unfolding matchit_on_literals all_routes
returns-clause-quotes c = refl

pub returns-clause-quote : goal.returns-clause-quote
unfolding matchit_on_literals all_routes
returns-clause-quote c = refl

pub returns-clause-plan : goal.returns-clause-plan
unfolding matchit_on_literals all_routes
returns-clause-plan c = refl

pub returns-clause-import : goal.returns-clause-import
unfolding matchit_on_literals all_routes
returns-clause-import c = refl

pub returns-clause-other_method : goal.returns-clause-other_method
unfolding matchit_on_literals all_routes
returns-clause-other_method c = refl

pub returns-clause-empty_part : goal.returns-clause-empty_part
unfolding matchit_on_literals all_routes
returns-clause-empty_part c = refl

pub returns-clause-query : goal.returns-clause-query
unfolding matchit_on_literals all_routes
returns-clause-query c = refl
