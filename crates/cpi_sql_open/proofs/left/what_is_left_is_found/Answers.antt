use Rattle.sqlite.specs.Held.{state}
use Rattle.cpi_sql_open.proofs.Reopened.{finds_what_is_left, leaves_offices_only, taken_as_it_is}
use Rattle.cpi_sql_open.proofs.left.what_is_left_is_found.Goals as goal

pub returns-clause-finds : goal.returns-clause-finds
returns-clause-finds g c = λ left failures db was now.
    finds_what_is_left (state g.S.Store left) failures db (state g.T.Store was) (state g.T.Store now)

pub returns-clause-takes : goal.returns-clause-takes
returns-clause-takes g c = λ db was now. taken_as_it_is db (state g.T.Store was) (state g.T.Store now)

pub returns-clause-only : goal.returns-clause-only
returns-clause-only g c = λ left. leaves_offices_only (state g.S.Store left)
