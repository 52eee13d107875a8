use Rattle.std.proofs.Common.{◌≡◌, ◌∙◌}
use Rattle.sqlite.specs.Held.{state}
use Rattle.cpi_sql_rows.specs.Lists.{calendar_rows_in, items_in, plans_in}
use Rattle.cpi_sql_rows.specs.Shelf.{ArePlansTaken}
use Rattle.cpi_sql_reads.proofs.Looking.{later, looks_both, looks_refused}
use Rattle.cpi_sql_reads.proofs.survey.read_public.Goals as goal

pub from_parts-requires-clause-plans : goal.from_parts-requires-clause-plans
from_parts-requires-clause-plans g c = c.in_ok-plans.ensures.order

pub returns-in_err-plans-clause-look : goal.returns-in_err-plans-clause-look
returns-in_err-plans-clause-look g c = looks_refused c.in_ok-read.ensures.look c.from_residual-in_err-plans.result
    c.plans.ensures.look c.from_residual-in_err-plans.ensures.0

pub returns-in_err-rows-clause-look : goal.returns-in_err-rows-clause-look
returns-in_err-rows-clause-look g c = looks_refused (looks_both c.in_ok-read.ensures.look c.in_ok-plans.ensures.look)
    c.from_residual-in_err-rows.result c.read_all-2.ensures.look c.from_residual-in_err-rows.ensures.0

pub returns-clause-look : goal.returns-clause-look
returns-clause-look g c =
    looks_both (looks_both c.in_ok-read.ensures.look c.in_ok-plans.ensures.look) c.in_ok-rows.ensures.look

pub returns-clause-read : goal.returns-clause-read
returns-clause-read g c = λ clean has.
    let trees = (state g.S.Store c.args.conn.now).now.trees in
    let one = c.in_ok-read.ensures.look in
    let two = c.in_ok-plans.ensures.look in
    let before = c.read_all-2.ensures.look.still.clean clean in
    let items : c.in_ok-items.items ≡ items_in (trees 4) =
    c.in_ok-items.ensures ∙ c.in_ok-read.ensures.read (two.still.clean before) has in
    let plans : c.in_ok-plans.plans.items ≡ plans_in trees =
    later one (λ t. c.in_ok-plans.plans.items ≡ plans_in t) two c.in_ok-plans.ensures.read before has in
    let rows : c.in_ok-rows.rows.items ≡ calendar_rows_in (trees 10) =
    later (looks_both one two) (λ t. c.in_ok-rows.rows.items ≡ calendar_rows_in (t 10)) c.in_ok-rows.ensures.look
    c.in_ok-rows.ensures.read clean has in
    c.from_parts.ensures ∙ (λ n. record { items = items n; plans = plans n; calendar = rows n })

pub returns-clause-taken : goal.returns-clause-taken
returns-clause-taken g c = λ clean has. later c.in_ok-read.ensures.look ArePlansTaken c.in_ok-plans.ensures.look
    c.in_ok-plans.ensures.taken (c.read_all-2.ensures.look.still.clean clean) has
