use Rattle.std.proofs.Common.{◌≡◌, ◌∙◌}
use Rattle.sqlite.specs.Held.{state}
use Rattle.cpi_rows.specs.Held.{held_by}
use Rattle.cpi_plan.specs.Stored.{plan_from}
use Rattle.cpi_sql_rows.specs.Lists.{if_whole, nodes_in, place_in_row, places_in, reference_of, reference_month_in_row}
use Rattle.cpi_sql_rows.specs.Lists.{references_in}
use Rattle.cpi_sql_rows.specs.Shelf.{AllStandFor, year_in}
use Rattle.cpi_sql_rows.proofs.Whole.{if_ok}
use Rattle.cpi_sql_reads.proofs.Looking.{later, looks_both, looks_done, looks_refused}
use Rattle.cpi_sql_reads.proofs.years.plan_of.Goals as goal

pub returns-clause-read : goal.returns-clause-read
returns-clause-read g c = λ clean has.
    let trees = (state g.S.Store c.args.conn.now).now.trees in
    let year = c.args.year in
    let one = c.in_ok-nodes.ensures.look in
    let two = c.in_ok-places.ensures.look in
    let three = c.in_ok-references.ensures.look in
    let before = three.still.clean clean in
    let nodes : c.deref.result.now ≡ held_by year (nodes_in (trees 6)) =
    c.deref.ensures.value ∙ c.in_ok-nodes.ensures.read (two.still.clean before) has in
    let places : c.deref-2.result.now ≡ held_by year (places_in (trees 8)) = c.deref-2.ensures.value
    ∙ later one (λ t. c.in_ok-places.places.items ≡ held_by year (places_in (t 8))) two c.in_ok-places.ensures.read
    before has in
    let references : c.deref-3.result.now ≡ held_by year (references_in (trees 34)) = c.deref-3.ensures.value
    ∙ later (looks_both one two)
    (λ t. c.in_ok-references.references.items ≡ held_by year (references_in (t 34))) three
    c.in_ok-references.ensures.read clean has in
    if_ok c.made.result _ _ c.made.ensures (λ p e. e ∙ (λ n. if_whole (plan_from year (nodes n) (places n)
    (reference_of (references n)))))

pub returns-in_err-places-clause-look : goal.returns-in_err-places-clause-look
returns-in_err-places-clause-look g c = looks_refused c.in_ok-nodes.ensures.look c.from_residual-in_err-places.result
    c.rows_of_year-2.ensures.look c.from_residual-in_err-places.ensures.0

pub returns-in_err-references-clause-look : goal.returns-in_err-references-clause-look
returns-in_err-references-clause-look g c =
    looks_refused (looks_both c.in_ok-nodes.ensures.look c.in_ok-places.ensures.look)
    c.from_residual-in_err-references.result c.rows_of_year-3.ensures.look c.from_residual-in_err-references.ensures.0

pub returns-clause-look : goal.returns-clause-look
returns-clause-look g c = looks_done (looks_both c.in_ok-nodes.ensures.look c.in_ok-places.ensures.look)
    c.made.result c.in_ok-references.ensures.look

pub returns-clause-taken : goal.returns-clause-taken
returns-clause-taken g c = λ clean has.
    let year = c.args.year in
    let one = c.in_ok-nodes.ensures.look in
    let two = c.in_ok-places.ensures.look in
    let before = c.in_ok-references.ensures.look.still.clean clean in
    if_ok c.made.result _ _ c.made.ensures (λ p e. record {
      nodes = c.in_ok-nodes.ensures.stand (two.still.clean before) has;
      places = later one (λ t. AllStandFor (year_in 1) place_in_row year (t 8)) two c.in_ok-places.ensures.stand
          before has;
      references = later (looks_both one two) (λ t. AllStandFor (year_in 0) reference_month_in_row year (t 34))
          c.in_ok-references.ensures.look c.in_ok-references.ensures.stand clean has;
    })
