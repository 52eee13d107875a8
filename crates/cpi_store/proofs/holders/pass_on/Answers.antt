use Rattle.cpi_store.proofs.holders.pass_on.Goals as goal

pub returns-clause-placed : goal.returns-clause-placed
returns-clause-placed c = λ outlets has all.
    c.end_assignment_of.ensures.placed outlets (c.in_ok-put_assignment_of.ensures.placed outlets has all)
