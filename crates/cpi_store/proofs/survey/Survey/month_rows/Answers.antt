use Rattle.cpi_store.proofs.survey.Survey.month_rows.Goals as goal

pub returns : goal.returns
returns c = rw (← c.self.view_is) (rw c.deref.ensures.value at c.month_rows.ensures)
