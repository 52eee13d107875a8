use Rattle.std.proofs.Common.{List, ap}
use Rattle.std.proofs.lemmas.Result.{on_ok_weaker}
use Rattle.cpi_plan.specs.Calendar.{CalendarPart}
use Rattle.cpi_survey.specs.Public.{PublicPart}
use Rattle.cpi_survey.proofs.public.Public.put_calendar.Goals as goal

pub returns-clause-replaced : goal.returns-clause-replaced
returns-clause-replaced c = rw (← c.self.view_is) c.put_row.ensures.replaced

pub returns-clause-ok : goal.returns-clause-ok
returns-clause-ok c =
    let with_rows : List CalendarPart → PublicPart =
    λ rows. record { items = c.self.inside.items; plans = c.self.inside.plans.items; calendar = rows } in
    rw (← c.self.view_is) (on_ok_weaker c.put_row.result (λ done. ap with_rows done) c.put_row.ensures.ok)
