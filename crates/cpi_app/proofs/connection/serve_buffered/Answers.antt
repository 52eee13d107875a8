use Rattle.cpi_app.proofs.Fronts.{front_served}
use Rattle.cpi_app.proofs.connection.serve_buffered.Goals as goal

pub returns-clause-ok : goal.returns-clause-ok
returns-clause-ok g c =
    front_served _ _ _ _ _ c.serve_noted.result c.serve_noted.ensures.ok c.serve_noted.ensures.caused
