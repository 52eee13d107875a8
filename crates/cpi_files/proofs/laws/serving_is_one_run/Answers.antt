use Rattle.cpi_files.proofs.OneRun.{serving_is_one_run}
use Rattle.cpi_files.proofs.laws.serving_is_one_run.Goals as goal

pub returns : goal.returns
returns g c = λ address. serving_is_one_run g.C.Cabinet g.C.Medium.Disk g.A.Open.Listener.meets
    (g.A.Address.opens address) c.served_is_a_run.ensures.run c.closed_is_opened.ensures
