use Rattle.cpi_files.proofs.Serving.{ends_serving}
use Rattle.cpi_files.proofs.serve.run_serve.Goals as goal

pub returns-clause-ends : goal.returns-clause-ends
returns-clause-ends g c =
    let opens = g.A.Address.opens c.args.address.now in
    ends_serving g.C.Cabinet g.C.Medium.Disk g.A.Open.Listener.meets opens c.args.limit c.args.zone.now
    c.args.key.now c.args.cabinet.now c.serve_at_desk.new.cabinet c.in_ok-desk.desk c.serve_at_desk.result
    c.in_ok-desk.ensures.ok c.serve_at_desk.ensures
