use Rattle.std.proofs.Common.{◌∙◌, sym}
use Rattle.cpi_app.proofs.Losing.{still_noted}
use Rattle.cpi_app.proofs.offered.OfferedWrite.flush.Goals as goal

pub invariant_of-self : goal.invariant_of-self
invariant_of-self g c =
    let before = c.args.self.now in
    let going = sym c.has_failed.ensures ∙ c.if-not-has_failed.true in
    record { noted = still_noted before.note.has_failed _ before.lost.items going before.noted }
