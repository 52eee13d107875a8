use Rattle.std.proofs.Common.{◌∙◌, sym}
use Rattle.cpi_app.proofs.Losing.{gone_on, none_lost}
use Rattle.cpi_app.proofs.offered.OfferedWrite.write.Goals as goal

pub returns-in-Some-clause-bytes : goal.returns-in-Some-clause-bytes
returns-in-Some-clause-bytes g c =
    let before = c.args.self.now in
    let going = sym c.has_failed.ensures ∙ c.if-not-has_failed.true in
    let none = none_lost before.note.has_failed before.lost.items going before.noted in
    gone_on _ _ before.lost.items _ none c.in-Some.ensures.bytes
