use Rattle.std.proofs.Common.{rules, arith, ◌∷◌, Ok, Some, None, subst, inr}
use Rattle.std.specs.Prelude.{IsTrue}
use Rattle.cpi_app.specs.Connection.{is_shaken}
use Rattle.cpi_app.specs.Visits.{AreServed, IsCalm, IsTurn, Visit}
use Rattle.cpi_app.proofs.serve.serve_each.Goals as goal

-- a connection that wasn't accepted
pub loop-served-preserved-in_default : goal.loop-served-preserved-in_default
loop-served-preserved-in_default g c =
    let inv = c.loop-served.invariant in
    let turn = subst (λ o. IsTurn g.L.Listener.meets g.S.Service.serves c.loop-served.listener c.serve_next.new.self
    c.loop-served.service c.serve_next.new.service (Ok o)) c.in_default.is c.in_ok-outcome.ensures in
    let earlier : AreServed g.L.Listener.meets g.S.Service.serves c.args.listener.now c.args.service.now inv.0
    c.loop-served.listener c.serve_next.new.service = rw turn.1 inv.1 in
    (None ∷ inv.0, (c.loop-served.listener, earlier, turn.0), (tt, inv.2), omega (arith, inv.3))

-- a connection that shook the book
pub returns-in-Some-shake_of : goal.returns-in-Some-shake_of
returns-in-Some-shake_of g c =
    let inv = c.loop-served.invariant in
    let turn = subst (λ o. IsTurn g.L.Listener.meets g.S.Service.serves c.loop-served.listener c.serve_next.new.self
    c.loop-served.service c.serve_next.new.service (Ok o)) c.in-Some.is c.in_ok-outcome.ensures in
    let shook : IsTrue (is_shaken c.in-Some.outcome) = search rules in (
      Some (record { came = turn.0; outcome = c.in-Some.outcome }) ∷ inv.0,
      (c.loop-served.listener, c.loop-served.service, inv.1, turn.1, turn.2),
      inv.2,
      (omega (arith, inv.3, c.loop-served-test.true), inr shook),
    )

-- one that didn't
pub loop-served-preserved : goal.loop-served-preserved
loop-served-preserved g c =
    let inv = c.loop-served.invariant in
    let turn = subst (λ o. IsTurn g.L.Listener.meets g.S.Service.serves c.loop-served.listener c.serve_next.new.self
    c.loop-served.service c.serve_next.new.service (Ok o)) c.in-Some.is c.in_ok-outcome.ensures in
    let visit : Visit = record { came = turn.0; outcome = c.in-Some.outcome } in
    let calm : IsCalm (Some visit) = search rules in (
      Some visit ∷ inv.0,
      (c.loop-served.listener, c.loop-served.service, inv.1, turn.1, turn.2),
      (calm, inv.2),
      omega (arith, inv.3),
    )
