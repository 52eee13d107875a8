-- Which connection a wait at a port of a network meets.
use Rattle.std.specs.Prelude.{ℕ, Bool, false, List, Option, Some, None}
use Rattle.cpi_app.specs.Listener.{Arrival, Came, Missed, Timeless}
use Rattle.cpi_app.specs.ServedPeers.{IsOfPeer}
use Rattle.cpi_app.specs.declared.network.Network.{Ghosts}
use Rattle.cpi_app.specs.declared.network.Peer.{Peer}

module _ {N P R W : Type 0} (g : Ghosts N P R W) (remaining : R → Option (List ℕ)) (contents : W → Option (List ℕ))
    (network : N) (was : P) where
  -- One peer came, at a moment that the clock may show since then: the connection is that of this peer, and was closed.
  -- Or none could be accepted. Or the clock showed no moment, and the peer's connection was closed as it was.
  abbrev pub MeetsPeer : Arrival → P → Type 0
  MeetsPeer (Came c) is = (peer : Peer R W) × (mid : P) × (left : Peer R W) × (failed : Bool)
      × g.accepts network was (Some peer) mid × g.shows network peer (Some c.moment)
      × IsOfPeer (remaining peer.reader) (contents peer.writer) c.moment (contents left.writer) failed c
      × g.closes network mid left failed is
  MeetsPeer Missed is = g.accepts network was None is
  MeetsPeer Timeless is = (peer : Peer R W) × (mid : P)
      × g.accepts network was (Some peer) mid × g.shows network peer None × g.closes network mid peer false is
