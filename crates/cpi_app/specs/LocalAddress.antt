-- The address of a port of this machine.
use Rattle.std.specs.Prelude.{◌≡◌, [], ◌∷◌, ℕ}
use Rattle.std.specs.Net.Addr.{ipv4_octets}
use Rattle.std.specs.Net.Socket.{v4_ip, v4_port}
use Rattle.std.specs.declared.net.socket_addr.SocketAddrV4.{SocketAddrV4}
use Rattle.cpi_app.specs.declared.network.Network.{Ghosts}

-- 127.0.0.1, and the port of this number
pub record IsLocal (number : ℕ) (address : SocketAddrV4) : Type 0 where
  pub ip : ipv4_octets (v4_ip address) ≡ 127 ∷ 0 ∷ 0 ∷ 1 ∷ []
  pub port : v4_port address ≡ number

-- the port of the network is at such an address, and it was said that somebody listens there
abbrev pub ListensAt : {N P R W : Type 0} → Ghosts N P R W → N → ℕ → P → Type 0
ListensAt g network number port =
    (address : SocketAddrV4) × IsLocal number address × g.is_at port address × g.announces network address
