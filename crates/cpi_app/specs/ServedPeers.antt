-- What a peer that is served gets.
use Rattle.std.specs.Prelude.{◌≡◌, ◌⊎◌, ℕ, Bool, true, false, not, List, [], Option, Ok, Err}
use Rattle.std.specs.Io.KnownBytes.{append_known}
use Rattle.cpi_http.specs.declared.serve.Served.{Served}
use Rattle.cpi_http.specs.declared.serve.Served.TheVariants as served
use Rattle.cpi_app.specs.Connection.{Connection, Outcome, Serving}

-- The connection came at this moment, with these bytes of its peer. The peer's own writer took what was written to it,
-- but for what was lost at the end; nothing was, unless writing to the peer has failed.
pub record IsOfPeer (sent before : Option (List ℕ)) (moment : ℕ) (after : Option (List ℕ)) (failed : Bool)
    (c : Connection) : Type 0 where
  pub lost : List ℕ
  pub moment_is : c.moment ≡ moment
  pub sent_is : c.sent ≡ sent
  pub written : c.written ≡ before
  pub writing : c.writing ≡ append_known after lost
  pub noted : (failed ≡ true) ⊎ (lost ≡ [])

-- such a connection was served
abbrev pub ServesPeer : {S : Type 0} → Serving S → S → Option (List ℕ) → Option (List ℕ) → ℕ → Outcome → S
    → Option (List ℕ) → Bool → Type 0
ServesPeer serves service sent before moment outcome after_service after failed = (c : Connection)
    × IsOfPeer sent before moment after failed c × serves service c outcome after_service

-- whether a message that ended so was answered, and its peer took the whole response: no write to the peer has failed
abbrev pub is_response_taken : Served → Bool → Bool
is_response_taken (served.Answered status unavailable) failed = not failed
is_response_taken served.Cut failed = false

-- the same of a connection
abbrev pub is_taken : Outcome → Bool → Bool
is_taken (Ok ended) failed = is_response_taken ended.served failed
is_taken (Err fault) failed = false
