-- Bytes that a peer didn't take.
use Rattle.std.proofs.Common.{◌≡◌, ℕ, Bool, true, false, List, [], ◌∷◌}
use Rattle.std.proofs.Common.{Option, None, Some, refl, sym, ap, append-nil, inl, inr, subst}
use Rattle.std.specs.Prelude.{◌⊎◌}
use Rattle.std.specs.Io.KnownBytes.{Appends, append_known}
use Rattle.cpi_app.specs.Connection.{Connection}
use Rattle.cpi_app.specs.LostBytes.{lost_bytes, are_noted}
use Rattle.cpi_app.specs.ServedPeers.{IsOfPeer}

-- nothing is lost before a write has failed
pub none_lost : (failed : Bool) (log : List (ℕ × ℕ)) → failed ≡ false → are_noted failed log ≡ true → log ≡ []
none_lost true log going noted = absurd (let no = going in cc)
none_lost false [] going noted = refl
none_lost false (entry ∷ log) going noted = absurd (let no = noted in cc)

pub failed_or_none : (failed : Bool) (log : List (ℕ × ℕ)) → are_noted failed log ≡ true
    → (failed ≡ true) ⊎ (lost_bytes log ≡ [])
failed_or_none true log noted = inl refl
failed_or_none false [] noted = inr refl
failed_or_none false (entry ∷ log) noted = absurd (let no = noted in cc)

-- an empty log is right whatever has failed
noted_empty : (failed : Bool) → are_noted failed [] ≡ true
noted_empty true = refl
noted_empty false = refl

pub still_noted : (was is : Bool) (log : List (ℕ × ℕ)) → was ≡ false → are_noted was log ≡ true
    → are_noted is log ≡ true
still_noted was is log going noted =
    subst (λ l. are_noted is l ≡ true) (sym (none_lost was log going noted)) (noted_empty is)

pub known_whole : (a : Option (List ℕ)) → append_known a [] ≡ a
known_whole None = refl
known_whole (Some xs) = ap Some (append-nil xs)

-- bytes that go on to the writer, as long as nothing is lost
pub gone_on : (a b : Option (List ℕ)) (log : List (ℕ × ℕ)) (bytes : List ℕ) → log ≡ [] → Appends a b bytes
    → Appends (append_known a (lost_bytes log)) (append_known b (lost_bytes log)) bytes
gone_on a b log bytes none grown = rw (none, known_whole a, known_whole b) grown

-- a connection of a peer who gets nothing more
pub as_left : (sent before : Option (List ℕ)) (moment : ℕ) (after left : Option (List ℕ)) (failed : Bool)
    (c : Connection) → IsOfPeer sent before moment after failed c → left ≡ after
    → IsOfPeer sent before c.moment left failed c
as_left sent before moment after left failed c of same = record {
  lost = of.lost;
  moment_is = refl;
  sent_is = of.sent_is;
  written = of.written;
  writing = rw same of.writing;
  noted = of.noted;
}
