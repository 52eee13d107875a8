-- What the job of serving does in the office of a cabinet's files.
use Rattle.std.specs.Prelude.{◌≡◌, ◌≤◌, ◌<◌, ◌⊎◌, ℕ, List, [], ◌∷◌, sum_by, length}
use Rattle.std.specs.Prelude.{Option, Some, None, IsNone, Result, Ok, Err, IsOk, IsErrOf}
use Rattle.jiff.specs.Words.{read_whole}
use Rattle.sqlite_disk.specs.declared.Disk as disk
use Rattle.cpi_store.specs.declared.open_fault.OpenFault.{OpenFault}
use Rattle.cpi_wire.specs.declared.fault.WireFault.TheVariants as wire
use Rattle.cpi_app.specs.Connection.{ServesAtDesk}
use Rattle.cpi_app.specs.Desk.{IsDeskOf, HasNoKey}
use Rattle.cpi_app.specs.Listener.{Timeless, Meeting}
use Rattle.cpi_app.specs.Visits.{Visits, AreServed, AreCalmBefore, AreLeft, LastShook, ServesUpTo}
use Rattle.cpi_app.specs.declared.desk.Desk.{Desk}
use Rattle.cpi_app.specs.declared.fault.RunFault.{RunFault}
use Rattle.cpi_app.specs.declared.fault.RunFault.TheVariants.{BadZone, BadKey, Database, NoClock, NoPort, Wire}
use Rattle.cpi_app.specs.declared.listener.NoClock.{NoClock as Clockless}
use Rattle.cpi_files.specs.Job.{Deed}
use Rattle.cpi_files.specs.Taken.{IsDoneFrom, IsRefusedFrom}
use Rattle.cpi_files.specs.declared.cabinet.Cabinet.{Ghosts}
use Rattle.cpi_files.specs.declared.serve.Rest.{Rest}

-- the first listener is the one that was there, or else one that was opened
abbrev pub IsListener : {L : Type 0} → (L → Type 0) → Option L → L → Type 0
IsListener Opens None first = Opens first
IsListener Opens (Some listener) first = first ≡ listener

module _ {L : Type 0} (meets : Meeting L) (Opens : L → Type 0) (desk : Desk) (listener : Option L) (limit : ℕ) where
  -- Up to so many connections were served one after another over a book; or there was no moment for one that came. Or
  -- no listener could be opened: there was none before, and the book is unchanged.
  abbrev pub Serves : Deed (Result (Rest L) RunFault)
  Serves Book state book now input was is (Ok rest) = (first : L) × IsListener Opens listener first
      × ServesUpTo meets (ServesAtDesk state desk.zone desk.key) limit first rest.listener book now (Ok rest.left)
  Serves Book state book now input was is (Err NoClock) = (first : L) × IsListener Opens listener first
      × ((last : L) × (none : Clockless)
      × ServesUpTo meets (ServesAtDesk state desk.zone desk.key) limit first last book now (Err none))
  Serves Book state book now input was is (Err NoPort) = IsNone listener × (now ≡ book)
  Serves Book state book now input was is (Err (Wire wire.Write)) = IsNone listener × (now ≡ book)
  Serves Book state book now input was is (Err _) = ⊥

-- between these two states of the listener, these connections came, and were served over a book
abbrev pub ServesVisits : {L : Type 0} → Meeting L → Desk → L → Visits → L → Deed (Unit {0})
ServesVisits meets desk first visits last Book state book now input was is told =
    AreServed meets (ServesAtDesk state desk.zone desk.key) first book visits last now × AreCalmBefore visits

-- nothing was done
abbrev pub ServesNobody : Deed (Unit {0})
ServesNobody Book state book now input was is told = now ≡ book

-- then a connection came for which the clock showed no moment
abbrev pub HasNoClock : {L : Type 0} → Meeting L → L → Type 0
HasNoClock {L} meets is = (after : L) × meets is Timeless after

-- how many connections these books had
abbrev pub count_of : List Visits → ℕ
count_of books = sum_by length books

module _ {C D : Type 0} (cabinet : Ghosts C D) (g : disk.Ghosts D) where
  -- the same in the office of the cabinet's files; closing them had this result
  abbrev pub HasDone : C → Deed (Unit {0}) → Result (Unit {0}) OpenFault → C → Type 0
  HasDone was does closed is = IsDoneFrom cabinet g was is does None None None tt closed

  -- the cabinet's files held an office, and nobody was served over it
  abbrev pub HasServedNobody : C → C → Type 0
  HasServedNobody was is = (closed : Result (Unit {0}) OpenFault) × HasDone was ServesNobody closed is

  module _ {L : Type 0} (meets : Meeting L) (Opens : L → Type 0) (desk : Desk) (listener : Option L) (limit : ℕ)
      (was is : C) where
    -- no more connections than the limit were served over the office of the cabinet's files, from the listener on
    abbrev pub AreSomeServed : (L → Visits → Result (Unit {0}) OpenFault → Type 0) → Type 0
    AreSomeServed IsSo = (first : L) × (visits : Visits) × (last : L) × (closed : Result (Unit {0}) OpenFault)
        × IsListener Opens listener first × HasDone was (ServesVisits meets desk first visits last) closed is
        × (length visits ≤ limit) × IsSo last visits closed

    -- how serving one book ended; the database failed if it was refused, or if it couldn't be closed after the last
    -- connection
    abbrev pub EndsWithBook : Result (Rest L) RunFault → Type 0
    EndsWithBook (Ok rest) = AreSomeServed (λ last visits closed.
        (last ≡ rest.listener) × AreLeft limit visits rest.left × (rest.left ≡ 0 → IsOk closed))
    EndsWithBook (Err NoClock) = AreSomeServed (λ last visits closed. HasNoClock meets last × (length visits < limit))
    EndsWithBook (Err (Database fault)) = IsRefusedFrom cabinet g was is fault
        ⊎ AreSomeServed (λ last visits closed. (length visits ≡ limit) × IsErrOf closed fault)
    EndsWithBook (Err NoPort) = IsNone listener × HasServedNobody was is
    EndsWithBook (Err (Wire wire.Write)) = IsNone listener × HasServedNobody was is
    EndsWithBook (Err _) = ⊥

  module _ {L : Type 0} (meets : Meeting L) (Opens : L → Type 0) (desk : Desk) (limit : ℕ) (start : C) where
    -- Between the first cabinet and listener and these, books were served one after another; the list begins with the
    -- last. Each was served until a connection shook it that wasn't the last of the limit.
    abbrev pub WereShaken : List Visits → C → L → Type 0
    WereShaken [] now is = (now ≡ start) × Opens is
    WereShaken (visits ∷ earlier) now is = (before : C) × (was : L) × (closed : Result (Unit {0}) OpenFault)
        × WereShaken earlier before was × HasDone before (ServesVisits meets desk was visits is) closed now
        × LastShook visits × (count_of (visits ∷ earlier) < limit)

    -- such books were served, and then one more; these are all connections, no more than the limit
    pub record AreServedInTurn (count : ℕ) (closed : Result (Unit {0}) OpenFault) (now : C) (is : L) : Type 0 where
      pub earlier : List Visits
      pub last : Visits
      pub before : C
      pub was : L
      pub shaken : WereShaken earlier before was
      pub served : HasDone before (ServesVisits meets desk was last is) closed now
      pub all : count ≡ count_of (last ∷ earlier)
      pub few : count ≤ limit

    -- the whole limit was served so, and the last close had this result
    abbrev pub AreAllServed : (Result (Unit {0}) OpenFault → Type 0) → C → Type 0
    AreAllServed IsSo now = (is : L) × (closed : Result (Unit {0}) OpenFault)
        × AreServedInTurn limit closed now is × IsSo closed

    -- the first book was refused, or the next one after such books
    abbrev pub IsRefusedInTurn : OpenFault → C → Type 0
    IsRefusedInTurn fault now = IsRefusedFrom cabinet g start now fault
        ⊎ ((visits : Visits) × (earlier : List Visits) × (before : C) × (was : L)
        × WereShaken (visits ∷ earlier) before was × IsRefusedFrom cabinet g before now fault)

    -- how serving with this desk ended: the whole limit was served; there was no clock before the limit was reached; a
    -- book was refused, or the last one couldn't be closed; or no listener could be opened, and nobody was served
    abbrev pub EndsAtDesk : C → Result (Unit {0}) RunFault → Type 0
    EndsAtDesk now (Ok done) = AreAllServed IsOk now
    EndsAtDesk now (Err NoClock) = (is : L) × (count : ℕ) × (closed : Result (Unit {0}) OpenFault)
        × AreServedInTurn count closed now is × HasNoClock meets is × (count < limit)
    EndsAtDesk now (Err (Database fault)) = IsRefusedInTurn fault now
        ⊎ AreAllServed (λ closed. IsErrOf closed fault) now
    EndsAtDesk now (Err NoPort) = HasServedNobody start now
    EndsAtDesk now (Err (Wire wire.Write)) = HasServedNobody start now
    EndsAtDesk now (Err _) = ⊥

  -- how serving ended: the zone's text is no zone, or the other text is no key, and no file was taken; or serving with
  -- the desk of these words ended so
  abbrev pub EndsServing : {L : Type 0} → Meeting L → (L → Type 0) → List ℕ → List ℕ → ℕ → C → C
      → Result (Unit {0}) RunFault → Type 0
  EndsServing meets Opens zone key limit start now (Err BadZone) = IsNone (read_whole zone) × (now ≡ start)
  EndsServing meets Opens zone key limit start now (Err BadKey) = HasNoKey zone key × (now ≡ start)
  EndsServing meets Opens zone key limit start now outcome =
      (desk : Desk) × IsDeskOf zone key desk × EndsAtDesk meets Opens desk limit start now outcome
