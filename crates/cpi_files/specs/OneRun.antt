-- All that was served over one book and the next, as one run of the office.
use Rattle.std.specs.Prelude.{◌≡◌, ⊤, ℕ, List, [], ◌∷◌, ◌++◌, Result, Ok}
use Rattle.sqlite.specs.Files.{file_state, over_files}
use Rattle.sqlite_disk.specs.declared.Disk as disk
use Rattle.sqlite_disk.specs.declared.Files.{Files}
use Rattle.cpi_store.specs.Office.{Office}
use Rattle.cpi_store.specs.Sound.{IsSound}
use Rattle.cpi_store.specs.declared.open_fault.OpenFault.{OpenFault}
use Rattle.cpi_office.specs.Runs.{after, replies}
use Rattle.cpi_office.specs.Served.{all_served, all_told}
use Rattle.cpi_office.specs.declared.reply.Reply.{Reply}
use Rattle.cpi_office.specs.declared.request.Ask.{Ask as Asking}
use Rattle.cpi_sql_rows.specs.Shelf.{IsCleanBook, book_state}
use Rattle.cpi_wire.specs.Answer.{Answer}
use Rattle.cpi_wire.specs.Laws.{requests_of_asks, replies_of_asks}
use Rattle.cpi_wire.specs.declared.asks.Ask.{Ask}
use Rattle.cpi_app.specs.Listener.{Meeting}
use Rattle.cpi_app.specs.ServedRuns.{AreAsked}
use Rattle.cpi_app.specs.Visits.{Visits}
use Rattle.cpi_app.specs.declared.desk.Desk.{Desk}
use Rattle.cpi_files.specs.Job.{Deed}
use Rattle.cpi_files.specs.Serve.{AreServedInTurn, HasDone, WereShaken}
use Rattle.cpi_files.specs.declared.cabinet.Cabinet.{Ghosts}

-- a cabinet gives the files that it got
abbrev pub GivesBack : {C D : Type 0} → Ghosts C D → Type 0
GivesBack {C} {D} cabinet = (away back again : C) (left files : Files D)
    → cabinet.keeps away left back → cabinet.gives back files again → files ≡ left

module _ (desk : Desk) where
  -- Books were served one after another; the list begins with the last. These requests in the messages of their
  -- connections were carried out in this order and weren't answered 90, and these are their replies.
  abbrev pub AreCarriedOut : List Visits → List Asking → List Reply → Type 0
  AreCarriedOut [] asked told = (asked ≡ []) × (told ≡ [])
  AreCarriedOut (visits ∷ earlier) asked told = (before : List Asking) × (told_before : List Reply)
      × (asks : List Ask) × (answers : List Answer)
      × AreCarriedOut earlier before told_before × AreAsked desk visits asks
      × (asked ≡ before ++ all_served (requests_of_asks asks) (replies_of_asks asks answers))
      × (told ≡ told_before ++ all_told (replies_of_asks asks answers))

  -- they are one run from an office to another: each got the reply at its place, and nothing else was done
  pub record IsOneRun (books : List Visits) (o u : Office) : Type 0 where
    pub asked : List Asking
    pub told : List Reply
    pub carried : AreCarriedOut books asked told
    pub answers : replies asked o ≡ told
    pub office : u ≡ after asked o

module _ {C D : Type 0} (cabinet : Ghosts C D) (g : disk.Ghosts D) where
  module _ {was is : C} {does : Deed (Unit {0})} {closed : Result (Unit {0}) OpenFault} where
    -- the office of a book when it was opened, and when it was left
    abbrev pub office_before : HasDone cabinet g was does closed is → Office
    office_before d = (book_state over_files d.4.done.book).held

    abbrev pub office_after : HasDone cabinet g was does closed is → Office
    office_after d = (book_state over_files d.4.done.last).held

    -- it was clean when it was left
    abbrev pub EndsClean : HasDone cabinet g was does closed is → Type 0
    EndsClean d = IsCleanBook (file_state d.4.last)

  module _ {L : Type 0} (meets : Meeting L) (Opens : L → Type 0) (desk : Desk) (limit : ℕ) (start : C) where
    -- the office of the first of some books, or else of the one after them
    abbrev pub first_office : (earlier : List Visits) (now : C) (is : L)
        → WereShaken cabinet g meets Opens desk limit start earlier now is → Office → Office
    first_office [] now is s next = next
    first_office (visits ∷ earlier) now is s next = first_office earlier s.0 s.1 s.3 (office_before s.4)

    -- each of them was clean when it was left, and its close succeeded
    abbrev pub AreKept : (earlier : List Visits) (now : C) (is : L)
        → WereShaken cabinet g meets Opens desk limit start earlier now is → Type 0
    AreKept [] now is s = ⊤
    AreKept (visits ∷ earlier) now is s = AreKept earlier s.0 s.1 s.3 × (s.2 ≡ Ok tt) × EndsClean s.4

-- What was served over a cabinet that gives back what it got, over one book and the next, is one run of the requests in
-- the messages of all connections, from the office of the first book to the one that the last book left, if the first
-- office was sound, each book was clean when it was left, and each was closed but the last.
abbrev pub ServingIsOneRun : {C D L : Type 0} → Ghosts C D → disk.Ghosts D → Meeting L → (L → Type 0) → Type 0
ServingIsOneRun {C} {D} {L} cabinet g meets Opens = (desk : Desk) (limit count : ℕ) (start now : C)
    (closed : Result (Unit {0}) OpenFault) (is : L)
    (books : AreServedInTurn cabinet g meets Opens desk limit start count closed now is)
    → GivesBack cabinet
    → AreKept cabinet g meets Opens desk limit start books.earlier books.before books.was books.shaken
    → EndsClean cabinet g books.served
    → IsSound (first_office cabinet g meets Opens desk limit start books.earlier books.before books.was books.shaken
    (office_before cabinet g books.served))
    → IsOneRun desk (books.last ∷ books.earlier)
    (first_office cabinet g meets Opens desk limit start books.earlier books.before books.was books.shaken
    (office_before cabinet g books.served))
    (office_after cabinet g books.served)
