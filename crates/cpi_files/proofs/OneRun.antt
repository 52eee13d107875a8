-- What was served over one book and the next is one run.
use Rattle.std.proofs.Common.{◌≡◌, ◌∙◌, refl, sym, ap, subst, ℕ, List, [], ◌∷◌, ◌++◌, Result, Ok}
use Rattle.sqlite.specs.Files.{file_state, over_files}
use Rattle.sqlite.specs.Held.{Held}
use Rattle.sqlite_disk.specs.declared.Disk as disk
use Rattle.cpi_store.specs.Office.{Office}
use Rattle.cpi_store.specs.Sound.{IsSound}
use Rattle.cpi_store.specs.declared.open_fault.OpenFault.{OpenFault}
use Rattle.cpi_office.specs.Runs.{after, replies}
use Rattle.cpi_office.specs.Served.{IsRun, all_served, all_told}
use Rattle.cpi_office.proofs.RebuiltProjections.{sound_runs}
use Rattle.cpi_office.proofs.Served.{after_append, replies_append}
use Rattle.cpi_sql_rows.specs.Lists.{office_in}
use Rattle.cpi_sql_rows.specs.Shelf.{IsCleanBook, book_state}
use Rattle.cpi_wire.specs.Answer.{Answer}
use Rattle.cpi_wire.specs.Laws.{requests_of_asks, replies_of_asks}
use Rattle.cpi_wire.specs.declared.asks.Ask.{Ask}
use Rattle.cpi_app.specs.Listener.{Meeting}
use Rattle.cpi_app.specs.ServedRuns.{AreAsked, VisitsAreARun}
use Rattle.cpi_app.specs.Visits.{Visits}
use Rattle.cpi_app.specs.declared.desk.Desk.{Desk}
use Rattle.cpi_files.specs.Files.{IsClosedAs}
use Rattle.cpi_files.specs.OneRun.{AreKept, EndsClean, GivesBack, IsOneRun, ServingIsOneRun}
use Rattle.cpi_files.specs.OneRun.{first_office, office_after, office_before}
use Rattle.cpi_files.specs.Reopened.{ClosedIsOpened}
use Rattle.cpi_files.specs.Serve.{HasDone, ServesVisits, WereShaken}
use Rattle.cpi_files.specs.declared.cabinet.Cabinet.{Ghosts}

module _ (desk : Desk) where
  -- no book
  none : (o : Office) → IsOneRun desk [] o o
  none o = record { asked = []; told = []; carried = (refl, refl); answers = refl; office = refl }

  -- one more
  more : (books : List Visits) (o u w : Office) (visits : Visits) → IsOneRun desk books o u → (asks : List Ask)
      (answers : List Answer) → AreAsked desk visits asks
      → IsRun u (requests_of_asks asks) (replies_of_asks asks answers) w → IsOneRun desk (visits ∷ books) o w
  more books o u w visits so_far asks answers asked run =
      let served = all_served (requests_of_asks asks) (replies_of_asks asks answers) in
      let told = all_told (replies_of_asks asks answers) in
      record {
        asked = so_far.asked ++ served;
        told = so_far.told ++ told;
        carried = (so_far.asked, so_far.told, asks, answers, so_far.carried, asked, refl, refl);
        answers = replies_append so_far.asked served o
            ∙ ap (λ rs. rs ++ replies served (after so_far.asked o)) so_far.answers
            ∙ ap (λ x. so_far.told ++ replies served x) (sym so_far.office)
            ∙ ap (λ rs. so_far.told ++ rs) run.answers;
        office = run.office ∙ ap (after served) so_far.office ∙ sym (after_append so_far.asked served o);
      }

module _ {C D L : Type 0} (cabinet : Ghosts C D) (g : disk.Ghosts D) (meets : Meeting L) (Opens : L → Type 0)
    (desk : Desk) (limit : ℕ) (start : C) (runs : VisitsAreARun meets (book_state (over_files {g = g})))
    (reopens : ClosedIsOpened g) (gives : GivesBack cabinet) where
  -- a book that was served
  abbrev Served : C → L → Visits → L → Result (Unit {0}) OpenFault → C → Type 0
  Served was first visits last closed is = HasDone cabinet g was (ServesVisits meets desk first visits last) closed is

  left_clean : (was : C) (first : L) (visits : Visits) (last : L) (closed : Result (Unit {0}) OpenFault) (is : C)
      (d : Served was first visits last closed is) → EndsClean cabinet g d → IsCleanBook (file_state d.4.done.last.held)
  left_clean was first visits last closed is d clean =
      subst (λ (h : Held _). IsCleanBook (file_state h)) d.4.done.held clean

  begun_clean : (was : C) (first : L) (visits : Visits) (last : L) (closed : Result (Unit {0}) OpenFault) (is : C)
      (d : Served was first visits last closed is) → EndsClean cabinet g d → IsCleanBook (file_state d.4.done.book.held)
  begun_clean was first visits last closed is d clean =
      let ran = runs desk first last d.4.done.book d.4.done.last visits d.4.done.done.0 in
      ran.run.was_clean (left_clean was first visits last closed is d clean)

  book_more : (was : C) (first : L) (visits : Visits) (last : L) (closed : Result (Unit {0}) OpenFault) (is : C)
      (d : Served was first visits last closed is) → EndsClean cabinet g d → (books : List Visits) (o : Office)
      → IsOneRun desk books o (office_before cabinet g d) → IsSound (office_before cabinet g d)
      → IsOneRun desk (visits ∷ books) o (office_after cabinet g d)
  book_more was first visits last closed is d clean books o so_far sound =
      let ran = runs desk first last d.4.done.book d.4.done.last visits d.4.done.done.0 in
      more desk books o (office_before cabinet g d) (office_after cabinet g d) visits so_far ran.asks ran.answers
      ran.asked (ran.run.run (left_clean was first visits last closed is d clean) sound)

  -- the next book is of the office that the one before it left
  same_office : (before : C) (was : L) (earlier : Visits) (is : L) (shut : Result (Unit {0}) OpenFault) (now : C)
      (s : Served before was earlier is shut now) → shut ≡ Ok tt → (visits : Visits) (last : L)
      (closed : Result (Unit {0}) OpenFault) (next : C) (d : Served now is visits last closed next)
      → EndsClean cabinet g s → EndsClean cabinet g d → office_before cabinet g d ≡ office_after cabinet g s
  same_office before was earlier is shut now s well visits last closed next d kept clean =
      let files : d.0 ≡ s.1 = gives s.2 now d.2 s.1 d.0 s.5 d.3 in
      let there = subst (λ f. IsClosedAs g s.4.last shut f) (sym files) s.4.left in
      let left = subst (λ it. IsClosedAs g s.4.last it d.0) well there in
      let opened = reopens s.4.last d.4.was d.0 d.4.done.book (s.4.done.tables kept) (s.4.done.settled kept) left
      d.4.shown d.4.done.found (begun_clean now is visits last closed next d clean) in
      opened.1 ∙ ap (λ (h : Held _). office_in (file_state h).now.trees) s.4.done.held

  one_run : (earlier : List Visits) (now : C) (is : L)
      (s : WereShaken cabinet g meets Opens desk limit start earlier now is) (visits : Visits) (last : L)
      (closed : Result (Unit {0}) OpenFault) (next : C) (d : Served now is visits last closed next)
      → AreKept cabinet g meets Opens desk limit start earlier now is s → EndsClean cabinet g d
      → IsSound (first_office cabinet g meets Opens desk limit start earlier now is s (office_before cabinet g d))
      → IsOneRun desk (visits ∷ earlier)
      (first_office cabinet g meets Opens desk limit start earlier now is s (office_before cabinet g d))
      (office_after cabinet g d)
  one_run [] now is s visits last closed next d kept clean sound =
      book_more now is visits last closed next d clean [] _ (none desk _) sound
  one_run (first ∷ earlier) now is s visits last closed next d kept clean sound =
      let o = first_office cabinet g meets Opens desk limit start earlier s.0 s.1 s.3 (office_before cabinet g s.4) in
      let so_far = one_run earlier s.0 s.1 s.3 first is s.2 now s.4 kept.0 kept.2 sound in
      let same = same_office s.0 s.1 first is s.2 now s.4 kept.1 visits last closed next d kept.2 clean in
      let stays = subst IsSound (sym so_far.office) (sound_runs so_far.asked o sound) in
      book_more now is visits last closed next d clean (first ∷ earlier) o
      (subst (λ u. IsOneRun desk (first ∷ earlier) o u) (sym same) so_far) (subst IsSound (sym same) stays)

pub serving_is_one_run : {C D L : Type 0} (cabinet : Ghosts C D) (g : disk.Ghosts D) (meets : Meeting L)
    (Opens : L → Type 0) → VisitsAreARun meets (book_state (over_files {g = g})) → ClosedIsOpened g
    → ServingIsOneRun cabinet g meets Opens
serving_is_one_run cabinet g meets Opens runs reopens desk limit count start now closed is books gives kept clean sound =
    one_run cabinet g meets Opens desk limit start runs reopens gives books.earlier books.before books.was books.shaken
    books.last is closed now books.served kept clean sound
