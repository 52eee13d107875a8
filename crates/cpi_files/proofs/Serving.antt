-- One book is served, and then another.
use Rattle.std.proofs.Common.{◌≡◌, ◌≤◌, ◌<◌, ◌+◌, ℕ, List, [], ◌∷◌, length, Option, None, Some, Result, Ok, Err}
use Rattle.std.proofs.Common.{IsOk, IsErrOf, arith, sym, subst, ap, refl, ◌∙◌, inl, inr}
use Rattle.std.proofs.lemmas.List.Sums.{sum_by-cons}
use Rattle.std.specs.Prelude.{◌⊎◌, IsNone}
use Rattle.std.specs.List.{AllByRecursion}
use Rattle.sqlite.specs.Files.{over_files}
use Rattle.sqlite_disk.specs.declared.Disk as disk
use Rattle.cpi_store.specs.declared.open_fault.OpenFault.{OpenFault}
use Rattle.cpi_sql_rows.specs.Shelf.{book_state}
use Rattle.cpi_wire.specs.declared.fault.WireFault.TheVariants as wire
use Rattle.cpi_app.specs.Desk.{IsDeskOf}
use Rattle.cpi_app.specs.Listener.{Meeting}
use Rattle.cpi_app.specs.Visits.{Visits, AreCalmBefore, IsCalm, LastShook}
use Rattle.cpi_app.specs.declared.desk.Desk.{Desk}
use Rattle.cpi_app.specs.declared.fault.RunFault.{RunFault}
use Rattle.cpi_app.specs.declared.fault.RunFault.TheVariants.{BadZone, BadKey, Database}
use Rattle.cpi_app.specs.declared.fault.RunFault.TheVariants.{NoClock, NoPort, Wire}
use Rattle.cpi_files.specs.Job.{Deed}
use Rattle.cpi_files.specs.Serve.{Serves, ServesVisits, ServesNobody, HasDone, EndsWithBook}
use Rattle.cpi_files.specs.Serve.{WereShaken, AreServedInTurn, AreAllServed, EndsAtDesk, EndsServing}
use Rattle.cpi_files.specs.Taken.{IsDoneFrom}
use Rattle.cpi_files.specs.declared.cabinet.Cabinet.{Ghosts}
use Rattle.cpi_files.specs.declared.serve.Rest.{Rest}

-- of calm connections none but the last may shake
calm_before : (visits : Visits) → AllByRecursion IsCalm visits → AreCalmBefore visits
calm_before [] calm = tt
calm_before (visit ∷ earlier) calm = calm.1

module _ {C D T : Type 0} (cabinet : Ghosts C D) (g : disk.Ghosts D) (was is : C) (does : Deed T)
    (input before after : Option (List ℕ)) (told : T) (closed : Result (Unit {0}) OpenFault) where
  -- what was done over the books may be said in other words
  abbrev done_as : (other : Deed (Unit {0})) (d : IsDoneFrom cabinet g was is does input before after told closed)
      → other _ (book_state over_files) d.4.done.book d.4.done.last None None None tt
      → HasDone cabinet g was other closed is
  done_as other d done =
      let over = d.4.done in (
        d.0,
        d.1,
        d.2,
        d.3,
        record {
          was = d.4.was;
          shown = d.4.shown;
          last = d.4.last;
          done = record {
            book = over.book;
            last = over.last;
            found = over.found;
            done = done;
            held = over.held;
            tables = over.tables;
            settled = over.settled;
          };
          left = d.4.left;
        },
        d.5,
      )

module _ {C D L : Type 0} (cabinet : Ghosts C D) (g : disk.Ghosts D) (meets : Meeting L) (Opens : L → Type 0)
    (desk : Desk) (listener : Option L) (limit : ℕ) (was is : C) (input before after : Option (List ℕ))
    (closed : Result (Unit {0}) OpenFault) where
  abbrev pub IsDone : Result (Rest L) RunFault → Type 0
  IsDone outcome =
      IsDoneFrom cabinet g was is (Serves meets Opens desk listener limit) input before after outcome closed

  abbrev as_visits : (outcome : Result (Rest L) RunFault) (d : IsDone outcome) (first : L) (visits : Visits) (last : L)
      → ServesVisits meets desk first visits last _ (book_state over_files) d.4.done.book d.4.done.last None
      None None tt
      → HasDone cabinet g was (ServesVisits meets desk first visits last) closed is
  as_visits outcome d first visits last done =
      done_as cabinet g was is (Serves meets Opens desk listener limit) input before after outcome closed
      (ServesVisits meets desk first visits last) d done

  -- some connections are left; or none, and the files were closed
  pub book_left : (rest : Rest L) → IsDone (Ok rest) → (rest.left ≡ 0 → IsOk closed)
      → EndsWithBook cabinet g meets Opens desk listener limit was is (Ok rest)
  book_left rest d well =
      let did = d.4.done.done in
      let ends = did.2 in (
        did.0,
        ends.0,
        rest.listener,
        closed,
        did.1,
        as_visits (Ok rest) d did.0 ends.0 rest.listener (ends.1, ends.2),
        omega (arith, ends.3.0),
        (refl, ends.3, well),
      )

  -- none is, and the files couldn't be closed
  pub book_open : (rest : Rest L) (why : OpenFault) → IsDone (Ok rest) → rest.left ≡ 0 → IsErrOf closed why
      → EndsWithBook cabinet g meets Opens desk listener limit was is (Err (Database why))
  book_open rest why d none failed =
      let did = d.4.done.done in
      let ends = did.2 in
      inr (
        did.0,
        ends.0,
        rest.listener,
        closed,
        did.1,
        as_visits (Ok rest) d did.0 ends.0 rest.listener (ends.1, ends.2),
        omega (arith, ends.3.0),
        (omega (arith, ends.3.0, none), failed),
      )

  abbrev as_nobody : (outcome : Result (Rest L) RunFault) (d : IsDone outcome) → d.4.done.last ≡ d.4.done.book
      → HasDone cabinet g was ServesNobody closed is
  as_nobody outcome d same =
      done_as cabinet g was is (Serves meets Opens desk listener limit) input before after outcome closed ServesNobody d
      same

  -- serving ended before its time
  pub book_early : (why : RunFault) → IsDone (Err why)
      → EndsWithBook cabinet g meets Opens desk listener limit was is (Err why)
  book_early NoClock d =
      let did = d.4.done.done in
      let ends = did.2.2 in (
        did.0,
        ends.0,
        ends.1,
        closed,
        did.1,
        as_visits (Err NoClock) d did.0 ends.0 ends.1 (ends.2, calm_before ends.0 ends.4),
        omega (arith, ends.5),
        ((did.2.0, ends.3), ends.5),
      )
  book_early NoPort d = (d.4.done.done.0, (closed, as_nobody (Err NoPort) d d.4.done.done.1))
  book_early (Wire wire.Write) d =
      (d.4.done.done.0, (closed, as_nobody (Err (Wire wire.Write)) d d.4.done.done.1))
  book_early why d = absurd d.4.done.done

-- who shook a book was served
some_shook : (visits : Visits) → LastShook visits → 0 < length visits
some_shook [] shook = absurd shook
some_shook (visit ∷ earlier) shook = omega arith

shaken : (visits : Visits) (left : ℕ) → (left ≡ 0) ⊎ LastShook visits → 0 < left → LastShook visits
shaken visits left (inl none) some = absurd (omega (arith, none, some))
shaken visits left (inr shook) some = shook

fewer : (visits : Visits) (limit left : ℕ) → left + length visits ≡ limit → (left ≡ 0) ⊎ LastShook visits
    → 0 < limit → left < limit
fewer visits limit left all (inl none) some = omega (arith, none, some)
fewer visits limit left all (inr shook) some = omega (arith, some_shook visits shook, all)

-- a listener isn't none
taken : {L : Type 0} (listener : L) → IsNone (Some listener) → ⊥
taken listener none = cc

module _ {C D L : Type 0} (cabinet : Ghosts C D) (g : disk.Ghosts D) (meets : Meeting L) (Opens : L → Type 0)
    (desk : Desk) where
  -- a book leaves fewer connections
  pub next_fewer : (listener : Option L) (left : ℕ) (was is : C) (rest : Rest L) → 0 < left
      → EndsWithBook cabinet g meets Opens desk listener left was is (Ok rest) → rest.left < left
  next_fewer listener left was is rest some e = fewer e.1 left rest.left e.7.1.0 e.7.1.1 some

module _ {C D L : Type 0} (cabinet : Ghosts C D) (g : disk.Ghosts D) (meets : Meeting L) (Opens : L → Type 0)
    (desk : Desk) (limit : ℕ) (start : C) where
  -- books were served one after another, and so many connections are left to this listener
  pub record StandsAt (left : ℕ) (now : C) (is : L) : Type 0 where
    pub count : ℕ
    pub closed : Result (Unit {0}) OpenFault
    pub books : AreServedInTurn cabinet g meets Opens desk limit start count closed now is
    pub rest : left + count ≡ limit
    pub stays : (left ≡ 0) ⊎ LastShook books.last
    pub well : left ≡ 0 → IsOk closed

  -- the first book
  abbrev first_book : (first is : L) (visits : Visits) (closed : Result (Unit {0}) OpenFault) (now : C) → Opens first
      → HasDone cabinet g start (ServesVisits meets desk first visits is) closed now → length visits ≤ limit
      → AreServedInTurn cabinet g meets Opens desk limit start (length visits) closed now is
  first_book first is visits closed now opened s few = record {
    earlier = [];
    last = visits;
    before = start;
    was = first;
    shaken = (refl, opened);
    served = s;
    all = omega arith;
    few = few;
  }

  pub first_stands : (rest : Rest L) (now : C)
      → EndsWithBook cabinet g meets Opens desk None limit start now (Ok rest) → StandsAt rest.left now rest.listener
  first_stands rest now e =
      let served = subst (λ is. HasDone cabinet g start (ServesVisits meets desk e.0 e.1 is) e.3 now) e.7.0 e.5 in
      record {
        count = length e.1;
        closed = e.3;
        books = first_book e.0 rest.listener e.1 e.3 now e.4 served e.6;
        rest = e.7.1.0;
        stays = e.7.1.1;
        well = e.7.2;
      }

  -- serving ended with it
  pub first_ends : (why : RunFault) (now : C)
      → EndsWithBook cabinet g meets Opens desk None limit start now (Err why)
      → EndsAtDesk cabinet g meets Opens desk limit start now (Err why)
  first_ends NoClock now e =
      (e.2, length e.1, e.3, first_book e.0 e.2 e.1 e.3 now e.4 e.5 e.6, e.7.0, e.7.1)
  first_ends NoPort now e = e.1
  first_ends (Wire wire.Write) now e = e.1
  first_ends (Database fault) now (inl refused) = inl (inl refused)
  first_ends (Database fault) now (inr e) =
      inr (
        e.2,
        e.3,
        subst (λ count. AreServedInTurn cabinet g meets Opens desk limit start count e.3 now e.2) e.7.0
            (first_book e.0 e.2 e.1 e.3 now e.4 e.5 e.6),
        e.7.1,
      )
  first_ends why now e = absurd e

  -- a book was left
  was_shaken : (left : ℕ) (now : C) (is : L) (s : StandsAt left now is) → 0 < left
      → WereShaken cabinet g meets Opens desk limit start (s.books.last ∷ s.books.earlier) now is
  was_shaken left now is s some = (
    s.books.before,
    s.books.was,
    s.closed,
    s.books.shaken,
    s.books.served,
    shaken s.books.last left s.stays some,
    omega (arith, s.rest, s.books.all, some),
  )

  -- the next book
  abbrev next_book : (left : ℕ) (before : C) (was : L) (s : StandsAt left before was) → 0 < left
      → (visits : Visits) (is : L) (closed : Result (Unit {0}) OpenFault) (now : C)
      → HasDone cabinet g before (ServesVisits meets desk was visits is) closed now → length visits ≤ left
      → AreServedInTurn cabinet g meets Opens desk limit start (length visits + s.count) closed now is
  next_book left before was s some visits is closed now served few = record {
    earlier = s.books.last ∷ s.books.earlier;
    last = visits;
    before = before;
    was = was;
    shaken = was_shaken left before was s some;
    served = served;
    all = ap (λ count. length visits + count) s.books.all
        ∙ sym (sum_by-cons length visits (s.books.last ∷ s.books.earlier));
    few = omega (arith, s.rest, few);
  }

  pub next_stands : (before now : C) (listener : L) (left : ℕ) (rest : Rest L)
      → StandsAt left before listener → 0 < left
      → EndsWithBook cabinet g meets Opens desk (Some listener) left before now (Ok rest)
      → StandsAt rest.left now rest.listener
  next_stands before now listener left rest s some e =
      let to = subst (λ is. HasDone cabinet g before (ServesVisits meets desk e.0 e.1 is) e.3 now) e.7.0 e.5 in
      let served = subst
      (λ first. HasDone cabinet g before (ServesVisits meets desk first e.1 rest.listener) e.3 now) e.4 to in
      record {
        count = length e.1 + s.count;
        closed = e.3;
        books = next_book left before listener s some e.1 rest.listener e.3 now served e.6;
        rest = omega (arith, s.rest, e.7.1.0);
        stays = e.7.1.1;
        well = e.7.2;
      }

  -- serving ended with it
  pub next_ends : (before now : C) (listener : L) (left : ℕ) (why : RunFault)
      → StandsAt left before listener → 0 < left
      → EndsWithBook cabinet g meets Opens desk (Some listener) left before now (Err why)
      → EndsAtDesk cabinet g meets Opens desk limit start now (Err why)
  next_ends before now listener left NoClock s some e =
      let served = subst (λ first. HasDone cabinet g before (ServesVisits meets desk first e.1 e.2) e.3 now)
      e.4 e.5 in (
        e.2,
        length e.1 + s.count,
        e.3,
        next_book left before listener s some e.1 e.2 e.3 now served e.6,
        e.7.0,
        omega (arith, s.rest, e.7.1),
      )
  next_ends before now listener left NoPort s some e = absurd (taken listener e.0)
  next_ends before now listener left (Wire wire.Write) s some e = absurd (taken listener e.0)
  next_ends before now listener left (Database fault) s some (inl refused) = inl (inr (
    s.books.last,
    s.books.earlier,
    before,
    listener,
    was_shaken left before listener s some,
    refused,
  ))
  next_ends before now listener left (Database fault) s some (inr e) =
      let served = subst (λ first. HasDone cabinet g before (ServesVisits meets desk first e.1 e.2) e.3 now) e.4 e.5 in
      let all : length e.1 + s.count ≡ limit = omega (arith, s.rest, e.7.0) in
      inr (
        e.2,
        e.3,
        subst (λ count. AreServedInTurn cabinet g meets Opens desk limit start count e.3 now e.2) all
            (next_book left before listener s some e.1 e.2 e.3 now served e.6),
        e.7.1,
      )
  next_ends before now listener left why s some e = absurd e

  -- none is left
  pub all_served : (left : ℕ) (now : C) (is : L) → StandsAt left now is → left ≡ 0
      → AreAllServed cabinet g meets Opens desk limit start IsOk now
  all_served left now is s none =
      let all : s.count ≡ limit = omega (arith, s.rest, none) in (
        is,
        s.closed,
        subst (λ count. AreServedInTurn cabinet g meets Opens desk limit start count s.closed now is) all s.books,
        s.well none,
      )

module _ {C D L : Type 0} (cabinet : Ghosts C D) (g : disk.Ghosts D) (meets : Meeting L) (Opens : L → Type 0)
    (limit : ℕ) (zone key : List ℕ) (start now : C) where
  -- with the desk of the words
  pub ends_serving : (desk : Desk) (outcome : Result (Unit {0}) RunFault) → IsDeskOf zone key desk
      → EndsAtDesk cabinet g meets Opens desk limit start now outcome
      → EndsServing cabinet g meets Opens zone key limit start now outcome
  ends_serving desk (Err BadZone) is e = absurd e
  ends_serving desk (Err BadKey) is e = absurd e
  ends_serving desk outcome is e = (desk, is, e)
