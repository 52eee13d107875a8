-- A query whose rows are read one at a time: those so far begin what its text shows, and at the end they are that.
use Rattle.std.proofs.Common.{◌≡◌, ◌⊎◌, inl, inr, ℕ, List, [], ◌∷◌, ◌++◌, Option, Some, None, Ok, IsTrue, false}
use Rattle.std.proofs.Common.{arith, map, refl, sym, ap, subst, ◌∙◌, if◌then◌else◌}
use Rattle.std.proofs.lemmas.List.{append-nil, append_assoc}
use Rattle.sqlite.specs.Order.{Row}
use Rattle.sqlite.specs.Effect.{Database, IsDatabase, SparesFrozen}
use Rattle.sqlite.specs.Does.{Does}
use Rattle.sqlite.specs.Held.{Held, state}
use Rattle.sqlite.specs.Given.{HasGiven, HasBegun, Advances, HandsOn}
use Rattle.sqlite.specs.Stream.{returned, HasEnded}
use Rattle.sqlite.specs.Listing.{understood, reads_listing, IsSourceOf}
use Rattle.sqlite.specs.State.{State, CommitsShowing, HasCleanDisk, IsUnchanged, IsStatement, Fails, Shown, ShowsRows}
use Rattle.sqlite.specs.State.{Survives, Writes, mode_of}
use Rattle.sqlite.specs.declared.error.Error.{Error}
use Rattle.sqlite.specs.Clock.{timed}
use Rattle.sqlite.proofs.Callers.{IsPlain, unchanged_then}
use Rattle.sqlite.proofs.StateLemmas.{survives_then}
use Rattle.sqlite.proofs.StreamLemmas.{given_plain}
use Rattle.sqlite_trees.specs.declared.store.Store.{Ghosts}
use Rattle.sqlite_schema.specs.declared.command.Returning.{Returning}
use Rattle.sqlite_resolve.specs.declared.compiled.Compiled.{Compiled}
use Rattle.cpi_sql_rows.specs.Shelf.{IsKept}
use Rattle.cpi_sql_rows.specs.Read.{AreRead, QueryLeaves}
use Rattle.cpi_sql_rows.proofs.Asking.{asked_open}

-- what was shown is still shown if nothing has changed since
module _ (a b c : State) (same : IsUnchanged b c) where
  writes_then : (what : Option Returning) (command : _) (text : List ℕ) (params : Row) (count : ℕ)
      → Writes a b what command text params count → Writes a c what command text params count
  writes_then what command text params count w = record {
    tally = w.tally;
    changed = subst (λ d. Does a.step_limit (mode_of a) params a.now text what command (Ok (w.tally, d)))
        (sym same.0.now_is) w.changed;
    frozen = subst (λ d. SparesFrozen a.now d) (sym same.0.now_is) w.frozen;
    sound = subst IsDatabase (sym same.0.now_is) w.sound;
    shown = record {
      was_open = w.shown.was_open;
      is_open = same.0.is_open;
      now_is = refl;
      committed_is = same.0.committed_is ∙ w.shown.committed_is
          ∙ ap (λ (d : Database). if a.in_transaction then a.committed else d) (sym same.0.now_is);
      mode = same.0.mode ∙ w.shown.mode;
    };
    marks = same.2 ∙ w.marks;
    counted = w.counted;
    changes = same.1.changes ∙ w.changes;
    last_rowid = same.1.last_rowid ∙ w.last_rowid;
  }

  shows_then : (sql : List ℕ) (comp : Compiled) (params : Row) (rows : List Row) (what : Option Returning)
      → ShowsRows a b sql comp params rows what → ShowsRows a c sql comp params rows what
  unfolding writes_then
  shows_then sql comp params rows None h = (h.0, h.1, h.2, unchanged_then a b c h.3 same)
  shows_then sql comp params rows (Some what) h =
      let w = writes_then (Some what) comp.command _ params h.0 h.1 in
      (h.0, w, h.2)

  shown_then : (sql : List ℕ) (params : Row) (rows : List Row) → Shown sql params a b rows → Shown sql params a c rows
  unfolding Shown
  shown_then sql params rows h =
      (h.0, h.1, shows_then sql h.0 (timed params h.0.formats h.1.now) rows h.0.returning h.2)

-- what a query shows that begins after nothing has changed, it shows from before that
shown_before : (a b c : State) (sql : List ℕ) (params : Row) (rows : List Row) → IsUnchanged a b
    → ((comp : Compiled) → understood b.now.schema sql ≡ Ok comp → comp.returning ≡ None)
    → Shown sql params b c rows → Shown sql params a c rows
unfolding Shown
shown_before a b c sql params rows same query h =
    let none = query h.0 h.1.is in
    let it = subst (ShowsRows b c sql h.0 (timed params h.0.formats h.1.now) rows) none h.2 in
    let is : IsStatement a sql params h.0 = record {
      is = ap (λ (d : Database). understood d.schema sql) (sym same.0.now_is) ∙ h.1.is;
      whole = h.1.whole;
      given = h.1.given;
      now = h.1.now;
    } in
    let source : IsSourceOf (reads_listing a.now.schema sql) a.now it.0 =
    subst (λ (d : Database). IsSourceOf (reads_listing d.schema sql) d it.0) same.0.now_is it.1 in
    let shown : ShowsRows a c sql h.0 (timed params h.0.formats h.1.now) rows None =
    (it.0, source, it.2, unchanged_then a b c same it.3) in
    (h.0, is, subst (ShowsRows a c sql h.0 (timed params h.0.formats h.1.now) rows) (sym none) shown)

-- a statement that is no write has changed nothing
shown_plain : (a b : State) (sql : List ℕ) (params : Row) (rows : List Row) → IsPlain (understood a.now.schema sql)
    → Shown sql params a b rows → IsUnchanged a b
unfolding Shown
shown_plain a b sql params rows plain h =
    let none = (subst IsPlain h.1.is plain).0 in
    let it = subst (ShowsRows a b sql h.0 (timed params h.0.formats h.1.now) rows) none h.2 in it.3

-- nothing is changed by a failure between transactions
kept_after : (a b c : State) (e : Error) → IsUnchanged a b → (IsTrue a.is_open → a.now ≡ a.committed)
    → a.in_transaction ≡ false → IsTrue c.is_open → Fails b c ⊥ e ⊎ IsUnchanged b c → IsKept a c
kept_after a b c e same settled alone is_open (inl fails) = let back = fails.3 in record {
  now = (back.undone is_open).0 ∙ same.0.committed_is ∙ sym (settled same.0.was_open);
  alone = back.autocommit;
}
kept_after a b c e same settled alone is_open (inr still) = let all = unchanged_then a b c same still in record {
  now = all.0.now_is;
  alone = all.0.mode ∙ alone;
}

open_before : (b c : State) (e : Error) → IsTrue c.is_open → Fails b c ⊥ e ⊎ IsUnchanged b c → IsTrue b.is_open
open_before b c e is_open (inl fails) = fails.3.was_open is_open
open_before b c e is_open (inr still) = still.0.was_open

module _ {S : Type 0} (g : Ghosts S) (sql : List ℕ) (params : Row) (old : Held S) where
  -- the rows so far are the first of what the text shows: of an answer, or of what a write showed
  abbrev pub IsUnderWay : Held S → List Row → Type 0
  IsUnderWay now given =
      (HasGiven g sql params now given × IsUnchanged (state g old) (state g now))
      ⊎ ((rows : List Row) × Shown sql params (state g old) (state g now) rows
      × (rows ≡ given ++ returned now.reading) × HasEnded now.reading)

  pub begun : (new : Held S) → HasBegun g sql params old new → IsUnderWay new []
  begun new (inl it) = inl it
  begun new (inr it) = inr (returned new.reading, it.1, refl, it.2)

  was_open : (now : Held S) (given : List Row) → IsUnderWay now given → IsTrue (state g now).is_open
      → IsTrue (state g old).is_open
  was_open now given (inl it) is_open = it.1.0.was_open
  was_open now given (inr it) is_open =
      asked_open (state g old) (state g now) (λ rows. rows) sql params (Ok it.0) it.1 tt is_open

  changes_nothing : (now : Held S) (given : List Row) → IsPlain (understood (state g old).now.schema sql)
      → IsUnderWay now given → IsUnchanged (state g old) (state g now)
  changes_nothing now given plain (inl it) = it.1
  changes_nothing now given plain (inr it) = shown_plain (state g old) (state g now) sql params it.0 plain it.1

  module _ (mid : Held S) (survives : Survives (state g old) (state g mid) (CommitsShowing sql params (state g old)))
      (way : HasCleanDisk (state g mid) → (given : List Row) × IsUnderWay mid given) where
    -- the state that is left after some rows were read
    pub way_asked : QueryLeaves sql params (state g old) (state g mid)
    way_asked = record {
      clean = λ clean. let it = way clean.disk in record {
        disk = let d = clean.disk in omega (arith, survives.clean);
        is_open = was_open mid it.0 it.1 clean.is_open;
      };
      kept = λ clean alone plain.
          let it = way clean.disk in
          let same = changes_nothing mid it.0 plain it.1 in
          record { now = same.0.now_is; alone = same.0.mode ∙ alone };
      crash = survives;
    }

    module _ (new : Held S) (onward : Survives (state g mid) (state g new) (λ _. ⊥)) where
      crash : Survives (state g old) (state g new) (CommitsShowing sql params (state g old))
      crash = survives_then (state g old) (state g mid) (state g new) _ _ _ (λ _ db may. may) (λ _ db no. absurd no)
          survives onward

      before : HasCleanDisk (state g new) → HasCleanDisk (state g mid)
      before disk = omega (arith, onward.clean)

      -- and then nothing was changed
      pub still_asked : (HasCleanDisk (state g new) → IsUnchanged (state g mid) (state g new))
          → QueryLeaves sql params (state g old) (state g new)
      still_asked same = record {
        clean = λ clean. way_asked.clean (record {
          disk = before clean.disk;
          is_open = (same clean.disk).0.was_open;
        });
        kept = λ clean alone plain.
            let still = same clean.disk in
            let kept = way_asked.kept (record { disk = before clean.disk; is_open = still.0.was_open }) alone plain in
            record { now = still.0.now_is ∙ kept.now; alone = still.0.mode ∙ kept.alone };
        crash = crash;
      }

      -- or a row couldn't be read
      pub failed_asked : (e : Error) → (IsTrue (state g old).is_open → (state g old).in_transaction ≡ false
          → (state g old).now ≡ (state g old).committed)
          → (HasCleanDisk (state g new)
          → Fails (state g mid) (state g new) ⊥ e ⊎ IsUnchanged (state g mid) (state g new))
          → QueryLeaves sql params (state g old) (state g new)
      failed_asked e settled ends = record {
        clean = λ clean. way_asked.clean (record {
          disk = before clean.disk;
          is_open = open_before (state g mid) (state g new) e clean.is_open (ends clean.disk);
        });
        kept = λ clean alone plain. let it = way (before clean.disk) in
            kept_after (state g old) (state g mid) (state g new) e (changes_nothing mid it.0 plain it.1)
            (λ was. settled was alone) alone clean.is_open (ends clean.disk);
        crash = crash;
      }

  module _ (mid new : Held S) (given : List Row) (same : IsUnchanged (state g mid) (state g new)) where
    pub one_more : (row : Row) → IsUnderWay mid given → Advances g mid new (Some row) → HandsOn mid new (Some row)
        → IsUnderWay new (given ++ row ∷ [])
    one_more row (inl it) moves hands =
        inl (moves sql params given it.0, unchanged_then (state g old) (state g mid) (state g new) it.1 same)
    one_more row (inr it) moves hands = let next = hands it.3 in
        inr (
          it.0,
          shown_then (state g old) (state g mid) (state g new) same sql params it.0 it.1,
          it.2 ∙ ap (λ rows. given ++ rows) next.0 ∙ sym (append_assoc given (row ∷ []) (returned new.reading)),
          next.1,
        )

    pub at_end : IsUnderWay mid given → Advances g mid new None → HandsOn mid new None
        → Shown sql params (state g old) (state g new) given
    at_end (inl it) moves hands =
        shown_before (state g old) (state g mid) (state g new) sql params given it.1
        (given_plain g sql params mid given it.0) (moves sql params given it.0)
    at_end (inr it) moves hands = let next = hands it.3 in
        subst (Shown sql params (state g old) (state g new))
        (it.2 ∙ ap (λ rows. given ++ rows) next.0.0 ∙ append-nil given)
        (shown_then (state g old) (state g mid) (state g new) same sql params it.0 it.1)

-- one more row was read
pub read_more : {X : Type 0} (entry : Row → Option X) (rows : List Row) (xs : List X) (row : Row) (x : X)
    → AreRead entry rows xs → entry row ≡ Some x → AreRead entry (rows ++ row ∷ []) (xs ++ x ∷ [])
read_more entry [] [] row x read one = ap (λ o. o ∷ []) one
read_more entry [] (y ∷ xs) row x read one = absurd cc
read_more entry (r ∷ rows) [] row x read one = absurd cc
read_more {X} entry (r ∷ rows) (y ∷ xs) row x read one =
    let head : ◌≡◌ {A = Option X} (entry r) (Some y) = cc in
    let tail : ◌≡◌ {A = List (Option X)} (map entry rows) (map Some xs) = cc in
    let more = read_more entry rows xs row x tail one in
    cc
