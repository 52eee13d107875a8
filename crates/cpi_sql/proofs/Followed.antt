-- The caches after a look and after a write.
use Rattle.std.proofs.Common.{◌≡◌, ℕ, Bool, false, None, Option, Result, Ok, Err, IsTrue, List, [], ◌∷◌, inl, inr, map}
use Rattle.std.proofs.Common.{Some, ap, subst, sym, ◌∙◌}
use Rattle.std.specs.Prelude.{OnOk}
use Rattle.sqlite.specs.Order.{Row}
use Rattle.sqlite.specs.State.{State}
use Rattle.sqlite.specs.Tree.{Trees}
use Rattle.sqlite.specs.Effect.{Database}
use Rattle.cpi_sql_rows.specs.declared.release_rows.Header.{Header}
use Rattle.cpi_rows.specs.Keyed.{with_row, row_at}
use Rattle.cpi_rows.proofs.Puts.{row_at_put_found, row_at_put_same}
use Rattle.cpi_release.specs.FrozenMonths.{ReleaseKey, release_cmp, release_key}
use Rattle.cpi_release.specs.declared.release.Release.{Release}
use Rattle.cpi_store.specs.Office.{Office, Change, Freezes, office_with}
use Rattle.cpi_store.proofs.Released.{release_total}
use Rattle.cpi_sql_rows.specs.HeldTables.{HeldTable, row_with_holder, carried_table, frozen_table, level_table}
use Rattle.cpi_sql_rows.specs.HeldTables.{release_in}
use Rattle.cpi_sql_rows.specs.Texts.{is_release}
use Rattle.cpi_sql_writes.specs.ReleaseSteps.{IsNewRevision, ListsStand}
use Rattle.cpi_sql_rows.specs.Lists.{office_in, releases_in, release_number}
use Rattle.cpi_sql_rows.specs.Making.{IsOfficeDatabase}
use Rattle.cpi_sql_rows.specs.Shelf.{AllStand, AllStandFor, AreTaken, HasTables, IsCleanBook}
use Rattle.cpi_sql_rows.specs.Shelf.{IsLook, IsPlanTaken, Takes, WritesTaken, survey_of}
use Rattle.cpi_sql_rows.proofs.Kept.{kept_tables}
use Rattle.cpi_sql_writes.specs.Rest.{MakesOnly}
use Rattle.cpi_sql_writes.specs.Written.{Written}
use Rattle.cpi_sql_reads.specs.Headers.{AreHeadersOf}
use Rattle.cpi_sql_reads.specs.CachedLists.{AreListsCached, IsThere}
use Rattle.cpi_sql_reads.specs.ReleaseLists.{AreListsOf, IsListOf, ReleaseList}
use Rattle.cpi_sql_reads.specs.declared.cached_lists.CachedLists.{CachedLists}
use Rattle.cpi_sql_reads.proofs.HeaderLists.{header_of, headers_told, releases_ordered}
use Rattle.cpi_sql.specs.Caches.{AreOf, Caches, AreCachesSound, Stands}
use Rattle.cpi_sql.specs.Calls.{IsCounted}
use Rattle.cpi_sql.proofs.Counted.{on_err, on_ok}

-- ---- looks

-- a look leaves the caches as sound as before, if it read the rows of the tables
pub look_sound : (old new : State) (c after : Caches) → IsLook old new → AreCachesSound old c
    → (IsCleanBook new → Stands old c → AreOf old.now.trees after) → AreCachesSound new after
look_sound old new c after look sound read = λ clean.
    let before = sound (look.clean clean) in
    let kept = look.kept clean before.tables in
    record {
      tables = kept_tables old new kept before.tables;
      cached = subst (λ (d : Database). AreOf d.trees after) (sym kept.now) (read clean before);
    }

-- the same, of a look that reads lists of releases
pub lists_sound : (old new : State) (c : Caches) (lists : CachedLists) → IsLook old new → AreCachesSound old c
    → (IsCleanBook new → Stands old c → AreListsCached old.now.trees lists)
    → AreCachesSound new (record c { lists = lists })
lists_sound old new c lists look sound read = look_sound old new c _ look sound (λ clean st. record {
  survey = st.cached.survey;
  headers = st.cached.headers;
  lists = read clean st;
  samples = st.cached.samples;
})

pub tables_of : (s : State) (c : Caches) → AreCachesSound s c → IsCleanBook s → HasTables s
tables_of s c sound clean = (sound clean).tables

-- ---- writes

-- a write that failed left the rows as they were
pub kept_sound : {change : Change} {fits : Office → Type 0} {A E F : Type 0} {f : F} {n m : ℕ} {put : Result A E}
    → (old new : State) (c : Caches) → Written change fits old new put → IsCounted {F = F} put (Err f) n m
    → AreCachesSound old c → AreCachesSound new c
kept_sound {put = put} old new c written counted sound = λ clean.
    let before = sound (written.clean clean) in
    let same = on_err put counted (written.kept clean before.tables) in
    record {
      tables = kept_tables old new same before.tables;
      cached = subst (λ (d : Database). AreOf d.trees c) (sym same.now) before.cached;
    }

module _ {X : Type 0} (entry : Row → Option X) (old new : List Row) (takes : Takes entry old new) where
  -- if the types took each row, they take each row after a write
  still_taken : AllStand entry old → AllStand entry new
  unfolding Takes AllStand
  still_taken all r h = elim (takes r h) [ inl was ↦ all r was | inr stands ↦ stands ]

  still_taken_for : (holder : Row → Option ℕ) (number : ℕ) → AllStandFor holder entry number old
      → AllStandFor holder entry number new
  unfolding Takes AllStandFor
  still_taken_for holder number all r h is = elim (takes r h) [ inl was ↦ all r was is | inr stands ↦ stands ]

plan_taken : (old new : Trees) → WritesTaken old new → (year : ℕ) → IsPlanTaken year old → IsPlanTaken year new
plan_taken old new rows year was = record {
  nodes = still_taken_for _ _ _ rows.nodes _ year was.nodes;
  places = still_taken_for _ _ _ rows.places _ year was.places;
  references = still_taken_for _ _ _ rows.references _ year was.references;
}

survey_taken : (old new : Trees) → IsOfficeDatabase new → WritesTaken old new → AreTaken old → AreTaken new
survey_taken old new is rows was = record {
  whole = is.whole;
  plans = λ year. plan_taken old new rows year (was.plans year);
  assignments = still_taken _ _ _ rows.assignments was.assignments;
  quotes = still_taken _ _ _ rows.quotes was.quotes;
}

-- the headers are as they were
headers_stand : (old new : Trees) → WritesTaken old new → releases_in new ≡ releases_in old → (headers : List Header)
    → AreHeadersOf old headers → AreHeadersOf new headers
headers_stand old new rows same headers was = record {
  read = was.read ∙ headers_told old ∙ ap (map header_of) (sym same) ∙ sym (headers_told new);
  taken = still_taken _ _ _ rows.headers was.taken;
}

-- a release that is there stays as it is
abbrev StillThere : Trees → Trees → Type 0
StillThere old new = (key : ReleaseKey) (r : Release) → row_at release_cmp release_key key (releases_in old) ≡ Some r
    → row_at release_cmp release_key key (releases_in new) ≡ Some r

module _ (old new : Trees) (rows : WritesTaken old new) (still : StillThere old new) where
  module _ {X : Type 0} (table : HeldTable X is_release) (listed_by : Release → List X)
      (takes : Takes (row_with_holder release_in table.after) (old table.tree) (new table.tree)) where
    list_stands : (l : ReleaseList X) → IsListOf table listed_by old l → IsListOf table listed_by new l
    list_stands l was = record {
      release = was.release;
      there = still (l.month, l.revision) was.release was.there;
      rows = was.rows;
      stand = still_taken_for _ _ _ takes _ (release_number l.month l.revision) was.stand;
    }

    each_stands : (lists : List (ReleaseList X)) → AreListsOf table listed_by old lists
        → AreListsOf table listed_by new lists
    each_stands [] all = tt
    each_stands (l ∷ lists) all = (list_stands l all.0, each_stands lists all.1)

  lists_stand : (lists : CachedLists) → AreListsCached old lists → AreListsCached new lists
  lists_stand lists was = record {
    frozen = each_stands frozen_table (λ (r : Release). r.frozen) rows.frozen lists.frozen.items was.frozen;
    carried = each_stands carried_table (λ (r : Release). r.carried) rows.carried lists.carried.items was.carried;
    levels = each_stands level_table (λ (r : Release). r.levels) rows.levels lists.levels.items was.levels;
  }

-- a release that was put is there, and the others stay as they are
module _ (old new : Trees) (r : Release) (none : IsNewRevision r (office_in old))
    (put_in : releases_in new ≡ with_row release_cmp release_key r (releases_in old)) where
  put_still : StillThere old new
  put_still key s there = ap (row_at release_cmp release_key key) put_in
      ∙ row_at_put_found release_total release_key r (releases_in old) (releases_ordered old) none key s there

  put_there : ListsStand r new → IsThere new r
  put_there stand = record {
    release = ap (row_at release_cmp release_key (release_key r)) put_in
        ∙ row_at_put_same release_total release_key r (releases_in old);
    frozen = stand.frozen;
    carried = stand.carried;
    levels = stand.levels;
  }

module _ {change : Change} {fits : Office → Type 0} {A E F : Type 0} {u : A} {n m : ℕ} {put : Result A E}
    (old new : State) (c : Caches) (written : Written change fits old new put)
    (counted : IsCounted {F = F} put (Ok u) n m) (owed : IsCleanBook old → fits (office_in old.now.trees))
    (sound : AreCachesSound old c) where
  -- after a write of the survey its cache has the row too, or counts as not read, and the samples are dropped
  pub survey_sound : (is_read : Bool) (survey : Office)
      → ((o : Office) → survey_of (office_with change o) ≡ office_with change (survey_of o))
      → ((o : Office) → (office_with change o).releases ≡ o.releases)
      → (IsTrue is_read → IsTrue c.is_read × (survey ≡ office_with change c.survey))
      → AreCachesSound new (record c { is_read = is_read; survey = survey; samples = None })
  survey_sound is_read survey passes still follows = λ clean.
      let was = written.clean clean in
      let st = sound was in
      let only : MakesOnly change old new = on_ok put counted (written.done clean st.tables (owed was)) in
      let done = only.done in
      let same : releases_in new.now.trees ≡ releases_in old.now.trees =
      ap (λ (o : Office). o.releases) done.made.office ∙ still (office_in old.now.trees) in
      record {
        tables = done.tables;
        cached = record {
          survey = λ t.
              let it = follows t in
              let before = st.cached.survey it.0 in
              record {
                read = it.1 ∙ ap (office_with change) before.read ∙ sym (passes (office_in old.now.trees))
                    ∙ sym (ap survey_of done.made.office);
                taken = survey_taken old.now.trees new.now.trees done.tables.office done.made.rows before.taken;
              };
          headers = λ t. headers_stand old.now.trees new.now.trees done.made.rows same c.headers (st.cached.headers t);
          lists = lists_stand old.now.trees new.now.trees done.made.rows
              (λ key r. subst (λ rs. row_at release_cmp release_key key rs ≡ Some r) (sym same)) c.lists
              st.cached.lists;
          samples = tt;
        };
      }

-- after a release the headers are read again when a request needs them, and its lists are cached
pub release_sound : {A E F : Type 0} {u : A} {n m : ℕ} {put : Result A E} (r : Release) (old new : State) (c : Caches)
    → Written (Freezes r) (IsNewRevision r) old new put → IsCounted {F = F} put (Ok u) n m
    → (IsCleanBook old → IsNewRevision r (office_in old.now.trees))
    → (IsCleanBook new → HasTables old → IsNewRevision r (office_in old.now.trees)
    → OnOk put (ListsStand r new.now.trees))
    → AreCachesSound old c → (headers : List Header) (lists : CachedLists)
    → ((trees : Trees) → AreListsCached trees c.lists → IsThere trees r → AreListsCached trees lists)
    → AreCachesSound new (record c { has_headers = false; headers = headers; lists = lists; samples = None })
release_sound {put = put} r old new c written counted owed stands sound headers lists follows = λ clean.
    let was = written.clean clean in
    let st = sound was in
    let none = owed was in
    let only : MakesOnly (Freezes r) old new = on_ok put counted (written.done clean st.tables none) in
    let done = only.done in
    let stand : ListsStand r new.now.trees = on_ok put counted (stands clean st.tables none) in
    let put_in = ap (λ (o : Office). o.releases) done.made.office in
    let still = put_still old.now.trees new.now.trees r none put_in in
    let there = put_there old.now.trees new.now.trees r none put_in stand in record {
      tables = done.tables;
      cached = record {
        survey = λ t.
            let before = st.cached.survey t in
            record {
              read = before.read ∙ sym (ap survey_of done.made.office);
              taken = survey_taken old.now.trees new.now.trees done.tables.office done.made.rows before.taken;
            };
        headers = λ t. absurd (let no = t in cc);
        lists = follows new.now.trees
            (lists_stand old.now.trees new.now.trees done.made.rows still c.lists st.cached.lists) there;
        samples = tt;
      };
    }
