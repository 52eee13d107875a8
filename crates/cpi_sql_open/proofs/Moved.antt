-- The steps of the migration, taken together.
use Rattle.std.proofs.Common.{◌≡◌, ℕ, List, [], ◌∷◌, ◌++◌, map, true, IsTrue, refl, sym, ap, subst, ◌∙◌, arith}
use Rattle.std.proofs.lemmas.Cmp.{nat_cmp_total}
use Rattle.std.specs.List.{AllByRecursion}
use Rattle.sqlite.specs.Order.{Row}
use Rattle.sqlite.specs.Tree.{Trees}
use Rattle.sqlite.specs.Effect.{Database}
use Rattle.sqlite.specs.State.{State, HasCleanDisk, Shown, Survives}
use Rattle.sqlite.proofs.StateLemmas.{survives_then}
use Rattle.cpi_codes.specs.contracts.codes.CodeOrd.TheImpl.Laws.{total-law}
use Rattle.cpi_index.specs.Series.{frozen_serial, carried_serial}
use Rattle.cpi_release.specs.declared.level.Level.{Level}
use Rattle.cpi_rows.specs.Held.{held_key}
use Rattle.cpi_rows.proofs.Held.{held_total}
use Rattle.cpi_survey.proofs.Latest.{quote_order}
use Rattle.cpi_store.proofs.Released.{release_total}
use Rattle.cpi_store.specs.declared.given.Given.{Given}
use Rattle.cpi_survey.specs.Quote.{quote_key}
use Rattle.cpi_sql_rows.specs.Steps.{is_beside}
use Rattle.cpi_sql_rows.specs.Tables.{first_schema, first_tables, office_schema}
use Rattle.cpi_sql_rows.specs.Lists.{assignment_in_row, carried_in_row, frozen_in, header_in, header_key, level_in_row}
use Rattle.cpi_sql_rows.specs.Lists.{office_in, quote_in, releases_in}
use Rattle.cpi_sql_rows.specs.Copies.{HasCopies, assignment_copy, carried_copy, frozen_copy, header_copy, level_copy}
use Rattle.cpi_sql_rows.specs.Copies.{quote_copy}
use Rattle.cpi_sql_rows.specs.FirstSchema.{first_office_in, first_releases_in}
use Rattle.cpi_sql_rows.specs.Finding.{HaveFirstRowids, HaveReleaseRowids, HaveSurveyRowids}
use Rattle.cpi_sql_rows.specs.Finding.{IsMigrated, IsMoved}
use Rattle.cpi_sql_rows.specs.Making.{second_tables}
use Rattle.cpi_sql_rows.specs.Numbered.{IsVersion, version_text}
use Rattle.cpi_sql_rows.specs.Shelf.{HasRowids}
use Rattle.cpi_sql_rows.proofs.Found.{assignments_keyed, quotes_keyed}
use Rattle.cpi_sql_rows.proofs.FoundReleases.{headers_keyed, frozen_keyed, carried_keyed, levels_keyed}
use Rattle.cpi_sql_open.specs.Stages.{RanEach, Stage, stage_of}
use Rattle.cpi_sql_open.proofs.CopiedOffice.{assignment_contents, assignments_fit, carried_contents, carried_fit}
use Rattle.cpi_sql_open.proofs.CopiedOffice.{copied_list, frozen_contents, frozen_fit, header_contents, level_contents}
use Rattle.cpi_sql_open.proofs.CopiedOffice.{levels_fit, quote_contents, quotes_fit, releases_fit}
use Rattle.cpi_sql_open.proofs.CopiedRows.{copied_rowids, each_copied, no_rowids}
use Rattle.cpi_sql_open.proofs.Frames.{IsLeft, at_tree, has_tree, left_then}
use Rattle.cpi_sql_open.proofs.Making.{Made, made_each, second_make, second_texts}
use Rattle.cpi_sql_open.proofs.Moves.{assignments, carried, clear_texts, copy_texts, frozen, levels, number_texts}
use Rattle.cpi_sql_open.proofs.Moves.{quotes, releases, steps, steps_are, tree_of}
use Rattle.cpi_sql_open.proofs.Numbered.{IsNumbered, all_there, numbered}
use Rattle.cpi_sql_open.proofs.NumberedLemmas.{first_seen}
use Rattle.cpi_sql_open.proofs.Stages.{ran_then}
use Rattle.cpi_sql_open.proofs.Steps.{AreTaken, IsReady, numbers, steps_taken, still_taken}
use Rattle.cpi_sql_open.proofs.Texts.{◌▸◌}

-- the tables that are written
abbrev written : List ℕ
written = map tree_of steps

module _ (a b : Stage) (m : Made first_schema office_schema second_tables a b) where
  -- the tables of schema 1 are as they were
  was : (n : ℕ) → has_tree first_tables n ≡ true → b.now.trees n ≡ a.now.trees n
  was n first = at_tree (λ n. b.now.trees n ≡ a.now.trees n) first_tables m.others n first

  none : (n : ℕ) → has_tree second_tables n ≡ true → b.now.trees n ≡ []
  none n second = at_tree (λ n. b.now.trees n ≡ []) second_tables m.empty n second

  -- the tables of schema 1 are read as they were, and those of schema 2 are empty
  ready : AllByRecursion (IsReady a.now.trees b.now.trees) steps
  ready =
      (was 11 refl, none 22 refl) ▸ (was 13 refl, none 24 refl) ▸ (was 15 refl, none 26 refl) ▸
      (was 16 refl, none 28 refl) ▸ (was 18 refl, none 30 refl) ▸ (was 20 refl, none 32 refl) ▸ (was 20 refl, tt) ▸
      (was 18 refl, tt) ▸ (was 16 refl, tt) ▸ (was 15 refl, tt) ▸ (was 13 refl, tt) ▸ (was 11 refl, tt) ▸ tt

  module _ (d e : Stage) (left : IsLeft written b d) (n : IsNumbered (0 ∷ 0 ∷ []) d e)
      (taken : AreTaken a.now.trees e.now.trees steps) (ids : HaveFirstRowids a.now.trees) where
    abbrev old : Trees
    old = a.now.trees

    abbrev new : Trees
    new = e.now.trees

    -- a table that no step writes
    still : (t : ℕ) → is_beside (written ++ 0 ∷ 0 ∷ []) t ≡ true → new t ≡ b.now.trees t
    still = (left_then written (0 ∷ 0 ∷ []) b d e left n.left).others

    same : (t : ℕ) → is_beside (written ++ 0 ∷ 0 ∷ []) t ≡ true → has_tree first_tables t ≡ true → new t ≡ old t
    same t other first = still t other ∙ was t first

    references : new 34 ≡ []
    references = still 34 refl ∙ none 34 refl

    survey : HaveSurveyRowids new
    survey = record {
      assignments = copied_rowids assignments (old 11) (new 22) taken.0;
      quotes = copied_rowids quotes (old 13) (new 24) taken.1.0;
      references = subst HasRowids (sym references) no_rowids;
    }

    rowids : HaveReleaseRowids new
    rowids = record {
      headers = copied_rowids releases (old 15) (new 26) taken.1.1.0;
      frozen = copied_rowids frozen (old 16) (new 28) taken.1.1.1.0;
      carried = copied_rowids carried (old 18) (new 30) taken.1.1.1.1.0;
      levels = copied_rowids levels (old 20) (new 32) taken.1.1.1.1.1.0;
    }

    copied : HasCopies old new
    copied = record {
      assignments = each_copied assignments assignments_fit (old 11) (new 22) taken.0
          (numbers (old 11) ids.survey.assignments);
      quotes = each_copied quotes quotes_fit (old 13) (new 24) taken.1.0 (numbers (old 13) ids.survey.quotes);
      headers = each_copied releases releases_fit (old 15) (new 26) taken.1.1.0
          (numbers (old 15) ids.releases.headers);
      frozen = each_copied frozen frozen_fit (old 16) (new 28) taken.1.1.1.0 (numbers (old 16) ids.releases.frozen);
      carried = each_copied carried carried_fit (old 18) (new 30) taken.1.1.1.1.0
          (numbers (old 18) ids.releases.carried);
      levels = each_copied levels levels_fit (old 20) (new 32) taken.1.1.1.1.1.0
          (numbers (old 20) ids.releases.levels);
    }

    same_releases : releases_in new ≡ first_releases_in old
    unfolding releases_in first_releases_in
    same_releases = rw (
      copied_list release_total header_key header_in header_contents header_copy (old 15) (new 26) copied.headers
          (headers_keyed new n.sound rowids.headers),
      copied_list (held_total nat_cmp_total) (held_key frozen_serial) frozen_in frozen_contents frozen_copy (old 16)
          (new 28) copied.frozen (frozen_keyed new n.sound rowids.frozen),
      copied_list (held_total nat_cmp_total) (held_key carried_serial) carried_in_row carried_contents carried_copy
          (old 18) (new 30) copied.carried (carried_keyed new n.sound rowids.carried),
      copied_list (held_total total-law) (held_key (λ (l : Level). l.code)) level_in_row level_contents level_copy
          (old 20) (new 32) copied.levels (levels_keyed new n.sound rowids.levels),
    ) refl

    office : office_in new ≡ first_office_in old
    office = rw (
      same 1 refl refl,
      same 3 refl refl,
      same 4 refl refl,
      same 6 refl refl,
      same 8 refl refl,
      same 10 refl refl,
      references,
      copied_list (held_total nat_cmp_total) (held_key (λ (g : Given). g.assignment.slot)) assignment_in_row
          assignment_contents assignment_copy (old 11) (new 22) copied.assignments
          (assignments_keyed new n.sound survey.assignments),
      copied_list (held_total quote_order) (held_key quote_key) quote_in quote_contents quote_copy (old 13) (new 24)
          copied.quotes (quotes_keyed new n.sound survey.quotes),
      same_releases,
    ) refl

    migrated : IsVersion 1 (old 0) → IsMigrated old new
    migrated one = let gone = taken.1.1.1.1.1.1 in record {
      was = one;
      tables = all_there new n.sound;
      lists = record {
        collectors = same 1 refl refl;
        outlets = same 3 refl refl;
        items = same 4 refl refl;
        nodes = same 6 refl refl;
        places = same 8 refl refl;
        calendar = same 10 refl refl;
      };
      copied = copied;
      references = references;
      office = office;
      version = n.version;
      cleared = record {
        assignments = gone.1.1.1.1.1.0 (numbers (old 11) ids.survey.assignments);
        quotes = gone.1.1.1.1.0 (numbers (old 13) ids.survey.quotes);
        headers = gone.1.1.1.0 (numbers (old 15) ids.releases.headers);
        frozen = gone.1.1.0 (numbers (old 16) ids.releases.frozen);
        carried = gone.1.0 (numbers (old 18) ids.releases.carried);
        levels = gone.0 (numbers (old 20) ids.releases.levels);
      };
    }

pub all_moved : (old new : State) (b c d : Stage) → RanEach second_texts (stage_of old) b → RanEach copy_texts b c
    → RanEach clear_texts c d → RanEach number_texts d (stage_of new) → IsTrue old.in_transaction
    → old.now.schema ≡ first_schema → IsVersion 1 (old.now.trees 0) → HaveFirstRowids old.now.trees → IsMoved old new
all_moved old new b c d makes copies clears numbers inside first one ids =
    let a = stage_of old in
    let e = stage_of new in
    let m = made_each second_texts second_tables first_schema office_schema a b second_make makes inside first in
    let done = steps_taken (copy_texts ++ clear_texts) steps a.now.trees b d steps_are refl
    (ran_then copy_texts clear_texts b c d copies clears) m.inside m.schema (ready a b m) in
    let number : d.now.trees 0 ≡ a.now.trees 0 = done.0.others 0 refl ∙ was a b m 0 refl in
    let n = numbered d e numbers done.0.inside done.0.schema (subst (IsVersion 1) (sym number) one) in
    let taken = still_taken a.now.trees steps (0 ∷ 0 ∷ []) d.now.trees e.now.trees n.left.others refl done.1 in
    record {
      schema = n.left.schema;
      migrated = migrated a b m d e done.0 n taken ids one;
      survey = survey a b m d e done.0 n taken ids;
      releases = rowids a b m d e done.0 n taken ids;
    }

-- ---- after the look at the number

-- what is moved depends only on the rows and the schema
pub moved_same : (a begun b c : State) → begun.now ≡ a.now → c.now ≡ b.now → IsMoved begun b → IsMoved a c
moved_same a begun b c start end m = record {
  schema = ap (λ (d : Database). d.schema) end ∙ m.schema;
  migrated = subst (λ (d : Database). IsMigrated a.now.trees d.trees) (sym end)
      (subst (λ (d : Database). IsMigrated d.trees b.now.trees) start m.migrated);
  survey = subst (λ (d : Database). HaveSurveyRowids d.trees) (sym end) m.survey;
  releases = subst (λ (d : Database). HaveReleaseRowids d.trees) (sym end) m.releases;
}

pub moved_seen : (a b c : State) (rows : List Row) → IsTrue a.in_transaction → a.now.schema ≡ first_schema
    → HaveFirstRowids a.now.trees → Shown version_text [] a b rows → IsVersion 1 rows
    → (IsTrue b.in_transaction → b.now.schema ≡ first_schema → IsVersion 1 (b.now.trees 0)
    → HaveFirstRowids b.now.trees → IsMoved b c)
    → IsMoved a c
moved_seen a b c rows inside first ids shown one moves =
    let seen = first_seen a b rows first shown one in
    let same : b.now ≡ a.now = seen.unchanged.0.now_is in
    let m = moves (seen.unchanged.0.mode ∙ inside) (ap (λ (d : Database). d.schema) same ∙ first)
    (subst (λ (d : Database). IsVersion 1 (d.trees 0)) (sym same) seen.version)
    (subst (λ (d : Database). HaveFirstRowids d.trees) (sym same) ids) in
    moved_same a b c c same refl m

-- ---- the end of the transaction

-- what a crash may leave of it
pub moved_survives : (a begun b c : State) → begun.now ≡ a.now → Survives a b (λ _. ⊥)
    → (HasCleanDisk b → begun.now.schema ≡ first_schema → HaveFirstRowids begun.now.trees → IsMoved begun b)
    → Survives b c (λ db. db ≡ b.now.trees)
    → Survives a c (λ db. a.now.schema ≡ first_schema → HaveFirstRowids a.now.trees → IsMigrated a.now.trees db)
moved_survives a begun b c start one done two =
    survives_then a b c _ _ _ (λ _ db no. absurd no)
    (λ clean db is first ids.
    let disk : HasCleanDisk b = omega (arith, two.clean) in
    let m = done disk (ap (λ (d : Database). d.schema) start ∙ first)
    (subst (λ (d : Database). HaveFirstRowids d.trees) (sym start) ids) in
    subst (IsMigrated a.now.trees) (sym is) (moved_same a begun b b start refl m).migrated) one two

pub unmoved_survives : (a b c : State) → Survives a b (λ _. ⊥) → Survives b c (λ _. ⊥)
    → Survives a c (λ db. a.now.schema ≡ first_schema → HaveFirstRowids a.now.trees → IsMigrated a.now.trees db)
unmoved_survives a b c one two = survives_then a b c _ _ _ (λ _ db no. absurd no) (λ _ db no. absurd no) one two
