-- Statements that copy rows and take rows out, one after the other.
use Rattle.std.proofs.Common.{◌≡◌, ℕ, ◌+◌, ◌<◌, ◌&&◌, Bool, true, false, List, [], ◌∷◌, map, length, nat_lt, inl}
use Rattle.std.proofs.Common.{IsTrue, refl, sym, ap, subst, ◌∙◌, arith, get_or, suc, zero, inr}
use Rattle.std.proofs.lemmas.Bool.{and_parts, ltb-true}
use Rattle.std.specs.Cmp.{tied_itself}
use Rattle.std.specs.List.{AllByRecursion, AllZip, list_all}
use Rattle.std.specs.List.Sorted.{IsPermutation}
use Rattle.std.specs.Ordering.{is_eq}
use Rattle.sqlite.specs.declared.types.Value.TheVariants.{Null, Int}
use Rattle.sqlite.specs.Edit.{id_in, without_all, put_all, are_fresh, have_rowids}
use Rattle.sqlite.specs.Order.{Row, column, value_cmp}
use Rattle.sqlite.specs.Program.{overlay}
use Rattle.sqlite.specs.Query.{IsAnswer}
use Rattle.sqlite.specs.Table.{Table}
use Rattle.sqlite.specs.Term.{Term, col, lit}
use Rattle.sqlite.specs.Tree.{Trees, has_rowid, rowid}
use Rattle.sqlite_schema.specs.declared.schema.Constraint.TheVariants.{Datatype}
use Rattle.sqlite_trees.specs.View.{is_int}
use Rattle.sqlite_rules.specs.Calls.{ids_of}
use Rattle.sqlite_rules.specs.Lists.{Has}
use Rattle.sqlite_rules.proofs.ListLemmas.{test_has}
use Rattle.sqlite_rules.proofs.ProbeLemmas.{mapped_has}
use Rattle.sqlite_rules.proofs.RuleLemmas.{keeps_at}
use Rattle.sqlite_rules.proofs.TableLemmas.{int_is}
use Rattle.sqlite_value.proofs.OrderLemmas.{value_cmp_total}
use Rattle.cpi_sql_rows.specs.Steps.{SameBut, is_beside}
use Rattle.cpi_sql_rows.specs.Tables.{office_schema, table_of_version}
use Rattle.cpi_sql_rows.specs.Shelf.{HasRowids}
use Rattle.cpi_sql_rows.specs.Texts.{whole_query}
use Rattle.cpi_sql_rows.proofs.Distinct.{shown_all}
use Rattle.cpi_sql_rows.proofs.Reading.{Members, left_has}
use Rattle.cpi_sql_open.specs.Stages.{RanAtStage, RanEach, Stage}
use Rattle.cpi_sql_open.proofs.CopiedRows.{Copied, cells_of, copies_of, is_office_column, row_settled}
use Rattle.cpi_sql_open.proofs.Edits.{deleted, inserted}
use Rattle.cpi_sql_open.proofs.Frames.{IsLeft, left_then}
use Rattle.cpi_sql_open.proofs.Looks.{overlay_none}
use Rattle.cpi_sql_open.proofs.Moves.{IsStep, Step, clears, copies, copy_query, copy_source, source_of}
use Rattle.cpi_sql_open.proofs.Moves.{table_at, tree_of}

-- ---- each row of a table is taken out

-- the rowids are numbers
abbrev pub HaveNumbers : List Row → Type 0
HaveNumbers rows = (r : Row) → Has rows r → IsTrue (is_int (rowid r))

pub numbers : (rows : List Row) → HasRowids rows → HaveNumbers rows
unfolding HasRowids
numbers rows ids = ids.0

nothing_has : {X : Type 0} (xs : List X) → ((x : X) → Has xs x → ⊥) → xs ≡ []
nothing_has [] none = refl
nothing_has (x ∷ xs) none = absurd (none x (inl refl))

-- by the rowids that were found, which are all that there are
all_gone : (rows found : List Row) → Members [] (col 1 0 ∷ []) rows [] found → HaveNumbers rows
    → without_all rows (ids_of found) ≡ []
all_gone rows found shown ids = nothing_has (without_all rows (ids_of found)) (λ x h.
    let left = left_has (ids_of found) rows x h in
    let n = id_in (rowid x) in
    let id : Has (ids_of found) n =
    mapped_has (λ r. id_in (rowid r)) found (column x 0 ∷ []) (shown.complete x left.0 refl) in
    let hit : has_rowid n x ≡ true = subst (λ v. is_eq (value_cmp v (Int n)) ≡ true)
    (sym (int_is (rowid x) (ids x left.0))) (ap is_eq (tied_itself value_cmp_total (Int n))) in
    let no : true ≡ false = sym hit ∙ left.1 n id in
    cc)

-- ---- rows are copied

-- with no DISTINCT, no collation matters
any_collation : (tree : ℕ) (project : List Term) (db : Trees) (params : Row) (rows : List Row)
    → IsAnswer (copy_query tree project) db params rows → IsAnswer (whole_query tree [] project []) db params rows
any_collation tree project db params rows a = record {
  staged = a.staged;
  grouped = a.grouped;
  kept = a.kept;
  distinct = a.distinct;
  ordered = a.ordered;
  same = a.same;
  sorted = a.sorted;
  shown = a.shown;
}

has_at : {X : Type 0} (xs : List X) (k : ℕ) (d : X) → k < length xs → Has xs (get_or xs k d)
has_at [] k d less = absurd (omega (arith, less))
has_at (x ∷ xs) zero d less = inl refl
has_at (x ∷ xs) (suc k) d less = inr (has_at xs k d (omega (arith, less)))

-- each column of the office is strict, and holds whole numbers or texts
all_usual : list_all (λ (t : Table). list_all is_office_column t.columns) office_schema.tables ≡ true
all_usual = refl

-- ---- one step

-- the tables are there, and a copy isn't made within one table
abbrev pub is_good : Step → Bool
is_good (copies m) = nat_lt (m.at + 6) 20 && is_beside (tree_of (copies m) ∷ []) (source_of (copies m))
is_good (clears at) = nat_lt at 20

-- what a step asks of the rows of its table
abbrev pub Before : Step → List Row → Type 0
Before (copies m) rows = rows ≡ []
Before (clears at) rows = Unit {0}

-- what it makes of the rows that it reads
abbrev pub After : Step → List Row → List Row → Type 0
After (copies m) old new = Copied m old new
After (clears at) old new = HaveNumbers old → new ≡ []

pub step_taken : (text : List ℕ) (s : Step) → IsStep text s → is_good s ≡ true → (old new : Stage) → RanAtStage
    text old new
    → IsTrue old.in_transaction → old.now.schema ≡ office_schema → Before s (old.now.trees (tree_of s))
    → IsLeft (tree_of s ∷ []) old new × After s (old.now.trees (source_of s)) (new.now.trees (tree_of s))
step_taken text (copies m) is good old new ran inside has empty =
    let parts = and_parts _ _ good in
    let less : m.at + 6 < 20 = ltb-true (m.at + 6) 20 parts.0 in
    let early : m.at < 20 = omega arith in
    let it = inserted (m.at + 6) less text old new inside has (copy_source m) is ran in
    let from = source_of (copies m) in
    let old_table = table_at m.at in
    let there : Has office_schema.tables old_table = has_at office_schema.tables m.at table_of_version early in
    let kept : new.now.trees from ≡ old.now.trees from = it.2.left.others from parts.1 in
    let news = subst (λ l. (new.now.trees (tree_of (copies m)) ≡ put_all l (copies_of m l it.0))
    × (have_rowids (copies_of m l it.0) ≡ true) × (are_fresh l (copies_of m l it.0) ≡ true)) empty
    (it.2.applied.rows, it.2.applied.keyed, it.2.applied.fresh) in (
      it.2.left,
      record {
        sources = it.0;
        each = subst (λ l. IsPermutation (map (λ r. Null ∷ cells_of m r) l) it.0) (overlay_none old.now.trees from)
            (shown_all from (lit Null ∷ m.cells) [] (overlay old.now.trees []) [] it.0
            (any_collation from (lit Null ∷ m.cells) (overlay old.now.trees []) [] it.0 (it.1.answer Null)));
        rows = news.0;
        keyed = news.1;
        fresh = news.2;
        settled = λ r h. row_settled old_table.key old_table.columns r
            (test_has (λ (t : Table). list_all is_office_column t.columns) office_schema.tables old_table all_usual
            there)
            (and_parts _ _ (keeps_at Datatype office_schema new.now.trees old_table r
            (it.2.sound.obeys.rules Datatype) there (subst (λ l. Has l r) (sym kept) h))).0;
      },
    )
step_taken text (clears at) is good old new ran inside has empty =
    let it = deleted at (ltb-true at 20 good) text old new inside has is ran in
    (it.2.left, λ ids. it.2.applied.rows ∙ all_gone (old.now.trees (tree_of (clears at))) it.0 it.1 ids)

-- ---- steps in turn

-- no step writes what a later one reads or writes
abbrev pub are_apart : List Step → Bool
are_apart [] = true
are_apart (s ∷ ss) =
    is_good s && (is_beside (map tree_of ss) (tree_of s)
    && (list_all (λ t. is_beside (tree_of s ∷ []) (tree_of t) && is_beside (tree_of s ∷ []) (source_of t)) ss
    && are_apart ss))

-- the step reads the rows that were there first, and may write its table
abbrev pub IsReady : Trees → Trees → Step → Type 0
IsReady first db s = (db (source_of s) ≡ first (source_of s)) × Before s (db (tree_of s))

still_ready : (first : Trees) (n : ℕ) (ss : List Step) (a b : Trees) → SameBut (n ∷ []) a b
    → list_all (λ t. is_beside (n ∷ []) (tree_of t) && is_beside (n ∷ []) (source_of t)) ss ≡ true
    → AllByRecursion (IsReady first a) ss → AllByRecursion (IsReady first b) ss
still_ready first n [] a b kept apart ready = tt
still_ready first n (s ∷ ss) a b kept apart ready =
    let parts = and_parts _ _ apart in
    let both = and_parts _ _ parts.0 in (
      (kept (source_of s) both.1 ∙ ready.0.0, subst (Before s) (sym (kept (tree_of s) both.0)) ready.0.1),
      still_ready first n ss a b kept parts.1 ready.1,
    )

-- each step made of the rows that were there first what it makes of rows
abbrev pub AreTaken : Trees → Trees → List Step → Type 0
AreTaken first db ss = AllByRecursion (λ s. After s (first (source_of s)) (db (tree_of s))) ss

pub steps_taken : (texts : List (List ℕ)) (ss : List Step) (first : Trees) (a b : Stage) → AllZip IsStep texts ss
    → are_apart ss ≡ true → RanEach texts a b → IsTrue a.in_transaction → a.now.schema ≡ office_schema
    → AllByRecursion (IsReady first a.now.trees) ss → IsLeft (map tree_of ss) a b × AreTaken first b.now.trees ss
steps_taken [] [] first a b each apart ran inside has ready =
    (subst (IsLeft [] a) ran (record { inside = inside; schema = has; others = λ n other. refl }), tt)
steps_taken [] (s ∷ ss) first a b each apart ran inside has ready = absurd each
steps_taken (text ∷ texts) [] first a b each apart ran inside has ready = absurd each
steps_taken (text ∷ texts) (s ∷ ss) first a b each apart ran inside has ready =
    let good = and_parts _ _ apart in
    let other = and_parts _ _ good.1 in
    let later = and_parts _ _ other.1 in
    let mid = ran.0 in
    let one = step_taken text s each.0 good.0 a mid ran.1 inside has ready.0.1 in
    let rest = steps_taken texts ss first mid b each.1 later.1 ran.2 one.0.inside one.0.schema
    (still_ready first (tree_of s) ss a.now.trees mid.now.trees one.0.others later.0 ready.1) in
    let read = subst (λ l. After s l (mid.now.trees (tree_of s))) ready.0.0 one.1 in (
      left_then (tree_of s ∷ []) (map tree_of ss) a mid b one.0 rest.0,
      (
        subst (After s (first (source_of s))) (sym (rest.0.others (tree_of s) other.0)) read,
        rest.1,
      ),
    )

-- which holds after a statement that writes none of these tables
pub still_taken : (first : Trees) (ss : List Step) (trees : List ℕ) (a b : Trees) → SameBut trees a b
    → list_all (λ s. is_beside trees (tree_of s)) ss ≡ true → AreTaken first a ss → AreTaken first b ss
still_taken first [] trees a b kept apart taken = tt
still_taken first (s ∷ ss) trees a b kept apart taken =
    let parts = and_parts _ _ apart in (
      subst (After s (first (source_of s))) (sym (kept (tree_of s) parts.0)) taken.0,
      still_taken first ss trees a b kept parts.1 taken.1,
    )
