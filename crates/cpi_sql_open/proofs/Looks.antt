-- Looks at the rows, one after the other, and what the texts of a list ask for.
use Rattle.std.proofs.Common.{◌≡◌, ℕ, List, [], ◌∷◌, drop, get_or, take, length, map, inl, inr, IsTrue, arith, ◌≤◌}
use Rattle.std.proofs.Common.{Result, Ok, Err, OnOk}
use Rattle.std.proofs.Common.{◌-◌, ◌^◌, Bool, true, false, None, nat_le, slice_get, unwrap_or, if◌then◌else◌}
use Rattle.std.proofs.Common.{refl, sym, subst}
use Rattle.std.specs.List.{AllByRecursion, AllZip}
use Rattle.sqlite.specs.Effect.{Database}
use Rattle.sqlite.specs.Order.{Row}
use Rattle.sqlite.specs.Program.{overlay}
use Rattle.sqlite.specs.Schema.{Schema}
use Rattle.sqlite.specs.State.{State, HasCleanDisk, IsLive}
use Rattle.sqlite.specs.Tree.{Trees}
use Rattle.sqlite.proofs.StateLemmas.{survives_then, survives_weaker}
use Rattle.cpi_sql_rows.specs.Finding.{AreOfYears, ArePlanRows, AreWhole, AsksRowids, AsksYears, HaveFirstRowids}
use Rattle.cpi_sql_rows.specs.Finding.{HavePlanRowids, HavePlanYears, HaveRowids, IsOfOffice, LooksOver}
use Rattle.cpi_sql_rows.specs.Read.{QueryLeaves}
use Rattle.cpi_sql_rows.specs.Shelf.{HasRowids, IsCleanBook, StaysOpen}
use Rattle.cpi_sql_rows.specs.Making.{second_tables}
use Rattle.cpi_sql_rows.specs.Numbered.{IsVersion}
use Rattle.cpi_sql_rows.specs.Tables.{first_schema, table_of_nodes, office_schema, table_of_plan_items}
use Rattle.cpi_sql_rows.specs.Tables.{table_of_version}
use Rattle.cpi_sql_rows.proofs.FoundTables.{assignment_rowids, calendar_rowids, node_years, plan_item_years}
use Rattle.cpi_sql_rows.proofs.FoundTables.{quote_rowids, reference_years, release_rowids, schema_after}
use Rattle.cpi_sql_rows.proofs.FoundTables.{frozen_rowids, carried_rowids, level_rowids, first_assignment_rowids}
use Rattle.cpi_sql_rows.proofs.FoundTables.{first_quote_rowids, first_release_rowids, first_frozen_rowids}
use Rattle.cpi_sql_rows.proofs.FoundTables.{first_carried_rowids, first_level_rowids, found_tables}
use Rattle.cpi_sql_rows.proofs.Kept.{kept_tables, kept_then}
use Rattle.cpi_sql_rows.proofs.Whole.{looked_over}
use Rattle.cpi_sql_open.specs.Looks.{AreTestsOf, AskEach, AskEachYear, Finds, FindsOffice, IsTest, Wanted}
use Rattle.cpi_sql_open.specs.Looks.{first_wanted, second_wanted}
use Rattle.cpi_sql_open.proofs.Making.{second_make, second_texts}
use Rattle.cpi_sql_open.proofs.Texts.{◌▸◌, Said, blank, said, said_more}
use Rattle.cpi_sql_open.specs.declared.inspect.TheConstants.{FIRST_PLANS, FIRST_SCANS, SECOND_PLANS, SECOND_SCANS}

pub looks_weaker : (Fits Few : Schema → Type 0) → ((s : Schema) → Few s → Fits s) → (a b : State) → LooksOver Fits a b
    → LooksOver Few a b
looks_weaker Fits Few more a b look = record {
  clean = look.clean;
  kept = λ clean alone has. look.kept clean alone (more a.now.schema has);
  crash = survives_weaker a b _ _ (λ _ db none alone has. none alone (more a.now.schema has)) look.crash;
}

-- two looks in turn, the first of which left the connection open
pub looks_on : (Fits : Schema → Type 0) (a b c : State) → LooksOver Fits a b → (HasCleanDisk b → IsTrue b.is_open)
    → LooksOver Fits b c → LooksOver Fits a c
looks_on Fits a b c one opened two = record {
  clean = λ clean. one.clean (two.clean clean);
  kept = λ clean alone has. let first = one.kept (two.clean clean) alone has in
      kept_then a b c first (two.kept clean first.alone (schema_after Fits a b first has));
  crash = survives_then a b c _ _ _ (λ _ db quiet. quiet) (λ clean db quiet alone has.
      let disk : HasCleanDisk b = omega (arith, two.crash.clean) in
      let first = one.kept (record { disk = disk; is_open = opened disk }) alone has in
      quiet first.alone (schema_after Fits a b first has)) one.crash two.crash;
}

-- a text that asks for years was asked
pub dated : (text : List ℕ) (a b : State) → QueryLeaves text [] a b → (plan : ℕ × ℕ)
    → LooksOver (λ s. AsksYears s text plan.0 plan.1) a b
dated text a b asked plan = looked_over (λ s. AsksYears s text plan.0 plan.1) text a b [] (λ asks. asks.plain) asked

-- a text that asks for rowids was asked
pub scanned : (text : List ℕ) (a b : State) → QueryLeaves text [] a b → (tree : ℕ)
    → LooksOver (λ s. AsksRowids s text tree) a b
scanned text a b asked tree = looked_over (λ s. AsksRowids s text tree) text a b [] (λ asks. asks.plain) asked

-- a statement with no tables of its own reads those of the database
pub overlay_none : (db : Trees) (tree : ℕ) → overlay db [] tree ≡ db tree
overlay_none db tree = late_or_not (nat_le (2 ^ 31) tree)
  where
    none : List (List Row)
    none = []

    late_or_not : (late : Bool) → unwrap_or (if late then slice_get none (tree - 2 ^ 31) else None) (db tree) ≡ db tree
    late_or_not true = refl
    late_or_not false = refl

-- ---- texts that are asked in turn, each for the rows of one table

module _ {X : Type 0} (Asks : Schema → List ℕ → X → Type 0) (none : X) where
  abbrev AskAll : List (List ℕ) → List X → Schema → Type 0
  AskAll texts xs schema = AllZip (Asks schema) texts xs

  -- what the first of the texts asks for, and what those after it do
  asks_first : (text : List ℕ) (texts : List (List ℕ)) (xs : List X) (s : Schema) → AskAll (text ∷ texts) xs s
      → Asks s text (get_or xs 0 none)
  asks_first text texts [] s asks = absurd asks
  asks_first text texts (x ∷ xs) s asks = asks.0

  asks_later : (text : List ℕ) (texts : List (List ℕ)) (xs : List X) (s : Schema) → AskAll (text ∷ texts) xs s
      → AskAll texts (drop 1 xs) s
  asks_later text texts [] s asks = absurd asks
  asks_later text texts (x ∷ xs) s asks = asks.1

  module _ (texts : List Said) (some : 1 ≤ length texts) (a b : State)
      (one : (x : X) → LooksOver (λ s. Asks s (get_or texts 0 blank).now x) a b) where
    abbrev later : List (List ℕ)
    later = said (take (length texts - 1) (drop 1 texts))

    pub first_asked : (xs : List X) → LooksOver (AskAll (said texts) xs) a b
    first_asked xs = subst (λ l. LooksOver (AskAll l xs) a b) (sym (said_more texts some))
        (looks_weaker _ _ (asks_first (get_or texts 0 blank).now later xs) a b (one (get_or xs 0 none)))

    module _ (c : State) (rest : (xs : List X) → LooksOver (AskAll later xs) b c) where
      pub each_asked : (HasCleanDisk b → IsTrue b.is_open) → (xs : List X) → LooksOver (AskAll (said texts) xs) a c
      each_asked opened xs = looks_on (AskAll (said texts) xs) a b c (first_asked xs) opened
          (subst (λ l. LooksOver (AskAll l xs) b c) (sym (said_more texts some))
          (looks_weaker _ _ (asks_later (get_or texts 0 blank).now later xs) b c (rest (drop 1 xs))))

      -- what is known of each table, since it was asked for
      module _ (Known : Trees → X → Type 0) where
        each_known : (xs : List X) → IsCleanBook c → a.in_transaction ≡ false
            → AskAll ((get_or texts 0 blank).now ∷ later) xs a.now.schema
            → ((x : X) → Asks a.now.schema (get_or texts 0 blank).now x → Known a.now.trees x)
            → (b.in_transaction ≡ false → (xs : List X) → AskAll later xs b.now.schema
            → AllByRecursion (Known b.now.trees) xs)
            → AllByRecursion (Known a.now.trees) xs
        each_known [] clean alone asks here more = absurd asks
        each_known (x ∷ xs) clean alone asks here more =
            let kept = (one x).kept ((rest xs).clean clean) alone asks.0 in (
              here x asks.0,
              subst (λ (d : Database). AllByRecursion (Known d.trees) xs) kept.now
                  (more kept.alone xs (schema_after (AskAll later xs) a b kept asks.1)),
            )

        pub all_known : (IsCleanBook b → (x : X) → Asks a.now.schema (get_or texts 0 blank).now x → Known a.now.trees x)
            → (IsCleanBook c → b.in_transaction ≡ false → (xs : List X) → AskAll later xs b.now.schema
            → AllByRecursion (Known b.now.trees) xs)
            → IsCleanBook c → a.in_transaction ≡ false → (xs : List X) → AskAll (said texts) xs a.now.schema
            → AllByRecursion (Known a.now.trees) xs
        all_known here more clean alone xs asks = each_known xs clean alone
            (subst (λ l. AskAll l xs a.now.schema) (said_more texts some) asks) (here ((rest []).clean clean))
            (more clean)

-- each row of the tree has a rowid of its own
abbrev pub Rise : Trees → ℕ → Type 0
Rise trees tree = HasRowids (trees tree)

-- and a year
abbrev pub AreDated : Trees → ℕ × ℕ → Type 0
AreDated trees plan = ArePlanRows plan.1 (trees plan.0)

-- what a text asks for that asks for years
abbrev pub YearsAsked : Schema → List ℕ → ℕ × ℕ → Type 0
YearsAsked schema text plan = AsksYears schema text plan.0 plan.1

-- ---- the scans of each schema

pub second_tests : AreTestsOf second_wanted second_texts (map (λ t. t.now) SECOND_SCANS) (map (λ t. t.now) SECOND_PLANS)
second_tests = record {
  tables = second_tables;
  makes = second_make;
  office = inr refl;
  asks =
      calendar_rowids office_schema (inr refl) ▸
      assignment_rowids office_schema refl ▸
      quote_rowids office_schema refl ▸
      release_rowids office_schema refl ▸
      frozen_rowids office_schema refl ▸
      carried_rowids office_schema refl ▸
      level_rowids office_schema refl ▸
      tt;
  ask_years =
      node_years office_schema (inr refl) ▸
      plan_item_years office_schema (inr refl) ▸
      reference_years office_schema refl ▸
      tt;
}

pub first_tests : AreTestsOf first_wanted [] (map (λ t. t.now) FIRST_SCANS) (map (λ t. t.now) FIRST_PLANS)
first_tests = record {
  tables = [];
  makes = refl;
  office = inl refl;
  asks =
      calendar_rowids first_schema (inl refl) ▸
      first_assignment_rowids first_schema refl ▸
      first_quote_rowids first_schema refl ▸
      first_release_rowids first_schema refl ▸
      first_frozen_rowids first_schema refl ▸
      first_carried_rowids first_schema refl ▸
      first_level_rowids first_schema refl ▸
      tt;
  ask_years = node_years first_schema (inl refl) ▸ plan_item_years first_schema (inl refl) ▸ tt;
}

pub second_rise : (trees : Trees) → AllByRecursion (Rise trees) second_wanted.trees
    → AllByRecursion (AreDated trees) second_wanted.plans → HaveRowids trees
second_rise trees rise dated = let releases = rise.1.1.1 in record {
  plans = record { nodes = dated.0.rowids; places = dated.1.0.rowids; calendar = rise.0 };
  survey = record { assignments = rise.1.0; quotes = rise.1.1.0; references = dated.1.1.0.rowids };
  releases = record {
    headers = releases.0;
    frozen = releases.1.0;
    carried = releases.1.1.0;
    levels = releases.1.1.1.0;
  };
}

second_years : (trees : Trees) → AllByRecursion (AreDated trees) second_wanted.plans → HavePlanYears trees
second_years trees dated =
    record { nodes = dated.0.years; places = dated.1.0.years; references = dated.1.1.0.years }

pub first_rise : (trees : Trees) → AllByRecursion (Rise trees) first_wanted.trees → HaveFirstRowids trees
first_rise trees rise = let releases = rise.1.1.1 in record {
  survey = record { assignments = rise.1.0; quotes = rise.1.1.0 };
  releases = record {
    headers = releases.0;
    frozen = releases.1.0;
    carried = releases.1.1.0;
    levels = releases.1.1.1.0;
  };
}

-- ---- a test of the tables

pub on_two : {A E : Type 0} (r : Result A E) (P Q R : Type 0) → OnOk r P → OnOk r Q → (P → Q → R) → OnOk r R
on_two (Ok a) P Q R h k f = f h k
on_two (Err e) P Q R h k f = tt

-- what a look leaves over a schema that fits
pub look_tests : (Fits : Schema → Type 0) (a b : State) → LooksOver Fits a b → a.in_transaction ≡ false
    → Fits a.now.schema → IsTest a b
look_tests Fits a b look alone fits = record {
  clean = look.clean;
  kept = λ clean. look.kept clean alone fits;
  crash = survives_weaker a b _ _ (λ _ db quiet. quiet alone fits) look.crash;
}

module _ (w : Wanted) (more scans years : List (List ℕ)) (is : AreTestsOf w more scans years) (a b : State)
    (alone : a.in_transaction ≡ false) (same : a.now.schema ≡ w.schema) (small : LooksOver IsOfOffice a b) where
  office : IsOfOffice a.now.schema
  office = subst IsOfOffice (sym same) is.office

  asks : AskEach scans w.trees a.now.schema
  asks = subst (AskEach scans w.trees) (sym same) is.asks

  ask_years : AskEachYear years w.plans a.now.schema
  ask_years = subst (AskEachYear years w.plans) (sym same) is.ask_years

  pub small_tests : IsTest a b
  small_tests = look_tests IsOfOffice a b small alone office

  module _ (opened : HasCleanDisk b → IsTrue b.is_open) (c : State) (dates : LooksOver (AskEachYear years w.plans) b c)
    where
      abbrev Two : Schema → Type 0
      Two s = IsOfOffice s × AskEachYear years w.plans s

      plans_look : LooksOver Two a c
      plans_look = looks_on Two a b c (looks_weaker IsOfOffice Two (λ s two. two.0) a b small) opened
          (looks_weaker (AskEachYear years w.plans) Two (λ s two. two.1) b c dates)

      pub plan_tests : IsTest a c
      plan_tests = look_tests Two a c plans_look alone (office, ask_years)

      module _ (d : State) (dated : StaysOpen b c) (scan : LooksOver (AskEach scans w.trees) c d) where
        abbrev Three : Schema → Type 0
        Three s = Two s × AskEach scans w.trees s

        still : HasCleanDisk c → IsTrue c.is_open
        still disk = dated disk (opened (omega (arith, dates.crash.clean)))

        pub all_tests : IsTest a d
        all_tests = look_tests Three a d (looks_on Three a c d
            (looks_weaker Two Three (λ s three. three.0) a c plans_look)
            still (looks_weaker (AskEach scans w.trees) Three (λ s three. three.1) c d scan)) alone
            ((office, ask_years), asks)

        -- what they find, if none failed
        pub all_finds : IsLive a
            → (IsCleanBook b → a.in_transaction ≡ false → IsOfOffice a.now.schema → AreWhole a.now.trees)
            → (IsCleanBook c → b.in_transaction ≡ false → (plans : List (ℕ × ℕ)) → AskEachYear years plans b.now.schema
            → AllByRecursion (AreDated b.now.trees) plans)
            → (IsCleanBook d → c.in_transaction ≡ false → (trees : List ℕ) → AskEach scans trees c.now.schema
            → AllByRecursion (Rise c.now.trees) trees) → StaysOpen c d → Finds w a d
        all_finds live whole known rise stays = record {
          is = same;
          live = live;
          whole = λ clean. whole (dates.clean (scan.clean clean)) alone office;
          rise = λ clean. let kept = plan_tests.kept (scan.clean clean) in
              subst (λ (db : Database). AllByRecursion (Rise db.trees) w.trees) kept.now
              (rise clean kept.alone w.trees (schema_after (AskEach scans w.trees) a c kept asks));
          years = λ clean. let kept = small_tests.kept (dates.clean (scan.clean clean)) in
              subst (λ (db : Database). AllByRecursion (AreDated db.trees) w.plans) kept.now
              (known (scan.clean clean) kept.alone w.plans
              (schema_after (AskEachYear years w.plans) a b kept ask_years));
          is_open = λ disk. stays disk (still (omega (arith, scan.crash.clean)));
        }

-- what was found of schema 2 are the tables of an office
pub second_found : (a b : State) → a.in_transaction ≡ false → IsTest a b → Finds second_wanted a b → FindsOffice a b
second_found a b alone test finds = record {
  schema = finds.is;
  tables = λ clean number. kept_tables a b (test.kept clean) (found_tables a alone finds.is (test.clean clean).is_open
      finds.live (finds.whole clean) (second_years a.now.trees (finds.years clean))
      (second_rise a.now.trees (finds.rise clean) (finds.years clean))
      (subst (λ (d : Database). IsVersion 2 (d.trees table_of_version.tree)) (test.kept clean).now number));
  whole = λ clean. subst (λ (d : Database). AreWhole d.trees) (sym (test.kept clean).now) (finds.whole clean);
  years = λ clean. subst (λ (d : Database). HavePlanYears d.trees) (sym (test.kept clean).now)
      (second_years a.now.trees (finds.years clean));
  is_open = finds.is_open;
}

-- what was found of schema 1 is so of what is there
pub record IsFound (db : Database) : Type 0 where
  pub schema : db.schema ≡ first_schema
  pub whole : AreWhole db.trees
  pub plans : HavePlanRowids db.trees
  pub rowids : HaveFirstRowids db.trees
  pub nodes : AreOfYears 1 (db.trees table_of_nodes.tree)
  pub places : AreOfYears 1 (db.trees table_of_plan_items.tree)

pub first_found : (a b : State) → IsTest a b → Finds first_wanted a b → IsCleanBook b → IsFound b.now
first_found a b test finds clean =
    let rise = finds.rise clean in
    let dated = finds.years clean in
    subst IsFound (sym (test.kept clean).now) (record {
      schema = finds.is;
      whole = finds.whole clean;
      plans = record { nodes = dated.0.rowids; places = dated.1.0.rowids; calendar = rise.0 };
      rowids = first_rise a.now.trees rise;
      nodes = dated.0.years;
      places = dated.1.0.years;
    })
