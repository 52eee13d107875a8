use Rattle.std.proofs.Common.{◌≡◌, arith, rules, subst}
use Rattle.sqlite.proofs.StateLemmas.{survives_then}
use Rattle.sqlite.specs.Effect.{Database}
use Rattle.sqlite.specs.Held.{state}
use Rattle.sqlite.specs.State.{State, HasCleanDisk, Survives}
use Rattle.cpi_sql_rows.specs.Finding.{HaveFirstRowids, IsMigrated}
use Rattle.cpi_sql_rows.specs.Making.{IsOfficeDatabase}
use Rattle.cpi_sql_rows.specs.Shelf.{IsCleanBook}
use Rattle.cpi_sql_rows.specs.Tables.{first_schema}
use Rattle.cpi_sql_rows.proofs.FoundTables.{moved_database, moved_tables, moved_whole, moved_years}
use Rattle.cpi_sql_open.specs.Looks.{Finds, IsTest, first_wanted}
use Rattle.cpi_sql_open.proofs.Looks.{first_found}
use Rattle.cpi_sql_open.proofs.open.migrate_first.Goals as goal

pub returns-clause-ready : goal.returns-clause-ready
returns-clause-ready g c = λ clean.
    let tested = state g.S.Store c.test_first.new.conn in
    let found = first_found (state g.S.Store c.args.conn.now) tested c.test_first.ensures.test
    c.in_ok-test_first.ensures.found (c.migrate.ensures.clean clean) in
    moved_tables tested (state g.S.Store c.migrate.new.conn) c.migrate.ensures.alone clean.is_open (search rules)
    found.whole found.nodes found.places found.plans
    (c.in_ok-migrate.ensures.moved clean.disk found.schema found.rowids)

pub returns-clause-whole : goal.returns-clause-whole
returns-clause-whole g c = λ clean.
    let tested = state g.S.Store c.test_first.new.conn in
    let found = first_found (state g.S.Store c.args.conn.now) tested c.test_first.ensures.test
    c.in_ok-test_first.ensures.found (c.migrate.ensures.clean clean) in
    moved_whole tested.now.trees (state g.S.Store c.migrate.new.conn).now.trees
    (c.in_ok-migrate.ensures.moved clean.disk found.schema found.rowids).migrated.lists found.whole

pub returns-clause-years : goal.returns-clause-years
returns-clause-years g c = λ clean.
    let tested = state g.S.Store c.test_first.new.conn in
    let found = first_found (state g.S.Store c.args.conn.now) tested c.test_first.ensures.test
    c.in_ok-test_first.ensures.found (c.migrate.ensures.clean clean) in
    moved_years tested.now.trees (state g.S.Store c.migrate.new.conn).now.trees found.nodes found.places
    (c.in_ok-migrate.ensures.moved clean.disk found.schema found.rowids).migrated

pub returns-clause-migrated : goal.returns-clause-migrated
returns-clause-migrated g c = λ clean.
    let test = c.test_first.ensures.test in
    let tested = c.migrate.ensures.clean clean in
    let found = first_found (state g.S.Store c.args.conn.now) (state g.S.Store c.test_first.new.conn) test
    c.in_ok-test_first.ensures.found tested in
    let moved = c.in_ok-migrate.ensures.moved clean.disk found.schema found.rowids in (
      c.in_ok-test_first.ensures.found.is,
      subst (λ (d : Database). IsMigrated d.trees (state g.S.Store c.migrate.new.conn).now.trees)
          (test.kept tested).now moved.migrated,
    )

-- a crash leaves the tables that were tested, or the migrated ones
leaves : (a b c : State) → IsTest a b → Finds first_wanted a b
    → Survives b c (λ db. b.now.schema ≡ first_schema → HaveFirstRowids b.now.trees → IsMigrated b.now.trees db)
    → Survives a c (λ db. IsCleanBook a
    × (IsOfficeDatabase db × ((a.now.schema ≡ first_schema) × IsMigrated a.now.trees db)))
leaves a b c test finds moves = survives_then a b c _ _ _ (λ _ db none. absurd none) (λ clean db may.
    let disk : HasCleanDisk b = omega (arith, moves.clean, clean) in
    let tested : IsCleanBook b = record { disk = disk; is_open = finds.is_open disk } in
    let found = first_found a b test finds tested in
    let moved = may found.schema found.rowids in (
      test.clean tested,
      (
        moved_database b.now.trees db found.whole found.nodes found.places moved,
        (finds.is, subst (λ (d : Database). IsMigrated d.trees db) (test.kept tested).now moved),
      ),
    )) test.crash moves

pub returns-in_err-migrate-clause-crash : goal.returns-in_err-migrate-clause-crash
returns-in_err-migrate-clause-crash g c =
    leaves (state g.S.Store c.args.conn.now) (state g.S.Store c.test_first.new.conn)
    (state g.S.Store c.migrate.new.conn) c.test_first.ensures.test c.in_ok-test_first.ensures.found
    c.migrate.ensures.crash

pub returns-clause-crash : goal.returns-clause-crash
returns-clause-crash g c =
    leaves (state g.S.Store c.args.conn.now) (state g.S.Store c.test_first.new.conn)
    (state g.S.Store c.migrate.new.conn) c.test_first.ensures.test c.in_ok-test_first.ensures.found
    c.migrate.ensures.crash
