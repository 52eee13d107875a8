use Rattle.std.proofs.Common.{◌≡◌, ◌∙◌, Some, rules, refl, sym, subst}
use Rattle.sqlite.specs.Held.{state}
use Rattle.sqlite.specs.State.{State}
use Rattle.cpi_release.specs.declared.release.Release.{Release}
use Rattle.cpi_store.specs.Office.{Freezes}
use Rattle.cpi_sql_rows.proofs.FoundTables.{on_ok_implies}
use Rattle.cpi_sql_rows.specs.Lists.{month_at, office_in}
use Rattle.cpi_sql_rows.specs.Shelf.{HasRowids, HasTables}
use Rattle.cpi_sql_rows.specs.Steps.{outside}
use Rattle.cpi_sql_writes.specs.Rest.{MakesOnly}
use Rattle.cpi_sql_writes.specs.ReleaseSteps.{IsNewRevision, ListsStand}
use Rattle.cpi_sql_writes.specs.Within.{ChangesOffice, LeavesTables, Within}
use Rattle.cpi_sql_writes.proofs.ReleaseOffice.{release_put}
use Rattle.cpi_sql_writes.proofs.Withins.{clean_before, inside_then, on_given, within_as}
use Rattle.cpi_sql_writes.proofs.releases.ReleaseOneChange.write.Goals as goal

-- the change of the office, and what it leaves
abbrev Both : Release → State → State → Type 0
Both r old new = MakesOnly (Freezes r) (outside old) (outside new) × ListsStand r new.now.trees

-- where it is new
abbrev Puts : Release → State → State → Type 0
Puts r old new = IsNewRevision r (office_in old.now.trees) → HasTables (outside old) → Both r old new

put : (g : _) (c : goal.After-replace-3 g) → Within (state g.S.Store c.args.tx.now.conn.now)
    (state g.S.Store c.replace-3.new.tx.conn.now) c.replace-3.result (Puts c.args.self.now)
put g c =
    let r = c.args.self.now in
    let result = c.replace-3.result in
    let numbers = c.numbers_of-numbers.result in
    let is : month_at numbers.month ≡ Some r.month = c.numbers_of-numbers.ensures.month in
    let a = state g.S.Store c.args.tx.now.conn.now in
    let b = state g.S.Store c.add_header.new.tx.conn.now in
    let d = state g.S.Store c.replace.new.tx.conn.now in
    let e = state g.S.Store c.replace-2.new.tx.conn.now in
    let f = state g.S.Store c.replace-3.new.tx.conn.now in
    let header = c.in_ok-add_header.ensures.added in
    let frozen = c.in_ok-replace.ensures.replaced in
    let carried = c.in_ok-replace-2.ensures.replaced in
    let levels = c.replace-3.ensures.replaced in
    let late = inside_then {R = Unit {0}} d e f carried levels (λ _ _ _. tt) in
    inside_then a b f header (inside_then {R = Unit {0}} b d f frozen late (λ _ _ _. tt)) (λ clean_b clean inside.
    on_given result _ _ (λ none. on_given result (HasTables (outside a)) (Both r a f) (λ has.
    let one = header.step clean_b inside has.schema is c.numbers_of-numbers.ensures.range in
    let frozen_ids = subst HasRowids (sym (one.others 28 refl)) has.releases.frozen_ids in
    let two = frozen.step (clean_before d f late clean) one.inside
    (record { schema = one.schema; rowids = frozen_ids }) in
    let carried_ids = subst HasRowids (sym (two.others 30 refl ∙ one.others 30 refl)) has.releases.carried_ids in
    let three = carried.step (clean_before e f levels clean) two.inside
    (record { schema = two.schema; rowids = carried_ids }) in
    let level_ids = subst HasRowids (sym (three.others 32 refl ∙ two.others 32 refl ∙ one.others 32 refl))
    has.releases.level_ids in
    on_ok_implies result _ _ (levels.step clean three.inside) (λ four.
    release_put r (c.fits_tables.ensures (search rules)) numbers.month numbers.revision is
    c.numbers_of-numbers.ensures.revision c.as_slice.result.now c.as_slice-2.result.now c.as_slice-3.result.now
    c.as_slice.ensures c.as_slice-2.ensures c.as_slice-3.ensures a b d e f has none one two three
    (four (record { schema = three.schema; rowids = level_ids }))))))

pub returns-clause-written : goal.returns-clause-written
returns-clause-written g c =
    let r = c.args.self.now in
    within_as _ _ c.replace-3.result (Puts r)
    (λ old new. IsNewRevision r (office_in old.now.trees) → ChangesOffice (Freezes r) old new) (put g c)
    (λ _ both none has. (both none has).0)

pub returns-clause-left : goal.returns-clause-left
returns-clause-left g c =
    let r = c.args.self.now in
    within_as _ _ c.replace-3.result (Puts r)
    (λ old new. IsNewRevision r (office_in old.now.trees) → LeavesTables (ListsStand r) old new) (put g c)
    (λ _ both none has. (both none has).1)
