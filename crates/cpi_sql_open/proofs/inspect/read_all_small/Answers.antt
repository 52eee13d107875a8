use Rattle.std.proofs.Common.{subst}
use Rattle.std.specs.Ordering.{nat_cmp}
use Rattle.sqlite.specs.Held.{state}
use Rattle.sqlite.specs.Effect.{Database}
use Rattle.cpi_sql_rows.specs.Finding.{IsOfOffice}
use Rattle.cpi_sql_rows.specs.Lists.{outlet_in, item_in, calendar_in}
use Rattle.cpi_sql_rows.specs.Shelf.{IsWhole}
use Rattle.cpi_sql_rows.proofs.Kept.{kept_then}
use Rattle.cpi_sql_rows.proofs.FoundTables.{schema_after}
use Rattle.cpi_sql_open.proofs.Looks.{looks_on}
use Rattle.cpi_sql_open.proofs.inspect.read_all_small.Goals as goal

pub returns-in_err-_outlets-clause-look : goal.returns-in_err-_outlets-clause-look
returns-in_err-_outlets-clause-look g c = looks_on IsOfOffice _ (state g.S.Store c.read_all.new.conn) _
    c.read_all.ensures.found c.in_ok-_registrations.ensures.open c.read_all-2.ensures.found

pub returns-in_err-_items-clause-look : goal.returns-in_err-_items-clause-look
returns-in_err-_items-clause-look g c = looks_on IsOfOffice _ (state g.S.Store c.read_all-2.new.conn) _
    (looks_on IsOfOffice _ (state g.S.Store c.read_all.new.conn) _
    c.read_all.ensures.found c.in_ok-_registrations.ensures.open c.read_all-2.ensures.found)
    c.in_ok-_outlets.ensures.open c.read_all-3.ensures.found

pub returns-in_err-_calendar-clause-look : goal.returns-in_err-_calendar-clause-look
returns-in_err-_calendar-clause-look g c = looks_on IsOfOffice _ (state g.S.Store c.read_all-3.new.conn) _
    (looks_on IsOfOffice _ (state g.S.Store c.read_all-2.new.conn) _
    (looks_on IsOfOffice _ (state g.S.Store c.read_all.new.conn) _
    c.read_all.ensures.found c.in_ok-_registrations.ensures.open c.read_all-2.ensures.found)
    c.in_ok-_outlets.ensures.open c.read_all-3.ensures.found) c.in_ok-_items.ensures.open c.read_all-4.ensures.found

pub returns-clause-look : goal.returns-clause-look
returns-clause-look g c = looks_on IsOfOffice _ (state g.S.Store c.read_all-3.new.conn) _
    (looks_on IsOfOffice _ (state g.S.Store c.read_all-2.new.conn) _
    (looks_on IsOfOffice _ (state g.S.Store c.read_all.new.conn) _
    c.read_all.ensures.found c.in_ok-_registrations.ensures.open c.read_all-2.ensures.found)
    c.in_ok-_outlets.ensures.open c.read_all-3.ensures.found) c.in_ok-_items.ensures.open c.read_all-4.ensures.found

pub returns-clause-whole : goal.returns-clause-whole
returns-clause-whole g c = λ clean alone has.
    let start = state g.S.Store c.args.conn.now in
    let s_1 = state g.S.Store c.read_all.new.conn in
    let s_2 = state g.S.Store c.read_all-2.new.conn in
    let s_3 = state g.S.Store c.read_all-3.new.conn in
    let clean_3 = c.read_all-4.ensures.found.clean clean in
    let clean_2 = c.read_all-3.ensures.found.clean clean_3 in
    let clean_1 = c.read_all-2.ensures.found.clean clean_2 in
    let kept_1 = c.read_all.ensures.found.kept clean_1 alone has in
    let has_1 = schema_after IsOfOffice start s_1 kept_1 has in
    let kept_2 = c.read_all-2.ensures.found.kept clean_2 kept_1.alone has_1 in
    let has_2 = schema_after IsOfOffice s_1 s_2 kept_2 has_1 in
    let both_2 = kept_then start s_1 s_2 kept_1 kept_2 in
    let kept_3 = c.read_all-3.ensures.found.kept clean_3 kept_2.alone has_2 in
    let has_3 = schema_after IsOfOffice s_2 s_3 kept_3 has_2 in
    let both_3 = kept_then start s_2 s_3 both_2 kept_3 in
    record {
      collectors = c.in_ok-_registrations.ensures.whole clean_1 has;
      outlets = subst (λ (d : Database). IsWhole nat_cmp (λ u. u.number) outlet_in (d.trees 3)) kept_1.now
          (c.in_ok-_outlets.ensures.whole clean_2 has_1);
      items = subst (λ (d : Database). IsWhole nat_cmp (λ i. i.code) item_in (d.trees 4)) both_2.now
          (c.in_ok-_items.ensures.whole clean_3 has_2);
      calendar = subst (λ (d : Database). IsWhole nat_cmp (λ r. r.month) calendar_in (d.trees 10)) both_3.now
          (c.in_ok-_calendar.ensures.whole clean has_3);
    }
