use Rattle.std.proofs.Common.{◌≡◌}
use Rattle.sqlite.specs.Held.{state}
use Rattle.cpi_sql_rows.specs.HeldTables.{carried_table, frozen_table}
use Rattle.cpi_sql_rows.specs.Lists.{headers_in}
use Rattle.cpi_sql_reads.specs.ReleaseLists.{AreListsOf, IsLatest}
use Rattle.cpi_sql_reads.proofs.Looking.{later, looks_both, looks_refused}
use Rattle.cpi_sql_reads.proofs.groups.earlier_lists.Goals as goal

pub returns-in_err-link_carried-clause-look : goal.returns-in_err-link_carried-clause-look
returns-in_err-link_carried-clause-look g c =
    looks_refused c.in_ok-last_carried.ensures.look c.from_residual-in_err-link_carried.result
    c.latest_list.ensures.look c.from_residual-in_err-link_carried.ensures.0

pub returns-in_err-link_frozen-clause-look : goal.returns-in_err-link_frozen-clause-look
returns-in_err-link_frozen-clause-look g c =
    looks_refused (looks_both c.in_ok-last_carried.ensures.look c.in_ok-link_carried.ensures.look)
    c.from_residual-in_err-link_frozen.result c.latest_list-2.ensures.look c.from_residual-in_err-link_frozen.ensures.0

pub returns-clause-look : goal.returns-clause-look
returns-clause-look g c =
    looks_both (looks_both c.in_ok-last_carried.ensures.look c.in_ok-link_carried.ensures.look)
    c.in_ok-link_frozen.ensures.look

pub returns-in_err-link_carried-clause-left : goal.returns-in_err-link_carried-clause-left
returns-in_err-link_carried-clause-left g c = λ trees cached.
    let last = c.in_ok-last_carried.ensures.left trees cached in record {
      frozen = last.frozen;
      carried = c.in_err-link_carried.ensures.left trees last.carried;
      levels = last.levels;
    }

pub returns-in_err-link_frozen-clause-left : goal.returns-in_err-link_frozen-clause-left
returns-in_err-link_frozen-clause-left g c = λ trees cached.
    let last = c.in_ok-last_carried.ensures.left trees cached in record {
      frozen = c.in_err-link_frozen.ensures.left trees last.frozen;
      carried = c.in_ok-link_carried.ensures.left trees last.carried;
      levels = last.levels;
    }

pub returns-clause-left : goal.returns-clause-left
returns-clause-left g c = λ trees cached.
    let last = c.in_ok-last_carried.ensures.left trees cached in record {
      frozen = c.in_ok-link_frozen.ensures.left trees last.frozen;
      carried = c.in_ok-link_carried.ensures.left trees last.carried;
      levels = last.levels;
    }

pub returns-clause-read : goal.returns-clause-read
returns-clause-read g c = λ clean has is cached.
    let trees = (state g.S.Store c.args.conn.now).now.trees in
    let one = c.in_ok-last_carried.ensures.look in
    let two = c.in_ok-link_carried.ensures.look in
    let three = c.in_ok-link_frozen.ensures.look in
    let last = c.in_ok-last_carried.ensures.left trees cached in
    let second = three.still.clean clean in
    let first = two.still.clean second in record {
      link_carried = later one (λ t. c.args.headers.now ≡ headers_in (t 26)
          → AreListsOf carried_table (λ r. r.carried) t c.carried_before.new.lists.carried.items
          → IsLatest carried_table (λ r. r.carried) t c.args.link c.in_ok-link_carried.link_carried)
          two c.in_ok-link_carried.ensures.read second has is last.carried;
      link_frozen = later (looks_both one two) (λ t. c.args.headers.now ≡ headers_in (t 26)
          → AreListsOf frozen_table (λ r. r.frozen) t c.carried_before.new.lists.frozen.items
          → IsLatest frozen_table (λ r. r.frozen) t c.args.link c.in_ok-link_frozen.link_frozen)
          three c.in_ok-link_frozen.ensures.read clean has is last.frozen;
      last_carried = c.in_ok-last_carried.ensures.read first has is cached;
    }
