use Rattle.std.proofs.Common.{◌≡◌, sym, ap, ◌∙◌}
use Rattle.cpi_store.specs.Series.{by_series}
use Rattle.cpi_store.specs.Holders.{all_given, quotes_of_holders}
use Rattle.cpi_store.specs.Office.{stored_rows}
use Rattle.cpi_store.proofs.FrozenRows.{month_gathered}
use Rattle.cpi_store.proofs.frozen.month_rows.Goals as goal

pub returns : goal.returns
returns c = λ whole.
    let taken = c.args.taken.now in
    let hs = c.args.holders.now in
    let stored = stored_rows c.args.month (quotes_of_holders hs) (all_given taken hs) in
    let found : c.in_ok-found.found.items ≡ stored = c.in_ok-found.ensures
    ∙ sym (month_gathered c.args.month c.in_ok-ends.ends taken hs c.requires.order c.in_ok-ends.ensures whole) in
    c.in_ok-sort_by_series.ensures (rw found whole) ∙ ap by_series found
