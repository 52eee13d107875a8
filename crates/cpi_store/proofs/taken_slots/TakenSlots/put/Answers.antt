use Rattle.std.proofs.Common.{◌≡◌, ap, ◌∙◌}
use Rattle.std.specs.Map.{values_of}
use Rattle.std.specs.Ordering.{nat_cmp}
use Rattle.cpi_rows.specs.Held.{held_cmp}
use Rattle.cpi_rows.specs.Keyed.{with_row}
use Rattle.cpi_rows.proofs.Places.{put_in_order}
use Rattle.cpi_rows.proofs.ByKey.{stay_under, insert_puts}
use Rattle.cpi_store.proofs.GivenRows.{given_total}
use Rattle.cpi_store.proofs.GivenSlots.{taken_key}
use Rattle.cpi_store.proofs.taken_slots.TakenSlots.put.Goals as goal

pub invariant_of-self-2 : goal.invariant_of-self-2
invariant_of-self-2 c =
    let es = c.self.inside.rows.entries in
    let after : values_of c.insert.new.self.entries ≡ with_row (held_cmp nat_cmp) taken_key c.args.over (values_of es) =
    rw (c.in_ok-insert.ensures.entries, c.key.ensures)
    (insert_puts given_total taken_key c.args.over es c.self.invariant.under c.self.invariant.order) in
    record {
      under = rw (c.in_ok-insert.ensures.entries, c.key.ensures)
          (stay_under given_total taken_key c.args.over es c.self.invariant.under);
      order = rw after (put_in_order given_total taken_key (values_of es) c.args.over c.self.invariant.order);
    }

pub returns-clause-ok : goal.returns-clause-ok
returns-clause-ok c =
    let es = c.self.inside.rows.entries in
    let after : values_of c.insert.new.self.entries ≡ with_row (held_cmp nat_cmp) taken_key c.args.over (values_of es) =
    rw (c.in_ok-insert.ensures.entries, c.key.ensures)
    (insert_puts given_total taken_key c.args.over es c.self.invariant.under c.self.invariant.order) in
    after ∙ ap (with_row (held_cmp nat_cmp) taken_key c.args.over) c.self.view_is
