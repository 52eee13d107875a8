use Rattle.std.proofs.Common.{◌≡◌, ℕ, List, map, None, sym, ap, ◌∙◌, subst}
use Rattle.std.specs.BTreeMap.{insert_entry, is_at}
use Rattle.std.specs.List.{AllByRecursion}
use Rattle.std.specs.Map.{lookup, remove_entry, values_of}
use Rattle.std.specs.Ordering.{nat_cmp}
use Rattle.cpi_rows.specs.ByKey.{AreUnderKeys}
use Rattle.cpi_rows.specs.Held.{held_by, held_cmp}
use Rattle.cpi_rows.specs.Keyed.{IsInOrder, row_at, row_by_number, with_row}
use Rattle.cpi_survey.specs.declared.assignment.Assignment.{Assignment}
use Rattle.cpi_rows.proofs.ByKey.{insert_puts, lookup_row, stay_under}
use Rattle.cpi_rows.proofs.Places.{put_in_order}
use Rattle.cpi_store.proofs.GivenRows.{given_total}
use Rattle.cpi_store.proofs.GivenSlots.{none_taken, taken_key}
use Rattle.cpi_store.proofs.HandedOver.{given_handed, taken_given}
use Rattle.cpi_store.proofs.TakenOut.{taken_out}
use Rattle.cpi_store.specs.Holders.{IsGiven, all_assignments, all_given}
use Rattle.cpi_store.specs.Series.{given_in}
use Rattle.cpi_store.specs.declared.series_move.SeriesMove.{SeriesMove}
use Rattle.cpi_store.specs.declared.taken_over.TakenOver.{TakenOver}
use Rattle.cpi_store.proofs.taken_slots.TakenSlots.hand_over.Goals as goal

abbrev new_over : SeriesMove → TakenOver
new_over h = record { collector = h.taker.number; slot = h.assigned.assignment.slot; series = h.ended.series }

abbrev Entries : Type 0
Entries = List ((ℕ × ℕ) × TakenOver)

-- the new slot is put among those that took a series over, under its key
entered : (over : TakenOver) (k : ℕ × ℕ) (v : TakenOver) (es new : Entries) → k ≡ taken_key over → v ≡ over →
    new ≡ insert_entry (held_cmp nat_cmp) es k v → AreUnderKeys (held_cmp nat_cmp) taken_key es →
    IsInOrder (held_cmp nat_cmp) taken_key (values_of es) →
    AreUnderKeys (held_cmp nat_cmp) taken_key new
    × (values_of new ≡ with_row (held_cmp nat_cmp) taken_key over (values_of es))
entered over k v es new is same put under order = rw (put, is, same)
    (stay_under given_total taken_key over es under, insert_puts given_total taken_key over es under order)

-- it is taken out again
left : (over : TakenOver) (k : ℕ × ℕ) (v : TakenOver) (es new back : Entries) → k ≡ taken_key over →
    new ≡ insert_entry (held_cmp nat_cmp) es k v → back ≡ remove_entry (is_at (held_cmp nat_cmp k)) new →
    lookup (is_at (held_cmp nat_cmp (taken_key over))) es ≡ None → back ≡ es
left over k v es new back is put out none = out ∙ ap (remove_entry (is_at (held_cmp nat_cmp k))) put
    ∙ taken_out given_total k v es (subst (λ q. lookup (is_at (held_cmp nat_cmp q)) es ≡ None) (sym is) none)

-- the entries after a handover
stored : (c : goal.In-Ok) → AreUnderKeys (held_cmp nat_cmp) taken_key c.insert.new.self.entries
    × (values_of c.insert.new.self.entries
    ≡ with_row (held_cmp nat_cmp) taken_key (new_over c.args.handover) (values_of c.self.inside.rows.entries))
stored c = entered (new_over c.args.handover) c.key-key.result c.of-over.result c.self.inside.rows.entries
    c.insert.new.self.entries (c.key-key.ensures ∙ ap taken_key c.of-over.ensures) c.of-over.ensures
    c.in_ok-insert.ensures.entries c.self.invariant.under c.self.invariant.order

-- the entries after one that was refused
refused : (h : SeriesMove) (k : ℕ × ℕ) (v : TakenOver) (es new back : Entries) (taken : List TakenOver)
    (rows : List (ℕ × Assignment)) → k ≡ taken_key (new_over h) → new ≡ insert_entry (held_cmp nat_cmp) es k v →
    back ≡ remove_entry (is_at (held_cmp nat_cmp k)) new → AreUnderKeys (held_cmp nat_cmp) taken_key es →
    values_of es ≡ taken →
    row_by_number (λ a. a.slot) h.assigned.assignment.slot (held_by h.taker.number rows) ≡ None →
    AllByRecursion (IsGiven rows) taken → back ≡ es
refused h k v es new back taken rows is put out under shown free given =
    let key = taken_key (new_over h) in
    left (new_over h) k v es new back is put out
    (lookup_row given_total taken_key key es under ∙ ap (row_at (held_cmp nat_cmp) taken_key key) shown
    ∙ none_taken h.taker.number h.assigned.assignment.slot rows free taken given)

pub invariant_of-self-in-Ok : goal.invariant_of-self-in-Ok
invariant_of-self-in-Ok c = record {
  under = (stored c).0;
  order = subst (IsInOrder (held_cmp nat_cmp) taken_key) (sym (stored c).1)
      (put_in_order given_total taken_key (values_of c.self.inside.rows.entries) (new_over c.args.handover)
      c.self.invariant.order);
}

pub invariant_of-self-in-Err : goal.invariant_of-self-in-Err
invariant_of-self-in-Err c =
    let same = refused c.args.handover c.key-key.result c.of-over.result c.self.inside.rows.entries
    c.insert.new.self.entries c.remove.new.self.entries c.args.self.now (all_assignments c.args.holders.now.items)
    (c.key-key.ensures ∙ ap taken_key c.of-over.ensures) c.in_ok-insert.ensures.entries c.remove.ensures.entries
    c.self.invariant.under c.self.view_is c.requires.new c.requires.given in
    record {
      under = subst (AreUnderKeys (held_cmp nat_cmp) taken_key) (sym same) c.self.invariant.under;
      order = subst (λ es. IsInOrder (held_cmp nat_cmp) taken_key (values_of es)) (sym same) c.self.invariant.order;
    }

pub returns-in-Ok-clause-ok : goal.returns-in-Ok-clause-ok
returns-in-Ok-clause-ok c =
    let over = new_over c.args.handover in
    let taken = c.args.self.now in
    let rows = all_assignments c.args.holders.now.items in
    let sorted = subst (IsInOrder (held_cmp nat_cmp) taken_key) c.self.view_is c.self.invariant.order in
    let put : values_of c.insert.new.self.entries ≡ with_row (held_cmp nat_cmp) taken_key over taken =
    (stored c).1 ∙ ap (with_row (held_cmp nat_cmp) taken_key over) c.self.view_is in
    ap (λ ts. all_given ts c.pass_on.new.holders.items) put
    ∙ ap (map (given_in (with_row (held_cmp nat_cmp) taken_key over taken))) c.in-Ok.ensures.ok
    ∙ given_handed c.args.handover taken sorted rows c.requires.stands c.requires.new

pub returns-in-Ok-clause-given : goal.returns-in-Ok-clause-given
returns-in-Ok-clause-given c =
    let over = new_over c.args.handover in
    let taken = c.args.self.now in
    let rows = all_assignments c.args.holders.now.items in
    let sorted = subst (IsInOrder (held_cmp nat_cmp) taken_key) c.self.view_is c.self.invariant.order in
    let put : values_of c.insert.new.self.entries ≡ with_row (held_cmp nat_cmp) taken_key over taken =
    (stored c).1 ∙ ap (with_row (held_cmp nat_cmp) taken_key over) c.self.view_is in
    subst (AllByRecursion (IsGiven (all_assignments c.pass_on.new.holders.items))) (sym put)
    (subst (λ rows. AllByRecursion (IsGiven rows) (with_row (held_cmp nat_cmp) taken_key over taken))
    (sym c.in-Ok.ensures.ok)
    (taken_given c.args.handover taken sorted rows c.requires.stands c.requires.new c.requires.given))

pub returns-in-Err-clause-err_taken : goal.returns-in-Err-clause-err_taken
returns-in-Err-clause-err_taken c =
    ap values_of (refused c.args.handover c.key-key.result c.of-over.result c.self.inside.rows.entries
    c.insert.new.self.entries c.remove.new.self.entries c.args.self.now (all_assignments c.args.holders.now.items)
    (c.key-key.ensures ∙ ap taken_key c.of-over.ensures) c.in_ok-insert.ensures.entries c.remove.ensures.entries
    c.self.invariant.under c.self.view_is c.requires.new c.requires.given)
    ∙ c.self.view_is

pub returns-in-Err-clause-given : goal.returns-in-Err-clause-given
returns-in-Err-clause-given c =
    let same : values_of c.remove.new.self.entries ≡ c.args.self.now =
    ap values_of (refused c.args.handover c.key-key.result c.of-over.result c.self.inside.rows.entries
    c.insert.new.self.entries c.remove.new.self.entries c.args.self.now (all_assignments c.args.holders.now.items)
    (c.key-key.ensures ∙ ap taken_key c.of-over.ensures) c.in_ok-insert.ensures.entries c.remove.ensures.entries
    c.self.invariant.under c.self.view_is c.requires.new c.requires.given)
    ∙ c.self.view_is in
    subst (AllByRecursion (IsGiven (all_assignments c.pass_on.new.holders.items))) (sym same)
    (subst (λ hs. AllByRecursion (IsGiven (all_assignments hs)) c.args.self.now) (sym c.in-Err.ensures.err)
    c.requires.given)
