use Rattle.std.proofs.Common.{rules, sym, ap, ◌∙◌}
use Rattle.cpi_rows.specs.Keyed.{row_by_number}
use Rattle.cpi_rows.specs.Held.{held_by}
use Rattle.cpi_store.specs.Office.{Office}
use Rattle.cpi_store.specs.declared.registration.Registration.{Registration}
use Rattle.cpi_store.specs.declared.given.Given.{Given}
use Rattle.cpi_office.specs.Assigning.{slot_given}
use Rattle.cpi_office.specs.Named.{again_reply, is_first_series}
use Rattle.cpi_office.specs.Verdicts.{verdict_reply, with_verdict}
use Rattle.cpi_office.specs.declared.reply.Reply.{Reply}
use Rattle.cpi_office.proofs.Calls.{answers_after}
use Rattle.cpi_office.proofs.Named.{standing_named, slot_given_is, again_is, same_content, is_free}
use Rattle.cpi_office.proofs.assign.assign_slot.Goals as goal

pub assign_new-requires-clause-free : goal.assign_new-requires-clause-free
assign_new-requires-clause-free g c = λ clean.
    let reads = c.in_ok-find_slot.ensures in
    let o = (g.B.Book.state c.args.book.now).held in
    let a = c.args.assignment in
    rw (reads.keeps.kept clean)
    (is_free same_content a _ (sym c.in-Free-false.is-0 ∙ (reads.shown clean).0
    ∙ standing_named o.outlets a a.slot (held_by c.args.collector o.assignments)))

pub returns-in-Other-default : goal.returns-in-Other-default
returns-in-Other-default g c =
    rw (slot_given_is c.args.collector c.args.assignment (g.B.Book.state c.args.book.now).held) (search rules)

pub returns-in-Same-default : goal.returns-in-Same-default
returns-in-Same-default g c =
    let old = g.B.Book.state c.args.book.now in
    let mid = g.B.Book.state c.find_slot.new.book in
    let new = g.B.Book.state c.assign_again.new.book in
    let n = c.args.collector in
    let a = c.args.assignment in
    let o = old.held in
    let reads = c.in_ok-find_slot.ensures in
    let said : Office → Reply = λ u. again_reply (is_first_series n a.slot
    (row_by_number (λ (g : Given). g.assignment.slot) a.slot (held_by n u.assignments)))
    (row_by_number (λ (b : Registration). b.number) n u.collectors) in
    answers_after old mid new c.assign_again.result (said mid.held) (verdict_reply (slot_given n a o)) mid.held
    (with_verdict (slot_given n a o) o)
    reads reads.stays c.assign_again.ensures
    (λ clean.
    let kept = reads.keeps.kept clean in
    let same = again_is n a o (sym c.in-Same-default.is-0 ∙ (reads.shown clean).0) in
    (ap said kept ∙ same.0, kept ∙ same.1))

pub returns-in-Free-true : goal.returns-in-Free-true
returns-in-Free-true g c =
    rw (slot_given_is c.args.collector c.args.assignment (g.B.Book.state c.args.book.now).held) (search rules)

pub returns-in-Free-false : goal.returns-in-Free-false
returns-in-Free-false g c =
    rw (slot_given_is c.args.collector c.args.assignment (g.B.Book.state c.args.book.now).held) (search rules)
