use Rattle.std.proofs.Common.{◌≡◌, Some, sym, ap, ◌∙◌}
use Rattle.cpi_rows.specs.Keyed.{row_by_number}
use Rattle.cpi_rows.specs.Held.{held_by}
use Rattle.cpi_rows.proofs.Found.{at_key}
use Rattle.cpi_store.specs.declared.registration.Registration.{Registration}
use Rattle.cpi_store.specs.declared.given.Given.{Given}
use Rattle.cpi_office.proofs.assign.assign_to.Goals as goal

pub put_assignment-requires-clause-known : goal.put_assignment-requires-clause-known
put_assignment-requires-clause-known g c = λ clean.
    let reads = c.in_ok-registration_at.ensures.reads in
    let o = (g.B.Book.state c.args.book.now).held in
    let b = c.in-Some.registration in
    let found : row_by_number (λ (b : Registration). b.number) c.args.collector o.collectors ≡ Some b = sym
    (reads.shown clean)
    ∙ c.in-Some.is in
    rw (reads.keeps.kept clean) (ap (λ n. row_by_number (λ (b : Registration). b.number) n o.collectors)
    (at_key (λ (b : Registration). b.number) c.args.collector b o.collectors found) ∙ found)

pub put_assignment-requires-clause-new : goal.put_assignment-requires-clause-new
put_assignment-requires-clause-new g c = λ clean.
    let reads = c.in_ok-registration_at.ensures.reads in
    let o = (g.B.Book.state c.args.book.now).held in
    let b = c.in-Some.registration in
    let found : row_by_number (λ (b : Registration). b.number) c.args.collector o.collectors ≡ Some b = sym
    (reads.shown clean)
    ∙ c.in-Some.is in
    rw (reads.keeps.kept clean) (ap (λ n. row_by_number (λ (g : Given). g.assignment.slot)
    c.args.assigned.assignment.slot
    (held_by n o.assignments)) (at_key (λ (b : Registration). b.number) c.args.collector b o.collectors found)
    ∙ c.requires.free (reads.keeps.was_clean clean))
