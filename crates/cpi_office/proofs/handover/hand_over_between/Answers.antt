use Rattle.std.proofs.Common.{◌≡◌, ℕ, List, Some, sym, ap, ◌∙◌}
use Rattle.cpi_rows.specs.Keyed.{row_by_number}
use Rattle.cpi_rows.proofs.Found.{at_key}
use Rattle.cpi_store.specs.declared.registration.Registration.{Registration}
use Rattle.cpi_office.proofs.handover.hand_over_between.Goals as goal

-- who was found by a number is registered by it
by_number : (n : ℕ) (b : Registration) (registrations : List Registration) → row_by_number
    (λ (b : Registration). b.number) n registrations ≡ Some b →
    row_by_number (λ (b : Registration). b.number) b.number registrations ≡ Some b
by_number n b registrations found =
    ap (λ m. row_by_number (λ (b : Registration). b.number) m registrations)
    (at_key (λ (b : Registration). b.number) n b registrations found) ∙ found

pub hand_over_slot-requires : goal.hand_over_slot-requires
hand_over_slot-requires g c = record {
  registered = λ clean.
      let reads = c.in_ok-former.ensures in
      let found = reads.shown clean in
      let registrations = (g.B.Book.state c.args.book.now).held.collectors in
      rw (reads.keeps.kept clean) (record {
        former_is = by_number c.args.what.from c.in-Some.former registrations (sym found.0 ∙ c.in-Some.is);
        taker_is = by_number c.args.what.to c.in-Some-taker.taker registrations (sym found.1 ∙ c.in-Some-taker.is);
      });
}
