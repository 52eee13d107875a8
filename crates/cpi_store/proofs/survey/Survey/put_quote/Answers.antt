use Rattle.std.proofs.Common.{sym, ap, ◌∙◌}
use Rattle.cpi_store.proofs.Found.{known_holder}
use Rattle.cpi_store.specs.Registration.{registration_of}
use Rattle.cpi_store.specs.Office.{Office}
use Rattle.cpi_store.proofs.survey.Survey.put_quote.Goals as goal

pub put_quote_of-requires-clause-known : goal.put_quote_of-requires-clause-known
put_quote_of-requires-clause-known c = known_holder c.args.registration.number c.self.inside.holders.items
    (rw (ap (λ (o : Office). o.collectors) c.self.view_is) c.requires.known)

pub invariant_of-self : goal.invariant_of-self
invariant_of-self c = record {
  outlets = c.self.invariant.outlets;
  given = rw c.put_quote_of.ensures.assignments c.self.invariant.given;
  placed = rw c.put_quote_of.ensures.own_assignments c.self.invariant.placed;
  nobody = c.self.invariant.nobody;
  holders = c.put_quote_of.ensures.order;
  registrations = λ key. c.self.invariant.registrations key ∙ ap (registration_of key)
      (sym c.put_quote_of.ensures.collectors);
  names = rw c.put_quote_of.ensures.own_assignments c.self.invariant.names;
}
