use Rattle.std.proofs.Common.{◌≡◌, ℕ, None, List, [], map, ap, ◌∙◌, sym}
use Rattle.std.specs.Prelude.{IsSome}
use Rattle.std.specs.Ordering.{nat_cmp}
use Rattle.cpi_rows.specs.Held.{held_by, held_cmp}
use Rattle.cpi_rows.specs.Keyed.{row_by_number, row_at}
use Rattle.cpi_survey.specs.Quote.{QuoteRow}
use Rattle.cpi_survey.specs.declared.assignment.Assignment.{Assignment}
use Rattle.cpi_store.specs.declared.registration.Registration.{Registration}
use Rattle.cpi_store.specs.declared.given.Given.{Given}
use Rattle.cpi_store.specs.declared.outlet.Outlet.{Outlet}
use Rattle.cpi_store.specs.Registration.{registration_of}
use Rattle.cpi_store.specs.Holders.{all_assignments, all_given, quotes_of_holders, collectors_of}
use Rattle.cpi_store.specs.Office.{Office, put_given}
use Rattle.cpi_store.specs.Outlet.{with_name}
use Rattle.cpi_store.specs.Series.{first_of_series, given_in}
use Rattle.cpi_store.proofs.Found.{known_holder}
use Rattle.cpi_store.proofs.GivenSlots.{given_after, none_taken, slot_stays, taken_key}
use Rattle.cpi_store.proofs.HandedOver.{given_put}
use Rattle.cpi_store.proofs.OwnGiven.{nothing_given}
use Rattle.cpi_store.proofs.survey.Survey.put_assignment.Goals as goal

pub put_assignment_of-requires-clause-known : goal.put_assignment_of-requires-clause-known
put_assignment_of-requires-clause-known c =
    known_holder c.args.registration.number c.self.inside.holders.items
    (rw (ap (λ (o : Office). o.collectors) c.self.view_is) c.requires.known)

pub invariant_of-self-2 : goal.invariant_of-self-2
invariant_of-self-2 c =
    let i = c.self.inside in
    let rows = all_assignments i.holders.items in
    let b = c.args.registration.number in
    let a = c.args.assigned.assignment in
    let there : IsSome (row_by_number (λ (u : Outlet). u.number) a.outlet i.outlets) =
    rw (ap (λ (o : Office). o.outlets) c.self.view_is) c.requires.outlet in
    let named : c.args.assigned ≡ with_name i.outlets a =
    rw (ap (λ (o : Office). o.outlets) c.self.view_is) c.requires.name in
    record {
      holders = c.put_assignment_of.ensures.order;
      registrations = λ key. c.self.invariant.registrations key ∙ ap (registration_of key)
          (sym c.put_assignment_of.ensures.collectors);
      outlets = c.self.invariant.outlets;
      given = given_after rows (all_assignments c.put_assignment_of.new.holders.items)
          (λ n slot is. rw c.in_ok-put_assignment_of.ensures.ok (slot_stays n slot b a rows is)) i.taken
          c.self.invariant.given;
      placed = c.put_assignment_of.ensures.placed i.outlets there c.self.invariant.placed;
      nobody = c.self.invariant.nobody;
      names = c.put_assignment_of.ensures.names i.outlets named c.self.invariant.names;
    }

pub returns-clause-ok : goal.returns-clause-ok
returns-clause-ok c =
    let i = c.self.inside in
    let hs = i.holders.items in
    let new = c.put_assignment_of.new.holders.items in
    let taken = i.taken in
    let rows = all_assignments hs in
    let b = c.args.registration.number in
    let a = c.args.assigned.assignment in
    let office : List Registration → List (ℕ × Given) → List (ℕ × QuoteRow) → Office = λ cs gs qs. record {
      items = i.public.items;
      plans = i.public.plans;
      calendar = i.public.calendar;
      collectors = cs;
      outlets = i.outlets;
      assignments = gs;
      quotes = qs;
      releases = [];
    } in
    let empty : row_by_number (λ (g : Given). g.assignment.slot) a.slot (held_by b (all_given taken hs)) ≡ None =
    ap (λ (o : Office). row_by_number (λ (g : Given). g.assignment.slot) a.slot (held_by b o.assignments))
    c.self.view_is
    ∙ c.requires.new in
    let free : row_by_number (λ (a : Assignment). a.slot) a.slot (held_by b rows) ≡ None =
    nothing_given taken b a.slot rows empty in
    let none : row_at (held_cmp nat_cmp) taken_key (b, a.slot) taken ≡ None =
    none_taken b a.slot rows free taken c.self.invariant.given in
    let assigned : all_given taken new ≡ put_given b (first_of_series b a) (all_given taken hs) =
    ap (map (given_in taken)) c.in_ok-put_assignment_of.ensures.ok ∙ given_put taken b a rows none in
    rw (← c.self.view_is)
    (ap (λ cs. office cs (all_given taken new) (quotes_of_holders new)) c.put_assignment_of.ensures.collectors
    ∙ ap (λ gs. office (collectors_of hs) gs (quotes_of_holders new)) assigned
    ∙ ap (office (collectors_of hs) (put_given b (first_of_series b a) (all_given taken hs)))
    c.put_assignment_of.ensures.quotes)
