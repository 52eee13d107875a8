use Rattle.std.proofs.Common.{◌≡◌, None, [], ap, ◌∙◌}
use Rattle.std.specs.Prelude.{map}
use Rattle.cpi_rows.specs.Keyed.{row_by_number, put_by}
use Rattle.cpi_store.specs.declared.outlet.Outlet.{Outlet}
use Rattle.cpi_store.specs.declared.holder.Holder.{Holder}
use Rattle.cpi_store.specs.Holders.{named_by, office_of}
use Rattle.cpi_store.specs.Office.{Office}
use Rattle.cpi_store.proofs.Outlets.{names_stay, still_placed}
use Rattle.cpi_store.proofs.survey.Survey.put_outlet.Goals as goal

pub invariant_of-self-2 : goal.invariant_of-self-2
invariant_of-self-2 c =
    let us = c.self.inside.outlets in
    let lists = map (λ (h : Holder). h.own.assignments) c.self.inside.holders.items in
    let new : row_by_number (λ (u : Outlet). u.number) c.args.outlet.number us ≡ None =
    rw (ap (λ (o : Office). o.outlets) c.self.view_is) c.requires.new in
    let after : c.put.new.self ≡ put_by (λ (u : Outlet). u.number) c.args.outlet us = c.in_ok-put.ensures.ok in
    record {
      holders = c.self.invariant.holders;
      registrations = c.self.invariant.registrations;
      outlets = c.put.ensures.order;
      given = c.self.invariant.given;
      placed = rw after (still_placed c.args.outlet us c.self.invariant.outlets new lists c.self.invariant.placed);
      nobody = c.self.invariant.nobody;
      names = ap (λ vs. named_by vs lists) after ∙ names_stay c.args.outlet us c.self.invariant.outlets new lists
          c.self.invariant.placed ∙ c.self.invariant.names;
    }

pub invariant_of-self : goal.invariant_of-self
invariant_of-self c =
    let same : c.put.new.self ≡ c.self.inside.outlets = c.in_err-put.ensures.err in
    record {
      holders = c.self.invariant.holders;
      registrations = c.self.invariant.registrations;
      outlets = c.put.ensures.order;
      given = c.self.invariant.given;
      placed = rw same c.self.invariant.placed;
      nobody = c.self.invariant.nobody;
      names = rw same c.self.invariant.names;
    }

pub returns-clause-ok : goal.returns-clause-ok
returns-clause-ok c =
    let i = c.self.inside in
    let after : c.put.new.self ≡ put_by (λ (u : Outlet). u.number) c.args.outlet i.outlets = c.in_ok-put.ensures.ok in
    rw (← c.self.view_is) (ap (λ us. office_of i.public us [] i.taken i.holders.items) after)
