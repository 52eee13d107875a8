use Rattle.std.proofs.Common.{◌≡◌, None, [], sym, ap, ◌∙◌, refl}
use Rattle.std.specs.Prelude.{cond, Some}
use Rattle.std.specs.BTreeMap.{get}
use Rattle.std.specs.Ordering.{nat_cmp, is_eq}
use Rattle.std.proofs.lemmas.Cmp.{nat_cmp_total}
use Rattle.cpi_rows.specs.Keyed.{row_by_number, put_by}
use Rattle.cpi_rows.proofs.Places.{put_in_order}
use Rattle.cpi_store.specs.Registration.{registration_of}
use Rattle.cpi_store.specs.declared.registration.Registration.{Registration}
use Rattle.cpi_store.specs.declared.holder.Holder.{Holder}
use Rattle.cpi_store.specs.Holders.{collectors_of, collector_of_holder, office_of}
use Rattle.cpi_store.specs.Office.{Office}
use Rattle.cpi_store.proofs.Added.{no_holder, assignments_added, office_added, registration_added, collectors_added}
use Rattle.cpi_store.proofs.Added.{collectors_in_order, placed_added, names_added}
use Rattle.cpi_store.proofs.survey.Survey.put_collector.Goals as goal

pub put_holder-requires-clause-new : goal.put_holder-requires-clause-new
put_holder-requires-clause-new c =
    rw c.new-holder.ensures (no_holder c.args.registration.number c.self.inside.holders.items
    (ap (λ (o : Office). row_by_number (λ (b : Registration). b.number) c.args.registration.number o.collectors)
    c.self.view_is
    ∙ c.requires.number))

pub invariant_of-self-2 : goal.invariant_of-self-2
invariant_of-self-2 c =
    let hs = c.self.inside.holders.items in
    let us = c.self.inside.outlets in
    let h : Holder = record {
      number = c.args.registration.number;
      key = c.args.registration.key;
      own =
          record { assignments = []; quotes = [] };
    } in
    let after : c.put_holder.new.holders.items ≡ put_by (λ (h : Holder). h.number) h hs =
    c.in_ok-put_holder.ensures.holders ∙ ap (λ g. put_by (λ (h : Holder). h.number) g hs) c.new-holder.ensures in
    let updates = c.in_ok-put_holder.ensures.registrations in
    let missing : row_by_number (λ (b : Registration). b.number) c.args.registration.number (collectors_of hs) ≡ None =
    ap (λ (o : Office). row_by_number (λ (b : Registration). b.number) c.args.registration.number o.collectors)
    c.self.view_is
    ∙ c.requires.number in
    let free : registration_of c.args.registration.key (collectors_of hs) ≡ None =
    ap (λ (o : Office). registration_of c.args.registration.key o.collectors) c.self.view_is ∙ c.requires.key in
    let none : row_by_number (λ (h : Holder). h.number) h.number hs ≡ None = no_holder c.args.registration.number hs
    missing in
    record {
      holders = rw after (put_in_order nat_cmp_total (λ (h : Holder). h.number) hs h c.self.invariant.holders);
      registrations = λ key. registration_added c.args.registration (collectors_of hs)
          (collectors_in_order hs c.self.invariant.holders)
          missing free key _ _ (c.self.invariant.registrations key)
          (updates.0 key ∙ ap (λ (g : Holder). cond (is_eq (nat_cmp g.key key)) (Some (collector_of_holder g))
          (get nat_cmp c.self.inside.registrations key)) c.new-holder.ensures)
          ∙ ap (registration_of key) (sym (collectors_added h hs c.self.invariant.holders none)
          ∙ ap collectors_of (sym after));
      outlets = c.self.invariant.outlets;
      given = rw (after, assignments_added h hs c.self.invariant.holders none refl) c.self.invariant.given;
      placed = rw after (placed_added h hs c.self.invariant.holders none refl us c.self.invariant.placed);
      nobody = c.self.invariant.nobody;
      names = rw after (names_added h hs c.self.invariant.holders none refl us c.self.invariant.names);
    }

pub returns-clause-ok : goal.returns-clause-ok
returns-clause-ok c =
    let i = c.self.inside in
    let hs = i.holders.items in
    let h : Holder = record {
      number = c.args.registration.number;
      key = c.args.registration.key;
      own =
          record { assignments = []; quotes = [] };
    } in
    let after : c.put_holder.new.holders.items ≡ put_by (λ (h : Holder). h.number) h hs =
    c.in_ok-put_holder.ensures.holders ∙ ap (λ g. put_by (λ (h : Holder). h.number) g hs) c.new-holder.ensures in
    let missing : row_by_number (λ (b : Registration). b.number) c.args.registration.number (collectors_of hs) ≡ None =
    ap (λ (o : Office). row_by_number (λ (b : Registration). b.number) c.args.registration.number o.collectors)
    c.self.view_is
    ∙ c.requires.number in
    rw (← c.self.view_is)
    (ap (office_of i.public i.outlets [] i.taken) after
    ∙ office_added h hs c.self.invariant.holders (no_holder c.args.registration.number hs missing) refl i.public
    i.outlets
    [] i.taken)
