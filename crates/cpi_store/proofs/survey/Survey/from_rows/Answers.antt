use Rattle.std.proofs.Common.{◌≡◌, ℕ, List, [], map, sym, ap, ◌∙◌}
use Rattle.cpi_survey.specs.Quote.{QuoteRow}
use Rattle.cpi_store.specs.Registration.{registration_of}
use Rattle.cpi_store.specs.Holders.{all_given, quotes_of_holders}
use Rattle.cpi_store.specs.Loading.{HaveRows, taken_rows, without_series}
use Rattle.cpi_store.specs.Office.{Office}
use Rattle.cpi_store.specs.Series.{given_in}
use Rattle.cpi_store.specs.declared.registration.Registration.{Registration}
use Rattle.cpi_store.specs.declared.given.Given.{Given}
use Rattle.cpi_store.proofs.Loaded.{holders_in_order, ok_found}
use Rattle.cpi_store.proofs.TakenRows.{given_again, taken_are_given, taken_sorted}
use Rattle.cpi_store.proofs.survey.Survey.from_rows.Goals as goal

pub of-requires : goal.of-requires
of-requires c =
    let given = c.args.given.now in
    let listed : c.in_ok-overs.overs.items ≡ taken_rows given =
    ok_found (λ ts. ts.items ≡ taken_rows given) c.taken_of.result c.in_ok-overs.overs c.in_ok-overs.ensures.value
    c.taken_of.ensures in
    rw (c.deref-2.ensures.value, listed) (taken_sorted given c.requires.given)

pub invariant_of-result : goal.invariant_of-result
invariant_of-result c =
    let hs = c.in_ok-holders.holders.items in
    let given = c.args.given.now in
    let have : HaveRows c.args.outlets c.args.registrations.items given c.args.quotes.now hs =
    rw c.deref-3.ensures.value at c.in_ok-holders.ensures in
    let listed : c.in_ok-overs.overs.items ≡ taken_rows given =
    ok_found (λ ts. ts.items ≡ taken_rows given) c.taken_of.result c.in_ok-overs.overs c.in_ok-overs.ensures.value
    c.taken_of.ensures in
    let named : c.in_ok-taken.taken ≡ taken_rows given =
    ok_found (λ ts. ts ≡ c.deref-2.result.now) c.of.result c.in_ok-taken.taken c.in_ok-taken.ensures.value c.of.ensures
    ∙ c.deref-2.ensures.value ∙ listed in
    record {
      holders = holders_in_order hs (rw have.collectors c.requires.registrations);
      registrations = λ key. c.in_ok-by_key.ensures key ∙ ap (registration_of key)
          (c.deref.ensures.value ∙ sym have.collectors);
      outlets = rw (← c.outlets.view_is) c.outlets.invariant.order;
      given = rw (named, have.assignments) (taken_are_given given);
      placed = have.placed;
      nobody = c.new.ensures;
      names = have.names;
    }

pub returns : goal.returns
returns c =
    let hs = c.in_ok-holders.holders.items in
    let given = c.args.given.now in
    let taken = c.in_ok-taken.taken in
    let have : HaveRows c.args.outlets c.args.registrations.items given c.args.quotes.now hs =
    rw c.deref-3.ensures.value at c.in_ok-holders.ensures in
    let listed : c.in_ok-overs.overs.items ≡ taken_rows given =
    ok_found (λ ts. ts.items ≡ taken_rows given) c.taken_of.result c.in_ok-overs.overs c.in_ok-overs.ensures.value
    c.taken_of.ensures in
    let named : taken ≡ taken_rows given =
    ok_found (λ ts. ts ≡ c.deref-2.result.now) c.of.result taken c.in_ok-taken.ensures.value c.of.ensures
    ∙ c.deref-2.ensures.value ∙ listed in
    let all : all_given taken hs ≡ given =
    ap (map (given_in taken)) have.assignments
    ∙ ap (λ ts. map (given_in ts) (map without_series given)) named
    ∙ given_again given c.requires.given in
    let office : List Registration → List (ℕ × Given) → List (ℕ × QuoteRow) → Office = λ cs gs qs. record {
      items = c.args.public.items;
      plans = c.args.public.plans;
      calendar = c.args.public.calendar;
      collectors = cs;
      outlets = c.args.outlets;
      assignments = gs;
      quotes = qs;
      releases = [];
    } in
    ap (λ cs. office cs (all_given taken hs) (quotes_of_holders hs)) have.collectors
    ∙ ap (λ gs. office c.args.registrations.items gs (quotes_of_holders hs)) all
    ∙ ap (office c.args.registrations.items given) have.quotes
