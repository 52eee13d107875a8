use Rattle.std.proofs.Common.{◌≡◌, [], ◌∙◌}
use Rattle.sqlite.specs.Held.{state}
use Rattle.cpi_sql_rows.specs.Lists.{assignment_in_row, assignments_in, collectors_in, outlets_in, quote_in, quotes_in}
use Rattle.cpi_sql_rows.specs.Shelf.{AllStand}
use Rattle.cpi_sql_reads.proofs.Looking.{later, looks_both, looks_refused}
use Rattle.cpi_sql_reads.proofs.survey.read_survey.Goals as goal

pub returns-in_err-registrations-clause-look : goal.returns-in_err-registrations-clause-look
returns-in_err-registrations-clause-look g c = looks_refused c.in_ok-public.ensures.look
    c.from_residual-in_err-registrations.result c.read_all.ensures.look c.from_residual-in_err-registrations.ensures.0

pub returns-in_err-read-clause-look : goal.returns-in_err-read-clause-look
returns-in_err-read-clause-look g c =
    looks_refused (looks_both c.in_ok-public.ensures.look c.in_ok-registrations.ensures.look)
    c.from_residual-in_err-read.result c.read_all-2.ensures.look c.from_residual-in_err-read.ensures.0

pub returns-in_err-outlets-clause-look : goal.returns-in_err-outlets-clause-look
returns-in_err-outlets-clause-look g c =
    looks_refused (looks_both c.in_ok-public.ensures.look c.in_ok-registrations.ensures.look)
    c.from_residual-in_err-outlets.result c.read_all-2.ensures.look c.from_residual-in_err-outlets.ensures.0

pub returns-in_err-given-clause-look : goal.returns-in_err-given-clause-look
returns-in_err-given-clause-look g c =
    let two = looks_both c.in_ok-public.ensures.look c.in_ok-registrations.ensures.look in
    looks_refused (looks_both two c.in_ok-read.ensures.look)
    c.from_residual-in_err-given.result c.read_all-3.ensures.look c.from_residual-in_err-given.ensures.0

pub returns-in_err-quotes-clause-look : goal.returns-in_err-quotes-clause-look
returns-in_err-quotes-clause-look g c =
    let two = looks_both c.in_ok-public.ensures.look c.in_ok-registrations.ensures.look in
    let three = looks_both two c.in_ok-read.ensures.look in
    looks_refused (looks_both three c.in_ok-given.ensures.look)
    c.from_residual-in_err-quotes.result c.all_quotes.ensures.look c.from_residual-in_err-quotes.ensures.0

pub returns-in-Some-clause-look : goal.returns-in-Some-clause-look
returns-in-Some-clause-look g c =
    let two = looks_both c.in_ok-public.ensures.look c.in_ok-registrations.ensures.look in
    let four = looks_both (looks_both two c.in_ok-read.ensures.look) c.in_ok-given.ensures.look in
    looks_both four c.in_ok-quotes.ensures.look

pub returns-in-Some-clause-read : goal.returns-in-Some-clause-read
returns-in-Some-clause-read g c = λ clean has.
    let trees = (state g.S.Store c.args.conn.now).now.trees in
    let one = c.in_ok-public.ensures.look in
    let two = looks_both one c.in_ok-registrations.ensures.look in
    let three = looks_both two c.in_ok-read.ensures.look in
    let four = looks_both three c.in_ok-given.ensures.look in
    let before_quotes = c.in_ok-quotes.ensures.look.still.clean clean in
    let before_given = c.in_ok-given.ensures.look.still.clean before_quotes in
    let before_read = c.in_ok-read.ensures.look.still.clean before_given in
    let public = c.in_ok-public.ensures.read (c.in_ok-registrations.ensures.look.still.clean before_read) has in
    let collectors : c.in_ok-registrations.registrations.items ≡ collectors_in (trees 1) =
    later one (λ t. c.in_ok-registrations.registrations.items ≡ collectors_in (t 1)) c.in_ok-registrations.ensures.look
    c.in_ok-registrations.ensures.read before_read has in
    let outlets : c.in_ok-outlets.outlets ≡ outlets_in (trees 3) = c.in_ok-outlets.ensures
    ∙ later two (λ t. c.in_ok-read.read.items ≡ outlets_in (t 3)) c.in_ok-read.ensures.look
    c.in_ok-read.ensures.read before_given has in
    let given : c.deref.result.now ≡ assignments_in (trees 22) = c.deref.ensures.value
    ∙ later three (λ t. c.in_ok-given.given.items ≡ assignments_in (t 22)) c.in_ok-given.ensures.look
    c.in_ok-given.ensures.read before_quotes has in
    let quotes : c.deref-2.result.now ≡ quotes_in (trees 24) = c.deref-2.ensures.value
    ∙ later four (λ t. c.in_ok-quotes.quotes.items ≡ quotes_in (t 24)) c.in_ok-quotes.ensures.look
    c.in_ok-quotes.ensures.read clean has in record {
      read = c.in-Some.ensures ∙ (λ n. record {
        items = (public n).items;
        plans = (public n).plans;
        calendar = (public n).calendar;
        collectors = collectors n;
        outlets = outlets n;
        assignments = given n;
        quotes = quotes n;
        releases = [];
      });
      taken = record {
        whole = has.office.whole;
        plans = c.in_ok-public.ensures.taken (c.in_ok-registrations.ensures.look.still.clean before_read) has;
        assignments = later three (λ t. AllStand assignment_in_row (t 22)) c.in_ok-given.ensures.look
            (λ is had. (c.in_ok-given.ensures.whole is had.schema).stand) before_quotes has;
        quotes = later four (λ t. AllStand quote_in (t 24)) c.in_ok-quotes.ensures.look c.in_ok-quotes.ensures.stand
            clean has;
      };
    }

pub returns-clause-look : goal.returns-clause-look
returns-clause-look g c =
    let two = looks_both c.in_ok-public.ensures.look c.in_ok-registrations.ensures.look in
    let four = looks_both (looks_both two c.in_ok-read.ensures.look) c.in_ok-given.ensures.look in
    let all = looks_both four c.in_ok-quotes.ensures.look in record { still = all.still; stays = tt }
