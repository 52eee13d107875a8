use Rattle.std.proofs.Common.{ap, refl, sym, ◌∙◌}
use Rattle.std.proofs.lemmas.Bool.{false≢true}
use Rattle.std.proofs.lemmas.Result.{on_ok_weaker, on_err_weaker}
use Rattle.cpi_rows.specs.Keyed.{with_row}
use Rattle.cpi_rows.proofs.Lists.{of_result}
use Rattle.cpi_survey.specs.Quote.{QuoteRow, quote_cmp, quote_key}
use Rattle.cpi_survey.proofs.BySlot.{quotes_put, quotes_same, row_standing, slot_known, slots_put, slots_same}
use Rattle.cpi_survey.proofs.slots.put_quote.Goals as goal

pub returns-in_err-at-clause-replaced : goal.returns-in_err-at-clause-replaced
returns-in_err-at-clause-replaced c = λ some.
    absurd (false≢true (c.in_err-at.ensures.known
    (rw (ap (λ (q : QuoteRow). q.slot) c.quote.view_is)
    (slot_known (quote_key c.args.quote) c.args.slots.now.items c.requires some))))

pub returns-clause-ok : goal.returns-clause-ok
returns-clause-ok c =
    on_ok_weaker c.put_row.result (λ done.
    quotes_put c.place_for.new.slots.items c.place_for.ensures.slots c.quote.inside.slot c.in_ok-at.at
    c.in_ok-at.ensures.place c.index_mut.result.now c.index_mut.ensures.value _ refl
    c.args.quote (ap (λ (q : QuoteRow). q.slot) (sym c.quote.view_is)) done
    ∙ ap (with_row quote_cmp quote_key c.args.quote) c.place_for.ensures.quotes) c.put_row.ensures.ok

pub returns-clause-err : goal.returns-clause-err
returns-clause-err c =
    on_err_weaker c.put_row.result (λ same.
    quotes_same c.place_for.new.slots.items c.place_for.ensures.slots c.quote.inside.slot c.in_ok-at.at
    c.in_ok-at.ensures.place c.index_mut.result.now c.index_mut.ensures.value _ refl same
    ∙ c.place_for.ensures.quotes) c.put_row.ensures.err

pub returns-clause-slots : goal.returns-clause-slots
returns-clause-slots c =
    of_result c.put_row.result c.put_row.ensures.ok c.put_row.ensures.err
    (λ done. slots_put c.place_for.new.slots.items c.place_for.ensures.slots c.quote.inside.slot c.in_ok-at.at
    c.in_ok-at.ensures.place c.index_mut.result.now c.index_mut.ensures.value _ refl
    c.args.quote (ap (λ (q : QuoteRow). q.slot) (sym c.quote.view_is)) done c.put_row.ensures.order)
    (λ same. slots_same c.place_for.new.slots.items c.place_for.ensures.slots c.quote.inside.slot c.in_ok-at.at
    c.in_ok-at.ensures.place c.index_mut.result.now c.index_mut.ensures.value _ refl same)

pub returns-clause-replaced : goal.returns-clause-replaced
returns-clause-replaced c = λ some.
    c.put_row.ensures.replaced (rw (← c.quote.view_is)
    (rw (
      row_standing c.place_for.new.slots.items c.place_for.ensures.slots c.quote.inside.slot c.in_ok-at.at
          c.in_ok-at.ensures.place c.index_mut.result.now c.index_mut.ensures.value c.quote.inside.month,
      c.place_for.ensures.quotes,
    ) (rw (← c.quote.view_is) at some)))
