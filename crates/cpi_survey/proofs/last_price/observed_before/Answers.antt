use Rattle.std.proofs.Common.{◌≡◌, ◌≢◌, ℕ, Some, None, sym, ap, ◌∙◌, inl, inr}
use Rattle.std.proofs.lemmas.Bool.{eqb-true, eqb-false, not-true, not-false}
use Rattle.std.specs.Prelude.{is_some}
use Rattle.cpi_survey.specs.Mark.{observed_price}
use Rattle.cpi_survey.specs.LastPrice.{latest_quote, is_earlier, price_in}
use Rattle.cpi_survey.proofs.Latest.{before_gap, before_row, front_below, front_in_order, latest_other, latest_own}
use Rattle.cpi_survey.proofs.Latest.{starts, without_last}
use Rattle.cpi_survey.proofs.last_price.observed_before.Goals as goal

pub loop-quote-init : goal.loop-quote-init
loop-quote-init c =
    let k : ℕ × ℕ = (c.args.slot, c.args.month) in
    let start = starts c.args.slot c.args.month c.args.quotes.now _ c.requires (elim c.in-Ok.is [
      | inl found ↦ before_row k c.args.quotes.now c.requires c.in-Ok.place (rw found at c.place_of.ensures)
      | inr gap ↦ before_gap k c.args.quotes.now c.in-Ok.place (rw gap at c.place_of.ensures)
    ]) in
    record { order = start.order; below = start.below; latest = start.latest }

pub returns-then-ne : goal.returns-then-ne
returns-then-ne c =
    let kept = c.loop-quote.invariant in
    let split = c.in-Some.ensures.cases.0 in
    let differs : c.in-Some.quote.now.slot ≢ c.args.slot =
    rw (← c.quote.view_is) (eqb-false c.quote.inside.slot c.args.slot
    (not-true _ (sym c.ne.ensures ∙ c.if-ne.true))) in
    let none = latest_other c.args.slot c.args.month _ _ (rw split at kept.order) (rw split at kept.below) differs in
    sym (ap price_in (kept.latest ∙ ap (latest_quote (is_earlier c.args.slot c.args.month)) split ∙ none))

pub returns-in-Some-observed_price : goal.returns-in-Some-observed_price
returns-in-Some-observed_price c =
    let kept = c.loop-quote.invariant in
    let split = c.in-Some.ensures.cases.0 in
    let same : c.in-Some.quote.now.slot ≡ c.args.slot =
    rw (← c.quote.view_is) (eqb-true c.quote.inside.slot c.args.slot
    (not-false _ (sym c.ne.ensures ∙ c.if-ne.false))) in
    let price : observed_price c.in-Some.quote.now.mark ≡ Some c.in-Some-observed_price.price =
    rw (← c.quote.view_is) (sym c.observed_price.ensures ∙ c.in-Some-observed_price.is) in
    let found = latest_own c.args.slot c.args.month _ _ (rw split at kept.order) (rw split at kept.below) same
    (ap is_some price) in
    sym (ap price_in (kept.latest ∙ ap (latest_quote (is_earlier c.args.slot c.args.month)) split ∙ found) ∙ price)

pub loop-quote-preserved : goal.loop-quote-preserved
loop-quote-preserved c =
    let k : ℕ × ℕ = (c.args.slot, c.args.month) in
    let kept = c.loop-quote.invariant in
    let split = c.in-Some.ensures.cases.0 in
    let none : observed_price c.in-Some.quote.now.mark ≡ None =
    rw (← c.quote.view_is) (sym c.observed_price.ensures ∙ c.in_default-observed_price.is) in
    record {
      order = front_in_order _ _ (rw split at kept.order);
      below = front_below k _ _ (rw split at kept.below);
      latest = kept.latest ∙ ap (latest_quote (is_earlier c.args.slot c.args.month)) split
          ∙ without_last c.args.slot c.args.month _ _ none;
    }
