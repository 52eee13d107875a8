-- What a caller is told follows from the caller's view, and from whether there is an answer.
use Rattle.std.proofs.Common.{◌≡◌, ◌≢◌, ℕ, Ok, Err, refl, sym, ap, ◌∙◌}
use Rattle.std.proofs.lemmas.Bool.{false≢true}
use Rattle.cpi_store.specs.Office.{Office}
use Rattle.cpi_office.specs.Answers.{answer}
use Rattle.cpi_office.specs.Causes.{CausesAreAll}
use Rattle.cpi_office.specs.Projections.{view}
use Rattle.cpi_office.specs.Runs.{reply_to}
use Rattle.cpi_office.specs.declared.caller.Caller.{Caller}
use Rattle.cpi_office.specs.declared.caller.Caller.TheVariants.{Desk}
use Rattle.cpi_office.specs.declared.request.Request.{Request}
use Rattle.cpi_office.proofs.Isolation.{from_view}
use Rattle.cpi_office.proofs.IsolationOfMessages.{replied_by_view}

reply_from_view : (now : ℕ) (k : Caller) (r : Request) (o u : Office) → k ≢ Desk →
    view k now o ≡ view k now u → reply_to now k r o ≡ reply_to now k r u
reply_from_view now k r o u apart same =
    from_view answer reply_to replied_by_view now k r o apart ∙ ap (answer now k r) same
    ∙ sym (from_view answer reply_to replied_by_view now k r u apart)

pub causes_are_all : CausesAreAll
causes_are_all now k r o u (Ok x) (Ok y) apart same p q told = p ∙ reply_from_view now k r o u apart same ∙ sym q
causes_are_all now k r o u (Err c) (Err d) apart same p q told = refl
causes_are_all now k r o u (Ok x) (Err d) apart same p q told = absurd (false≢true (sym told))
causes_are_all now k r o u (Err c) (Ok y) apart same p q told = absurd (false≢true told)
