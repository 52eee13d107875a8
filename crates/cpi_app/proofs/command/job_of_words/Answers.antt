use Rattle.std.proofs.Common.{◌∙◌, Result, Ok, Err, ap, map}
use Rattle.std.specs.Prelude.{IfErr, IsErrAnd}
use Rattle.clap.specs.Words.{takes}
use Rattle.cpi_app.proofs.command.job_of_words.Goals as goal

err_as : {T E : Type 0} (r : Result T E) (P Q : E → Type 0) → IsErrAnd r P → ((e : E) → P e → Q e) → IfErr r Q
err_as (Ok v) P Q is weaker = tt
err_as (Err e) P Q is weaker = weaker e is

-- clap took the words, so memory was lacking
pub returns-in_err-matches-clause-refused : goal.returns-in_err-matches-clause-refused
returns-in_err-matches-clause-refused c = err_as c.from_residual-in_err-matches.result _ _
    c.from_residual-in_err-matches.ensures.1 (λ e same other taken job given.
    let words = map (λ s. s.now) c.args.words.now in
    let lacking = c.in_err-matches.ensures.passes (ap (λ app. takes app words) c.in_ok-command.ensures.app ∙ taken) in
    other (let both = same in cc))

-- there was no memory for the error
pub returns-in_err-error-in-None-clause-refused : goal.returns-in_err-error-in-None-clause-refused
returns-in_err-error-in-None-clause-refused c = err_as c.from_residual-in_err-error-in-None.result _ _
    c.from_residual-in_err-error-in-None.ensures.1 (λ e lacking other taken job given. other lacking)
