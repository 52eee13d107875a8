use Rattle.std.proofs.Common.{◌∙◌, ℕ, Result, ap, inl, inr, map, subst}
use Rattle.cpi_app.specs.Command.{AreRefused}
use Rattle.cpi_app.specs.declared.fault.RunFault.{RunFault}
use Rattle.cpi_files.specs.Program.{IsRefused}
use Rattle.cpi_files.specs.declared.world.Ends.{Ends}
use Rattle.cpi_files.proofs.program.run_words.Goals as goal

refused_as : {I O E F : Type 0} (ends left : Ends I O E F) (outcome : Result ℕ RunFault) (Refused Words : Type 0)
    → (Refused → Words) → IsRefused ends left Refused outcome → IsRefused ends left Words outcome
refused_as ends left outcome Refused Words given (inl says) = inl (given says.0, says.1)
refused_as ends left outcome Refused Words given (inr none) = inr none

-- the arguments are refused
pub returns : goal.returns
returns g c =
    let words = ap (λ texts. map (λ s. s.now) texts) c.as_slice.ensures.value ∙ c.in-Ok-lent_words.ensures.words in
    inr (inl (refused_as c.args.ends c.refuse.result.0 c.refuse.result.1 _ _
    (λ unlike. (_, c.in-Ok.ensures.ok, subst AreRefused words (c.in-Err-job_of_words.ensures.refused unlike)))
    c.refuse.ensures))
