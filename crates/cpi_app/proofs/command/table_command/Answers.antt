use Rattle.std.proofs.Common.{◌∙◌, ap₂, rules, refl}
use Rattle.std.proofs.lemmas.Result.{IfOk-weaker}
use Rattle.clap.specs.Words.{with_rule}
use Rattle.cpi_app.proofs.command.table_command.Goals as goal

pub returns-clause-app : goal.returns-clause-app
returns-clause-app c =
    let one = c.in_ok-arg.ensures.shape (search rules) ∙ ap₂ with_rule c.subcommand.ensures.app
    c.required.ensures.rule in
    let two = c.in_ok-arg-2.ensures.shape (search rules) ∙ ap₂ with_rule one c.required-2.ensures.rule in
    let three = c.in_ok-arg-3.ensures.shape (search rules) ∙ ap₂ with_rule two c.required-3.ensures.rule in
    let four = c.in_ok-arg-4.ensures.shape (search rules) ∙ ap₂ with_rule three c.number.ensures.rule in
    IfOk-weaker c.arg-5.result _ _ (λ r h. h.shape c.optional_number.ensures.local
    ∙ ap₂ with_rule four c.optional_number.ensures.rule) c.arg-5.ensures

pub returns-clause-local : goal.returns-clause-local
returns-clause-local c =
    let one = c.in_ok-arg.ensures.globals in
    let two = c.in_ok-arg-2.ensures.globals in
    let three = c.in_ok-arg-3.ensures.globals in
    let four = c.in_ok-arg-4.ensures.globals in
    let first = c.required.ensures.local in
    let second = c.required-2.ensures.local in
    let third = c.required-3.ensures.local in
    IfOk-weaker c.arg-5.result _ _
    (λ r h. h.globals ∙ rw (
      four,
      three,
      two,
      one,
      c.subcommand.ensures.local,
      first,
      second,
      third,
      c.number.ensures.local,
      c.optional_number.ensures.local,
    ) refl)
    c.arg-5.ensures
