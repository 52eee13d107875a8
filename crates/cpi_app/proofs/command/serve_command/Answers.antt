use Rattle.std.proofs.Common.{◌∙◌, ap₂, rules, refl}
use Rattle.std.proofs.lemmas.Result.{IfOk-weaker}
use Rattle.clap.specs.Words.{with_rule}
use Rattle.cpi_app.proofs.command.serve_command.Goals as goal

pub returns-clause-app : goal.returns-clause-app
returns-clause-app c =
    let one = c.in_ok-arg.ensures.shape (search rules) ∙ ap₂ with_rule c.bare_serve.ensures.app
    c.required.ensures.rule in
    let two = c.in_ok-arg-2.ensures.shape (search rules) ∙ ap₂ with_rule one c.number.ensures.rule in
    let three = c.in_ok-arg-3.ensures.shape (search rules) ∙ ap₂ with_rule two c.option.ensures.rule in
    let four = c.in_ok-arg-4.ensures.shape (search rules) ∙ ap₂ with_rule three c.option-2.ensures.rule in
    let five = c.in_ok-arg-5.ensures.shape (search rules) ∙ ap₂ with_rule four c.number-2.ensures.rule in
    IfOk-weaker c.arg-6.result _ _ (λ r h. h.shape c.option-3.ensures.local
    ∙ ap₂ with_rule five c.option-3.ensures.rule) c.arg-6.ensures

pub returns-clause-local : goal.returns-clause-local
returns-clause-local c =
    let one = c.in_ok-arg.ensures.globals in
    let two = c.in_ok-arg-2.ensures.globals in
    let three = c.in_ok-arg-3.ensures.globals in
    let four = c.in_ok-arg-4.ensures.globals in
    let five = c.in_ok-arg-5.ensures.globals in
    IfOk-weaker c.arg-6.result _ _ (λ r h. h.globals
    ∙ rw (
      five,
      four,
      three,
      two,
      one,
      c.bare_serve.ensures.local,
      c.required.ensures.local,
      c.number.ensures.local,
      c.option.ensures.local,
      c.option-2.ensures.local,
      c.number-2.ensures.local,
      c.option-3.ensures.local,
    ) refl) c.arg-6.ensures
