use Rattle.std.proofs.Common.{◌≡◌, ◌∙◌, ap, ap₂, rules, refl, false}
use Rattle.clap.specs.declared.builder.command.Command.TheViews.{out-Command}
use Rattle.std.proofs.lemmas.Result.{IfOk-weaker}
use Rattle.clap.specs.Words.{App, app_of, with_subcommand}
use Rattle.clap.specs.Simple.{app_of_fields}
use Rattle.cpi_app.specs.Command as line
use Rattle.cpi_app.proofs.command.cpi_command.Goals as goal

pub returns-clause-app : goal.returns-clause-app
returns-clause-app c =
    let named : app_of c.subcommand_required.result ≡ line.bare = search rules in
    let bare : app_of c.in_ok-bin_name.field-0 ≡ line.bare = ap (λ f. app_of_fields f) c.in_ok-bin_name.ensures.0
    ∙ named in
    let one = c.in_ok-subcommand.ensures.shape c.in_ok-replay_command.ensures.local
    ∙ ap₂ with_subcommand bare (ap (λ (a : App). a.top) c.in_ok-replay_command.ensures.app) in
    let two = c.in_ok-subcommand-2.ensures.shape c.in_ok-serve_command.ensures.local
    ∙ ap₂ with_subcommand one (ap (λ (a : App). a.top) c.in_ok-serve_command.ensures.app) in
    IfOk-weaker c.subcommand-3.result _ _ (λ r h. h.shape c.in_ok-table_command.ensures.local
    ∙ ap₂ with_subcommand two (ap (λ (a : App). a.top) c.in_ok-table_command.ensures.app)) c.subcommand-3.ensures

pub returns-clause-local : goal.returns-clause-local
returns-clause-local c =
    let named : (out-Command c.subcommand_required.result).has_globals ≡ false = search rules in
    let plain : (out-Command c.in_ok-bin_name.field-0).has_globals ≡ false =
    ap (λ (f : _). f.has_globals) c.in_ok-bin_name.ensures.0 ∙ named in
    IfOk-weaker c.subcommand-3.result _ _ (λ r h. h.globals
    ∙ rw (
      c.in_ok-subcommand-2.ensures.globals,
      c.in_ok-subcommand.ensures.globals,
      plain,
      c.in_ok-replay_command.ensures.local,
      c.in_ok-serve_command.ensures.local,
      c.in_ok-table_command.ensures.local,
    ) refl) c.subcommand-3.ensures
