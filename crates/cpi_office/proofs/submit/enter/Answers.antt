use Rattle.std.proofs.Common.{ap, ◌∙◌}
use Rattle.cpi_survey.specs.Decision.{entry_decision}
use Rattle.cpi_store.specs.Office.{public_part, own_part}
use Rattle.cpi_office.specs.Answers.{decision_reply}
use Rattle.cpi_office.specs.Entries.{decision_verdict}
use Rattle.cpi_office.specs.Receipts.{office_with_quote}
use Rattle.cpi_office.specs.Verdicts.{with_verdict}
use Rattle.cpi_office.proofs.Calls.{answers_after}
use Rattle.cpi_office.proofs.Receipts.{decided_new, stored_is}
use Rattle.cpi_office.proofs.submit.enter.Goals as goal

pub carry_out-requires-clause-new : goal.carry_out-requires-clause-new
carry_out-requires-clause-new g c = λ clean.
    let reads = c.in_ok-decision.ensures in
    let o = (g.S.Sight.state c.args.sight.now).held in
    rw (reads.keeps.kept clean, reads.shown clean)
    (decided_new c.args.present c.args.entry (public_part o) (own_part c.args.bearer.number o))

pub returns : goal.returns
returns g c =
    let old = g.S.Sight.state c.args.sight.now in
    let mid = g.S.Sight.state c.decide.new.sight in
    let new = g.S.Sight.state c.carry_out.new.sight in
    let o = old.held in
    let b = c.args.bearer in
    let reads = c.in_ok-decision.ensures in
    let decided = entry_decision c.args.present c.args.entry (public_part o) (own_part b.number o) in
    answers_after old mid new c.carry_out.result (decision_reply c.in_ok-decision.decision) (decision_reply decided)
    (office_with_quote b c.in_ok-decision.decision mid.held) (with_verdict (decision_verdict b c.args.entry decided) o)
    reads reads.stays c.carry_out.ensures
    (λ clean. (
      ap decision_reply (reads.shown clean),
      ap (office_with_quote b c.in_ok-decision.decision) (reads.keeps.kept clean)
          ∙ ap (λ d. office_with_quote b d o) (reads.shown clean) ∙ stored_is b c.args.entry decided o,
    ))
