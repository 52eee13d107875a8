use Rattle.std.proofs.Common.{◌≡◌, rules, refl, [], ◌∷◌, ◌++◌, true, false, arith, length-append}
use Rattle.std.proofs.lemmas.Result.{err_from_is_err_and}
use Rattle.csv.specs.Records.{fields_of}
use Rattle.cpi_wire.proofs.Causes.{none_caused, record_caused}
use Rattle.cpi_wire.proofs.Reading.{at_front}
use Rattle.cpi_wire.proofs.Answered.{none_written, more_written, answers_more, gave_up_between, gave_up_in, gave_up_at}
use Rattle.cpi_wire.proofs.records.answer_records.Goals as goal

pub loop-init : goal.loop-init
loop-init g c = ([], [], λ input at. at, refl, none_written _, refl, none_caused _)

pub loop-preserved : goal.loop-preserved
loop-preserved g c =
    let inv = c.loop.invariant in
    let n = inv.5 in
    let f = fields_of c.next_record.new.row in
    let one : c.in_ok-next_record.field-0 ≡ true = search rules in
    let line = c.in_ok-answer.ensures.ok in (
      inv.0 ++ f ∷ [],
      inv.1 ++ line.answered ∷ [],
      λ input at. (rw one at c.in_ok-next_record.ensures.ok) input inv.0 (inv.2 input at),
      answers_more _ _ _ _ _ inv.0 inv.1 f line.answered inv.3 line.answers,
      more_written inv.1 _ _ _ _ inv.4
          (rw (← line.line_is) (rw c.deref.ensures.value at c.in_ok-write_whole.ensures.whole)),
      rw length-append (omega (arith, n)),
      rw c.first_cause-cause.ensures
          (record_caused _ _ _ inv.1 line.answered _ _ _ inv.6 c.in_ok-answer.ensures.caused line.failed_is),
    )

pub returns-in_err-next_record-clause-err : goal.returns-in_err-next_record-clause-err
returns-in_err-next_record-clause-err g c =
    let inv = c.loop.invariant in
    let n = inv.5 in
    let p = err_from_is_err_and c.from_residual.result c.from_residual.ensures.1 in
    rw (p.1, p.2) (λ input at. gave_up_between _ _ _ _ _ _ _ _ inv.0 inv.1 c.in_err-next_record.ensures.err
    (omega (arith, n)) (at_front _ _ inv.0 _ (inv.2 input at)) inv.3 inv.4)

pub returns-in_err-answer-clause-err : goal.returns-in_err-answer-clause-err
returns-in_err-answer-clause-err g c =
    let inv = c.loop.invariant in
    let n = inv.5 in
    let f = fields_of c.next_record.new.row in
    let one : c.in_ok-next_record.field-0 ≡ true = search rules in
    let p = err_from_is_err_and c.from_residual-in_err-answer.result c.from_residual-in_err-answer.ensures.1 in
    rw (p.1, p.2) (λ input at. gave_up_in _ _ _ _ _ _ _ _ inv.0 inv.1 f (omega (arith, n))
    (at_front _ _ _ c.next_record.new.reader ((rw one at c.in_ok-next_record.ensures.ok) input inv.0 (inv.2 input at)))
    inv.3 inv.4 c.in_err-answer.ensures.err)

pub returns-in_err-write_whole-clause-err : goal.returns-in_err-write_whole-clause-err
returns-in_err-write_whole-clause-err g c =
    let inv = c.loop.invariant in
    let n = inv.5 in
    let f = fields_of c.next_record.new.row in
    let one : c.in_ok-next_record.field-0 ≡ true = search rules in
    let part = rw c.deref.ensures.value at c.in_err-write_whole.ensures.part in
    let left = c.from_residual-in_err-write_whole in
    let p = err_from_is_err_and left.result left.ensures.1 in
    rw (p.1, p.2, part.0) (λ input at. gave_up_at _ _ _ _ _ _ _ _ _ inv.0 inv.1 f _ _ part.1 (omega (arith, n))
    (at_front _ _ _ c.next_record.new.reader ((rw one at c.in_ok-next_record.ensures.ok) input inv.0 (inv.2 input at)))
    inv.3 inv.4 c.in_ok-answer.ensures.ok part.2 part.3)

pub returns-in_err-next_record-2-clause-err : goal.returns-in_err-next_record-2-clause-err
returns-in_err-next_record-2-clause-err g c =
    let inv = c.loop.invariant in
    let n = inv.5 in
    let p = err_from_is_err_and c.from_residual-in_err-next_record-2.result
    c.from_residual-in_err-next_record-2.ensures.1 in
    rw (p.1, p.2) (λ input at. gave_up_between _ _ _ _ _ _ _ _ inv.0 inv.1 c.in_err-next_record-2.ensures.err
    (omega (arith, n)) (at_front _ _ inv.0 _ (inv.2 input at)) inv.3 inv.4)

pub returns-then-branch-clause-err : goal.returns-then-branch-clause-err
returns-then-branch-clause-err g c =
    let inv = c.loop.invariant in
    let n = inv.5 in
    rw c.of.ensures (λ input at. gave_up_between _ _ _ _ _ _ _ _ inv.0 inv.1 (λ e. cc) (omega (arith, n))
    (at_front _ _ inv.0 _ (inv.2 input at)) inv.3 inv.4)

pub returns-then-not-branch-clause-ok : goal.returns-then-not-branch-clause-ok
returns-then-not-branch-clause-ok g c = λ input at.
    let inv = c.loop.invariant in
    let n = inv.5 in
    let none : c.in_ok-next_record.field-0 ≡ false = search rules in
    record {
      answered = record {
        rows = inv.0;
        replies = inv.1;
        all = (rw none at c.in_ok-next_record.ensures.ok) input inv.0 (inv.2 input at);
        few = omega (arith, n);
        answers = inv.3;
        written = inv.4;
      };
      caused = inv.6;
    }

pub returns-clause-ok : goal.returns-clause-ok
returns-clause-ok g c = λ input at.
    let inv = c.loop.invariant in
    let n = inv.5 in
    let none : c.in_ok-next_record-2.field-0 ≡ false = search rules in
    record {
      answered = record {
        rows = inv.0;
        replies = inv.1;
        all = (rw none at c.in_ok-next_record-2.ensures.ok) input inv.0 (inv.2 input at);
        few = omega (arith, n);
        answers = inv.3;
        written = inv.4;
      };
      caused = inv.6;
    }
