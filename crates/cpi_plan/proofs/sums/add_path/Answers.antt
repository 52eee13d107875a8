use Rattle.std.proofs.Common.{ap, sym, ◌∙◌, cond, ◌^◌, ◌+◌, ◌<◌}
use Rattle.cpi_codes.specs.declared.codes.Code.{Code}
use Rattle.cpi_plan.specs.Sums.{sum_at}
use Rattle.cpi_codes.proofs.CodePath.{path_total, at_or_below_parts}
use Rattle.cpi_plan.proofs.SumLemmas.{room_for_sixth, six_amounts}
use Rattle.cpi_plan.proofs.sums.add_path.Goals as goal

pub add-requires-6 : goal.add-requires-6
add-requires-6 c =
    let room : (q : Code) → sum_at c.add-5.new.sums q + c.args.amount < 2 ^ 128 = λ q.
    room_for_sixth c.args.amount (2 ^ 128) _ _ _ _ _ _ _ _ _ _ _ (c.in_ok-add.ensures q) (c.in_ok-add-2.ensures q)
    (c.in_ok-add-3.ensures q) (c.in_ok-add-4.ensures q) (c.in_ok-add-5.ensures q) (c.requires.fits q) in
    search room

pub returns : goal.returns
returns c = λ q.
    let code = c.args.code in
    six_amounts _ _ _ _ _ _ _ _ _ _ _ _ _ _ (c.in_ok-add.ensures q) (c.in_ok-add-2.ensures q)
    (c.in_ok-add-3.ensures q) (c.in_ok-add-4.ensures q) (c.in_ok-add-5.ensures q) (c.in_ok-add-6.ensures q)
    (path_total c.args.amount code.division code.group code.class code.subclass code.aggregate q code.valid
    c.requires.elementary ∙ ap (λ b. cond b c.args.amount 0) (sym (at_or_below_parts q code)))
