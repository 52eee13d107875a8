use Rattle.std.proofs.Common.{sym, arith}
use Rattle.cpi_plan.proofs.SameLists.{differ_at, same_all}
use Rattle.cpi_plan.proofs.same_rows.are_same.Goals as goal

pub returns-then-not-is_same : goal.returns-then-not-is_same
returns-then-not-is_same g c = sym (differ_at g.T.Alike.alike c.args.left.now c.args.right.now c.loop-i.i
    c.index-left-i.result c.index-right-i.result (omega arith) (omega arith) c.index-left-i.is c.index-right-i.is cc)

pub returns : goal.returns
returns g c = sym (same_all g.T.Alike.alike c.args.left.now c.args.right.now (omega arith)
    (λ k d h. c.loop-i.invariant k d (omega arith)))
