use Rattle.std.proofs.Common.{sym, ◌∙◌}
use Rattle.cpi_office.specs.Replacing.{sent_body}
use Rattle.cpi_office.proofs.PlanItems.{judged_known}
use Rattle.cpi_office.proofs.plans.put_plan.Goals as goal

pub store_plan-requires : goal.store_plan-requires
store_plan-requires g c = record {
  known = λ clean.
      let reads = c.in_ok-find_plan.ensures in
      let o = (g.B.Book.state c.args.book.now).held in
      let plan = c.in-Ok.plan in
      rw (reads.keeps.kept clean) (judged_known c.args.year (sent_body o.items c.args.body) o.plans plan _
      (sym (rw c.in_ok-fault.was at (reads.shown clean)) ∙ c.in-Ok.is));
}
