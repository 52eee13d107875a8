use Rattle.std.proofs.Common.{◌≡◌, rules, arith}
use Rattle.cpi_plan.specs.Sums.{sum_at}
use Rattle.cpi_plan.proofs.checks.nodes_of.Goals as goal

pub overflow_cast-weight : goal.overflow_cast-weight
overflow_cast-weight c =
    let weight : c.unwrap_or-weight.result ≡ sum_at c.args.sums.now c.in-Some.title.code = search rules in
    omega (arith, weight, c.requires c.in-Some.title.code)
