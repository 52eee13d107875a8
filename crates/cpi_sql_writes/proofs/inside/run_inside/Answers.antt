use Rattle.std.proofs.Common.{rules}
use Rattle.cpi_sql_writes.proofs.inside.run_inside.Goals as goal

pub returns-clause-ran : goal.returns-clause-ran
returns-clause-ran g c = record {
  step = λ clean inside. let ran = c.in_ok-_count.ensures.runs clean inside in (c.in_ok-_count._count, ran.0);
  kept = λ clean. search rules;
  survives = c.execute.ensures.survives;
}
