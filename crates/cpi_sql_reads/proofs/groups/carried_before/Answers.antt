use Rattle.cpi_sql_reads.proofs.groups.carried_before.Goals as goal

pub returns-then-ne-clause-left : goal.returns-then-ne-clause-left
returns-then-ne-clause-left g c = λ trees cached. record {
  frozen = cached.frozen;
  carried = c.latest_list.ensures.left trees cached.carried;
  levels = cached.levels;
}
