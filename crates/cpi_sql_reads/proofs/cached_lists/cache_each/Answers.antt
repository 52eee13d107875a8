use Rattle.cpi_sql_reads.proofs.StoredLists.{carried_is, frozen_is, levels_are}
use Rattle.cpi_sql_reads.proofs.cached_lists.cache_each.Goals as goal

pub returns-in_err-cache_list : goal.returns-in_err-cache_list
returns-in_err-cache_list c = λ trees cached it. record {
  frozen = c.cache_list.ensures.cached trees cached.frozen (rw c.in_ok-frozen.ensures (frozen_is trees _ it));
  carried = cached.carried;
  levels = cached.levels;
}

pub returns-in_err-carried : goal.returns-in_err-carried
returns-in_err-carried c = λ trees cached it. record {
  frozen = c.in_ok-cache_list.ensures.cached trees cached.frozen (rw c.in_ok-frozen.ensures (frozen_is trees _ it));
  carried = cached.carried;
  levels = cached.levels;
}

pub returns-in_err-cache_list-2 : goal.returns-in_err-cache_list-2
returns-in_err-cache_list-2 c = λ trees cached it. record {
  frozen = c.in_ok-cache_list.ensures.cached trees cached.frozen (rw c.in_ok-frozen.ensures (frozen_is trees _ it));
  carried = c.cache_list-2.ensures.cached trees cached.carried (rw c.in_ok-carried.ensures (carried_is trees _ it));
  levels = cached.levels;
}

pub returns-in_err-levels : goal.returns-in_err-levels
returns-in_err-levels c = λ trees cached it. record {
  frozen = c.in_ok-cache_list.ensures.cached trees cached.frozen (rw c.in_ok-frozen.ensures (frozen_is trees _ it));
  carried = c.in_ok-cache_list-2.ensures.cached trees cached.carried
      (rw c.in_ok-carried.ensures (carried_is trees _ it));
  levels = cached.levels;
}

pub returns : goal.returns
returns c = λ trees cached it. record {
  frozen = c.in_ok-cache_list.ensures.cached trees cached.frozen (rw c.in_ok-frozen.ensures (frozen_is trees _ it));
  carried = c.in_ok-cache_list-2.ensures.cached trees cached.carried
      (rw c.in_ok-carried.ensures (carried_is trees _ it));
  levels = c.cache_list-3.ensures.cached trees cached.levels (rw c.in_ok-levels.ensures (levels_are trees _ it));
}
