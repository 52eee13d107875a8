use Rattle.std.proofs.Common.{◌≡◌, ◌++◌, map, take}
use Rattle.cpi_index.specs.Carried.{as_base}
use Rattle.cpi_index.proofs.bases.keep_all.Given as goal

abbrev pub invariant-loop-price : goal.invariant-loop-price
invariant-loop-price l = l.bases.items ≡ l.initial.bases.items ++ map as_base (take l.price-index l.prices)
