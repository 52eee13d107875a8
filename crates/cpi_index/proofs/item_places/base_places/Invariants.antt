use Rattle.std.proofs.Common.{◌≡◌, map, take}
use Rattle.cpi_index.specs.MonthGroups.{base_place}
use Rattle.cpi_index.proofs.item_places.base_places.Given as goal

abbrev pub invariant-loop-base : goal.invariant-loop-base
invariant-loop-base l = l.places.items ≡ map (base_place l.plan) (take l.base-index l.bases)
