use Rattle.std.proofs.Common.{◌≡◌, map, take}
use Rattle.cpi_index.specs.Places.{place_among}
use Rattle.cpi_index.proofs.item_places.item_places.Given as goal

abbrev pub invariant-loop-item : goal.invariant-loop-item
invariant-loop-item l = l.places.items ≡ map (λ p. place_among p.aggregate l.weights) (take l.item-index l.items)
