use Rattle.std.proofs.Common.{◌≡◌, map}
use Rattle.std.proofs.Common.{take}
use Rattle.cpi_plan.proofs.stored.titles_of.Given as goal

abbrev pub invariant-nodes : goal.invariant-nodes
invariant-nodes l = l.titles.items ≡ map (λ n. record { code = n.code; title = n.title }) (take l.node-index l.nodes)
