use Rattle.std.proofs.Common.{◌≡◌, map, drop}
use Rattle.cpi_wire.specs.Words.{elementary_codes}
use Rattle.cpi_wire.proofs.Carried.{behind}
use Rattle.cpi_wire.proofs.words.elementary_codes_of.Given as goal

-- what was found, and then what the texts that are left write
abbrev pub invariant-loop-text : goal.invariant-loop-text
invariant-loop-text l =
    behind l.found.items (elementary_codes (map (λ t. t.now) (drop l.text-index l.texts))) ≡ elementary_codes
    (map (λ t. t.now) l.texts)
