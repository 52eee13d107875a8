use Rattle.std.proofs.Common.{◌≡◌, map, string_bytes, take}
use Rattle.cpi_files.proofs.program.lent_words.Given as goal

-- the words so far are lent
abbrev pub invariant-loop-word : goal.invariant-loop-word
invariant-loop-word l = map (λ s. s.now) l.words.items ≡ map string_bytes (take l.word-index l.owned.items)
