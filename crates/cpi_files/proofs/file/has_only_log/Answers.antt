use Rattle.std.proofs.Common.{inl}
use Rattle.cpi_files.proofs.file.has_only_log.Goals as goal

-- the file is there
pub returns-then-not-is_missing : goal.returns-then-not-is_missing
returns-then-not-is_missing g c = λ is. inl (c.if-not-is_missing.ensures.no is)
