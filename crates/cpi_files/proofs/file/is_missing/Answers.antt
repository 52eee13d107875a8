use Rattle.std.proofs.Common.{inl}
use Rattle.cpi_files.proofs.file.is_missing.Goals as goal

-- the text is no path
pub returns-then-not-is_path-clause-no : goal.returns-then-not-is_path-clause-no
returns-then-not-is_path-clause-no g c = λ is. inl (c.if-not-is_path.ensures.no is)
