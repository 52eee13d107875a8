-- What is read again of a value in a column.
use Rattle.std.proofs.Common.{◌≡◌, ℕ, List, Some, sym}
use Rattle.cpi_codes.specs.CodeOf.{spelled_code}
use Rattle.cpi_codes.specs.CodeText.{code_text}
use Rattle.cpi_codes.specs.declared.codes.Code.{Code}
use Rattle.cpi_codes.proofs.CodeOf.{there}

pub code_read : (bytes : List ℕ) (c : Code) → bytes ≡ code_text c → spelled_code bytes ≡ Some c
code_read bytes c e = there bytes c (sym e)
