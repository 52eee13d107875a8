-- What a job does over a book.
use Rattle.std.specs.Prelude.{ℕ, List, Option}
use Rattle.cpi_release.specs.State.{State}
use Rattle.cpi_store.specs.Office.{Office}

-- by the office that a book shows, the book before and after, the input, the bytes written before and after, and the
-- job's report
abbrev pub Deed : Type 0 → Type 1
Deed Told = (Book : Type 0) → (Book → State Office) → Book → Book
    → Option (List ℕ) → Option (List ℕ) → Option (List ℕ) → Told → Type 0
