-- The head of a request within the limits of the office (RFC 9112, sections 2 to 5).
use Rattle.std.specs.Prelude.{All, ◌⊎◌, ◌≢◌, ◌≡◌, ℕ, ◌≤◌, List, [], ◌∷◌, ◌++◌, length, Option, None, Some}
use Rattle.httparse.specs.Grammar.{RequestHead, ReadsRequest, print_request, MayBecomeRequest}
use Rattle.cpi_http.specs.declared.limits.TheConstants.{MOST_FIELDS, MOST_HEAD_BYTES}

-- the bytes are the head h, which is within the limits, and then the rest
pub record ReadsHead (bytes : List ℕ) (h : RequestHead) (rest : List ℕ) : Type 0 where
  pub reads : ReadsRequest bytes h rest
  pub short : length (print_request h) ≤ MOST_HEAD_BYTES
  pub few : length h.fields ≤ MOST_FIELDS

-- the bytes begin with no head within the limits
abbrev pub HasNoHead : List ℕ → Type 0
HasNoHead bytes = (h : RequestHead) (rest : List ℕ) → ¬ (ReadsHead bytes h rest)

-- whatever bytes follow, they begin with no head within the limits
abbrev pub NeverHasHead : List ℕ → Type 0
NeverHasHead bytes = (more : List ℕ) → HasNoHead (bytes ++ more)

-- no line ends in these bytes
abbrev pub HasNoLineEnd : List ℕ → Type 0
HasNoLineEnd bytes = All (λ b. b ≢ 10) bytes

-- the whole lines among the bytes may become a request head
abbrev pub MayGoOn : List ℕ → Type 0
MayGoOn bytes =
    (lines : List ℕ) × (tail : List ℕ) × (bytes ≡ lines ++ tail) × HasNoLineEnd tail
    × ((lines ≡ []) ⊎ MayBecomeRequest lines)

-- a byte that came, as a list
abbrev pub byte_list : Option ℕ → List ℕ
byte_list None = []
byte_list (Some b) = b ∷ []
