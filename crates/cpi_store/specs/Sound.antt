-- What holds of an office at all times: it is orderly, what its rows name is there, and its releases are made one after
-- the other.
use Rattle.std.specs.Prelude.{◌≡◌, ℕ, ◌≤◌, true, List, [], ◌∷◌, Some, IsSome, ⊤}
use Rattle.std.specs.List.{AllByRecursion}
use Rattle.cpi_rows.specs.Keyed.{IsInOrder, row_by_number}
use Rattle.cpi_rows.specs.Held.{held_by}
use Rattle.cpi_codes.specs.CodeOrder.{code_cmp}
use Rattle.cpi_codes.specs.declared.limits.TheConstants.{GREATEST_SLOT}
use Rattle.cpi_plan.specs.Plan.{Plan}
use Rattle.cpi_survey.specs.Quote.{QuoteRow}
use Rattle.cpi_survey.specs.declared.assignment.Assignment.{Assignment}
use Rattle.cpi_survey.specs.Assignment.{is_active}
use Rattle.cpi_store.specs.declared.given.Given.{Given}
use Rattle.cpi_store.specs.Office.{Office}
use Rattle.cpi_store.specs.FrozenLists.{HasFrozenList}
use Rattle.cpi_store.specs.Released.{AreReleased}
use Rattle.cpi_store.specs.Orderly.{IsOrderly}

-- the item of an assignment is there
abbrev pub HasItsItem : Office → ℕ × Given → Type 0
HasItsItem o row = IsSome (row_by_number (λ i. i.code) row.1.assignment.item o.items)

-- the quote's slot is one that its collector has, and its month one in which the slot is active
abbrev pub HasItsAssignment : List (ℕ × Given) → ℕ × QuoteRow → Type 0
HasItsAssignment given row =
    (g : Given)
    × (row_by_number (λ g. g.assignment.slot) row.1.slot (held_by row.0 given) ≡ Some g)
    × (is_active row.1.month g.assignment ≡ true)

-- an assignment's collector and slot are within their limits, and its first month isn't after its last
pub record IsWellMade (row : ℕ × Assignment) : Type 0 where
  pub months : row.1.first_month ≤ row.1.last_month
  pub collector : 1 ≤ row.0
  pub slot : (1 ≤ row.1.slot) × (row.1.slot ≤ GREATEST_SLOT)

-- the slot that names an assignment's series is there, names its own series, and prices the same item
abbrev pub HasItsSeries : List (ℕ × Given) → ℕ × Given → Type 0
HasItsSeries given row =
    (g : Given)
    × (row_by_number (λ g. g.assignment.slot) row.1.series.slot (held_by row.1.series.collector given) ≡ Some g)
    × (g.series ≡ row.1.series)
    × (g.assignment.item ≡ row.1.assignment.item)

-- two assignments of one series have no month in common
abbrev pub AreApart : ℕ × Given → ℕ × Given → Type 0
AreApart a b =
    a.1.series ≡ b.1.series → (month : ℕ) → is_active month a.1.assignment ≡ true →
    is_active month b.1.assignment ≡ true → ⊥

-- it is so of whatever two rows
abbrev pub AllPairs : {X : Type 0} → (X → X → Type 0) → List X → Type 0
AllPairs P [] = ⊤
AllPairs P (x ∷ xs) = AllByRecursion (P x) xs × AllPairs P xs

-- a plan has its nodes in the order of codes
abbrev pub HasNodesInOrder : Plan → Type 0
HasNodesInOrder p = IsInOrder code_cmp (λ n. n.code) p.nodes

pub record IsSound (o : Office) : Type 0 where
  -- isolation asks no more than this
  pub orderly : IsOrderly o
  -- each assignment is one that there can be, and prices an item that is there
  pub made : AllByRecursion (λ row. IsWellMade (row.0, row.1.assignment)) o.assignments
  pub priced : AllByRecursion (HasItsItem o) o.assignments
  -- each series is named by its first slot, and has one assignment a month
  pub series : AllByRecursion (HasItsSeries o.assignments) o.assignments
  pub apart : AllPairs AreApart o.assignments
  -- each quote has its assignment, in whose months it is
  pub quoted : AllByRecursion (HasItsAssignment o.assignments) o.quotes
  -- the nodes of each plan are by code
  pub nodes : AllByRecursion HasNodesInOrder o.plans
  -- each release has the frozen quotes of the office's series, and is what is released after those before it
  pub frozen : AllByRecursion (HasFrozenList o.assignments) o.releases
  pub released : AreReleased o.plans [] o.releases
