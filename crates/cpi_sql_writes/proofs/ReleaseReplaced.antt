-- The rows of a release are dropped and others added one by one, which replaces them.
use Rattle.std.proofs.Common.{◌≡◌, ◌≤◌, ℕ, List, Some, Option, refl}
use Rattle.std.proofs.lemmas.Bool.{and_parts, le-leb}
use Rattle.std.specs.declared.cmp.Ordering.{Ordering}
use Rattle.std.specs.Cmp.{IsTotalOrder}
use Rattle.sqlite.specs.Order.{Row, column}
use Rattle.cpi_rows.specs.Keyed.{IsInOrder}
use Rattle.cpi_rows.specs.Held.{held_cmp, held_key}
use Rattle.cpi_sql_rows.specs.Lists.{month_at, release_from_key, release_number}
use Rattle.cpi_sql_writes.specs.Rest.{IsOfRelease, KeepsBut}
use Rattle.cpi_sql_rows.specs.Shelf.{AllStandOf, IsKeyed}
use Rattle.cpi_sql_writes.specs.ReleaseSteps.{beside_release, is_of_release, IsReleaseNumber, ReplacesList}
use Rattle.cpi_sql_writes.proofs.AddedRows.{all_stand, list_kept, list_replaced}
use Rattle.cpi_sql_rows.proofs.ReleaseRows.{beside, release_named, release_numbered}
use Rattle.cpi_sql_writes.proofs.Replaced.{Replaced}

module _ {X : Type 0} (from : Row → Option X) (n month v : ℕ) (is : month_at n ≡ Some month) (low : 1 ≤ v)
    (high : v ≤ 9) where
  abbrev number : ℕ
  number = release_number month v

  is_number : IsReleaseNumber n v number
  is_number = rw (is, le-leb 1 v low, le-leb v 9 high) refl

  -- each row that says the release's number stands for something
  pub release_stands : (xs : List X) (old new : List Row) → ReplacesList from n v xs old new
      → AllStandOf (beside_release from) number new
  release_stands = all_stand (beside_release from) (λ r. release_from_key (column r 1) (column r 2))
      (is_of_release n v) (IsReleaseNumber n v) number is_number (release_named n month v is low high)

  -- each row of another release is there
  pub release_kept : (xs : List X) (old new : List Row) → ReplacesList from n v xs old new
      → KeepsBut (IsOfRelease month v) old new
  release_kept = list_kept (beside_release from) (is_of_release n v) (IsReleaseNumber n v) number is_number
      (IsOfRelease month v) (λ r hit. let both = and_parts _ _ hit in ((n, is, both.0), both.1))

  pub release_replaced : {K : Type 0} {R : K → K → Ordering} (o : IsTotalOrder R) (key : X → K) (xs : List X)
      (old new : List Row) → IsKeyed (held_cmp R) (held_key key) (beside_release from) old → IsInOrder R key xs
      → ReplacesList from n v xs old new → Replaced o key (beside_release from) number xs old new
  release_replaced o key = list_replaced (beside_release from) o key (is_of_release n v) (IsReleaseNumber n v) number
      is_number (λ r k x e hit. release_numbered n month v is r k hit (beside from r k x e).release)
      (λ r x e. release_named n month v is low high r (beside from r number x e).release)
