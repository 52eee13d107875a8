-- A month after a frozen one comes after a December.
use Rattle.std.proofs.Common.{◌≡◌, inl, inr, ℕ, zero, suc, ◌+◌, ◌<◌, ◌≤◌, ◌%◌, List, length, get_or, map, ap, arith}
use Rattle.cpi_release.specs.Releasing.{AreMonths, AreInOrder}
use Rattle.cpi_release.specs.GroupCalls.{Sources, IsAfterFrozen}
use Rattle.cpi_release.proofs.LatestRows.{latest_place}
use Rattle.cpi_release.specs.declared.release.Release.{Release}

late_first : (n : ℕ) → n % 12 ≡ 11 → 11 ≤ n
late_first n h = grind (arith, h)

months_late : (ms : List ℕ) → AreMonths ms → (k : ℕ) → k < length ms → 11 ≤ get_or ms k 0
months_late ms m zero h = late_first (get_or ms 0 0) (m.first 0 h)
months_late ms m (suc k) h =
    let same : suc k ≡ k + 1 = omega arith in
    let here = ap (λ j. get_or ms j 0) same in
    let last = months_late ms m k (omega (arith, h)) in
    elim (m.next k 0 (omega (arith, h))) [
      | inl again ↦ omega (arith, again, last, here)
      | inr next ↦ omega (arith, next, last, here)
    ]

pub late : (s : Sources) (month : ℕ) → AreInOrder s.releases → IsAfterFrozen s month → 12 ≤ month
late s month order after =
    let found = latest_place (λ (r : Release). r.month) after.0 s.releases after.2 after.3 in
    let before = months_late (map (λ r. r.month) s.releases) order.months found.0 found.1 in
    omega (arith, before, found.2, after.1)
