-- What a month after the first release may ask for, over releases in their order.
use Rattle.std.proofs.Common.{◌≡◌, ℕ, Bool, true, false, cond, List, [], Option, Some, None, refl, sym, ap, ◌∙◌}
use Rattle.std.specs.Option.{option_map_or}
use Rattle.cpi_codes.specs.Month.{year_of}
use Rattle.cpi_codes.specs.declared.codes.Code.{Code}
use Rattle.std.specs.List.Sorted.{IsStrictlySortedBy}
use Rattle.cpi_codes.specs.CodeOrder.{code_cmp}
use Rattle.cpi_rows.specs.Keyed.{row_by_number, IsInOrder}
use Rattle.cpi_plan.specs.Plan.{Plan}
use Rattle.cpi_index.specs.Frozen.{Frozen}
use Rattle.cpi_index.specs.Row.{Row}
use Rattle.cpi_index.specs.Series.{are_by_series, carried_serial, frozen_serial, row_serial}
use Rattle.cpi_index.specs.Month.{sample_rows, carried_in_month}
use Rattle.cpi_index.proofs.Kept.{bases_rise}
use Rattle.cpi_index.proofs.CarryRise.{carry_rises, sample_rises}
use Rattle.cpi_release.specs.Releases.{latest_release, carried_of, frozen_of, levels_of, link_month, bases_in}
use Rattle.cpi_release.specs.Releases.{before_in}
use Rattle.cpi_release.specs.Releases.{rows_of_bases}
use Rattle.cpi_release.specs.Releasing.{Freeze, AreInOrder, IsOrdered, has_an_earlier, plan_in, release_of_month}
use Rattle.cpi_release.specs.Releasing.{table_in}
use Rattle.cpi_release.specs.declared.level.Level.{Level}
use Rattle.cpi_index.specs.Carried.{Carried}
use Rattle.cpi_release.specs.GroupCalls.{Sources, group_of, IsAfterFrozen}
use Rattle.cpi_release.specs.Asking.{CanAsk}
use Rattle.cpi_release.specs.declared.release.Release.{Release}

-- ---- over releases whose lists are in their order
module _ (releases : List Release) (ordered : (month : ℕ) (r : Release) → latest_release releases month ≡ Some r →
    IsOrdered r) where
  carried_in_order : (month : ℕ) → are_by_series carried_serial (carried_of releases month) ≡ true
  carried_in_order month = cases (latest_release releases month) refl
    where
      cases : (o : Option Release) → latest_release releases month ≡ o →
          are_by_series carried_serial (option_map_or (λ r. r.carried) o []) ≡ true
      cases None e = refl
      cases (Some r) e = (ordered month r e).carried

  frozen_in_order : (month : ℕ) → are_by_series frozen_serial (frozen_of releases month) ≡ true
  frozen_in_order month = cases (latest_release releases month) refl
    where
      cases : (o : Option Release) → latest_release releases month ≡ o →
          are_by_series frozen_serial (option_map_or (λ r. r.frozen) o []) ≡ true
      cases None e = refl
      cases (Some r) e = (ordered month r e).frozen

  pub bases_in_order : (plan : Plan) (month : ℕ) → are_by_series carried_serial (bases_in plan releases month) ≡ true
  bases_in_order plan month = bases_rise plan (carried_of releases (link_month month))
      (frozen_of releases (link_month month)) (carried_in_order (link_month month)) (frozen_in_order (link_month month))

  pub carry_in_order : (plan : Plan) (month : ℕ) (frozen : List Frozen) →
      are_by_series carried_serial (carried_in_month plan (rows_of_bases plan releases month frozen)) ≡ true
  carry_in_order plan month frozen = carry_rises plan (bases_in plan releases month)
      (before_in plan releases month) frozen (bases_in_order plan month)

module _ (releases : List Release) (order : AreInOrder releases) where
  pub carried_ordered : (month : ℕ) → are_by_series carried_serial (carried_of releases month) ≡ true
  carried_ordered month = carried_in_order releases order.ordered month

  pub frozen_ordered : (month : ℕ) → are_by_series frozen_serial (frozen_of releases month) ≡ true
  frozen_ordered month = frozen_in_order releases order.ordered month

  pub levels_ordered : (month : ℕ) → IsInOrder code_cmp (λ l. l.code) (levels_of releases month)
  unfolding IsStrictlySortedBy
  levels_ordered month = cases (latest_release releases month) refl
    where
      cases : (o : Option Release) → latest_release releases month ≡ o →
          IsInOrder code_cmp (λ l. l.code) (option_map_or (λ r. r.levels) o [])
      cases None e = tt
      cases (Some r) e = (order.ordered month r e).levels

  pub carry_ordered : (plan : Plan) (month : ℕ) (frozen : List Frozen) →
      are_by_series carried_serial (carried_in_month plan (rows_of_bases plan releases month frozen)) ≡ true
  carry_ordered plan month frozen = carry_in_order releases order.ordered plan month frozen

  pub rows_ordered : (plan : Plan) (month : ℕ) (frozen : List Frozen) (code : Code) →
      are_by_series row_serial (sample_rows plan code (rows_of_bases plan releases month frozen)) ≡ true
  rows_ordered plan month frozen code = sample_rises plan code (bases_in plan releases month)
      (before_in plan releases month) frozen (bases_in_order releases order.ordered plan month)

-- the plan of a month after the first release is that of its year
pub year_plan : (plans : List Plan) (releases : List Release) (month : ℕ) (p : Plan) →
    Some p ≡ plan_in plans releases month → row_by_number (λ p. p.year) (year_of month) plans ≡ Some p
year_plan plans releases month p e = cases (has_an_earlier releases month) refl
  where
    cases : (b : Bool) → has_an_earlier releases month ≡ b → row_by_number (λ p. p.year) (year_of month) plans ≡ Some p
    cases true h = sym (ap (λ b. cond b (row_by_number (λ p. p.year) (year_of month) plans) None) h) ∙ sym e
    cases false h = let no : Some p ≡ None = e ∙ ap (λ b. cond b (row_by_number (λ p. p.year) (year_of month) plans)
        None) h in cc

-- the groups that are read are the samples of the month
pub group_is : (s : Sources) (month : ℕ) (p : Plan) (frozen : List Frozen) →
    row_by_number (λ p. p.year) (year_of month) s.plans ≡ Some p → s.quotes month ≡ frozen → (code : Code) →
    group_of s month code ≡ sample_rows p code (rows_of_bases p s.releases month frozen)
group_is s month p frozen e q code =
    let read : Option Plan → List Frozen → List Row =
    λ o f. elim o [ None ↦ [] | Some p ↦ sample_rows p code (rows_of_bases p s.releases month f) ] in
    ap (λ o. read o (s.quotes month)) e ∙ ap (λ f. read (Some p) f) q

pub can_ask : (s : Sources) (month : ℕ) (p : Plan) (frozen : List Frozen) → AreInOrder s.releases →
    IsAfterFrozen s month → ((code : Code) → group_of s month code ≡ sample_rows p code
    (rows_of_bases p s.releases month frozen)) → CanAsk s month
can_ask s month p frozen order after h = record {
  after = after;
  ordered = λ code. ap (are_by_series row_serial) (h code) ∙ rows_ordered s.releases order p month frozen code;
}

abbrev release_with : Freeze → List Carried → List Level → Release
release_with x carried levels = record {
  month = x.month;
  revision = x.revision;
  frozen_at = x.frozen_at;
  publishes =
      x.publishes;
  frozen = x.frozen;
  carry = x.carry;
  carried = carried;
  levels = levels;
}

pub is_released : (p : Plan) (releases : List Release) (x : Freeze) (carried : List Carried) (levels : List Level)
    (r : Release) → r ≡ release_with x carried levels →
    carried ≡ carried_in_month p (rows_of_bases p releases x.month x.frozen) →
    levels ≡ table_in p releases x.month (rows_of_bases p releases x.month x.frozen) → r ≡ release_of_month (Some p)
    releases x
is_released p releases x carried levels r e c l = e ∙ ap (λ z. release_with x z levels) c
    ∙ ap (release_with x (carried_in_month p (rows_of_bases p releases x.month x.frozen))) l
