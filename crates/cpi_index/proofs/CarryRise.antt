-- The carried prices of a month are by series, as its bases are.
use Rattle.std.proofs.Common.{◌≡◌, ℕ, ◌+◌, ◌≤◌, Bool, true, false, cond, eqb, List, [], ◌∷◌, Option, Some, None, map}
use Rattle.std.proofs.Common.{refl, ap, ◌∙◌, arith, option_map, unwrap_or}
use Rattle.std.proofs.lemmas.Bool.Decides.{nat_tests}
use Rattle.std.specs.Prelude.{filter}
use Rattle.std.specs.List.{filter_map, cons_option}
use Rattle.cpi_codes.specs.declared.codes.Code.{Code}
use Rattle.cpi_survey.specs.declared.mark.Mark.{Mark}
use Rattle.cpi_survey.specs.declared.mark.Mark.TheVariants.{Price, Missing, Comparable, Other}
use Rattle.cpi_plan.specs.Plan.{Plan}
use Rattle.cpi_index.specs.Carried.{Carried}
use Rattle.cpi_index.specs.Frozen.{Frozen}
use Rattle.cpi_index.specs.Row.{Row}
use Rattle.cpi_index.specs.Aggregate.{with_mark, movement_now, movement_before}
use Rattle.cpi_index.specs.Series.{element_at, rises_from, are_by_series, carried_serial, row_serial}
use Rattle.cpi_index.specs.Sample.{aggregate_of, is_placed}
use Rattle.cpi_index.specs.Month.{row_of_base, rows_of_month, sample_rows, carried_in_group, carried_price}
use Rattle.cpi_index.specs.Month.{carried_in_month}
use Rattle.cpi_index.proofs.Merge.{Rise, head_of, from_head, weaker}

-- a look-up by a number finds that number
found : (n : ℕ) (b : Carried) (xs : List Carried) → carried_serial b ≡ n →
    carried_serial (unwrap_or (element_at carried_serial n xs) b) ≡ n
found n b [] e = e
found n b (x ∷ xs) e = cases (eqb (carried_serial x) n) refl (found n b xs e)
  where
    cases : (t : Bool) → eqb (carried_serial x) n ≡ t →
        carried_serial (unwrap_or (element_at carried_serial n xs) b) ≡ n →
        carried_serial (unwrap_or (cond t (Some x) (element_at carried_serial n xs)) b) ≡ n
    cases true s rest = grind (arith, nat_tests)
    cases false s rest = rest

-- a carried price stays with its series
same_series : (now before : ℕ) (c : Carried) (m : Option Mark) →
    carried_serial (with_mark now before c m) ≡ carried_serial c
same_series now before c None = refl
same_series now before c (Some (Missing reason)) = refl
same_series now before c (Some (Price p)) = refl
same_series now before c (Some (Comparable p)) = refl
same_series now before c (Some (Other p)) = refl

module _ (plan : Plan) (all : List Row) (before : List Carried) (frozen : List Frozen) where
  one_more : (n : ℕ) (b : Carried) (o : Option Code) (rest : List Carried) → n ≤ carried_serial b →
      Rise (carried_serial b + 1) rest → Rise n (cons_option
      (option_map (carried_in_group plan all (row_of_base before frozen b)) o) rest)
  one_more n b None rest le h = weaker n (carried_serial b + 1) (map carried_serial rest) (omega (arith, le)) h
  one_more n b (Some a) rest le h =
      let r = row_of_base before frozen b in
      let own = sample_rows plan a all in
      let c = carried_in_group plan all r a in
      let same : carried_serial c ≡ carried_serial b =
      same_series (movement_now own) (movement_before own) r.before r.mark
      ∙ found (carried_serial b) b before refl in
      from_head n (carried_serial c) (map carried_serial rest) (omega (arith, le, same))
      (ap (λ k. rises_from (k + 1) (map carried_serial rest)) same ∙ h)

  carried_rise : (n : ℕ) (bases : List Carried) → Rise n bases →
      Rise n (filter_map (carried_price plan all) (map (row_of_base before frozen) bases))
  carried_rise n [] h = refl
  carried_rise n (b ∷ bases) h =
      let r = head_of n (carried_serial b) (map carried_serial bases) h in
      one_more n b (aggregate_of plan b.item) (filter_map (carried_price plan all)
      (map (row_of_base before frozen) bases))
      r.0 (carried_rise (carried_serial b + 1) bases r.1)

pub carry_rises : (plan : Plan) (bases before : List Carried) (frozen : List Frozen) →
    are_by_series carried_serial bases ≡ true → are_by_series carried_serial
    (carried_in_month plan (rows_of_month bases before frozen)) ≡ true
carry_rises plan bases before frozen h = carried_rise plan (rows_of_month bases before frozen) before frozen 0 bases h

-- so are the rows of each sample
rise_filter : {X : Type 0} (key : X → ℕ) (p : X → Bool) (n : ℕ) (xs : List X) → rises_from n (map key xs) ≡ true →
    rises_from n (map key (filter p xs)) ≡ true
rise_filter key p n [] h = refl
rise_filter key p n (x ∷ xs) h =
    let r = head_of n (key x) (map key xs) h in
    let rest = rise_filter key p (key x + 1) xs r.1 in
    elim (p x) as (λ b. rises_from n (map key (cond b (x ∷ filter p xs) (filter p xs))) ≡ true) [
      | true ↦ from_head n (key x) (map key (filter p xs)) r.0 rest
      | false ↦ weaker n (key x + 1) (map key (filter p xs)) (omega (arith, r.0)) rest
    ]

rows_keys : (before : List Carried) (frozen : List Frozen) (bases : List Carried) →
    map row_serial (rows_of_month bases before frozen) ≡ map carried_serial bases
rows_keys before frozen [] = refl
rows_keys before frozen (b ∷ bases) = ap (λ ks. carried_serial b ∷ ks) (rows_keys before frozen bases)

pub sample_rises : (plan : Plan) (code : Code) (bases before : List Carried) (frozen : List Frozen) →
    are_by_series carried_serial bases ≡ true → are_by_series row_serial
    (sample_rows plan code (rows_of_month bases before frozen)) ≡ true
sample_rises plan code bases before frozen h =
    rise_filter row_serial (λ r. is_placed plan code r.link.item) 0 (rows_of_month bases before frozen)
    (ap (rises_from 0) (rows_keys before frozen bases) ∙ h)
