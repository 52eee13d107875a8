-- Bases with the place of their aggregate, and the rows of the samples that they make.
use Rattle.std.proofs.Common.{◌≡◌, ℕ, ◌+◌, ◌≤◌, ◌<◌, Bool, true, false, cond, eqb, List, [], ◌∷◌, ◌++◌, Option, Some}
use Rattle.std.proofs.Common.{None, Ok, Err, length, get_or, take, map, is_some, refl, sym, ap, ◌∙◌, arith, option_map}
use Rattle.std.proofs.Common.{option_and_then}
use Rattle.std.specs.Prelude.{filter, nat_le, unwrap_or, ◌&&◌}
use Rattle.std.specs.List.{filter_map, cons_option}
use Rattle.std.specs.Ordering.{nat_cmp}
use Rattle.std.proofs.lemmas.Bool.Decides.{nat_tests}
use Rattle.std.proofs.lemmas.Cmp.{nat_cmp_total}
use Rattle.std.proofs.lemmas.List.{get_or-map, take_more}
use Rattle.std.proofs.lemmas.List.Elements.{filter_map-append}
use Rattle.cpi_codes.specs.Month.{months_since_2000}
use Rattle.cpi_codes.specs.declared.codes.Code.{Code}
use Rattle.cpi_rows.specs.Keyed.{row_at, IsInOrder, IsPlace}
use Rattle.cpi_rows.proofs.Places.{row_found, missing_at_gap}
use Rattle.cpi_plan.specs.Plan.{Plan}
use Rattle.cpi_plan.specs.declared.plan_rows.Weight.{Weight}
use Rattle.cpi_plan.specs.declared.plan_rows.Place.{Place}
use Rattle.cpi_index.specs.Carried.{Carried}
use Rattle.cpi_index.specs.Frozen.{Frozen}
use Rattle.cpi_index.specs.Row.{Row}
use Rattle.cpi_index.specs.Series.{element_at, carried_serial, frozen_serial}
use Rattle.cpi_index.specs.Sample.{aggregate_of, is_in_sample}
use Rattle.cpi_index.specs.Month.{row_of_base, rows_of_month}
use Rattle.cpi_index.specs.Places.{place_among, place_in, rows_with_places}
use Rattle.cpi_index.specs.MonthGroups.{base_place, placed_at, placed_base, rows_in_samples}
use Rattle.cpi_index.specs.declared.placed.PlacedRow.{PlacedRow}
use Rattle.cpi_index.proofs.Merge.{Rise, head_of}

-- ---- the place that stands at an item
pub item_found : (ws : List Weight) (ps : List Place) (item i : ℕ) (e : Option ℕ) →
    IsInOrder nat_cmp (λ p. p.item) ps → IsPlace nat_cmp (λ p. p.item) item ps (Ok i) →
    option_and_then (λ a. place_among a ws) (option_map (λ p. p.aggregate) (row_at nat_cmp (λ p. p.item) item ps)) ≡
    get_or (map (λ p. place_among p.aggregate ws) ps) i e
item_found ws [] item i e order place = absurd (omega (arith, place.0))
item_found ws (p ∷ ps) item i e order place =
    ap (λ o. option_and_then (λ a. place_among a ws) (option_map (λ (p : Place). p.aggregate) o))
    (row_found nat_cmp_total (λ p. p.item) (p ∷ ps) order item i p place.0 (place.1 p))
    ∙ sym (get_or-map (λ (p : Place). place_among p.aggregate ws) (p ∷ ps) i p e place.0)

pub item_missing : (ws : List Weight) (ps : List Place) (item i : ℕ) →
    IsPlace nat_cmp (λ p. p.item) item ps (Err i) →
    option_and_then (λ a. place_among a ws) (option_map (λ p. p.aggregate) (row_at nat_cmp (λ p. p.item) item ps)) ≡
    None
item_missing ws ps item i place =
    ap (λ o. option_and_then (λ a. place_among a ws) (option_map (λ (p : Place). p.aggregate) o))
    (missing_at_gap nat_cmp_total (λ p. p.item) ps item i place)

-- ---- the rows of the bases that are in samples
module _ (plan : Plan) (before : List Carried) (frozen : List Frozen) where
  abbrev placed : Carried → ℕ → PlacedRow
  placed b k = record { place = k; row = row_of_base before frozen b }

  step : (b : Carried) (t : Bool) (o : Option Code) → aggregate_of plan b.item ≡ o →
      (ps : List PlacedRow) (bs : List Carried) →
      ps ≡ rows_with_places plan (map (row_of_base before frozen) bs) →
      cons_option (option_map (λ k. placed b k)
      (cond t (option_and_then (λ a. place_among a plan.weights) o) None)) ps ≡
      rows_with_places plan (map (row_of_base before frozen) (cond (t && is_some o) (b ∷ bs) bs))
  step b false o e ps bs h = h
  step b true None e ps bs h = h
  step b true (Some a) e ps bs h =
      ap (λ o. cons_option (option_map (λ k. placed b k) (option_and_then (λ a. place_among a plan.weights) o)) ps)
      (sym e)
      ∙ ap (λ z. cons_option (option_map (λ k. placed b k) (place_in plan b.item)) z) h

  pub in_samples : (bases : List Carried) → rows_in_samples plan before frozen bases ≡
      rows_with_places plan (rows_of_month (filter (is_in_sample plan) bases) before frozen)
  in_samples [] = refl
  in_samples (b ∷ bs) =
      step b (nat_le (months_since_2000 plan.year 1) b.last_month) (aggregate_of plan b.item) refl
      (rows_in_samples plan before frozen bs) (filter (is_in_sample plan) bs) (in_samples bs)

-- one base more
pub one_more_base : (plan : Plan) (before : List Carried) (frozen : List Frozen) (bases : List Carried)
    (places : List (Option ℕ)) (i : ℕ) (b : Carried) (row : Row) → i < length bases →
    places ≡ map (base_place plan) bases → b ≡ get_or bases i b → row ≡ row_of_base before frozen b →
    rows_in_samples plan before frozen (take i bases) ++ placed_at (get_or places i None) row ≡
    rows_in_samples plan before frozen (take (i + 1) bases)
one_more_base plan before frozen bases places i b row within are is made =
    let here : get_or places i None ≡ base_place plan b =
    ap (λ z. get_or z i None) are ∙ get_or-map (base_place plan) bases i b None within
    ∙ ap (base_place plan) (sym is) in
    let front : List PlacedRow = rows_in_samples plan before frozen (take i bases) in
    ap (λ z. front ++ placed_at z row) here
    ∙ ap (λ z. front ++ placed_at (base_place plan b) z) made
    ∙ sym (filter_map-append (placed_base plan before frozen) (take i bases) (b ∷ []))
    ∙ ap (λ z. filter_map (placed_base plan before frozen) (take i bases ++ z ∷ [])) is
    ∙ ap (filter_map (placed_base plan before frozen)) (sym (take_more bases i b within))

-- ---- in January the carried price of the month before is the base itself
module _ (all : List Carried) (frozen : List Frozen) where
  found_later : (y : Carried) (ys : List Carried) (n : ℕ) → carried_serial y + 1 ≤ n →
      element_at carried_serial n (y ∷ ys) ≡ element_at carried_serial n ys
  found_later y ys n le =
      let apart : eqb (carried_serial y) n ≡ false = grind (arith, nat_tests) in
      ap (λ b. cond b (Some y) (element_at carried_serial n ys)) apart

  found_first : (y : Carried) (ys : List Carried) → element_at carried_serial (carried_serial y) (y ∷ ys) ≡ Some y
  found_first y ys =
      let same : eqb (carried_serial y) (carried_serial y) ≡ true = grind (arith, nat_tests) in
      ap (λ b. cond b (Some y) (element_at carried_serial (carried_serial y) ys)) same

  own_row : (y : Carried) → element_at carried_serial (carried_serial y) all ≡ Some y →
      row_of_base [] frozen y ≡ row_of_base all frozen y
  own_row y e =
      let make : Option Carried → Row = λ o. record {
        mark = option_map (λ q. q.mark) (element_at frozen_serial (carried_serial y) frozen);
        link = y;
        before = unwrap_or o y;
      } in
      ap make (sym e)

  own_rows : (m : ℕ) (ys : List Carried) → Rise m ys →
      ((n : ℕ) → m ≤ n → element_at carried_serial n all ≡ element_at carried_serial n ys) →
      rows_of_month ys [] frozen ≡ rows_of_month ys all frozen
  own_rows m [] h e = refl
  own_rows m (y ∷ ys) h e =
      let r = head_of m (carried_serial y) (map carried_serial ys) h in
      ap (λ z. z ∷ rows_of_month ys [] frozen)
      (own_row y (e (carried_serial y) r.0 ∙ found_first y ys))
      ∙ ap (λ z. row_of_base all frozen y ∷ z) (own_rows (carried_serial y + 1) ys r.1
      (λ n le. e n (omega (arith, r.0)) ∙ found_later y ys n le))

pub own_before : (bases : List Carried) (frozen : List Frozen) → Rise 0 bases →
    rows_of_month bases [] frozen ≡ rows_of_month bases bases frozen
own_before bases frozen h = own_rows bases frozen 0 bases h (λ n le. refl)
