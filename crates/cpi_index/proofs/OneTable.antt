-- The indices from carried prices, and those from the rows of a sample.
use Rattle.std.proofs.Common.{◌≡◌, ℕ, zero, suc, ◌*◌, ◌<◌, Bool, true, false, ◌&&◌, cond, List, [], ◌∷◌, Option, Some}
use Rattle.std.proofs.Common.{None, length, get_or, map, filter, sum_by, refl, sym, ap, ◌∙◌, arith, option_map}
use Rattle.std.specs.Option.{option_map_or}
use Rattle.std.specs.List.{filter_map, cons_option}
use Rattle.std.specs.Ordering.{is_eq}
use Rattle.std.proofs.lemmas.Cmp.{tied_itself}
use Rattle.std.proofs.lemmas.List.Sums.{sum_by-cons}
use Rattle.cpi_codes.specs.CodeOrder.{is_same_code}
use Rattle.cpi_codes.specs.CodeText.{is_code_at_or_below}
use Rattle.cpi_codes.specs.Rounding.{rounded_quotient}
use Rattle.cpi_codes.specs.declared.codes.Code.{Code}
use Rattle.cpi_codes.specs.contracts.codes.CodeOrd.TheImpl.Laws.{total-law}
use Rattle.cpi_plan.specs.Plan.{Plan}
use Rattle.cpi_plan.specs.Sums.{weight_under}
use Rattle.cpi_plan.specs.declared.plan_rows.Weight.{Weight}
use Rattle.cpi_plan.proofs.FaultLemmas.{equal_is}
use Rattle.cpi_survey.specs.declared.mark.Mark.{Mark}
use Rattle.cpi_survey.specs.declared.mark.Mark.TheVariants.{Price, Missing, Comparable, Other}
use Rattle.cpi_index.specs.Carried.{Carried}
use Rattle.cpi_index.specs.Frozen.{Frozen}
use Rattle.cpi_index.specs.Row.{Row}
use Rattle.cpi_index.specs.Aggregate.{movement_now, movement_before, with_mark, carried_row, carried_rows, dutot_index}
use Rattle.cpi_index.specs.Sample.{aggregate_of, is_placed, sample}
use Rattle.cpi_index.specs.Month.{row_of_base, rows_of_month, sample_rows, carried_in_group, carried_price}
use Rattle.cpi_index.specs.Month.{carried_in_month}
use Rattle.cpi_index.specs.Group.{group_index, ticks_base}
use Rattle.cpi_index.specs.Indices.{total_of, index_row, elementary_indices}
use Rattle.cpi_index.specs.Means.{are_indices_in, index_of}
use Rattle.cpi_index.specs.OneTable.{KeepItems, IndicesAreOfRows, MeansAreOfRows}
use Rattle.cpi_index.specs.declared.index.NodeIndex.{NodeIndex}
use Rattle.cpi_index.proofs.MeanLemmas.{index_at}

-- ---- the carried prices of a sample
item_kept : (now before : ℕ) (c : Carried) (m : Option Mark) → (with_mark now before c m).item ≡ c.item
item_kept now before c None = refl
item_kept now before c (Some (Missing reason)) = refl
item_kept now before c (Some (Price p)) = refl
item_kept now before c (Some (Comparable p)) = refl
item_kept now before c (Some (Other p)) = refl

module _ (plan : Plan) (e : Code) (all : List Row) where
  abbrev own : List Row
  own = sample_rows plan e all

  abbrev carry : Row → Carried
  carry r = carried_row (movement_now own) (movement_before own) r

  one_more : (r : Row) (rest : List Carried) (rows : List Row) (a : Code) (b : Bool) → is_same_code e a ≡ b →
      is_placed plan e (carried_in_group plan all r a).item ≡ b → rest ≡ map carry rows →
      cond (is_placed plan e (carried_in_group plan all r a).item) (carried_in_group plan all r a ∷ rest) rest ≡
      map carry
      (cond b (r ∷ rows) rows)
  one_more r rest rows a true s t h =
      ap (λ b. cond b (carried_in_group plan all r a ∷ rest) rest) t
      ∙ ap (λ z. carried_in_group plan all r z ∷ rest) (sym (equal_is e a s))
      ∙ ap (λ z. carry r ∷ z) h
  one_more r rest rows a false s t h = ap (λ b. cond b (carried_in_group plan all r a ∷ rest) rest) t ∙ h

  carried_same : (rows : List Row) → KeepItems rows →
      sample plan e (filter_map (carried_price plan all) rows) ≡ map carry (sample_rows plan e rows)
  carried_same [] keep = refl
  carried_same (r ∷ rows) keep = cases (aggregate_of plan r.link.item) refl (carried_same rows keep.1)
    where
      cases : (o : Option Code) → aggregate_of plan r.link.item ≡ o →
          sample plan e (filter_map (carried_price plan all) rows) ≡ map carry (sample_rows plan e rows) →
          sample plan e (cons_option (option_map (carried_in_group plan all r) (aggregate_of plan r.link.item))
          (filter_map (carried_price plan all) rows)) ≡ map carry
          (cond (is_placed plan e r.link.item) (r ∷ sample_rows plan e rows) (sample_rows plan e rows))
      cases None is h =
          ap (λ o. sample plan e (cons_option (option_map (carried_in_group plan all r) o)
          (filter_map (carried_price plan all) rows))) is
          ∙ h
          ∙ sym (ap (λ o. map carry (cond (option_map_or (λ a. is_same_code e a) o false) (r ∷ sample_rows plan e rows)
          (sample_rows plan e rows))) is)
      cases (Some a) is h =
          let own_movement = sample_rows plan a all in
          let item : (carried_in_group plan all r a).item ≡ r.link.item =
          item_kept (movement_now own_movement) (movement_before own_movement) r.before r.mark ∙ keep.0 in
          let placed : is_placed plan e r.link.item ≡ is_same_code e a =
          ap (λ o. option_map_or (λ a. is_same_code e a) o false) is in
          ap (λ o. sample plan e (cons_option (option_map (carried_in_group plan all r) o)
          (filter_map (carried_price plan all) rows))) is
          ∙ one_more r (sample plan e (filter_map (carried_price plan all) rows)) (sample_rows plan e rows) a
          (is_same_code e a) refl (ap (is_placed plan e) item ∙ placed) h
          ∙ sym (ap (λ b. map carry (cond b (r ∷ sample_rows plan e rows) (sample_rows plan e rows))) placed)

  -- ---- the bases of a sample
  base_same : (before : List Carried) (frozen : List Frozen) (bases : List Carried) →
      total_of plan e bases ≡ ticks_base (sample_rows plan e (rows_of_month bases before frozen))
  base_same before frozen [] = refl
  base_same before frozen (b ∷ bases) =
      let f : Carried → ℕ = λ c. c.ticks in
      let g : Row → ℕ = λ r. r.link.ticks in
      let r : Row = row_of_base before frozen b in
      let rows = sample_rows plan e (rows_of_month bases before frozen) in
      let rest = base_same before frozen bases in
      elim (is_placed plan e b.item) as (λ z. sum_by f (cond z (b ∷ sample plan e bases) (sample plan e bases)) ≡
      sum_by g (cond z (r ∷ rows) rows)) [
        | true ↦ omega (arith, rest, sum_by-cons f b (sample plan e bases), sum_by-cons g r rows)
        | false ↦ rest
      ]

pub indices_are : IndicesAreOfRows
indices_are plan bases before frozen keep e =
    let rows = rows_of_month bases before frozen in
    ap (λ z. dutot_index z (total_of plan e bases)) (ap (sum_by (λ (c : Carried). c.ticks))
    (carried_same plan e rows rows keep))
    ∙ ap (λ z. dutot_index (sum_by (λ (c : Carried). c.ticks) (carried_rows (sample_rows plan e rows))) z)
    (base_same plan e rows before frozen bases)

-- ---- the means
map_at : (h : Weight → NodeIndex) (ws : List Weight) (k : ℕ) (d : Weight) →
    get_or (map h ws) k (h d) ≡ h (get_or ws k d)
map_at h [] k d = refl
map_at h (w ∷ ws) zero d = refl
map_at h (w ∷ ws) (suc k) d = map_at h ws k d

of_weights : (plan : Plan) (bases carried : List Carried) (ws : List Weight) →
    are_indices_in ws (map (index_row plan bases carried) ws) ≡ true
of_weights plan bases carried [] = refl
of_weights plan bases carried (w ∷ ws) = ap (λ b. b && are_indices_in ws (map (index_row plan bases carried) ws))
    (ap is_eq (tied_itself total-law w.code)) ∙ of_weights plan bases carried ws

same_sum : (f g : Weight → ℕ) (p : Weight → Bool) (ws : List Weight) →
    ((k : ℕ) (d : Weight) → k < length ws → f (get_or ws k d) ≡ g (get_or ws k d)) →
    sum_by f (filter p ws) ≡ sum_by g (filter p ws)
same_sum f g p [] h = refl
same_sum f g p (w ∷ ws) h =
    let rest = same_sum f g p ws (λ k d l. h (suc k) d (omega (arith, l))) in
    let here : f w ≡ g w = h 0 w (omega arith) in
    elim (p w) as (λ b. sum_by f (cond b (w ∷ filter p ws) (filter p ws)) ≡ sum_by g
    (cond b (w ∷ filter p ws) (filter p ws))) [
      | true ↦ omega (arith, rest, here, sum_by-cons f w (filter p ws), sum_by-cons g w (filter p ws))
      | false ↦ rest
    ]

pub means_are : MeansAreOfRows
means_are plan order bases before frozen keep node =
    let rows = rows_of_month bases before frozen in
    let carried = carried_in_month plan rows in
    let row = index_row plan bases carried in
    let own : Code → ℕ = λ e. group_index (sample_rows plan e rows) in
    let listed = elementary_indices plan bases carried in
    ap (λ z. rounded_quotient z (weight_under node plan.weights))
    (same_sum (λ w. w.parts * index_of listed w.code) (λ w. w.parts * own w.code)
    (λ w. is_code_at_or_below node w.code) plan.weights
    (λ k d l. ap (λ z. (get_or plan.weights k d).parts * z)
    (index_at plan.weights listed k d (row d) order (of_weights plan bases carried plan.weights) l
    ∙ ap (λ (z : NodeIndex). z.index) (map_at row plan.weights k d)
    ∙ indices_are plan bases before frozen keep (get_or plan.weights k d).code)))
