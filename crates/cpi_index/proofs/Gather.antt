-- The carried prices of all aggregates, one aggregate after the other, are those of the month in another order.
use Rattle.std.proofs.Common.{◌≡◌, Bool, true, false, ◌||◌, cond, List, [], ◌∷◌, ◌++◌, Option, Some, None, map, refl}
use Rattle.std.proofs.Common.{sym, ap, ◌∙◌, subst, option_map}
use Rattle.std.specs.Option.{option_map_or}
use Rattle.std.specs.List.{filter_map, cons_option, list_any, flat_map}
use Rattle.std.specs.List.Sorted.{IsPermutation}
use Rattle.std.specs.Ordering.{is_eq}
use Rattle.std.proofs.lemmas.List.Sorted.{IsPermutation-refl, IsPermutation-cons, IsPermutation-append_right}
use Rattle.std.proofs.lemmas.List.Sorted.{IsPermutation-middle, IsPermutation-trans}
use Rattle.std.proofs.lemmas.List.Concat.{flat_map-cons}
use Rattle.std.proofs.lemmas.Map.Keys.{sorted_tail, sorted_head}
use Rattle.std.specs.declared.cmp.Ordering.TheVariants.{Less}
use Rattle.std.specs.Ordering.{ordering_reverse}
use Rattle.std.specs.List.{AllByRecursion}
use Rattle.cpi_codes.specs.contracts.codes.CodeOrd.TheImpl.Laws.{total-law}
use Rattle.cpi_codes.specs.CodeOrder.{is_same_code}
use Rattle.cpi_codes.specs.declared.codes.Code.{Code}
use Rattle.cpi_plan.specs.Plan.{Plan, IsPlan}
use Rattle.cpi_plan.specs.declared.plan_rows.Weight.{Weight}
use Rattle.cpi_plan.proofs.FaultLemmas.{equal_is}
use Rattle.cpi_index.specs.Carried.{Carried}
use Rattle.cpi_index.specs.Row.{Row}
use Rattle.cpi_index.specs.Aggregate.{carried_rows}
use Rattle.cpi_index.specs.Sample.{aggregate_of}
use Rattle.cpi_index.specs.Month.{sample_rows, carried_in_group, carried_in_month}
use Rattle.cpi_index.proofs.Placing.{AreInCodeOrder, by_code, placed_any}
use Rattle.cpi_index.proofs.Bridge.{has_place}

-- equals are permutations
same_list : {X : Type 0} (xs ys : List X) → xs ≡ ys → IsPermutation xs ys
same_list xs ys e = subst (IsPermutation xs) e (IsPermutation-refl xs)

none_above : (w : Weight) (ws : List Weight) → AllByRecursion (λ y. by_code w y ≡ Less) ws →
    list_any (λ y. is_same_code y.code w.code) ws ≡ false
none_above w [] h = refl
none_above w (y ∷ ys) h = rw (ap is_eq (total-law.antisymm y.code w.code ∙ ap ordering_reverse h.0))
    (none_above w ys h.1)

-- a code comes once
none_more : (w : Weight) (ws : List Weight) (a : Code) → AreInCodeOrder (w ∷ ws) → is_same_code w.code a ≡ true →
    list_any (λ y. is_same_code y.code a) ws ≡ false
none_more w ws a s t = subst (λ a. list_any (λ y. is_same_code y.code a) ws ≡ false) (equal_is w.code a t)
    (none_above w ws (sorted_head by_code w ws s))

-- ---- one more row
module _ (a : Code) (c : Carried) (own : Weight → List Carried) where
  -- the lists, with the carried price in front of the list of its aggregate
  abbrev with_one : Weight → List Carried
  with_one w = cond (is_same_code w.code a) (c ∷ own w) (own w)

  none_here : (ws : List Weight) → list_any (λ w. is_same_code w.code a) ws ≡ false → flat_map with_one ws ≡
      flat_map own ws
  none_here [] h = refl
  none_here (w ∷ ws) h = cases (is_same_code w.code a) refl h (none_here ws)
    where
      cases : (b : Bool) → is_same_code w.code a ≡ b → (b || list_any (λ w. is_same_code w.code a) ws) ≡ false →
          (list_any (λ w. is_same_code w.code a) ws ≡ false → flat_map with_one ws ≡ flat_map own ws) →
          flat_map with_one (w ∷ ws) ≡ flat_map own (w ∷ ws)
      cases true t h rest = cc
      cases false t h rest =
          flat_map-cons with_one w ws ∙ ap (λ b. cond b (c ∷ own w) (own w) ++ flat_map with_one ws) t
          ∙ ap (λ z. own w ++ z) (rest h) ∙ sym (flat_map-cons own w ws)

  one_here : (ws : List Weight) → AreInCodeOrder ws → list_any (λ w. is_same_code w.code a) ws ≡ true →
      IsPermutation (flat_map with_one ws) (c ∷ flat_map own ws)
  one_here [] s h = cc
  one_here (w ∷ ws) s h = cases (is_same_code w.code a) refl h (one_here ws (sorted_tail by_code w ws s))
    where
      cases : (b : Bool) → is_same_code w.code a ≡ b → (b || list_any (λ w. is_same_code w.code a) ws) ≡ true →
          (list_any (λ w. is_same_code w.code a) ws ≡ true → IsPermutation (flat_map with_one ws)
          (c ∷ flat_map own ws)) →
          IsPermutation (flat_map with_one (w ∷ ws)) (c ∷ flat_map own (w ∷ ws))
      cases true t h rest =
          same_list _ _ (flat_map-cons with_one w ws ∙ ap (λ b. cond b (c ∷ own w) (own w) ++ flat_map with_one ws) t
          ∙ ap (λ z. c ∷ (own w ++ z)) (none_here ws (none_more w ws a s t))
          ∙ ap (λ z. c ∷ z) (sym (flat_map-cons own w ws)))
      cases false t h rest =
          IsPermutation-trans _ _ _
          (same_list _ _ (flat_map-cons with_one w ws ∙ ap (λ b. cond b (c ∷ own w) (own w) ++ flat_map with_one ws) t))
          (IsPermutation-trans _ _ _
          (IsPermutation-append_right (own w) (flat_map with_one ws) (c ∷ flat_map own ws) (rest h))
          (IsPermutation-trans _ _ _
          (IsPermutation-middle (own w) c (flat_map own ws))
          (same_list _ _ (ap (λ z. c ∷ z) (sym (flat_map-cons own w ws))))))

-- ---- the rows of all aggregates, one aggregate after the other
module _ (plan : Plan) (kept : IsPlan plan) (f : Row → Code → Carried) where
  abbrev of_aggregate : List Row → Weight → List Carried
  of_aggregate rows w = map (λ r. f r w.code) (sample_rows plan w.code rows)

  abbrev of_row : Row → Option Carried
  of_row r = option_map (f r) (aggregate_of plan r.link.item)

  nothing_yet : (ws : List Weight) → flat_map (of_aggregate []) ws ≡ []
  nothing_yet [] = refl
  nothing_yet (w ∷ ws) = flat_map-cons (of_aggregate []) w ws ∙ nothing_yet ws

  same_lists : {X : Type 0} (g h : Weight → List X) → ((w : Weight) → g w ≡ h w) → (ws : List Weight) →
      flat_map g ws ≡ flat_map h ws
  same_lists g h e [] = refl
  same_lists g h e (w ∷ ws) = flat_map-cons g w ws ∙ ap (λ z. z ++ flat_map g ws) (e w)
      ∙ ap (λ z. h w ++ z) (same_lists g h e ws) ∙ sym (flat_map-cons h w ws)

  -- of the aggregate of the row, and of any other
  own_or_not : (r : Row) (a : Code) (w : Weight) (rows : List Row) (b : Bool) → is_same_code w.code a ≡ b →
      map (λ r. f r w.code) (cond b (r ∷ sample_rows plan w.code rows) (sample_rows plan w.code rows)) ≡ cond b
      (f r a ∷ of_aggregate rows w) (of_aggregate rows w)
  own_or_not r a w rows true t = ap (λ c. f r c ∷ of_aggregate rows w) (equal_is w.code a t)
  own_or_not r a w rows false t = refl

  with_row : (r : Row) (rows : List Row) (o : Option Code) → aggregate_of plan r.link.item ≡ o →
      IsPermutation (flat_map (of_aggregate rows) plan.weights) (filter_map of_row rows) →
      IsPermutation (flat_map (of_aggregate (r ∷ rows)) plan.weights)
      (cons_option (option_map (f r) o) (filter_map of_row rows))
  with_row r rows None e h =
      IsPermutation-trans _ _ _
      (same_list _ _ (same_lists (of_aggregate (r ∷ rows)) (of_aggregate rows)
      (λ w. ap (λ o. map (λ r. f r w.code) (cond (option_map_or (λ a. is_same_code w.code a) o false)
      (r ∷ sample_rows plan w.code rows) (sample_rows plan w.code rows))) e) plan.weights))
      h
  with_row r rows (Some a) e h =
      IsPermutation-trans _ _ _
      (same_list _ _ (same_lists (of_aggregate (r ∷ rows)) (with_one a (f r a) (of_aggregate rows))
      (λ w. ap (λ o. map (λ r. f r w.code) (cond (option_map_or (λ a. is_same_code w.code a) o false)
      (r ∷ sample_rows plan w.code rows) (sample_rows plan w.code rows))) e
      ∙ own_or_not r a w rows (is_same_code w.code a) refl) plan.weights))
      (IsPermutation-trans _ _ _
      (one_here a (f r a) (of_aggregate rows) plan.weights kept.weights_in_order
      (sym (placed_any plan.weights a) ∙ has_place plan kept r.link.item a e))
      (IsPermutation-cons (f r a) _ _ h))

  pub gathered : (rows : List Row) → IsPermutation (flat_map (of_aggregate rows) plan.weights) (filter_map of_row rows)
  gathered [] = same_list _ _ (nothing_yet plan.weights)
  gathered (r ∷ rows) = with_row r rows (aggregate_of plan r.link.item) refl (gathered rows)

-- the carried prices of each aggregate's sample, one aggregate after the other
abbrev pub by_aggregate : Plan → List Row → List Weight → List Carried
by_aggregate plan rows ws = flat_map (λ w. carried_rows (sample_rows plan w.code rows)) ws

pub carried_gathered : (plan : Plan) → IsPlan plan → (rows : List Row) →
    IsPermutation (by_aggregate plan rows plan.weights) (carried_in_month plan rows)
carried_gathered plan kept rows = gathered plan kept (carried_in_group plan rows) rows
