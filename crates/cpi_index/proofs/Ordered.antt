-- What each call answers is in the order that the next one asks for.
use Rattle.std.proofs.Common.{◌≡◌, ◌≤◌, ◌∙◌, ℕ, true, List, [], ◌∷◌, length, take, map, ap, refl, sym, subst}
use Rattle.std.specs.Prelude.{Result, Ok, Err, MatchResult, IfOk}
use Rattle.std.specs.Global.{Vec}
use Rattle.std.proofs.lemmas.List.{take_all}
use Rattle.cpi_index.specs.declared.fault.IndexFault.{IndexFault}
use Rattle.std.specs.declared.cmp.Ordering.TheVariants.{Less}
use Rattle.std.specs.List.{AllByRecursion}
use Rattle.std.specs.List.Sorted.{IsStrictlySortedBy}
use Rattle.std.specs.Ordering.{is_eq}
use Rattle.std.proofs.lemmas.Cmp.{tied_itself}
use Rattle.cpi_codes.specs.CodeOrder.{code_cmp}
use Rattle.cpi_codes.specs.declared.codes.Code.{Code}
use Rattle.cpi_codes.specs.contracts.codes.CodeOrd.TheImpl.Laws.{total-law}
use Rattle.cpi_rows.specs.Keyed.{IsInOrder}
use Rattle.cpi_plan.specs.Plan.{Plan}
use Rattle.cpi_plan.specs.declared.plan_rows.Weight.{Weight}
use Rattle.cpi_plan.specs.declared.plan_rows.Node.{Node}
use Rattle.cpi_index.specs.Carried.{Carried}
use Rattle.cpi_index.specs.Indices.{elementary_indices, index_row}
use Rattle.cpi_index.specs.Means.{are_indices_in, upper_row}
use Rattle.cpi_index.specs.Chaining.{chained_levels}
use Rattle.cpi_index.specs.declared.index.NodeIndex.{NodeIndex}
use Rattle.cpi_index.specs.declared.level.NodeLevel.{NodeLevel}

-- one index for each weight
module _ (plan : Plan) (bases carried : List Carried) where
  one_each : (ws : List Weight) → are_indices_in ws (map (index_row plan bases carried) ws) ≡ true
  one_each [] = refl
  one_each (w ∷ ws) = rw (ap is_eq (tied_itself total-law w.code)) (one_each ws)

  pub indices_are : are_indices_in plan.weights (elementary_indices plan bases carried) ≡ true
  indices_are = one_each plan.weights

-- the means are in the order of the nodes
module _ (plan : Plan) (indices : List NodeIndex) where
  means_above : (c : Code) (ns : List Node) → AllByRecursion (λ n. code_cmp c n.code ≡ Less) ns →
      AllByRecursion (λ x. code_cmp c x.code ≡ Less) (map (upper_row plan indices) ns)
  means_above c [] h = tt
  means_above c (n ∷ ns) h = (h.0, means_above c ns h.1)

  pub means_rise : (ns : List Node) → IsInOrder code_cmp (λ n. n.code) ns →
      IsInOrder code_cmp (λ x. x.code) (map (upper_row plan indices) ns)
  unfolding IsStrictlySortedBy
  means_rise [] h = tt
  means_rise (n ∷ ns) h = (means_above n.code ns h.0, means_rise ns h.1)

-- the levels are in the order of the indices
module _ (december : List NodeLevel) where
  levels_above : (c : Code) (xs : List NodeIndex) → AllByRecursion (λ x. code_cmp c x.code ≡ Less) xs →
      AllByRecursion (λ l. code_cmp c l.code ≡ Less) (chained_levels december xs)
  levels_above c [] h = tt
  levels_above c (x ∷ xs) h = (h.0, levels_above c xs h.1)

  pub levels_rise : (xs : List NodeIndex) → IsInOrder code_cmp (λ x. x.code) xs →
      IsInOrder code_cmp (λ l. l.code) (chained_levels december xs)
  unfolding IsStrictlySortedBy
  levels_rise [] h = tt
  levels_rise (x ∷ xs) h = (levels_above x.code xs h.0, levels_rise xs h.1)

pub none_in_order : IsInOrder code_cmp (λ (l : NodeLevel). l.code) []
unfolding IsStrictlySortedBy
none_in_order = tt

-- all nodes are done when none is left
pub means_done : (plan : Plan) → IsInOrder code_cmp (λ n. n.code) plan.nodes →
    (indices rows : List NodeIndex) (nodes : List Node) (i : ℕ) → nodes ≡ plan.nodes → length nodes ≤ i →
    rows ≡ map (upper_row plan indices) (take i nodes) → IsInOrder code_cmp (λ x. x.code) rows
means_done plan order indices rows nodes i is l e =
    subst (IsInOrder code_cmp (λ x. x.code)) (sym (e ∙ ap (map (upper_row plan indices)) (take_all i nodes l ∙ is)))
    (means_rise plan indices plan.nodes order)

-- a table that was chained is in the order of its indices
pub table_rises : (december : List NodeLevel) (within : List NodeIndex) (r : Result (Vec NodeLevel) IndexFault)
    (P : Type 0) (Q : IndexFault → Type 0) → MatchResult r (λ v. P × (v.items ≡ chained_levels december within)) Q →
    IsInOrder code_cmp (λ x. x.code) within → IfOk r (λ v. IsInOrder code_cmp (λ l. l.code) v.items)
table_rises december within (Ok v) P Q is h = subst (IsInOrder code_cmp (λ l. l.code)) (sym is.1)
    (levels_rise december within h)
table_rises december within (Err f) P Q is h = tt
