-- Two plans are the same if and only if they are equal.
use Rattle.std.proofs.Common.{◌≡◌, ℕ, Bool, true, List, Option, Some, None, refl, ap, subst, ◌&&◌, ◌==◌}
use Rattle.std.specs.Bool.{Decides}
use Rattle.std.specs.Cmp.Lexicographic.{pointwise, pointwise_decides, bytes_decides}
use Rattle.std.specs.Ordering.{is_eq}
use Rattle.std.proofs.lemmas.Bool.Decides.{Decides-eqb}
use Rattle.std.proofs.lemmas.Cmp.{tied_itself}
use Rattle.cpi_codes.specs.CodeOrder.{is_same_code}
use Rattle.cpi_codes.specs.Text.{same_text}
use Rattle.cpi_codes.specs.declared.codes.Code.{Code}
use Rattle.cpi_codes.specs.contracts.codes.CodeOrd.TheImpl.Laws.{total-law}
use Rattle.cpi_rows.proofs.Truth.{and_first, and_second, and_true}
use Rattle.cpi_plan.specs.declared.plan_rows.Node.{Node}
use Rattle.cpi_plan.specs.declared.plan_rows.Weight.{Weight}
use Rattle.cpi_plan.specs.declared.plan_rows.Place.{Place}
use Rattle.cpi_plan.specs.Plan.{Plan}
use Rattle.cpi_plan.specs.SamePlan.{same_node, same_weight, same_place, same_reference, same_plan}
use Rattle.cpi_plan.proofs.FaultLemmas.{equal_is}

code_decides : (c d : Code) → Decides (is_same_code c d) (c ≡ d)
code_decides c d = (equal_is c d, λ e. subst (λ x. is_same_code c x ≡ true) e (ap is_eq (tied_itself total-law c)))

node_decides : (a b : Node) → Decides (same_node a b) (a ≡ b)
node_decides a b = (is, cases)
  where
    is : same_node a b ≡ true → a ≡ b
    is e =
        let front = and_first (is_same_code a.code b.code && same_text a.title b.title) (a.weight == b.weight) e in
        let code : a.code ≡ b.code = (code_decides a.code b.code).0
        (and_first (is_same_code a.code b.code) (same_text a.title b.title) front) in
        let title : a.title ≡ b.title = (bytes_decides a.title b.title).0
        (and_second (is_same_code a.code b.code) (same_text a.title b.title) front) in
        let weight : a.weight ≡ b.weight = (Decides-eqb a.weight b.weight).0
        (and_second (is_same_code a.code b.code && same_text a.title b.title) (a.weight == b.weight) e) in
        λ n. record { code = code n; title = title n; weight = weight n }

    cases : a ≡ b → same_node a b ≡ true
    cases e = and_true (is_same_code a.code b.code && same_text a.title b.title) (a.weight == b.weight)
        (and_true (is_same_code a.code b.code) (same_text a.title b.title)
        ((code_decides a.code b.code).1 (ap (λ x. x.code) e))
        ((bytes_decides a.title b.title).1 (ap (λ x. x.title) e)))
        ((Decides-eqb a.weight b.weight).1 (ap (λ x. x.weight) e))

weight_decides : (a b : Weight) → Decides (same_weight a b) (a ≡ b)
weight_decides a b = (is, cases)
  where
    is : same_weight a b ≡ true → a ≡ b
    is e =
        let code : a.code ≡ b.code = (code_decides a.code b.code).0
        (and_first (is_same_code a.code b.code) (a.parts == b.parts) e) in
        let parts : a.parts ≡ b.parts = (Decides-eqb a.parts b.parts).0
        (and_second (is_same_code a.code b.code) (a.parts == b.parts) e) in
        λ n. record { code = code n; parts = parts n }

    cases : a ≡ b → same_weight a b ≡ true
    cases e = and_true (is_same_code a.code b.code) (a.parts == b.parts)
        ((code_decides a.code b.code).1 (ap (λ x. x.code) e))
        ((Decides-eqb a.parts b.parts).1 (ap (λ x. x.parts) e))

place_decides : (a b : Place) → Decides (same_place a b) (a ≡ b)
place_decides a b = (is, cases)
  where
    is : same_place a b ≡ true → a ≡ b
    is e =
        let item : a.item ≡ b.item = (Decides-eqb a.item b.item).0
        (and_first (a.item == b.item) (is_same_code a.aggregate b.aggregate) e) in
        let aggregate : a.aggregate ≡ b.aggregate = (code_decides a.aggregate b.aggregate).0
        (and_second (a.item == b.item) (is_same_code a.aggregate b.aggregate) e) in
        λ n. record { item = item n; aggregate = aggregate n }

    cases : a ≡ b → same_place a b ≡ true
    cases e = and_true (a.item == b.item) (is_same_code a.aggregate b.aggregate)
        ((Decides-eqb a.item b.item).1 (ap (λ x. x.item) e))
        ((code_decides a.aggregate b.aggregate).1 (ap (λ x. x.aggregate) e))

reference_decides : (a b : Option ℕ) → Decides (same_reference a b) (a ≡ b)
reference_decides None None = (λ e. refl, λ e. refl)
reference_decides None (Some y) = (λ e. cc, λ e. cc)
reference_decides (Some x) None = (λ e. cc, λ e. cc)
reference_decides (Some x) (Some y) = (
  λ e. ap (λ n. Some n) ((Decides-eqb x y).0 e),
  λ e. let same : x ≡ y = cc in
      (Decides-eqb x y).1 same,
)

module _ (a b : Plan) where
  abbrev of_year : Bool
  of_year = a.year == b.year

  abbrev of_nodes : Bool
  of_nodes = pointwise same_node a.nodes b.nodes

  abbrev of_weights : Bool
  of_weights = pointwise same_weight a.weights b.weights

  abbrev of_places : Bool
  of_places = pointwise same_place a.places b.places

  abbrev of_reference : Bool
  of_reference = same_reference a.reference b.reference

  plan_is : same_plan a b ≡ true → a ≡ b
  plan_is e =
      let all = and_first (of_year && of_nodes && of_weights && of_places) of_reference e in
      let front = and_first (of_year && of_nodes && of_weights) of_places all in
      let first = and_first (of_year && of_nodes) of_weights front in
      let year : a.year ≡ b.year = (Decides-eqb a.year b.year).0 (and_first of_year of_nodes first) in
      let nodes : a.nodes ≡ b.nodes = (pointwise_decides node_decides a.nodes b.nodes).0
      (and_second of_year of_nodes first) in
      let weights : a.weights ≡ b.weights = (pointwise_decides weight_decides a.weights b.weights).0
      (and_second (of_year && of_nodes) of_weights front) in
      let places : a.places ≡ b.places = (pointwise_decides place_decides a.places b.places).0
      (and_second (of_year && of_nodes && of_weights) of_places all) in
      let reference : a.reference ≡ b.reference = (reference_decides a.reference b.reference).0
      (and_second (of_year && of_nodes && of_weights && of_places) of_reference e) in
      λ n. record { year = year n; nodes = nodes n; weights = weights n; places = places n; reference = reference n }

  is_plan : a ≡ b → same_plan a b ≡ true
  is_plan e =
      and_true (of_year && of_nodes && of_weights && of_places) of_reference
      (and_true (of_year && of_nodes && of_weights) of_places
      (and_true (of_year && of_nodes) of_weights
      (and_true of_year of_nodes ((Decides-eqb a.year b.year).1 (ap (λ p. p.year) e))
      ((pointwise_decides node_decides a.nodes b.nodes).1 (ap (λ p. p.nodes) e)))
      ((pointwise_decides weight_decides a.weights b.weights).1 (ap (λ p. p.weights) e)))
      ((pointwise_decides place_decides a.places b.places).1 (ap (λ p. p.places) e)))
      ((reference_decides a.reference b.reference).1 (ap (λ p. p.reference) e))

-- two plans are the same if and only if they are equal
pub plan_decides : (a b : Plan) → Decides (same_plan a b) (a ≡ b)
plan_decides a b = (plan_is a b, is_plan a b)

-- lists that are the same row by row are equal
pub nodes_are : (a b : List Node) → pointwise same_node a b ≡ true → a ≡ b
nodes_are a b e = (pointwise_decides node_decides a b).0 e

pub weights_are : (a b : List Weight) → pointwise same_weight a b ≡ true → a ≡ b
weights_are a b e = (pointwise_decides weight_decides a b).0 e

pub places_are : (a b : List Place) → pointwise same_place a b ≡ true → a ≡ b
places_are a b e = (pointwise_decides place_decides a b).0 e
