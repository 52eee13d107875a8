-- Whether two plans are the same. The titles of nodes and the reference month count; the order in which rows were sent
-- doesn't.
use Rattle.std.specs.Prelude.{ℕ, Bool, true, false, ◌&&◌, ◌==◌, Option, Some, None}
use Rattle.std.specs.Cmp.Lexicographic.{pointwise}
use Rattle.cpi_codes.specs.CodeOrder.{is_same_code}
use Rattle.cpi_codes.specs.Text.{same_text}
use Rattle.cpi_plan.specs.Plan.{Plan}
use Rattle.cpi_plan.specs.declared.plan_rows.Weight.{Weight}
use Rattle.cpi_plan.specs.declared.plan_rows.Place.{Place}
use Rattle.cpi_plan.specs.declared.plan_rows.Node.{Node}

abbrev pub same_node : Node → Node → Bool
same_node a b = is_same_code a.code b.code && same_text a.title b.title && a.weight == b.weight

abbrev pub same_weight : Weight → Weight → Bool
same_weight a b = is_same_code a.code b.code && a.parts == b.parts

abbrev pub same_place : Place → Place → Bool
same_place a b = a.item == b.item && is_same_code a.aggregate b.aggregate

abbrev pub same_reference : Option ℕ → Option ℕ → Bool
same_reference None None = true
same_reference (Some a) (Some b) = a == b
same_reference _ _ = false

abbrev pub same_plan : Plan → Plan → Bool
same_plan a b = a.year == b.year && pointwise same_node a.nodes b.nodes && pointwise same_weight a.weights b.weights
    && pointwise same_place a.places b.places && same_reference a.reference b.reference
