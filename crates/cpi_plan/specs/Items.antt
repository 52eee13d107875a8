-- Items.
use Rattle.std.specs.Prelude.{Bool, ◌&&◌, ◌==◌}
use Rattle.cpi_codes.specs.Text.{same_text}
use Rattle.cpi_plan.specs.declared.items.Item.{Item}

-- whether two items have the same content
abbrev pub same_item : Item → Item → Bool
same_item a b = a.code == b.code && same_text a.text b.text && same_text a.unit b.unit && a.low == b.low && a.high ==
    b.high
