-- The order of codes, part by part. It is the byte order of their texts.
use Rattle.std.specs.declared.cmp.Ordering.{Ordering}
use Rattle.std.specs.Prelude.{Bool, is_some}
use Rattle.std.specs.Ordering.{nat_cmp, ordering_then, is_eq}
use Rattle.std.specs.Option.{option_cmp}
use Rattle.cpi_codes.specs.declared.codes.Code.{Code}

abbrev pub code_cmp : Code → Code → Ordering
code_cmp c d = ordering_then (nat_cmp c.division d.division)
    (ordering_then (option_cmp nat_cmp c.group d.group)
    (ordering_then (option_cmp nat_cmp c.class d.class)
    (ordering_then (option_cmp nat_cmp c.subclass d.subclass) (option_cmp nat_cmp c.aggregate d.aggregate))))

-- whether two codes are one
abbrev pub is_same_code : Code → Code → Bool
is_same_code a b = is_eq (code_cmp a b)

-- whether a code is of an elementary aggregate
abbrev pub is_code_elementary : Code → Bool
is_code_elementary c = is_some c.aggregate
