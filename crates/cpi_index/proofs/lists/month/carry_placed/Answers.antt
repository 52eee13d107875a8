use Rattle.std.proofs.Common.{rules, ℕ, Bool, false, List, length}
use Rattle.std.specs.Prelude.{slice_index_or}
use Rattle.cpi_index.specs.Aggregate.{lacks_a_match}
use Rattle.cpi_index.specs.Row.{Row}
use Rattle.cpi_index.specs.Sample.{is_none_of}
use Rattle.cpi_index.specs.Places.{is_out_of_range, is_out_of_range_at, IsFirstPlace, AreMovements}
use Rattle.cpi_index.proofs.Samples.{samples_of, none_of, first_of, few_rows, of_rows}
use Rattle.cpi_index.proofs.lists.month.carry_placed.Goals as goal

-- the two tests, as `none_of` and `first_of` take them
abbrev empty_test : ℕ → List Row → Bool
empty_test k rows = is_none_of rows

abbrev unmatched_test : List Bool → ℕ → List Row → Bool
unmatched_test unchanged k rows = lacks_a_match (slice_index_or unchanged k false) rows

abbrev range_test : ℕ → List Row → Bool
range_test k rows = is_out_of_range rows

pub returns-in-Some : goal.returns-in-Some
returns-in-Some c =
    let n = length c.args.unchanged.now in
    let rows = c.args.rows.now in
    let s = samples_of n rows c.in-Ok.groups.items c.deref.result.now c.in-Ok.ensures c.deref.ensures.value in
    first_of empty_test n rows c.deref.result.now c.in-Some.place s c.in-Some.ensures

pub returns-in-Some-first_unmatched : goal.returns-in-Some-first_unmatched
returns-in-Some-first_unmatched c =
    let n = length c.args.unchanged.now in
    let rows = c.args.rows.now in
    let s = samples_of n rows c.in-Ok.groups.items c.deref.result.now c.in-Ok.ensures c.deref.ensures.value in
    let s2 = samples_of n rows c.in-Ok.groups.items c.deref-2.result.now c.in-Ok.ensures c.deref-2.ensures.value in (
      none_of empty_test n rows c.deref.result.now s c.in_default-first_empty.ensures,
      first_of (unmatched_test c.args.unchanged.now) n rows c.deref-2.result.now c.in-Some-first_unmatched.place s2
          c.in-Some-first_unmatched.ensures,
    )

pub movements-requires : goal.movements-requires
movements-requires c =
    let n = length c.args.unchanged.now in
    let rows = c.args.rows.now in
    let s = samples_of n rows c.in-Ok.groups.items c.deref-3.result.now c.in-Ok.ensures c.deref-3.ensures.value in
    few_rows n rows c.deref-3.result.now s c.requires.few

pub returns-in-Err : goal.returns-in-Err
returns-in-Err c =
    let n = length c.args.unchanged.now in
    let rows = c.args.rows.now in
    let s = samples_of n rows c.in-Ok.groups.items c.deref.result.now c.in-Ok.ensures c.deref.ensures.value in
    let s2 = samples_of n rows c.in-Ok.groups.items c.deref-2.result.now c.in-Ok.ensures c.deref-2.ensures.value in
    let s3 = samples_of n rows c.in-Ok.groups.items c.deref-3.result.now c.in-Ok.ensures c.deref-3.ensures.value in
    let fault : IsFirstPlace (is_out_of_range_at c.deref-3.result.now) (length c.deref-3.result.now) c.in-Err.place =
    search rules in (
      none_of empty_test n rows c.deref.result.now s c.in_default-first_empty.ensures,
      none_of (unmatched_test c.args.unchanged.now) n rows c.deref-2.result.now s2 c.in_default-first_unmatched.ensures,
      first_of range_test n rows c.deref-3.result.now c.in-Err.place s3 fault,
    )

pub carry_rows-requires : goal.carry_rows-requires
carry_rows-requires c =
    let n = length c.args.unchanged.now in
    let rows = c.args.rows.now in
    let s3 = samples_of n rows c.in-Ok.groups.items c.deref-3.result.now c.in-Ok.ensures c.deref-3.ensures.value in
    let m : AreMovements c.deref-3.result.now c.deref-4.result.now = search rules in
    of_rows n rows c.deref-3.result.now c.deref-4.result.now s3 m c.requires.placed

pub returns : goal.returns
returns c =
    let n = length c.args.unchanged.now in
    let rows = c.args.rows.now in
    let s = samples_of n rows c.in-Ok.groups.items c.deref.result.now c.in-Ok.ensures c.deref.ensures.value in
    let s2 = samples_of n rows c.in-Ok.groups.items c.deref-2.result.now c.in-Ok.ensures c.deref-2.ensures.value in
    let s3 = samples_of n rows c.in-Ok.groups.items c.deref-3.result.now c.in-Ok.ensures c.deref-3.ensures.value in
    let m : AreMovements c.deref-3.result.now c.deref-4.result.now = search rules in (
      none_of empty_test n rows c.deref.result.now s c.in_default-first_empty.ensures,
      none_of (unmatched_test c.args.unchanged.now) n rows c.deref-2.result.now s2 c.in_default-first_unmatched.ensures,
      none_of range_test n rows c.deref-3.result.now s3 m.in_limits,
      c.in-Ok-carry_rows.ensures,
    )
