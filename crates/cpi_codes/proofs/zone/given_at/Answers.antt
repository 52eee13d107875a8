use Rattle.std.proofs.Common.{arith, ap, ◌∙◌, rules, pos, FitsSigned, w64, ◌-ℤ◌, ◌*ℤ◌}
use Rattle.std.specs.Int.RustNames.{int_div}
use Rattle.std.proofs.lemmas.Int.{to_z-of_z}
use Rattle.jiff.proofs.SpanFacts.{signed_arith}
use Rattle.jiff.specs.Words.{ambiguous_at, civil_seconds, compatible_offset, plain_zone, IsTimestampNanos}
use Rattle.cpi_codes.specs.Zone.{second_in}
use Rattle.cpi_codes.proofs.OfficeYears.{is_moment}
use Rattle.cpi_codes.proofs.Seconds.{whole, whole_seconds}
use Rattle.cpi_codes.proofs.zone.given_at.Goals as goal

pub returns-then-civil-lt-FIRST_YEAR : goal.returns-then-civil-lt-FIRST_YEAR
returns-then-civil-lt-FIRST_YEAR c = (
  c.in-Some.civil.year,
  c.in-Some.civil.time,
  c.in-Some.ensures.found,
  λ office. absurd (omega (arith, c.then-civil-lt-FIRST_YEAR.either)),
)

pub returns-in_default-to_timestamp : goal.returns-in_default-to_timestamp
returns-in_default-to_timestamp c = (
  c.in-Some.civil.year,
  c.in-Some.civil.time,
  c.in-Some.ensures.found,
  λ office.
      let zone = plain_zone c.zone.inside.rule in
      let time = c.in-Some.civil.time in
      let offset = (compatible_offset (ambiguous_at zone time)).seconds in
      let nanos = whole_seconds time offset c.in-Some.ensures.found.fraction in
      let within = is_moment zone _ c.in-Some.civil.year time c.in-Some.ensures.found office in
      let fits : IsTimestampNanos ((civil_seconds time -ℤ offset) *ℤ pos 1000000000) =
      (omega (arith, signed_arith), omega (arith, signed_arith)) in
      let succeeded = c.in_default-to_timestamp.ensures.succeeds.1 (rw nanos fits) in
      (cc succeeded),
)

pub returns-in-Some-moment_of : goal.returns-in-Some-moment_of
returns-in-Some-moment_of c =
    let zone = plain_zone c.zone.inside.rule in
    let time = c.in-Some.civil.time in
    let offset = (compatible_offset (ambiguous_at zone time)).seconds in
    let nanos = c.in-Ok.ensures.value ∙ whole_seconds time offset c.in-Some.ensures.found.fraction in
    let second = c.as_second.ensures ∙ ap (λ n. int_div n (pos 1000000000)) nanos
    ∙ whole (civil_seconds time -ℤ offset) in
    let fits : FitsSigned w64 c.as_second.result = search rules in
    let same = to_z-of_z w64 c.as_second.result fits in
    let found = c.in-Some-moment_of.ensures.found in (
      c.in-Some.civil.year,
      time,
      c.in-Some.ensures.found,
      (c.if-civil-lt-FIRST_YEAR.false, c.if-civil-gt-LAST_YEAR.false),
      found ∙ same ∙ second ∙ ap (λ z. second_in z time) c.zone.view_is,
    )

pub returns-in-None : goal.returns-in-None
returns-in-None c = (
  c.in-Some.civil.year,
  c.in-Some.civil.time,
  c.in-Some.ensures.found,
  λ office.
      let zone = plain_zone c.zone.inside.rule in
      let time = c.in-Some.civil.time in
      let offset = (compatible_offset (ambiguous_at zone time)).seconds in
      let nanos = c.in-Ok.ensures.value ∙ whole_seconds time offset c.in-Some.ensures.found.fraction in
      let second = c.as_second.ensures ∙ ap (λ n. int_div n (pos 1000000000)) nanos
      ∙ whole (civil_seconds time -ℤ offset) in
      let fits : FitsSigned w64 c.as_second.result = search rules in
      let same = to_z-of_z w64 c.as_second.result fits in
      let within = is_moment zone _ c.in-Some.civil.year time c.in-Some.ensures.found office in
      c.in-None.ensures.none (rw (same ∙ second) within),
)
