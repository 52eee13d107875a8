use lib.Utf8.{encode}
use Rattle.std.proofs.Common.{refl}
use Rattle.std.specs.Fmt.{digits}
use Rattle.std.specs.Str.{is_utf8, chars}
use Rattle.csv.specs.Machine.{next_record}
use Rattle.csv.specs.Reading.{records_from, strip_bom}
use Rattle.cpi_codes.specs.CodeOf.{spelled_code}
use Rattle.cpi_codes.specs.ItemCode.{item_code_of}
use Rattle.cpi_codes.specs.Name.{is_text_of_name}
use Rattle.cpi_codes.specs.Number.{number_in}
use Rattle.cpi_wire.specs.Arguments.{exactly_two_or_three}
use Rattle.cpi_wire.specs.PlanBody.{body_of}
use Rattle.cpi_wire.proofs.examples.worked_bodies.Goals as goal

pub returns-clause-any_order : goal.returns-clause-any_order
unfolding next_record records_from strip_bom body_of exactly_two_or_three spelled_code item_code_of is_text_of_name
    is_utf8 chars encode
    number_in digits
returns-clause-any_order c = refl

pub returns-clause-two_references : goal.returns-clause-two_references
unfolding next_record records_from strip_bom body_of exactly_two_or_three
returns-clause-two_references c = refl

pub returns-clause-no_references : goal.returns-clause-no_references
unfolding next_record records_from strip_bom body_of exactly_two_or_three
returns-clause-no_references c = (refl, refl, refl, refl, refl)

pub returns-clause-reference_faults : goal.returns-clause-reference_faults
returns-clause-reference_faults c = (refl, refl)
