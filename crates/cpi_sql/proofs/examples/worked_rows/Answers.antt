use lib.Utf8.{encode}
use Rattle.std.proofs.Common.{refl}
use Rattle.cpi_codes.specs.CodeOf.{spelled_code}
use Rattle.cpi_codes.specs.ItemCode.{item_code_of}
use Rattle.cpi_codes.specs.Name.{is_text_of_name}
use Rattle.std.specs.Str.{is_utf8, chars}
use Rattle.cpi_sql.proofs.examples.worked_rows.Goals as goal

pub returns-clause-items : goal.returns-clause-items
unfolding item_code_of is_text_of_name is_utf8 chars encode
returns-clause-items c = (refl, refl, refl)

pub returns-clause-calendar : goal.returns-clause-calendar
returns-clause-calendar c = (refl, refl, refl, refl)

pub returns-clause-quotes : goal.returns-clause-quotes
returns-clause-quotes c = (refl, refl, refl, refl)

pub returns-clause-receipts : goal.returns-clause-receipts
returns-clause-receipts c = (refl, refl, refl, refl)

pub returns-clause-assignments : goal.returns-clause-assignments
unfolding item_code_of
returns-clause-assignments c = (refl, refl, refl, refl, refl, refl, refl, refl, refl)

pub returns-clause-nodes : goal.returns-clause-nodes
unfolding spelled_code is_text_of_name is_utf8 chars encode
returns-clause-nodes c = (refl, refl)

pub returns-clause-headers : goal.returns-clause-headers
unfolding spelled_code
returns-clause-headers c = (refl, refl, refl)

pub returns-clause-frozen : goal.returns-clause-frozen
unfolding item_code_of
returns-clause-frozen c = (refl, refl)

pub returns-clause-carried : goal.returns-clause-carried
unfolding item_code_of
returns-clause-carried c = (refl, refl, refl)

pub returns-clause-levels : goal.returns-clause-levels
unfolding spelled_code is_text_of_name is_utf8 chars encode
returns-clause-levels c = (refl, refl, refl, refl, refl)

pub returns-clause-weights : goal.returns-clause-weights
unfolding spelled_code is_text_of_name is_utf8 chars encode
returns-clause-weights c = (refl, refl, refl, refl)

pub returns-clause-sums : goal.returns-clause-sums
unfolding spelled_code is_text_of_name is_utf8 chars encode
returns-clause-sums c = (refl, refl, refl, refl, refl)
