-- The value of one field.
use Rattle.std.specs.Prelude.{ℕ, if◌then◌else◌, Option, Some, None, bytes_eq, codes}
use Rattle.std.specs.Result.{result_ok}
use Rattle.cpi_codes.specs.declared.limits.TheConstants.{GREATEST_COLLECTOR, GREATEST_OUTLET, GREATEST_PRICE}
use Rattle.cpi_codes.specs.declared.limits.TheConstants.{GREATEST_SLOT, LAST_MOMENT}
use Rattle.cpi_codes.specs.Number.{number_in}
use Rattle.cpi_codes.specs.Clock.{moment_in}
use Rattle.cpi_codes.specs.Following.{◌>>=◌}
use Rattle.cpi_codes.specs.Zone.{ZoneRule}
use Rattle.cpi_codes.specs.Month.{month_of}
use Rattle.cpi_codes.specs.Name.{is_text_of_name}
use Rattle.cpi_codes.specs.CodeOf.{spelled_code}
use Rattle.cpi_codes.specs.CodeOrder.{is_code_elementary}
use Rattle.cpi_codes.specs.declared.codes.Code.{Code}
use Rattle.cpi_plan.specs.declared.limits.TheConstants.{ALL_PARTS, GREATEST_TOLERANCE, PER_MILLE}
use Rattle.cpi_release.specs.declared.form.Form.{Form}
use Rattle.cpi_release.specs.declared.form.Form.TheVariants as form
use Rattle.cpi_survey.specs.declared.mark.Mark.{Mark}
use Rattle.cpi_survey.specs.declared.mark.Mark.TheVariants.{Price, Missing, Comparable, Other}
use Rattle.cpi_survey.specs.declared.mark.Reason.{Reason}
use Rattle.cpi_survey.specs.declared.mark.Reason.TheVariants.{Stock, Closed, Gone, Refused}
use Rattle.cpi_wire.specs.Arguments.{Text}

abbrev pub spelled_moment : Text → Option ℕ
spelled_moment text = number_in 0 LAST_MOMENT text

-- a value, or another if there is none
abbrev pub or_else : {A : Type 0} → Option A → Option A → Option A
or_else None other = other
or_else (Some x) other = Some x

-- a moment as a number, or as the civil text that a clock shows then
abbrev pub spelled_time : ZoneRule → Text → Option ℕ
spelled_time zone text = or_else (spelled_moment text) (moment_in zone text)

abbrev pub spelled_month : Text → Option ℕ
spelled_month text = result_ok (month_of text)

abbrev pub spelled_collector : Text → Option ℕ
spelled_collector text = number_in 1 GREATEST_COLLECTOR text

abbrev pub spelled_slot : Text → Option ℕ
spelled_slot text = number_in 1 GREATEST_SLOT text

abbrev pub spelled_outlet : Text → Option ℕ
spelled_outlet text = number_in 1 GREATEST_OUTLET text

abbrev pub spelled_year : Text → Option ℕ
spelled_year text = number_in 2000 2199 text

abbrev pub spelled_price : Text → Option ℕ
spelled_price text = number_in 1 GREATEST_PRICE text

abbrev pub spelled_low_tolerance : Text → Option ℕ
spelled_low_tolerance text = number_in 1 PER_MILLE text

abbrev pub spelled_high_tolerance : Text → Option ℕ
spelled_high_tolerance text = number_in PER_MILLE GREATEST_TOLERANCE text

-- parts per million
abbrev pub spelled_weight : Text → Option ℕ
spelled_weight text = number_in 0 ALL_PARTS text

abbrev pub spelled_name : Text → Option Text
spelled_name text = if is_text_of_name text then Some text else None

-- the code of an elementary aggregate
abbrev pub spelled_elementary_code : Text → Option Code
spelled_elementary_code text = spelled_code text >>= λ code. if is_code_elementary code then Some code else None

-- the form of a printed table
abbrev pub spelled_form : Text → Option Form
spelled_form text =
    if bytes_eq text (codes "text") then Some form.Text
    else if bytes_eq text (codes "csv") then Some form.Csv
    else None

abbrev pub spelled_revision : Text → Option ℕ
spelled_revision text = number_in 1 9 text

-- the edition of a table: that of a revision, or the latest one if no field names a revision
abbrev pub spelled_edition : Option Text → Option (Option ℕ)
spelled_edition None = Some None
spelled_edition (Some text) = spelled_revision text >>= λ r. Some (Some r)

abbrev pub spelled_reason : Text → Option Reason
spelled_reason text =
    if bytes_eq text (codes "stock") then Some Stock
    else if bytes_eq text (codes "closed") then Some Closed
    else if bytes_eq text (codes "gone") then Some Gone
    else if bytes_eq text (codes "refused") then Some Refused
    else None

-- a price, a reason why there is none, or the price of a replacement
abbrev pub spelled_mark : Text → Text → Option Mark
spelled_mark kind value =
    if bytes_eq kind (codes "price") then (spelled_price value >>= λ p. Some (Price p))
    else if bytes_eq kind (codes "missing") then (spelled_reason value >>= λ r. Some (Missing r))
    else if bytes_eq kind (codes "comparable") then (spelled_price value >>= λ p. Some (Comparable p))
    else if bytes_eq kind (codes "other") then (spelled_price value >>= λ p. Some (Other p))
    else None
