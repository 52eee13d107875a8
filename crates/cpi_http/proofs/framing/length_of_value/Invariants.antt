use Rattle.std.proofs.Common.{◌≡◌, ◌+◌, min, take, true}
use Rattle.std.specs.List.{list_all}
use Rattle.std.specs.Char.{is_ascii_digit}
use Rattle.std.specs.Str.Parse.{digits_value}
use Rattle.cpi_http.specs.declared.limits.TheConstants.{MOST_BODY_BYTES}
use Rattle.cpi_http.proofs.framing.length_of_value.Given as goal

abbrev pub invariant-loop-digit : goal.invariant-loop-digit
invariant-loop-digit l = record {
  value : l.length ≡ min (digits_value 10 (take l.digit-index l.value)) (MOST_BODY_BYTES + 1);
  digits : list_all is_ascii_digit (take l.digit-index l.value) ≡ true;
}
