use Rattle.std.proofs.Common.{◌≡◌, ◌&&◌, get_or, arith, ap, sym, ◌∙◌}
use Rattle.std.specs.Char.{digit_value, is_ascii_digit}
use Rattle.std.proofs.lemmas.Bool.Decides.{nat_tests}
use Rattle.std.proofs.lemmas.Int.Digits.{digits_value_more}
use Rattle.std.proofs.lemmas.List.Folds.{list_all_more}
use Rattle.cpi_http.proofs.framing.length_of_value.Goals as goal

pub loop-digit-preserved : goal.loop-digit-preserved
loop-digit-preserved c =
    let inv = c.loop-digit.invariant in
    let digit : digit_value (get_or c.args.value.now c.loop-digit.digit-index 0) ≡ c.from.result = grind (
      arith,
      nat_tests,
    ) in
    let more = digits_value_more 10 c.args.value.now _ c.loop-digit-test.true in
    let m = c.min-length.ensures in
    record {
      value = omega (arith, inv.value, digit, more, m);
      digits = list_all_more is_ascii_digit _ _ 0 c.loop-digit-test.true
          ∙ ap (λ b. b && is_ascii_digit (get_or c.args.value.now c.loop-digit.digit-index 0)) inv.digits
          ∙ sym c.if-not-is_ascii_digit.ensures.value;
    }
