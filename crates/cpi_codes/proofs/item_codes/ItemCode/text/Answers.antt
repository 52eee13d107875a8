use Rattle.std.proofs.Common.{◌∙◌, ap, filter, Some}
use Rattle.std.proofs.lemmas.Result.{IfOk-weaker}
use Rattle.cpi_codes.specs.ItemCode.{item_code_of, is_no_zero}
use Rattle.cpi_codes.proofs.Bytes.{text_of_code, ascii_filled, kept_filled}
use Rattle.cpi_codes.proofs.item_codes.ItemCode.text.Goals as goal

pub text_of-requires : goal.text_of-requires
text_of-requires c =
    let text = c.self.invariant.0 in
    let code = c.self.invariant.1 in
    let bytes = c.bytes_of.ensures text code in
    rw bytes (ascii_filled text (text_of_code text c.self.inside.value code).0)

pub returns : goal.returns
returns c =
    let text = c.self.invariant.0 in
    let code = c.self.invariant.1 in
    let bytes = c.bytes_of.ensures text code in
    let kept = kept_filled text (text_of_code text c.self.inside.value code).0 in
    IfOk-weaker c.text_of.result _ _ (λ s e. ap item_code_of (e ∙ ap (filter is_no_zero) bytes ∙ kept) ∙ code
    ∙ ap Some c.self.view_is) c.text_of.ensures
