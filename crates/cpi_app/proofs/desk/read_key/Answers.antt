use Rattle.std.proofs.Common.{◌≡◌, ◌∙◌, ap, subst, ℕ, List, Option, Some, None, IfSome, rules, take}
use Rattle.std.specs.Prelude.{option_map}
use Rattle.std.specs.Str.{IsTrimAscii}
use Rattle.std.specs.String.{string_bytes}
use Rattle.cpi_app.specs.Desk.{IsKeyText}
use Rattle.cpi_app.specs.declared.desk.TheConstants.{MOST_KEY_BYTES}
use Rattle.cpi_app.proofs.desk.read_key.Goals as goal

-- the text that is trimmed is the first bytes of what the reader gives
key_text : (remaining : Option (List ℕ)) (limit : ℕ) (held text : List ℕ) → limit ≡ MOST_KEY_BYTES
    → IfSome (option_map (take limit) remaining) (λ bytes. held ≡ bytes)
    → IsTrimAscii held text → IfSome remaining (λ bytes. IsKeyText bytes text)
key_text None limit held text is same trimmed = tt
key_text (Some bytes) limit held text is same trimmed =
    subst (λ front. IsTrimAscii front text) (same ∙ ap (λ n. take n bytes) is) trimmed

pub returns-in-Ok-from_str-clause-text : goal.returns-in-Ok-from_str-clause-text
returns-in-Ok-from_str-clause-text g c =
    let whole : IsTrimAscii (string_bytes c.in-Ok.held) (string_bytes c.in-Ok-from_str.text) = search rules in
    let read : IfSome (option_map (take c.take.result.limit) (g.R.Read.remaining c.args.reader))
    (λ bytes. string_bytes c.in-Ok.held ≡ bytes) = search rules in
    key_text _ _ _ _ c.take.ensures.limit read whole
