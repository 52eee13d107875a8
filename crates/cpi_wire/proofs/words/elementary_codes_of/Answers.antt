use Rattle.std.proofs.Common.{◌∙◌, sym, ap, map, Some}
use Rattle.std.proofs.lemmas.List.{at_drop_more, at_drop_all}
use Rattle.cpi_wire.specs.Words.{elementary_codes}
use Rattle.cpi_wire.proofs.Carried.{behind, behind_none, behind_all, behind_more, behind_bad}
use Rattle.cpi_wire.proofs.words.elementary_codes_of.Goals as goal

pub loop-text-init : goal.loop-text-init
loop-text-init c = rw c.new-found.ensures.items (behind_none _)

pub returns-in_default : goal.returns-in_default
returns-in_default c =
    let found = c.loop-text.found.items in
    sym (behind_bad found _ _ (sym c.elementary_code_of.ensures ∙ c.in_default.is))
    ∙ sym (at_drop_more (λ texts. behind found (elementary_codes (map (λ t. t.now) texts))) c.args.texts.now _ _
    c.loop-text-test.true)
    ∙ c.loop-text.invariant

pub loop-text-preserved : goal.loop-text-preserved
loop-text-preserved c =
    let found = c.loop-text.found.items in
    rw c.in_ok-push.ensures.items
    (sym (behind_more found _ c.in-Some.code _ (sym c.elementary_code_of.ensures ∙ c.in-Some.is))
    ∙ sym (at_drop_more (λ texts. behind found (elementary_codes (map (λ t. t.now) texts))) c.args.texts.now _ _
    c.loop-text-test.true)
    ∙ c.loop-text.invariant)

pub returns : goal.returns
returns c =
    let found = c.loop-text.found.items in
    ap (λ codes. Some codes) c.of.ensures
    ∙ sym (behind_all found)
    ∙ sym (at_drop_all (λ texts. behind found (elementary_codes (map (λ t. t.now) texts))) c.args.texts.now _
    c.loop-text-test.false)
    ∙ c.loop-text.invariant
