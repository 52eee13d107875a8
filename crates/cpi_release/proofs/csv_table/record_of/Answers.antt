use Rattle.std.proofs.Common.{subst, sym, refl}
use Rattle.std.proofs.lemmas.Str.{IsUtf8-string_bytes}
use Rattle.cpi_release.specs.Texts.{AreTexts}
use Rattle.cpi_release.proofs.Texts.{texts_more}
use Rattle.cpi_release.proofs.csv_table.record_of.Goals as goal

pub returns-clause-texts : goal.returns-clause-texts
returns-clause-texts c =
    let none = subst AreTexts (sym c.new-row.ensures.fields) tt in
    let one = texts_more _ _ _ _ _ none c.new-row.ensures.partial
    c.in_ok-push_field.ensures.fields c.as_bytes.ensures.value (IsUtf8-string_bytes c.in_ok-code.code) in
    let two = texts_more _ _ _ _ _ one c.in_ok-push_field.ensures.partial
    c.in_ok-push_field-2.ensures.fields c.as_bytes-2.ensures.value (IsUtf8-string_bytes c.in_ok-weight.weight) in
    let three = texts_more _ _ _ _ _ two c.in_ok-push_field-2.ensures.partial
    c.in_ok-push_field-3.ensures.fields c.as_bytes-3.ensures.value (IsUtf8-string_bytes c.in_ok-within.within) in
    let four = texts_more _ _ _ _ _ three c.in_ok-push_field-3.ensures.partial
    c.in_ok-push_field-4.ensures.fields c.as_bytes-4.ensures.value (IsUtf8-string_bytes c.in_ok-chained.chained) in
    let five = texts_more _ _ _ _ _ four c.in_ok-push_field-4.ensures.partial
    c.in_ok-push_field-5.ensures.fields c.as_bytes-5.ensures.value
    (IsUtf8-string_bytes c.in_ok-month_change.month_change) in
    let six = texts_more _ _ _ _ _ five c.in_ok-push_field-5.ensures.partial
    c.in_ok-push_field-6.ensures.fields c.as_bytes-6.ensures.value
    (IsUtf8-string_bytes c.in_ok-year_change.year_change) in
    let seven = texts_more _ _ _ _ _ six c.in_ok-push_field-6.ensures.partial
    c.in_ok-push_field-7.ensures.fields refl c.as_bytes-7.ensures.utf8 in
    let eight = texts_more _ _ _ _ _ seven c.in_ok-push_field-7.ensures.partial
    c.in_ok-push_field-8.ensures.fields refl c.as_bytes-8.ensures.utf8 in
    eight
