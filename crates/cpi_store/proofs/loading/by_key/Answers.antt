use Rattle.std.proofs.Common.{◌≡◌, ◌+◌, false, List, [], ◌∷◌, ◌++◌, take, Some, None, Option, refl, sym, ap, ◌∙◌, arith}
use Rattle.std.specs.Prelude.{is_some}
use Rattle.std.specs.BTreeMap.{Updates, get}
use Rattle.std.specs.Ordering.{nat_cmp}
use Rattle.std.proofs.lemmas.List.{take_more}
use Rattle.cpi_store.specs.Registration.{registration_of}
use Rattle.cpi_store.specs.declared.registration.Registration.{Registration}
use Rattle.cpi_store.proofs.Loaded.{registration_behind, ok_found}
use Rattle.cpi_store.proofs.loading.by_key.Goals as goal

nothing : {X : Type 0} (o : Option X) → is_some o ≡ false → o ≡ None
nothing None e = refl
nothing (Some x) e = cc

pub registrations-preserved : goal.registrations-preserved
registrations-preserved c = λ key.
    let bs = c.args.registrations.now in
    let i = c.registrations.registration-index in
    let b = c.registration-item.result in
    let found = c.registrations.found in
    let after = c.insert.new.self in
    let before : List Registration = take i bs in
    let more : take (i + 1) bs ≡ before ++ b ∷ [] =
    take_more bs i b (omega arith) ∙ ap (λ x. before ++ x ∷ []) (sym c.registration-item.is) in
    let absent : get nat_cmp found b.key ≡ None =
    nothing (get nat_cmp found b.key) (sym c.contains_key.ensures ∙ c.if-contains_key.false) in
    let free : registration_of b.key before ≡ None = sym (c.registrations.invariant b.key) ∙ absent in
    let updated : Updates nat_cmp found after b.key (Some b) =
    ok_found (λ _. Updates nat_cmp found after b.key (Some b)) c.insert.result c.in_ok-ok.field-0
    c.in_ok-ok.ensures.value c.insert.ensures.updates in
    registration_behind b before free key (get nat_cmp found key) (get nat_cmp after key)
    (c.registrations.invariant key)
    (updated.0 key)
    ∙ ap (registration_of key) (sym more)
