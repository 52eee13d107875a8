use Rattle.std.proofs.Common.{◌≡◌, ℕ, take}
use Rattle.std.specs.BTreeMap.{get}
use Rattle.std.specs.Ordering.{nat_cmp}
use Rattle.cpi_store.specs.Registration.{registration_of}
use Rattle.cpi_store.proofs.loading.by_key.Given as goal

abbrev pub invariant-registrations : goal.invariant-registrations
invariant-registrations l = (key : ℕ) → get nat_cmp l.found key ≡ registration_of key
    (take l.registration-index l.registrations)
