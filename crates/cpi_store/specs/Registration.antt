-- The collector of a key, and when two registrations are the same.
use Rattle.std.specs.Prelude.{ℕ, Bool, ◌&&◌, ◌==◌, List, [], ◌∷◌, Option, Some, None, option_map, if◌then◌else◌}
use Rattle.cpi_rows.specs.Keyed.{row_by_number}
use Rattle.cpi_store.specs.declared.registration.Registration.{Registration}

abbrev pub same_registration : Registration → Registration → Bool
same_registration a b = a.number == b.number && a.key == b.key

-- the registration with the key
abbrev pub registration_of : ℕ → List Registration → Option Registration
registration_of key [] = None
registration_of key (b ∷ bs) = if b.key == key then Some b else registration_of key bs

-- the number of the collector with the key
abbrev pub collector_of : ℕ → List Registration → Option ℕ
collector_of key registrations = option_map (λ b. b.number) (registration_of key registrations)

-- the key of the collector with the number
abbrev pub collector_key : ℕ → List Registration → Option ℕ
collector_key number registrations = option_map (λ b. b.key) (row_by_number (λ b. b.number) number registrations)
