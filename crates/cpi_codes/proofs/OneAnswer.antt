-- A zone and a text have one answer.
use Rattle.std.proofs.Common.{◌≡◌, ℕ, List, Ok, Err, pos, ◌∙◌, sym, ap, refl, subst}
use Rattle.cpi_codes.specs.Zone.{ZoneGives, IsOfficeYear, OneAnswer, ZoneRule, second_in}
use Rattle.cpi_codes.specs.declared.zone.MomentFault.TheVariants.{Text, Zone, Range, NoMemory}
use Rattle.cpi_codes.proofs.OneTime.{one_time}

-- an answer and a fault of range exclude each other
apart : (zone : ZoneRule) (text : List ℕ) (second : ℕ) → ZoneGives zone text (Ok second) → ZoneGives zone text
    (Err Range) → ⊥
apart zone text second p q =
    let same = one_time text p.0 q.0 p.1 q.1 p.2 q.2 in
    q.3 (subst IsOfficeYear same.0 p.3)

pub one_answer : OneAnswer
one_answer zone text (Ok a) (Ok b) p q =
    let same = one_time text p.0 q.0 p.1 q.1 p.2 q.2 in
    let e : pos a ≡ pos b = p.4 ∙ ap (second_in zone) same.1 ∙ sym q.4 in
    cc
one_answer zone text (Ok a) (Err Text) p q = absurd (q p.0 p.1 p.2)
one_answer zone text (Ok a) (Err Range) p q = absurd (apart zone text a p q)
one_answer zone text (Ok a) (Err Zone) p q = absurd q
one_answer zone text (Ok a) (Err NoMemory) p q = absurd q
one_answer zone text (Err Text) (Ok b) p q = absurd (p q.0 q.1 q.2)
one_answer zone text (Err Text) (Err Text) p q = refl
one_answer zone text (Err Text) (Err Range) p q = absurd (p q.0 q.1 q.2)
one_answer zone text (Err Text) (Err Zone) p q = absurd q
one_answer zone text (Err Text) (Err NoMemory) p q = absurd q
one_answer zone text (Err Range) (Ok b) p q = absurd (apart zone text b q p)
one_answer zone text (Err Range) (Err Text) p q = absurd (q p.0 p.1 p.2)
one_answer zone text (Err Range) (Err Range) p q = refl
one_answer zone text (Err Range) (Err Zone) p q = absurd q
one_answer zone text (Err Range) (Err NoMemory) p q = absurd q
one_answer zone text (Err Zone) r p q = absurd p
one_answer zone text (Err NoMemory) r p q = absurd p
