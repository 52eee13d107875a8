use Rattle.std.proofs.Common.{◌≡◌, sym, ap, rules, ◌+◌, ℕ, zero, suc, List, [], ◌∷◌, ◌++◌, take, Some, add-one}
use Rattle.std.proofs.lemmas.List.{map-append}
use Rattle.csv.specs.Records.{fields_of, field_at}
use Rattle.csv.proofs.RecordFacts.{field-there}
use Rattle.cpi_wire.proofs.fields.field_list.Goals as goal
use Rattle.cpi_wire.proofs.fields.field_list.Goals.{in-Some+in_ok-push, in_default}

field_suc : (fs : List (List ℕ)) (i : ℕ) (f : List ℕ) → field_at fs i ≡ Some f → take (suc i) fs ≡ take i fs ++ f ∷ []
unfolding field_at
field_suc [] i f e = cc
field_suc (g ∷ fs) zero f e = cc
field_suc (g ∷ fs) (suc i) f e = ap (λ (z : List (List ℕ)). g ∷ z) (field_suc fs i f e)

field_more : (fs : List (List ℕ)) (i : ℕ) (f : List ℕ) → field_at fs i ≡ Some f
    → take (i + 1) fs ≡ take i fs ++ f ∷ []
field_more fs i f e = rw add-one (field_suc fs i f e)

pub loop-i-preserved : goal.loop-i-preserved
loop-i-preserved c =
    let fs = fields_of c.args.row.now in
    let i = c.loop-i.i in
    elim c.match-get.branch [
      | in-Some+in_ok-push w ↦ rw (w.fields-is, w.in_ok-push.ensures.items, map-append, c.loop-i.invariant)
          (sym (field_more fs i _ (sym w.in-Some.ensures.value)))
      | in_default w ↦ absurd (field-there fs i (search rules) (sym w.in_default.ensures.value))
    ]
