use Rattle.std.proofs.Common.{◌≡◌, ℕ, ◌+◌, ◌<◌, List, [], ◌∷◌, ◌++◌, length, take, get_or, Option, sym, ap, ◌∙◌, arith}
use Rattle.std.specs.Prelude.{filter_map}
use Rattle.std.specs.List.{cons_option}
use Rattle.std.proofs.lemmas.List.{append-nil, take_more}
use Rattle.std.proofs.lemmas.List.Elements.{filter_map-append}
use Rattle.cpi_survey.specs.Work.{row_of_assignment}
use Rattle.cpi_survey.proofs.own.Own.work_rows.Goals.{in-Some+in_ok-push, in_default}
use Rattle.cpi_survey.proofs.own.Own.work_rows.Goals as goal

-- what one more element adds
one_more : {X Y : Type 0} (h : X → Option Y) (xs : List X) (i : ℕ) (x : X) (y : Option Y) → i < length xs →
    x ≡ get_or xs i x → y ≡ h x → filter_map h (take (i + 1) xs) ≡ filter_map h (take i xs) ++ cons_option y []
one_more h xs i x y lt at is =
    ap (filter_map h) (take_more xs i x lt) ∙ filter_map-append h (take i xs) (get_or xs i x ∷ [])
    ∙ ap (λ z. filter_map h (take i xs) ++ cons_option z []) (ap h (sym at) ∙ sym is)

pub loop-assigned-preserved : goal.loop-assigned-preserved
loop-assigned-preserved c =
    let h = row_of_assignment c.args.month c.args.public.now c.args.self.now in
    let before = filter_map h (take c.loop-assigned.assigned-index c.assignments-assigned-items.result.now) in
    let grown = one_more h _ c.loop-assigned.assigned-index c.assigned-item.result c.in_ok-row.field-0
    (omega arith) c.assigned-item.is c.in_ok-row.ensures in
    elim c.match-branch-2.branch [
      | in-Some+in_ok-push w ↦ ap (λ v. v.items) w.rows-is ∙ w.in_ok-push.ensures.items
          ∙ ap (λ xs. xs ++ w.in-Some.row ∷ []) c.loop-assigned.invariant
          ∙ ap (λ y. before ++ cons_option y []) (sym w.in-Some.is) ∙ sym grown
      | in_default w ↦ ap (λ v. v.items) w.rows-is ∙ c.loop-assigned.invariant ∙ sym (append-nil before)
          ∙ ap (λ y. before ++ cons_option y []) (sym w.in_default.is) ∙ sym grown
    ]
