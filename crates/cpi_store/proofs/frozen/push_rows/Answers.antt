use Rattle.std.proofs.Common.{◌≡◌, ℕ, ◌+◌, ◌<◌, List, [], ◌∷◌, ◌++◌, length, take, get_or, Option, sym, ap, ◌∙◌, arith}
use Rattle.std.proofs.Common.{append_assoc}
use Rattle.std.specs.Prelude.{option_map}
use Rattle.std.specs.List.{cons_option, filter_map}
use Rattle.std.proofs.lemmas.List.{append-nil, take_more}
use Rattle.std.proofs.lemmas.List.Elements.{filter_map-append}
use Rattle.cpi_codes.specs.declared.series.SeriesId.{SeriesId}
use Rattle.cpi_rows.specs.Keyed.{row_at}
use Rattle.cpi_survey.specs.Quote.{quote_cmp, quote_key}
use Rattle.cpi_store.specs.Holders.{own_row, quote_of_series}
use Rattle.cpi_store.proofs.frozen.push_rows.Goals.{in-Some+in_ok-push, in_default}
use Rattle.cpi_store.proofs.frozen.push_rows.Goals as goal

-- what one more element adds
one_more : {X Y : Type 0} (h : X → Option Y) (xs : List X) (i : ℕ) (x : X) (y : Option Y) → i < length xs →
    x ≡ get_or xs i x → y ≡ h x → filter_map h (take (i + 1) xs) ≡ filter_map h (take i xs) ++ cons_option y []
one_more h xs i x y lt at is =
    ap (filter_map h) (take_more xs i x lt) ∙ filter_map-append h (take i xs) (get_or xs i x ∷ [])
    ∙ ap (λ z. filter_map h (take i xs) ++ cons_option z []) (ap h (sym at) ∙ sym is)

pub loop-assigned-preserved : goal.loop-assigned-preserved
loop-assigned-preserved c =
    let ends = c.args.ends.now in
    let holder = c.args.holder.now in
    let h = own_row c.args.month ends c.args.taken.now holder in
    let i = c.loop-assigned.assigned-index in
    let start = c.args.found.now.items in
    let a = c.assigned-item.result in
    let rows = c.assignments-assigned-items.result.now in
    let same : rows ≡ holder.own.assignments = c.assignments-assigned-items.ensures in
    let before = filter_map h (take i holder.own.assignments) in
    let one : c.row_of.result ≡ h a =
    c.row_of.ensures ∙ ap (option_map (quote_of_series ends a.assignment c.series_in-series.result))
    c.quote-quote.ensures
    ∙ ap (λ (s : SeriesId). option_map (quote_of_series ends a.assignment s)
    (row_at quote_cmp quote_key (a.assignment.slot, c.args.month) holder.own.quotes)) c.series_in-series.ensures in
    let added : filter_map h (take (i + 1) rows) ≡ filter_map h (take i rows) ++ cons_option c.row_of.result [] =
    one_more h rows i a c.row_of.result (omega arith) c.assigned-item.is one in
    let grown : before ++ cons_option c.row_of.result [] ≡ filter_map h (take (i + 1) holder.own.assignments) =
    ap (λ xs. filter_map h (take i xs) ++ cons_option c.row_of.result []) (sym same) ∙ sym added
    ∙ ap (λ xs. filter_map h (take (i + 1) xs)) same in
    elim c.match-row_of.branch [
      | in-Some+in_ok-push w ↦ ap (λ v. v.items) w.found-is ∙ w.in_ok-push.ensures.items
          ∙ ap (λ xs. xs ++ w.in-Some.row ∷ []) c.loop-assigned.invariant
          ∙ append_assoc start before (w.in-Some.row ∷ [])
          ∙ ap (λ y. start ++ (before ++ cons_option y [])) (sym w.in-Some.is) ∙ ap (λ ys. start ++ ys) grown
      | in_default w ↦ ap (λ v. v.items) w.found-is ∙ c.loop-assigned.invariant
          ∙ ap (λ ys. start ++ ys) (sym (append-nil before))
          ∙ ap (λ y. start ++ (before ++ cons_option y [])) (sym w.in_default.is) ∙ ap (λ ys. start ++ ys) grown
    ]
