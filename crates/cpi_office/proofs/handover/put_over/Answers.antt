use Rattle.std.proofs.Common.{◌≡◌, ℕ, Some, None, List, Result, Ok, Err, ◌-◌, refl, sym, ap, ◌∙◌}
use Rattle.std.proofs.lemmas.Bool.{false≢true}
use Rattle.std.specs.Prelude.{IsSome, option_map, not, if◌then◌else◌}
use Rattle.cpi_rows.specs.Keyed.{row_by_number}
use Rattle.cpi_rows.specs.Held.{held_by}
use Rattle.cpi_rows.proofs.Found.{at_key}
use Rattle.cpi_survey.specs.Quote.{QuoteRow}
use Rattle.cpi_survey.specs.Within.{has_quotes_since}
use Rattle.cpi_survey.specs.declared.assignment.Assigned.{Assigned}
use Rattle.cpi_survey.specs.declared.assignment.Assignment.{Assignment}
use Rattle.cpi_release.specs.FrozenMonths.{frozen_months, last_frozen}
use Rattle.cpi_release.specs.declared.frozen_month.FrozenMonth.{FrozenMonth}
use Rattle.cpi_store.specs.declared.given.Given.{Given}
use Rattle.cpi_store.specs.Office.{Office, given_until, office_with, HandsOver}
use Rattle.cpi_store.specs.Orderly.{ListsCollector, ListsOutlet}
use Rattle.cpi_store.specs.Sound.{IsSound}
use Rattle.cpi_store.specs.declared.outlet.Outlet.{Outlet}
use Rattle.cpi_store.proofs.Slots.{all_of_found}
use Rattle.cpi_office.specs.HandingOver.{over_judged, judged_over, is_handed_within, is_not_after, taken_on}
use Rattle.cpi_office.specs.declared.refusal.Refusal.{Refusal}
use Rattle.cpi_office.specs.declared.refusal.Refusal.TheVariants.{NotActive, MonthFrozen, QuotesStand, UnknownOutlet}
use Rattle.cpi_office.specs.declared.reply.Reply.TheVariants.{Done}
use Rattle.cpi_office.specs.declared.request.HandOver.{HandOver}
use Rattle.cpi_office.proofs.Calls.{answers_after, answers_where, refused_where}
use Rattle.cpi_office.proofs.Judged.{passed}
use Rattle.cpi_office.proofs.Named.{named_is, lacks_outlet}
use Rattle.cpi_office.proofs.handover.put_over.Goals as goal

pub store_both-requires-clause-stands : goal.store_both-requires-clause-stands
store_both-requires-clause-stands g c = λ clean.
    let o = (g.B.Book.state c.args.book.now).held in
    let found : row_by_number (λ (g : Given). g.assignment.slot) c.args.what.now.slot
    (held_by c.args.former.number o.assignments) ≡ Some c.args.given =
    (c.requires.there (c.name_outlet.ensures.keeps.was_clean clean)).stands in
    let slot : c.args.given.assignment.slot ≡ c.args.what.now.slot =
    at_key (λ (g : Given). g.assignment.slot) c.args.what.now.slot c.args.given
    (held_by c.args.former.number o.assignments) found in
    rw (c.name_outlet.ensures.keeps.kept clean, c.end_given-ended.ensures)
    (ap (option_map (given_until c.month_before-last_month.result))
    (ap (λ n. row_by_number (λ (g : Given). g.assignment.slot) n (held_by c.args.former.number o.assignments)) slot
    ∙ found))

pub returns-in-Some : goal.returns-in-Some
returns-in-Some g c =
    let old = g.B.Book.state c.args.book.now in
    let mid = g.B.Book.state c.name_outlet.new.book in
    let new = g.B.Book.state c.store_both.new.book in
    let month : c.month_before-last_month.result ≡ c.args.what.now.month - 1 = c.month_before-last_month.ensures in
    let ended : c.end_given-ended.result ≡ given_until (c.args.what.now.month - 1) c.args.given =
    c.end_given-ended.ensures ∙ ap (λ m. given_until m c.args.given) month in
    let over : Given → Assigned → Office → Office =
    λ e a o. office_with (HandsOver (record {
      former = c.args.former;
      ended = e;
      taker = c.args.taker;
      assigned =
          a;
    })) o in
    answers_where (IsSound old.held) old new c.store_both.result
    (over_judged c.args.what.now old.held c.args.former c.args.taker c.args.given (Ok c.args.assignment))
    (answers_after old mid new c.store_both.result Done Done _ _ c.name_outlet.ensures c.in_ok-name_outlet.ensures.stays
    c.store_both.ensures (λ clean. (
      refl,
      ap (over c.end_given-ended.result c.in-Some.assigned) (c.name_outlet.ensures.keeps.kept clean)
          ∙ ap (λ e. over e c.in-Some.assigned old.held) ended
          ∙ ap (λ a. over (given_until (c.args.what.now.month - 1) c.args.given) a old.held)
          (named_is old.held.outlets c.args.assignment c.in-Some.assigned
          (rw (c.in_ok-assigned.was, c.in-Some.is) at
          (c.in_ok-name_outlet.ensures.shown clean))),
    )))

-- a series that is handed over stays with its outlet
outlet_kept : (h : HandOver) (former a : Assignment) (frozen : List FrozenMonth) (quotes : List QuoteRow) →
    judged_over h former frozen quotes ≡ Ok a → a.outlet ≡ former.outlet
outlet_kept h former a frozen quotes judged =
    let taken : Result Assignment Refusal = Ok (taken_on h former quotes) in
    let quoted : Result Assignment Refusal = if has_quotes_since h.slot h.month quotes then Err QuotesStand
    else taken in
    let late : Result Assignment Refusal = if is_not_after h.month (last_frozen frozen) then Err MonthFrozen
    else quoted in
    let within = passed (not (is_handed_within h former)) NotActive late a judged in
    let in_time = passed (is_not_after h.month (last_frozen frozen)) MonthFrozen quoted a within.1 in
    let unquoted = passed (has_quotes_since h.slot h.month quotes) QuotesStand taken a in_time.1 in
    let is : taken_on h former quotes ≡ a = let same = unquoted.1 in cc in
    ap (λ (x : Assignment). x.outlet) (sym is)

-- the outlet of an assignment is there
outlet_stands : (o : Office) → IsSound o → (c k : ℕ) (g : Given) →
    row_by_number (λ (g : Given). g.assignment.slot) k (held_by c o.assignments) ≡ Some g →
    IsSome (row_by_number (λ (u : Outlet). u.number) g.assignment.outlet o.outlets)
outlet_stands o sound c k g found =
    (all_of_found (λ (g : Given). g.assignment.slot)
    (λ row. ListsCollector row.0 o × ListsOutlet row.1.assignment.outlet o) c k g o.assignments sound.orderly.given
    found).1

pub returns-in-None : goal.returns-in-None
returns-in-None g c =
    let old = g.B.Book.state c.args.book.now in
    let mid = g.B.Book.state c.name_outlet.new.book in
    let o : Office = old.held in
    let reads = c.name_outlet.ensures in
    let never : mid.is_clean → IsSound o → ⊥ = λ clean sound.
    let was = reads.keeps.was_clean clean in
    let outlet : c.args.assignment.outlet ≡ c.args.given.assignment.outlet =
    outlet_kept c.args.what.now c.args.given.assignment c.args.assignment (frozen_months o.releases)
    (held_by c.args.former.number o.quotes) (c.requires.judged was) in
    let gone : row_by_number (λ (u : Outlet). u.number) c.args.assignment.outlet o.outlets ≡ None =
    lacks_outlet o.outlets c.args.assignment
    (rw (c.in_ok-assigned.was, c.in-None.is) at (c.in_ok-name_outlet.ensures.shown clean)) in
    let there : IsSome (row_by_number (λ (u : Outlet). u.number) c.args.given.assignment.outlet o.outlets) =
    outlet_stands o sound c.args.former.number c.args.what.now.slot c.args.given (c.requires.there was).stands in
    false≢true (rw (← outlet, gone) at there) in
    record {
      serves =
          refused_where (IsSound o) old mid UnknownOutlet
          (over_judged c.args.what.now o c.args.former c.args.taker c.args.given (Ok c.args.assignment)) reads.keeps
          (λ _. c.in_ok-name_outlet.ensures.stays) reads.count (λ clean sound. absurd (never clean sound));
      answered = λ clean sound. absurd (never clean sound);
      cause = tt;
    }
