use Rattle.std.proofs.Common.{◌≡◌, ℕ, None, Some, Option, sym, ap, ◌∙◌}
use Rattle.std.specs.Option.{option_copied}
use Rattle.cpi_rows.specs.Held.{held_by}
use Rattle.cpi_rows.specs.Keyed.{row_by_number}
use Rattle.cpi_codes.specs.declared.series.SeriesId.{SeriesId}
use Rattle.cpi_survey.specs.Own.{OwnPart}
use Rattle.cpi_survey.specs.declared.assignment.Assigned.{Assigned}
use Rattle.cpi_store.specs.declared.given.Given.{Given}
use Rattle.cpi_store.specs.Holders.{all_assignments}
use Rattle.cpi_store.specs.Office.{Office, own_part}
use Rattle.cpi_store.specs.Series.{series_named_in}
use Rattle.cpi_store.proofs.OwnGiven.{given_found, nothing_found}
use Rattle.cpi_store.proofs.survey.Survey.given.Goals as goal

-- the assignment of the slot with its outlet's name, in a collector's part
abbrev assigned_in : ℕ → OwnPart → Option Assigned
assigned_in slot own = row_by_number (λ (a : Assigned). a.assignment.slot) slot own.assignments

pub returns-in-None : goal.returns-in-None
returns-in-None c =
    let o = c.args.self.now in
    let own = own_part c.args.collector o in
    let found : None ≡ assigned_in c.args.slot own = sym (ap option_copied c.in-None.is) ∙ c.assigned.ensures
    ∙ ap (assigned_in c.args.slot) c.own.ensures in
    nothing_found o.outlets c.args.slot (held_by c.args.collector o.assignments) found

pub returns-in-Some : goal.returns-in-Some
returns-in-Some c =
    let i = c.self.inside in
    let taken = i.taken in
    let rows = all_assignments i.holders.items in
    let n = c.args.collector in
    let slot = c.args.slot in
    let a : Assigned = c.in-Some.assigned.now in
    let found = sym (ap option_copied c.in-Some.is) ∙ c.assigned.ensures ∙ ap (assigned_in slot) c.own.ensures
    ∙ ap (λ (o : Office). assigned_in slot (own_part n o)) (sym c.self.view_is) in
    let series : c.series_in.result ≡ series_named_in taken n slot = c.series_in.ensures in
    let given : SeriesId → Given = λ s. record { assignment = a.assignment; series = s } in
    ap (λ s. Some (given s)) series ∙ given_found taken n i.outlets slot rows (Some a) found
    ∙ ap (λ (o : Office). row_by_number (λ (g : Given). g.assignment.slot) slot (held_by n o.assignments))
    c.self.view_is
