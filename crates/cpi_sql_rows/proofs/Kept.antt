-- What holds of the tables holds of the same rows.
use Rattle.std.proofs.Common.{sym, ap, subst, ◌∙◌}
use Rattle.std.specs.Ordering.{nat_cmp}
use Rattle.sqlite.specs.Effect.{Database}
use Rattle.sqlite.specs.State.{State}
use Rattle.cpi_rows.specs.Held.{held_cmp, held_key}
use Rattle.cpi_survey.specs.Quote.{quote_cmp, quote_key}
use Rattle.cpi_sql_rows.specs.Lists.{collector_in, outlet_in, item_in, calendar_in, assignment_in_row, quote_in}
use Rattle.cpi_sql_rows.specs.Making.{IsOfficeDatabase}
use Rattle.cpi_sql_rows.specs.Shelf.{HasTables, HasPlans, HasReleases, HasRowids, IsKeyed, IsKept}

pub kept_tables : (old new : State) → IsKept old new → HasTables old → HasTables new
kept_tables old new k h = record {
  schema = ap (λ (d : Database). d.schema) k.now ∙ h.schema;
  alone = k.alone;
  office = subst (λ (d : Database). IsOfficeDatabase d.trees) (sym k.now) h.office;
  rowids = subst (λ (d : Database). HasRowids (d.trees 24)) (sym k.now) h.rowids;
  days = subst (λ (d : Database). HasRowids (d.trees 10)) (sym k.now) h.days;
  assignment_ids = subst (λ (d : Database). HasRowids (d.trees 22)) (sym k.now) h.assignment_ids;
  collectors = subst (λ (d : Database). IsKeyed nat_cmp (λ b. b.number) collector_in (d.trees 1))
      (sym k.now) h.collectors;
  outlets = subst (λ (d : Database). IsKeyed nat_cmp (λ u. u.number) outlet_in (d.trees 3)) (sym k.now) h.outlets;
  items = subst (λ (d : Database). IsKeyed nat_cmp (λ i. i.code) item_in (d.trees 4)) (sym k.now) h.items;
  calendar = subst (λ (d : Database). IsKeyed nat_cmp (λ r. r.month) calendar_in (d.trees 10)) (sym k.now) h.calendar;
  assignments = subst (λ (d : Database). IsKeyed (held_cmp nat_cmp) (held_key (λ g. g.assignment.slot))
      assignment_in_row
      (d.trees 22)) (sym k.now) h.assignments;
  quotes = subst (λ (d : Database). IsKeyed (held_cmp quote_cmp) (held_key quote_key) quote_in (d.trees 24))
      (sym k.now) h.quotes;
  plans = subst (λ (d : Database). HasPlans d.trees) (sym k.now) h.plans;
  releases = subst (λ (d : Database). HasReleases d.trees) (sym k.now) h.releases;
}

pub kept_then : (a b c : State) → IsKept a b → IsKept b c → IsKept a c
kept_then a b c p q = record { now = q.now ∙ p.now; alone = q.alone }
