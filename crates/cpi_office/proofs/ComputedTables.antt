-- A table that is told is the one that is computed.
use Rattle.std.proofs.Common.{◌≡◌, ℕ, List, Option, Some, None, refl, ap, ◌∙◌}
use Rattle.std.specs.Prelude.{IsSome, option_map}
use Rattle.std.proofs.lemmas.Bool.{false≢true}
use Rattle.cpi_release.specs.PublishedTables.{asked_table, published_until}
use Rattle.cpi_release.specs.declared.form.Form.{Form}
use Rattle.cpi_release.specs.declared.release.Release.{Release}
use Rattle.cpi_store.specs.Registration.{registration_of}
use Rattle.cpi_store.specs.Office.{Office}
use Rattle.cpi_store.specs.Sound.{IsSound}
use Rattle.cpi_store.specs.declared.registration.Registration.{Registration}
use Rattle.cpi_store.proofs.History.{releases_computed}
use Rattle.cpi_office.specs.Answers.{known_answer, reply_with_table}
use Rattle.cpi_office.specs.ComputedTables.{computed_reply, IsKnown, TablesAreTold, TellTables}
use Rattle.cpi_office.specs.RebuiltProjections.{served_before}
use Rattle.cpi_office.specs.Runs.{after, reply_to}
use Rattle.cpi_office.specs.Served.{IsRun}
use Rattle.cpi_office.specs.Projections.{view, own_view}
use Rattle.cpi_office.specs.declared.caller.Caller.{Caller}
use Rattle.cpi_office.specs.declared.caller.Caller.TheVariants.{Public, Collector, Desk}
use Rattle.cpi_office.specs.declared.reply.Reply.{Reply}
use Rattle.cpi_office.specs.declared.request.Ask.{Ask}
use Rattle.cpi_office.specs.declared.request.Request.TheVariants.{Table}
use Rattle.cpi_office.proofs.RebuiltProjections.{sound_runs}
use Rattle.cpi_office.proofs.RunViews.{reply_in}

module _ (now month : ℕ) (form : Form) (revision : Option ℕ) (o : Office) (s : IsSound o) where
  abbrev among : List Release → Reply
  among releases = reply_with_table form month (asked_table month revision (published_until now releases))

  computed : among o.releases ≡ computed_reply now month form revision o
  computed = ap among (releases_computed o s)

  -- of a caller who isn't turned away
  pub table_told : (k : Caller) → IsKnown k o →
      reply_to now k (Table month form revision) o ≡ computed_reply now month form revision o
  table_told Public known = computed
  table_told Desk known = computed
  table_told (Collector key) known = cases (registration_of key o.collectors) known ∙ computed
    where
      cases : (w : Option Registration) → IsSome w →
          known_answer now (Table month form revision) (view (Collector key) now o) (option_map (own_view o) w)
          ≡ among o.releases
      cases None known = absurd (false≢true known)
      cases (Some b) known = refl

pub tables_are_told : TablesAreTold
tables_are_told a o s month form revision is known =
    ap (λ r. reply_to a.now a.caller r o) is ∙ table_told a.now month form revision o s a.caller known

pub run_tables : (o u : Office) (asks : List Ask) (rs : List Reply) → IsSound o → IsRun o asks rs u →
    TellTables o asks rs
run_tables o u asks rs s run place a r asked said fine month form revision is known =
    let before = served_before place asks rs in
    reply_in o asks rs run.answers place a r asked said fine
    ∙ tables_are_told a (after before o) (sound_runs before o s) month form revision is known
