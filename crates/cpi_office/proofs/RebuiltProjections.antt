-- The laws of whole runs, by induction over the requests.
use Rattle.std.proofs.Common.{◌≡◌, ℕ, List, [], ◌∷◌, Some, None, Option, refl, sym, ap, ◌∙◌}
use Rattle.std.proofs.lemmas.Grind.{flat_map-append}
use Rattle.cpi_store.specs.Office.{Office, Change, office_with, PutsItem, PutsPlan, PutsCalendar, Registers, PutsOutlet}
use Rattle.cpi_store.specs.Office.{Assigns, HandsOver, Quotes, Freezes}
use Rattle.cpi_office.specs.Projections.{view}
use Rattle.cpi_office.specs.Verdicts.{Verdict, Refuses, Stands, Makes, after_verdict, new_changes}
use Rattle.cpi_office.specs.ProjectedChanges.{sights, sights_of, build}
use Rattle.cpi_office.specs.Runs.{request_verdict, next, after, trace, changes}
use Rattle.cpi_store.specs.Sound.{IsSound}
use Rattle.cpi_office.specs.Laws.{StaysSound, ChangesAreEnough}
use Rattle.cpi_office.specs.Releases.{ReleasesStay}
use Rattle.cpi_office.specs.declared.request.Ask.{Ask}
use Rattle.cpi_office.specs.declared.caller.Caller.{Caller}
use Rattle.cpi_office.proofs.Accepted.{Holds, Fits}
use Rattle.cpi_office.proofs.ProjectedChanges.{build_append}
use Rattle.cpi_store.proofs.Released.{release_total}
use Rattle.cpi_office.proofs.Isolation.{views_are_rebuilt, change_shows}
use Rattle.cpi_office.proofs.Fit.{judged_fit}
use Rattle.cpi_rows.specs.Keyed.{row_at}
use Rattle.cpi_rows.proofs.Puts.{row_at_put_found}
use Rattle.cpi_release.specs.FrozenMonths.{ReleaseKey, release_cmp, release_key}
use Rattle.cpi_release.specs.declared.release.Release.{Release}
use Rattle.cpi_office.proofs.Kept.{stays_sound}
use Rattle.cpi_office.proofs.Verdicts.{verdict_holds}

module _ (o : Office) (s : IsSound o) where
  kept : (v : Option Verdict) → Holds v o → IsSound (after_verdict v o)
  kept None h = s
  kept (Some (Refuses f)) h = s
  kept (Some (Stands c)) h = s
  kept (Some (Makes c)) h = stays_sound c o s h

pub next_sound : (a : Ask) (o : Office) → IsSound o → IsSound (next a o)
next_sound a o s = kept o s (request_verdict a.now a.caller a.request o) (verdict_holds a.now o s.orderly.collectors a.caller a.request)

pub sound_runs : StaysSound
sound_runs [] o s = s
sound_runs (a ∷ asks) o s = sound_runs asks (next a o) (next_sound a o s)

-- the office runs under its own judgement
pub rebuilt : (asks : List Ask) (o : Office) (k : Caller) (t : ℕ) → IsSound o →
    view k t (after asks o) ≡ build (view k t o) (sights_of k t (trace asks o))
rebuilt asks o k t s = views_are_rebuilt request_verdict judged_fit asks o k t s.orderly

pub changes_are_enough : ChangesAreEnough
changes_are_enough [] o k t s = refl
changes_are_enough (a ∷ asks) o k t s =
    let v = request_verdict a.now a.caller a.request o in
    changes_are_enough asks (next a o) k t (next_sound a o s)
    ∙ ap (λ w. build w (sights_of k t (changes asks (next a o))))
    (change_shows o s.orderly k t v (judged_fit a.now a.caller a.request o s.orderly))
    ∙ sym (build_append (view k t o) (sights_of k t (new_changes v)) (sights_of k t (changes asks (next a o))))
    ∙ ap (build (view k t o)) (sym (flat_map-append (sights k t) (new_changes v) (changes asks (next a o))))

-- ---- releases

module _ (o : Office) (s : IsSound o) (key : ReleaseKey) (r : Release)
    (there : row_at release_cmp release_key key o.releases ≡ Some r) where
  stays_after : (c : Change) → Fits c o → row_at release_cmp release_key key (office_with c o).releases ≡ Some r
  stays_after (PutsItem i) h = there
  stays_after (PutsPlan p) h = there
  stays_after (PutsCalendar c) h = there
  stays_after (Registers b) h = there
  stays_after (PutsOutlet u) h = there
  stays_after (Assigns b a) h = there
  stays_after (HandsOver n) h = there
  stays_after (Quotes b q) h = there
  stays_after (Freezes n) h = row_at_put_found release_total release_key n o.releases s.orderly.releases
      (h.0 s.orderly.releases) key r there

  stays_next : (v : Option Verdict) → Holds v o →
      row_at release_cmp release_key key (after_verdict v o).releases ≡ Some r
  stays_next None h = there
  stays_next (Some (Refuses f)) h = there
  stays_next (Some (Stands c)) h = there
  stays_next (Some (Makes c)) h = stays_after c h

pub releases_stay : ReleasesStay
releases_stay [] o s key r there = there
releases_stay (a ∷ asks) o s key r there =
    releases_stay asks (next a o) (next_sound a o s) key r
    (stays_next o s key r there (request_verdict a.now a.caller a.request o)
    (verdict_holds a.now o s.orderly.collectors a.caller a.request))
