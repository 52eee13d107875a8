-- Isolation under any rules, by induction over the requests.
use Rattle.std.proofs.Common.{◌≡◌, ◌≢◌, ℕ, List, [], ◌∷◌, ◌++◌, length, Some, None, Option, refl, sym, ap, ◌∙◌}
use Rattle.std.specs.Prelude.{slice_get}
use Rattle.std.proofs.lemmas.List.{append-nil}
use Rattle.std.proofs.lemmas.Grind.{flat_map-append}
use Rattle.cpi_store.specs.Office.{Office, Change, PutsItem, PutsPlan, PutsCalendar, Registers, PutsOutlet}
use Rattle.cpi_store.specs.Office.{Assigns, HandsOver, Quotes, Freezes}
use Rattle.cpi_store.specs.Orderly.{IsOrderly}
use Rattle.cpi_office.specs.Projections.{View, view}
use Rattle.cpi_office.specs.Verdicts.{Verdict, Refuses, Stands, Makes, after_verdict, accepted_changes, new_changes}
use Rattle.cpi_office.specs.ProjectedChanges.{sights, sights_of, build}
use Rattle.cpi_office.specs.Isolation.{Judgement, Answering, Replying, RepliesByView, JudgesFit, IsFit}
use Rattle.cpi_office.specs.Isolation.{NamesRows, IsNew, office_next, replies_in_turn, RepliesAreFromViews}
use Rattle.cpi_office.specs.Isolation.{office_after, accepted, StaysOrderly, ViewsAreRebuilt, AnswersAreAlike}
use Rattle.cpi_office.specs.declared.request.Ask.{Ask}
use Rattle.cpi_office.specs.declared.caller.Caller.{Caller}
use Rattle.cpi_office.specs.declared.caller.Caller.TheVariants.{Public, Collector, Desk}
use Rattle.cpi_office.specs.declared.request.Request.{Request}
use Rattle.cpi_office.proofs.ProjectedChanges.{shows_item, shows_plan, shows_calendar, shows_registered, shows_outlet}
use Rattle.cpi_office.proofs.ProjectedChanges.{shows_assignment, shows_handover, shows_quote, shows_release, Shows}
use Rattle.cpi_office.proofs.ProjectedChanges.{build_append}
use Rattle.cpi_office.proofs.Stood.{stood_shows}
use Rattle.cpi_office.proofs.Orderly.{stays_orderly}

-- a change that fits shows to each caller
pub made_shows : (k : Caller) (t : ℕ) (o : Office) → IsOrderly o → (c : Change) → NamesRows c o → IsNew c o →
    Shows k t o c
made_shows k t o s (PutsItem i) h new = shows_item k t o i
made_shows k t o s (PutsPlan p) h new = shows_plan k t o p
made_shows k t o s (PutsCalendar r) h new = shows_calendar k t o r
made_shows k t o s (Registers b) h new = shows_registered k t o s b new.0 new.1
made_shows k t o s (PutsOutlet u) h new = shows_outlet k t o s u new
made_shows k t o s (Assigns b a) h new = shows_assignment k t o s b a h.0 h.2
made_shows k t o s (HandsOver m) h new = shows_handover k t o s m h.0 h.1 h.3
made_shows k t o s (Quotes b q) h new = shows_quote k t o s b q h
made_shows k t o s (Freezes r) h new = shows_release k t o s r new

pub seen_one : (k : Caller) (t : ℕ) (c : Change) (v : View) →
    build v (sights k t c) ≡ build v (sights_of k t (c ∷ []))
seen_one k t c v = ap (build v) (sym (append-nil (sights k t c)))

module _ (o : Office) (s : IsOrderly o) where
  kept : (v : Option Verdict) → IsFit v o → IsOrderly (after_verdict v o)
  kept None h = s
  kept (Some (Refuses f)) h = s
  kept (Some (Stands c)) h = s
  kept (Some (Makes c)) h = stays_orderly c o s h.0 h.1

  module _ (k : Caller) (t : ℕ) where
    pub step_shows : (v : Option Verdict) → IsFit v o → view k t (after_verdict v o) ≡ build (view k t o)
        (sights_of k t (accepted_changes v))
    step_shows None h = refl
    step_shows (Some (Refuses f)) h = refl
    step_shows (Some (Stands c)) h = stood_shows k t o s c h.0 h.1 ∙ seen_one k t c (view k t o)
    step_shows (Some (Makes c)) h = made_shows k t o s c h.0 h.1 ∙ seen_one k t c (view k t o)

    -- of what was made alone
    pub change_shows : (v : Option Verdict) → IsFit v o → view k t (after_verdict v o) ≡ build (view k t o)
        (sights_of k t (new_changes v))
    change_shows None h = refl
    change_shows (Some (Refuses f)) h = refl
    change_shows (Some (Stands c)) h = refl
    change_shows (Some (Makes c)) h = made_shows k t o s c h.0 h.1 ∙ seen_one k t c (view k t o)

module _ (judge : Judgement) (fit : JudgesFit judge) where
  pub next_orderly : (a : Ask) (o : Office) → IsOrderly o → IsOrderly (office_next judge a o)
  next_orderly a o s = kept o s (judge a.now a.caller a.request o) (fit a.now a.caller a.request o s)

  pub after_orderly : (asks : List Ask) (o : Office) → IsOrderly o → IsOrderly (office_after judge asks o)
  after_orderly [] o s = s
  after_orderly (a ∷ asks) o s = after_orderly asks (office_next judge a o) (next_orderly a o s)

  pub views_rebuilt : (asks : List Ask) (o : Office) (k : Caller) (t : ℕ) → IsOrderly o →
      view k t (office_after judge asks o) ≡ build (view k t o) (sights_of k t (accepted judge asks o))
  views_rebuilt [] o k t s = refl
  views_rebuilt (a ∷ asks) o k t s =
      let v = judge a.now a.caller a.request o in
      views_rebuilt asks (office_next judge a o) k t (next_orderly a o s)
      ∙ ap (λ w. build w (sights_of k t (accepted judge asks (office_next judge a o))))
      (step_shows o s k t v (fit a.now a.caller a.request o s))
      ∙ sym (build_append (view k t o) (sights_of k t (accepted_changes v))
      (sights_of k t (accepted judge asks (office_next judge a o))))
      ∙ ap (build (view k t o)) (sym (flat_map-append (sights k t) (accepted_changes v)
      (accepted judge asks (office_next judge a o))))

pub stays_so : StaysOrderly
stays_so judge fit = after_orderly judge fit

pub views_are_rebuilt : ViewsAreRebuilt
views_are_rebuilt judge fit = views_rebuilt judge fit

-- the reply to all but the desk
pub from_view : (answer : Answering) (reply : Replying) → RepliesByView answer reply → (t : ℕ) (k : Caller) (r : Request)
    (o : Office) → k ≢ Desk → reply t k r o ≡ answer t k r (view k t o)
from_view answer reply by t Public r o other = by.public t r o
from_view answer reply by t (Collector key) r o other = by.collector t key r o
from_view answer reply by t Desk r o other = absurd (other refl)

reply_at : (reply : Replying) (judge : Judgement) (before rest : List Ask) (a : Ask) (o : Office) →
    slice_get (replies_in_turn reply judge (before ++ a ∷ rest) o) (length before) ≡ Some
    (reply a.now a.caller a.request (office_after judge before o))
reply_at reply judge [] rest a o = refl
reply_at reply judge (b ∷ before) rest a o = reply_at reply judge before rest a (office_next judge b o)

pub replies_are_from_views : RepliesAreFromViews
replies_are_from_views answer reply judge fit by before rest a o s other =
    reply_at reply judge before rest a o
    ∙ ap Some (from_view answer reply by a.now a.caller a.request (office_after judge before o) other
    ∙ ap (answer a.now a.caller a.request) (views_rebuilt judge fit before o a.caller a.now s))

pub answers_are_alike : AnswersAreAlike
answers_are_alike answer judge judge' fit fit' asks others o u k t r s s' same sees =
    ap (answer t k r) (views_rebuilt judge fit asks o k t s
    ∙ ap (λ v. build v (sights_of k t (accepted judge asks o))) same
    ∙ ap (build (view k t u)) sees ∙ sym (views_rebuilt judge' fit' others u k t s'))
