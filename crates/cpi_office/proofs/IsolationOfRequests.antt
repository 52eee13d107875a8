-- Non-interference under any rules, by unwinding: two offices that differ only in other collectors' quotes stay so, and
-- answer alike.
use Rattle.std.proofs.Common.{◌≡◌, ◌≢◌, ℕ, true, false, eqb, List, [], ◌∷◌, ◌++◌, Some, None, Option, refl, sym, ap}
use Rattle.std.proofs.Common.{◌∙◌, inl, inr, Result, Ok, Err}
use Rattle.std.specs.Prelude.{◌⊎◌, IsFalse}
use Rattle.std.specs.List.{AllByRecursion}
use Rattle.std.proofs.lemmas.Bool.{false≢true}
use Rattle.std.proofs.lemmas.Bool.Decides.{eqb_tells}
use Rattle.cpi_survey.specs.Entry.{EntryRow}
use Rattle.cpi_survey.specs.Decision.{entry_decision}
use Rattle.cpi_survey.specs.declared.decision.Decision.{Decision}
use Rattle.cpi_survey.specs.declared.decision.Decision.TheVariants.{Again, Put}
use Rattle.cpi_survey.specs.declared.refusal.Refusal.{Refusal as EntryRefusal}
use Rattle.cpi_store.specs.Office.{Office, Change, office_with, PutsItem, PutsPlan, PutsCalendar, Registers, PutsOutlet}
use Rattle.cpi_store.specs.Office.{Assigns, HandsOver, Quotes, Freezes}
use Rattle.cpi_store.specs.Orderly.{IsOrderly}
use Rattle.cpi_office.specs.Projections.{View, OwnView, view}
use Rattle.cpi_office.specs.Verdicts.{Verdict, Refuses, Stands, Makes, after_verdict, accepted_changes}
use Rattle.cpi_office.specs.Desk.{command_verdict}
use Rattle.cpi_office.specs.Entries.{of_collector, entry_verdict, decision_verdict}
use Rattle.cpi_office.specs.Runs.{request_verdict}
use Rattle.cpi_office.specs.ProjectedChanges.{sights_of, build}
use Rattle.cpi_office.specs.Isolation.{Judgement, Answering, Replying, RepliesByView, JudgesFit, office_next}
use Rattle.cpi_office.specs.IsolationOfRequests.{without_quotes, IsOwnQuote, KeepsApart, replies_to_key}
use Rattle.cpi_office.specs.IsolationOfRequests.{OthersDoNotMatter}
use Rattle.cpi_office.specs.NonInterference.{requests_without, passes_on, NonePassesOn}
use Rattle.cpi_office.specs.declared.request.Ask.{Ask}
use Rattle.cpi_office.specs.declared.caller.Caller.{Caller}
use Rattle.cpi_office.specs.declared.caller.Caller.TheVariants as caller
use Rattle.cpi_office.specs.declared.request.Request.{Request}
use Rattle.cpi_office.specs.declared.request.Request.TheVariants as request
use Rattle.cpi_office.proofs.Isolation.{views_rebuilt, next_orderly}

bare_changed : (c : Change) (o u : Office) → without_quotes o ≡ without_quotes u →
    without_quotes (office_with c o) ≡ without_quotes (office_with c u)
bare_changed (PutsItem i) o u e = ap (office_with (PutsItem i)) e
bare_changed (PutsPlan p) o u e = ap (office_with (PutsPlan p)) e
bare_changed (PutsCalendar r) o u e = ap (office_with (PutsCalendar r)) e
bare_changed (Registers b) o u e = ap (office_with (Registers b)) e
bare_changed (PutsOutlet w) o u e = ap (office_with (PutsOutlet w)) e
bare_changed (Assigns b a) o u e = ap (office_with (Assigns b a)) e
bare_changed (HandsOver h) o u e = ap (office_with (HandsOver h)) e
bare_changed (Quotes b q) o u e = e
bare_changed (Freezes r) o u e = ap (office_with (Freezes r)) e

bare_after : (v : Option Verdict) (o u : Office) → without_quotes o ≡ without_quotes u →
    without_quotes (after_verdict v o) ≡ without_quotes (after_verdict v u)
bare_after None o u e = e
bare_after (Some (Refuses f)) o u e = e
bare_after (Some (Stands c)) o u e = e
bare_after (Some (Makes c)) o u e = bare_changed c o u e

module _ (answer : Answering) (reply : Replying) (judge : Judgement) (fit : JudgesFit judge) (keeps : KeepsApart judge)
    (by : RepliesByView answer reply) (key : ℕ) where
  abbrev Mine : Caller
  Mine = caller.Collector key

  -- two offices that differ only in other collectors' quotes: the relation of the unwinding
  record Agrees (o u : Office) : Type 0 where
    pub left : IsOrderly o
    pub right : IsOrderly u
    pub sees : (t : ℕ) → view Mine t o ≡ view Mine t u
    pub rest : without_quotes o ≡ without_quotes u

  -- the same request on both, with one verdict
  both_go : (a : Ask) (o u : Office) → Agrees o u →
      judge a.now a.caller a.request o ≡ judge a.now a.caller a.request u →
      Agrees (office_next judge a o) (office_next judge a u)
  both_go a o u agrees same =
      let v = judge a.now a.caller a.request o in
      let w = judge a.now a.caller a.request u in
      record {
        left = next_orderly judge fit a o agrees.left;
        right = next_orderly judge fit a u agrees.right;
        sees = λ t.
            views_rebuilt judge fit (a ∷ []) o Mine t agrees.left
            ∙ ap (λ x. build x (sights_of Mine t (accepted_changes v ++ []))) (agrees.sees t)
            ∙ ap (λ x. build (view Mine t u) (sights_of Mine t (accepted_changes x ++ []))) same
            ∙ sym (views_rebuilt judge fit (a ∷ []) u Mine t agrees.right);
        rest = bare_after v o u agrees.rest ∙ ap (λ x. without_quotes (after_verdict x u)) same;
      }

  -- ---- a request of another collector

  module _ (other : ℕ) (apart : eqb other key ≡ false) where
    abbrev Unseen : Option Verdict → Type 0
    Unseen v = ((t : ℕ) → sights_of Mine t (accepted_changes v ++ []) ≡ []) ×
        ((o : Office) → without_quotes (after_verdict v o) ≡ without_quotes o)

    hidden : (c : Change) → IsOwnQuote other c → (t : ℕ) → sights_of Mine t (c ∷ []) ≡ []
    hidden (Quotes b q) own t = rw (ap (λ x. eqb x key) own ∙ apart) refl
    hidden (PutsItem i) own t = absurd own
    hidden (PutsPlan p) own t = absurd own
    hidden (PutsCalendar r) own t = absurd own
    hidden (Registers b) own t = absurd own
    hidden (PutsOutlet w) own t = absurd own
    hidden (Assigns b a) own t = absurd own
    hidden (HandsOver h) own t = absurd own
    hidden (Freezes r) own t = absurd own

    kept : (c : Change) → IsOwnQuote other c → (o : Office) → without_quotes (office_with c o) ≡ without_quotes o
    kept (Quotes b q) own o = refl
    kept (PutsItem i) own o = absurd own
    kept (PutsPlan p) own o = absurd own
    kept (PutsCalendar r) own o = absurd own
    kept (Registers b) own o = absurd own
    kept (PutsOutlet w) own o = absurd own
    kept (Assigns b a) own o = absurd own
    kept (HandsOver h) own o = absurd own
    kept (Freezes r) own o = absurd own

    unseen : (v : Option Verdict) → AllByRecursion (IsOwnQuote other) (accepted_changes v) → Unseen v
    unseen None own = (λ t. refl, λ o. refl)
    unseen (Some (Refuses f)) own = (λ t. refl, λ o. refl)
    unseen (Some (Stands c)) own = (hidden c own.0, λ o. refl)
    unseen (Some (Makes c)) own = (hidden c own.0, kept c own.0)

    one_goes : (now : ℕ) (r : Request) (o u : Office) → Agrees o u →
        Agrees (office_next judge (record { now = now; caller = caller.Collector other; request = r }) o) u
    one_goes now r o u agrees =
        let a : Ask = record { now = now; caller = caller.Collector other; request = r } in
        let quiet = unseen (judge now (caller.Collector other) r o) (keeps.own now other r o) in
        record {
          left = next_orderly judge fit a o agrees.left;
          right = agrees.right;
          sees = λ t. views_rebuilt judge fit (a ∷ []) o Mine t agrees.left ∙ ap (build (view Mine t o)) (quiet.0 t)
              ∙ agrees.sees t;
          rest = quiet.1 o ∙ agrees.rest;
        }

  -- ---- a list of requests

  abbrev Alike : List Ask → Type 0
  Alike asks = NonePassesOn asks → (o u : Office) → Agrees o u →
      replies_to_key reply judge key asks o ≡ replies_to_key reply judge key (requests_without key asks) u

  step : (now : ℕ) (c : Caller) (r : Request) (asks : List Ask) → Alike asks →
      Alike (record { now = now; caller = c; request = r } ∷ asks)
  step now caller.Public r asks rest none o u agrees =
      rest none.1 _ _ (both_go (record { now = now; caller = caller.Public; request = r }) o u agrees
      (keeps.public now r o ∙ sym (keeps.public now r u)))
  step now caller.Desk r asks rest none o u agrees =
      rest none.1 _ _ (both_go (record { now = now; caller = caller.Desk; request = r }) o u agrees
      (sym (keeps.desk now r o none.0) ∙ ap (judge now caller.Desk r) agrees.rest ∙ keeps.desk now r u none.0))
  step now (caller.Collector k) r asks rest none o u agrees = cases (eqb_tells k key)
    where
      a : Ask
      a = record { now = now; caller = caller.Collector k; request = r }

      views : k ≡ key → view (caller.Collector k) now o ≡ view (caller.Collector k) now u
      views same = ap (λ x. view (caller.Collector x) now o) same ∙ agrees.sees now
          ∙ ap (λ x. view (caller.Collector x) now u) (sym same)

      said : k ≡ key → reply now (caller.Collector k) r o ≡ reply now (caller.Collector k) r u
      said same = by.collector now k r o ∙ ap (answer now (caller.Collector k) r) (views same)
          ∙ sym (by.collector now k r u)

      same_key : k ≡ key → Agrees (office_next judge a o) (office_next judge a u)
      same_key same = both_go a o u agrees (keeps.viewed now k r o u (views same))

      cases : ((eqb k key ≡ true) × (k ≡ key)) ⊎ ((eqb k key ≡ false) × (k ≢ key)) →
          replies_to_key reply judge key (a ∷ asks) o ≡ replies_to_key reply judge key (requests_without key (a ∷ asks)) u
      cases (inl same) =
          rw (same.0, same.0)
          (ap (λ x. x ∷ replies_to_key reply judge key asks (office_next judge a o)) (said same.1)
          ∙ ap (λ xs. reply now (caller.Collector k) r u ∷ xs) (rest none.1 _ _ (same_key same.1)))
      cases (inr apart) = rw apart.0 (rest none.1 _ _ (one_goes k apart.0 now r o u agrees))

  alike : (asks : List Ask) → Alike asks
  alike [] none o u agrees = refl
  alike (a ∷ asks) none o u agrees = step a.now a.caller a.request asks (alike asks) none o u agrees

pub others_do_not_matter : OthersDoNotMatter
others_do_not_matter answer reply judge fit keeps by key asks o s none =
    alike answer reply judge fit keeps by key asks none o o
    (record { left = s; right = s; sees = λ t. refl; rest = refl })

-- ---- the office's own judgement

-- the desk's commands don't depend on quotes, except a freeze and a hand-over
commanded_bare : (now : ℕ) (r : Request) (o : Office) → IsFalse (passes_on r) →
    command_verdict now r (without_quotes o) ≡ command_verdict now r o
commanded_bare now request.Items o h = refl
commanded_bare now request.Tables o h = refl
commanded_bare now (request.Table month form edition) o h = refl
commanded_bare now (request.Work month) o h = refl
commanded_bare now (request.Quotes first last) o h = refl
commanded_bare now (request.Submit entry) o h = refl
commanded_bare now (request.PutItem i) o h = refl
commanded_bare now (request.Register b) o h = refl
commanded_bare now (request.PutOutlet u) o h = refl
commanded_bare now (request.Assign n a) o h = refl
commanded_bare now (request.PutPlan year body) o h = refl
commanded_bare now (request.PutCalendar row) o h = refl
commanded_bare now (request.Freeze month carry) o h = absurd (false≢true (sym h))
commanded_bare now (request.HandOver n) o h = absurd (false≢true (sym h))

module _ (key : ℕ) where
  abbrev Own : Option Verdict → Type 0
  Own v = AllByRecursion (IsOwnQuote key) (accepted_changes v)

  decision_own : (n : ℕ) (entry : EntryRow) (d : Result Decision EntryRefusal) →
      Own (Some (decision_verdict (record { number = n; key = key }) entry d))
  decision_own n entry (Err f) = tt
  decision_own n entry (Ok (Again receipt)) = (refl, tt)
  decision_own n entry (Ok (Put q)) = (refl, tt)

  entered_own : (now : ℕ) (entry : EntryRow) (v : View) (own : Option OwnView) → Own (entry_verdict key now entry v own)
  entered_own now entry v None = tt
  entered_own now entry v (Some own) = decision_own own.number entry (entry_decision now entry v.public own.part)

  collector_own : (now : ℕ) (r : Request) (v : View) → Own (of_collector key now r v)
  collector_own now (request.Submit entry) v = entered_own now entry v v.own
  collector_own now request.Items v = tt
  collector_own now request.Tables v = tt
  collector_own now (request.Table month form edition) v = tt
  collector_own now (request.Freeze month carry) v = tt
  collector_own now (request.Work month) v = tt
  collector_own now (request.Quotes first last) v = tt
  collector_own now (request.PutItem i) v = tt
  collector_own now (request.Register b) v = tt
  collector_own now (request.PutOutlet u) v = tt
  collector_own now (request.Assign n a) v = tt
  collector_own now (request.HandOver n) v = tt
  collector_own now (request.PutPlan year body) v = tt
  collector_own now (request.PutCalendar row) v = tt

pub judged_apart : KeepsApart request_verdict
judged_apart = record {
  public = λ now r o. refl;
  desk = λ now r o none. commanded_bare now r o none;
  viewed = λ now key r o u same. ap (of_collector key now r) same;
  own = λ now key r o. collector_own key now r (view (caller.Collector key) now o);
}
