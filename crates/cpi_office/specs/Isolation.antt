-- Isolation under any rules: whatever the desk decides, and whatever an answer makes of a view.
use Rattle.std.specs.Prelude.{◌≡◌, ◌≢◌, ℕ, List, [], ◌∷◌, ◌++◌, length, slice_get, Option, Some, None, ⊤}
use Rattle.cpi_rows.specs.Keyed.{row_at, row_by_number}
use Rattle.cpi_release.specs.FrozenMonths.{release_cmp, release_key}
use Rattle.cpi_store.specs.Office.{Office, Change, office_with}
use Rattle.cpi_store.specs.Office.{Registers, PutsOutlet, Assigns, HandsOver, Quotes, Freezes}
use Rattle.cpi_store.specs.Outlet.{with_name}
use Rattle.cpi_store.specs.Registration.{registration_of}
use Rattle.cpi_store.specs.declared.registration.Registration.{Registration}
use Rattle.cpi_store.specs.Orderly.{IsOrderly, ListsOutlet}
use Rattle.cpi_office.specs.Projections.{View, view}
use Rattle.cpi_office.specs.ProjectedChanges.{sights_of, build}
use Rattle.cpi_office.specs.Verdicts.{Verdict, Refuses, Stands, Makes, after_verdict, accepted_changes}
use Rattle.cpi_office.specs.declared.caller.Caller.{Caller}
use Rattle.cpi_office.specs.declared.caller.Caller.TheVariants.{Public, Collector, Desk}
use Rattle.cpi_office.specs.declared.request.Request.{Request}
use Rattle.cpi_office.specs.declared.request.Ask.{Ask}
use Rattle.cpi_office.specs.declared.reply.Reply.{Reply}

-- ---- the rules

-- the verdict of an office on a caller's request at a moment; None for a request that changes nothing
abbrev pub Judgement : Type 0
Judgement = ℕ → Caller → Request → Office → Option Verdict

-- the answer to a caller's request at a moment, from the caller's view
abbrev pub Answering : Type 0
Answering = ℕ → Caller → Request → View → Reply

-- the reply of an office to a caller's request at a moment
abbrev pub Replying : Type 0
Replying = ℕ → Caller → Request → Office → Reply

-- the replies to a collector and to the public are answers from their views; the desk sees all
pub record RepliesByView (answer : Answering) (reply : Replying) : Type 0 where
  pub public : (now : ℕ) (r : Request) (o : Office) → reply now Public r o ≡ answer now Public r (view Public now o)
  pub collector : (now key : ℕ) (r : Request) (o : Office) →
      reply now (Collector key) r o ≡ answer now (Collector key) r (view (Collector key) now o)

-- ---- runs under a judgement

module _ (judge : Judgement) where
  abbrev pub office_next : Ask → Office → Office
  office_next a o = after_verdict (judge a.now a.caller a.request o) o

-- the office after the requests
abbrev pub office_after : Judgement → List Ask → Office → Office
office_after judge [] o = o
office_after judge (a ∷ asks) o = office_after judge asks (office_next judge a o)

-- the replies, in order
abbrev pub replies_in_turn : Replying → Judgement → List Ask → Office → List Reply
replies_in_turn reply judge [] o = []
replies_in_turn reply judge (a ∷ asks) o =
    reply a.now a.caller a.request o ∷ replies_in_turn reply judge asks (office_next judge a o)

-- the accepted changes, in order
abbrev pub accepted : Judgement → List Ask → Office → List Change
accepted judge [] o = []
accepted judge (a ∷ asks) o =
    accepted_changes (judge a.now a.caller a.request o) ++ accepted judge asks (office_next judge a o)

-- ---- what isolation asks of a judgement

-- the collector is there, with this key
abbrev pub HasRegistered : Registration → Office → Type 0
HasRegistered b o = row_by_number (λ b. b.number) b.number o.collectors ≡ Some b

-- the rows that a change speaks of are there, and it shows an outlet's name as it is
abbrev pub NamesRows : Change → Office → Type 0
NamesRows (Assigns b a) o =
    HasRegistered b o × ListsOutlet a.assignment.outlet o × (a ≡ with_name o.outlets a.assignment)
NamesRows (HandsOver h) o =
    HasRegistered h.former o × HasRegistered h.taker o × ListsOutlet h.assigned.assignment.outlet o
    × (h.assigned ≡ with_name o.outlets h.assigned.assignment)
NamesRows (Quotes b q) o = HasRegistered b o
NamesRows _ o = ⊤

-- the number and the key of a collector, the number of an outlet, and the month and revision of a release are new
abbrev pub IsNew : Change → Office → Type 0
IsNew (Registers b) o =
    (row_by_number (λ b. b.number) b.number o.collectors ≡ None) × (registration_of b.key o.collectors ≡ None)
IsNew (PutsOutlet u) o = row_by_number (λ u. u.number) u.number o.outlets ≡ None
IsNew (Freezes r) o = row_at release_cmp release_key (release_key r) o.releases ≡ None
IsNew _ o = ⊤

-- what is made is new, and what stands changes nothing
abbrev pub IsFit : Option Verdict → Office → Type 0
IsFit None o = ⊤
IsFit (Some (Refuses f)) o = ⊤
IsFit (Some (Stands c)) o = NamesRows c o × (office_with c o ≡ o)
IsFit (Some (Makes c)) o = NamesRows c o × IsNew c o

abbrev pub JudgesFit : Judgement → Type 0
JudgesFit judge = (now : ℕ) (k : Caller) (r : Request) (o : Office) → IsOrderly o → IsFit (judge now k r o) o

-- ---- isolation

-- under any fit judgement an orderly office stays orderly
abbrev pub StaysOrderly : Type 0
StaysOrderly =
    (judge : Judgement) → JudgesFit judge →
    (asks : List Ask) (o : Office) → IsOrderly o → IsOrderly (office_after judge asks o)

-- After any requests, each caller's view at each moment is the view before, with the accepted rows that the caller
-- sees.
abbrev pub ViewsAreRebuilt : Type 0
ViewsAreRebuilt =
    (judge : Judgement) → JudgesFit judge →
    (asks : List Ask) (o : Office) (k : Caller) (t : ℕ) → IsOrderly o →
    view k t (office_after judge asks o) ≡ build (view k t o) (sights_of k t (accepted judge asks o))

-- Each reply of a run, but to the desk, is the answer from the view that the caller had before the run, with the rows
-- that the caller has seen since.
abbrev pub RepliesAreFromViews : Type 0
RepliesAreFromViews =
    (answer : Answering) (reply : Replying) (judge : Judgement) → JudgesFit judge → RepliesByView answer reply →
    (before rest : List Ask) (a : Ask) (o : Office) → IsOrderly o → a.caller ≢ Desk →
    slice_get (replies_in_turn reply judge (before ++ a ∷ rest) o) (length before)
    ≡ Some (answer a.now a.caller a.request
    (build (view a.caller a.now o) (sights_of a.caller a.now (accepted judge before o))))

-- So two offices, under any two judgements, answer a caller alike who starts with one view of both and has seen the
-- same of both since: whatever an answer makes of a view.
abbrev pub AnswersAreAlike : Type 0
AnswersAreAlike =
    (answer : Answering) (judge judge' : Judgement) → JudgesFit judge → JudgesFit judge' →
    (asks others : List Ask) (o u : Office) (k : Caller) (t : ℕ) (r : Request) → IsOrderly o → IsOrderly u →
    view k t o ≡ view k t u → sights_of k t (accepted judge asks o) ≡ sights_of k t (accepted judge' others u) →
    answer t k r (view k t (office_after judge asks o)) ≡ answer t k r (view k t (office_after judge' others u))
