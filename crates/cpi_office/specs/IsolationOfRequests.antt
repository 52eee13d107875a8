-- Non-interference under any rules that keep collectors apart: other collectors' requests may be left out.
use Rattle.std.specs.Prelude.{◌≡◌, ℕ, IsFalse, List, [], ◌∷◌, ◌++◌, None, if◌then◌else◌}
use Rattle.std.specs.List.{AllByRecursion}
use Rattle.cpi_store.specs.Office.{Office, Change, Quotes}
use Rattle.cpi_store.specs.Orderly.{IsOrderly}
use Rattle.cpi_office.specs.Projections.{view}
use Rattle.cpi_office.specs.Verdicts.{accepted_changes}
use Rattle.cpi_office.specs.Isolation.{Judgement, Answering, Replying, RepliesByView, JudgesFit, office_next}
use Rattle.cpi_office.specs.NonInterference.{has_this_key, requests_without, passes_on, NonePassesOn}
use Rattle.cpi_office.specs.declared.caller.Caller.TheVariants.{Public, Collector, Desk}
use Rattle.cpi_office.specs.declared.request.Request.{Request}
use Rattle.cpi_office.specs.declared.request.Ask.{Ask}
use Rattle.cpi_office.specs.declared.reply.Reply.{Reply}

-- an office without its quotes
abbrev pub without_quotes : Office → Office
without_quotes o = record o { quotes = [] }

-- a quote of the collector with the key
abbrev pub IsOwnQuote : ℕ → Change → Type 0
IsOwnQuote key (Quotes b q) = b.key ≡ key
IsOwnQuote key _ = ⊥

-- What a judgement reads and changes: the public changes nothing; the desk's verdict doesn't depend on quotes, unless
-- the request passes prices on; a collector's depends on the collector's view alone, and puts own quotes alone.
pub record KeepsApart (judge : Judgement) : Type 0 where
  pub public : (now : ℕ) (r : Request) (o : Office) → judge now Public r o ≡ None
  pub desk : (now : ℕ) (r : Request) (o : Office) → IsFalse (passes_on r) →
      judge now Desk r (without_quotes o) ≡ judge now Desk r o
  pub viewed : (now key : ℕ) (r : Request) (o u : Office) →
      view (Collector key) now o ≡ view (Collector key) now u →
      judge now (Collector key) r o ≡ judge now (Collector key) r u
  pub own : (now key : ℕ) (r : Request) (o : Office) →
      AllByRecursion (IsOwnQuote key) (accepted_changes (judge now (Collector key) r o))

-- the replies to the requests that come with the key, in order
abbrev pub replies_to_key : Replying → Judgement → ℕ → List Ask → Office → List Reply
replies_to_key reply judge key [] o = []
replies_to_key reply judge key (a ∷ asks) o =
    (if has_this_key key a.caller then reply a.now a.caller a.request o ∷ [] else [])
    ++ replies_to_key reply judge key asks (office_next judge a o)

-- Under any such judgement, and whatever an answer makes of a view: if no request passes prices on, each collector's
-- replies are those without all other collectors' requests.
abbrev pub OthersDoNotMatter : Type 0
OthersDoNotMatter =
    (answer : Answering) (reply : Replying) (judge : Judgement) → JudgesFit judge → KeepsApart judge →
    RepliesByView answer reply →
    (key : ℕ) (asks : List Ask) (o : Office) → IsOrderly o → NonePassesOn asks →
    replies_to_key reply judge key asks o ≡ replies_to_key reply judge key (requests_without key asks) o
