-- Verdicts on commands and entries: each has a reply, and changes at most one thing.
use Rattle.std.specs.Prelude.{[], List, ◌∷◌, Option, Some, None}
use Rattle.cpi_office.specs.declared.refusal.Refusal.{Refusal}
use Rattle.cpi_store.specs.Office.{Office, Change, office_with}
use Rattle.cpi_office.specs.declared.reply.Reply.{Reply}
use Rattle.cpi_office.specs.declared.reply.Reply.TheVariants as reply

-- The verdict on a command or an entry. A row that is there already is accepted, and changes nothing.
pub data Verdict : Type 0 where
  Refuses : Refusal → Verdict
  Stands : Change → Verdict
  Makes : Change → Verdict

abbrev pub verdict_reply : Verdict → Reply
verdict_reply (Refuses f) = reply.Refused f
verdict_reply (Stands c) = reply.Done
verdict_reply (Makes c) = reply.Done

abbrev pub with_verdict : Verdict → Office → Office
with_verdict (Refuses f) o = o
with_verdict (Stands c) o = o
with_verdict (Makes c) o = office_with c o

abbrev pub after_verdict : Option Verdict → Office → Office
after_verdict None o = o
after_verdict (Some v) o = with_verdict v o

-- the accepted change, with its row
abbrev pub accepted_changes : Option Verdict → List Change
accepted_changes None = []
accepted_changes (Some (Refuses f)) = []
accepted_changes (Some (Stands c)) = c ∷ []
accepted_changes (Some (Makes c)) = c ∷ []

-- the change that was made: an accepted one whose row wasn't there already
abbrev pub new_changes : Option Verdict → List Change
new_changes None = []
new_changes (Some (Refuses f)) = []
new_changes (Some (Stands c)) = []
new_changes (Some (Makes c)) = c ∷ []
