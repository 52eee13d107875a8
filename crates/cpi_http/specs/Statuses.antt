-- The status of a reply.
use Rattle.std.specs.Prelude.{ℕ}
use Rattle.cpi_office.specs.declared.refusal.Refusal.{Refusal}
use Rattle.cpi_office.specs.declared.refusal.Refusal.TheVariants as refusal
use Rattle.cpi_office.specs.declared.reply.Reply.{Reply}
use Rattle.cpi_office.specs.declared.reply.Reply.TheVariants as reply

-- a request that conflicts with what the office has stored has the status 409
abbrev pub status_of_refusal : Refusal → ℕ
status_of_refusal refusal.BadRequest = 400
status_of_refusal refusal.UnknownKey = 401
status_of_refusal refusal.NotForCaller = 403
status_of_refusal refusal.UnknownSlot = 404
status_of_refusal refusal.UnknownMonth = 404
status_of_refusal refusal.NoTable = 404
status_of_refusal refusal.Unavailable = 503
status_of_refusal other = 409

abbrev pub status_of_reply : Reply → ℕ
status_of_reply (reply.Refused why) = status_of_refusal why
status_of_reply other = 200
