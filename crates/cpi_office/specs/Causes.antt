-- What a caller is told, refusal 90 included.
use Rattle.std.specs.Prelude.{◌≡◌, ◌≢◌, ℕ, Result, IfOk}
use Rattle.std.specs.Result.{is_ok}
use Rattle.cpi_store.specs.Office.{Office}
use Rattle.cpi_office.specs.Calls.{reply_of}
use Rattle.cpi_office.specs.Projections.{view}
use Rattle.cpi_office.specs.Runs.{reply_to}
use Rattle.cpi_office.specs.declared.caller.Caller.{Caller}
use Rattle.cpi_office.specs.declared.caller.Caller.TheVariants.{Desk}
use Rattle.cpi_office.specs.declared.cause.Cause.{Cause}
use Rattle.cpi_office.specs.declared.reply.Reply.{Reply}
use Rattle.cpi_office.specs.declared.request.Request.{Request}

-- Let two calls, over two offices of which a caller but the desk sees the same, each give the office's reply to a
-- request of the caller, or a cause. If both gave a reply or neither did, the caller is told the same, refusal 90
-- included.
abbrev pub CausesAreAll : Type 0
CausesAreAll =
    (now : ℕ) (k : Caller) (r : Request) (o u : Office) (a b : Result Reply Cause) → k ≢ Desk →
    view k now o ≡ view k now u → IfOk a (λ reply. reply ≡ reply_to now k r o) →
    IfOk b (λ reply. reply ≡ reply_to now k r u) → is_ok a ≡ is_ok b → reply_of a ≡ reply_of b
