-- The message that was carried out, and its response.
use Rattle.std.proofs.Common.{◌≡◌, ℕ, Bool, true, false, ◌||◌, Option, Result, Ok, Err, IfOk, refl, sym, subst}
use Rattle.cpi_release.specs.State.{State}
use Rattle.cpi_store.specs.Office.{Office}
use Rattle.cpi_office.specs.Calls.{is_failure_of}
use Rattle.cpi_office.specs.declared.caller.Caller.{Caller}
use Rattle.cpi_office.specs.declared.cause.Cause.{Cause}
use Rattle.cpi_office.specs.declared.request.Request.{Request}
use Rattle.cpi_office.specs.declared.refusal.Refusal.TheVariants.{BadRequest}
use Rattle.cpi_office.specs.declared.reply.Reply.{Reply}
use Rattle.cpi_office.specs.declared.reply.Reply.TheVariants.{Refused}
use Rattle.cpi_wire.specs.declared.asks.Ask.TheVariants as ask
use Rattle.cpi_wire.specs.Answer as answer
use Rattle.cpi_wire.specs.Answers.{IsServed}
use Rattle.cpi_wire.specs.Causes.{IsCaused}
use Rattle.cpi_wire.specs.Line.{line_of_reply}
use Rattle.cpi_http.specs.declared.responses.Response.{Response}
use Rattle.cpi_http.specs.Response.{IsCarriedOut, Said, SaysResponse, form_asked, in_json, said_of}

or_false : (b : Bool) → b ≡ (b || false)
or_false true = refl
or_false false = refl

module _ {B : Type 0} (state : B → State Office) where
  pub bad_carried : (old : B) (r : Response) → SaysResponse (in_json 400 (line_of_reply (Refused BadRequest))) false r
      → IsCarriedOut state (Ok ask.Bad) old old r
  bad_carried old r says = (answer.One (Refused BadRequest), (refl, refl), says)

  pub refused_carried : (status : ℕ) (old : B) (r : Response)
      → SaysResponse (in_json status (line_of_reply (Refused BadRequest))) false r
      → IsCarriedOut state (Err status) old old r
  refused_carried status old r says = (answer.One (Refused BadRequest), (refl, refl), says)

  pub one_carried : (now : ℕ) (caller : Caller) (request : Request) (reply : Reply) (old new : B) (r : Response)
      → IsServed state now caller old request reply new
      → SaysResponse (said_of (form_asked request) reply) (is_failure_of reply) r
      → IsCarriedOut state (Ok (ask.One now caller request)) old new r
  one_carried now caller request reply old new r served says = (
    answer.One reply,
    served,
    subst (λ b. SaysResponse (said_of (form_asked request) reply) b r) (or_false (is_failure_of reply)) says,
  )

-- the cause is that of the reply
pub said_caused : {E : Type 0} (old new : State Office) (said : Said) (failed : Bool) (cause : Option Cause)
    (r : Result Response E) → IsCaused old new failed cause → IfOk r (SaysResponse said failed)
    → IfOk r (λ response. response.cause ≡ cause)
    → IfOk r (λ response. IsCaused old new response.failed response.cause)
said_caused old new said failed cause (Ok response) caused says is =
    subst (λ f. IsCaused old new f response.cause) (sym says.3)
    (subst (λ c. IsCaused old new failed c) (sym is) caused)
said_caused old new said failed cause (Err e) caused says is = tt
