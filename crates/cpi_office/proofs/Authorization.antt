-- Authorization: a collector whose key is known is turned away only from requests that aren't a collector's.
use Rattle.std.proofs.Common.{◌≡◌, ℕ, Bool, false, Option, Some, None, refl, sym, ap, ◌∙◌}
use Rattle.std.specs.Prelude.{IsTrue}
use Rattle.std.proofs.lemmas.Bool.{false≢true}
use Rattle.cpi_survey.specs.Own.{OwnPart}
use Rattle.cpi_survey.specs.Decision.{entry_decision}
use Rattle.cpi_office.specs.Projections.{View, own_view}
use Rattle.cpi_office.specs.Answers.{collector_answer}
use Rattle.cpi_office.specs.Authorization.{is_turned_away}
use Rattle.cpi_office.specs.declared.request.Request.{Request}
use Rattle.cpi_office.specs.declared.request.Request.TheVariants as request
use Rattle.cpi_office.specs.declared.reply.Reply.{Reply}
use Rattle.cpi_office.specs.declared.reply.Reply.TheVariants.{Refused}
use Rattle.cpi_store.specs.Office.{Office}
use Rattle.cpi_store.specs.declared.registration.Registration.{Registration}
use Rattle.cpi_office.specs.Authentication.{collector_view, collector_reply}
use Rattle.cpi_office.specs.declared.refusal.Refusal.TheVariants.{NotForCaller, Unavailable}
use Rattle.cpi_office.proofs.Failures.{decision_own, work_own, table_own}

no : {A : Type 0} (t : Bool) → t ≡ false → IsTrue t → A
no t e turned = absurd (false≢true (sym e ∙ turned))

pub turned_is : (now : ℕ) (r : Request) (v : View) (own : OwnPart) →
    IsTrue (is_turned_away (collector_answer now r v own)) → collector_answer now r v own ≡ Refused NotForCaller
turned_is now request.Items v own turned = no false refl turned
turned_is now request.Tables v own turned = no false refl turned
turned_is now (request.Table month form edition) v own turned = no _ (table_own form month _).1 turned
turned_is now (request.Freeze month carry) v own turned = refl
turned_is now (request.Work month) v own turned = no _ (work_own month v.public own).1 turned
turned_is now (request.Quotes first last) v own turned = no false refl turned
turned_is now (request.Submit entry) v own turned = no _ (decision_own (entry_decision now entry v.public own)).1 turned
turned_is now (request.PutItem i) v own turned = refl
turned_is now (request.Register b) v own turned = refl
turned_is now (request.PutOutlet u) v own turned = refl
turned_is now (request.Assign n a) v own turned = refl
turned_is now (request.HandOver h) v own turned = refl
turned_is now (request.PutPlan year body) v own turned = refl
turned_is now (request.PutCalendar row) v own turned = refl

-- a request that is told its own reply turns nobody away
pub told_itself : {A : Type 0} (now : ℕ) (r own_request : Request) (v : View) (own : OwnPart) → r ≡ own_request →
    is_turned_away (collector_answer now own_request v own) ≡ false →
    IsTrue (is_turned_away (collector_answer now r v own)) → A
told_itself now r own_request v own same told turned =
    no _ told (ap (λ x. is_turned_away (collector_answer now x v own)) (sym same) ∙ turned)

-- a request that isn't a collector's is none whoever asks it
module _ (now : ℕ) (v w : View) (p q : OwnPart) where
  pub not_for : (r : Request) → IsTrue (is_turned_away (collector_answer now r v p)) →
      IsTrue (is_turned_away (collector_answer now r w q))
  not_for request.Items turned = no false refl turned
  not_for request.Tables turned = no false refl turned
  not_for (request.Table month form edition) turned = no _ (table_own form month _).1 turned
  not_for (request.Freeze month carry) turned = refl
  not_for (request.Work month) turned = no _ (work_own month v.public p).1 turned
  not_for (request.Quotes first last) turned = no false refl turned
  not_for (request.Submit entry) turned = no _ (decision_own (entry_decision now entry v.public p)).1 turned
  not_for (request.PutItem i) turned = refl
  not_for (request.Register b) turned = refl
  not_for (request.PutOutlet u) turned = refl
  not_for (request.Assign n a) turned = refl
  not_for (request.HandOver h) turned = refl
  not_for (request.PutPlan year body) turned = refl
  not_for (request.PutCalendar row) turned = refl

-- a request that isn't a collector's is unavailable to none who is found
pub told_of : {A : Type 0} (now : ℕ) (r : Request) (o u : Office) (found : Option Registration) (b : Registration)
    (reply : Reply) → (IsTrue (is_turned_away (collector_reply now r u (Some b))) →
    reply ≡ collector_reply now r u (Some b)) →
    collector_reply now r o found ≡ Refused NotForCaller → reply ≡ Refused Unavailable → A
told_of now r o u None b reply turns e f = let other : collector_reply now r o None ≡ Refused NotForCaller = e in cc
told_of now r o u (Some a) b reply turns e f =
    let turned = not_for now (collector_view now o (Some a)) (collector_view now u (Some b)) (own_view o a).part
    (own_view u b).part r (ap is_turned_away e) in
    absurd (false≢true (ap is_turned_away (sym f ∙ turns turned) ∙ turned))
