-- The making of a release, over a book.
use Rattle.std.proofs.Common.{◌≡◌, ◌≢◌, ℕ, true, List, Option, None, Result, Ok, Err, inl, inr, refl, sym, ap, ◌∙◌, subst}
use Rattle.std.specs.Prelude.{◌⊎◌, IfOk, IsFalse, MatchResult}
use Rattle.cpi_codes.specs.declared.codes.Code.{Code}
use Rattle.cpi_plan.specs.Plan.{Plan}
use Rattle.cpi_plan.specs.Calendar.{CalendarPart}
use Rattle.cpi_index.specs.declared.fault.IndexFault.{IndexFault}
use Rattle.cpi_index.specs.declared.fault.IndexFault.TheVariants.{NoReference, NoSample, NoMatch, OutOfRange, NoMemory}
use Rattle.cpi_release.specs.Asking.{MayFreeze}
use Rattle.cpi_release.specs.FrozenMonths.{frozen_months, is_next_month, plan_for}
use Rattle.cpi_release.specs.GroupCalls.{Sources}
use Rattle.cpi_release.specs.Releasing.{Freeze, fault_of, release_of_month}
use Rattle.cpi_release.specs.Summed.{IsFreezeFault}
use Rattle.cpi_release.specs.declared.freeze_fault.FreezeFault.{FreezeFault}
use Rattle.cpi_release.specs.declared.freeze_fault.FreezeFault.TheVariants.{Index, Group}
use Rattle.cpi_release.specs.declared.release.Release.{Release}
use Rattle.cpi_release.specs.State.{State, StaysClean}
use Rattle.cpi_store.specs.Calls.{IsOffice}
use Rattle.cpi_store.specs.Office.{Office}
use Rattle.cpi_store.specs.Sound.{IsSound}
use Rattle.cpi_store.specs.Sources.{office_sources}
use Rattle.cpi_office.specs.Calls.{is_unavailable, reply_of}
use Rattle.cpi_office.specs.declared.cause.Cause.{Cause}
use Rattle.cpi_office.specs.declared.reply.Reply.{Reply}
use Rattle.cpi_office.specs.declared.reply.Reply.TheVariants.{Refused}
use Rattle.cpi_office.specs.Freezing.{frozen_with, unless_fault, IsMade, fault_refusal, release_verdict}
use Rattle.cpi_office.specs.Verdicts.{Refuses, verdict_reply}
use Rattle.cpi_office.specs.declared.refusal.Refusal.TheVariants.{Unavailable}
use Rattle.cpi_office.proofs.FreezePreconditions.{next_meets_preconditions}

-- what the groups make is what is made of the office
pub made_is : (wanted : Option IndexFault) (release : Release) (made : Result Release FreezeFault) →
    MatchResult made (λ r. (wanted ≡ None) × (r ≡ release)) (IsFreezeFault wanted) →
    IsMade (unless_fault wanted release) made
made_is wanted release (Ok r) h = rw h.0 (ap Ok (sym h.1))
made_is wanted release (Err Group) h = tt
made_is wanted release (Err (Index f)) h = λ known. ap (λ o. unless_fault o release) (h known)

-- a fault that is told is none of the store
pub all_read : (fault : FreezeFault) → IsFalse (is_unavailable (fault_refusal fault)) →
    ◌≢◌ {A = Result Release FreezeFault} (Err fault) (Err Group)
all_read Group told e = cc
all_read (Index f) told e = cc

-- what is made has a fault, which is told, or the office is unavailable
pub fault_told : (wanted : Result Release IndexFault) (fault : FreezeFault) → IsMade wanted (Err fault) →
    (release_verdict wanted ≡ Refuses (fault_refusal fault)) ⊎ (fault_refusal fault ≡ Unavailable)
fault_told wanted Group made = inr refl
fault_told wanted (Index NoMemory) made = inr refl
fault_told wanted (Index (NoReference code)) made = inl (ap release_verdict (made (λ e. cc)))
fault_told wanted (Index (NoSample code)) made = inl (ap release_verdict (made (λ e. cc)))
fault_told wanted (Index (NoMatch code)) made = inl (ap release_verdict (made (λ e. cc)))
fault_told wanted (Index (OutOfRange code)) made = inl (ap release_verdict (made (λ e. cc)))

-- a fault that is answered is the one that is wanted
pub fault_answered : (wanted : Result Release IndexFault) (fault : FreezeFault) (answer : Result Reply Cause) →
    reply_of answer ≡ Refused (fault_refusal fault) → IfOk answer (λ reply. fault_refusal fault ≢ Unavailable) →
    (release_verdict wanted ≡ Refuses (fault_refusal fault)) ⊎ (fault_refusal fault ≡ Unavailable) →
    IfOk answer (λ reply. reply ≡ verdict_reply (release_verdict wanted))
fault_answered wanted fault (Err cause) is own told = tt
fault_answered wanted fault (Ok reply) is own (inl same) = is ∙ ap verdict_reply (sym same)
fault_answered wanted fault (Ok reply) is own (inr none) = absurd (own none)

-- a freeze that isn't refused asks for what it may ask for
pub asked_for : (o : Office) → IsSound o → (now : ℕ) (row : CalendarPart) (carry : List Code) →
    is_next_month row.month (frozen_months o.releases) ≡ true →
    MayFreeze (office_sources o) (plan_for o.plans (frozen_months o.releases) row.month) (frozen_with now row carry o)
asked_for o s now row carry next =
    let w = next_meets_preconditions o.plans row.month o.releases s.orderly.releases s.released next in
    record { plan_is = w.plan_is; quotes = refl; after = λ some. (w.after some).0 }

pub asked_back : (s t : Sources) (p q : Option Plan) (x y : Freeze) → s ≡ t → p ≡ q → x ≡ y → MayFreeze t q y →
    MayFreeze s p x
asked_back s t p q x y a b d asked = subst (λ z. MayFreeze z p x) (sym a)
    (subst (λ z. MayFreeze t z x) (sym b) (subst (λ z. MayFreeze t q z) (sym d) asked))

abbrev pub Computed : Sources → Option Plan → Freeze → Result Release FreezeFault → Type 0
Computed s plan x made = MatchResult made (λ r. (fault_of plan s.releases x ≡ None)
    × (r ≡ release_of_month plan s.releases x)) (IsFreezeFault (fault_of plan s.releases x))

pub moved_to : (s t : Sources) (p q : Option Plan) (x y : Freeze) (made : Result Release FreezeFault) → s ≡ t →
    p ≡ q → x ≡ y → Computed s p x made → Computed t q y made
moved_to s t p q x y made a b d h = subst (λ z. Computed z q y made) a
    (subst (λ z. Computed s z y made) b (subst (λ z. Computed s p z made) d h))

-- a store that is clean for the groups is clean for the office
pub office_stays : {H : Type 0} {old new : State H} {was is : State Office} → IsOffice old was → IsOffice new is →
    StaysClean old new → StaysClean was is
office_stays one two stays = λ clean kept. two.is_clean (stays (one.clean clean) (two.kept kept))
