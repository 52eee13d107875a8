-- The causes of replies that are 90: of no request, of one, and of more.
use Rattle.std.proofs.Common.{◌≡◌, ◌≤◌, ◌<◌, ◌||◌, ◌∙◌, refl, sym, ap, subst, arith, ℕ, Bool, true, false}
use Rattle.std.proofs.Common.{List, [], ◌∷◌, ◌++◌, Option, Some, None, IfSome}
use Rattle.std.specs.List.{list_any}
use Rattle.cpi_release.specs.State.{State}
use Rattle.cpi_store.specs.Office.{Office}
use Rattle.cpi_store.specs.Sound.{IsSound}
use Rattle.cpi_office.specs.Calls.{ServesWhere, is_failure_of}
use Rattle.cpi_office.specs.Runs.{reply_to, after_one}
use Rattle.cpi_office.specs.declared.caller.Caller.{Caller}
use Rattle.cpi_office.specs.declared.cause.Cause.{Cause}
use Rattle.cpi_office.specs.declared.refusal.Refusal.TheVariants.{Unavailable}
use Rattle.cpi_office.specs.declared.reply.Reply.{Reply}
use Rattle.cpi_office.specs.declared.reply.Reply.TheVariants.{Refused}
use Rattle.cpi_office.specs.declared.request.Request.{Request}
use Rattle.cpi_office.proofs.Failures.{never_failure}
use Rattle.cpi_office.proofs.NonInterferenceOfRuns.{serves_sound}
use Rattle.cpi_wire.specs.Answer.{Answer}
use Rattle.cpi_wire.specs.Answers.{answer_fails, some_answer_fails}
use Rattle.cpi_wire.specs.Causes.{IsCaused, first_cause}

-- no request was answered
pub none_caused : (o : State Office) → IsCaused o o false None
none_caused o = record {
  was_clean = λ clean. clean;
  count = omega arith;
  sound = λ clean s. s;
  store = tt;
  none = λ clean s no. refl;
}

module _ (old new : State Office) (now : ℕ) (caller : Caller) (request : Request) where
  -- the reply is one to the request, or 90
  abbrev IsAnswered : Reply → Type 0
  IsAnswered reply = ServesWhere old new (IsSound old.held) reply (reply_to now caller request old.held)
      (after_one now caller request old.held)

  -- a request was answered
  pub answer_caused : (reply : Reply) → IsAnswered reply →
      (new.is_clean → IsSound old.held → reply ≡ reply_to now caller request old.held) →
      IsCaused old new (is_failure_of reply) None
  answer_caused reply serves is = record {
    was_clean = serves.was_clean;
    count = serves.count;
    sound = serves_sound old new reply (reply_to now caller request old.held)
        (record { now = now; caller = caller; request = request }) serves;
    store = tt;
    none = λ clean s no. ap is_failure_of (is clean s) ∙ never_failure now caller request old.held;
  }

  -- a request had a cause
  pub cause_caused : (cause : Cause) → IsAnswered (Refused Unavailable) →
      (cause.is_store ≡ true → old.failures < new.failures) →
      IsCaused old new true (Some cause)
  cause_caused cause serves store = record {
    was_clean = serves.was_clean;
    count = serves.count;
    sound = serves_sound old new (Refused Unavailable) (reply_to now caller request old.held)
        (record { now = now; caller = caller; request = request }) serves;
    store = store;
    none = λ clean s no. cc no;
  }

later : (d : Option Cause) (a b c : ℕ) → a ≤ b → IfSome d (λ x. x.is_store ≡ true → b < c) →
    IfSome d (λ x. x.is_store ≡ true → a < c)
later None a b c le h = tt
later (Some x) a b c le h = λ is. omega (arith, le, h is)

-- more requests were answered
pub caused_more : (old mid new : State Office) (f g : Bool) (c d : Option Cause)
    → IsCaused old mid f c → IsCaused mid new g d → IsCaused old new (f || g) (first_cause c d)
caused_more old mid new f g (Some c) d a b = record {
  was_clean = λ clean. a.was_clean (b.was_clean clean);
  count = omega (arith, a.count, b.count);
  sound = λ clean s. b.sound clean (a.sound (b.was_clean clean) s);
  store = λ is. omega (arith, a.store is, b.count);
  none = λ clean s no. cc no;
}
caused_more old mid new f g None d a b = record {
  was_clean = λ clean. a.was_clean (b.was_clean clean);
  count = omega (arith, a.count, b.count);
  sound = λ clean s. b.sound clean (a.sound (b.was_clean clean) s);
  store = later d old.failures mid.failures new.failures a.count b.store;
  none = λ clean s no.
      rw (a.none (b.was_clean clean) s refl, b.none clean (a.sound (b.was_clean clean) s) no) refl;
}

-- ---- the records of a replay

pub any_more : {X : Type 0} (f : X → Bool) (xs : List X) (x : X) → list_any f (xs ++ x ∷ []) ≡ (list_any f xs || f x)
any_more f [] x = elim (f x) as (λ b. (b || false) ≡ b) [ true ↦ refl | false ↦ refl ]
any_more f (y ∷ xs) x =
    ap (λ b. f y || b) (any_more f xs x)
    ∙ elim (f y) as (λ b. (b || (list_any f xs || f x)) ≡ ((b || list_any f xs) || f x))
    [ true ↦ refl | false ↦ refl ]

-- one record more was answered
pub record_caused : (old mid new : State Office) (replies : List Answer) (answered : Answer) (failed : Bool)
    (c d : Option Cause) → IsCaused old mid (some_answer_fails replies) c → IsCaused mid new failed d →
    failed ≡ answer_fails answered → IsCaused old new (some_answer_fails (replies ++ answered ∷ [])) (first_cause c d)
record_caused old mid new replies answered failed c d before one is =
    subst (λ f. IsCaused old new f (first_cause c d)) (sym (any_more answer_fails replies answered))
    (caused_more old mid new (some_answer_fails replies) (answer_fails answered) c d before
    (subst (λ f. IsCaused mid new f d) is one))
