-- A call after a read, and a call under a premise.
use Rattle.std.proofs.Common.{◌≡◌, Result, Ok, Err, true, ◌∙◌, inl, inr, arith, sym, ap}
use Rattle.std.proofs.lemmas.Result.{IfOk-weaker}
use Rattle.std.specs.Prelude.{◌⊎◌, ◌≤◌, ◌<◌, IfErr, IsTrue, IsFalse}
use Rattle.cpi_release.specs.State.{State, Keeps, StaysClean, Reads}
use Rattle.cpi_store.specs.Office.{Office}
use Rattle.cpi_office.specs.Calls.{Serves, ServesWhere, Endures, Crashes, Lasts, IsServed, is_refused}
use Rattle.cpi_office.specs.Calls.{is_unavailable, Answers, AnswersWhere, reply_of}
use Rattle.cpi_office.specs.declared.cause.Cause.{Cause}
use Rattle.cpi_office.specs.Verdicts.{Verdict, Refuses, Stands, Makes, verdict_reply, with_verdict}
use Rattle.std.proofs.lemmas.Bool.{false≢true}
use Rattle.cpi_office.specs.declared.refusal.Refusal.{Refusal}
use Rattle.cpi_office.specs.declared.refusal.Refusal.TheVariants.{Unavailable}
use Rattle.cpi_office.specs.declared.reply.Reply.{Reply}
use Rattle.cpi_office.specs.declared.reply.Reply.TheVariants.{Refused}

-- what is answered after a read lasts as it does without the read
lasts_after : (old mid new : State Office) → Keeps old mid → old.is_clean → mid.is_clean → Lasts mid new → Lasts old new
lasts_after old mid new keeps was clean lasts o left = cases (lasts o left)
  where
    cases : (o ≡ new.held) ⊎ ((new.held ≡ mid.held) × mid.may_leave o) → (o ≡ new.held)
        ⊎ ((new.held ≡ old.held) × old.may_leave o)
    cases (inl is) = inl is
    cases (inr h) = inr (h.0 ∙ keeps.kept clean, keeps.crash was (mid.clean_is_kept clean) o h.1)

endures_after : (old mid new : State Office) (reply : Reply) → Keeps old mid → StaysClean old mid →
    (new.is_clean → mid.is_clean) → Endures mid new reply → Endures old new reply
endures_after old mid new reply keeps stays was_clean endures = record {
  was_kept = λ kept. keeps.was_kept (endures.was_kept kept);
  stays = λ told was kept. endures.stays told (stays was (endures.was_kept kept)) kept;
  answered = λ told clean. lasts_after old mid new keeps (keeps.was_clean (was_clean clean)) (was_clean clean)
      (endures.answered told clean);
}

crashes_after : (old mid new : State Office) (made after : Office) → Keeps old mid → StaysClean old mid →
    (new.is_kept → mid.is_kept) → (mid.is_clean → Crashes mid new made × (made ≡ after)) → Crashes old new after
crashes_after old mid new made after keeps stays was_kept crash was kept o left =
    let mid_kept = was_kept kept in
    let clean = stays was mid_kept in
    let h = crash clean in
    cases (h.0 clean kept o left) was mid_kept h.1
  where
    cases : mid.may_leave o ⊎ (o ≡ made) → old.is_clean → mid.is_kept → made ≡ after → old.may_leave o ⊎ (o ≡ after)
    cases (inl left) was kept same = inl (keeps.crash was kept o left)
    cases (inr is) was kept same = inr (is ∙ same)

-- after a read, a crash leaves what it could leave before it
pub read_endures : (old new : State Office) (reply : Reply) → Keeps old new → StaysClean old new → Endures old new reply
read_endures old new reply keeps stays = record {
  was_kept = keeps.was_kept;
  stays = λ _. stays;
  answered = λ _ clean o left. inr (
    keeps.kept clean,
    keeps.crash (keeps.was_clean clean) (new.clean_is_kept clean) o left,
  );
}

pub serves_after : {T F : Type 0} {result : Result T F} {Shown : T → Type 0} (old mid new : State Office)
    (reply said wanted : Reply) (made after : Office) →
    Reads old mid result Shown → StaysClean old mid → Serves mid new reply said made →
    (mid.is_clean → (said ≡ wanted) × (made ≡ after)) → Serves old new reply wanted after
serves_after old mid new reply said wanted made after reads stays serves same = record {
  was_clean = λ clean. reads.keeps.was_clean (serves.was_clean clean);
  served = λ clean. cases clean (serves.served clean);
  count = omega (arith, reads.count, serves.count);
  endures = endures_after old mid new reply reads.keeps stays serves.was_clean serves.endures;
  crash = crashes_after old mid new made after reads.keeps stays serves.endures.was_kept
      (λ clean. (serves.crash, (same clean).1));
}
  where
    cases : new.is_clean → IsServed reply said mid.held new.held made → IsServed reply wanted old.held new.held after
    cases clean (inl h) = let s = same (serves.was_clean clean) in inl (h.0 ∙ s.0, h.1 ∙ s.1)
    cases clean (inr h) = inr (h.0, h.1 ∙ reads.keeps.kept (serves.was_clean clean))

-- an answer after a read, or a cause
pub answers_after : {T F : Type 0} {result : Result T F} {Shown : T → Type 0} (old mid new : State Office)
    (answer : Result Reply Cause) (said wanted : Reply) (made after : Office) →
    Reads old mid result Shown → StaysClean old mid → Answers mid new answer said made →
    (mid.is_clean → (said ≡ wanted) × (made ≡ after)) → Answers old new answer wanted after
answers_after old mid new answer said wanted made after reads stays answers same = record {
  serves = serves_after old mid new (reply_of answer) said wanted made after reads stays answers.serves same;
  answered = λ clean. IfOk-weaker answer (λ reply. reply ≡ said) (λ reply. reply ≡ wanted)
      (λ reply is. is ∙ (same (answers.serves.was_clean clean)).0) (answers.answered clean);
  cause = caused answer answers.cause;
}
  where
    caused : (answer : Result Reply Cause) → IfErr answer (λ c. c.is_store ≡ true → mid.failures < new.failures) →
        IfErr answer (λ c. c.is_store ≡ true → old.failures < new.failures)
    caused (Ok reply) rose = tt
    caused (Err cause) rose = λ is. let later = rose is in omega (arith, reads.count, later)

-- the same under premises, the later of which follows from the earlier
pub serves_where_after : {T F : Type 0} {result : Result T F} {Shown : T → Type 0} (P Q : Type 0)
    (old mid new : State Office) (reply said wanted : Reply) (made after : Office) →
    Reads old mid result Shown → StaysClean old mid → ServesWhere mid new Q reply said made →
    (mid.is_clean → (P → Q) × (said ≡ wanted) × (made ≡ after)) → ServesWhere old new P reply wanted after
serves_where_after P Q old mid new reply said wanted made after reads stays serves same = record {
  was_clean = λ clean. reads.keeps.was_clean (serves.was_clean clean);
  served = λ clean p. cases clean (serves.served clean ((same (serves.was_clean clean)).0 p));
  refused = λ clean refused. serves.refused clean refused ∙ reads.keeps.kept (serves.was_clean clean);
  count = omega (arith, reads.count, serves.count);
  endures = endures_after old mid new reply reads.keeps stays serves.was_clean serves.endures;
  crash = λ p. crashes_after old mid new made after reads.keeps stays serves.endures.was_kept
      (λ clean. let s = same clean in (serves.crash (s.0 p), s.2));
}
  where
    cases : new.is_clean → IsServed reply said mid.held new.held made → IsServed reply wanted old.held new.held after
    cases clean (inl h) = let s = same (serves.was_clean clean) in inl (h.0 ∙ s.1, h.1 ∙ s.2)
    cases clean (inr h) = inr (h.0, h.1 ∙ reads.keeps.kept (serves.was_clean clean))

-- a refusal after reads: it is the one that is wanted, or that the office is unavailable
pub refused_where : (premise : Type 0) (old new : State Office) (refusal : Refusal) (v : Verdict) → Keeps old new →
    (IsFalse (is_unavailable refusal) → StaysClean old new) → old.failures ≤ new.failures →
    (new.is_clean → premise → (v ≡ Refuses refusal) ⊎ (refusal ≡ Unavailable)) →
    ServesWhere old new premise (Refused refusal) (verdict_reply v) (with_verdict v old.held)
refused_where premise old new refusal v keeps stays count wanted = record {
  was_clean = keeps.was_clean;
  served = λ clean p. cases clean (wanted clean p);
  refused = λ clean _. keeps.kept clean;
  count = count;
  endures = record {
    was_kept = keeps.was_kept;
    stays = stays;
    answered = λ _ clean o left. inr (
      keeps.kept clean,
      keeps.crash (keeps.was_clean clean) (new.clean_is_kept clean) o left,
    );
  };
  crash = λ _ was kept o left. inl (keeps.crash was kept o left);
}
  where
    cases : new.is_clean → (v ≡ Refuses refusal) ⊎ (refusal ≡ Unavailable) →
        IsServed (Refused refusal) (verdict_reply v) old.held new.held (with_verdict v old.held)
    cases clean (inl is) = inl
        (ap verdict_reply (sym is), keeps.kept clean ∙ ap (λ w. with_verdict w old.held) (sym is))
    cases clean (inr is) = inr (ap Refused is, keeps.kept clean)

module _ (premise : Type 0) (old new : State Office) (reply : Reply) where
  -- what is served whether the premise holds or not; a verdict that refuses changes nothing
  pub serves_where : (v : Verdict) → Serves old new reply (verdict_reply v) (with_verdict v old.held) →
      ServesWhere old new premise reply (verdict_reply v) (with_verdict v old.held)
  serves_where v serves = record {
    was_clean = serves.was_clean;
    served = λ clean p. serves.served clean;
    refused = λ clean refused. cases v (serves.served clean) refused;
    count = serves.count;
    endures = serves.endures;
    crash = λ p. serves.crash;
  }
    where
      cases : (v : Verdict) → IsServed reply (verdict_reply v) old.held new.held (with_verdict v old.held) →
          IsTrue (is_refused reply) → new.held ≡ old.held
      cases v (inr h) refused = h.1
      cases (Refuses f) (inl h) refused = h.1
      cases (Stands c) (inl h) refused = h.1
      cases (Makes c) (inl h) refused = absurd (false≢true (ap is_refused (sym h.0) ∙ refused))

  -- what is served whether the premise holds or not, where the refusals that are wanted change nothing
  pub serves_weaker : (wanted : Reply) (after : Office) → Serves old new reply wanted after →
      (IsTrue (is_refused wanted) → after ≡ old.held) → ServesWhere old new premise reply wanted after
  serves_weaker wanted after serves stays = record {
    was_clean = serves.was_clean;
    served = λ clean p. serves.served clean;
    refused = λ clean refused. cases (serves.served clean) refused;
    count = serves.count;
    endures = serves.endures;
    crash = λ p. serves.crash;
  }
    where
      cases : IsServed reply wanted old.held new.held after → IsTrue (is_refused reply) → new.held ≡ old.held
      cases (inr h) refused = h.1
      cases (inl h) refused = h.1 ∙ stays (ap is_refused (sym h.0) ∙ refused)

-- an answer, or a cause, whether the premise holds or not
pub answers_where : (premise : Type 0) (old new : State Office) (answer : Result Reply Cause) (v : Verdict) →
    Answers old new answer (verdict_reply v) (with_verdict v old.held) →
    AnswersWhere old new premise answer (verdict_reply v) (with_verdict v old.held)
answers_where premise old new answer v answers = record {
  serves = serves_where premise old new (reply_of answer) v answers.serves;
  answered = λ clean p. answers.answered clean;
  cause = answers.cause;
}

-- an answer after a read, under premises, the later of which follows from the earlier
pub answers_where_after : {T F : Type 0} {result : Result T F} {Shown : T → Type 0} (P Q : Type 0)
    (old mid new : State Office) (answer : Result Reply Cause) (said wanted : Reply) (made after : Office) →
    Reads old mid result Shown → StaysClean old mid → AnswersWhere mid new Q answer said made →
    (mid.is_clean → (P → Q) × (said ≡ wanted) × (made ≡ after)) → AnswersWhere old new P answer wanted after
answers_where_after P Q old mid new answer said wanted made after reads stays answers same = record {
  serves = serves_where_after P Q old mid new (reply_of answer) said wanted made after reads stays answers.serves same;
  answered = λ clean p.
      let s = same (answers.serves.was_clean clean) in
      IfOk-weaker answer (λ reply. reply ≡ said) (λ reply. reply ≡ wanted) (λ reply is. is ∙ s.1)
      (answers.answered clean (s.0 p));
  cause = rose_since answer answers.cause;
}
  where
    rose_since : (answer : Result Reply Cause) → IfErr answer (λ c. c.is_store ≡ true → mid.failures < new.failures) →
        IfErr answer (λ c. c.is_store ≡ true → old.failures < new.failures)
    rose_since (Ok reply) rose = tt
    rose_since (Err cause) rose = λ is. let later = rose is in omega (arith, reads.count, later)
