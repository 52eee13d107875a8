-- A run goes on by one request.
use Rattle.std.proofs.Common.{◌≡◌, false, inl, inr, List, [], ◌∷◌, ◌++◌, length, refl, sym, ap, ◌∙◌, arith}
use Rattle.std.proofs.Common.{append_assoc}
use Rattle.std.proofs.lemmas.List.{append-nil}
use Rattle.cpi_store.specs.Office.{Office}
use Rattle.cpi_office.specs.Runs.{replies, reply_to, after, next}
use Rattle.cpi_office.specs.Served.{served_requests, served_replies, all_served, all_told, NoneFails, IsRun}
use Rattle.cpi_office.specs.Served.{RunOverBook}
use Rattle.cpi_release.specs.State.{State}
use Rattle.cpi_office.specs.Calls.{ServesWhere, Lasts, IsServed, is_failure_of}
use Rattle.cpi_store.specs.Sound.{IsSound}
use Rattle.cpi_office.proofs.RebuiltProjections.{sound_runs}
use Rattle.cpi_office.proofs.Failures.{never_failure}
use Rattle.cpi_office.specs.declared.request.Ask.{Ask}
use Rattle.cpi_office.specs.declared.reply.Reply.{Reply}
use Rattle.cpi_office.specs.declared.reply.Reply.TheVariants.{Refused}
use Rattle.cpi_office.specs.declared.refusal.Refusal.TheVariants.{Unavailable}
use Rattle.std.specs.Prelude.{◌⊎◌, IsFalse}

pub after_append : (xs ys : List Ask) (o : Office) → after (xs ++ ys) o ≡ after ys (after xs o)
after_append [] ys o = refl
after_append (x ∷ xs) ys o = after_append xs ys (next x o)

pub replies_append : (xs ys : List Ask) (o : Office) → replies (xs ++ ys) o ≡ replies xs o ++ replies ys (after xs o)
replies_append [] ys o = refl
replies_append (x ∷ xs) ys o = ap (λ rs. reply_to x.now x.caller x.request o ∷ rs) (replies_append xs ys (next x o))

served_more : (front : List Ask) (rs : List Reply) (a : Ask) (r : Reply) → length rs ≡ length front →
    all_served (front ++ a ∷ []) (rs ++ r ∷ []) ≡ all_served front rs ++ served_requests a r
served_more [] [] a r e = append-nil (served_requests a r)
served_more [] (s ∷ rs) a r e = absurd (omega (arith, e))
served_more (b ∷ front) [] a r e = absurd (omega (arith, e))
served_more (b ∷ front) (s ∷ rs) a r e =
    ap (λ xs. served_requests b s ++ xs) (served_more front rs a r (omega (arith, e)))
    ∙ sym (append_assoc (served_requests b s) (all_served front rs) (served_requests a r))

told_more : (rs : List Reply) (r : Reply) → all_told (rs ++ r ∷ []) ≡ all_told rs ++ served_replies r
told_more [] r = append-nil (served_replies r)
told_more (s ∷ rs) r = ap (λ xs. served_replies s ++ xs) (told_more rs r) ∙ sym
    (append_assoc (served_replies s) (all_told rs) (served_replies r))

module _ (o u w : Office) (front : List Ask) (rs : List Reply) (a : Ask) (r : Reply) where
  pub run_more : length rs ≡ length front → IsRun o front rs u → replies (served_requests a r) u ≡ served_replies r →
      w ≡ after (served_requests a r) u → IsRun o (front ++ a ∷ []) (rs ++ r ∷ []) w
  run_more same so_far reply office = record {
    answers =
        ap (λ xs. replies xs o) (served_more front rs a r same)
        ∙ replies_append (all_served front rs) (served_requests a r) o
        ∙ ap (λ x. replies (all_served front rs) o ++ replies (served_requests a r) x) (sym so_far.office)
        ∙ ap (λ ys. replies (all_served front rs) o ++ ys) reply
        ∙ ap (λ ys. ys ++ served_replies r) so_far.answers
        ∙ sym (told_more rs r);
    office =
        office
        ∙ ap (after (served_requests a r)) so_far.office
        ∙ sym (after_append (all_served front rs) (served_requests a r) o)
        ∙ ap (λ xs. after xs o) (sym (served_more front rs a r same));
  }

-- a run leaves a sound office sound
pub run_sound : (o u : Office) (asks : List Ask) (rs : List Reply) → IsRun o asks rs u → IsSound o → IsSound u
run_sound o u asks rs run s = rw run.office (sound_runs (all_served asks rs) o s)

-- one call of the office is a run of the one request, or of none
run_one : (a : Ask) (r : Reply) (o u : Office) → (r ≡ reply_to a.now a.caller a.request o) → (u ≡ next a o) →
    (replies (served_requests a r) o ≡ served_replies r) × (u ≡ after (served_requests a r) o)
run_one a r o u e f =
    let fair : is_failure_of r ≡ false = ap is_failure_of e ∙ never_failure a.now a.caller a.request o in
    rw fair (ap (λ x. x ∷ []) (sym e), f)

run_none : (a : Ask) (r : Reply) (o u : Office) → (r ≡ Refused Unavailable) → (u ≡ o) →
    (replies (served_requests a r) o ≡ served_replies r) × (u ≡ after (served_requests a r) o)
run_none a r o u e f = rw e (refl, f)

-- of replies none of which fails, none of the first fails, and the last doesn't
none_before : (rs : List Reply) (r : Reply) → NoneFails (rs ++ r ∷ []) → NoneFails rs × IsFalse (is_failure_of r)
none_before [] r none = (tt, none.0)
none_before (s ∷ rs) r none = let rest = none_before rs r none.1 in ((none.0, rest.0), rest.1)

-- what lasts after a call that followed others
lasts_more : (old mid new : State Office) → Lasts old mid → Lasts mid new → Lasts old new
lasts_more old mid new first then o left = cases (then o left)
  where
    before : new.held ≡ mid.held → (o ≡ mid.held) ⊎ ((mid.held ≡ old.held) × old.may_leave o) → (o ≡ new.held)
        ⊎ ((new.held ≡ old.held) × old.may_leave o)
    before same (inl is) = inl (is ∙ sym same)
    before same (inr h) = inr (same ∙ h.0, h.1)

    cases : (o ≡ new.held) ⊎ ((new.held ≡ mid.held) × mid.may_leave o) → (o ≡ new.held)
        ⊎ ((new.held ≡ old.held) × old.may_leave o)
    cases (inl is) = inl is
    cases (inr h) = before h.0 (first o h.1)

pub ran_more : (old mid new : State Office) (front : List Ask) (rs : List Reply) (a : Ask) (r : Reply) →
    length rs ≡ length front → RunOverBook old mid front rs →
    ServesWhere mid new (IsSound mid.held) r (reply_to a.now a.caller a.request mid.held) (next a mid.held) →
    RunOverBook old new (front ++ a ∷ []) (rs ++ r ∷ [])
ran_more old mid new front rs a r same ran serves = record {
  was_clean = λ clean. ran.was_clean (serves.was_clean clean);
  run = λ clean s.
      let so_far = ran.run (serves.was_clean clean) s in
      cases (serves.served clean (run_sound old.held mid.held front rs so_far s)) so_far;
  lasts = λ clean s none.
      let was = serves.was_clean clean in
      let each = none_before rs r none in
      lasts_more old mid new (ran.lasts was s each.0) (serves.endures.answered each.1 clean);
}
  where
    cases : IsServed r (reply_to a.now a.caller a.request mid.held) mid.held new.held (next a mid.held) →
        IsRun old.held front rs mid.held → IsRun old.held (front ++ a ∷ []) (rs ++ r ∷ []) new.held
    cases (inl h) so_far = let one = run_one a r mid.held new.held h.0 h.1 in
        run_more old.held mid.held new.held front rs a r same so_far one.0 one.1
    cases (inr h) so_far = let none = run_none a r mid.held new.held h.0 h.1 in
        run_more old.held mid.held new.held front rs a r same so_far none.0 none.1
