-- The answer to a record is made of the office's replies to its requests.
use mathlib.Core.Bool.{true≢false}
use Rattle.std.proofs.Common.{◌≡◌, ◌∙◌, sym, ap, ap₂, refl, subst, ℕ, List, [], ◌∷◌, IsFalse, Option, Some, None}
use Rattle.std.proofs.Common.{◌⊎◌, inl, inr}
use Rattle.cpi_release.specs.State.{State}
use Rattle.cpi_store.specs.Office.{Office}
use Rattle.cpi_store.specs.Sound.{IsSound}
use Rattle.cpi_office.specs.Calls.{ServesWhere, is_failure_of}
use Rattle.cpi_office.specs.IsolationOfMessages.{AreOf}
use Rattle.cpi_office.specs.Runs.{reply_to, after_one, replies}
use Rattle.cpi_office.specs.Served.{NoneFails}
use Rattle.cpi_office.specs.declared.caller.Caller.{Caller}
use Rattle.cpi_office.specs.declared.request.Ask.{Ask as Asking}
use Rattle.cpi_office.specs.declared.request.Request.{Request}
use Rattle.cpi_office.specs.declared.reply.Reply.{Reply}
use Rattle.cpi_office.specs.declared.reply.Reply.TheVariants.{Refused}
use Rattle.cpi_office.specs.declared.refusal.Refusal.TheVariants.{Unavailable}
use Rattle.cpi_office.proofs.RebuiltProjections.{next_sound}
use Rattle.cpi_wire.specs.Answer.{Answer}
use Rattle.cpi_wire.specs.Answer as answer
use Rattle.cpi_wire.specs.declared.asks.Ask.{Ask}
use Rattle.cpi_wire.specs.declared.asks.Ask.TheVariants as ask
use Rattle.cpi_wire.specs.Answers.{Answers, RowsAnswer}
use Rattle.cpi_wire.specs.Laws.{requests_of_record, rows_asked}
use Rattle.cpi_wire.specs.Lines.{IsFrom, moment_of, all_replies}
use Rattle.cpi_wire.specs.Printed.{rows_answered, answer_with, LinesArePrinted}
use Rattle.cpi_wire.specs.Record.{ask_of}
use Rattle.cpi_wire.specs.Rows.{answer_line}

-- ---- the requests of a record are of its caller, at its moment

rows_of : (t : ℕ) (k j : Caller) → j ≡ k → (rows : List (Option Request)) → AreOf k t (rows_asked t j rows)
rows_of t k j from [] = tt
rows_of t k j from (None ∷ rows) = rows_of t k j from rows
rows_of t k j from (Some r ∷ rows) = ((from, refl), rows_of t k j from rows)

pub requests_of : (k : Caller) (asked : Ask) → IsFrom k asked → AreOf k (moment_of asked) (requests_of_record asked)
requests_of k ask.Bad from = tt
requests_of k (ask.One t j r) from = ((from, refl), tt)
requests_of k (ask.Import t j rows) from = rows_of t k j from rows

-- ---- over a book

module _ {B : Type 0} (state : B → State Office) where
  -- a request whose reply doesn't say that the office is unavailable is served
  pub is_served : (t : ℕ) (k : Caller) (r : Request) (p q : B) (reply : Reply)
      → ServesWhere (state p) (state q) (IsSound (state p).held) reply (reply_to t k r (state p).held)
      (after_one t k r (state p).held)
      → (state q).is_clean → IsSound (state p).held → IsFalse (is_failure_of reply)
      → (reply ≡ reply_to t k r (state p).held) × ((state q).held ≡ after_one t k r (state p).held)
  is_served t k r p q reply serves clean sound fair = cases (serves.served clean sound)
    where
      cases : ((reply ≡ reply_to t k r (state p).held) × ((state q).held ≡ after_one t k r (state p).held))
          ⊎ ((reply ≡ Refused Unavailable) × ((state q).held ≡ (state p).held))
          → (reply ≡ reply_to t k r (state p).held) × ((state q).held ≡ after_one t k r (state p).held)
      cases (inl h) = h
      cases (inr h) = absurd (true≢false (sym (ap is_failure_of h.0) ∙ fair))

  rows_clean : (t : ℕ) (k : Caller) (p q : B) (rows : List (Option Request)) (rs : List Reply) →
      RowsAnswer state t k p rows rs q → (state q).is_clean → (state p).is_clean
  rows_clean t k p q [] [] a clean = subst (λ y. (state y).is_clean) a clean
  rows_clean t k p q [] (r ∷ rs) a clean = absurd a
  rows_clean t k p q (row ∷ rows) [] a clean = absurd a
  rows_clean t k p q (None ∷ rows) (r ∷ rs) a clean =
      subst (λ y. (state y).is_clean) a.1.1 (rows_clean t k a.0 q rows rs a.2 clean)
  rows_clean t k p q (Some row ∷ rows) (r ∷ rs) a clean = a.1.was_clean (rows_clean t k a.0 q rows rs a.2 clean)

  pub record_clean : (p q : B) (asked : Ask) (answered : Answer) → Answers state p asked answered q
      → (state q).is_clean → (state p).is_clean
  record_clean p q ask.Bad (answer.One reply) a clean = subst (λ y. (state y).is_clean) a.1 clean
  record_clean p q ask.Bad (answer.Rows replies) a clean = absurd a
  record_clean p q (ask.One t k r) (answer.One reply) a clean = a.was_clean clean
  record_clean p q (ask.One t k r) (answer.Rows replies) a clean = absurd a
  record_clean p q (ask.Import t k rows) (answer.One reply) a clean = absurd a
  record_clean p q (ask.Import t k rows) (answer.Rows replies) a clean = rows_clean t k p q rows replies a clean

  rows_are : (t : ℕ) (k : Caller) (p q : B) (rows : List (Option Request)) (rs : List Reply) →
      RowsAnswer state t k p rows rs q → (state q).is_clean → IsSound (state p).held → NoneFails rs →
      rs ≡ rows_answered rows (replies (rows_asked t k rows) (state p).held)
  rows_are t k p q [] [] a clean sound fair = refl
  rows_are t k p q [] (r ∷ rs) a clean sound fair = absurd a
  rows_are t k p q (row ∷ rows) [] a clean sound fair = absurd a
  rows_are t k p q (None ∷ rows) (r ∷ rs) a clean sound fair =
      ap₂ (λ y ys. y ∷ ys) a.1.0
      (rows_are t k a.0 q rows rs a.2 clean (subst (λ y. IsSound (state y).held) (sym a.1.1) sound) fair.1
      ∙ ap (λ y. rows_answered rows (replies (rows_asked t k rows) (state y).held)) a.1.1)
  rows_are t k p q (Some row ∷ rows) (r ∷ rs) a clean sound fair =
      let here = is_served t k row p a.0 r a.1 (rows_clean t k a.0 q rows rs a.2 clean) sound fair.0 in
      let one : Asking = record { now = t; caller = k; request = row } in
      ap₂ (λ y ys. y ∷ ys) here.0
      (rows_are t k a.0 q rows rs a.2 clean (subst IsSound (sym here.1) (next_sound one (state p).held sound)) fair.1
      ∙ ap (λ o. rows_answered rows (replies (rows_asked t k rows) o)) here.1)

  -- the answer is that of the office's replies
  pub answer_is : (asked : Ask) (p q : B) (answered : Answer) → Answers state p asked answered q →
      (state q).is_clean → IsSound (state p).held → NoneFails (all_replies answered) →
      answered ≡ answer_with asked (replies (requests_of_record asked) (state p).held)
  answer_is ask.Bad p q (answer.One r) a clean sound fair = ap answer.One a.0
  answer_is ask.Bad p q (answer.Rows rs) a clean sound fair = absurd a
  answer_is (ask.One t k row) p q (answer.One r) a clean sound fair =
      ap answer.One (is_served t k row p q r a clean sound fair.0).0
  answer_is (ask.One t k row) p q (answer.Rows rs) a clean sound fair = absurd a
  answer_is (ask.Import t k rows) p q (answer.One r) a clean sound fair = absurd a
  answer_is (ask.Import t k rows) p q (answer.Rows rs) a clean sound fair =
      ap answer.Rows (rows_are t k p q rows rs a clean sound fair)

pub lines_are_printed : {B : Type 0} (state : B → State Office) → LinesArePrinted state
lines_are_printed state zone row answered old new a clean sound fair =
    ap answer_line (answer_is state (ask_of zone row) old new answered a clean sound fair)
