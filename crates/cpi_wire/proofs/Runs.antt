-- Records, or messages, that were answered in turn are a run of their requests.
use Rattle.std.proofs.Common.{◌≡◌, ◌∙◌, refl, sym, ℕ, List, [], ◌∷◌, ◌++◌, length, Option, Some, None, append_assoc}
use Rattle.std.proofs.Common.{length-append, map, ap, arith, inr}
use Rattle.std.proofs.lemmas.List.{append-nil}
use Rattle.cpi_codes.specs.Zone.{ZoneRule}
use Rattle.cpi_release.specs.State.{State}
use Rattle.cpi_store.specs.Office.{Office}
use Rattle.cpi_office.specs.Served.{RunOverBook}
use Rattle.cpi_office.proofs.Served.{ran_more}
use Rattle.cpi_office.specs.declared.caller.Caller.{Caller}
use Rattle.cpi_office.specs.declared.request.Ask.{Ask as Asking}
use Rattle.cpi_office.specs.declared.request.Request.{Request}
use Rattle.cpi_office.specs.declared.reply.Reply.{Reply}
use Rattle.cpi_wire.specs.Answer.{Answer}
use Rattle.cpi_wire.specs.Answer as answer
use Rattle.cpi_wire.specs.declared.asks.Ask.{Ask}
use Rattle.cpi_wire.specs.declared.asks.Ask.TheVariants as ask
use Rattle.cpi_wire.specs.Answers.{Answers, InTurn, RowsAnswer}
use Rattle.cpi_wire.specs.Input.{Record}
use Rattle.cpi_wire.specs.Record.{ask_of}
use Rattle.cpi_wire.specs.Records.{AnswersAll}
use Rattle.cpi_wire.specs.Laws.{AreRecordsOfARun, requests_of_record, replies_of_record, rows_asked, rows_replied}
use Rattle.cpi_wire.specs.Laws.{requests_of_asks, replies_of_asks, requests_of_records, replies_of}

-- ---- the requests and the replies of records are those of what they ask

pub requests_are : (zone : ZoneRule) (rows : List Record)
    → requests_of_records zone rows ≡ requests_of_asks (map (ask_of zone) rows)
requests_are zone [] = refl
requests_are zone (row ∷ rows) =
    ap (λ (z : List Asking). requests_of_record (ask_of zone row) ++ z) (requests_are zone rows)

pub replies_are : (zone : ZoneRule) (rows : List Record) (answers : List Answer)
    → replies_of zone rows answers ≡ replies_of_asks (map (ask_of zone) rows) answers
replies_are zone [] answers = refl
replies_are zone (row ∷ rows) [] = refl
replies_are zone (row ∷ rows) (a ∷ answers) =
    ap (λ (z : List Reply). replies_of_record (ask_of zone row) a ++ z) (replies_are zone rows answers)

-- ---- runs

module _ {B : Type 0} (state : B → State Office) where
  -- a run over a book, with a reply for each request
  abbrev pub IsRunSoFar : B → B → List Asking → List Reply → Type 0
  IsRunSoFar start new front replied =
      (length replied ≡ length front) × RunOverBook (state start) (state new) front replied

  pub run_none : (old : B) → IsRunSoFar old old [] []
  run_none old = (
    refl,
    record {
      was_clean = λ clean. clean;
      run = λ clean s. record { answers = refl; office = refl };
      lasts = λ clean s none o left. inr (refl, left);
    },
  )

  same_more : (front : List Asking) (replied : List Reply) (a : Asking) (reply : Reply)
      → length replied ≡ length front → length (replied ++ reply ∷ []) ≡ length (front ++ a ∷ [])
  same_more front replied a reply same = length-append replied (reply ∷ []) ∙ omega (arith, same)
      ∙ sym (length-append front (a ∷ []))

  -- the rows of an import more
  run_rows : (start old new : B) (front : List Asking) (replied : List Reply) (t : ℕ) (k : Caller)
      (rows : List (Option Request)) (replies : List Reply)
      → IsRunSoFar start old front replied → RowsAnswer state t k old rows replies new
      → IsRunSoFar start new (front ++ rows_asked t k rows) (replied ++ rows_replied rows replies)
  run_rows start old new front replied t k [] [] ran a = rw (append-nil front, append-nil replied, a) ran
  run_rows start old new front replied t k [] (p ∷ ps) ran a = absurd a
  run_rows start old new front replied t k (q ∷ qs) [] ran a = absurd a
  run_rows start old new front replied t k (None ∷ qs) (p ∷ ps) ran a =
      run_rows start a.0 new front replied t k qs ps (rw a.1.1 ran) a.2
  run_rows start old new front replied t k (Some r ∷ qs) (p ∷ ps) ran a =
      let one : Asking = record { now = t; caller = k; request = r } in
      let more = run_rows start a.0 new (front ++ one ∷ []) (replied ++ p ∷ []) t k qs ps (
        same_more front replied one p ran.0,
        ran_more (state start) (state old) (state a.0) front replied one p ran.0 ran.1 a.1,
      ) a.2 in
      rw (append_assoc front (one ∷ []) (rows_asked t k qs), append_assoc replied (p ∷ []) (rows_replied qs ps)) at more

  -- one record more
  pub run_one : (start old new : B) (front : List Asking) (replied : List Reply) (k : Ask) (reply : Answer)
      → IsRunSoFar start old front replied → Answers state old k reply new
      → IsRunSoFar start new (front ++ requests_of_record k) (replied ++ replies_of_record k reply)
  run_one start old new front replied ask.Bad (answer.One reply) ran a =
      rw (append-nil front, append-nil replied, a.1) ran
  run_one start old new front replied ask.Bad (answer.Rows replies) ran a = absurd a
  run_one start old new front replied (ask.One t k r) (answer.One reply) ran a =
      let one : Asking = record { now = t; caller = k; request = r } in (
        same_more front replied one reply ran.0,
        ran_more (state start) (state old) (state new) front replied one reply ran.0 ran.1 a,
      )
  run_one start old new front replied (ask.One t k r) (answer.Rows replies) ran a = absurd a
  run_one start old new front replied (ask.Import t k rows) (answer.One reply) ran a = absurd a
  run_one start old new front replied (ask.Import t k rows) (answer.Rows replies) ran a =
      run_rows start old new front replied t k rows replies ran a

  -- the requests of some records, or messages, more
  run_asks : (start old new : B) (front : List Asking) (replied : List Reply) (asks : List Ask) (answers : List Answer)
      → IsRunSoFar start old front replied → InTurn (Answers state) old asks answers new
      → IsRunSoFar start new (front ++ requests_of_asks asks) (replied ++ replies_of_asks asks answers)
  run_asks start old new front replied [] [] ran a = rw (append-nil front, append-nil replied, a) ran
  run_asks start old new front replied [] (p ∷ ps) ran a = absurd a
  run_asks start old new front replied (q ∷ qs) [] ran a = absurd a
  run_asks start old new front replied (q ∷ qs) (p ∷ ps) ran a =
      let more = run_asks start a.0 new (front ++ requests_of_record q) (replied ++ replies_of_record q p) qs ps
      (run_one start old a.0 front replied q p ran a.1) a.2 in
      rw (
        append_assoc front (requests_of_record q) (requests_of_asks qs),
        append_assoc replied (replies_of_record q p) (replies_of_asks qs ps),
      ) at more

  pub asks_are_a_run : (old new : B) (asks : List Ask) (answers : List Answer)
      → InTurn (Answers state) old asks answers new
      → RunOverBook (state old) (state new) (requests_of_asks asks) (replies_of_asks asks answers)
  asks_are_a_run old new asks answers a = (run_asks old old new [] [] asks answers (run_none old) a).1

  asks_in_turn : (zone : ZoneRule) (old new : B) (rows : List Record) (replies : List Answer)
      → AnswersAll zone state old rows replies new
      → InTurn (Answers state) old (map (ask_of zone) rows) replies new
  asks_in_turn zone old new [] [] a = a
  asks_in_turn zone old new [] (p ∷ ps) a = absurd a
  asks_in_turn zone old new (q ∷ qs) [] a = absurd a
  asks_in_turn zone old new (q ∷ qs) (p ∷ ps) a = (a.0, a.1, asks_in_turn zone a.0 new qs ps a.2)

  pub records_are_a_run : AreRecordsOfARun state
  records_are_a_run zone old new rows replies a =
      rw (requests_are zone rows, replies_are zone rows replies)
      (asks_are_a_run old new (map (ask_of zone) rows) replies (asks_in_turn zone old new rows replies a))
