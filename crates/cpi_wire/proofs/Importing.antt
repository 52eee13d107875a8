-- The rows of an import, carried out one after the other, and the line of their replies so far.
use Rattle.std.proofs.Common.{◌≡◌, ◌∙◌, refl, sym, ap, ap₂, ℕ, List, [], ◌∷◌, ◌++◌, Bool, true, false, ◌||◌, codes, map}
use Rattle.std.proofs.Common.{Option, Some, Result, Ok, Err, IfOk, OnErr, append_assoc, append-nil}
use Rattle.std.proofs.lemmas.List.{map-append}
use Rattle.serde_json.proofs.OnLiterals.{serde_json_on_literals}
use Rattle.cpi_release.specs.State.{State}
use Rattle.cpi_store.specs.Office.{Office}
use Rattle.cpi_office.specs.declared.caller.Caller.{Caller}
use Rattle.cpi_office.specs.declared.request.Request.{Request}
use Rattle.cpi_office.specs.declared.reply.Reply.{Reply}
use Rattle.cpi_office.specs.declared.reply.Reply.TheVariants.{Refused}
use Rattle.cpi_office.specs.declared.refusal.Refusal.TheVariants.{BadRequest}
use Rattle.cpi_wire.specs.declared.answers.AnswerLine.{AnswerLine}
use Rattle.cpi_wire.specs.declared.asks.Ask.{Ask}
use Rattle.cpi_wire.specs.declared.asks.Ask.TheVariants as ask
use Rattle.cpi_wire.specs.Answer as answer
use Rattle.cpi_office.specs.Calls.{is_failure_of}
use Rattle.cpi_wire.specs.Answers.{Begins, FirstRowsAnswer, IsServed, RowAnswers, RowsAnswer, AnswersWithLine}
use Rattle.cpi_wire.specs.Answers.{some_fails}
use Rattle.cpi_wire.specs.Line.{data_of, line_of_reply}
use Rattle.cpi_wire.specs.Rows.{added_text, rows_line}
use Rattle.cpi_wire.proofs.Answered.{in_turn_more}
use Rattle.cpi_wire.proofs.Joined.{joined, none_yet, none_more, text_more, list_ended}
use Rattle.cpi_wire.proofs.Causes.{any_more}

-- ---- the line

line_joined : (rs : List Reply)
    → (codes "{\"rows\":[" ++ joined false (map data_of rs)) ++ codes "]}\n" ≡ rows_line rs
unfolding serde_json_on_literals
line_joined rs =
    ap (λ ys. codes "{\"rows\":[" ++ ys)
    (sym (append_assoc (joined false (map data_of rs)) (codes "]}") (10 ∷ []))
    ∙ ap (λ ys. ys ++ 10 ∷ []) (list_ended (map data_of rs)))

-- ---- the rows

module _ {B : Type 0} (state : B → State Office) (now : ℕ) (caller : Caller) where
  -- some first rows were carried out, and the line is that of their replies, without its end
  pub record RowsSoFar (old : B) (rows rest : List (Option Request)) (is_first failed : Bool) (line : List ℕ) (new : B)
      : Type 0 where
    pub front : List (Option Request)
    pub replies : List Reply
    pub split : rows ≡ front ++ rest
    pub answers : RowsAnswer state now caller old front replies new
    pub first : is_first ≡ none_yet (map data_of replies)
    pub fails : failed ≡ some_fails replies
    pub written : line ≡ codes "{\"rows\":[" ++ joined false (map data_of replies)

  pub so_far_none : (old : B) (rows : List (Option Request)) →
      RowsSoFar old rows rows true false (codes "{\"rows\":[") old
  so_far_none old rows =
      record { front = []; replies = []; split = refl; answers = refl; first = refl; fails = refl; written = refl }

  split_more : (rows front rest more : List (Option Request)) (row : Option Request)
      → rows ≡ front ++ rest → rest ≡ row ∷ more → rows ≡ (front ++ row ∷ []) ++ more
  split_more rows front rest more row split next =
      split ∙ ap (λ ys. front ++ ys) next ∙ sym (append_assoc front (row ∷ []) more)

  next_data : (rs : List Reply) (r : Reply) → map data_of rs ++ data_of r ∷ [] ≡ map data_of (rs ++ r ∷ [])
  next_data rs r = sym (map-append data_of rs (r ∷ []))

  -- one row more was carried out
  pub first_rows : (old mid new : B) (rows rest more : List (Option Request)) (is_first failed : Bool) (line : List ℕ)
      (row : Option Request) (reply : Reply)
      → RowsSoFar old rows rest is_first failed line mid → rest ≡ row ∷ more →
      RowAnswers state now caller mid row reply new
      → FirstRowsAnswer state now caller old rows new
  first_rows old mid new rows rest more is_first failed line row reply so_far next one = record {
    front = so_far.front ++ row ∷ [];
    rest = more;
    replies = so_far.replies ++ reply ∷ [];
    split = split_more rows so_far.front rest more row so_far.split next;
    answers =
        in_turn_more (RowAnswers state now caller) old mid new so_far.front so_far.replies row reply so_far.answers one;
  }

  -- and its reply was written
  pub so_far_more : (old mid new : B) (rows rest more : List (Option Request)) (is_first failed fails : Bool)
      (line grown : List ℕ) (row : Option Request) (reply : Reply)
      → RowsSoFar old rows rest is_first failed line mid → rest ≡ row ∷ more
      → RowAnswers state now caller mid row reply new
      → grown ≡ line ++ added_text is_first reply → fails ≡ is_failure_of reply
      → RowsSoFar old rows more false (failed || fails) grown new
  so_far_more old mid new rows rest more is_first failed fails line grown row reply so_far next one text same = record {
    front = so_far.front ++ row ∷ [];
    replies = so_far.replies ++ reply ∷ [];
    split = split_more rows so_far.front rest more row so_far.split next;
    answers =
        in_turn_more (RowAnswers state now caller) old mid new so_far.front so_far.replies row reply so_far.answers one;
    first =
        none_more (map data_of so_far.replies) (data_of reply) ∙ ap none_yet (next_data so_far.replies reply);
    fails = ap₂ (λ a b. a || b) so_far.fails same ∙ sym (any_more is_failure_of so_far.replies reply);
    written =
        text_more (codes "{\"rows\":[") line grown is_first (map data_of so_far.replies) (data_of reply) so_far.written
        so_far.first text
        ∙ ap (λ ds. codes "{\"rows\":[" ++ joined false ds) (next_data so_far.replies reply);
  }

  pub rows_none : (old : B) (rows : List (Option Request)) → FirstRowsAnswer state now caller old rows old
  rows_none old rows = record { front = []; rest = rows; replies = []; split = refl; answers = refl }

  -- memory ran out
  pub rows_until : (old new : B) (rows rest : List (Option Request)) (is_first failed : Bool) (line : List ℕ)
      → RowsSoFar old rows rest is_first failed line new → FirstRowsAnswer state now caller old rows new
  rows_until old new rows rest is_first failed line so_far = record {
    front = so_far.front;
    rest = rest;
    replies = so_far.replies;
    split = so_far.split;
    answers = so_far.answers;
  }

  -- no row is left, and the line was ended
  pub rows_whole : (old new : B) (rows rest : List (Option Request)) (is_first failed : Bool) (line grown : List ℕ)
      → RowsSoFar old rows rest is_first failed line new → rest ≡ [] → grown ≡ line ++ codes "]}\n"
      → (replies : List Reply) × RowsAnswer state now caller old rows replies new × (grown ≡ rows_line replies)
      × (failed ≡ some_fails replies)
  rows_whole old new rows rest is_first failed line grown so_far none text =
      let all = so_far.split ∙ ap (λ ys. so_far.front ++ ys) none ∙ append-nil so_far.front in
      (so_far.replies, rw all so_far.answers, text ∙ rw so_far.written (line_joined so_far.replies), so_far.fails)

  -- ---- any record

  -- one request was served
  pub one_begun : (old new : B) (request : Request) (reply : Reply)
      → IsServed state now caller old request reply new → FirstRowsAnswer state now caller old (Some request ∷ []) new
  one_begun old new request reply one = record {
    front = Some request ∷ [];
    rest = [];
    replies = reply ∷ [];
    split = refl;
    answers = (new, one, refl);
  }

  pub one_line : {E : Type 0} (old new : B) (request : Request) (reply : Reply) (r : Result AnswerLine E)
      → IsServed state now caller old request reply new
      → IfOk r (λ answered. answered.line.items ≡ line_of_reply reply)
      → IfOk r (λ answered. answered.failed ≡ is_failure_of reply)
      → IfOk r (λ answered.
      AnswersWithLine state old (ask.One now caller request) answered.line.items answered.failed new)
  one_line old new request reply (Ok answered) one text fails =
      record { answered = answer.One reply; answers = one; line_is = text; failed_is = fails }
  one_line old new request reply (Err e) one text fails = tt

  pub line_of_rows : (old new : B) (rows : List (Option Request)) (line : List ℕ) (failed : Bool)
      → ((replies : List Reply) × RowsAnswer state now caller old rows replies new × (line ≡ rows_line replies)
      × (failed ≡ some_fails replies))
      → AnswersWithLine state old (ask.Import now caller rows) line failed new
  line_of_rows old new rows line failed whole =
      record { answered = answer.Rows whole.0; answers = whole.1; line_is = whole.2; failed_is = whole.3 }

module _ {B : Type 0} (state : B → State Office) where
  pub bad_line : {E : Type 0} (old : B) (r : Result AnswerLine E)
      → IfOk r (λ answered. answered.line.items ≡ line_of_reply (Refused BadRequest))
      → IfOk r (λ answered. answered.failed ≡ false)
      → IfOk r (λ answered. AnswersWithLine state old ask.Bad answered.line.items answered.failed old)
  bad_line old (Ok answered) text fails =
      record { answered = answer.One (Refused BadRequest); answers = (refl, refl); line_is = text; failed_is = fails }
  bad_line old (Err e) text fails = tt

  -- nothing was carried out
  pub none_begun : (old : B) (asked : Ask) → Begins state old asked old
  none_begun old ask.Bad = refl
  none_begun old (ask.One now caller request) = rows_none state now caller old (Some request ∷ [])
  none_begun old (ask.Import now caller rows) = rows_none state now caller old rows

-- what holds anyway
pub on_err : {T E P : Type 0} (r : Result T E) → P → OnErr r P
on_err (Ok x) p = tt
on_err (Err e) p = p
