-- The lines to a collector depend only on the replies of the office to that collector.
use mathlib.Core.Bool.{true≢false}
use Rattle.std.proofs.Common.{◌≡◌, ◌∙◌, sym, ap, ap₂, refl, subst, ℕ, ◌+◌, List, [], ◌∷◌, ◌++◌, length, map, filter}
use Rattle.std.proofs.Common.{Bool, true, false, not, Option, Some, None, if◌then◌else◌, ◌==◌, arith, length-append}
use Rattle.std.specs.Bool.{⊤}
use Rattle.cpi_codes.specs.Zone.{ZoneRule}
use Rattle.cpi_release.specs.State.{State}
use Rattle.cpi_store.specs.Office.{Office}
use Rattle.cpi_office.specs.NonInterference.{has_this_key, is_other, requests_without}
use Rattle.cpi_office.specs.NonInterferenceOfRuns.{replies_to, IsWholeRun}
use Rattle.cpi_office.specs.declared.caller.Caller.{Caller}
use Rattle.cpi_office.specs.declared.caller.Caller.TheVariants.{Public, Collector, Desk}
use Rattle.cpi_office.specs.declared.request.Ask.{Ask as Asking}
use Rattle.cpi_office.specs.declared.request.Request.{Request}
use Rattle.cpi_office.specs.declared.reply.Reply.{Reply}
use Rattle.cpi_office.specs.declared.reply.Reply.TheVariants.{Refused}
use Rattle.cpi_office.specs.declared.refusal.Refusal.TheVariants.{BadRequest}
use Rattle.cpi_office.proofs.NonInterferenceOfRuns.{runs_tell_alike}
use Rattle.cpi_wire.specs.Answer.{Answer}
use Rattle.cpi_wire.specs.Answer as answer
use Rattle.cpi_wire.specs.declared.asks.Ask.{Ask}
use Rattle.cpi_wire.specs.declared.asks.Ask.TheVariants as ask
use Rattle.cpi_wire.specs.Answers.{Answers, RowsAnswer}
use Rattle.cpi_wire.specs.Input.{Record}
use Rattle.cpi_wire.specs.Laws.{requests_of_record, replies_of_record, rows_asked, rows_replied, requests_of_records}
use Rattle.cpi_wire.specs.Laws.{requests_of_asks, replies_of_asks, replies_of}
use Rattle.cpi_wire.specs.Lines.{is_own, is_others, records_without, own_answers, IsReplayed, ReplaysAnswerAlike}
use Rattle.cpi_wire.specs.Record.{ask_of}
use Rattle.cpi_wire.specs.Records.{AnswersAll}
use Rattle.cpi_wire.specs.Rows.{answer_line}
use Rattle.cpi_wire.proofs.Runs.{records_are_a_run, requests_are, replies_are}

-- ---- the forms of answers

-- a reply for each row, and 10 for a row of no form
abbrev Fit : List (Option Request) → List Reply → Type 0
Fit [] [] = ⊤
Fit [] (r ∷ rs) = ⊥
Fit (row ∷ rows) [] = ⊥
Fit (None ∷ rows) (r ∷ rs) = (r ≡ Refused BadRequest) × Fit rows rs
Fit (Some q ∷ rows) (r ∷ rs) = Fit rows rs

abbrev FitsAnswer : Ask → Answer → Type 0
FitsAnswer ask.Bad (answer.One r) = r ≡ Refused BadRequest
FitsAnswer ask.Bad (answer.Rows rs) = ⊥
FitsAnswer (ask.One t c q) (answer.One r) = ⊤
FitsAnswer (ask.One t c q) (answer.Rows rs) = ⊥
FitsAnswer (ask.Import t c rows) (answer.One r) = ⊥
FitsAnswer (ask.Import t c rows) (answer.Rows rs) = Fit rows rs

abbrev AllFit : List Ask → List Answer → Type 0
AllFit [] [] = ⊤
AllFit [] (a ∷ ans) = ⊥
AllFit (k ∷ ks) [] = ⊥
AllFit (k ∷ ks) (a ∷ ans) = FitsAnswer k a × AllFit ks ans

module _ {B : Type 0} (state : B → State Office) where
  rows_fit : (t : ℕ) (c : Caller) (p q : B) (rows : List (Option Request)) (rs : List Reply)
      → RowsAnswer state t c p rows rs q → Fit rows rs
  rows_fit t c p q [] [] a = tt
  rows_fit t c p q [] (r ∷ rs) a = absurd a
  rows_fit t c p q (row ∷ rows) [] a = absurd a
  rows_fit t c p q (None ∷ rows) (r ∷ rs) a = (a.1.0, rows_fit t c a.0 q rows rs a.2)
  rows_fit t c p q (Some x ∷ rows) (r ∷ rs) a = rows_fit t c a.0 q rows rs a.2

  answer_fits : (p q : B) (k : Ask) (answered : Answer) → Answers state p k answered q → FitsAnswer k answered
  answer_fits p q ask.Bad (answer.One r) a = a.0
  answer_fits p q ask.Bad (answer.Rows rs) a = absurd a
  answer_fits p q (ask.One t c x) (answer.One r) a = tt
  answer_fits p q (ask.One t c x) (answer.Rows rs) a = absurd a
  answer_fits p q (ask.Import t c rows) (answer.One r) a = absurd a
  answer_fits p q (ask.Import t c rows) (answer.Rows rs) a = rows_fit t c p q rows rs a

  all_fit : (zone : ZoneRule) (p q : B) (rows : List Record) (ans : List Answer) →
      AnswersAll zone state p rows ans q → AllFit (map (ask_of zone) rows) ans
  all_fit zone p q [] [] a = tt
  all_fit zone p q [] (x ∷ ans) a = absurd a
  all_fit zone p q (row ∷ rows) [] a = absurd a
  all_fit zone p q (row ∷ rows) (x ∷ ans) a = (
    answer_fits p a.0 (ask_of zone row) x a.1,
    all_fit zone a.0 q rows ans a.2,
  )

-- ---- the records of the collector, with their answers

abbrev own_asks : ℕ → List Ask → List Ask
own_asks key ks = filter (is_own key) ks

abbrev own : ℕ → List Ask → List Answer → List Answer
own key [] ans = []
own key (k ∷ ks) [] = []
own key (k ∷ ks) (a ∷ ans) = (if is_own key k then a ∷ [] else []) ++ own key ks ans

own_is : (zone : ZoneRule) (key : ℕ) (rows : List Record) (ans : List Answer) →
    own_answers zone key rows ans ≡ own key (map (ask_of zone) rows) ans
own_is zone key [] ans = refl
own_is zone key (row ∷ rows) [] = refl
own_is zone key (row ∷ rows) (a ∷ ans) = ap (λ (z : List Answer).
    (if is_own key (ask_of zone row) then a ∷ [] else []) ++ z) (own_is zone key rows ans)

own_fit : (key : ℕ) (ks : List Ask) (ans : List Answer) → AllFit ks ans → AllFit (own_asks key ks) (own key ks ans)
own_fit key [] [] h = tt
own_fit key [] (a ∷ ans) h = absurd h
own_fit key (k ∷ ks) [] h = absurd h
own_fit key (k ∷ ks) (a ∷ ans) h = cases (is_own key k) (own_fit key ks ans h.1)
  where
    cases : (is_its : Bool) → AllFit (own_asks key ks) (own key ks ans) →
        AllFit (if is_its then k ∷ own_asks key ks else own_asks key ks)
        ((if is_its then a ∷ [] else []) ++ own key ks ans)
    cases true rest = (h.0, rest)
    cases false rest = rest

-- ---- the replies to the collector's requests are those to the collector's records

module _ (key : ℕ) (t : ℕ) (c : Caller) (more : List Asking) (rest : List Reply) where
  rows_own : has_this_key key c ≡ true → (rows : List (Option Request)) (rs : List Reply) → Fit rows rs
      → replies_to key (rows_asked t c rows ++ more) (rows_replied rows rs ++ rest)
      ≡ rows_replied rows rs ++ replies_to key more rest
  rows_own e [] [] h = refl
  rows_own e [] (r ∷ rs) h = absurd h
  rows_own e (row ∷ rows) [] h = absurd h
  rows_own e (None ∷ rows) (r ∷ rs) h = rows_own e rows rs h.1
  rows_own e (Some q ∷ rows) (r ∷ rs) h = rw e (ap (λ (z : List Reply). r ∷ z) (rows_own e rows rs h))

  rows_not : has_this_key key c ≡ false → (rows : List (Option Request)) (rs : List Reply) → Fit rows rs
      → replies_to key (rows_asked t c rows ++ more) (rows_replied rows rs ++ rest) ≡ replies_to key more rest
  rows_not e [] [] h = refl
  rows_not e [] (r ∷ rs) h = absurd h
  rows_not e (row ∷ rows) [] h = absurd h
  rows_not e (None ∷ rows) (r ∷ rs) h = rows_not e rows rs h.1
  rows_not e (Some q ∷ rows) (r ∷ rs) h = rw e (rows_not e rows rs h)

record_own : (key : ℕ) (k : Ask) (a : Answer) (more : List Asking) (rest : List Reply) → FitsAnswer k a →
    is_own key k ≡ true
    → replies_to key (requests_of_record k ++ more) (replies_of_record k a ++ rest)
    ≡ replies_of_record k a ++ replies_to key more rest
record_own key ask.Bad a more rest h e = absurd (true≢false (sym e))
record_own key (ask.One t c q) (answer.One r) more rest h e = rw e refl
record_own key (ask.One t c q) (answer.Rows rs) more rest h e = absurd h
record_own key (ask.Import t c rows) (answer.One r) more rest h e = absurd h
record_own key (ask.Import t c rows) (answer.Rows rs) more rest h e = rows_own key t c more rest e rows rs h

record_not : (key : ℕ) (k : Ask) (a : Answer) (more : List Asking) (rest : List Reply) → FitsAnswer k a →
    is_own key k ≡ false
    → replies_to key (requests_of_record k ++ more) (replies_of_record k a ++ rest) ≡ replies_to key more rest
record_not key ask.Bad (answer.One r) more rest h e = refl
record_not key ask.Bad (answer.Rows rs) more rest h e = absurd h
record_not key (ask.One t c q) (answer.One r) more rest h e = rw e refl
record_not key (ask.One t c q) (answer.Rows rs) more rest h e = absurd h
record_not key (ask.Import t c rows) (answer.One r) more rest h e = absurd h
record_not key (ask.Import t c rows) (answer.Rows rs) more rest h e = rows_not key t c more rest e rows rs h

replies_own : (key : ℕ) (ks : List Ask) (ans : List Answer) → AllFit ks ans →
    replies_to key (requests_of_asks ks) (replies_of_asks ks ans) ≡ replies_of_asks (own_asks key ks) (own key ks ans)
replies_own key [] [] h = refl
replies_own key [] (a ∷ ans) h = absurd h
replies_own key (k ∷ ks) [] h = absurd h
replies_own key (k ∷ ks) (a ∷ ans) h = cases (is_own key k) refl (replies_own key ks ans h.1)
  where
    cases : (is_its : Bool) → is_own key k ≡ is_its
        → replies_to key (requests_of_asks ks) (replies_of_asks ks ans)
        ≡ replies_of_asks (own_asks key ks) (own key ks ans)
        → replies_to key (requests_of_record k ++ requests_of_asks ks) (replies_of_record k a ++ replies_of_asks ks ans)
        ≡ replies_of_asks (if is_its then k ∷ own_asks key ks else own_asks key ks)
        ((if is_its then a ∷ [] else []) ++ own key ks ans)
    cases true e rest = record_own key k a (requests_of_asks ks) (replies_of_asks ks ans) h.0 e
        ∙ ap (λ (z : List Reply). replies_of_record k a ++ z) rest
    cases false e rest = record_not key k a (requests_of_asks ks) (replies_of_asks ks ans) h.0 e ∙ rest

-- ---- the replies have one reading: equal replies are of equal answers

heads : (a b : Reply) (xs ys : List Reply) → (a ∷ xs) ≡ (b ∷ ys) → a ≡ b
heads a b xs ys e = cc

tails : (a b : Reply) (xs ys : List Reply) → (a ∷ xs) ≡ (b ∷ ys) → xs ≡ ys
tails a b xs ys e = cc

rows_same : (rows : List (Option Request)) (rs ss x y : List Reply) → Fit rows rs → Fit rows ss
    → rows_replied rows rs ++ x ≡ rows_replied rows ss ++ y → (rs ≡ ss) × (x ≡ y)
rows_same [] [] [] x y f g e = (refl, e)
rows_same [] (r ∷ rs) ss x y f g e = absurd f
rows_same [] [] (s ∷ ss) x y f g e = absurd g
rows_same (row ∷ rows) [] ss x y f g e = absurd f
rows_same (row ∷ rows) (r ∷ rs) [] x y f g e = absurd g
rows_same (None ∷ rows) (r ∷ rs) (s ∷ ss) x y f g e =
    let rest = rows_same rows rs ss x y f.1 g.1 e in (ap₂ (λ z zs. z ∷ zs) (f.0 ∙ sym g.0) rest.0, rest.1)
rows_same (Some q ∷ rows) (r ∷ rs) (s ∷ ss) x y f g e =
    let rest = rows_same rows rs ss x y f g (tails r s _ _ e) in (ap₂ (λ z zs. z ∷ zs) (heads r s _ _ e) rest.0, rest.1)

record_same : (k : Ask) (a b : Answer) (x y : List Reply) → FitsAnswer k a → FitsAnswer k b
    → replies_of_record k a ++ x ≡ replies_of_record k b ++ y → (a ≡ b) × (x ≡ y)
record_same ask.Bad (answer.One r) (answer.One s) x y f g e = (ap answer.One (f ∙ sym g), e)
record_same ask.Bad (answer.One r) (answer.Rows ss) x y f g e = absurd g
record_same ask.Bad (answer.Rows rs) b x y f g e = absurd f
record_same (ask.One t c q) (answer.One r) (answer.One s) x y f g e = (ap answer.One (heads r s x y e), tails r s x y e)
record_same (ask.One t c q) (answer.One r) (answer.Rows ss) x y f g e = absurd g
record_same (ask.One t c q) (answer.Rows rs) b x y f g e = absurd f
record_same (ask.Import t c rows) (answer.Rows rs) (answer.Rows ss) x y f g e =
    let both = rows_same rows rs ss x y f g e in (ap answer.Rows both.0, both.1)
record_same (ask.Import t c rows) (answer.Rows rs) (answer.One s) x y f g e = absurd g
record_same (ask.Import t c rows) (answer.One r) b x y f g e = absurd f

replies_same : (ks : List Ask) (ans bs : List Answer) → AllFit ks ans → AllFit ks bs
    → replies_of_asks ks ans ≡ replies_of_asks ks bs → ans ≡ bs
replies_same [] [] [] f g e = refl
replies_same [] (a ∷ ans) bs f g e = absurd f
replies_same [] [] (b ∷ bs) f g e = absurd g
replies_same (k ∷ ks) [] bs f g e = absurd f
replies_same (k ∷ ks) (a ∷ ans) [] f g e = absurd g
replies_same (k ∷ ks) (a ∷ ans) (b ∷ bs) f g e =
    let both = record_same k a b (replies_of_asks ks ans) (replies_of_asks ks bs) f.0 g.0 e in
    ap₂ (λ z zs. z ∷ zs) both.0 (replies_same ks ans bs f.1 g.1 both.1)

-- ---- as many replies as requests

rows_length : (t : ℕ) (c : Caller) (rows : List (Option Request)) (rs : List Reply) → Fit rows rs →
    length (rows_replied rows rs) ≡ length (rows_asked t c rows)
rows_length t c [] [] h = refl
rows_length t c [] (r ∷ rs) h = absurd h
rows_length t c (row ∷ rows) [] h = absurd h
rows_length t c (None ∷ rows) (r ∷ rs) h = rows_length t c rows rs h.1
rows_length t c (Some q ∷ rows) (r ∷ rs) h = let e = rows_length t c rows rs h in omega (arith, e)

record_length : (k : Ask) (a : Answer) → FitsAnswer k a → length (replies_of_record k a) ≡ length (requests_of_record k)
record_length ask.Bad a h = refl
record_length (ask.One t c q) (answer.One r) h = refl
record_length (ask.One t c q) (answer.Rows rs) h = absurd h
record_length (ask.Import t c rows) (answer.One r) h = absurd h
record_length (ask.Import t c rows) (answer.Rows rs) h = rows_length t c rows rs h

replies_length : (ks : List Ask) (ans : List Answer) → AllFit ks ans
    → length (replies_of_asks ks ans) ≡ length (requests_of_asks ks)
replies_length [] [] h = refl
replies_length [] (a ∷ ans) h = absurd h
replies_length (k ∷ ks) [] h = absurd h
replies_length (k ∷ ks) (a ∷ ans) h = length-append (replies_of_record k a) (replies_of_asks ks ans)
    ∙ ap₂ (λ m n. m + n) (record_length k a h.0) (replies_length ks ans h.1)
    ∙ sym (length-append (requests_of_record k) (requests_of_asks ks))

-- ---- without other collectors

not_true : (b : Bool) → not b ≡ true → b ≡ false
not_true true h = sym h
not_true false h = refl

-- an own record isn't another collector's
own_not_others : (key : ℕ) (k : Ask) → is_others key k ≡ true → is_own key k ≡ false
own_not_others key ask.Bad e = refl
own_not_others key (ask.One t (Collector j) q) e = not_true (j == key) e
own_not_others key (ask.One t Public q) e = refl
own_not_others key (ask.One t Desk q) e = refl
own_not_others key (ask.Import t (Collector j) rows) e = not_true (j == key) e
own_not_others key (ask.Import t Public rows) e = refl
own_not_others key (ask.Import t Desk rows) e = refl

-- the collector's records are among those that are left
own_left : (zone : ZoneRule) (key : ℕ) (rows : List Record) →
    own_asks key (map (ask_of zone) (records_without zone key rows)) ≡ own_asks key (map (ask_of zone) rows)
own_left zone key [] = refl
own_left zone key (row ∷ rows) = cases (is_others key (ask_of zone row)) refl (own_left zone key rows)
  where
    cases : (b : Bool) → is_others key (ask_of zone row) ≡ b →
        own_asks key (map (ask_of zone) (records_without zone key rows)) ≡ own_asks key (map (ask_of zone) rows)
        → own_asks key (map (ask_of zone)
        (if not b then row ∷ records_without zone key rows else records_without zone key rows))
        ≡ own_asks key (ask_of zone row ∷ map (ask_of zone) rows)
    cases true e rest = rest ∙ rw (own_not_others key (ask_of zone row) e) refl
    cases false e rest =
        ap (λ (z : List Ask). if is_own key (ask_of zone row) then ask_of zone row ∷ z else z) rest

-- the requests of a record go or stay together
rows_kept : (key t : ℕ) (c : Caller) (rows : List (Option Request)) (more : List Asking) → is_other key c ≡ false
    → requests_without key (rows_asked t c rows ++ more) ≡ rows_asked t c rows ++ requests_without key more
rows_kept key t c [] more e = refl
rows_kept key t c (None ∷ rows) more e = rows_kept key t c rows more e
rows_kept key t c (Some q ∷ rows) more e =
    let one : Asking = record { now = t; caller = c; request = q } in
    rw e (ap (λ (z : List Asking). one ∷ z) (rows_kept key t c rows more e))

rows_gone : (key t : ℕ) (c : Caller) (rows : List (Option Request)) (more : List Asking) → is_other key c ≡ true
    → requests_without key (rows_asked t c rows ++ more) ≡ requests_without key more
rows_gone key t c [] more e = refl
rows_gone key t c (None ∷ rows) more e = rows_gone key t c rows more e
rows_gone key t c (Some q ∷ rows) more e = rw e (rows_gone key t c rows more e)

record_kept : (key : ℕ) (k : Ask) (more : List Asking) → is_others key k ≡ false →
    requests_without key (requests_of_record k ++ more) ≡ requests_of_record k ++ requests_without key more
record_kept key ask.Bad more e = refl
record_kept key (ask.One t c q) more e = rw e refl
record_kept key (ask.Import t c rows) more e = rows_kept key t c rows more e

record_gone : (key : ℕ) (k : Ask) (more : List Asking) → is_others key k ≡ true →
    requests_without key (requests_of_record k ++ more) ≡ requests_without key more
record_gone key ask.Bad more e = refl
record_gone key (ask.One t c q) more e = rw e refl
record_gone key (ask.Import t c rows) more e = rows_gone key t c rows more e

left_requests : (zone : ZoneRule) (key : ℕ) (rows : List Record) →
    requests_without key (requests_of_records zone rows) ≡ requests_of_records zone (records_without zone key rows)
left_requests zone key [] = refl
left_requests zone key (row ∷ rows) = cases (is_others key (ask_of zone row)) refl (left_requests zone key rows)
  where
    cases : (b : Bool) → is_others key (ask_of zone row) ≡ b
        → requests_without key (requests_of_records zone rows)
        ≡ requests_of_records zone (records_without zone key rows)
        → requests_without key (requests_of_record (ask_of zone row) ++ requests_of_records zone rows)
        ≡ requests_of_records zone
        (if not b then row ∷ records_without zone key rows else records_without zone key rows)
    cases true e rest = record_gone key (ask_of zone row) (requests_of_records zone rows) e ∙ rest
    cases false e rest = record_kept key (ask_of zone row) (requests_of_records zone rows) e
        ∙ ap (λ (z : List Asking). requests_of_record (ask_of zone row) ++ z) rest

-- ---- the law

module _ {B : Type 0} (state : B → State Office) (zone : ZoneRule) (old new : B) (rows : List Record)
    (ans : List Answer)
    (is : IsReplayed state zone old new rows ans) where
  fits : AllFit (map (ask_of zone) rows) ans
  fits = all_fit state zone old new rows ans is.each

  whole : IsWholeRun (state old) (state new) (requests_of_records zone rows) (replies_of zone rows ans)
  whole = record {
    ran = records_are_a_run state zone old new rows ans is.each;
    clean = is.clean;
    sound = is.sound;
    each = ap length (replies_are zone rows ans) ∙ replies_length (map (ask_of zone) rows) ans fits
        ∙ sym (ap length (requests_are zone rows));
    served = is.served;
  }

  replies_to_own : (key : ℕ) → replies_to key (requests_of_records zone rows) (replies_of zone rows ans)
      ≡ replies_of_asks (own_asks key (map (ask_of zone) rows)) (own key (map (ask_of zone) rows) ans)
  replies_to_own key = ap₂ (replies_to key) (requests_are zone rows) (replies_are zone rows ans)
      ∙ replies_own key (map (ask_of zone) rows) ans fits

pub replays_answer_alike : {B C : Type 0} (state : B → State Office) (state' : C → State Office)
    → ReplaysAnswerAlike state state'
replays_answer_alike state state' zone key old new old' new' rows others ans bs is is' start same =
    let asked = map (ask_of zone) rows in
    let asked' = map (ask_of zone) others in
    let asks : own_asks key asked ≡ own_asks key asked' =
    sym (own_left zone key rows) ∙ ap (λ z. own_asks key (map (ask_of zone) z)) same ∙ own_left zone key others in
    let left = left_requests zone key rows ∙ ap (requests_of_records zone) same ∙ sym (left_requests zone key others) in
    let alike = runs_tell_alike state state' key (requests_of_records zone rows) (requests_of_records zone others)
    (replies_of zone rows ans) (replies_of zone others bs)
    old new old' new' (whole state zone old new rows ans is) (whole state' zone old' new' others bs is') start
    is.none_passes_on is'.none_passes_on left in
    let answered : replies_of_asks (own_asks key asked) (own key asked ans)
    ≡ replies_of_asks (own_asks key asked) (own key asked' bs) =
    sym (replies_to_own state zone old new rows ans is key) ∙ alike
    ∙ replies_to_own state' zone old' new' others bs is' key
    ∙ ap (λ ks. replies_of_asks ks (own key asked' bs)) (sym asks) in
    let here = own_fit key asked ans (fits state zone old new rows ans is) in
    let there = subst (λ ks. AllFit ks (own key asked' bs)) (sym asks)
    (own_fit key asked' bs (fits state' zone old' new' others bs is')) in
    ap (map answer_line) (own_is zone key rows ans ∙ replies_same (own_asks key asked) (own key asked ans)
    (own key asked' bs) here there answered ∙ sym (own_is zone key others bs))
