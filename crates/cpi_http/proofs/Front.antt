-- A head, and the bytes at the front of a stream.
use Rattle.std.proofs.Common.{◌≡◌, ◌≢◌, ◌<◌, ◌≤◌, ℕ, List, [], ◌∷◌, ◌++◌, length, take, drop, get_or, refl, sym, ap}
use Rattle.std.proofs.Common.{◌∙◌, arith, append_assoc, append-nil, length-append, length-take, inl, inr}
use Rattle.std.proofs.Math.Seq.{take-append_seam, get_or-append_seam}
use Rattle.std.proofs.lemmas.Bool.{cases_lt}
use Rattle.std.proofs.lemmas.List.Elements.{All-nil, All-cons, All-append}
use Rattle.std.proofs.lemmas.List.{take-append-le, take-append-drop, nil_from_length, length-map}
use Rattle.httparse.specs.Grammar.{LineEnd, crlf, lf, print_end, RequestHead, print_request, ReadsRequest, HasNoRequest}
use Rattle.httparse.specs.Grammar.{MayBecomeRequest}
use Rattle.httparse.specs.declared.spans.HeaderSpan.{HeaderSpan}
use Rattle.httparse.specs.declared.spans.RequestSpans.{RequestSpans}
use Rattle.httparse.specs.Spans.{RequestOverflows, IsRequestAt, header_bytes, name_and_value}
use Rattle.cpi_http.specs.declared.limits.TheConstants.{MOST_FIELDS, MOST_HEAD_BYTES}
use Rattle.cpi_http.specs.Head.{ReadsHead, HasNoHead, NeverHasHead, MayGoOn}

-- the last byte is b
EndsIn : ℕ → List ℕ → Type 0
EndsIn b xs = (front : List ℕ) × (xs ≡ front ++ b ∷ [])

ends_append : (b : ℕ) (xs ys : List ℕ) → EndsIn b ys → EndsIn b (xs ++ ys)
unfolding EndsIn
ends_append b xs ys e = (xs ++ e.0, ap (λ l. xs ++ l) e.1 ∙ sym (append_assoc xs e.0 (b ∷ [])))

line_ends : (e : LineEnd) → EndsIn 10 (print_end e)
unfolding EndsIn
line_ends crlf = (13 ∷ [], refl)
line_ends lf = ([], refl)

-- a head ends in a line feed
request_ends : (h : RequestHead) → EndsIn 10 (print_request h)
unfolding print_request
request_ends h = ends_append _ _ _ (ends_append _ _ _ (line_ends h.last))

last_same : (a c : List ℕ) (b d : ℕ) → a ++ b ∷ [] ≡ c ++ d ∷ [] → b ≡ d
last_same a c b d e =
    let n : length a ≡ length c = let f = ap length e in let p = length-append a (b ∷ []) in
    let q = length-append c (d ∷ []) in omega arith in
    sym (get_or-append_seam a b [] 0) ∙ ap (λ l. get_or l (length a) 0) e ∙ ap (λ k. get_or (c ++ d ∷ []) k 0) n
    ∙ get_or-append_seam c d [] 0

-- the input begins with a text that is not longer than the input
pub front_within : (input more text rest : List ℕ) → input ++ more ≡ text ++ rest → length text ≤ length input
    → input ≡ text ++ drop (length text) input
front_within input more text rest e le =
    let t : take (length text) input ≡ text = sym (take-append-le (length text) input more le)
    ∙ ap (take (length text)) e ∙ take-append_seam text rest in
    sym (take-append-drop (length text) input) ∙ ap (λ l. l ++ drop (length text) input) t

-- a head that comes with one more byte ends in it
pub request_at_end : (a : List ℕ) (b : ℕ) (h : RequestHead) (rest : List ℕ) → HasNoRequest a
    → ReadsRequest (a ++ b ∷ []) h rest → rest ≡ []
request_at_end a b h rest none r =
    elim (cases_lt (length a) (length (print_request h))) [
      | inl lt ↦ let f = ap length r.1 in let p = length-append a (b ∷ []) in
          let q = length-append (print_request h) rest in
          nil_from_length rest (omega arith)
      | inr le ↦ absurd (none h _ (r.0, front_within a (b ∷ []) (print_request h) rest r.1 le))
    ]

-- and that byte is a line feed
pub no_request_more : (a : List ℕ) (b : ℕ) → HasNoRequest a → ¬ (b ≡ 10) → HasNoRequest (a ++ b ∷ [])
unfolding EndsIn
no_request_more a b none other h rest r =
    let nil = request_at_end a b h rest none r in
    let ends = request_ends h in
    absurd (other (last_same a ends.0 b 10 (r.1 ∙ ap (λ l. print_request h ++ l) nil ∙ append-nil (print_request h)
    ∙ ends.1)))

pub no_request_nil : HasNoRequest []
unfolding EndsIn
no_request_nil h rest r =
    let ends = request_ends h in
    let f = ap length r.1 in let p = length-append (print_request h) rest in let q = ap length ends.1 in
    let s = length-append ends.0 (10 ∷ []) in
    omega arith

pub no_head : (a : List ℕ) → HasNoRequest a → HasNoHead a
no_head a none h rest r = none h rest r.reads

-- with no head in as many bytes as a head may have, none comes
pub too_long : (a : List ℕ) → HasNoRequest a → MOST_HEAD_BYTES ≤ length a → NeverHasHead a
too_long a none long more h rest r =
    let s = r.short in
    none h _ (r.reads.0, front_within a more (print_request h) rest r.reads.1 (omega (arith, s, long)))

pub refused : (a : List ℕ) → RequestOverflows MOST_FIELDS a → NeverHasHead a
refused a over more h rest r = let s = r.few in let t = over more h rest r.reads in omega (arith, s, t)

-- a head that the parser found when its last byte came
pub whole : (a : List ℕ) (b : ℕ) (headers : List HeaderSpan) (spans : RequestSpans) (h : RequestHead) → HasNoRequest a
    → length a < MOST_HEAD_BYTES → length headers ≡ MOST_FIELDS
    → IsRequestAt (a ++ b ∷ []) headers spans h → ReadsHead (a ++ b ∷ []) h []
whole a b headers spans h none short room at =
    let nil = request_at_end a b h _ none at.reads in
    let reads : ReadsRequest (a ++ b ∷ []) h [] = (at.reads.0, at.reads.1 ∙ ap (λ l. print_request h ++ l) nil) in
    record {
      reads = reads;
      short = (let e = ap length reads.1 in let p = length-append a (b ∷ []) in
          let q = length-append (print_request h) [] in omega (arith, short, e, p, q));
      few = (let e = ap length at.fields in
          let p = length-map (take spans.headers headers) (header_bytes (a ++ b ∷ [])) in
          let q = length-map h.fields name_and_value in let r = length-take spans.headers headers in
          omega (arith, e, p, q, r, room));
    }

-- ---- a head that may go on

pub goes_on_nil : MayGoOn []
goes_on_nil = ([], [], refl, All-nil _, inl refl)

-- one more byte of a line
pub goes_on_more : (bytes : List ℕ) (b : ℕ) → MayGoOn bytes → b ≢ 10 → MayGoOn (bytes ++ b ∷ [])
goes_on_more bytes b on other = (
  on.0,
  on.1 ++ b ∷ [],
  ap (λ l. l ++ b ∷ []) on.2
      ∙ append_assoc on.0 on.1 (b ∷ []),
  All-append (λ x. x ≢ 10) on.1 (b ∷ []) on.3 (All-cons (λ x. x ≢ 10) b [] other (All-nil (λ x. x ≢ 10))),
  on.4,
)

-- whole lines
pub goes_on_lines : (bytes : List ℕ) → MayBecomeRequest bytes → MayGoOn bytes
goes_on_lines bytes may = (bytes, [], sym (append-nil bytes), All-nil _, inr may)
