-- From the bytes that were read and sent to the effect of one call.
use Rattle.std.proofs.Common.{◌≡◌, ◌<◌, ℕ, Bool, true, List, [], ◌++◌, Option, Result, Ok, Err, IfOk, IfErr, OnOk, refl, sym}
use Rattle.std.proofs.Common.{ap, ap₂, ◌∙◌, subst, inl, inr, length, take, append-nil}
use Rattle.std.specs.Io.KnownBytes.{Consumes, Keeps, Appends}
use Rattle.std.proofs.KnownBytes.{Consumes-nil, Consumes-trans}
use Rattle.httparse.specs.Grammar.{RequestHead, print_request}
use Rattle.cpi_codes.specs.Zone.{ZoneRule}
use Rattle.cpi_release.specs.State.{State}
use Rattle.cpi_store.specs.Office.{Office}
use Rattle.cpi_office.specs.declared.cause.Cause.{Cause}
use Rattle.cpi_wire.specs.declared.asks.Ask.{Ask}
use Rattle.cpi_wire.specs.declared.asks.Ask.TheVariants as ask
use Rattle.cpi_wire.specs.declared.fault.WireFault.{WireFault}
use Rattle.cpi_wire.specs.declared.fault.WireFault.TheVariants as fault
use Rattle.cpi_wire.specs.Answer.{Answer}
use Rattle.cpi_wire.specs.Answer as answer
use Rattle.cpi_wire.specs.Answers.{Answers, Begins, some_fails}
use Rattle.cpi_wire.specs.Lines.{all_replies}
use Rattle.cpi_wire.specs.Causes.{IsCaused}
use Rattle.cpi_wire.proofs.Importing.{one_begun}
use Rattle.cpi_http.specs.declared.responses.Response.{Response}
use Rattle.cpi_http.specs.declared.serve.Ended.{Ended}
use Rattle.cpi_http.specs.declared.serve.Served.{Served}
use Rattle.cpi_http.specs.declared.serve.Served.TheVariants.{Answered, Cut}
use Rattle.cpi_http.specs.Bytes.{http_of}
use Rattle.cpi_http.specs.Called.{Called, called_of}
use Rattle.cpi_http.specs.Fields.{Header}
use Rattle.cpi_http.specs.Framing.{framing_of}
use Rattle.cpi_http.specs.Head.{ReadsHead, NeverHasHead}
use Rattle.cpi_http.specs.HeadEnd.{IsFaultOfReading}
use Rattle.cpi_http.specs.Message.{MessageAsks, Setting, headers_of, asked_by, IsBody, IsBodyAfter, refused, whole}
use Rattle.cpi_http.specs.Message.{headed, malformed, of_body}
use Rattle.cpi_http.specs.Response.{Said, SaysResponse, ask_in, response_to, body_bytes}
use Rattle.cpi_http.specs.Served.{Framing, ServedChange, StreamGives, IsServed, GaveUp, SendFails, bodies, messages}
use Rattle.cpi_http.specs.Served.{is_failed, IsNoted}

-- the bytes of a response
pub said_bytes : (said : Said) (failed : Bool) (r : Response) → SaysResponse said failed r
    → http_of r.status r.content r.body.items ≡ body_bytes said
said_bytes said failed r is =
    ap₂ (λ s t. http_of s t r.body.items) is.0 is.1 ∙ ap (http_of said.status said.content) is.2

module _ {B : Type 0} (state : B → State Office) where
  -- a request that was carried out was begun
  pub answered_begun : (old new : B) (asked : Ask) (answered : Answer) → Answers state old asked answered new
      → Begins state old asked new
  answered_begun old new ask.Bad (answer.One reply) a = a.1
  answered_begun old new ask.Bad (answer.Rows replies) a = absurd a
  answered_begun old new (ask.One t k r) (answer.One reply) a = one_begun state t k old new r reply a
  answered_begun old new (ask.One t k r) (answer.Rows replies) a = absurd a
  answered_begun old new (ask.Import t k rows) (answer.One reply) a = absurd a
  answered_begun old new (ask.Import t k rows) (answer.Rows replies) a = record {
    front = rows;
    rest = [];
    replies = replies;
    split = sym (append-nil rows);
    answers = a;
  }

  module _ (f : Framing) (old new : Option (List ℕ)) (c : ServedChange B) where
    pub sent_ok : (m : MessageAsks) (answered : Answer) (r : Result Ended WireFault) (bytes : List ℕ) (status : ℕ)
        (failed : Bool)
        → StreamGives f old new m → Answers state c.before (ask_in m) answered c.now
        → bytes ≡ body_bytes (response_to m answered) → status ≡ (response_to m answered).status
        → failed ≡ some_fails (all_replies answered)
        → IfOk r (λ ended. ended.served ≡ Answered status failed) → OnOk r (Appends c.written c.writing bytes)
        → IfOk r (λ ended. IsServed state f old new c ended.served)
    sent_ok m answered (Ok ended) bytes status failed gives answers same st fa is sent =
        subst (IsServed state f old new c) (sym is) (record {
          asked = m;
          answered = answered;
          gives = gives;
          answers = answers;
          written = subst (Appends c.written c.writing) same sent;
          status_is = st;
          failed_is = fa;
        })
    sent_ok m answered (Err e) bytes status failed gives answers same st fa is sent = tt

    send_failed : (m : MessageAsks) (answered : Answer) (bytes : List ℕ) (e : WireFault)
        → StreamGives f old new m → Answers state c.before (ask_in m) answered c.now
        → bytes ≡ body_bytes (response_to m answered)
        → SendFails c.written c.writing bytes e → GaveUp state f old new c e
    send_failed m answered bytes fault.Read gives answers same h = absurd h
    send_failed m answered bytes fault.Write gives answers same h = record {
      asked = m;
      answered = answered;
      count = h.0;
      gives = gives;
      answers = answers;
      short = subst (λ l. h.0 < length l) same h.1;
      written = subst (λ l. Appends c.written c.writing (take h.0 l)) same h.2;
    }
    send_failed m answered bytes fault.NoMemory gives answers same h =
        (inr (m, gives, answered_begun c.before c.now (ask_in m) answered answers), h)

    pub sent_err : (m : MessageAsks) (answered : Answer) (r : Result Ended WireFault) (bytes : List ℕ)
        → StreamGives f old new m → Answers state c.before (ask_in m) answered c.now
        → bytes ≡ body_bytes (response_to m answered)
        → IfErr r (SendFails c.written c.writing bytes) → IfErr r (GaveUp state f old new c)
    sent_err m answered (Ok ended) bytes gives answers same h = tt
    sent_err m answered (Err e) bytes gives answers same h = send_failed m answered bytes e gives answers same h

    -- memory ran out while the message was carried out
    pub gave_up_memory : (m : MessageAsks) → StreamGives f old new m → Begins state c.before (ask_in m) c.now
        → Keeps c.written c.writing
        → GaveUp state f old new c fault.NoMemory
    gave_up_memory m gives begun kept = (inr (m, gives, begun), kept)

    -- a fault of reading
    pub gave_up_reading : (noted : Bool) (e : WireFault) → IsFaultOfReading noted e → c.now ≡ c.before →
        Keeps c.written c.writing → GaveUp state f old new c e
    gave_up_reading noted fault.Read is same kept = (same, kept)
    gave_up_reading noted fault.Write is same kept = absurd is
    gave_up_reading noted fault.NoMemory is same kept = (inl same, kept)

-- a head that is refused before its body
pub gives_refused : (now : ℕ) (zone : ZoneRule) (size : Result ℕ ℕ) (called : Called) (path : List ℕ) (status : ℕ)
    (input : Option (List ℕ))
    → size ≡ Err status → StreamGives (bodies now zone size called path) input input (Err status)
gives_refused now zone size called path status input is = ([], Consumes-nil input, refused status is refl)

-- a head and its whole body
pub gives_whole : (now : ℕ) (zone : ZoneRule) (size : Result ℕ ℕ) (called : Called) (path body : List ℕ)
    (old new : Option (List ℕ)) (n : ℕ)
    → size ≡ Ok n → length body ≡ n → Consumes old new body
    → StreamGives (bodies now zone size called path) old new (asked_by now zone called path body)
gives_whole now zone size called path body old new n is sized taken = (body, taken, whole (is ∙ ap Ok (sym sized)))

-- a head that none could become
pub gives_malformed : (s : Setting) (taken : List ℕ) (old new : Option (List ℕ)) → NeverHasHead taken
    → Consumes old new taken
    → StreamGives (messages s) old new (Err 400)
gives_malformed s taken old new never is = (taken, is, malformed never)

-- ---- a head and what follows it

reads_more : (head body : List ℕ) (h : RequestHead) → ReadsHead head h [] → ReadsHead (head ++ body) h body
reads_more head body h r = record {
  reads = (r.reads.0, ap (λ l. l ++ body) (r.reads.1 ∙ append-nil (print_request h)));
  short = r.short;
  few = r.few;
}

-- what the head says of its body, of its route and its caller, and its target
pub record AreParts (s : Setting) (h : RequestHead) (size : Result ℕ ℕ) (called : Called) (path : List ℕ) : Type 0 where
  pub size_is : size ≡ framing_of (headers_of h)
  pub called_is : called ≡ called_of s.desk_key (headers_of h) h.method h.target
  pub path_is : path ≡ h.target

-- the parts of the head, from its fields
pub are_parts : (s : Setting) (h : RequestHead) (headers : List Header) (method path : List ℕ) (size : Result ℕ ℕ)
    (called : Called)
    → headers ≡ headers_of h → method ≡ h.method → path ≡ h.target
    → size ≡ framing_of headers → called ≡ called_of s.desk_key headers method path → AreParts s h size called path
are_parts s h headers method path size called hs ms ps sized calls = record {
  size_is = sized ∙ ap framing_of hs;
  called_is =
      calls ∙ ap (λ l. called_of s.desk_key l method path) hs ∙ ap (λ l. called_of s.desk_key (headers_of h) l path) ms
      ∙ ap (λ l. called_of s.desk_key (headers_of h) h.method l) ps;
  path_is = ps;
}

module _ (s : Setting) (head : List ℕ) (h : RequestHead) (size : Result ℕ ℕ) (called : Called) (path : List ℕ)
    (old mid new : Option (List ℕ)) (reads : ReadsHead head h []) (parts : AreParts s h size called path)
    (taken : Consumes old mid head) where
  body_after : (body : List ℕ) (m : MessageAsks) → IsBody s.now s.zone size called path body m → IsBodyAfter s h body m
  body_after body m is =
      subst (λ x. IsBody s.now s.zone x (called_of s.desk_key (headers_of h) h.method h.target) h.target body m)
      parts.size_is
      (subst (λ x. IsBody s.now s.zone size x h.target body m) parts.called_is
      (subst (λ x. IsBody s.now s.zone size called x body m) parts.path_is is))

  gives_headed : (m : MessageAsks) → StreamGives (bodies s.now s.zone size called path) mid new m
      → StreamGives (messages s) old new m
  gives_headed m gives = (
    head ++ gives.0,
    Consumes-trans old mid new head gives.0 taken gives.1,
    headed h gives.0 m (reads_more head gives.0 h reads) (body_after gives.0 m gives.2),
  )

  module _ {B : Type 0} (state : B → State Office) (c : ServedChange B) where
    served_headed : (r : Served) → IsServed state (bodies s.now s.zone size called path) mid new c r
        → IsServed state (messages s) old new c r
    served_headed Cut is = (
      (
        head ++ is.0.0,
        Consumes-trans old mid new head is.0.0 taken is.0.1,
        is.0.2,
        of_body h is.0.0 is.0.3.0 (reads_more head is.0.0 h reads) (sym parts.size_is ∙ is.0.3.1) is.0.3.2,
      ),
      is.1,
      is.2,
    )
    served_headed (Answered status failed) is = record {
      asked = is.asked;
      answered = is.answered;
      gives = gives_headed is.asked is.gives;
      answers = is.answers;
      written = is.written;
      status_is = is.status_is;
      failed_is = is.failed_is;
    }

    gave_up_headed : (e : WireFault) → GaveUp state (bodies s.now s.zone size called path) mid new c e
        → GaveUp state (messages s) old new c e
    gave_up_headed fault.Read is = is
    gave_up_headed fault.Write is = record {
      asked = is.asked;
      answered = is.answered;
      count = is.count;
      gives = gives_headed is.asked is.gives;
      answers = is.answers;
      short = is.short;
      written = is.written;
    }
    gave_up_headed fault.NoMemory (inl same, kept) = (inl same, kept)
    gave_up_headed fault.NoMemory (inr begun, kept) = (inr (begun.0, gives_headed begun.0 begun.1, begun.2), kept)

    pub headed_ok : (r : Result Ended WireFault)
        → IfOk r (λ ended. IsServed state (bodies s.now s.zone size called path) mid new c ended.served)
        → IfOk r (λ ended. IsServed state (messages s) old new c ended.served)
    headed_ok (Ok x) is = served_headed x.served is
    headed_ok (Err e) is = tt

    pub headed_err : (r : Result Ended WireFault)
        → IfErr r (GaveUp state (bodies s.now s.zone size called path) mid new c)
        → IfErr r (GaveUp state (messages s) old new c)
    headed_err (Ok x) is = tt
    headed_err (Err e) is = gave_up_headed e is

-- ---- the notes, and the cause of a reply that is 90

pub noted_reading : (reading writing : Bool) (e : WireFault) → IsFaultOfReading reading e → IsNoted reading writing e
noted_reading reading writing fault.Read is = is
noted_reading reading writing fault.Write is = absurd is
noted_reading reading writing fault.NoMemory is = tt

-- a response wasn't written whole
pub noted_writing : (reading writing : Bool) (r : Result Ended WireFault) (old new : Option (List ℕ)) (bytes : List ℕ)
    → IfErr r (SendFails old new bytes) → IfErr r (λ e. e ≡ fault.Write → writing ≡ true)
    → IfErr r (IsNoted reading writing)
noted_writing reading writing (Ok ended) old new bytes fails noted = tt
noted_writing reading writing (Err fault.Read) old new bytes fails noted = absurd fails
noted_writing reading writing (Err fault.Write) old new bytes fails noted = noted refl
noted_writing reading writing (Err fault.NoMemory) old new bytes fails noted = tt

-- the cause is that of the response
pub sent_caused : (old new : State Office) (status : ℕ) (failed : Bool) (cause : Option Cause) (r : Result Ended WireFault)
    → IsCaused old new failed cause → IfOk r (λ ended. ended.served ≡ Answered status failed)
    → IfOk r (λ ended. ended.cause ≡ cause)
    → IfOk r (λ ended. IsCaused old new (is_failed ended.served) ended.cause)
sent_caused old new status failed cause (Ok ended) caused served is =
    subst (λ s. IsCaused old new (is_failed s) ended.cause) (sym served)
    (subst (λ c. IsCaused old new failed c) (sym is) caused)
sent_caused old new status failed cause (Err e) caused served is = tt
