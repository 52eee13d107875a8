-- The bytes of a stream begin with at most one message.
use Rattle.std.proofs.Common.{◌≡◌, ℕ, List, ◌++◌, length, take, Result, Ok, refl, sym, ap, ◌∙◌, subst}
use Rattle.std.proofs.Math.Seq.{take-append_seam}
use Rattle.httparse.specs.Grammar.{RequestHead, ReadsRequest}
use Rattle.httparse.proofs.GrammarLemmas.{request_unique, ReadsRequest-append}
use Rattle.cpi_codes.specs.Zone.{ZoneRule}
use Rattle.cpi_http.specs.Called.{Called, called_of}
use Rattle.cpi_http.specs.Framing.{framing_of}
use Rattle.cpi_http.specs.Head.{ReadsHead}
use Rattle.cpi_http.specs.Message.{MessageAsks, Setting, IsMessage, malformed, headed, IsBody, IsBodyAfter, refused}
use Rattle.cpi_http.specs.Message.{whole, headers_of, asked_by}

-- the head of a message is the head of each longer stream
longer : (taken body rest : List ℕ) (h : RequestHead) → ReadsHead taken h body
    → ReadsHead (taken ++ rest) h (body ++ rest)
longer taken body rest h r = record {
  reads = ReadsRequest-append taken h body rest r.reads;
  short = r.short;
  few = r.few;
}

front_same : (a b r s : List ℕ) → a ++ r ≡ b ++ s → length a ≡ length b → a ≡ b
front_same a b r s e n = sym (take-append_seam a r) ∙ ap (take (length a)) e ∙ ap (λ k. take k (b ++ s)) n
    ∙ take-append_seam b s

ok_same : {a b : ℕ} → ◌≡◌ {A = Result ℕ ℕ} (Ok a) (Ok b) → a ≡ b
ok_same e = cc

-- two bodies of one head
bodies_same : (now : ℕ) (zone : ZoneRule) (size : Result ℕ ℕ) (called : Called) (path a b r s : List ℕ)
    (m n : MessageAsks)
    → a ++ r ≡ b ++ s
    → IsBody now zone size called path a m → IsBody now zone size called path b n → m ≡ n
bodies_same now zone size called path a b r s _ _ e (refused x p nil) (refused y q nil') = let same = sym p ∙ q in cc
bodies_same now zone size called path a b r s _ _ e (refused x p nil) (whole q) = let same = sym p ∙ q in cc
bodies_same now zone size called path a b r s _ _ e (whole p) (refused y q nil) = let same = sym p ∙ q in cc
bodies_same now zone size called path a b r s _ _ e (whole p) (whole q) =
    ap (asked_by now zone called path) (front_same a b r s e (ok_same (sym p ∙ q)))

-- two messages at the front of one stream are the same
pub message_unique : (s : Setting) (taken other left rest : List ℕ) (m n : MessageAsks) → taken ++ left ≡ other ++ rest
    → IsMessage s taken m → IsMessage s other n → m ≡ n
message_unique s taken other left rest _ _ e (malformed p) (malformed q) = refl
message_unique s taken other left rest _ _ e (malformed p) (headed h body n reads is) =
    absurd (p left h (body ++ rest)
    (subst (λ l. ReadsHead l h (body ++ rest)) (sym e) (longer other body rest h reads)))
message_unique s taken other left rest _ _ e (headed h body m reads is) (malformed q) =
    absurd (q rest h (body ++ left) (subst (λ l. ReadsHead l h (body ++ left)) e (longer taken body left h reads)))
message_unique s taken other left rest _ _ e (headed h body m reads is) (headed k text n reads' is') =
    let same = request_unique (other ++ rest) h k (body ++ left) (text ++ rest)
    (subst (λ l. ReadsRequest l h (body ++ left)) e (longer taken body left h reads).reads)
    (longer other text rest k reads').reads in
    bodies_same s.now s.zone (framing_of (headers_of k)) (called_of s.desk_key (headers_of k) k.method k.target)
    k.target
    body text left rest m n same.1 (subst (λ x. IsBodyAfter s x body m) same.0 is) is'
