use Rattle.std.proofs.Common.{◌≡◌, Some, inl, sym, ap, ◌∙◌, subst}
use Rattle.std.specs.Prelude.{IsTrue}
use Rattle.std.proofs.lemmas.Bool.{false≢true}
use Rattle.cpi_office.specs.Authorization.{is_turned_away}
use Rattle.cpi_office.specs.Calls.{reply_of}
use Rattle.cpi_office.proofs.Authorization.{told_of}
use Rattle.cpi_store.specs.Registration.{registration_of}
use Rattle.cpi_office.specs.Authentication.{collector_reply, collector_after}
use Rattle.cpi_office.proofs.Listed.{registration_some, registration_key}
use Rattle.cpi_office.proofs.Calls.{answers_after}
use Rattle.cpi_office.proofs.callers.serve_collector.Goals as goal

pub answer_collector-requires : goal.answer_collector-requires
answer_collector-requires g c = record {
  known = λ clean.
      let reads = c.in_ok-registration_of.ensures.reads in
      rw (reads.keeps.kept clean) (registration_some c.args.key c.in-Some.registration _
      (sym (reads.shown clean) ∙ c.in-Some.is));
}

pub returns-in-Some-clause-serves : goal.returns-in-Some-clause-serves
returns-in-Some-clause-serves g c =
    let reads = c.in_ok-registration_of.ensures.reads in
    let o = (g.B.Book.state c.args.book.now).held in
    let key = c.args.key in
    let now = c.args.now in
    let r = c.args.request in
    let b = c.in-Some.registration in
    let mid = c.registration_of.new.self in
    answers_after (g.B.Book.state c.args.book.now) (g.B.Book.state mid)
    (g.B.Book.state c.answer_collector.new.sight) c.answer_collector.result
    (collector_reply now r (g.B.Book.state mid).held (Some b))
    (collector_reply now r o (registration_of key o.collectors))
    (collector_after b.key now r (g.B.Book.state mid).held (Some b))
    (collector_after key now r o (registration_of key o.collectors))
    reads reads.stays c.answer_collector.ensures.serves
    (λ clean.
    let found : registration_of key o.collectors ≡ Some b = sym (reads.shown clean) ∙ c.in-Some.is in (
      ap (λ u. collector_reply now r u (Some b)) (reads.keeps.kept clean) ∙ ap (collector_reply now r o) (sym found),
      ap (λ u. collector_after b.key now r u (Some b)) (reads.keeps.kept clean)
          ∙ ap (λ k. collector_after k now r o (Some b)) (registration_key key b o.collectors found)
          ∙ ap (collector_after key now r o) (sym found),
    ))

pub returns-in-Some-clause-turns : goal.returns-in-Some-clause-turns
returns-in-Some-clause-turns g c =
    let reads = c.in_ok-registration_of.ensures.reads in
    let o = (g.B.Book.state c.args.book.now).held in
    let u = (g.B.Book.state c.registration_of.new.self).held in
    let key = c.args.key in
    let now = c.args.now in
    let r = c.args.request in
    let b = c.in-Some.registration in
    let serves = c.answer_collector.ensures in
    record {
      keyless = λ none. absurd (false≢true (sym none));
      keyed = λ clean turned.
          let was = serves.serves.serves.was_clean clean in
          let found : registration_of key o.collectors ≡ Some b = sym (reads.shown was) ∙ c.in-Some.is in
          let same : collector_reply now r u (Some b) ≡ collector_reply now r o (registration_of key o.collectors) =
          ap (λ w. collector_reply now r w (Some b)) (reads.keeps.kept was)
          ∙ ap (collector_reply now r o) (sym found) in
          inl (ap reply_of (serves.turns (subst (λ w. IsTrue (is_turned_away w)) (sym same) turned)) ∙ same);
      unavailable = told_of now r o u (registration_of key o.collectors) b (reply_of c.answer_collector.result)
          (λ turned. ap reply_of (serves.turns turned));
    }
