use Rattle.std.proofs.Common.{◌≡◌, Ok, Err, inl, sym, ap, ◌∙◌, subst}
use Rattle.std.proofs.lemmas.Option.{IfSome_then}
use Rattle.cpi_release.specs.FrozenMonths.{frozen_months, is_next_month}
use Rattle.cpi_store.specs.Sound.{IsSound}
use Rattle.cpi_office.specs.Freezing.{verdict_of_freeze, freeze_judged_in, freeze_verdict, judged_release}
use Rattle.cpi_office.specs.Freezing.{release_verdict}
use Rattle.cpi_office.specs.Verdicts.{Refuses, verdict_reply, with_verdict}
use Rattle.cpi_office.proofs.Calls.{refused_where, answers_where_after}
use Rattle.cpi_office.proofs.Judged.{judged_few, judged_month, judged_follows}
use Rattle.cpi_office.proofs.freeze.freeze.Goals as goal

pub release-requires : goal.release-requires
release-requires g c = record {
  next = λ clean.
      let reads = c.in_ok-refusal.ensures in
      let o = (g.B.Book.state c.args.book.now).held in
      let judged = (rw c.in-Ok.is at (reads.shown clean)).0 in
      let same = judged_month c.args.now c.args.month c.as_slice.result.now o.releases o.calendar o.plans
      c.in-Ok.accepted.row judged in
      rw (reads.keeps.kept clean) (ap (λ k. is_next_month k (frozen_months o.releases)) same
      ∙ judged_follows c.args.now c.args.month c.as_slice.result.now o.releases o.calendar o.plans
      c.in-Ok.accepted.row judged);
  basis = λ clean.
      let reads = c.in_ok-refusal.ensures in
      let o = (g.B.Book.state c.args.book.now).held in
      let judged = rw c.in-Ok.is at (reads.shown clean) in
      let few = judged_few c.args.now c.args.month c.as_slice.result.now o.releases o.calendar o.plans
      c.in-Ok.accepted.row judged.0 in
      rw (reads.keeps.kept clean)
      (IfSome_then c.in-Ok.accepted.basis judged.1 (λ basis is. (is.0, is.1 few)));
}

pub returns-in-Err : goal.returns-in-Err
returns-in-Err g c =
    let old = g.B.Book.state c.args.book.now in
    let o = old.held in
    let now = c.args.now in
    let carry = c.args.carry in
    let refusal = c.in-Err.refusal in
    let reads = c.in_ok-refusal.ensures in
    let listed : c.as_slice.result.now ≡ carry = c.as_slice.ensures in
    let new = g.B.Book.state c.judge.new.book in
    let said : new.is_clean → verdict_of_freeze now c.args.month carry o ≡ Refuses refusal = λ clean.
    let judged : freeze_judged_in now c.args.month carry o ≡ Err refusal =
    ap (λ codes. freeze_judged_in now c.args.month codes o) (sym listed)
    ∙ (rw c.in-Err.is at (reads.shown clean)) in
    ap (freeze_verdict (judged_release now carry o)) judged in
    record {
      serves = refused_where (IsSound o) old new refusal (verdict_of_freeze now c.args.month carry o)
          reads.keeps (λ _. reads.stays) reads.count (λ clean _. inl (said clean));
      answered = λ clean _. ap verdict_reply (sym (said clean));
      cause = tt;
    }

pub returns-in-Ok : goal.returns-in-Ok
returns-in-Ok g c =
    let old = g.B.Book.state c.args.book.now in
    let mid = g.B.Book.state c.judge.new.book in
    let new = g.B.Book.state c.release.new.book in
    let o = old.held in
    let now = c.args.now in
    let carry = c.args.carry in
    let row = c.in-Ok.accepted.row in
    let reads = c.in_ok-refusal.ensures in
    let listed : c.as_slice.result.now ≡ carry = c.as_slice.ensures in
    answers_where_after (IsSound o) (IsSound mid.held) old mid new c.release.result
    (verdict_reply (release_verdict (judged_release now carry mid.held row)))
    (verdict_reply (verdict_of_freeze now c.args.month carry o))
    (with_verdict (release_verdict (judged_release now carry mid.held row)) mid.held)
    (with_verdict (verdict_of_freeze now c.args.month carry o) o)
    reads reads.stays c.release.ensures
    (λ clean.
    let kept = reads.keeps.kept clean in
    let judged : freeze_judged_in now c.args.month carry o ≡ Ok row =
    ap (λ codes. freeze_judged_in now c.args.month codes o) (sym listed)
    ∙ (rw c.in-Ok.is at (reads.shown clean)).0 in
    let verdict : release_verdict (judged_release now carry o row) ≡ verdict_of_freeze now c.args.month carry o =
    ap (freeze_verdict (judged_release now carry o)) (sym judged) in (
      λ sound. subst IsSound (sym kept) sound,
      ap (λ u. verdict_reply (release_verdict (judged_release now carry u row))) kept ∙ ap verdict_reply verdict,
      ap (λ u. with_verdict (release_verdict (judged_release now carry u row)) u) kept
          ∙ ap (λ v. with_verdict v o) verdict,
    ))
