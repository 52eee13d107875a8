use Rattle.std.proofs.Common.{rules, ◌≡◌, None, sym, ap, subst, ◌∙◌}
use Rattle.cpi_rows.specs.Keyed.{row_at, IsInOrder}
use Rattle.cpi_release.specs.FrozenMonths.{release_cmp, release_key, frozen_months, revision_to_give}
use Rattle.cpi_store.specs.Office.{Office}
use Rattle.cpi_store.specs.Sound.{IsSound}
use Rattle.cpi_store.proofs.Released.{none_follows}
use Rattle.cpi_office.specs.Freezing.{judged_release, release_verdict, fault_refusal}
use Rattle.cpi_office.proofs.Calls.{refused_where}
use Rattle.std.proofs.lemmas.Result.{IfErr-weaker}
use Rattle.cpi_office.proofs.Making.{all_read, fault_told, fault_answered}
use Rattle.cpi_office.proofs.freeze.release.Goals as goal

pub returns-in-Err : goal.returns-in-Err
returns-in-Err g c =
    let old = g.B.Book.state c.args.book.now in
    let made = c.in-Err.ensures in
    let fault = c.in-Err.fault in
    let wanted = judged_release c.args.now c.args.carry old.held c.args.accepted.row in
    let new = g.B.Book.state c.make.new.book in
    let told = c.answer_fault.ensures in
    record {
      serves = rw told.reply (refused_where (IsSound old.held) old new (fault_refusal fault) (release_verdict wanted)
          made.keeps (λ told. made.stays (all_read fault told)) made.count
          (λ clean sound. fault_told wanted fault (made.made clean sound)));
      answered = λ clean sound. fault_answered wanted fault c.answer_fault.result told.reply told.answered
          (fault_told wanted fault (made.made clean sound));
      cause = IfErr-weaker c.answer_fault.result _ _ (λ cause group is. made.group (group is)) told.cause;
    }

pub put_release-requires : goal.put_release-requires
put_release-requires g c = record {
  new = λ clean sorted.
      let o = (g.B.Book.state c.args.book.now).held in
      let made = c.in-Ok.ensures in
      let was = made.keeps.was_clean clean in
      let kept = made.keeps.kept clean in
      let ordered : IsInOrder release_cmp release_key o.releases =
      subst (λ (u : Office). IsInOrder release_cmp release_key u.releases) kept sorted in
      let month : c.in-Ok.release.month ≡ c.args.accepted.row.month = search rules in
      let revision : c.in-Ok.release.revision ≡ revision_to_give c.args.accepted.row.month (frozen_months o.releases) =
      search rules in
      let none : row_at release_cmp release_key (
        c.args.accepted.row.month,
        revision_to_give c.args.accepted.row.month (frozen_months o.releases),
      ) o.releases ≡ None =
      none_follows c.args.accepted.row.month o.releases ordered (c.requires.next was) in
      subst (λ (u : Office). row_at release_cmp release_key
      (c.in-Ok.release.month, c.in-Ok.release.revision) u.releases ≡ None) (sym kept)
      (ap (λ m. row_at release_cmp release_key (m, c.in-Ok.release.revision) o.releases) month
      ∙ ap (λ r. row_at release_cmp release_key (c.args.accepted.row.month, r) o.releases) revision ∙ none);
}
