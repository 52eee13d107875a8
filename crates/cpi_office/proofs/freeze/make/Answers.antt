use Rattle.std.proofs.Common.{◌≡◌, IfOk, Option, sym, ap, ◌∙◌, subst, arith}
use Rattle.std.proofs.lemmas.Result.{IfErr-weaker}
use Rattle.std.specs.Option.{option_copied}
use Rattle.cpi_plan.specs.Plan.{Plan}
use Rattle.cpi_release.specs.CachedSamples.{IsFit}
use Rattle.cpi_release.specs.FrozenMonths.{frozen_months, plan_for}
use Rattle.cpi_release.specs.declared.release.Release.{Release}
use Rattle.cpi_release.specs.GroupCalls.{Sources}
use Rattle.cpi_release.specs.Releasing.{Freeze, fault_of, release_of_month}
use Rattle.cpi_store.specs.Office.{quotes_of_month}
use Rattle.cpi_store.specs.Sources.{office_sources}
use Rattle.cpi_store.proofs.History.{quotes_by_series, sources_fit}
use Rattle.cpi_release.proofs.PassLemmas.{keeps_more, stays_more}
use Rattle.cpi_office.specs.Freezing.{frozen_with}
use Rattle.cpi_office.proofs.Making.{made_is, office_stays, asked_for, asked_back, moved_to}
use Rattle.cpi_office.proofs.freeze.make.Goals as goal

pub returns : goal.returns
returns g c =
    let state = g.B.Book.state in
    let old = state c.args.book.now in
    let mid = state c.month_rows.new.self in
    let new = state c.compute_by_group.new.groups in
    let o = old.held in
    let row = c.args.accepted.row in
    let stored = c.in-Ok.ensures.reads in
    let groups = c.compute_by_group.ensures in
    let one = g.met.B.Book.groups_are c.month_rows.new.self in
    let two = g.met.B.Book.groups_are c.compute_by_group.new.groups in
    let made = g.met.B.Book.groups_keep c.month_rows.new.self c.compute_by_group.new.groups groups.keeps in
    let month : c.month-month.result ≡ row.month = c.month-month.ensures in
    let clean0 = λ (clean : new.is_clean). stored.keeps.was_clean (made.was_clean clean) in
    let based = λ (clean : new.is_clean). rw c.in-Some.is at (c.requires.basis (clean0 clean)) in
    record {
      keeps = keeps_more old mid new stored.keeps stored.stays made;
      stays = λ apart. stays_more old mid new stored.stays made (office_stays one two (groups.stays apart));
      count = omega (arith, stored.count, groups.count, one.failures, two.failures);
      group = IfErr-weaker c.compute_by_group.result _ _
          (λ f less failed. omega (arith, less failed, stored.count, one.failures, two.failures))
          groups.group;
      month = rw month at groups.month;
      revision = λ clean. subst (λ v. IfOk c.compute_by_group.result (λ (r : Release). r.revision ≡ v))
          (based clean).1 groups.revision;
      made = λ clean sound.
          let clean2 = made.was_clean clean in
          let same : mid.held ≡ o = stored.keeps.kept clean2 in
          let wanted : Option Plan = plan_for o.plans (frozen_months o.releases) row.month in
          let frozen : Freeze = frozen_with c.args.now row c.args.carry o in
          let plan : option_copied c.as_ref.result ≡ wanted = c.as_ref.ensures.value ∙ (based clean).0 in
          let rows : c.in-Ok.rows.items ≡ quotes_of_month row.month o =
          stored.shown clean2 (quotes_by_series o sound c.month-month.result) ∙ ap (λ m. quotes_of_month m o) month in
          let asks : Freeze = record {
            month = c.month-month.result;
            revision = c.in-Some.basis.revision;
            frozen_at =
                c.args.now;
            publishes = c.publishes-publishes.result;
            frozen = c.in-Ok.rows.items;
            carry =
                c.into_vec-carry.result.items;
          } in
          let is : asks ≡ frozen = λ n. record {
            month = month n;
            revision = (based clean).1 n;
            frozen_at =
                c.args.now;
            publishes = c.publishes-publishes.ensures n;
            frozen = rows n;
            carry =
                c.into_vec-carry.ensures n;
          } in
          let held = (g.B.Groups.holds c.month_rows.new.self).held in
          let s : Sources = g.B.Groups.sources held in
          let read : s ≡ office_sources o = g.met.B.Book.sources_are c.month_rows.new.self ∙ ap office_sources same in
          let fit = g.met.B.Book.sound_is c.month_rows.new.self
          (subst (λ u. IsFit (office_sources u)) (sym same) (sources_fit o sound)) in
          let next = c.requires.next (clean0 clean) in
          let asked = asked_back s (office_sources o) (option_copied c.as_ref.result) wanted asks frozen read plan is
          (asked_for o sound c.args.now row c.args.carry next) in
          made_is (fault_of wanted o.releases frozen) (release_of_month wanted o.releases frozen)
          c.compute_by_group.result
          (moved_to s (office_sources o) (option_copied c.as_ref.result) wanted asks frozen
          c.compute_by_group.result read plan is (groups.exact (two.clean clean) fit asked));
    }
