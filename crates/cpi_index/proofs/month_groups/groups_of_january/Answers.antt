use Rattle.std.proofs.Common.{◌≡◌, [], subst, ap, ◌∙◌}
use Rattle.std.specs.Prelude.{IfOk, filter}
use Rattle.cpi_index.specs.Sample.{is_in_sample, bases_in_year}
use Rattle.cpi_index.specs.Month.{rows_of_month}
use Rattle.cpi_index.specs.MonthGroups.{AreGroups}
use Rattle.cpi_index.proofs.InSamples.{own_before}
use Rattle.cpi_index.proofs.Kept.{bases_rise}
use Rattle.cpi_index.proofs.month_groups.groups_of_january.Goals as goal

pub returns : goal.returns
returns c = λ prev_rises link_rises frozen_rises.
    let plan = c.args.plan.now in
    let prev = c.args.prev.now in
    let link = c.args.link.now in
    let frozen = c.args.frozen.now in
    let bases = bases_in_year plan prev link in
    let same : rows_of_month (filter (is_in_sample plan) c.deref.result.now) [] frozen ≡
    rows_of_month bases bases frozen =
    ap (λ bs. rows_of_month (filter (is_in_sample plan) bs) [] frozen)
    (c.deref.ensures.value ∙ c.in_ok-bases.ensures.bases)
    ∙ own_before bases frozen (bases_rise plan prev link prev_rises link_rises) in
    subst (λ rows. IfOk c.groups_of.result (λ v. AreGroups plan rows v.items)) same c.groups_of.ensures
