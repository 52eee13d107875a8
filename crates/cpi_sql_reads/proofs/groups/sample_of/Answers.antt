use Rattle.std.proofs.Common.{◌≡◌, ℕ, None, Some, Option, refl, ap, ◌∙◌}
use Rattle.std.specs.Option.{option_copied}
use Rattle.sqlite.specs.Held.{state}
use Rattle.sqlite.specs.Tree.{Trees}
use Rattle.cpi_codes.specs.Month.{year_of}
use Rattle.cpi_plan.specs.Plan.{Plan}
use Rattle.cpi_rows.specs.Keyed.{row_by_number}
use Rattle.cpi_release.specs.GroupCalls.{Sources}
use Rattle.cpi_release.specs.CachedSamples.{AreSamplesCached, Samples, kept_month}
use Rattle.cpi_store.specs.Sources.{office_sources}
use Rattle.cpi_store.specs.Office.{Office}
use Rattle.cpi_sql_rows.specs.Lists.{office_in}
use Rattle.cpi_sql_reads.specs.Samples.{AreSamplesOf, SamplesTaken}
use Rattle.cpi_sql_reads.proofs.groups.sample_of.Goals as goal

-- samples of the tables are those of the office in them
are_cached : (trees : Trees) (k : Option Samples) → AreSamplesOf trees k
    → AreSamplesCached (office_sources (office_in trees)) k
are_cached trees None stand = tt
are_cached trees (Some k) stand = stand.0

-- the types took the rows that the samples of the month were made from
are_taken : (trees : Trees) (k : Option Samples) (month : ℕ) → AreSamplesOf trees k → kept_month k ≡ Some month
    → SamplesTaken month trees
are_taken trees None month stand is = absurd (cc)
are_taken trees (Some k) month stand is = let same : k.month ≡ month = cc in rw same at stand.1

pub returns-in-Some-clause-read : goal.returns-in-Some-clause-read
returns-in-Some-clause-read g c = λ clean has is cached stood stand fit late.
    let trees = (state g.S.Store c.args.conn.now).now.trees in
    let s : Sources = office_sources (office_in trees) in
    let year = year_of c.args.month in
    let plan : option_copied c.plan_of-plan.result ≡ row_by_number (λ (p : Plan). p.year) year s.plans =
    c.plan_of-plan.ensures ∙ ap (λ (o : Office). row_by_number (λ (p : Plan). p.year) year o.plans) stood in
    let found = rw c.in-Some.is at c.in-Ok.ensures.rows in
    found s plan (are_cached trees c.args.samples.now stand) fit late

pub returns-in-Some-clause-taken : goal.returns-in-Some-clause-taken
returns-in-Some-clause-taken g c = λ clean has is cached stood stand.
    let found = rw c.in-Some.is at c.in-Ok.ensures.kept in
    are_taken (state g.S.Store c.args.conn.now).now.trees c.args.samples.now c.args.month stand (found.0 refl)

pub returns-in-Ok-keep-clause-read : goal.returns-in-Ok-keep-clause-read
returns-in-Ok-keep-clause-read g c = λ clean has is cached stood stand fit late.
    let s : Sources = office_sources (office_in (state g.S.Store c.args.conn.now).now.trees) in
    let year = year_of c.args.month in
    let plan : option_copied c.plan_of-plan.result ≡ row_by_number (λ (p : Plan). p.year) year s.plans =
    c.plan_of-plan.ensures ∙ ap (λ (o : Office). row_by_number (λ (p : Plan). p.year) year o.plans) stood in
    c.in-Ok-keep.ensures.rows s plan (c.in_ok-groups.ensures.read clean has is cached stood) fit late
