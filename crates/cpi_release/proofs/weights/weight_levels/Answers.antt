use Rattle.std.proofs.Common.{rules, arith, ◌≡◌, ◌++◌, ◌∷◌, []}
use Rattle.cpi_index.specs.Weights.{with_levels}
use Rattle.cpi_release.specs.Releases.{level_at_month}
use Rattle.cpi_release.proofs.PassLemmas.{keeps_more, stays_more}
use Rattle.cpi_release.proofs.LevelLemmas.{made_step}
use Rattle.cpi_release.proofs.InUse.{kept_step}
use Rattle.cpi_release.proofs.weights.weight_levels.Goals as goal

pub loop-weight-preserved : goal.loop-weight-preserved
loop-weight-preserved g c =
    let i = c.loop-weight.weight-index in
    let w = c.weight-item.result in
    let inv = c.loop-weight.invariant in
    let read = c.levels_by.ensures.reads in
    let releases = (g.G.Groups.sources (g.G.Groups.holds c.args.groups.now).held).releases in
    let pushed : c.push.new.self.items ≡ c.loop-weight.rows.items ++ c.in-Ok.levels ∷ [] = search rules in
    record {
      keeps = keeps_more (g.G.Groups.holds c.args.groups.now) (g.G.Groups.holds c.loop-weight.groups)
          (g.G.Groups.holds c.levels_by.new.groups) inv.keeps inv.stays read.keeps;
      stays = stays_more (g.G.Groups.holds c.args.groups.now) (g.G.Groups.holds c.loop-weight.groups)
          (g.G.Groups.holds c.levels_by.new.groups) inv.stays read.keeps (rw c.in-Ok.is at read.stays);
      count = omega (arith, inv.count, read.count);
      own = kept_step c.weights-weights.result.now i w c.loop-weight.rows.items c.push.new.self.items c.in-Ok.levels
          c.loop-weight-test.true c.weight-item.is pushed c.in-Ok.ensures.weight inv.own;
      exact = λ clean sound.
          let was = read.keeps.was_clean clean in
          let shown = rw (c.in-Ok.is, inv.keeps.kept was) at (read.shown clean) in
          made_step (with_levels (level_at_month releases c.args.link) (level_at_month releases c.args.reference))
          c.weights-weights.result.now i w c.loop-weight.rows.items c.push.new.self.items c.in-Ok.levels
          c.loop-weight-test.true c.weight-item.is pushed (shown sound) (inv.exact was sound);
    }

pub returns-in_default-clause-keeps : goal.returns-in_default-clause-keeps
returns-in_default-clause-keeps g c = keeps_more (g.G.Groups.holds c.args.groups.now)
    (g.G.Groups.holds c.loop-weight.groups) (g.G.Groups.holds c.levels_by.new.groups) c.loop-weight.invariant.keeps
    c.loop-weight.invariant.stays c.levels_by.ensures.reads.keeps

pub returns-in_default-push-clause-keeps : goal.returns-in_default-push-clause-keeps
returns-in_default-push-clause-keeps g c = keeps_more (g.G.Groups.holds c.args.groups.now)
    (g.G.Groups.holds c.loop-weight.groups) (g.G.Groups.holds c.levels_by.new.groups) c.loop-weight.invariant.keeps
    c.loop-weight.invariant.stays c.levels_by.ensures.reads.keeps

pub returns-in_default-push-clause-stays : goal.returns-in_default-push-clause-stays
returns-in_default-push-clause-stays g c = λ _. stays_more (g.G.Groups.holds c.args.groups.now)
    (g.G.Groups.holds c.loop-weight.groups) (g.G.Groups.holds c.levels_by.new.groups) c.loop-weight.invariant.stays
    c.levels_by.ensures.reads.keeps (rw c.in-Ok.is at c.levels_by.ensures.reads.stays)
