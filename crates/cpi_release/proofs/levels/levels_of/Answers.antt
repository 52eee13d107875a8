use Rattle.std.proofs.Common.{rules, arith, ◌≡◌, ◌<◌, ◌++◌, ◌∷◌, [], not, length, get_or, sym, ap, ◌∙◌, refl}
use Rattle.cpi_codes.specs.CodeOrder.{is_code_elementary}
use Rattle.cpi_plan.specs.Sums.{sum_at, weight_under}
use Rattle.cpi_index.specs.Level.{is_level}
use Rattle.cpi_index.specs.Weights.{with_weights}
use Rattle.cpi_index.proofs.WeightLemmas.{count_kept, all_kept, few_weights}
use Rattle.cpi_release.specs.MonthTable.{is_node_out, level_row}
use Rattle.cpi_release.proofs.PassLemmas.{keeps_more, stays_more}
use Rattle.cpi_release.proofs.LevelLemmas.{made_step, find_step, first_out, limit_is, within_is, level_is, row_is}
use Rattle.cpi_release.proofs.LevelLemmas.{level_outside, level_inside, sum_within}
use Rattle.cpi_release.proofs.levels.levels_of.Goals as goal

pub weights_under-requires-clause-elementary : goal.weights_under-requires-clause-elementary
weights_under-requires-clause-elementary g c =
    sym (all_kept is_code_elementary c.args.plan.now.weights c.args.weights.now c.requires.codes)
    ∙ c.nodes-nodes.ensures.kept.elementary

pub weights_under-requires-clause-few : goal.weights_under-requires-clause-few
weights_under-requires-clause-few g c = omega (
  arith,
  count_kept c.args.plan.now.weights c.args.weights.now c.requires.codes,
  few_weights c.args.plan.now c.nodes-nodes.ensures.kept,
)

pub node_weight-weight-requires : goal.node_weight-weight-requires
node_weight-weight-requires g c =
    let plan = c.args.plan.now in
    let i = c.loop-node.node-index in
    let n = c.node-item.result in
    let l : i < length plan.nodes = omega (arith, c.loop-node-test.true, ap length c.nodes-nodes.ensures.value) in
    let is : n ≡ get_or plan.nodes i n = c.node-item.is ∙ ap (λ z. get_or z i n) c.nodes-nodes.ensures.value in
    sum_within plan c.nodes-nodes.ensures.kept c.args.weights.now c.requires.codes i n l is
    (sum_at c.in-Ok.parts n.code) (c.in-Ok.ensures.least n.code) (c.in-Ok.ensures.most n.code)

pub mean-requires : goal.mean-requires
mean-requires g c =
    let n = c.node-item.result in
    let weight : c.node_weight-weight.result ≡ weight_under n.code c.args.weights.now = c.node_weight-weight.ensures
    ∙ c.in-Ok.ensures.sums n.code in
    let sum : c.unwrap_or-sum.result ≡ sum_at c.args.pass.now.sums n.code = search rules in
    omega (arith, weight, sum, c.requires.most n.code)

pub returns-in_default-mean-clause-exact : goal.returns-in_default-mean-clause-exact
returns-in_default-mean-clause-exact g c = λ clean sound late rows s other.
    let plan = c.args.plan.now in
    let ws = c.args.weights.now in
    let i = c.loop-node.node-index in
    let n = c.node-item.result in
    let l : i < length plan.nodes = omega (arith, c.loop-node-test.true, ap length c.nodes-nodes.ensures.value) in
    let is : n ≡ get_or plan.nodes i n = c.node-item.is ∙ ap (λ z. get_or z i n) c.nodes-nodes.ensures.value in
    let within = sum_within plan c.nodes-nodes.ensures.kept ws c.requires.codes i n l is (sum_at c.in-Ok.parts n.code)
    (c.in-Ok.ensures.least n.code) (c.in-Ok.ensures.most n.code) in
    let weight : c.node_weight-weight.result ≡ weight_under n.code ws = c.node_weight-weight.ensures
    ∙ c.in-Ok.ensures.sums n.code in
    let sum : c.unwrap_or-sum.result ≡ sum_at c.args.pass.now.sums n.code = search rules in
    let releases = (g.G.Groups.sources (g.G.Groups.holds c.args.groups.now).held).releases in
    absurd (c.in_default-mean.ensures (limit_is (with_weights plan ws) releases c.args.month rows c.args.pass.now s n
    c.node_weight-weight.result weight c.unwrap_or-sum.result sum
    (omega (arith, c.node_weight-weight.ensures, within.0)) (omega (arith, weight, sum, c.requires.most n.code))))

pub returns-in_default-row-clause-keeps : goal.returns-in_default-row-clause-keeps
returns-in_default-row-clause-keeps g c = keeps_more (g.G.Groups.holds c.args.groups.now)
    (g.G.Groups.holds c.loop-node.groups) (g.G.Groups.holds c.levels_before.new.groups) c.loop-node.invariant.keeps
    c.loop-node.invariant.stays c.levels_before.ensures.keeps

pub returns-in_default-row-clause-exact : goal.returns-in_default-row-clause-exact
returns-in_default-row-clause-exact g c = λ clean sound late rows s other.
    let plan = c.args.plan.now in
    let used = with_weights plan c.args.weights.now in
    let i = c.loop-node.node-index in
    let n = c.node-item.result in
    let inv = c.loop-node.invariant in
    let weight : c.node_weight-weight.result ≡ weight_under n.code c.args.weights.now = c.node_weight-weight.ensures
    ∙ c.in-Ok.ensures.sums n.code in
    let sum : c.unwrap_or-sum.result ≡ sum_at c.args.pass.now.sums n.code = search rules in
    let was = c.levels_before.ensures.keeps.was_clean clean in
    let releases = (g.G.Groups.sources (g.G.Groups.holds c.args.groups.now).held).releases in
    let b = rw (c.in-Ok-levels_before.is, inv.keeps.kept was) at (c.levels_before.ensures.shown clean) in
    let within = within_is used releases c.args.month rows c.args.pass.now s n c.node_weight-weight.result weight
    c.unwrap_or-sum.result c.in-Some.within sum c.in-Some.ensures.1 in
    let level = level_is used releases c.args.month rows c.args.pass.now s n c.node_weight-weight.result weight
    c.in-Some.within c.in-Ok-levels_before.before.link within (b sound late).0 in
    first_out (is_node_out used releases c.args.month rows) c.nodes-nodes.result.now plan.nodes i n
    c.loop-node-test.true c.node-item.is c.nodes-nodes.ensures.value
    (ap (λ z. not (is_level z)) (sym level) ∙ level_outside _ (rw c.in_default-row.is at c.in-Ok-row_of.ensures))
    (inv.exact was sound late rows s).1

pub returns-in_default-push-clause-keeps : goal.returns-in_default-push-clause-keeps
returns-in_default-push-clause-keeps g c = keeps_more (g.G.Groups.holds c.args.groups.now)
    (g.G.Groups.holds c.loop-node.groups) (g.G.Groups.holds c.levels_before.new.groups) c.loop-node.invariant.keeps
    c.loop-node.invariant.stays c.levels_before.ensures.keeps

pub loop-node-preserved : goal.loop-node-preserved
loop-node-preserved g c =
    let plan = c.args.plan.now in
    let used = with_weights plan c.args.weights.now in
    let i = c.loop-node.node-index in
    let n = c.node-item.result in
    let nodes = c.nodes-nodes.result.now in
    let inv = c.loop-node.invariant in
    let weight : c.node_weight-weight.result ≡ weight_under n.code c.args.weights.now = c.node_weight-weight.ensures
    ∙ c.in-Ok.ensures.sums n.code in
    let sum : c.unwrap_or-sum.result ≡ sum_at c.args.pass.now.sums n.code = search rules in
    let flag : c.unwrap_or-imputed.result ≡ sum_at c.args.pass.now.imputed n.code = search rules in
    let releases = (g.G.Groups.sources (g.G.Groups.holds c.args.groups.now).held).releases in
    let pushed : c.push.new.self.items ≡ c.loop-node.levels.items ++ c.in-Some-row.level ∷ [] = search rules in
    record {
      keeps = keeps_more (g.G.Groups.holds c.args.groups.now) (g.G.Groups.holds c.loop-node.groups)
          (g.G.Groups.holds c.levels_before.new.groups) inv.keeps inv.stays c.levels_before.ensures.keeps;
      stays = stays_more (g.G.Groups.holds c.args.groups.now) (g.G.Groups.holds c.loop-node.groups)
          (g.G.Groups.holds c.levels_before.new.groups) inv.stays c.levels_before.ensures.keeps
          (rw c.in-Ok-levels_before.is at c.levels_before.ensures.stays);
      count = omega (arith, inv.count, c.levels_before.ensures.count);
      exact = λ clean sound late rows s.
          let was = c.levels_before.ensures.keeps.was_clean clean in
          let b = rw (c.in-Ok-levels_before.is, inv.keeps.kept was) at (c.levels_before.ensures.shown clean) in
          let before = c.in-Ok-levels_before.before in
          let within = within_is used releases c.args.month rows c.args.pass.now s n c.node_weight-weight.result
          weight c.unwrap_or-sum.result c.in-Some.within sum c.in-Some.ensures.1 in
          let level = level_is used releases c.args.month rows c.args.pass.now s n c.node_weight-weight.result weight
          c.in-Some.within before.link within (b sound late).0 in
          let made = rw c.in-Some-row.is at c.in-Ok-row_of.ensures in
          let row = made.1 ∙ row_is used releases c.args.month rows c.args.pass.now s n c.node_weight-weight.result
          weight c.in-Some.within before.link before.month c.unwrap_or-imputed.result before.year _ within
          (b sound late).0 (b sound late).1 (b sound late).2 flag refl in (
            made_step (level_row used releases c.args.month rows) nodes i n c.loop-node.levels.items
                c.push.new.self.items c.in-Some-row.level c.loop-node-test.true c.node-item.is pushed row
                (inv.exact was sound late rows s).0,
            find_step (is_node_out used releases c.args.month rows) nodes i n c.loop-node-test.true c.node-item.is
                (ap (λ z. not (is_level z)) (sym level) ∙ level_inside _ made.0) (inv.exact was sound late rows s).1,
          );
    }
