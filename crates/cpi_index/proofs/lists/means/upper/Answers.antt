use Rattle.std.proofs.Common.{◌≡◌, ◌<◌, ◌≤◌, ◌++◌, ◌∷◌, [], ℕ, true, length, get_or, take, map, sym, ap, ◌∙◌, arith}
use Rattle.std.proofs.Common.{rules}
use Rattle.std.proofs.lemmas.List.{map_more, take_all}
use Rattle.cpi_codes.specs.CodeOrder.{is_code_elementary}
use Rattle.cpi_codes.specs.Rounding.{rounded_quotient}
use Rattle.cpi_codes.specs.declared.codes.Code.{Code}
use Rattle.cpi_plan.specs.Sums.{sum_at, weight_under, is_node}
use Rattle.cpi_index.specs.Means.{are_indices_in, index_of, upper_row, weighted_under}
use Rattle.cpi_index.specs.Weights.{are_weights_in, with_weights}
use Rattle.cpi_index.specs.declared.index.NodeIndex.{NodeIndex}
use Rattle.cpi_index.proofs.WeightLemmas.{few_weights, count_kept, order_kept, all_kept, nodes_kept, indices_kept}
use Rattle.cpi_index.proofs.WeightLemmas.{node_is}
use Rattle.cpi_index.proofs.Ordered.{means_done}
use Rattle.cpi_index.proofs.lists.means.upper.Goals as goal

abbrev row_with : Code → ℕ → NodeIndex
row_with code index = record { code = code; index = index }

pub weights_under-requires-clause-elementary : goal.weights_under-requires-clause-elementary
weights_under-requires-clause-elementary c =
    let own = c.args.plan.now.weights in
    let ws = c.args.weights.now in
    let same : are_weights_in own ws ≡ true = ap (λ z. are_weights_in z ws) (sym c.weights.ensures.value)
    ∙ sym c.if-not-are_weights_of.ensures in
    sym (all_kept is_code_elementary own ws same) ∙ c.weights.ensures.kept.elementary

pub weights_under-requires-clause-few : goal.weights_under-requires-clause-few
weights_under-requires-clause-few c =
    let own = c.args.plan.now.weights in
    let ws = c.args.weights.now in
    let same : are_weights_in own ws ≡ true = ap (λ z. are_weights_in z ws) (sym c.weights.ensures.value)
    ∙ sym c.if-not-are_weights_of.ensures in
    omega (arith, count_kept own ws same, few_weights c.args.plan.now c.weights.ensures.kept)

pub weighted_sums-requires : goal.weighted_sums-requires
weighted_sums-requires c =
    let own = c.args.plan.now.weights in
    let ws = c.args.weights.now in
    let xs = c.args.elementary.now in
    let kept = c.weights.ensures.kept in
    let same : are_weights_in own ws ≡ true = ap (λ z. are_weights_in z ws) (sym c.weights.ensures.value)
    ∙ sym c.if-not-are_weights_of.ensures in
    let each : are_indices_in own xs ≡ true = ap (λ z. are_indices_in z xs)
    (sym c.weights-else-not-are_weights_of.ensures.value) ∙ sym c.if-not-are_indices_of.ensures in
    record {
      order = order_kept own ws same kept.weights_in_order;
      codes = sym (all_kept is_code_elementary own ws same) ∙ kept.elementary;
      few = omega (arith, count_kept own ws same, few_weights c.args.plan.now kept);
      each = sym (indices_kept own ws same xs) ∙ each;
    }

pub mean-index-requires : goal.mean-index-requires
mean-index-requires c =
    let plan = c.args.plan.now in
    let ws = c.args.weights.now in
    let i = c.loop-node.node-index in
    let n = c.node-item.result in
    let kept = c.nodes-nodes.ensures.kept in
    let l : i < length plan.nodes = omega (arith, c.loop-node-test.true, ap length c.nodes-nodes.ensures.value) in
    let is : n ≡ get_or plan.nodes i n = c.node-item.is ∙ ap (λ z. get_or z i n) c.nodes-nodes.ensures.value in
    let same : are_weights_in plan.weights ws ≡ true = ap (λ z. are_weights_in z ws) (sym c.weights.ensures.value)
    ∙ sym c.if-not-are_weights_of.ensures in
    let node : is_node ws n.code ≡ true = sym (nodes_kept plan.weights ws same n.code) ∙ node_is plan kept i n l is in
    let sum : c.unwrap_or-sum.result ≡ sum_at c.in-Ok-weighted_sums.sums n.code = search rules in
    let weight : c.unwrap_or-weight.result ≡ sum_at c.in-Ok.parts n.code = search rules in
    record {
      limits = (
        omega (arith, weight, c.in-Ok.ensures.least n.code node),
        omega (arith, weight, c.in-Ok.ensures.most n.code),
      );
      least = omega (arith, sum, weight, c.in-Ok.ensures.sums n.code, c.in-Ok-weighted_sums.ensures.least n.code);
      most = omega (arith, sum, weight, c.in-Ok.ensures.sums n.code, c.in-Ok-weighted_sums.ensures.most n.code);
    }

pub loop-node-preserved : goal.loop-node-preserved
loop-node-preserved c =
    let ws = c.args.weights.now in
    let xs = c.args.elementary.now in
    let i = c.loop-node.node-index in
    let n = c.node-item.result in
    let sum : c.unwrap_or-sum.result ≡ sum_at c.in-Ok-weighted_sums.sums n.code = search rules in
    let weight : c.unwrap_or-weight.result ≡ sum_at c.in-Ok.parts n.code = search rules in
    let f = upper_row (with_weights c.args.plan.now ws) xs in
    let ns = c.nodes-nodes.result.now in
    let value : c.mean-index.result ≡ rounded_quotient (weighted_under (index_of xs) n.code ws)
    (weight_under n.code ws) =
    c.mean-index.ensures
    ∙ ap (λ z. rounded_quotient z c.unwrap_or-weight.result) (sum ∙ c.in-Ok-weighted_sums.ensures.sums n.code)
    ∙ ap (λ z. rounded_quotient (weighted_under (index_of xs) n.code ws) z) (weight ∙ c.in-Ok.ensures.sums n.code) in
    let row = row_with n.code c.mean-index.result in
    let same : row ≡ f (get_or ns i n) = ap (row_with n.code) value ∙ ap f c.node-item.is in
    let pushed : c.push.new.self.items ≡ c.loop-node.indices.items ++ row ∷ [] = search rules in
    pushed ∙ ap (λ z. z ++ row ∷ []) c.loop-node.invariant ∙ ap (λ z. map f (take i ns) ++ z ∷ []) same
    ∙ sym (map_more f ns i n c.loop-node-test.true)

pub returns-clause-means : goal.returns-clause-means
returns-clause-means c =
    let i = c.loop-node.node-index in
    let f = upper_row (with_weights c.args.plan.now c.args.weights.now) c.args.elementary.now in
    let count : length c.args.plan.now.nodes ≤ i =
    omega (arith, c.loop-node-test.false, ap length c.nodes-nodes.ensures.value) in
    λ _ _. c.loop-node.invariant ∙ ap (λ z. map f (take i z)) c.nodes-nodes.ensures.value
    ∙ ap (map f) (take_all i c.args.plan.now.nodes count)

pub returns-clause-order : goal.returns-clause-order
returns-clause-order c =
    means_done (with_weights c.args.plan.now c.args.weights.now) c.nodes-nodes.ensures.kept.nodes_in_order
    c.args.elementary.now c.loop-node.indices.items c.nodes-nodes.result.now c.loop-node.node-index
    c.nodes-nodes.ensures.value (omega (arith, c.loop-node-test.false)) c.loop-node.invariant
