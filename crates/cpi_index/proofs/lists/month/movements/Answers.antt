use Rattle.std.proofs.Common.{rules, arith, ◌≡◌, ◌+◌, ◌++◌, ◌∷◌, [], not, length, sym, ap, ◌∙◌, below_more}
use Rattle.std.specs.Prelude.{slice_index_or}
use Rattle.std.proofs.lemmas.List.{get_or_append_left, get_or_push, length_push}
use Rattle.cpi_index.specs.Aggregate.{movement_now, movement_before}
use Rattle.cpi_index.specs.declared.movement.Movement.{Movement}
use Rattle.cpi_index.specs.Places.{is_out_of_range, is_out_of_range_at, sample_at}
use Rattle.cpi_index.proofs.Samples.{sample_read, none_more}
use Rattle.cpi_index.proofs.lists.month.movements.Goals as goal

pub loop-place-preserved : goal.loop-place-preserved
loop-place-preserved c =
    let i = c.loop-place.place in
    let gs = c.args.groups.now in
    let ms = c.loop-place.movements.items in
    let m = c.in-Some.movement in
    let inv = c.loop-place.invariant in
    let read : sample_at gs i ≡ c.deref.result.now =
    sample_read gs i c.index-groups-place.result c.loop-place-test.true c.index-groups-place.is
    ∙ sym c.deref.ensures.value in
    let pushed : c.push.new.self.items ≡ ms ++ m ∷ [] = search rules in
    record {
      count = ap length pushed ∙ length_push ms m ∙ ap (λ n. n + 1) inv.count;
      in_limits = none_more (is_out_of_range_at gs) i inv.in_limits
          (ap is_out_of_range read ∙ ap not c.in-Some.ensures.0);
      each = λ k d h. below_more
          (λ k. (d : Movement) → ((slice_index_or c.push.new.self.items k d).current ≡ movement_now (sample_at gs k))
          × ((slice_index_or c.push.new.self.items k d).previous ≡ movement_before (sample_at gs k)))
          i
          (λ k h d.
          let e : slice_index_or c.push.new.self.items k d ≡ slice_index_or ms k d =
          ap (λ z. slice_index_or z k d) pushed ∙ get_or_append_left ms (m ∷ []) d k
          (omega (arith, h, inv.count)) in
          (ap (λ z. z.current) e ∙ (inv.each k d h).0, ap (λ z. z.previous) e ∙ (inv.each k d h).1))
          (λ d.
          let e : slice_index_or c.push.new.self.items i d ≡ m = ap (λ z. slice_index_or z i d) pushed
          ∙ get_or_push ms m d i inv.count in (
            ap (λ z. z.current) e ∙ c.in-Some.ensures.1 ∙ ap movement_now (sym read),
            ap (λ z. z.previous) e
                ∙ c.in-Some.ensures.2 ∙ ap movement_before (sym read),
          ))
          k h d;
    }
