use Rattle.std.proofs.Common.{take, drop, arith, length-drop}
use Rattle.std.proofs.Math.Seq.{take-add}
use Rattle.std.proofs.lemmas.List.{take_rest}
use Rattle.std.proofs.KnownBytes.{Appends-trans}
use Rattle.cpi_wire.proofs.write.write_whole.Goals as goal

pub loop-at-preserved : goal.loop-at-preserved
loop-at-preserved g c =
    let text = c.args.text.now in
    let at = c.loop-at.at in
    let room = rw (take_rest, length-drop) at c.in-Ok.ensures.bound in
    record {
      in_range = omega (arith, room);
      written = rw take-add (Appends-trans _ _ _ (take at text)
          (take c.in-Ok.n (drop at text)) c.loop-at.invariant.written (rw take_rest at c.in-Ok.ensures.bytes));
    }
