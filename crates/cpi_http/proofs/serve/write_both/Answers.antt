use Rattle.std.proofs.Common.{◌≡◌, ◌<◌, ◌+◌, ℕ, List, ◌++◌, Option, length, take, sym, subst, arith, length-append}
use Rattle.std.proofs.Math.Seq.{take-append-add}
use Rattle.std.proofs.KnownBytes.{Appends-trans}
use Rattle.std.proofs.lemmas.Result.{IfErr-weaker}
use Rattle.std.specs.Io.KnownBytes.{Appends}
use Rattle.cpi_wire.specs.declared.fault.WireFault.{WireFault}
use Rattle.cpi_wire.specs.declared.fault.WireFault.TheVariants.{Write}
use Rattle.cpi_http.specs.Served.{SendFails}
use Rattle.cpi_http.proofs.serve.write_both.Goals as goal

-- the first text was written, and a part of the second
second_fails : (e : WireFault) (old mid new : Option (List ℕ)) (front rest : List ℕ) → Appends old mid front
    → (e ≡ Write) × (count : ℕ) × (count < length rest) × Appends mid new (take count rest)
    → SendFails old new (front ++ rest) e
second_fails e old mid new front rest whole part =
    let count = part.1 in
    let short : length front + count < length (front ++ rest) = rw length-append (omega (arith, part.2)) in
    subst (SendFails old new (front ++ rest)) (sym part.0) (
      length front + count,
      short,
      subst (Appends old new) (sym (take-append-add front rest count))
          (Appends-trans old mid new front (take count rest) whole part.3),
    )

pub returns-clause-part : goal.returns-clause-part
returns-clause-part g c =
    let front = c.args.front.now in
    let rest = c.args.rest.now in
    IfErr-weaker c.write_whole-2.result _ _
    (λ e part. second_fails e _ (g.W.Write.contents c.write_whole.new.writer) _ front rest
    c.in_ok-write_whole.ensures.whole part)
    c.write_whole-2.ensures.part
