use Rattle.std.proofs.Common.{Some, None, sym, rules, arith}
use Rattle.std.proofs.lemmas.Slice.Eq.{text_from_reads}
use Rattle.cpi_codes.specs.CodeSpelling.{spelling}
use Rattle.cpi_codes.proofs.CodeSpelling.{arm}
use Rattle.cpi_codes.specs.declared.spelling.Parts.{Parts}
use Rattle.cpi_codes.proofs.spelling.read_below_class.Goals as goal

pub returns-in_ok-two-in-46 : goal.returns-in_ok-two-in-46
returns-in_ok-two-in-46 c =
    let found = c.in_ok-group-in-46 in
    let q : Parts = record {
      division = c.in_ok-two-in-46.field-0;
      group = Some found.group;
      class =
          Some found.class;
      subclass = Some found.subclass;
      aggregate = None;
    } in
    arm q c.args.text.now c.numbered.result c.numbered.ensures (search rules)
    (sym (text_from_reads c.args.text.now (spelling q) (omega arith) (search rules)))

pub returns-in_ok-two-in-46-2-2 : goal.returns-in_ok-two-in-46-2-2
returns-in_ok-two-in-46-2-2 c =
    let found = c.in_ok-group-in-46-2 in
    let q : Parts = record {
      division = c.in_ok-two-in-46-2.field-0;
      group = Some found.group;
      class =
          Some found.class;
      subclass = Some found.subclass;
      aggregate = Some c.in_ok-two-in-46-2-2.field-0;
    } in
    arm q c.args.text.now c.numbered-in-46-2.result c.numbered-in-46-2.ensures (search rules)
    (sym (text_from_reads c.args.text.now (spelling q) (omega arith) (search rules)))
