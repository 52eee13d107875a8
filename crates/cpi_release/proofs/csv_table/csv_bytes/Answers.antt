use Rattle.std.proofs.Common.{rules, subst, arith}
use Rattle.std.proofs.lemmas.Grind.{common_steps}
use Rattle.cpi_release.specs.CsvTable.{fields_of_level}
use Rattle.cpi_release.specs.Texts.{AreTexts}
use Rattle.cpi_release.proofs.Texts.{records_more}
use Rattle.cpi_release.proofs.csv_table.csv_bytes.Goals as goal

pub loop-level-preserved : goal.loop-level-preserved
loop-level-preserved c =
    let texts = subst AreTexts c.in_ok-row.ensures.fields c.in_ok-row.ensures.texts in
    record {
      rows = grind (arith, common_steps);
      fields = search rules;
      clean = search rules;
      text = records_more fields_of_level c.args.levels.now c.loop-level.level-index c.level-item.result
          c.loop-level-test.true c.level-item.is texts c.loop-level.invariant.text;
      setup = search rules;
    }
