use Rattle.std.proofs.Common.{◌≡◌, Result, Ok, Err, IfOk, subst, sym, ◌∙◌, inl}
use Rattle.cpi_office.proofs.Calls.{read_endures}
use Rattle.cpi_office.proofs.Tabled.{printed_found}
use Rattle.cpi_office.proofs.tables.table.Goals as goal

if_ok : {A E : Type 0} (r : Result A E) (x : A) (P : A → Type 0) → r ≡ Ok x → IfOk r P → P x
if_ok (Ok y) x P e p = let is : y ≡ x = cc in subst P is p
if_ok (Err f) x P e p = let no : Err f ≡ Ok x = e in cc

pub returns-in-Some : goal.returns-in-Some
returns-in-Some g c =
    let reads = c.in_ok-read_table.ensures in
    let shown = if_ok c.in_ok-read_table.field-0 c.in_ok-printed_table.field-0 _ c.in_ok-printed_table.was in
    record {
      serves = record {
        was_clean = reads.keeps.was_clean;
        served = λ clean. inl (
          printed_found c.args.form c.args.month _ c.in-Some.printed_table
              (sym c.in-Some.is ∙ shown (reads.shown clean)),
          reads.keeps.kept clean,
        );
        count = reads.count;
        endures = read_endures _ _ _ reads.keeps reads.stays;
        crash = λ was kept o left. inl (reads.keeps.crash was kept o left);
      };
      answered = λ clean. printed_found c.args.form c.args.month _ c.in-Some.printed_table
          (sym c.in-Some.is ∙ shown (reads.shown clean));
      cause = tt;
    }
