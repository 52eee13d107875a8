use Rattle.std.proofs.Common.{◌≡◌, sym, ap, rules, ℕ, List, [], ◌∷◌, Some, None, true, false}
use Rattle.csv.specs.Records.{fields_of}
use Rattle.cpi_wire.specs.Input.{Record, AreFirst, records_of}
use Rattle.cpi_wire.specs.OnlyRows.{only_record, only_row_of}
use Rattle.cpi_wire.proofs.Reading.{at_front}
use Rattle.cpi_wire.proofs.only_rows.only_row.Goals as goal

no_row : (text : List ℕ) → [] ≡ records_of text → None ≡ only_row_of text
unfolding only_row_of
no_row text all = ap only_record all

one_row : (text : List ℕ) (row : Record) → row ∷ [] ≡ records_of text → Some row ≡ only_row_of text
unfolding only_row_of
one_row text row all = ap only_record all

more_rows : (text : List ℕ) (row other : Record) → AreFirst (row ∷ other ∷ []) text → None ≡ only_row_of text
unfolding only_row_of
more_rows text row other first = ap only_record (sym first.1)

pub returns-then-not-branch : goal.returns-then-not-branch
returns-then-not-branch c =
    let none : c.in_ok-next_row.field-0 ≡ false = search rules in
    no_row c.args.text.now ((rw none at c.in_ok-next_row.ensures)
    (Some c.args.text.now) [] c.record_reader-reader.ensures)

pub returns-then-branch : goal.returns-then-branch
returns-then-branch c =
    let f = fields_of c.next_row.new.row in
    let g = fields_of c.next_row-2.new.row in
    let one : c.in_ok-next_row.field-0 ≡ true = search rules in
    let two : c.in_ok-next_row-2.field-0 ≡ true = search rules in
    let at = (rw one at c.in_ok-next_row.ensures) (Some c.args.text.now) [] c.record_reader-reader.ensures in
    let next = (rw two at c.in_ok-next_row-2.ensures) (Some c.args.text.now) (f ∷ []) at in
    more_rows c.args.text.now f g (at_front _ (Some c.args.text.now) (f ∷ g ∷ []) c.next_row-2.new.reader next)

pub returns : goal.returns
returns c =
    let f = fields_of c.next_row.new.row in
    let one : c.in_ok-next_row.field-0 ≡ true = search rules in
    let none : c.in_ok-next_row-2.field-0 ≡ false = search rules in
    let at = (rw one at c.in_ok-next_row.ensures) (Some c.args.text.now) [] c.record_reader-reader.ensures in
    one_row c.args.text.now f ((rw none at c.in_ok-next_row-2.ensures) (Some c.args.text.now) (f ∷ []) at)
