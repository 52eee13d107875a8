use Rattle.cpi_office.specs.Calls.{reply_of}
use Rattle.cpi_office.proofs.NonInterferenceOfRuns.{serves_sound, serves_table}
use Rattle.cpi_office.proofs.OneChange.{serves_one}
use Rattle.cpi_office.proofs.office.Office.handle.Goals as goal

pub returns-clause-sound : goal.returns-clause-sound
returns-clause-sound g c =
    serves_sound (g.B.Book.state c.args.self.now.book) (g.B.Book.state c.answer.new.self.book)
    (reply_of c.answer.result) _
    (record { now = c.args.now; caller = c.args.caller; request = c.args.request }) c.answer.ensures.serves

pub returns-clause-tables : goal.returns-clause-tables
returns-clause-tables g c =
    rw c.reply_of.ensures
    (serves_table (g.B.Book.state c.args.self.now.book) (g.B.Book.state c.answer.new.self.book)
    (reply_of c.answer.result)
    (record { now = c.args.now; caller = c.args.caller; request = c.args.request }) c.answer.ensures.serves)

pub returns-clause-one_row : goal.returns-clause-one_row
returns-clause-one_row g c =
    serves_one (g.B.Book.state c.args.self.now.book) (g.B.Book.state c.answer.new.self.book)
    (reply_of c.answer.result)
    (record { now = c.args.now; caller = c.args.caller; request = c.args.request }) c.answer.ensures.serves
