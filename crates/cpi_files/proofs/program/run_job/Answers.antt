use Rattle.std.proofs.Common.{◌≡◌, Some, rules}
use Rattle.cpi_app.specs.declared.job.Job.TheVariants.{Replay}
use Rattle.cpi_files.proofs.Tables.{table_of}
use Rattle.cpi_files.proofs.program.run_job.Goals as goal

-- a table
pub returns-in-Table : goal.returns-in-Table
returns-in-Table g c =
    let folder = g.W.Folder.Folder in
    let month = c.in-Table.month.now in
    let asked = c.asked_table in
    rw c.in-Table.is (table_of _ _ _ _ folder g.W.Output.Write.contents _ month _ _ _ _ asked.result
    asked.ensures.asked asked.ensures.fault c.table_at.ensures.none c.table_at.ensures.some)

-- a replay over a file
pub returns-in-Replay-default-Some : goal.returns-in-Replay-default-Some
returns-in-Replay-default-Some g c =
    let given = c.in-Replay-default-Some in
    let is : c.args.job.now ≡ Replay given.zone (Some given.path) = search rules in
    let done = rw is at c.replay_at-left.ensures in
    rw is (c.replay_at-left.result.1, c.as_status-in-Replay-default-Some.ensures, done)

pub returns-in-Serve : goal.returns-in-Serve
returns-in-Serve g c = rw c.in-Serve.is (c.serve_of-left.result.1, c.as_status-in-Serve.ensures, c.serve_of-left.ensures)
