use Rattle.std.proofs.Common.{◌≡◌, ◌<◌, IsOk, IsErrOf, arith, rules, inl, Ok, Err}
use Rattle.std.proofs.lemmas.Result.{err_from_is_err_and}
use Rattle.cpi_files.proofs.Serving.{book_left, book_open, book_early}
use Rattle.cpi_files.proofs.serve.serve_in_cabinet.Goals as goal

-- no book was opened
pub returns-in_err-outcome : goal.returns-in_err-outcome
returns-in_err-outcome g c =
    let told = c.from_residual in
    let p = err_from_is_err_and told.result told.ensures.1 in
    rw (p.1, p.2) (inl c.in_err-outcome.ensures.refused)

-- serving ended before its time
pub returns-in_err-rest : goal.returns-in_err-rest
returns-in_err-rest g c =
    let told = c.from_residual-in_err-rest in
    let p = err_from_is_err_and told.result told.ensures.1 in
    let is : c.in_ok-outcome.outcome ≡ Err c.in_err-rest.field-0.0 = search rules in
    let opens = g.A.Address.opens c.args.job.address.now in
    rw (p.1, p.2) (book_early g.C.Cabinet g.C.Medium.Disk g.A.Open.Listener.meets opens c.args.job.desk.now
    c.args.job.listener c.args.job.limit c.args.cabinet.now c.job_in_cabinet.new.cabinet _ _ _ c.in_ok-outcome.closed
    c.in_err-rest.field-0.0 (rw is at c.in_ok-outcome.ensures.done))

-- the files couldn't be closed
pub returns-in_err-closed : goal.returns-in_err-closed
returns-in_err-closed g c =
    let told = c.from_residual-in_err-closed in
    let p = err_from_is_err_and told.result told.ensures.1 in
    let is : c.in_ok-outcome.outcome ≡ Ok c.in_ok-rest.rest = search rules in
    let none : c.in_ok-rest.rest.left ≡ 0 = omega arith in
    let failed : IsErrOf c.in_ok-outcome.closed c.in_err-closed.field-0.0 = search rules in
    let opens = g.A.Address.opens c.args.job.address.now in
    rw (p.1, p.2) (book_open g.C.Cabinet g.C.Medium.Disk g.A.Open.Listener.meets opens c.args.job.desk.now
    c.args.job.listener c.args.job.limit c.args.cabinet.now c.job_in_cabinet.new.cabinet _ _ _ c.in_ok-outcome.closed
    c.in_ok-rest.rest c.in_err-closed.field-0.0 (rw is at c.in_ok-outcome.ensures.done) none failed)

-- some connections are left
pub returns-then-rest-gt0 : goal.returns-then-rest-gt0
returns-then-rest-gt0 g c =
    let is : c.in_ok-outcome.outcome ≡ Ok c.in_ok-rest.rest = search rules in
    let some : 0 < c.in_ok-rest.rest.left = c.if-rest-gt0.true in
    let opens = g.A.Address.opens c.args.job.address.now in
    book_left g.C.Cabinet g.C.Medium.Disk g.A.Open.Listener.meets opens c.args.job.desk.now c.args.job.listener
    c.args.job.limit c.args.cabinet.now c.job_in_cabinet.new.cabinet _ _ _ c.in_ok-outcome.closed c.in_ok-rest.rest
    (rw is at c.in_ok-outcome.ensures.done) (λ none. absurd (omega (arith, some, none)))

-- none is left
pub returns : goal.returns
returns g c =
    let is : c.in_ok-outcome.outcome ≡ Ok c.in_ok-rest.rest = search rules in
    let well : IsOk c.in_ok-outcome.closed = search rules in
    let opens = g.A.Address.opens c.args.job.address.now in
    book_left g.C.Cabinet g.C.Medium.Disk g.A.Open.Listener.meets opens c.args.job.desk.now c.args.job.listener
    c.args.job.limit c.args.cabinet.now c.job_in_cabinet.new.cabinet _ _ _ c.in_ok-outcome.closed c.in_ok-rest.rest
    (rw is at c.in_ok-outcome.ensures.done) (λ none. well)
