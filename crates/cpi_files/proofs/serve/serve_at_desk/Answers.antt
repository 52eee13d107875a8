use Rattle.std.proofs.Common.{◌≡◌, ◌<◌, arith, rules, Some, Ok, Err}
use Rattle.std.proofs.lemmas.Result.{err_from_is_err_and}
use Rattle.cpi_files.proofs.Serving.{first_stands, first_ends, next_stands, next_ends, next_fewer, all_served}
use Rattle.cpi_files.proofs.serve.serve_at_desk.Goals as goal

-- serving ended with the first book
pub returns-in_err-rest : goal.returns-in_err-rest
returns-in_err-rest g c =
    let told = c.from_residual in
    let p = err_from_is_err_and told.result told.ensures.1 in
    let is : c.serve_in_cabinet.result ≡ Err c.in_err-rest.field-0.0 = search rules in
    let opens = g.A.Address.opens c.args.address.now in
    rw (p.1, p.2) (first_ends g.C.Cabinet g.C.Medium.Disk g.A.Open.Listener.meets opens c.args.desk.now c.args.limit
    c.args.cabinet.now c.in_err-rest.field-0.0 c.serve_in_cabinet.new.cabinet (rw is at c.serve_in_cabinet.ensures))

pub loop-rest-init : goal.loop-rest-init
loop-rest-init g c =
    let is : c.serve_in_cabinet.result ≡ Ok c.in_ok-rest.rest = search rules in
    let opens = g.A.Address.opens c.args.address.now in
    first_stands g.C.Cabinet g.C.Medium.Disk g.A.Open.Listener.meets opens c.args.desk.now c.args.limit
    c.args.cabinet.now c.in_ok-rest.rest c.serve_in_cabinet.new.cabinet (rw is at c.serve_in_cabinet.ensures)

-- serving ended with a later one
pub returns-in_err-rest-2 : goal.returns-in_err-rest-2
returns-in_err-rest-2 g c =
    let told = c.from_residual-in_err-rest-2 in
    let p = err_from_is_err_and told.result told.ensures.1 in
    let is : c.serve_in_cabinet-in-loop-rest.result ≡ Err c.in_err-rest-2.field-0.0 = search rules in
    let some : 0 < c.loop-rest.rest.left = omega arith in
    let opens = g.A.Address.opens c.args.address.now in
    rw (p.1, p.2) (next_ends g.C.Cabinet g.C.Medium.Disk g.A.Open.Listener.meets opens c.args.desk.now c.args.limit
    c.args.cabinet.now c.loop-rest.cabinet c.serve_in_cabinet-in-loop-rest.new.cabinet c.loop-rest.rest.listener
    c.loop-rest.rest.left c.in_err-rest-2.field-0.0 c.loop-rest.invariant some
    (rw is at c.serve_in_cabinet-in-loop-rest.ensures))

pub loop-rest-preserved : goal.loop-rest-preserved
loop-rest-preserved g c =
    let is : c.serve_in_cabinet-in-loop-rest.result ≡ Ok c.in_ok-rest-2.rest = search rules in
    let some : 0 < c.loop-rest.rest.left = omega arith in
    let opens = g.A.Address.opens c.args.address.now in
    next_stands g.C.Cabinet g.C.Medium.Disk g.A.Open.Listener.meets opens c.args.desk.now c.args.limit
    c.args.cabinet.now c.loop-rest.cabinet c.serve_in_cabinet-in-loop-rest.new.cabinet c.loop-rest.rest.listener
    c.loop-rest.rest.left c.in_ok-rest-2.rest c.loop-rest.invariant some
    (rw is at c.serve_in_cabinet-in-loop-rest.ensures)

pub loop-rest-smaller : goal.loop-rest-smaller
loop-rest-smaller g c =
    let is : c.serve_in_cabinet-in-loop-rest.result ≡ Ok c.in_ok-rest-2.rest = search rules in
    let some : 0 < c.loop-rest.rest.left = omega arith in
    let opens = g.A.Address.opens c.args.address.now in
    next_fewer g.C.Cabinet g.C.Medium.Disk g.A.Open.Listener.meets opens c.args.desk.now
    (Some c.loop-rest.rest.listener) c.loop-rest.rest.left c.loop-rest.cabinet
    c.serve_in_cabinet-in-loop-rest.new.cabinet c.in_ok-rest-2.rest some
    (rw is at c.serve_in_cabinet-in-loop-rest.ensures)

-- none is left
pub returns : goal.returns
returns g c =
    let none : c.loop-rest.rest.left ≡ 0 = omega arith in
    let opens = g.A.Address.opens c.args.address.now in
    all_served g.C.Cabinet g.C.Medium.Disk g.A.Open.Listener.meets opens c.args.desk.now c.args.limit
    c.args.cabinet.now c.loop-rest.rest.left c.loop-rest.cabinet c.loop-rest.rest.listener c.loop-rest.invariant none
