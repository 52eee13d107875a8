use Rattle.std.proofs.Common.{◌∙◌, sym, arith, codes}
use Rattle.std.specs.Str.Parse.{ParsesUnsigned, ExplainsUnsignedError, HasUnsignedDigitsIfOk}
use Rattle.clap.proofs.WalkLemmas.{one_text-rows}
use Rattle.clap.specs.Words.{found_of, one_text}
use Rattle.cpi_app.proofs.Numbers.{not_none, numbers_are_read, read_number, same_number}
use Rattle.cpi_app.proofs.options.port_of.Goals as goal

pub returns-in-Some-clause-some : goal.returns-in-Some-clause-some
returns-in-Some-clause-some c =
    let found = found_of c.args.matches.now in
    let read = read_number 16 (λ bs r. ParsesUnsigned 16 10 bs r × ExplainsUnsignedError 10 bs r
    × HasUnsignedDigitsIfOk bs r) (λ t n g. g.0)
    (one_text found (codes "port")) c.get_one.result c.in-Some.port c.in-Some.is c.get_one.ensures.none
    c.get_one.ensures.value in
    ((read.0, sym (one_text-rows found (codes "port")) ∙ read.1, read.2), omega arith)

pub returns-in_default-clause-none : goal.returns-in_default-clause-none
returns-in_default-clause-none c = λ n has low.
    let found = found_of c.args.matches.now in
    let read = numbers_are_read 16 (λ bs r. ParsesUnsigned 16 10 bs r × ExplainsUnsignedError 10 bs r
    × HasUnsignedDigitsIfOk bs r) (λ t r g. g.0) (one_text found (codes "port")) c.get_one.result
    c.get_one.ensures.value has.0 n (one_text-rows found (codes "port") ∙ has.1) has.2 in
    let same = same_number c.get_one.result c.in-Some.port n c.in-Some.is read in
    omega (arith, same)

pub returns-in_default-2-clause-none : goal.returns-in_default-2-clause-none
returns-in_default-2-clause-none c = λ n has low.
    let found = found_of c.args.matches.now in
    let read = numbers_are_read 16 (λ bs r. ParsesUnsigned 16 10 bs r × ExplainsUnsignedError 10 bs r
    × HasUnsignedDigitsIfOk bs r) (λ t r g. g.0) (one_text found (codes "port")) c.get_one.result
    c.get_one.ensures.value has.0 n (one_text-rows found (codes "port") ∙ has.1) has.2 in
    not_none c.get_one.result n c.in_default.is read
