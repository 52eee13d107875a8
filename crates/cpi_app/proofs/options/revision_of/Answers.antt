use Rattle.std.proofs.Common.{◌≡◌, ◌≤◌, ◌∙◌, ℕ, sym, subst, arith, rules, codes}
use Rattle.std.specs.Str.Parse.{ParsesUnsigned, ExplainsUnsignedError, HasUnsignedDigitsIfOk}
use Rattle.clap.proofs.WalkLemmas.{one_text-rows}
use Rattle.clap.specs.Words.{found_of, one_text, rows_of}
use Rattle.cpi_app.specs.Command.{HasNumber}
use Rattle.cpi_app.proofs.Numbers.{no_revision, not_none, numbers_are_read, read_number, same_number}
use Rattle.cpi_app.proofs.options.revision_of.Goals as goal

pub returns-clause-some : goal.returns-clause-some
returns-clause-some c =
    let found = found_of c.args.matches.now in
    let read = read_number 8 (λ bs r. ParsesUnsigned 8 10 bs r × ExplainsUnsignedError 10 bs r
    × HasUnsignedDigitsIfOk bs r)
    (λ t n g. g.0) (one_text found (codes "revision")) c.get_one.result c.in_ok-number.number c.in_ok-number.was
    c.get_one.ensures.none c.get_one.ensures.value in
    let number : HasNumber 8 (rows_of found) (codes "revision") c.in_ok-number.number =
    (read.0, sym (one_text-rows found (codes "revision")) ∙ read.1, read.2) in
    let same : c.in_ok-number.number ≡ c.in_ok-revision.revision = search rules in
    let low : 1 ≤ c.in_ok-revision.revision = search rules in
    let high : c.in_ok-revision.revision ≤ 9 = search rules in
    (subst (HasNumber 8 (rows_of found) (codes "revision")) same number, low, high)

pub returns-in_err-number-clause-none : goal.returns-in_err-number-clause-none
returns-in_err-number-clause-none c =
    let found = found_of c.args.matches.now in
    let read = λ (n : ℕ) (has : HasNumber 8 (rows_of found) (codes "revision") n).
    numbers_are_read 8 (λ bs r. ParsesUnsigned 8 10 bs r × ExplainsUnsignedError 10 bs r
    × HasUnsignedDigitsIfOk bs r) (λ t r g. g.0) (one_text found (codes "revision")) c.get_one.result
    c.get_one.ensures.value has.0 n (one_text-rows found (codes "revision") ∙ has.1) has.2 in
    rw c.from_residual.ensures (no_revision (rows_of found) (λ no. search rules)
    (λ n has low high. not_none c.get_one.result n c.in_err-number.was (read n has)))

pub returns-in_err-revision-clause-none : goal.returns-in_err-revision-clause-none
returns-in_err-revision-clause-none c =
    let found = found_of c.args.matches.now in
    let read = λ (n : ℕ) (has : HasNumber 8 (rows_of found) (codes "revision") n).
    numbers_are_read 8 (λ bs r. ParsesUnsigned 8 10 bs r × ExplainsUnsignedError 10 bs r
    × HasUnsignedDigitsIfOk bs r) (λ t r g. g.0) (one_text found (codes "revision")) c.get_one.result
    c.get_one.ensures.value has.0 n (one_text-rows found (codes "revision") ∙ has.1) has.2 in
    rw c.from_residual-in_err-revision.ensures (no_revision (rows_of found) (λ no. search rules)
    (λ n has low high.
    let same = same_number c.get_one.result c.in_ok-number.number n c.in_ok-number.was (read n has) in
    c.in_err-revision.ensures (search rules, search rules)))
