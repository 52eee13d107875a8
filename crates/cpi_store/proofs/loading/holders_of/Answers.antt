use Rattle.std.proofs.Common.{◌≡◌, ℕ, ◌+◌, List, [], ◌∷◌, ◌++◌, take, drop, sym, ap, ◌∙◌, arith}
use Rattle.std.proofs.Math.Seq.{take-add}
use Rattle.std.proofs.lemmas.List.{take_more}
use Rattle.cpi_survey.specs.Quote.{QuoteRow}
use Rattle.cpi_store.specs.Loading.{rows_with_number, own_made}
use Rattle.cpi_store.specs.declared.registration.Registration.{Registration}
use Rattle.cpi_store.specs.declared.given.Given.{Given}
use Rattle.cpi_store.specs.declared.holder.Holder.{Holder}
use Rattle.cpi_store.proofs.Loaded.{have_more}
use Rattle.cpi_store.proofs.loading.holders_of.Goals as goal

pub registrations-preserved : goal.registrations-preserved
registrations-preserved c =
    let us = c.args.outlets.now in
    let bs = c.args.registrations.now in
    let i = c.registrations.registration-index in
    let b : Registration = c.registration-item.result in
    let before : List Registration = take i bs in
    let registrations : take (i + 1) bs ≡ before ++ b ∷ [] =
    take_more bs i b (omega arith) ∙ ap (λ x. before ++ x ∷ []) (sym c.registration-item.is) in
    let own_given : List Given = c.in_ok-own_given.own_given.items in
    let own_quotes : List QuoteRow = c.in_ok-own_quotes.own_quotes.items in
    let gs : List (ℕ × Given) = take c.registrations.given_at c.args.given.now in
    let qs : List (ℕ × QuoteRow) = take c.registrations.quotes_at c.args.quotes.now in
    let given : take (c.registrations.given_at + c.len-given_at.result) c.args.given.now ≡ gs ++ rows_with_number
    b.number own_given =
    take-add c.registrations.given_at c.len-given_at.result c.args.given.now
    ∙ ap (λ n. gs ++ take n (drop c.registrations.given_at c.args.given.now)) c.len-given_at.ensures
    ∙ ap (λ xs. gs ++ xs) (sym c.in_ok-own_given.ensures.rows) in
    let quotes : take (c.registrations.quotes_at + c.len-quotes_at.result) c.args.quotes.now
    ≡ qs ++ rows_with_number b.number own_quotes =
    take-add c.registrations.quotes_at c.len-quotes_at.result c.args.quotes.now
    ∙ ap (λ n. qs ++ take n (drop c.registrations.quotes_at c.args.quotes.now)) c.len-quotes_at.ensures
    ∙ ap (λ xs. qs ++ xs) (sym c.in_ok-own_quotes.ensures.rows) in
    let made : c.in_ok-own.own ≡ own_made us own_given own_quotes =
    c.in_ok-own.ensures.own ∙ ap (λ xs. own_made us xs own_quotes) c.deref.ensures.value in
    let one : Holder = record { number = b.number; key = b.key; own = c.in_ok-own.own } in
    let pushed : c.push.new.self.items ≡ c.registrations.holders.items ++ one ∷ [] =
    rw (sym c.in_ok-ok.ensures.variant) at c.push.ensures.items in
    record {
      rows = rw (registrations, given, quotes, pushed)
          (have_more us before gs qs c.registrations.holders.items c.registrations.invariant.rows b own_given own_quotes
          c.in_ok-own.own made c.in_ok-own.ensures.placed);
      given = omega (arith, c.in_ok-own_given.ensures.within, c.len-given_at.ensures);
      quotes = omega (arith, c.in_ok-own_quotes.ensures.within, c.len-quotes_at.ensures);
    }
