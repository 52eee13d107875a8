use Rattle.std.proofs.Common.{◌≤◌, length, take}
use Rattle.cpi_store.specs.Loading.{HaveRows}
use Rattle.cpi_store.proofs.loading.holders_of.Given as goal

abbrev pub invariant-registrations : goal.invariant-registrations
invariant-registrations l = record {
  rows : HaveRows l.fn.outlets (take l.registration-index l.registrations) (take l.given_at l.given)
      (take l.quotes_at l.quotes)
      l.holders.items;
  given : l.given_at ≤ length l.given;
  quotes : l.quotes_at ≤ length l.quotes;
}
