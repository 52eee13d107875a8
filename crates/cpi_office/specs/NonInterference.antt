-- Whose requests there are, and which pass data of one collector on to others. A freeze does: the table of a month is
-- computed from all quotes. A hand-over does too: the last price goes with the series.
use Rattle.std.specs.List.{AllByRecursion}
use Rattle.std.specs.Prelude.{ℕ, Bool, true, IsFalse, false, not, ◌==◌, List, filter}
use Rattle.cpi_office.specs.declared.request.Ask.{Ask}
use Rattle.cpi_office.specs.declared.request.Request.{Request}
use Rattle.cpi_office.specs.declared.request.Request.TheVariants.{Freeze, HandOver}
use Rattle.cpi_office.specs.declared.caller.Caller.{Caller}
use Rattle.cpi_office.specs.declared.caller.Caller.TheVariants.{Public, Collector, Desk}

-- the caller is the collector with this key
abbrev pub has_this_key : ℕ → Caller → Bool
has_this_key key (Collector k) = k == key
has_this_key key Public = false
has_this_key key Desk = false

-- the caller is a collector with another key
abbrev pub is_other : ℕ → Caller → Bool
is_other key (Collector k) = not (k == key)
is_other key Public = false
is_other key Desk = false

-- the requests without those of other collectors: the purge of a statement of non-interference
abbrev pub requests_without : ℕ → List Ask → List Ask
requests_without key asks = filter (λ a. not (is_other key a.caller)) asks

-- a request that passes prices of one collector on to others: a freeze or a hand-over
abbrev pub passes_on : Request → Bool
passes_on (Freeze month carry) = true
passes_on (HandOver h) = true
passes_on _ = false

-- neither a freeze nor a hand-over is among the requests
abbrev pub NonePassesOn : List Ask → Type 0
NonePassesOn asks = AllByRecursion (λ a. IsFalse (passes_on a.request)) asks
