use Rattle.std.proofs.Common.{◌≡◌, take, map}
use Rattle.std.specs.List.{AllByRecursion}
use Rattle.cpi_store.specs.Holders.{HasOutlet}
use Rattle.cpi_store.specs.Outlet.{with_name}
use Rattle.cpi_store.proofs.own_rows.name_all.Given as goal

abbrev pub invariant-all : goal.invariant-all
invariant-all l = record {
  named : l.named.items ≡ map (with_name l.fn.outlets) (map (λ g. g.assignment) (take l.row-index l.given));
  placed : AllByRecursion (HasOutlet l.fn.outlets) l.named.items;
}
