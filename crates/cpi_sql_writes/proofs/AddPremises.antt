-- A slot that is free among a collector's is free among all.
use Rattle.std.proofs.Common.{◌≡◌, ◌≢◌, ℕ, List, None, subst}
use Rattle.std.specs.Ordering.{nat_cmp}
use Rattle.std.specs.declared.cmp.Ordering.TheVariants.{Equal}
use Rattle.std.proofs.lemmas.Cmp.{nat_cmp_total}
use Rattle.sqlite_rules.specs.Lists.{Has}
use Rattle.cpi_rows.specs.Keyed.{row_by_number}
use Rattle.cpi_rows.specs.Held.{held_cmp, held_key, held_by}
use Rattle.cpi_store.specs.declared.given.Given.{Given}
use Rattle.cpi_sql_rows.proofs.Inserting.{none_apart}
use Rattle.cpi_sql_rows.proofs.Lists.{has_held, held_tied}

pub slot_apart : (c s : ℕ) (rows : List (ℕ × Given))
    → row_by_number (λ (g : Given). g.assignment.slot) s (held_by c rows) ≡ None
    → (y : ℕ × Given) → Has rows y
    → held_cmp nat_cmp (held_key (λ (g : Given). g.assignment.slot) y) (c, s) ≢ Equal
slot_apart c s rows none y h e =
    let tied = held_tied nat_cmp (held_key (λ (g : Given). g.assignment.slot) y) (c, s) e in
    let there : Has rows (c, y.1) = subst (λ n. Has rows (n, y.1)) tied.0 h in
    none_apart nat_cmp (λ (g : Given). g.assignment.slot) s (held_by c rows) y.1 none (has_held nat_cmp_total
    (λ (g : Given). g.assignment.slot) c y.1 rows there) tied.1
