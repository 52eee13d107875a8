-- The tables that a statement leaves as they were.
use Rattle.std.proofs.Common.{◌≡◌, ◌≢◌, ℕ, ◌==◌, ◌++◌, Bool, true, List, [], ◌∷◌, not, sym, subst, refl, ◌∙◌, arith}
use Rattle.std.proofs.lemmas.Bool.{and_from, and_parts}
use Rattle.std.proofs.lemmas.Bool.Decides.{nat_tests}
use Rattle.std.specs.List.{AllByRecursion, list_all}
use Rattle.sqlite.specs.Tree.{Trees}
use Rattle.sqlite.specs.Table.{Table}
use Rattle.sqlite_rules.proofs.ListLemmas.{all_has, some_has}
use Rattle.cpi_rows.proofs.Truth.{same_of_equal}
use Rattle.cpi_sql_rows.specs.Tables.{office_schema}
use Rattle.cpi_sql_rows.specs.Steps.{SameBut, is_beside}
use Rattle.cpi_sql_rows.specs.Lists.{releases_in}

apart : (a b : ℕ) → not (a == b) ≡ true → b ≡ a → ⊥
apart a b e same = grind (arith, nat_tests)

-- a statement that writes one table
pub others_same : (tree : ℕ) (old done new : Trees) → ((n : ℕ) → new n ≡ done n)
    → AllByRecursion (λ (t : Table). t.tree ≢ tree → done t.tree ≡ old t.tree) office_schema.tables
    → SameBut (tree ∷ []) old new
others_same tree old done new now all n e =
    let parts = and_parts _ _ e in
    let it = some_has (λ (t : Table). t.tree == n) office_schema.tables parts.0 in
    let at : it.0.tree ≡ n = same_of_equal it.0.tree n it.2 in
    let other : it.0.tree ≢ tree = λ same. apart tree n (and_parts _ _ parts.1).0 (sym at ∙ same) in
    now n ∙ subst (λ m. done m ≡ old m) at
    (all_has (λ (t : Table). t.tree ≢ tree → done t.tree ≡ old t.tree) office_schema.tables it.0 all it.1 other)

halves : (p : ℕ → Bool) (xs ys : List ℕ) → list_all p (xs ++ ys) ≡ true
    → (list_all p xs ≡ true) × (list_all p ys ≡ true)
halves p [] ys e = (refl, e)
halves p (x ∷ xs) ys e =
    let parts = and_parts _ _ e in
    let rest = halves p xs ys parts.1 in
    (and_from _ _ parts.0 rest.0, rest.1)

-- one after the other
pub same_then : (xs ys : List ℕ) (a b c : Trees) → SameBut xs a b → SameBut ys b c → SameBut (xs ++ ys) a c
same_then xs ys a b c p q n e =
    let parts = and_parts _ _ e in
    let both = halves (λ t. not (t == n)) xs ys parts.1 in
    q n (and_from _ _ parts.0 both.1) ∙ p n (and_from _ _ parts.0 both.0)

-- what leaves the tables of the releases
pub same_releases : (changed : List ℕ) (old new : Trees) → SameBut changed old new
    → list_all (is_beside changed) (26 ∷ 28 ∷ 30 ∷ 32 ∷ []) ≡ true → releases_in new ≡ releases_in old
unfolding releases_in
same_releases changed old new same beside =
    let a = and_parts _ _ beside in
    let b = and_parts _ _ a.1 in
    let c = and_parts _ _ b.1 in
    rw (same 26 a.0, same 28 b.0, same 30 c.0, same 32 (and_parts _ _ c.1).0) refl
