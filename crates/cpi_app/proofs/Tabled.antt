-- The table that is asked for by its revision.
use Rattle.std.proofs.Common.{◌≡◌, Bool, true, false, ℕ, List, [], ◌∷◌, filter, Option, Some, None, refl, ap, ◌∙◌}
use Rattle.std.specs.Prelude.{option_map, ◌==◌}
use Rattle.std.specs.List.{AllByRecursion}
use Rattle.std.proofs.lemmas.Bool.{eqb-true}
use Rattle.cpi_release.specs.PublishedTables.{PublishedTable, asked_table}
use Rattle.cpi_release.specs.declared.level.Level.{Level}
use Rattle.cpi_release.proofs.LatestRows.{latest_all}
use Rattle.cpi_office.proofs.Tabled.{latest_named}

-- what is kept passes
passes : {X : Type 0} (keep : X → Bool) (xs : List X) → AllByRecursion (λ x. keep x ≡ true) (filter keep xs)
passes keep [] = tt
passes keep (x ∷ xs) = cases (keep x) refl (passes keep xs)
  where
    cases : (k : Bool) → keep x ≡ k → AllByRecursion (λ y. keep y ≡ true) (filter keep xs)
        → AllByRecursion (λ y. keep y ≡ true) (filter keep (x ∷ xs))
    cases true h rest = rw h (h, rest)
    cases false h rest = rw h rest

module _ (month revision : ℕ) (tables : List PublishedTable) where
  abbrev named : Option PublishedTable
  named = asked_table month (Some revision) tables

  -- the latest table, by its revision
  pub latest_revision : Some revision ≡ option_map (λ (t : PublishedTable). t.revision) (asked_table month None tables)
      → named ≡ asked_table month None tables
  latest_revision e = cases (asked_table month None tables) refl e
    where
      cases : (o : Option PublishedTable) → asked_table month None tables ≡ o
          → Some revision ≡ option_map (λ (t : PublishedTable). t.revision) o → named ≡ o
      cases None f g = cc
      cases (Some t) f g =
          let is : revision ≡ t.revision = cc in
          ap (λ r. asked_table month (Some r) tables) is ∙ latest_named month tables t f

  revision_is : (t : PublishedTable) → named ≡ Some t → t.revision ≡ revision
  revision_is t e =
      let keep = λ (u : PublishedTable). u.revision == revision in
      let found = latest_all (λ (u : PublishedTable). u.month) month (λ u. keep u ≡ true) (filter keep tables) t
      (passes keep tables) e in
      eqb-true t.revision revision found.0

  -- a table whose rows were found
  pub with_levels : (levels : List Level) → Some levels ≡ option_map (λ (t : PublishedTable). t.levels) named
      → (t : PublishedTable) × (named ≡ Some t) × (t.revision ≡ revision) × (levels ≡ t.levels)
  with_levels levels e = cases named refl e
    where
      cases : (o : Option PublishedTable) → named ≡ o → Some levels ≡ option_map (λ (t : PublishedTable). t.levels) o
          → (t : PublishedTable) × (named ≡ Some t) × (t.revision ≡ revision) × (levels ≡ t.levels)
      cases None f g = let no : Some levels ≡ None = g in cc
      cases (Some t) f g = (t, f, revision_is t f, cc)
