-- What the answer to the look at `version` says of its rows.
use Rattle.std.proofs.Common.{◌≡◌, ℕ, pos, List, [], ◌∷◌, map, codes, false, refl}
use Rattle.std.proofs.Common.{sym, ap, subst, ◌∙◌, arith}
use Rattle.std.specs.List.Sorted.{IsPermutation}
use Rattle.std.proofs.lemmas.List.Sorted.{length_permutation}
use Rattle.sqlite.specs.declared.types.Value.TheVariants.{Int, Null}
use Rattle.sqlite.specs.Order.{Row, column}
use Rattle.sqlite.specs.Program.{overlay}
use Rattle.sqlite.specs.Clock.{timed}
use Rattle.sqlite.specs.Effect.{Database}
use Rattle.sqlite.specs.Listing.{understood, reads_listing}
use Rattle.sqlite.specs.Schema.{Schema}
use Rattle.sqlite.specs.State.{State, Shown, ShowsRows, IsUnchanged}
use Rattle.sqlite.proofs.Callers.{IsPlain, command_of, reads_as}
use Rattle.sqlite_trees.proofs.ListLemmas.{all-permutation}
use Rattle.sqlite_tied.specs.Compute.{everything}
use Rattle.cpi_sql_rows.specs.Numbered.{IsVersion, version_text}
use Rattle.cpi_sql_rows.specs.Tables.{first_schema, office_schema}
use Rattle.cpi_sql_rows.specs.Texts.{select, columns, by_columns}
use Rattle.cpi_sql_rows.proofs.Distinct.{shown_all}

-- under the schema, the text asks for the first column of `version`
abbrev AsksNumber : Schema → Type 0
AsksNumber schema =
    (command_of (understood schema version_text) ≡ select 0 [] (0 ∷ []) [] (codes "number" ∷ []))
    × (reads_listing schema version_text ≡ false) × IsPlain (understood schema version_text)

first_asks : AsksNumber first_schema
unfolding understood everything
first_asks = (refl, refl, (refl, refl))

second_asks : AsksNumber office_schema
unfolding understood everything
second_asks = (refl, refl, (refl, refl))

one_row : (n : ℕ) (table : List Row) (row : Row) → IsPermutation (map (λ r. column r 0 ∷ []) table) (row ∷ [])
    → column row 0 ≡ Int (pos n) → IsVersion n table
one_row n [] row same one =
    absurd (let long : 1 ≡ 0 = length_permutation [] (row ∷ []) same in omega (arith, long))
one_row n (r ∷ []) row same one =
    let shown : row ≡ column r 0 ∷ [] =
    (all-permutation (λ (x : Row). x ≡ column r 0 ∷ []) (map (λ r. column r 0 ∷ []) (r ∷ [])) (row ∷ []) same
    (refl, tt)).0 in
    (r, refl, sym (ap (λ (x : Row). column x 0) shown) ∙ one)
one_row n (r ∷ s ∷ table) row same one =
    absurd (let long = length_permutation (map (λ r. column r 0 ∷ []) (r ∷ s ∷ table)) (row ∷ []) same in
    omega (arith, long))

module _ (n : ℕ) (old new : State) (rows : List Row) (shown : Shown version_text [] old new rows)
    (one : IsVersion n rows) where
  number_shown : (schema : Schema) → AsksNumber schema → old.now.schema ≡ schema → IsVersion n (old.now.trees 0)
  number_shown schema asks has =
      let r = reads_as version_text [] old new schema has (select 0 [] (0 ∷ []) [] (codes "number" ∷ [])) asks.0 asks.2
      asks.1 rows shown in
      let same = shown_all 0 (columns (0 ∷ [])) (by_columns []) (overlay old.now.trees []) [] rows (r.answer Null) in
      one_row n (old.now.trees 0) one.0
      (subst (IsPermutation (map (λ r. column r 0 ∷ []) (old.now.trees 0))) one.1 same) one.2

-- as it was when the transaction began
pub second_found : (s begun looked : State) (rows : List Row) → begun.now ≡ s.now → s.now.schema ≡ office_schema
    → Shown version_text [] begun looked rows → IsVersion 2 rows → IsVersion 2 (s.now.trees 0)
second_found s begun looked rows start has shown one =
    subst (λ (d : Database). IsVersion 2 (d.trees 0)) start
    (number_shown 2 begun looked rows shown one office_schema second_asks (ap (λ (d : Database). d.schema) start ∙ has))

-- the look changed nothing
pub record IsSeen (old new : State) : Type 0 where
  pub unchanged : IsUnchanged old new
  pub version : IsVersion 1 (old.now.trees 0)

pub first_seen : (old new : State) (rows : List Row) → old.now.schema ≡ first_schema
    → Shown version_text [] old new rows → IsVersion 1 rows → IsSeen old new
unfolding Shown
first_seen old new rows has shown one =
    let plain = subst (λ s. IsPlain (understood s version_text)) (sym has) first_asks.2 in
    let none = (subst IsPlain shown.1.is plain).0 in
    let it = subst (ShowsRows old new version_text shown.0 (timed [] shown.0.formats shown.1.now) rows) none shown.2 in
    record { unchanged = it.3; version = number_shown 1 old new rows shown one first_schema first_asks has }
