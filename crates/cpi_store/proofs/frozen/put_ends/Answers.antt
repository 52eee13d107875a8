use Rattle.std.proofs.Common.{◌≡◌, ℕ, ◌+◌, ◌<◌, Bool, true, false, List, [], ◌∷◌, ◌++◌, length, take, get_or, map, refl}
use Rattle.std.proofs.Common.{sym, ap, ◌∙◌, arith}
use Rattle.std.specs.Prelude.{max, if◌then◌else◌}
use Rattle.std.proofs.lemmas.List.{map-append, take_more}
use Rattle.cpi_codes.specs.declared.series.SeriesId.{SeriesId}
use Rattle.cpi_survey.specs.declared.assignment.Assigned.{Assigned}
use Rattle.cpi_store.specs.declared.given.Given.{Given}
use Rattle.cpi_store.specs.declared.taken_over.TakenOver.{TakenOver}
use Rattle.cpi_store.specs.Series.{given_in, is_handed_over, last_handed_over, last_known, same_series}
use Rattle.cpi_store.proofs.FrozenRows.{given_rows}
use Rattle.cpi_store.proofs.HandedSeries.{handed_over_alike, last_handed_over_append}
use Rattle.cpi_store.proofs.frozen.put_ends.Goals.{then-contains+in_ok-put, else-contains}
use Rattle.cpi_store.proofs.frozen.put_ends.Goals as goal

-- what one more assignment adds
given_more : (taken : List TakenOver) (n : ℕ) (rows : List Assigned) (i : ℕ) (x : Assigned) → i < length rows →
    x ≡ get_or rows i x →
    given_rows taken n (take (i + 1) rows) ≡ given_rows taken n (take i rows) ++ given_in taken (n, x.assignment) ∷ []
given_more taken n rows i x lt is =
    let given : List Assigned → List (ℕ × Given) = given_rows taken n in
    let front : List Assigned = take i rows in
    ap given (take_more rows i x lt)
    ∙ ap (λ ys. map (given_in taken) (map (λ a. (n, a)) ys))
    (map-append (λ (a : Assigned). a.assignment) front (get_or rows i x ∷ []))
    ∙ ap (map (given_in taken)) (map-append (λ a. (n, a)) (map (λ (a : Assigned). a.assignment) front)
    ((get_or rows i x).assignment ∷ []))
    ∙ map-append (given_in taken) (map (λ a. (n, a)) (map (λ (a : Assigned). a.assignment) front))
    ((n, (get_or rows i x).assignment) ∷ [])
    ∙ ap (λ (y : Assigned). given front ++ given_in taken (n, y.assignment) ∷ []) (sym is)

module _ (taken : List TakenOver) (s series : SeriesId) (row : ℕ × Given) (named : row.1.series ≡ series) where
  of_another : same_series series s ≡ false → last_handed_over taken s (row ∷ []) ≡ 0
  of_another e = cases (is_handed_over taken s) refl
    where
      cases : (b : Bool) → is_handed_over taken s ≡ b → last_handed_over taken s (row ∷ []) ≡ 0
      cases true f = rw (f, named, e) refl
      cases false f = rw f refl

  of_its_own : is_handed_over taken series ≡ false → last_handed_over taken s (row ∷ []) ≡ 0
  of_its_own free = cases (same_series series s) refl
    where
      cases : (b : Bool) → same_series series s ≡ b → last_handed_over taken s (row ∷ []) ≡ 0
      cases true e = let none : is_handed_over taken s ≡ false = sym (handed_over_alike taken series s e) ∙ free in
          rw none refl
      cases false e = of_another e

  of_this : is_handed_over taken series ≡ true → same_series series s ≡ true →
      last_handed_over taken s (row ∷ []) ≡ max row.1.assignment.last_month 0
  of_this passed e =
      let its : is_handed_over taken s ≡ true = sym (handed_over_alike taken series s e) ∙ passed in
      rw (its, named, e) refl

  module _ (before known after : ℕ) (given : List (ℕ × Given))
      (was : known ≡ max before (last_handed_over taken s given)) where
    joined : last_handed_over taken s (given ++ row ∷ []) ≡ max (last_handed_over taken s given)
        (last_handed_over taken s (row ∷ []))
    joined = last_handed_over_append taken s given (row ∷ [])

    -- the last month that is known after one more assignment of a series that was handed over
    later : is_handed_over taken series ≡ true →
        after ≡ (if same_series series s then max row.1.assignment.last_month known else known) →
        after ≡ max before (last_handed_over taken s (given ++ row ∷ []))
    later passed is = cases (same_series series s) refl
      where
        cases : (t : Bool) → same_series series s ≡ t → after ≡ max before
            (last_handed_over taken s (given ++ row ∷ []))
        cases true e =
            let one = of_this passed e in
            let now : after ≡ max row.1.assignment.last_month known = rw e at is in
            omega (arith, joined, one, now, was)
        cases false e =
            let none = of_another e in
            let now : after ≡ known = rw e at is in
            omega (arith, joined, none, now, was)

    -- one more of any other series changes nothing
    left : is_handed_over taken series ≡ false → after ≡ known →
        after ≡ max before (last_handed_over taken s (given ++ row ∷ []))
    left free now = let none = of_its_own free in omega (arith, joined, none, now, was)

pub loop-assigned-preserved : goal.loop-assigned-preserved
loop-assigned-preserved c = λ s.
    let taken = c.args.taken.now in
    let n = c.args.holder.now.number in
    let i = c.loop-assigned.assigned-index in
    let own = c.args.holder.now.own.assignments in
    let a = c.assigned-item.result in
    let series : SeriesId = c.series_in-series.result in
    let rows = c.assignments-assigned-items.result.now in
    let same : rows ≡ own = c.assignments-assigned-items.ensures in
    let more : given_rows taken n (take (i + 1) rows) ≡ given_rows taken n (take i rows)
    ++ given_in taken (n, a.assignment) ∷ [] = given_more taken n rows i a (omega arith) c.assigned-item.is in
    let grown : given_rows taken n (take (i + 1) own) ≡ given_rows taken n (take i own)
    ++ given_in taken (n, a.assignment) ∷ [] =
    ap (λ xs. given_rows taken n (take (i + 1) xs)) (sym same) ∙ more
    ∙ ap (λ xs. given_rows taken n (take i xs) ++ given_in taken (n, a.assignment) ∷ []) same in
    let told : c.contains.result ≡ is_handed_over taken series = c.contains.ensures ∙ c.requires.handed_over series in
    rw grown (elim c.if-contains.branch [
      | then-contains+in_ok-put w ↦
          let passed : is_handed_over taken series ≡ true = sym told ∙ w.if-contains.true in
          later taken s series (given_in taken (n, a.assignment)) (sym c.series_in-series.ensures)
          (last_known c.args.ends.now s) (last_known c.loop-assigned.ends s) (last_known c.if-contains.ends s)
          (given_rows taken n (take i own)) (c.loop-assigned.invariant s) passed
          (ap (λ e. last_known e s) w.ends-is ∙ w.in_ok-put.ensures.ok s)
      | else-contains w ↦
          let free : is_handed_over taken series ≡ false = sym told ∙ w.if-contains.false in
          left taken s series (given_in taken (n, a.assignment)) (sym c.series_in-series.ensures)
          (last_known c.args.ends.now s) (last_known c.loop-assigned.ends s) (last_known c.if-contains.ends s)
          (given_rows taken n (take i own)) (c.loop-assigned.invariant s) free
          (ap (λ e. last_known e s) w.ends-is)
    ])
