-- The rows of a plan's body, one after the other.
use Rattle.std.proofs.Common.{◌≡◌, ◌∙◌, sym, ap, refl, ℕ, List, [], ◌∷◌, ◌++◌, ◌<◌, ◌≤◌, length, Option, Some, None}
use Rattle.std.proofs.Common.{Bool, true, false, nat_lt, if◌then◌else◌, arith, append_assoc, length-append}
use Rattle.cpi_plan.specs.declared.plan_bodies.PlanBody.{PlanBody}
use Rattle.cpi_plan.specs.declared.plan_rows.Title.{Title}
use Rattle.cpi_plan.specs.declared.plan_rows.Weight.{Weight}
use Rattle.cpi_plan.specs.declared.plan_rows.Place.{Place}
use Rattle.cpi_wire.specs.declared.plan_rows.PlanRow.{PlanRow}
use Rattle.cpi_wire.specs.declared.plan_rows.PlanRow.TheVariants as row
use Rattle.cpi_wire.specs.Input.{Record, AreFirst, records_of}
use Rattle.cpi_wire.specs.PlanBody.{titles_of, weights_of_rows, places_of, references_of, body_of_rows, plan_rows}
use Rattle.cpi_wire.specs.PlanBody.{body_of}
use Rattle.cpi_wire.specs.PlanRows.{spelled_plan_row}
use Rattle.cpi_codes.specs.Following.{◌>>=◌}
use Rattle.cpi_wire.specs.declared.limits.TheConstants.{MOST_ROWS}
use Rattle.cpi_wire.proofs.RowLimits.{within_limit, past_limit}

-- ---- one row more

title_more : (rows : List PlanRow) (t : Title) →
    body_of_rows (rows ++ row.Title t ∷ []) ≡ record {
      titles = titles_of rows ++ t ∷ [];
      weights = weights_of_rows rows;
      places = places_of rows;
      references = references_of rows;
    }
title_more [] t = refl
title_more (row.Title u ∷ rows) t = ap (λ (b : PlanBody).
    record { titles = u ∷ b.titles; weights = b.weights; places = b.places; references = b.references })
    (title_more rows t)
title_more (row.Weight w ∷ rows) t = ap (λ (b : PlanBody).
    record { titles = b.titles; weights = w ∷ b.weights; places = b.places; references = b.references })
    (title_more rows t)
title_more (row.Place p ∷ rows) t = ap (λ (b : PlanBody).
    record { titles = b.titles; weights = b.weights; places = p ∷ b.places; references = b.references })
    (title_more rows t)
title_more (row.Reference m ∷ rows) t = ap (λ (b : PlanBody).
    record { titles = b.titles; weights = b.weights; places = b.places; references = m ∷ b.references })
    (title_more rows t)

weight_more : (rows : List PlanRow) (v : Weight) →
    body_of_rows (rows ++ row.Weight v ∷ []) ≡ record {
      titles = titles_of rows;
      weights = weights_of_rows rows
          ++ v ∷ [];
      places = places_of rows;
      references = references_of rows;
    }
weight_more [] v = refl
weight_more (row.Title u ∷ rows) v = ap (λ (b : PlanBody).
    record { titles = u ∷ b.titles; weights = b.weights; places = b.places; references = b.references })
    (weight_more rows v)
weight_more (row.Weight w ∷ rows) v = ap (λ (b : PlanBody).
    record { titles = b.titles; weights = w ∷ b.weights; places = b.places; references = b.references })
    (weight_more rows v)
weight_more (row.Place p ∷ rows) v = ap (λ (b : PlanBody).
    record { titles = b.titles; weights = b.weights; places = p ∷ b.places; references = b.references })
    (weight_more rows v)
weight_more (row.Reference m ∷ rows) v = ap (λ (b : PlanBody).
    record { titles = b.titles; weights = b.weights; places = b.places; references = m ∷ b.references })
    (weight_more rows v)

place_more : (rows : List PlanRow) (q : Place) →
    body_of_rows (rows ++ row.Place q ∷ []) ≡ record {
      titles = titles_of rows;
      weights = weights_of_rows rows;
      places =
          places_of rows ++ q ∷ [];
      references = references_of rows;
    }
place_more [] q = refl
place_more (row.Title u ∷ rows) q = ap (λ (b : PlanBody).
    record { titles = u ∷ b.titles; weights = b.weights; places = b.places; references = b.references })
    (place_more rows q)
place_more (row.Weight w ∷ rows) q = ap (λ (b : PlanBody).
    record { titles = b.titles; weights = w ∷ b.weights; places = b.places; references = b.references })
    (place_more rows q)
place_more (row.Place p ∷ rows) q = ap (λ (b : PlanBody).
    record { titles = b.titles; weights = b.weights; places = p ∷ b.places; references = b.references })
    (place_more rows q)
place_more (row.Reference m ∷ rows) q = ap (λ (b : PlanBody).
    record { titles = b.titles; weights = b.weights; places = b.places; references = m ∷ b.references })
    (place_more rows q)

reference_more : (rows : List PlanRow) (n : ℕ) →
    body_of_rows (rows ++ row.Reference n ∷ []) ≡ record {
      titles = titles_of rows;
      weights = weights_of_rows rows;
      places =
          places_of rows;
      references = references_of rows ++ n ∷ [];
    }
reference_more [] n = refl
reference_more (row.Title u ∷ rows) n = ap (λ (b : PlanBody).
    record { titles = u ∷ b.titles; weights = b.weights; places = b.places; references = b.references })
    (reference_more rows n)
reference_more (row.Weight w ∷ rows) n = ap (λ (b : PlanBody).
    record { titles = b.titles; weights = w ∷ b.weights; places = b.places; references = b.references })
    (reference_more rows n)
reference_more (row.Place p ∷ rows) n = ap (λ (b : PlanBody).
    record { titles = b.titles; weights = b.weights; places = p ∷ b.places; references = b.references })
    (reference_more rows n)
reference_more (row.Reference m ∷ rows) n = ap
    (λ (b : PlanBody). record {
      titles = b.titles;
      weights = b.weights;
      places = b.places;
      references = m ∷ b.references;
    }) (reference_more rows n)

-- a body with one row more
pub with_title : (b : PlanBody) (rows : List PlanRow) (t : Title) → b ≡ body_of_rows rows →
    record { titles = b.titles ++ t ∷ []; weights = b.weights; places = b.places; references = b.references } ≡
    body_of_rows (rows ++ row.Title t ∷ [])
with_title b rows t e = ap (λ (b : PlanBody).
    record { titles = b.titles ++ t ∷ []; weights = b.weights; places = b.places; references = b.references }) e
    ∙ sym (title_more rows t)

pub with_weight : (b : PlanBody) (rows : List PlanRow) (v : Weight) → b ≡ body_of_rows rows →
    record { titles = b.titles; weights = b.weights ++ v ∷ []; places = b.places; references = b.references } ≡
    body_of_rows (rows ++ row.Weight v ∷ [])
with_weight b rows v e = ap (λ (b : PlanBody).
    record { titles = b.titles; weights = b.weights ++ v ∷ []; places = b.places; references = b.references }) e
    ∙ sym (weight_more rows v)

pub with_place : (b : PlanBody) (rows : List PlanRow) (q : Place) → b ≡ body_of_rows rows →
    record { titles = b.titles; weights = b.weights; places = b.places ++ q ∷ []; references = b.references } ≡
    body_of_rows (rows ++ row.Place q ∷ [])
with_place b rows q e = ap (λ (b : PlanBody).
    record { titles = b.titles; weights = b.weights; places = b.places ++ q ∷ []; references = b.references }) e
    ∙ sym (place_more rows q)

pub with_reference : (b : PlanBody) (rows : List PlanRow) (n : ℕ) → b ≡ body_of_rows rows →
    record { titles = b.titles; weights = b.weights; places = b.places; references = b.references ++ n ∷ [] } ≡
    body_of_rows (rows ++ row.Reference n ∷ [])
with_reference b rows n e = ap (λ (b : PlanBody).
    record { titles = b.titles; weights = b.weights; places = b.places; references = b.references ++ n ∷ [] }) e
    ∙ sym (reference_more rows n)

-- ---- the rows of records

-- the rows of two lists of records
joined_rows : Option (List PlanRow) → Option (List PlanRow) → Option (List PlanRow)
joined_rows None more = None
joined_rows (Some rows) None = None
joined_rows (Some rows) (Some more) = Some (rows ++ more)

rows_append : (xs ys : List Record) → plan_rows (xs ++ ys) ≡ joined_rows (plan_rows xs) (plan_rows ys)
unfolding joined_rows
rows_append [] ys = none (plan_rows ys)
  where
    none : (o : Option (List PlanRow)) → o ≡ joined_rows (Some []) o
    none None = refl
    none (Some rows) = refl
rows_append (x ∷ xs) ys = cases (spelled_plan_row x) (plan_rows xs) (plan_rows ys) (plan_rows (xs ++ ys))
    (rows_append xs ys)
  where
    cases : (p : Option PlanRow) (o q r : Option (List PlanRow)) → r ≡ joined_rows o q
        → (p >>= λ first. r >>= λ rows. Some (first ∷ rows))
        ≡ joined_rows (p >>= λ first. o >>= λ rows. Some (first ∷ rows)) q
    cases None o q r e = refl
    cases (Some first) None q r e = rw e refl
    cases (Some first) (Some rows) None r e = rw e refl
    cases (Some first) (Some rows) (Some more) r e = rw e refl

pub rows_more : (given : List Record) (rows : List PlanRow) (fields : Record) (one : PlanRow) →
    plan_rows given ≡ Some rows → spelled_plan_row fields ≡ Some one
    → plan_rows (given ++ fields ∷ []) ≡ Some (rows ++ one ∷ [])
unfolding joined_rows
rows_more given rows fields one e f = rows_append given (fields ∷ []) ∙ rw (e, f) refl

-- ---- the body

pub body_whole : (text : List ℕ) (given : List Record) (rows : List PlanRow) → given ≡ records_of text →
    length given ≤ MOST_ROWS → plan_rows given ≡ Some rows
    → Some (body_of_rows rows) ≡ body_of text
unfolding body_of
body_whole text given rows e h r = rw (← e, within_limit (length given) h, r) refl

pub body_long : (text : List ℕ) (given : List Record) → AreFirst given text → MOST_ROWS < length given
    → None ≡ body_of text
unfolding body_of
body_long text given first h =
    let t : nat_lt MOST_ROWS (length (records_of text)) ≡ true =
    past_limit _ (rw (first.1, length-append) (omega arith)) in
    rw t refl

pub body_bad : (text : List ℕ) (given : List Record) (rows : List PlanRow) (fields : Record) →
    AreFirst (given ++ fields ∷ []) text → plan_rows given ≡ Some rows
    → spelled_plan_row fields ≡ None → None ≡ body_of text
unfolding body_of joined_rows
body_bad text given rows fields first e f =
    let all : plan_rows (records_of text) ≡ None = ap plan_rows (first.1 ∙ append_assoc given (fields ∷ []) first.0)
    ∙ rows_append given (fields ∷ first.0) ∙ rw (e, f) refl in
    cases (nat_lt MOST_ROWS (length (records_of text))) (plan_rows (records_of text)) all
  where
    cases : (t : Bool) (o : Option (List PlanRow)) → o ≡ None →
        None ≡ (if t then None else (o >>= λ rows. Some (body_of_rows rows)))
    cases true o e = refl
    cases false o e = rw e refl
