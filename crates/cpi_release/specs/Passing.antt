-- Steps of a pass over a plan's aggregates: each adds to the faults, the sums and the carried prices.
use Rattle.std.specs.Prelude.{◌≡◌, ℕ, ◌+◌, ◌*◌, Bool, true, false, List, ◌++◌, Option, Some, None, is_none}
use Rattle.std.specs.Prelude.{filter, sum_by, if◌then◌else◌}
use Rattle.std.specs.Option.{option_or}
use Rattle.std.specs.List.{list_all, flat_map}
use Rattle.cpi_codes.specs.CodeText.{is_code_at_or_below}
use Rattle.cpi_codes.specs.declared.codes.Code.{Code}
use Rattle.cpi_plan.specs.Sums.{sum_at}
use Rattle.cpi_plan.specs.declared.plan_rows.Weight.{Weight}
use Rattle.cpi_index.specs.Row.{Row}
use Rattle.cpi_index.specs.Aggregate.{carried_rows}
use Rattle.cpi_index.specs.Group.{group_index, has_imputed, lack_of}
use Rattle.cpi_index.specs.Means.{weighted_under}
use Rattle.cpi_index.specs.Sample.{first_code}
use Rattle.cpi_index.specs.declared.lack.GroupLack.{GroupLack}
use Rattle.cpi_index.specs.declared.lack.GroupLack.TheVariants.{NoSample, NoMatch, PriceOutOfRange, IndexOutOfRange}
use Rattle.cpi_release.specs.declared.faults.Faults.{Faults}
use Rattle.cpi_release.specs.declared.pass.Pass.{Pass}

-- ---- one aggregate
-- its index, or 0 if it lacks one
abbrev pub index_in : Bool → List Row → ℕ
index_in unchanged rows = if is_none (lack_of unchanged rows) then group_index rows else 0

-- 1 if a price was imputed, else 0
abbrev pub imputed_flag : Bool → List Row → ℕ
imputed_flag unchanged rows = if is_none (lack_of unchanged rows) then (if has_imputed rows then 1 else 0) else 0

-- the faults with the lack of one aggregate: the first of each kind stays
abbrev pub faults_with : Option GroupLack → Code → Faults → Faults
faults_with None code f = f
faults_with (Some NoSample) code f = record f { no_sample = option_or f.no_sample (Some code) }
faults_with (Some NoMatch) code f = record f { no_match = option_or f.no_match (Some code) }
faults_with (Some PriceOutOfRange) code f = record f { price = option_or f.price (Some code) }
faults_with (Some IndexOutOfRange) code f = record f { index = option_or f.index (Some code) }

-- the effect of one more aggregate on a pass
pub record IsPassingStep (unchanged : Bool) (rows : List Row) (w : Weight) (old new : Pass) : Type 0 where
  pub faults : new.faults ≡ faults_with (lack_of unchanged rows) w.code old.faults
  pub sums : (q : Code) →
      sum_at new.sums q ≡ sum_at old.sums q + (if is_code_at_or_below q w.code then w.parts * index_in unchanged
      rows else 0)
  pub flags : (q : Code) →
      sum_at new.imputed q ≡ sum_at old.imputed q +
      (if is_code_at_or_below q w.code then imputed_flag unchanged rows else 0)
  pub carried : lack_of unchanged rows ≡ None → new.carried.items ≡ old.carried.items ++ carried_rows rows

-- ---- all aggregates, of which `own` gives the rows and `listed` whether they may be carried unchanged
abbrev pub is_lack : GroupLack → Option GroupLack → Bool
is_lack NoSample (Some NoSample) = true
is_lack NoMatch (Some NoMatch) = true
is_lack PriceOutOfRange (Some PriceOutOfRange) = true
is_lack IndexOutOfRange (Some IndexOutOfRange) = true
is_lack _ _ = false

module _ (own : Code → List Row) (listed : Code → Bool) where
  abbrev pub lack_at : Code → Option GroupLack
  lack_at code = lack_of (listed code) (own code)

  abbrev pub faults_in : List Weight → Faults
  faults_in ws = record {
    no_sample = first_code (λ e. is_lack NoSample (lack_at e)) ws;
    no_match = first_code (λ e. is_lack NoMatch (lack_at e)) ws;
    price = first_code (λ e. is_lack PriceOutOfRange (lack_at e)) ws;
    index = first_code (λ e. is_lack IndexOutOfRange (lack_at e)) ws;
  }

  -- no aggregate lacks anything
  abbrev pub are_whole : List Weight → Bool
  are_whole ws = list_all (λ w. is_none (lack_at w.code)) ws

  pub record IsPassed (ws : List Weight) (pass : Pass) : Type 0 where
    pub faults : pass.faults ≡ faults_in ws
    pub sums : (q : Code) → sum_at pass.sums q ≡ weighted_under (λ e. index_in (listed e) (own e)) q ws
    pub flags : (q : Code) →
        sum_at pass.imputed q
        ≡ sum_by (λ w. imputed_flag (listed w.code) (own w.code)) (filter (λ w. is_code_at_or_below q w.code) ws)
    pub carried : are_whole ws ≡ true → pass.carried.items ≡ flat_map (λ w. carried_rows (own w.code)) ws
