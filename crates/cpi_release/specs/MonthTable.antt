-- The table of a month and its first fault, from the rows of its samples and by the weights of a plan.
use Rattle.std.specs.Prelude.{ℕ, ◌&&◌, Bool, not, List, Option, option_map, map, find}
use Rattle.std.specs.Option.{option_or}
use Rattle.std.specs.List.{list_any}
use Rattle.cpi_codes.specs.CodeText.{is_code_at_or_below}
use Rattle.cpi_codes.specs.declared.codes.Code.{Code}
use Rattle.cpi_plan.specs.Plan.{Plan}
use Rattle.cpi_plan.specs.Sums.{weight_under}
use Rattle.cpi_plan.specs.declared.plan_rows.Node.{Node}
use Rattle.cpi_index.specs.Row.{Row}
use Rattle.cpi_index.specs.Aggregate.{is_index}
use Rattle.cpi_index.specs.Group.{group_index, has_imputed}
use Rattle.cpi_index.specs.Level.{is_level, chained_from}
use Rattle.cpi_index.specs.Means.{mean_index}
use Rattle.cpi_index.specs.Month.{sample_rows, month_fault}
use Rattle.cpi_index.specs.Sample.{first_code}
use Rattle.cpi_index.specs.declared.fault.IndexFault.{IndexFault}
use Rattle.cpi_index.specs.declared.fault.IndexFault.TheVariants.{OutOfRange}
use Rattle.cpi_release.specs.Change.{change_between}
use Rattle.cpi_release.specs.Releases.{link_of, month_before, year_before}
use Rattle.cpi_release.specs.declared.level.Level.{Level}
use Rattle.cpi_release.specs.declared.release.Release.{Release}

-- ---- the indices within the year
-- the elementary index, over the aggregate's sample
abbrev pub aggregate_index : Plan → List Row → Code → ℕ
aggregate_index plan rows aggregate = group_index (sample_rows plan aggregate rows)

-- the mean of the elementary indices at and below a node
abbrev pub within_year : Plan → List Row → Code → ℕ
within_year plan rows node = mean_index plan (aggregate_index plan rows) node

-- the chained level: the link level, moved by the index within the year
abbrev pub node_level : Plan → List Release → ℕ → List Row → Code → ℕ
node_level plan releases month rows node = chained_from (link_of releases month node) (within_year plan rows node)

-- whether a price at or below a node was imputed in the month
abbrev pub is_imputed_under : Plan → List Row → Code → Bool
is_imputed_under plan rows node =
    list_any (λ w. is_code_at_or_below node w.code && has_imputed (sample_rows plan w.code rows)) plan.weights

-- ---- the table
-- a row from the node's weight and index, the levels before it, and whether a price was imputed
abbrev pub level_with : Node → ℕ → ℕ → ℕ → ℕ → Option ℕ → Bool → Level
level_with n weight within link last year imputed = let level = chained_from link within in record {
  code = n.code;
  title = n.title;
  weight = weight;
  within = within;
  chained = level;
  month_change = change_between last level;
  year_change = option_map (λ l. change_between l level) year;
  imputed = imputed;
}

abbrev pub level_row : Plan → List Release → ℕ → List Row → Node → Level
level_row plan releases month rows n =
    level_with n (weight_under n.code plan.weights) (within_year plan rows n.code)
    (link_of releases month n.code) (month_before releases month n.code)
    (year_before releases month n.code) (is_imputed_under plan rows n.code)

abbrev pub table_of : Plan → List Release → ℕ → List Row → List Level
table_of plan releases month rows = map (level_row plan releases month rows) plan.nodes

-- ---- the first fault: that of the carried prices, then an aggregate's index, then a node's chained level
abbrev pub is_aggregate_out : Plan → List Row → Code → Bool
is_aggregate_out plan rows aggregate = not (is_index (aggregate_index plan rows aggregate))

abbrev pub is_node_out : Plan → List Release → ℕ → List Row → Node → Bool
is_node_out plan releases month rows n = not (is_level (node_level plan releases month rows n.code))

abbrev pub level_fault : Plan → List Release → ℕ → List Row → List Node → Option IndexFault
level_fault plan releases month rows nodes =
    option_map (λ n. OutOfRange n.code) (find (is_node_out plan releases month rows) nodes)

abbrev pub aggregates_fault : Plan → List Code → List Row → Option IndexFault
aggregates_fault plan carry rows =
    option_or (month_fault plan carry rows) (option_map OutOfRange
    (first_code (is_aggregate_out plan rows) plan.weights))

abbrev pub table_fault : Plan → List Release → ℕ → List Code → List Row → Option IndexFault
table_fault plan releases month carry rows =
    option_or (aggregates_fault plan carry rows) (level_fault plan releases month rows plan.nodes)
