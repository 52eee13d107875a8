use Rattle.std.proofs.Common.{◌≡◌, ◌≤◌, ◌++◌, map, take, drop}
use Rattle.cpi_index.specs.Weights.{with_levels}
use Rattle.cpi_release.specs.State.{Keeps, StaysClean}
use Rattle.cpi_release.specs.Releases.{level_at_month}
use Rattle.cpi_release.proofs.weights.weight_levels.Given as goal

abbrev pub invariant-loop-weight : goal.invariant-loop-weight
invariant-loop-weight g l = record {
  keeps : Keeps (g.G.Groups.holds l.fn.groups) (g.G.Groups.holds l.groups);
  stays : StaysClean (g.G.Groups.holds l.fn.groups) (g.G.Groups.holds l.groups);
  count : (g.G.Groups.holds l.fn.groups).failures ≤ (g.G.Groups.holds l.groups).failures;
  own : map (λ w. w.weight) l.rows.items ≡ take l.weight-index l.weights;
  exact : (g.G.Groups.holds l.groups).is_clean → g.G.Groups.is_sound (g.G.Groups.holds l.fn.groups).held →
      l.rows.items ++ map (with_levels (level_at_month (g.G.Groups.sources (g.G.Groups.holds l.fn.groups).held).releases
      l.link) (level_at_month (g.G.Groups.sources (g.G.Groups.holds l.fn.groups).held).releases l.reference))
      (drop l.weight-index l.weights)
      ≡ map (with_levels (level_at_month (g.G.Groups.sources (g.G.Groups.holds l.fn.groups).held).releases l.link)
      (level_at_month (g.G.Groups.sources (g.G.Groups.holds l.fn.groups).held).releases l.reference)) l.weights;
}
