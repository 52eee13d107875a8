-- The jobs that options give: none, if an option that a job needs has no value for it.
use Rattle.std.proofs.Common.{◌≡◌, ◌≤◌, ℕ, List, ap, arith, codes, get_or}
use Rattle.clap.specs.Words.{Row}
use Rattle.cpi_codes.specs.declared.limits.TheConstants.{LAST_MOMENT}
use Rattle.cpi_app.specs.Command.{HasNumber, IsJob}
use Rattle.cpi_app.specs.declared.job.Job.{Job}
use Rattle.cpi_app.specs.declared.job.Job.TheVariants.{Replay, Serve, Table}
use Rattle.cpi_app.specs.declared.limits.TheConstants.{MOST_CONNECTIONS}

module _ (rows : List Row) where
  pub no_port : ((n : ℕ) → HasNumber 16 rows (codes "port") n → 1 ≤ n → ⊥)
      → (job : Job) → IsJob (codes "serve", rows) job → ⊥
  no_port none (Replay zone db) is = let other = ap (λ (name : List ℕ). get_or name 0 0) is.0 in omega (arith, other)
  no_port none (Serve db port key limit zone) is = none port is.2 is.3
  no_port none (Table db month revision form at) is = let other = ap (λ (name : List ℕ). get_or name 0 0) is.0 in omega (arith, other)

  pub no_limit : ((n : ℕ) → HasNumber 32 rows (codes "limit") n → 1 ≤ n → n ≤ MOST_CONNECTIONS → ⊥)
      → (job : Job) → IsJob (codes "serve", rows) job → ⊥
  no_limit none (Replay zone db) is = let other = ap (λ (name : List ℕ). get_or name 0 0) is.0 in omega (arith, other)
  no_limit none (Serve db port key limit zone) is = none limit is.5 is.6 is.7
  no_limit none (Table db month revision form at) is = let other = ap (λ (name : List ℕ). get_or name 0 0) is.0 in omega (arith, other)

  pub no_moment : ((n : ℕ) → HasNumber 64 rows (codes "at") n → n ≤ LAST_MOMENT → ⊥)
      → (job : Job) → IsJob (codes "table", rows) job → ⊥
  no_moment none (Replay zone db) is = let other = ap (λ (name : List ℕ). get_or name 0 0) is.0 in omega (arith, other)
  no_moment none (Serve db port key limit zone) is = let other = ap (λ (name : List ℕ). get_or name 0 0) is.0 in omega (arith, other)
  no_moment none (Table db month revision form at) is = none at is.6 is.7
