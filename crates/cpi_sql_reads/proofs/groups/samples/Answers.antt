use Rattle.std.proofs.Common.{◌≡◌, ℕ, ◌==◌, inl, inr, true, false, Result, Ok, Err, IfOk, sym, ap, subst, ◌∙◌}
use Rattle.std.proofs.lemmas.Bool.{cases_Bool, eq-eqb, eqb-true, true≢false}
use Rattle.std.specs.Prelude.{if◌then◌else◌}
use Rattle.std.specs.Result.{MatchResult, is_ok}
use Rattle.sqlite.specs.Held.{state}
use Rattle.sqlite.specs.Tree.{Trees}
use Rattle.cpi_release.specs.GroupCalls.{Sources}
use Rattle.cpi_release.specs.Releases.{carried_of, frozen_of}
use Rattle.cpi_store.specs.Sources.{office_sources}
use Rattle.cpi_sql_rows.specs.HeldTables.{carried_table}
use Rattle.cpi_sql_rows.specs.Lists.{carried_in_row, frozen_in, office_in}
use Rattle.cpi_sql_rows.proofs.FoundTables.{on_any}
use Rattle.cpi_sql_rows.proofs.Whole.{if_ok}
use Rattle.cpi_sql_reads.specs.Earlier.{AreEarlier}
use Rattle.cpi_sql_reads.specs.Headers.{LatestStands}
use Rattle.cpi_sql_reads.specs.ReleaseLists.{IsLatest}
use Rattle.cpi_sql_reads.specs.declared.groups.EarlierLists.{EarlierLists}
use Rattle.cpi_sql_reads.proofs.groups.samples.Goals as goal

pub returns-in_err-earlier-clause-cached : goal.returns-in_err-earlier-clause-cached
returns-in_err-earlier-clause-cached g c = λ clean has is cached.
    c.in_err-earlier.ensures.left (state g.S.Store c.args.conn.now).now.trees cached

pub returns-in_err-cache_earlier-clause-cached : goal.returns-in_err-cache_earlier-clause-cached
returns-in_err-cache_earlier-clause-cached g c = λ clean has is cached.
    let trees = (state g.S.Store c.args.conn.now).now.trees in
    c.cache_earlier.ensures trees c.args.link c.args.last (c.in_ok-earlier.ensures.left trees cached)
    (c.in_ok-earlier.ensures.read clean has is cached)

pub returns-clause-cached : goal.returns-clause-cached
returns-clause-cached g c = λ clean has is cached.
    let trees = (state g.S.Store c.args.conn.now).now.trees in
    c.cache_earlier.ensures trees c.args.link c.args.last (c.in_ok-earlier.ensures.left trees cached)
    (c.in_ok-earlier.ensures.read clean has is cached)

-- the carried prices of the month before are those of its latest release
before_latest : (trees : Trees) (link last : ℕ) (earlier : EarlierLists) → AreEarlier trees link last earlier
    → IsLatest carried_table (λ r. r.carried) trees last
    (if last == link then earlier.link_carried else earlier.last_carried)
before_latest trees link last earlier are = elim (cases_Bool (last == link)) [
  | inl same ↦ rw same (subst (λ m. IsLatest carried_table (λ r. r.carried) trees m earlier.link_carried)
      (sym (eqb-true last link same)) are.link_carried)
  | inr other ↦ rw other
      (are.last_carried.latest (λ same. true≢false (sym (eq-eqb last link same) ∙ other)))
]

-- what a call answers is answered under another error
ok_with_another_error : {A E F : Type 0} (r : Result A E) (q : Result A F) (N : E → Type 0) (P : A → Type 0)
    → is_ok q ≡ is_ok r → MatchResult r (λ x. q ≡ Ok x) N → IfOk r P → IfOk q P
ok_with_another_error (Ok x) q N P same is h = rw is h
ok_with_another_error (Err e) (Ok y) N P same is h = absurd (let never : true ≡ false = same in cc)
ok_with_another_error (Err e) (Err f) N P same is h = tt

pub returns-clause-read : goal.returns-clause-read
returns-clause-read g c = λ clean has is cached plan link last quoted.
    let trees = (state g.S.Store c.args.conn.now).now.trees in
    let s : Sources = office_sources (office_in trees) in
    let are = c.in_ok-earlier.ensures.read clean has is cached in
    let before = before_latest trees c.args.link c.args.last c.in_ok-earlier.earlier are in
    ok_with_another_error c.groups_after-made.result c.map_err.result _ _ c.map_err.ensures.variant
    c.map_err.ensures.cases
    (if_ok c.groups_after-made.result _ _ c.groups_after-made.ensures (λ v made. λ p fit. made s plan
    (c.rows_in.ensures.rows ∙ are.link_carried.rows ∙ ap (carried_of s.releases) link)
    (c.rows_in-2.ensures.rows ∙ are.link_frozen.rows ∙ ap (frozen_of s.releases) link)
    (c.rows_before.ensures ∙ before.rows ∙ ap (carried_of s.releases) last) (sym (quoted fit)) p fit))

pub returns-clause-stand : goal.returns-clause-stand
returns-clause-stand g c = λ clean has is cached link last.
    let trees = (state g.S.Store c.args.conn.now).now.trees in
    let are = c.in_ok-earlier.ensures.read clean has is cached in
    let before = before_latest trees c.args.link c.args.last c.in_ok-earlier.earlier are in
    on_any c.map_err.result _ (record {
      link_carried = subst (λ m. LatestStands carried_in_row 30 m trees) link are.link_carried.stand;
      link_frozen = subst (λ m. LatestStands frozen_in 28 m trees) link are.link_frozen.stand;
      last_carried = subst (λ m. LatestStands carried_in_row 30 m trees) last before.stand;
    })
