use Rattle.std.proofs.Common.{arith, ◌≡◌, ap, ◌∙◌, refl}
use Rattle.cpi_release.proofs.Sound.{levels_ordered}
use Rattle.cpi_release.proofs.history_groups.HistoryGroupsGroups.chained.Goals as goal

pub returns : goal.returns
returns c =
    let releases = c.args.self.now.releases in
    let same : c.as_slice.result.now ≡ releases = c.as_slice.ensures ∙ ap (λ z. z.releases) c.self.view_is in
    let level = rw same at c.level_in.ensures in
    record {
      keeps = record { was_kept = λ x. x; was_clean = λ x. x; kept = λ _. refl; crash = λ _ _ _ x. x };
      stays = λ _ _. tt;
      count = omega arith;
      shown = λ _. λ fit. level (levels_ordered releases fit.0 c.args.month);
      fault = tt;
    }
