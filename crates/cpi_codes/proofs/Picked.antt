-- The offset before a change of the clock gives the second that is stated.
use Rattle.std.proofs.Common.{◌≡◌, ℕ, ℤ, List, Bool, true, false, cond, pos, ◌-ℤ◌, Option, Some, None, refl, arith, not}
use Rattle.std.specs.Prelude.{int_lt}
use Rattle.std.proofs.lemmas.Int.{ints}
use Rattle.jiff.proofs.SpanFacts.{signed_arith}
use Rattle.jiff.specs.Words.{ambiguous_at, civil_nanos, civil_seconds, compatible_offset}
use Rattle.jiff.specs.Placed.{IsPosixZone}
use Rattle.jiff_core.specs.declared.Offset.{Offset}
use Rattle.jiff_core.specs.declared.civil.datetime.DateTime.{DateTime}
use Rattle.jiff_tz.specs.declared.ambiguous.AmbiguousOffset.{AmbiguousOffset}
use Rattle.jiff_tz.specs.declared.ambiguous.AmbiguousOffset.TheVariants.{Unambiguous, Gap, Fold}
use Rattle.jiff_tz.specs.declared.timezone.TimeZone.{TimeZone as PlainZone}
use Rattle.jiff_tz.specs.declared.timezone.TimeZone.TheVariants.{UTC, Unknown, Fixed, Posix, Tzif}
use Rattle.jiff_tz.specs.declared.posix.Dst.{Dst}
use Rattle.jiff_tz.specs.PosixRule as PosixRule
use Rattle.cpi_codes.specs.Picked.{IsPicked, PicksAsStated}

by_cond : (P : AmbiguousOffset → Type 0) (b : Bool) (x y : AmbiguousOffset) → (b ≡ true → P x) → (b ≡ false → P y) →
    P (cond b x y)
by_cond P true x y p q = p refl
by_cond P false x y p q = q refl

abbrev Picked : ℤ → AmbiguousOffset → Type 0
Picked civil offsets = IsPicked offsets civil (civil -ℤ (compatible_offset offsets).seconds)

fold : (civil : ℤ) (before after : Offset) → int_lt after.seconds before.seconds ≡ true →
    Picked civil (Fold before after)
fold civil before after h = (refl, omega (arith, signed_arith, ints))

gap : (civil : ℤ) (before after : Offset) → int_lt before.seconds after.seconds ≡ true → Picked civil (Gap before after)
gap civil before after h = (omega (arith, signed_arith, ints), omega (arith, signed_arith))

behind : (civil : ℤ) (std dst : Offset) (w : ℤ × ℤ) (at : ℤ) → int_lt dst.seconds std.seconds ≡ true →
    Picked civil (PosixRule.ambiguous_behind std dst w at)
behind civil std dst w at h =
    let shift = PosixRule.shift_between std dst in
    let is_fold = PosixRule.in_span (PosixRule.saturating_add w.0 shift) w.0 at in
    let is_gap = PosixRule.in_span w.1 (PosixRule.saturating_sub w.1 shift) at in
    let third = by_cond (Picked civil) is_gap (Gap dst std) (Unambiguous std) (λ _. gap civil dst std h) (λ _. refl) in
    let second = by_cond (Picked civil) is_fold (Fold std dst) (cond is_gap (Gap dst std) (Unambiguous std))
    (λ _. fold civil std dst h) (λ _. third) in
    by_cond (Picked civil) (PosixRule.in_window w at) (Unambiguous dst)
    (cond is_fold (Fold std dst) (cond is_gap (Gap dst std) (Unambiguous std))) (λ _. refl) (λ _. second)

ahead : (civil : ℤ) (std dst : Offset) (w : ℤ × ℤ) (at : ℤ) → int_lt std.seconds dst.seconds ≡ true →
    Picked civil (PosixRule.ambiguous_ahead std dst w at)
ahead civil std dst w at h =
    let shift = PosixRule.shift_between std dst in
    let is_gap = PosixRule.in_span w.0 (PosixRule.saturating_add w.0 shift) at in
    let is_fold = PosixRule.in_span (PosixRule.saturating_sub w.1 shift) w.1 at in
    let third = by_cond (Picked civil) is_fold (Fold dst std) (Unambiguous dst) (λ _. fold civil dst std h)
    (λ _. refl) in
    let second = by_cond (Picked civil) is_gap (Gap std dst) (cond is_fold (Fold dst std) (Unambiguous dst))
    (λ _. gap civil std dst h) (λ _. third) in
    by_cond (Picked civil) (not (PosixRule.in_window w at)) (Unambiguous std)
    (cond is_gap (Gap std dst) (cond is_fold (Fold dst std) (Unambiguous dst))) (λ _. refl) (λ _. second)

picked_by : (civil : ℤ) (std dst : Offset) (w : ℤ × ℤ) (at : ℤ) → Picked civil (PosixRule.ambiguous_by std dst w at)
picked_by civil std dst w at =
    by_cond (Picked civil) (int_lt dst.seconds std.seconds) (PosixRule.ambiguous_behind std dst w at)
    (cond (int_lt std.seconds dst.seconds) (PosixRule.ambiguous_ahead std dst w at) (Unambiguous std))
    (behind civil std dst w at)
    (λ _. by_cond (Picked civil) (int_lt std.seconds dst.seconds) (PosixRule.ambiguous_ahead std dst w at)
    (Unambiguous std) (ahead civil std dst w at) (λ _. refl))

picked_rule : (civil : ℤ) (std : Offset) (dst : Option Dst) (dt : DateTime) →
    Picked civil (PosixRule.ambiguous_at_by std dst dt)
picked_rule civil std None dt = refl
picked_rule civil std (Some d) dt = picked_by civil std d.offset
    (PosixRule.rule_nanos dt.date.year d.rule.start (pos 0), PosixRule.rule_nanos dt.date.year d.rule.end (pos 0))
    (civil_nanos dt)

picked_in : (civil : ℤ) (zone : PlainZone) (text : List ℕ) (dt : DateTime) → IsPosixZone text zone →
    Picked civil (ambiguous_at zone dt)
unfolding ambiguous_at
picked_in civil (Posix tz) text dt h = picked_rule civil tz.std_offset tz.dst dt
picked_in civil UTC text dt h = absurd h
picked_in civil Unknown text dt h = absurd h
picked_in civil (Fixed o) text dt h = absurd h
picked_in civil (Tzif z) text dt h = absurd h

pub picks_as_stated : PicksAsStated
picks_as_stated zone text dt h = picked_in (civil_seconds dt) zone text dt h
