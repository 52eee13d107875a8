-- A text is one time of the calendar at most.
use Rattle.std.proofs.Common.{◌≡◌, ◌+◌, ◌/◌, ◌%◌, ℕ, ◌∙◌, sym, ap, arith, get_or, pos, refl}
use Rattle.cpi_codes.proofs.CodeSpelling.{same_digits}
use Rattle.jiff.proofs.Family.{same_date, same_time}
use Rattle.jiff_core.proofs.DateLemmas.{epoch_day_same}
use Rattle.jiff_core.specs.Time.{time_nanos}
use Rattle.cpi_codes.specs.Civil.{civil_text}
use Rattle.cpi_codes.specs.Civil.{OneTime}

pub one_time : OneTime
one_time text y z a b p q =
    let same = sym p.spelled ∙ q.spelled in
    let at : (k : ℕ) → get_or (civil_text y a.date.month a.date.day a.time.hour a.time.minute) k 0 ≡ get_or
    (civil_text z b.date.month b.date.day b.time.hour b.time.minute) k 0 = λ k. ap (λ l. get_or l k 0) same in
    let month = same_digits a.date.month b.date.month (at 5) (at 6) in
    let day = same_digits a.date.day b.date.day (at 8) (at 9) in
    let hour = same_digits a.time.hour b.time.hour (at 11) (at 12) in
    let minute = same_digits a.time.minute b.time.minute (at 14) (at 15) in
    let century = same_digits (y / 100) (z / 100) (at 0) (at 1) in
    let in_century = same_digits (y % 100) (z % 100) (at 2) (at 3) in
    let year : y ≡ z = omega arith in
    let year_same : a.date.year ≡ b.date.year = p.year_is ∙ ap (λ n. pos n) year ∙ sym q.year_is in
    let date = same_date a.date b.date (epoch_day_same a.date b.date year_same month day) in
    let nanos : time_nanos a.time ≡ time_nanos b.time =
    rw (hour, minute, p.second, q.second, p.fraction, q.fraction) refl in
    let time = same_time a.time b.time nanos in
    (year, λ i. record { date = date i; time = time i })
