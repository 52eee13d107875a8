use Rattle.std.proofs.Common.{◌≡◌, Some, None}
use Rattle.std.specs.Ordering.{nat_cmp}
use Rattle.cpi_rows.specs.Held.{held_cmp, held_key}
use Rattle.cpi_rows.proofs.Places.{none_in_order}
use Rattle.cpi_survey.specs.Quote.{quote_cmp, quote_key}
use Rattle.cpi_release.specs.FrozenMonths.{release_cmp, release_key}
use Rattle.cpi_office.proofs.laws.empty_is_sound.Goals as goal

pub returns : goal.returns
returns c = record {
  orderly = record {
    items = none_in_order nat_cmp (λ i. i.code);
    plans = none_in_order nat_cmp (λ y. y.year);
    calendar = none_in_order nat_cmp (λ r. r.month);
    collectors = none_in_order nat_cmp (λ b. b.number);
    keys = λ n b found. let no : None ≡ Some b = found in cc;
    outlets = none_in_order nat_cmp (λ u. u.number);
    assignments = none_in_order (held_cmp nat_cmp) (held_key (λ g. g.assignment.slot));
    given = tt;
    quotes = none_in_order (held_cmp quote_cmp) (held_key quote_key);
    quoted = tt;
    releases = none_in_order release_cmp release_key;
  };
  made = tt;
  priced = tt;
  series = tt;
  apart = tt;
  quoted = tt;
  nodes = tt;
  frozen = tt;
  released = tt;
}
