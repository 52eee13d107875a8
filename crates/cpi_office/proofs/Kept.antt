-- Each change that is made keeps an office sound.
use Rattle.std.proofs.Common.{[]}
use Rattle.std.specs.Ordering.{nat_cmp}
use Rattle.cpi_rows.specs.Held.{held_cmp, held_key}
use Rattle.cpi_store.specs.Office.{Office, Change, office_with, PutsItem, PutsPlan, PutsCalendar, Registers, PutsOutlet}
use Rattle.cpi_store.specs.Office.{Assigns, HandsOver, Quotes, Freezes}
use Rattle.cpi_survey.specs.Quote.{quote_key, quote_cmp}
use Rattle.cpi_store.specs.FrozenLists.{HasFrozenList}
use Rattle.cpi_store.specs.Orderly.{IsOrderly}
use Rattle.cpi_store.specs.Sound.{IsSound, HasItsItem, HasItsAssignment, HasNodesInOrder}
use Rattle.cpi_rows.proofs.Lists.{all_put, all_weaker}
use Rattle.cpi_rows.proofs.Puts.{at_put_some}
use Rattle.cpi_release.specs.FrozenMonths.{release_cmp, release_key}
use Rattle.cpi_store.proofs.Released.{newly_frozen, released_more, replanned}
use Rattle.cpi_store.proofs.Changes.{IsNewlyGiven, sound_given, given_assigned, quoted_assigned, frozen_assigned}
use Rattle.cpi_store.proofs.Changes.{priced_assigned, given_handed, quoted_handed, frozen_handed, priced_handed}
use Rattle.cpi_office.proofs.Accepted.{Fits}
use Rattle.cpi_office.proofs.Fit.{fits_named, fits_new}
use Rattle.cpi_office.proofs.Orderly.{stays_orderly}

still_orderly : (c : Change) (o : Office) → IsSound o → Fits c o → IsOrderly (office_with c o)
still_orderly c o s h = stays_orderly c o s.orderly (fits_named o s.orderly c h) (fits_new o s.orderly c h)

-- What a change leaves as it was is taken from the sound office by `assumption`.
pub stays_sound : (c : Change) (o : Office) → IsSound o → Fits c o → IsSound (office_with c o)
stays_sound (PutsItem i) o s h = assumption (
  still_orderly (PutsItem i) o s h,
  all_weaker (HasItsItem o) (HasItsItem (office_with (PutsItem i) o))
      (λ row has. at_put_some (λ i. i.code) i o.items s.orderly.items h row.1.assignment.item has) o.assignments
      s.priced,
)
stays_sound (PutsPlan p) o s h = assumption (
  still_orderly (PutsPlan p) o s h,
  all_put HasNodesInOrder nat_cmp (λ y. y.year) p o.plans h.1 s.nodes,
  replanned o.plans p s.orderly.plans [] o.releases h.0 s.released,
)
stays_sound (PutsCalendar r) o s h = assumption (still_orderly (PutsCalendar r) o s h)
stays_sound (Registers b) o s h = assumption (still_orderly (Registers b) o s h)
stays_sound (PutsOutlet u) o s h = assumption (still_orderly (PutsOutlet u) o s h)
stays_sound (Assigns b a) o s h =
    let new : IsNewlyGiven o.assignments b.number a.assignment = record { new = h.0; made = h.5 } in
    assumption (
      still_orderly (Assigns b a) o s h,
      given_assigned o.assignments b.number a.assignment (sound_given o s) new,
      priced_assigned o b.number a.assignment o.assignments h.3 s.priced,
      quoted_assigned o.assignments b.number a.assignment (sound_given o s) new o.quotes s.quoted,
      frozen_assigned o.assignments b.number a.assignment (sound_given o s) new o.releases s.frozen,
    )
stays_sound (HandsOver h) o s fits = assumption (
  still_orderly (HandsOver h) o s fits,
  given_handed o.assignments o.quotes h (sound_given o s) fits.0,
  priced_handed o.assignments o.quotes h (sound_given o s) fits.0 o s.priced,
  quoted_handed o.assignments o.quotes h (sound_given o s) fits.0 s.quoted,
  frozen_handed o.assignments o.quotes h (sound_given o s) fits.0 o.releases s.frozen,
)
stays_sound (Quotes b q) o s h = assumption (
  still_orderly (Quotes b q) o s h,
  all_put (HasItsAssignment o.assignments) (held_cmp quote_cmp) (held_key quote_key)
      (b.number, q) o.quotes h.1 s.quoted,
)
stays_sound (Freezes r) o s h = assumption (
  still_orderly (Freezes r) o s h,
  all_put (HasFrozenList o.assignments) release_cmp release_key r o.releases (newly_frozen o s r h.2) s.frozen,
  released_more o.plans o.releases s.orderly.releases r s.released h.1,
)
