-- The projection of an office to what one caller may see at a moment: the caller's view.
use Rattle.std.specs.Prelude.{ℕ, List, Option, None, option_map}
use Rattle.cpi_survey.specs.Public.{PublicPart}
use Rattle.cpi_survey.specs.Own.{OwnPart}
use Rattle.cpi_store.specs.declared.registration.Registration.{Registration}
use Rattle.cpi_store.specs.Office.{Office, public_part, own_part}
use Rattle.cpi_store.specs.Registration.{registration_of}
use Rattle.cpi_release.specs.PublishedTables.{PublishedTable, published_until}
use Rattle.cpi_office.specs.declared.caller.Caller.{Caller}
use Rattle.cpi_office.specs.declared.caller.Caller.TheVariants.{Public, Collector, Desk}

-- a collector's number, and what is the collector's own
pub record OwnView : Type 0 where
  pub number : ℕ
  pub part : OwnPart

-- the public specification, the caller's own part, and the tables that are published
pub record View : Type 0 where
  pub public : PublicPart
  pub own : Option OwnView
  pub tables : List PublishedTable  -- by month

abbrev pub own_view : Office → Registration → OwnView
own_view o b = record { number = b.number; part = own_part b.number o }

-- the own part of the collector whose key it is; the public and the desk have none
abbrev pub own : Caller → Office → Option OwnView
own (Collector key) o = option_map (own_view o) (registration_of key o.collectors)
own Public o = None
own Desk o = None

-- the projection: what a caller may see of the office at a moment, in seconds since 1970 UTC
abbrev pub view : Caller → ℕ → Office → View
view k t o = record { public = public_part o; own = own k o; tables = published_until t o.releases }
