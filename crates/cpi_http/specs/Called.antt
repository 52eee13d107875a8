-- The route of a request and its caller, or the status that refuses it.
use Rattle.std.specs.Prelude.{ℕ, List, Option, Some, None, Result, Ok, Err, codes}
use Rattle.cpi_office.specs.declared.caller.Caller.{Caller}
use Rattle.cpi_http.specs.declared.routes.Route.{Route}
use Rattle.cpi_http.specs.Callers.{caller_in_fields}
use Rattle.cpi_http.specs.Fields.{Header, values_named}
use Rattle.cpi_http.specs.Routes.{route_of}

abbrev pub Called : Type 0
Called = Result (Route × Caller) ℕ

abbrev pub with_caller : Route → Option Caller → Called
with_caller route None = Err 400
with_caller route (Some caller) = Ok (route, caller)

-- the route is judged before the caller: 404 comes before 400
abbrev pub called_by : Option Route → Option Caller → Called
called_by None caller = Err 404
called_by (Some route) caller = with_caller route caller

abbrev pub called_of : ℕ → List Header → List ℕ → List ℕ → Called
called_of desk_key headers method path =
    called_by (route_of method path) (caller_in_fields desk_key (values_named (codes "authorization") headers))
