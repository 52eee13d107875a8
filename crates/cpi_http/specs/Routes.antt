-- The routes: a method and a path, and the word of the record that asks the same.
use Rattle.std.specs.Prelude.{ℕ, List, [], Option, Some, None, Result, Ok, Err, if◌then◌else◌, codes, bytes_eq}
use Rattle.matchit.specs.Rows.{RowsOf}
use Rattle.matchit.specs.Order.{placed}
use Rattle.matchit.specs.Seek.{first}
use Rattle.matchit.specs.Route.{Scan, parse_route}
use Rattle.matchit.specs.Router.{RouteOf, route_from}
use Rattle.matchit.specs.declared.error.InsertError.{InsertError}
use Rattle.cpi_http.specs.declared.routes.Route.{Route}
use Rattle.cpi_http.specs.declared.routes.Route.TheVariants as route

abbrev pub Routes : Type 0
Routes = RowsOf (RouteOf Route)

abbrev pub with_parsed : Result Scan InsertError → Route → Routes → Routes
with_parsed (Ok scan) p routes = placed (scan.pattern, route_from scan p) routes
with_parsed (Err e) p routes = routes

-- one row of the table of routes
pub record RouteRow : Type 0 where
  pub method : List ℕ
  pub path : List ℕ  -- with its parameters in braces
  pub word : List ℕ

abbrev row : List ℕ → List ℕ → List ℕ → RouteRow
row method path word = record { method = method; path = path; word = word }

-- the table of routes
abbrev pub row_of_route : Route → RouteRow
row_of_route route.Items = row (codes "GET") (codes "/items") (codes "items")
row_of_route route.Tables = row (codes "GET") (codes "/tables") (codes "tables")
row_of_route route.Table = row (codes "GET") (codes "/table/{month}/{form}") (codes "table")
row_of_route route.TableRevision = row (codes "GET") (codes "/table/{month}/{form}/{revision}") (codes "table")
row_of_route route.Work = row (codes "GET") (codes "/work/{month}") (codes "work")
row_of_route route.Quotes = row (codes "GET") (codes "/quotes/{first}/{last}") (codes "quotes")
row_of_route route.Quote = row (codes "PUT") (codes "/quote/{slot}/{month}") (codes "quote")
row_of_route route.Plan = row (codes "PUT") (codes "/plan/{year}") (codes "plan")
row_of_route route.Import = row (codes "POST") (codes "/import") (codes "import")

abbrev pub method_of : Route → List ℕ
method_of p = (row_of_route p).method

abbrev pub word_of_route : Route → List ℕ
word_of_route p = (row_of_route p).word

-- the routes with one more
abbrev pub with_route : Routes → Route → Routes
with_route routes p = with_parsed (parse_route (row_of_route p).path) p routes

-- all routes
unfoldable pub all_routes : Routes
all_routes =
    with_route (with_route (with_route (with_route (with_route (with_route (with_route (with_route (with_route []
    route.Items) route.Tables) route.Table) route.TableRevision) route.Work) route.Quotes) route.Quote)
    route.Plan) route.Import

-- the route that was found, if it has that method
abbrev pub with_method : List ℕ → Option (RouteOf Route) → Option Route
with_method method None = None
with_method method (Some found) = if bytes_eq method (method_of found.value) then Some found.value else None

-- the route of a method and a path, if there is one
abbrev pub route_of : List ℕ → List ℕ → Option Route
route_of method path = with_method method (first all_routes path)
