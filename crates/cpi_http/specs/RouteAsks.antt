-- The request that a route asks for: that of the record with its word and the same arguments.
use Rattle.std.specs.Prelude.{ℕ, List, [], ◌∷◌, ◌++◌, drop, Option, ◌==◌}
use Rattle.std.specs.List.{slice_split}
use Rattle.cpi_codes.specs.Following.{◌>>=◌}
use Rattle.cpi_codes.specs.Zone.{ZoneRule}
use Rattle.cpi_office.specs.declared.caller.Caller.{Caller}
use Rattle.cpi_wire.specs.declared.asks.Ask.{Ask}
use Rattle.cpi_wire.specs.OnlyRows.{only_row_of}
use Rattle.cpi_wire.specs.Record.{spelled_asks}
use Rattle.cpi_http.specs.declared.routes.Route.{Route}
use Rattle.cpi_http.specs.declared.routes.Route.TheVariants as route
use Rattle.cpi_http.specs.Routes.{word_of_route}

-- the parts of a path between its slashes; 47 is `/`
abbrev pub parts_of : List ℕ → List (List ℕ)
parts_of path = slice_split (λ b. b == 47) path

-- the parts after the first two, which are empty and the name of the route
abbrev pub path_arguments : List ℕ → List (List ℕ)
path_arguments path = drop 2 (parts_of path)

-- a word whose last arguments are the fields of the body's one row
abbrev pub ask_by_row : ZoneRule → ℕ → Caller → List ℕ → List (List ℕ) → List ℕ → Option Ask
ask_by_row zone now caller word front body =
    only_row_of body >>= λ fields. spelled_asks zone now caller word (front ++ fields)

-- The arguments of the path come first. A quote has after them the fields of the only row of the body; a plan and an
-- import have the body itself; other routes have nothing.
abbrev pub ask_of_route : ZoneRule → ℕ → Caller → Route → List ℕ → List ℕ → Option Ask
ask_of_route zone now caller route.Quote path body =
    ask_by_row zone now caller (word_of_route route.Quote) (path_arguments path) body
ask_of_route zone now caller route.Plan path body =
    spelled_asks zone now caller (word_of_route route.Plan) (path_arguments path ++ body ∷ [])
ask_of_route zone now caller route.Import path body =
    spelled_asks zone now caller (word_of_route route.Import) (path_arguments path ++ body ∷ [])
ask_of_route zone now caller other path body = spelled_asks zone now caller (word_of_route other) (path_arguments path)
