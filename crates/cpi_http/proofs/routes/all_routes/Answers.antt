use Rattle.std.proofs.Common.{◌≡◌, Result, Ok, Err, codes, ap, ◌∙◌}
use Rattle.matchit.specs.declared.error.InsertError.{InsertError}
use Rattle.matchit.specs.Route.{Scan, parse_route}
use Rattle.matchit.specs.Router.{InsertsRead}
use Rattle.cpi_http.specs.declared.routes.Route.{Route}
use Rattle.cpi_http.specs.declared.routes.Route.TheVariants as route
use Rattle.cpi_http.specs.Routes.{Routes, with_parsed, with_route, all_routes}
use Rattle.cpi_http.proofs.routes.all_routes.Goals as goal

-- an insert that succeeds adds what the route's text gives
inserted : (scan : Result Scan InsertError) (p : Route) (old new : Routes) → InsertsRead scan p old new (Ok tt)
    → new ≡ with_parsed scan p old
inserted (Ok s) p old new h = h.1
inserted (Err e) p old new h = h.0

pub returns : goal.returns
unfolding all_routes
returns c =
    let e0 = c.new-router.ensures in
    let e1 = inserted (parse_route (codes "/items")) _ _ _ c.in_ok-insert.ensures
    ∙ ap (λ r. with_route r route.Items) e0 in
    let e2 = inserted (parse_route (codes "/tables")) _ _ _ c.in_ok-insert-2.ensures
    ∙ ap (λ r. with_route r route.Tables) e1 in
    let e3 = inserted (parse_route (codes "/table/{month}/{form}")) _ _ _ c.in_ok-insert-3.ensures
    ∙ ap (λ r. with_route r route.Table) e2 in
    let e4 = inserted (parse_route (codes "/table/{month}/{form}/{revision}")) _ _ _ c.in_ok-insert-4.ensures
    ∙ ap (λ r. with_route r route.TableRevision) e3 in
    let e5 = inserted (parse_route (codes "/work/{month}")) _ _ _ c.in_ok-insert-5.ensures
    ∙ ap (λ r. with_route r route.Work) e4 in
    let e6 = inserted (parse_route (codes "/quotes/{first}/{last}")) _ _ _ c.in_ok-insert-6.ensures
    ∙ ap (λ r. with_route r route.Quotes) e5 in
    let e7 = inserted (parse_route (codes "/quote/{slot}/{month}")) _ _ _ c.in_ok-insert-7.ensures
    ∙ ap (λ r. with_route r route.Quote) e6 in
    let e8 = inserted (parse_route (codes "/plan/{year}")) _ _ _ c.in_ok-insert-8.ensures
    ∙ ap (λ r. with_route r route.Plan) e7 in
    inserted (parse_route (codes "/import")) _ _ _ c.in_ok-insert-9.ensures ∙ ap (λ r. with_route r route.Import) e8
