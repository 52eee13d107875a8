-- What a service does to a part of itself.
use Rattle.std.proofs.Common.{◌≡◌, ◌∙◌, ap, subst, ℕ, [], ◌∷◌, Some, None, Result, Ok, Err}
use Rattle.cpi_app.specs.declared.listener.NoClock.{NoClock}
use Rattle.cpi_app.specs.Connection.{Connection, Outcome, Serving}
use Rattle.cpi_app.specs.Listener.{Meeting}
use Rattle.cpi_app.specs.Visits.{AreServed, ServesUpTo, Visits}

-- if a service serves each connection by a part that stays, and changes only another part, it does so for them all
module _ {L S D B : Type 0} (meets : Meeting L) (serves : Serving S) (desk : S → D) (book : S → B) (at : D → Serving B)
    (step : (s : S) (c : Connection) (o : Outcome) (t : S) → serves s c o t
    → (desk t ≡ desk s) × at (desk s) (book s) c o (book t)) where
  pub served_by_part : (first is : L) (s t : S) (visits : Visits) → AreServed meets serves first s visits is t
      → (desk t ≡ desk s) × AreServed meets (at (desk s)) first (book s) visits is (book t)
  served_by_part first is s t [] h = (ap desk h.1, (h.0, ap book h.1))
  served_by_part first is s t (None ∷ earlier) h =
      let before = served_by_part first h.0 s t earlier h.1 in
      (before.0, (h.0, before.1, h.2))
  served_by_part first is s t (Some visit ∷ earlier) h =
      let before = served_by_part first h.0 s h.1 earlier h.2 in
      let last = step h.1 visit.came visit.outcome t h.4 in (
        last.0 ∙ before.0,
        (
          h.0,
          book h.1,
          before.1,
          h.3,
          subst (λ d. at d (book h.1) visit.came visit.outcome (book t)) before.0 last.1,
        ),
      )

  pub ends_by_part : (limit : ℕ) (first is : L) (s t : S) (outcome : Result ℕ NoClock)
      → ServesUpTo meets serves limit first is s t outcome
      → ServesUpTo meets (at (desk s)) limit first is (book s) (book t) outcome
  ends_by_part limit first is s t (Ok left) h = (h.0, (served_by_part first is s t h.0 h.1).1, h.2, h.3)
  ends_by_part limit first is s t (Err none) h =
      (h.0, h.1, (served_by_part first h.1 s t h.0 h.2).1, h.3, h.4, h.5)
