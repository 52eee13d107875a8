use Rattle.std.proofs.Common.{subst, ◌≡◌, ◌++◌, List, [], ◌∷◌, length, ◌+◌, ap, sym, ◌∙◌, append_assoc, Result, Ok, Err}
use Rattle.std.proofs.Common.{OnErr}
use Rattle.std.proofs.lemmas.List.{length-append, append-nil, nil_from_length}
use Rattle.std.specs.Vec.Iter.{into_iter_items}
use Rattle.cpi_release.specs.State.{State}
use Rattle.cpi_store.specs.Office.{Office}
use Rattle.cpi_office.specs.Runs.{reply_to, next}
use Rattle.cpi_office.specs.Calls.{ServesWhere}
use Rattle.cpi_store.specs.Sound.{IsSound}
use Rattle.cpi_office.specs.RebuiltProjections.{AreFromViews}
use Rattle.cpi_store.proofs.History.{releases_computed}
use Rattle.cpi_office.specs.ComputedTables.{TellTables}
use Rattle.cpi_office.proofs.RunViews.{run_from_views, run_stays}
use Rattle.cpi_office.proofs.ComputedTables.{run_tables}
use Rattle.cpi_office.specs.Served.{RunOverBook, all_served}
use Rattle.cpi_office.specs.OneChange.{ChangesRows}
use Rattle.cpi_office.proofs.OneChange.{run_rows}
use Rattle.cpi_office.specs.declared.request.Ask.{Ask}
use Rattle.cpi_office.specs.declared.reply.Reply.{Reply}
use Rattle.cpi_office.proofs.Served.{ran_more, run_sound}
use Rattle.cpi_office.proofs.NonInterferenceOfRuns.{run_is_non_interfering}
use Rattle.cpi_office.specs.NonInterferenceOfRuns.{IsNonInterfering}
use Rattle.cpi_office.proofs.office.Office.run.Goals as goal

-- one request more is carried out
module _ (o u w : State Office) (all front rest later : List Ask) (rs : List Reply) (a : Ask) (r : Reply) where
  one_more : all ≡ front ++ rest → rest ≡ a ∷ later → length rs ≡ length front → RunOverBook o u front rs →
      ServesWhere u w (IsSound u.held) r (reply_to a.now a.caller a.request u.held) (next a u.held) →
      (all ≡ (front ++ a ∷ []) ++ later) × (length (rs ++ r ∷ []) ≡ length (front ++ a ∷ []))
      × RunOverBook o w (front ++ a ∷ []) (rs ++ r ∷ [])
  one_more split head same so_far serves = (
    split ∙ ap (λ ys. front ++ ys) head ∙ sym (append_assoc front (a ∷ []) later),
    length-append rs (r ∷ [])
        ∙ ap (λ n. n + 1) same ∙ sym (length-append front (a ∷ [])),
    ran_more o u w front rs a r same so_far serves,
  )

err_any : {A E P : Type 0} (r : Result A E) → P → OnErr r P
err_any (Ok x) p = tt
err_any (Err e) p = p

pub loop-ask-preserved : goal.loop-ask-preserved
loop-ask-preserved g c =
    let n = c.loop-ask.invariant in
    let more = one_more (g.B.Book.state c.args.self.now.book) (g.B.Book.state c.loop-ask.self.book)
    (g.B.Book.state c.handle-reply.new.self.book)
    c.args.asks.items n.0 (into_iter_items c.loop-ask.rest) (into_iter_items c.next.new.self) c.loop-ask.told.items
    c.in-Some.ask c.handle-reply.result
    n.1 c.in-Some.ensures.items n.2 n.3 c.handle-reply.ensures.serves in
    rw c.in_ok-push.ensures.items (n.0 ++ c.in-Some.ask ∷ [], more.0, more.1, more.2)

pub returns-in_err-push-clause-err : goal.returns-in_err-push-clause-err
returns-in_err-push-clause-err g c =
    let n = c.loop-ask.invariant in
    let more = one_more (g.B.Book.state c.args.self.now.book) (g.B.Book.state c.loop-ask.self.book)
    (g.B.Book.state c.handle-reply.new.self.book)
    c.args.asks.items n.0 (into_iter_items c.loop-ask.rest) (into_iter_items c.next.new.self) c.loop-ask.told.items
    c.in-Some.ask c.handle-reply.result
    n.1 c.in-Some.ensures.items n.2 n.3 c.handle-reply.ensures.serves in
    err_any c.from_residual.result (
      n.0 ++ c.in-Some.ask ∷ [],
      into_iter_items c.next.new.self,
      c.loop-ask.told.items
          ++ c.handle-reply.result ∷ [],
      more.0,
      more.2,
    )

pub returns-in_err-push-clause-sound : goal.returns-in_err-push-clause-sound
returns-in_err-push-clause-sound g c = λ clean s.
    let n = c.loop-ask.invariant in
    let state = g.B.Book.state in
    c.handle-reply.ensures.sound clean (run_sound (state c.args.self.now.book).held
    (state c.loop-ask.self.book).held n.0 c.loop-ask.told.items
    (n.3.run (c.handle-reply.ensures.serves.was_clean clean) s) s)

pub returns-clause-non_interference : goal.returns-clause-non_interference
returns-clause-non_interference g c = λ clean s.
    let n = c.loop-ask.invariant in
    let state = g.B.Book.state in
    let none_left : into_iter_items c.next.new.self ≡ [] = nil_from_length (into_iter_items c.next.new.self)
    (sym c.next.new.self.rest.ok.0 ∙ c.in_default.ensures.cases.1) in
    let whole : c.args.asks.items ≡ n.0 = n.1 ∙ ap (λ ys. n.0 ++ ys) (c.in_default.ensures.items ∙ none_left)
    ∙ append-nil n.0 in
    subst (λ asks. IsNonInterfering (state c.args.self.now.book).held asks c.loop-ask.told.items) (sym whole)
    (run_is_non_interfering (state c.args.self.now.book).held (state c.loop-ask.self.book).held n.0
    c.loop-ask.told.items s (n.3.run clean s))

pub returns-clause-rows : goal.returns-clause-rows
returns-clause-rows g c = λ clean s.
    let n = c.loop-ask.invariant in
    let state = g.B.Book.state in
    let none_left : into_iter_items c.next.new.self ≡ [] = nil_from_length (into_iter_items c.next.new.self)
    (sym c.next.new.self.rest.ok.0 ∙ c.in_default.ensures.cases.1) in
    let whole : c.args.asks.items ≡ n.0 = n.1 ∙ ap (λ ys. n.0 ++ ys) (c.in_default.ensures.items ∙ none_left)
    ∙ append-nil n.0 in
    subst (λ asks. ChangesRows (all_served asks c.loop-ask.told.items) (state c.args.self.now.book).held
    (state c.loop-ask.self.book).held) (sym whole)
    (run_rows (state c.args.self.now.book).held (state c.loop-ask.self.book).held n.0 c.loop-ask.told.items
    s (n.3.run clean s))

pub returns-clause-answers : goal.returns-clause-answers
returns-clause-answers g c = λ clean s.
    let n = c.loop-ask.invariant in
    let state = g.B.Book.state in
    let none_left : into_iter_items c.next.new.self ≡ [] = nil_from_length (into_iter_items c.next.new.self)
    (sym c.next.new.self.rest.ok.0 ∙ c.in_default.ensures.cases.1) in
    let whole : c.args.asks.items ≡ n.0 = n.1 ∙ ap (λ ys. n.0 ++ ys) (c.in_default.ensures.items ∙ none_left)
    ∙ append-nil n.0 in
    subst (λ asks. AreFromViews (state c.args.self.now.book).held asks c.loop-ask.told.items) (sym whole)
    (run_from_views (state c.args.self.now.book).held (state c.loop-ask.self.book).held n.0 c.loop-ask.told.items
    s (n.3.run clean s))

pub returns-clause-tables : goal.returns-clause-tables
returns-clause-tables g c = λ clean s.
    let n = c.loop-ask.invariant in
    let state = g.B.Book.state in
    let none_left : into_iter_items c.next.new.self ≡ [] = nil_from_length (into_iter_items c.next.new.self)
    (sym c.next.new.self.rest.ok.0 ∙ c.in_default.ensures.cases.1) in
    let whole : c.args.asks.items ≡ n.0 = n.1 ∙ ap (λ ys. n.0 ++ ys) (c.in_default.ensures.items ∙ none_left)
    ∙ append-nil n.0 in
    subst (λ asks. TellTables (state c.args.self.now.book).held asks c.loop-ask.told.items) (sym whole)
    (run_tables (state c.args.self.now.book).held (state c.loop-ask.self.book).held n.0 c.loop-ask.told.items s
    (n.3.run clean s))

pub returns-clause-sound : goal.returns-clause-sound
returns-clause-sound g c = λ clean s.
    let n = c.loop-ask.invariant in
    let state = g.B.Book.state in
    run_sound (state c.args.self.now.book).held (state c.loop-ask.self.book).held n.0 c.loop-ask.told.items
    (n.3.run clean s) s

pub returns-clause-computed : goal.returns-clause-computed
returns-clause-computed g c = λ clean s.
    let n = c.loop-ask.invariant in
    let state = g.B.Book.state in
    let new = (state c.loop-ask.self.book).held in
    releases_computed new (run_sound (state c.args.self.now.book).held new n.0 c.loop-ask.told.items
    (n.3.run clean s) s)

pub returns-clause-stay : goal.returns-clause-stay
returns-clause-stay g c = λ clean s.
    let n = c.loop-ask.invariant in
    let state = g.B.Book.state in
    run_stays (state c.args.self.now.book).held (state c.loop-ask.self.book).held n.0 c.loop-ask.told.items s
    (n.3.run clean s)

pub returns-in_err-push-clause-computed : goal.returns-in_err-push-clause-computed
returns-in_err-push-clause-computed g c = λ clean s.
    let n = c.loop-ask.invariant in
    let state = g.B.Book.state in
    let was_clean = c.handle-reply.ensures.serves.was_clean clean in
    let so_far = run_sound (state c.args.self.now.book).held
    (state c.loop-ask.self.book).held n.0 c.loop-ask.told.items (n.3.run was_clean s) s in
    releases_computed (state c.handle-reply.new.self.book).held (c.handle-reply.ensures.sound clean so_far)

pub returns-in_err-push-clause-stay : goal.returns-in_err-push-clause-stay
returns-in_err-push-clause-stay g c = λ clean s.
    let n = c.loop-ask.invariant in
    let state = g.B.Book.state in
    let more = one_more (state c.args.self.now.book) (state c.loop-ask.self.book) (state c.handle-reply.new.self.book)
    c.args.asks.items n.0 (into_iter_items c.loop-ask.rest) (into_iter_items c.next.new.self) c.loop-ask.told.items
    c.in-Some.ask c.handle-reply.result
    n.1 c.in-Some.ensures.items n.2 n.3 c.handle-reply.ensures.serves in
    run_stays (state c.args.self.now.book).held (state c.handle-reply.new.self.book).held (n.0 ++ c.in-Some.ask ∷ [])
    (c.loop-ask.told.items ++ c.handle-reply.result ∷ []) s (more.2.run clean s)
