-- Projections of a run over a book: the view of each caller is rebuilt.
use Rattle.std.proofs.Common.{◌≡◌, ℕ, zero, suc, Bool, true, false, List, [], ◌∷◌, Some, None, refl, sym, ap, ◌∙◌, take}
use Rattle.std.specs.Prelude.{IsFalse, slice_get}
use Rattle.std.proofs.lemmas.Bool.{false≢true}
use Rattle.cpi_store.specs.Office.{Office}
use Rattle.cpi_office.specs.Answers.{answer}
use Rattle.cpi_office.specs.Runs.{replies, reply_to, after, next}
use Rattle.cpi_store.specs.Sound.{IsSound}
use Rattle.cpi_office.specs.Calls.{is_failure_of}
use Rattle.cpi_office.specs.Served.{all_served, all_told, IsRun}
use Rattle.cpi_office.specs.RebuiltProjections.{AreFromViews}
use Rattle.cpi_office.specs.declared.request.Ask.{Ask}
use Rattle.cpi_office.specs.declared.reply.Reply.{Reply}
use Rattle.cpi_office.specs.Releases.{KeepsReleases}
use Rattle.cpi_office.proofs.Isolation.{from_view}
use Rattle.cpi_office.proofs.IsolationOfMessages.{replied_by_view}
use Rattle.cpi_office.proofs.OneChange.{changes_rows}
use Rattle.cpi_office.proofs.RebuiltProjections.{releases_stay}

pub run_stays : (o u : Office) (asks : List Ask) (rs : List Reply) → IsSound o → IsRun o asks rs u → KeepsReleases o u
run_stays o u asks rs s run key r there = rw run.office (releases_stay (all_served asks rs) o s key r there)

same_heads : {A : Type 0} (x y : A) (xs ys : List A) → x ∷ xs ≡ y ∷ ys → (x ≡ y) × (xs ≡ ys)
same_heads x y xs ys e = (cc, cc)

some_is : {A : Type 0} (x y : A) → Some x ≡ Some y → x ≡ y
some_is x y e = cc

none_is : {A P : Type 0} (x : A) → None ≡ Some x → P
none_is x e = cc

-- what is to be shown of the requests that are left, from the office as it is then
abbrev RepliesIn : List Ask → List Reply → Office → Type 0
RepliesIn asks rs u =
    replies (all_served asks rs) u ≡ all_told rs → (m : ℕ) (a : Ask) (r : Reply) → slice_get asks m ≡ Some a →
    slice_get rs m ≡ Some r → IsFalse (is_failure_of r) →
    r ≡ reply_to a.now a.caller a.request (after (all_served (take m asks) (take m rs)) u)

-- each reply in its place is that of the office after the requests before it
pub reply_in : (o : Office) (asks : List Ask) (rs : List Reply) → replies (all_served asks rs) o ≡ all_told rs →
    (n : ℕ) (a : Ask) (r : Reply) → slice_get asks n ≡ Some a → slice_get rs n ≡ Some r → IsFalse (is_failure_of r) →
    r ≡ reply_to a.now a.caller a.request (after (all_served (take n asks) (take n rs)) o)
reply_in o [] rs run n a r asked said fine = none_is a asked
reply_in o (b ∷ asks) [] run n a r asked said fine = none_is r said
reply_in o (b ∷ asks) (s ∷ rs) run n a r asked said fine = cases (is_failure_of s) refl n asked said
    (reply_in o asks rs)
    (reply_in (next b o) asks rs)
  where
    cases : (w : Bool) → is_failure_of s ≡ w → (n : ℕ) → slice_get (b ∷ asks) n ≡ Some a →
        slice_get (s ∷ rs) n ≡ Some r →
        RepliesIn asks rs o → RepliesIn asks rs (next b o) →
        r ≡ reply_to a.now a.caller a.request (after (all_served (take n (b ∷ asks)) (take n (s ∷ rs))) o)
    cases true e zero asked said same on = absurd
        (false≢true (sym fine ∙ ap is_failure_of (sym (some_is s r said)) ∙ e))
    cases false e zero asked said same on =
        let first = same_heads (reply_to b.now b.caller b.request o) s (replies (all_served asks rs) (next b o))
        (all_told rs) (rw e at run) in
        sym (some_is s r said) ∙ sym first.0 ∙ ap (λ (x : Ask). reply_to x.now x.caller x.request o) (some_is b a asked)
    cases true e (suc m) asked said same on = rw e (same (rw e at run) m a r asked said fine)
    cases false e (suc m) asked said same on =
        let first = same_heads (reply_to b.now b.caller b.request o) s (replies (all_served asks rs) (next b o))
        (all_told rs) (rw e at run) in
        rw e (on first.1 m a r asked said fine)

pub run_from_views : (o u : Office) (asks : List Ask) (rs : List Reply) → IsSound o → IsRun o asks rs u →
    AreFromViews o asks rs
run_from_views o u asks rs s run n a r asked said fine other =
    let front = all_served (take n asks) (take n rs) in (
      after front o,
      changes_rows front o s,
      reply_in o asks rs run.answers n a r asked said fine
          ∙ from_view answer reply_to replied_by_view a.now a.caller a.request (after front o) other,
    )
