-- What a statement of a known text commits.
use Rattle.std.proofs.Common.{◌≡◌, ℕ, List, None, append-nil, sym, ap}
use Rattle.std.proofs.Common.{subst, subst₂, ◌∙◌}
use Rattle.sqlite.specs.Order.{Row}
use Rattle.sqlite.specs.Tree.{Trees}
use Rattle.sqlite.specs.Schema.{Schema}
use Rattle.sqlite.specs.Command.{Command}
use Rattle.sqlite.specs.Listing.{understood}
use Rattle.sqlite.specs.State.{State, CommitsBy, MayCommit, text_of}
use Rattle.sqlite.specs.Clock.{timed}
use Rattle.sqlite.proofs.Callers.{IsPlain, command_of, statement_of}

module _ (sql : List ℕ) (params : Row) (old : State) (schema : Schema) (has : old.now.schema ≡ schema)
    (command : Command) (is : command_of (understood schema sql) ≡ command)
    (plain : IsPlain (understood schema sql)) where
  pub commits_as : (db : Trees) → CommitsBy sql params old db
      → MayCommit old None command (statement_of sql (understood schema sql)) params db
  unfolding CommitsBy
  commits_as db h =
      let known = sym h.1.is ∙ ap (λ s. understood s sql) has in
      let bare = subst IsPlain (sym known) plain in
      let may : MayCommit old h.0.returning h.0.command (text_of sql h.0) (timed params h.0.formats h.1.now) db = h.2 in
      subst₂ (λ k t. MayCommit old None k t params db) (ap command_of known
      ∙ is) (ap (statement_of sql) known) (rw (bare.0, bare.1, append-nil params) at may)
