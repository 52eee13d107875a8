-- What a statement shows that reads rows of one table.
use Rattle.std.proofs.Common.{◌≡◌, ℕ, List, [], ◌∷◌, map, Result, Ok, Err, IfOk, OnOk, IsTrue, Option}
use Rattle.std.proofs.Common.{refl, sym, ap, subst, ◌∙◌}
use Rattle.std.specs.Cmp.{IsTotalOrder}
use Rattle.std.specs.Result.{IsErr}
use Rattle.std.specs.List.{list_all}
use Rattle.std.specs.declared.cmp.Ordering.{Ordering}
use Rattle.sqlite.specs.declared.types.Value.TheVariants.{Null}
use Rattle.sqlite.specs.Order.{Row, column}
use Rattle.sqlite.specs.Program.{overlay}
use Rattle.sqlite.specs.Schema.{Schema}
use Rattle.sqlite.specs.Term.{Term, holds, eval_all}
use Rattle.sqlite.specs.Listing.{understood}
use Rattle.sqlite.specs.State.{State, HasCleanDisk, Shown, Survives}
use Rattle.sqlite.proofs.StateLemmas.{survives_weaker}
use Rattle.sqlite.proofs.Callers.{IsPlain, reads_as, never_commits}
use Rattle.sqlite_rules.specs.Lists.{Has}
use Rattle.cpi_rows.specs.Keyed.{IsInOrder}
use Rattle.cpi_sql_rows.specs.Asked.{AsksFor}
use Rattle.cpi_sql_rows.specs.Finding.{IsQuietOver, LooksOver}
use Rattle.cpi_sql_rows.specs.Lists.{rows_in_key_order}
use Rattle.cpi_sql_rows.specs.Read.{AreRead, QueryLeaves}
use Rattle.cpi_sql_rows.specs.Shelf.{HasTables, IsWhole, Looked, Looks, StaysOpen}
use Rattle.cpi_sql_rows.specs.Tables.{office_schema}
use Rattle.cpi_sql_rows.specs.Texts.{select, columns, by_columns}
use Rattle.cpi_sql_rows.proofs.Found.{whole_read}
use Rattle.cpi_sql_rows.proofs.Lists.{Shows, list_read}
use Rattle.cpi_sql_rows.proofs.Reading.{members}

pub if_ok : {A E : Type 0} (r : Result A E) (P Q : A → Type 0) → IfOk r P → ((a : A) → P a → Q a) → IfOk r Q
if_ok (Ok a) P Q h f = f a h
if_ok (Err e) P Q h f = tt

pub both_ok : {A E : Type 0} (r : Result A E) (P Q R : A → Type 0) → IfOk r P → IfOk r Q → ((a : A) → P a → Q a → R a)
    → IfOk r R
both_ok (Ok a) P Q R h k f = f a h k
both_ok (Err e) P Q R h k f = tt

pub on_both : {A E : Type 0} (r : Result A E) (P Q : A → Type 0) (R : Type 0) → IfOk r P → IfOk r Q
    → ((a : A) → P a → Q a → R) → OnOk r R
on_both (Ok a) P Q R h k f = f a h k
on_both (Err e) P Q R h k f = tt

-- ---- the columns that are shown

shown_is : (params r : Row) (shown : List ℕ) → eval_all (columns shown) (params ∷ r ∷ []) ≡ map (column r) shown
shown_is params r [] = refl
shown_is params r (c ∷ shown) = ap (λ vs. column r c ∷ vs) (shown_is params r shown)

pub shows : (text : List ℕ) (tree : ℕ) (terms : List Term) (shown : List ℕ) (old new : State) (params : Row)
    (rows : List Row) → AsksFor old.now.schema text tree terms shown → Shown text params old new rows
    → Shows (λ r. list_all (holds (params ∷ r ∷ [])) terms) (λ r. map (column r) shown) (old.now.trees tree) rows
shows text tree terms shown old new params rows is h =
    let r = reads_as text params old new old.now.schema refl (select tree terms shown is.order is.names) is.command
    is.plain is.listing rows h in
    let table = is.stored old.now.trees in
    let m = members tree terms (columns shown) (by_columns is.order) (overlay old.now.trees []) params rows
    (r.answer Null) in record {
      sound = λ x k.
          let it = m.sound x k in
          (it.0, subst (λ rs. Has rs it.0) table it.1, it.2, it.3 ∙ shown_is params it.0 shown);
      complete = λ r k passes.
          subst (λ x. Has rows x) (shown_is params r shown)
          (m.complete r (subst (λ rs. Has rs r) (sym table) k) passes);
    }

-- ---- a table that is read whole

module _ {X K : Type 0} {R : K → K → Ordering} (o : IsTotalOrder R) (key : X → K) (entry stands : Row → Option X)
    (text : List ℕ) (tree : ℕ) (shown : List ℕ) (same : (r : Row) → stands (map (column r) shown) ≡ entry r)
    (old new : State) (rows : List Row) (xs : List X) (is : AsksFor old.now.schema text tree [] shown)
    (h : Shown text [] old new rows) (read : AreRead stands rows xs) (order : IsInOrder R key xs) where
  pub table_whole : IsWhole R key entry (old.now.trees tree)
  table_whole =
      whole_read o key entry stands (λ r. map (column r) shown) same (old.now.trees tree) rows xs
      (shows text tree [] shown old new [] rows is h) read order

  pub table_read : xs ≡ rows_in_key_order R key entry (old.now.trees tree)
  table_read =
      list_read o key entry stands (λ r. map (column r) shown) same (old.now.trees tree) rows xs table_whole.keyed
      (shows text tree [] shown old new [] rows is h) read order

-- ---- what it leaves

-- a statement that is no write, over a schema that fits
pub looked_over : (Fits : Schema → Type 0) (text : List ℕ) (old new : State) (params : Row)
    → (Fits old.now.schema → IsPlain (understood old.now.schema text)) → QueryLeaves text params old new
    → LooksOver Fits old new
looked_over Fits text old new params plain asked = record {
  clean = asked.clean;
  kept = λ clean alone fits. asked.kept clean alone (plain fits);
  crash = survives_weaker old new _ _ (λ _ db may alone fits. never_commits text params old db (plain fits) may)
      asked.crash;
}

-- over the tables of the office nothing is committed
pub quiet_office : (Fits : Schema → Type 0) → Fits office_schema → (old new : State)
    → Survives old new (λ _. IsQuietOver Fits old) → Survives old new (λ _. HasTables old → ⊥)
quiet_office Fits office old new h = survives_weaker old new _ _
    (λ _ db silent has. silent has.alone (subst Fits (sym has.schema) office)) h

-- a statement over a table of the office is a look
pub looked : {A E : Type 0} (r : Result A E) (Fits : Schema → Type 0) (text : List ℕ) (old new : State) (params : Row)
    → Fits office_schema → (Fits old.now.schema → IsPlain (understood old.now.schema text))
    → QueryLeaves text params old new → (HasCleanDisk new → OnOk r (IsTrue new.is_open)) → Looks old new r
looked {A = A} {E = E} r Fits text old new params office plain asked opens = record {
  still = record {
    clean = asked.clean;
    kept = λ is has. asked.kept is has.alone (plain (subst Fits (sym has.schema) office));
    crash = survives_weaker old new _ _
        (λ _ db may is has. never_commits text params old db (plain (subst Fits (sym has.schema) office)) may)
        asked.crash;
  };
  stays = at r opens;
}
  where
    at : (s : Result A E) → (HasCleanDisk new → OnOk s (IsTrue new.is_open)) → OnOk s (StaysOpen old new)
    at (Ok a) is = λ disk was. is disk
    at (Err e) is = tt

-- a look that isn't answered
pub looks_failed : {A E P : Type 0} (r : Result A E) (a b : State) → Looked a b P → IsErr r → Looks a b r
looks_failed (Ok x) a b look failed = absurd (let no = failed in cc)
looks_failed (Err e) a b look failed = record { still = look.still; stays = tt }

-- a look, after which no more is asked
pub looks_more : {A E : Type 0} (r : Result A E) (a b : State) → Looked a b (StaysOpen a b) → Looks a b r
looks_more (Ok x) a b look = look
looks_more (Err e) a b look = record { still = look.still; stays = tt }
