-- The calls of a book over a database: their answers, and what a crash leaves.
use Rattle.std.proofs.Common.{◌≡◌, ◌⊎◌, ℕ, Result, Ok, Err, IsTrue, false, arith, ap, inl, inr, refl, subst, sym}
use Rattle.std.proofs.Common.{◌∙◌}
use Rattle.std.specs.Prelude.{OnOk}
use Rattle.std.specs.Result.{IsErr, is_ok}
use Rattle.sqlite.specs.Effect.{Database}
use Rattle.sqlite.specs.State.{State, HasCleanDisk, Survives}
use Rattle.sqlite.proofs.StateLemmas.{survives_weaker}
use Rattle.cpi_release.specs.State.{State as BookState, Keeps, Reads}
use Rattle.cpi_release.proofs.PassLemmas.{keeps_more, stays_more}
use Rattle.cpi_store.specs.Office.{Change, Office, office_with}
use Rattle.cpi_store.specs.Calls.{Writes}
use Rattle.cpi_sql_rows.specs.Finding.{IsSettled}
use Rattle.cpi_sql_rows.specs.Lists.{office_in}
use Rattle.cpi_sql_rows.specs.Making.{IsOfficeDatabase}
use Rattle.cpi_sql_rows.specs.Shelf.{HasTables, IsCleanBook, IsLook, Looks, office_state}
use Rattle.cpi_sql_writes.specs.Rest.{LeavesOnly, MakesOnly}
use Rattle.cpi_sql_writes.specs.Written.{Written}
use Rattle.cpi_sql.specs.Calls.{IsCounted, WritesTables}
use Rattle.cpi_sql.proofs.Counted.{on_err, on_ok}

-- ---- a read

module _ (old new : State) (n m : ℕ) (tables : IsCleanBook old → HasTables old) where
  keeps : IsLook old new → Keeps (office_state old n) (office_state new m)
  keeps look = record {
    was_kept = λ disk. omega (arith, disk, look.crash.clean);
    was_clean = look.clean;
    kept = λ clean. ap (λ (d : Database). office_in d.trees) (look.kept clean (tables (look.clean clean))).now;
    crash = λ clean disk o may. elim (look.crash.crash disk may.0 may.1) [
      | inl was ↦ (may.0, was, may.2)
      | inr never ↦ absurd (never clean (tables clean))
    ];
  }

  pub same_rows : IsLook old new → IsCleanBook new → new.now ≡ old.now
  same_rows look clean = (look.kept clean (tables (look.clean clean))).now

  pub looks : {T E F : Type 0} {Shown : T → Type 0} (found : Result T E) (result : Result T F)
      → Looks old new found → IsCounted found result n m → (IsCleanBook new → (x : T) → found ≡ Ok x → Shown x)
      → Reads (office_state old n) (office_state new m) result Shown
  looks (Ok x) result look counted shown = rw counted.answered (record {
    keeps = keeps look.still;
    stays = λ clean disk. record { disk = disk; is_open = look.stays disk clean.is_open };
    shown = λ clean. shown clean x refl;
    count = omega (arith, counted.same);
    fault = tt;
  })
  looks (Err e) (Ok y) look counted shown = absurd (let no = counted.failed in cc)
  looks (Err e) (Err f) look counted shown = record {
    keeps = keeps look.still;
    stays = tt;
    shown = λ clean. tt;
    count = omega (arith, counted.more);
    fault = omega (arith, counted.more);
  }

-- ---- a write

module _ {change : Change} {fits : Office → Type 0} {A E : Type 0} (old new : State) (n : ℕ) where
  left : (r : Result A E) → Written change fits old new r → (IsCleanBook old → HasTables old)
      → (IsCleanBook old → fits (office_in old.now.trees)) → IsCleanBook old → HasCleanDisk new → (o : Office)
      → (office_state new n).may_leave o
      → (office_state old n).may_leave o ⊎ (o ≡ office_with change (office_in old.now.trees))
  left r written tables owed was disk o may = elim (written.crash.crash disk may.0 may.1) [
    | inl before ↦ inl (may.0, before, may.2)
    | inr made ↦ let it = made (tables was) (owed was) in inr (may.2 it.office ∙ it.made.office)
  ]

  rows_left : (put : Result A E) → Written change fits old new put → (IsCleanBook old → HasTables old)
      → (IsCleanBook old → fits (office_in old.now.trees))
      → Survives old new (λ db. IsCleanBook old → LeavesOnly change old.now.trees db)
  rows_left put written tables owed =
      survives_weaker old new _ _ (λ _ db made was. made (tables was) (owed was)) written.crash

  module _ {F : Type 0} (put : Result A E) (m : ℕ) (written : Written change fits old new put)
      (tables : IsCleanBook old → HasTables old) (owed : IsCleanBook old → fits (office_in old.now.trees)) where
    pub puts : {u : A} → IsCounted {F = F} put (Ok u) n m
        → (HasCleanDisk new → old.in_transaction ≡ false → OnOk put (IsTrue new.is_open))
        → (IsTrue new.is_open → new.in_transaction ≡ false → IsSettled new)
        → Writes (office_state old n) (office_state new m) {T = A} {F = F} (Ok u)
        (office_with change (office_in old.now.trees))
    puts counted opens settled =
        let only : IsCleanBook new → MakesOnly change old new = λ clean. let was = written.clean clean in
        on_ok put counted (written.done clean (tables was) (owed was)) in
        record {
          was_kept = λ disk. omega (arith, disk, written.crash.clean);
          was_clean = written.clean;
          stays = λ was disk. record { disk = disk; is_open = on_ok put counted (opens disk (tables was).alone) };
          done = λ clean. (only clean).done.made.office;
          kept = λ clean. tt;
          count = omega (arith, on_ok put counted counted.same);
          fault = tt;
          crash = left put written tables owed;
          answered = λ clean o may.
              let is = settled clean.is_open (only clean).done.tables.alone may.0 may.1 in
              may.2 (subst IsOfficeDatabase (sym is) (only clean).done.tables.office) ∙ ap office_in is
              ∙ (only clean).done.made.office;
        }

    -- and nothing else is done in the tables
    pub rows_put : {u : A} → IsCounted {F = F} put (Ok u) n m → WritesTables {T = A} {F = F} change old new (Ok u)
    rows_put counted = record {
      done = λ clean. let was = written.clean clean in on_ok put counted (written.done clean (tables was) (owed was));
      kept = λ clean. tt;
      crash = rows_left put written tables owed;
    }

    pub rows_kept : {T G : Type 0} {f : F} (r : Result T G) → IsErr r → IsCounted put (Err f) n m
        → WritesTables change old new r
    rows_kept (Ok x) is_err counted = absurd (let no = is_err in cc)
    rows_kept (Err e) is_err counted = record {
      done = λ clean. tt;
      kept = λ clean. on_err put counted (written.kept clean (tables (written.clean clean)));
      crash = rows_left put written tables owed;
    }

    pub put_fails : {T G : Type 0} {f : F} (r : Result T G) → IsErr r → IsCounted put (Err f) n m
        → Writes (office_state old n) (office_state new m) r (office_with change (office_in old.now.trees))
    put_fails (Ok x) is_err counted = absurd (let no = is_err in cc)
    put_fails (Err e) is_err counted = record {
      was_kept = λ disk. omega (arith, disk, written.crash.clean);
      was_clean = written.clean;
      stays = tt;
      done = λ clean. tt;
      kept = λ clean. ap (λ (d : Database). office_in d.trees)
          (on_err put counted (written.kept clean (tables (written.clean clean)))).now;
      count = omega (arith, on_err put counted counted.more);
      fault = omega (arith, on_err put counted counted.more);
      crash = left put written tables owed;
      answered = λ clean. tt;
    }

-- ---- what follows a read that was answered

module _ {T U F G : Type 0} {P : U → Type 0} (a : BookState Office) (u : U) (Shown : T → Type 0) where
  -- it is shown from memory
  pub then_shown : (b : BookState Office) (x : T) → Reads a b {T = U} {F = F} (Ok u) P → (b.is_clean → Shown x)
      → Reads a b {T = T} {F = G} (Ok x) Shown
  then_shown b x r shown = record {
    keeps = r.keeps;
    stays = r.stays;
    shown = shown;
    count = r.count;
    fault = tt;
  }

  -- it is found in memory, or memory is refused for it
  pub then_found : {E : Type 0} (s : State) (n m : ℕ) (found : Result T E) (result : Result T G)
      → Reads a (office_state s n) {T = U} {F = F} (Ok u) P → IsCounted found result n m
      → (IsCleanBook s → (x : T) → found ≡ Ok x → Shown x) → Reads a (office_state s m) {T = T} {F = G} result Shown
  then_found s n m (Ok x) result r counted shown =
      rw counted.answered (rw counted.same (then_shown (office_state s n) x r (λ clean. shown clean x refl)))
  then_found s n m (Err e) (Ok y) r counted shown = absurd (let no = counted.failed in cc)
  then_found s n m (Err e) (Err f) r counted shown = record {
    keeps = record {
      was_kept = r.keeps.was_kept;
      was_clean = r.keeps.was_clean;
      kept = r.keeps.kept;
      crash = r.keeps.crash;
    };
    stays = tt;
    shown = λ clean. tt;
    count = omega (arith, r.count, counted.more);
    fault = omega (arith, r.count, counted.more);
  }

  -- it is read next
  pub then_read : (b c : BookState Office) (result : Result T G) → Reads a b {T = U} {F = F} (Ok u) P
      → Reads b c result Shown → Reads a c result Shown
  then_read b c (Ok x) r next = record {
    keeps = keeps_more a b c r.keeps r.stays next.keeps;
    stays = stays_more a b c r.stays next.keeps next.stays;
    shown = next.shown;
    count = omega (arith, r.count, next.count);
    fault = tt;
  }
  then_read b c (Err e) r next = record {
    keeps = keeps_more a b c r.keeps r.stays next.keeps;
    stays = tt;
    shown = λ clean. tt;
    count = omega (arith, r.count, next.count);
    fault = omega (arith, r.count, next.fault);
  }

-- ---- what follows a read that failed

pub then_fault : {T U F G : Type 0} {P : U → Type 0} (a b : BookState Office) (was : Result U F) (r : Result T G)
    (Shown : T → Type 0) → false ≡ is_ok was → IsErr r → Reads a b was P → Reads a b r Shown
then_fault a b (Ok u) r Shown failed is_err next = absurd (let no = failed in cc)
then_fault a b (Err f) (Ok x) Shown failed is_err next = absurd (let no = is_err in cc)
then_fault a b (Err f) (Err e) Shown failed is_err next = record {
  keeps = next.keeps;
  stays = tt;
  shown = λ clean. tt;
  count = next.count;
  fault = next.fault;
}
