-- The printed table that was found, and the latest table by its revision.
use Rattle.std.proofs.Common.{◌≡◌, ◌≢◌, ◌⊎◌, inl, inr, ℕ, Bool, true, false, eqb, cond, List, [], ◌∷◌, filter, Some}
use Rattle.std.proofs.Common.{None, Option, Result, Ok, Err, IfOk, ◌≤◌, arith, refl, sym, ap, ◌∙◌}
use Rattle.std.specs.Prelude.{option_map}
use Rattle.std.specs.Option.{option_or}
use Rattle.std.specs.List.{AllByRecursion}
use Rattle.std.proofs.lemmas.Bool.{eqb-true}
use Rattle.std.proofs.lemmas.Bool.Decides.{eqb_tells}
use Rattle.cpi_rows.proofs.Truth.{equal_itself}
use Rattle.cpi_release.specs.Latest.{latest_row}
use Rattle.cpi_release.specs.PublishedTables.{PublishedTable, asked_table, is_asked, printed_bytes}
use Rattle.cpi_release.specs.declared.form.Form.{Form}
use Rattle.cpi_release.specs.State.{State, Keeps, StaysClean, Reads}
use Rattle.cpi_release.proofs.PassLemmas.{keeps_more, stays_more}
use Rattle.cpi_release.proofs.LatestRows.{latest_all}
use Rattle.cpi_office.specs.Answers.{table_bytes, reply_with_table}
use Rattle.cpi_office.specs.declared.reply.Reply.TheVariants.{Table}

pub printed_found : (form : Form) (month : ℕ) (t : Option PublishedTable) (printed_table : List ℕ) →
    Some printed_table ≡ option_map (table_bytes form month) t → Table printed_table ≡ reply_with_table form month t
printed_found form month None printed_table e = cc
printed_found form month (Some t) printed_table e = let is : printed_table ≡ table_bytes form month t = cc in
    ap Table is

-- ---- the latest among those that pass a test

module _ {X : Type 0} (month_of : X → ℕ) (month : ℕ) (p : X → Bool) where
  abbrev own : X → Option X
  own x = cond (eqb (month_of x) month) (Some x) None

  no_first : (a b : Option X) → option_or a b ≡ None → a ≡ None
  no_first None b e = refl
  no_first (Some x) b e = cc

  no_last : (a b : Option X) → option_or a b ≡ None → b ≡ None
  no_last None b e = e
  no_last (Some x) b e = let no : Some x ≡ None = e in cc

  none_passes : (xs : List X) → latest_row month_of month xs ≡ None → latest_row month_of month (filter p xs) ≡ None
  none_passes [] e = refl
  none_passes (x ∷ xs) e = cases (p x) refl (none_passes xs (no_first (latest_row month_of month xs) (own x) e))
    where
      cases : (b : Bool) → p x ≡ b → latest_row month_of month (filter p xs) ≡ None →
          latest_row month_of month (filter p (x ∷ xs)) ≡ None
      cases true f rest = rw f (ap (λ o. option_or o (own x)) rest ∙ no_last (latest_row month_of month xs) (own x) e)
      cases false f rest = rw f rest

  pub latest_passes : (xs : List X) (t : X) → latest_row month_of month xs ≡ Some t → p t ≡ true →
      latest_row month_of month (filter p xs) ≡ Some t
  latest_passes [] t e passes = cc
  latest_passes (x ∷ xs) t e passes = cases (latest_row month_of month xs) refl (p x) refl
      (λ f. latest_passes xs t f passes)
    where
      cases : (o : Option X) → latest_row month_of month xs ≡ o → (b : Bool) → p x ≡ b →
          (latest_row month_of month xs ≡ Some t → latest_row month_of month (filter p xs) ≡ Some t) →
          latest_row month_of month (filter p (x ∷ xs)) ≡ Some t
      cases (Some z) f true g rest =
          let is : Some z ≡ Some t = sym (ap (λ o. option_or o (own x)) f) ∙ e in
          rw g (ap (λ o. option_or o (own x)) (rest (f ∙ is)))
      cases (Some z) f false g rest =
          let is : Some z ≡ Some t = sym (ap (λ o. option_or o (own x)) f) ∙ e in
          rw g (rest (f ∙ is))
      cases None f true g rest =
          let here : own x ≡ Some t = sym (ap (λ o. option_or o (own x)) f) ∙ e in
          rw g (ap (λ o. option_or o (own x)) (none_passes xs f) ∙ here)
      cases None f false g rest = absurd (other (eqb_tells (month_of x) month))
        where
          other : ((eqb (month_of x) month ≡ true) × (month_of x ≡ month))
              ⊎ ((eqb (month_of x) month ≡ false) × (month_of x ≢ month)) → ⊥
          other (inl same) =
              let here : Some x ≡ Some t = sym (ap (λ o. option_or o (own x)) f
              ∙ ap (λ b. cond b (Some x) None) same.0) ∙ e in
              let is : x ≡ t = cc in
              let no : false ≡ true = sym g ∙ ap p is ∙ passes in cc
          other (inr apart) =
              let no : None ≡ Some t = sym (ap (λ o. option_or o (own x)) f ∙ ap (λ b. cond b (Some x) None) apart.0)
              ∙ e in cc

  all_pass : (xs : List X) → AllByRecursion (λ x. p x ≡ true) (filter p xs)
  all_pass [] = tt
  all_pass (x ∷ xs) = cases (p x) refl (all_pass xs)
    where
      cases : (b : Bool) → p x ≡ b → AllByRecursion (λ x. p x ≡ true) (filter p xs) →
          AllByRecursion (λ x. p x ≡ true) (filter p (x ∷ xs))
      cases true f rest = rw f (f, rest)
      cases false f rest = rw f rest

-- ---- tables

all_asked : (tables : List PublishedTable) → filter (λ t. is_asked None t.revision) tables ≡ tables
all_asked [] = refl
all_asked (t ∷ tables) = ap (λ ts. t ∷ ts) (all_asked tables)

module _ (month : ℕ) (tables : List PublishedTable) where
  -- the latest table is that of its revision
  pub latest_named : (t : PublishedTable) → asked_table month None tables ≡ Some t →
      asked_table month (Some t.revision) tables ≡ Some t
  latest_named t e =
      latest_passes (λ (x : PublishedTable). x.month) month (λ x. is_asked (Some t.revision) x.revision) tables t
      (sym (ap (latest_row (λ (x : PublishedTable). x.month) month) (all_asked tables)) ∙ e) (equal_itself t.revision)

  -- a table that is asked for by its revision is printed with it
  pub named_bytes : (form : Form) (revision : ℕ) →
      option_map (printed_bytes form month revision)
      (option_map (λ (t : PublishedTable). t.levels) (asked_table month (Some revision) tables)) ≡ option_map
      (table_bytes form month) (asked_table month (Some revision) tables)
  named_bytes form revision = cases (asked_table month (Some revision) tables) refl
    where
      cases : (o : Option PublishedTable) → asked_table month (Some revision) tables ≡ o →
          option_map (printed_bytes form month revision) (option_map (λ (t : PublishedTable). t.levels) o) ≡
          option_map (table_bytes form month) o
      cases None e = refl
      cases (Some t) e =
          let asked : PublishedTable → Bool = λ x. is_asked (Some revision) x.revision in
          let passed = latest_all (λ (x : PublishedTable). x.month) month (λ x. asked x ≡ true)
          (filter asked tables) t (all_pass (λ (x : PublishedTable). x.month) month asked tables) e in
          let is : t.revision ≡ revision = eqb-true t.revision revision passed.0 in
          ap (λ r. Some (printed_bytes form month r t.levels)) (sym is)

  -- so it is where none is named
  pub latest_bytes : (form : Form) (revision : ℕ) → Some revision ≡ option_map (λ (t : PublishedTable). t.revision)
      (asked_table month None tables) → option_map (table_bytes form month)
      (asked_table month (Some revision) tables) ≡ option_map (table_bytes form month) (asked_table month None tables)
  latest_bytes form revision is = cases (asked_table month None tables) refl is
    where
      cases : (o : Option PublishedTable) → asked_table month None tables ≡ o →
          Some revision ≡ option_map (λ (t : PublishedTable). t.revision) o →
          option_map (table_bytes form month) (asked_table month (Some revision) tables) ≡ option_map
          (table_bytes form month) o
      cases None e is = cc
      cases (Some t) e is =
          let same : revision ≡ t.revision = cc in
          ap (option_map (table_bytes form month)) (ap (λ r. asked_table month (Some r) tables) same ∙ latest_named t e)

  pub none_bytes : (form : Form) → None ≡ option_map (λ (t : PublishedTable). t.revision)
      (asked_table month None tables) → None ≡ option_map (table_bytes form month) (asked_table month None tables)
  none_bytes form is = cases (asked_table month None tables) is
    where
      cases : (o : Option PublishedTable) → None ≡ option_map (λ (t : PublishedTable). t.revision) o →
          None ≡ option_map (table_bytes form month) o
      cases None is = refl
      cases (Some t) is = cc

-- ---- one read after another

module _ {H T F : Type 0} (old mid new : State H) (keeps : Keeps old mid) (stays : StaysClean old mid)
    (count : old.failures ≤ mid.failures) (P Q : T → Type 0) where
  pub reads_then : (result : Result T F) → Reads mid new result P → (new.is_clean → (x : T) → P x → Q x) →
      Reads old new result Q
  reads_then (Ok x) r f = record {
    keeps = keeps_more old mid new keeps stays r.keeps;
    stays = stays_more old mid new stays r.keeps r.stays;
    shown = λ clean. f clean x (r.shown clean);
    count = omega (arith, count, r.count);
    fault = tt;
  }
  reads_then (Err e) r f = record {
    keeps = keeps_more old mid new keeps stays r.keeps;
    stays = tt;
    shown = λ clean. tt;
    count = omega (arith, count, r.count);
    fault = omega (arith, count, r.fault);
  }

pub if_printed : {E : Type 0} (found : Result (Option (List ℕ)) E) (a b : Option (List ℕ)) → a ≡ b →
    IfOk found (λ printed. printed ≡ a) → IfOk found (λ printed. printed ≡ b)
if_printed (Ok x) a b e h = h ∙ e
if_printed (Err f) a b e h = tt

pub same_reads : {H T F : Type 0} (old new : State H) (P Q : T → Type 0) (result : Result T F) →
    Reads old new result P → (new.is_clean → (x : T) → P x → Q x) → Reads old new result Q
same_reads old new P Q (Ok x) r f = record {
  keeps = r.keeps;
  stays = r.stays;
  shown =
      λ clean. f clean x (r.shown clean);
  count = r.count;
  fault = tt;
}
same_reads old new P Q (Err e) r f = record {
  keeps = r.keeps;
  stays = tt;
  shown = λ clean. tt;
  count =
      r.count;
  fault = r.fault;
}
