-- How far the loop over the records of an input has come.
use Rattle.std.proofs.Common.{◌≡◌, ◌∙◌, sym, ap, refl, ◌<◌, ◌≤◌, ◌-◌, ℕ, zero, suc, List, [], ◌∷◌, ◌++◌, length, Option}
use Rattle.std.proofs.Common.{None, Some, IfSome, option_map, arith, Bool, false, true, ◌==◌, ◌&&◌, if◌then◌else◌}
use Rattle.std.proofs.lemmas.Bool.{false≢true}
use Rattle.csv.specs.Machine.{Read, next_record, step, start_record, start_field, in_field, after_end, ends_with}
use Rattle.csv.specs.Machine.{is_byte, is_end, ends_at_end, fields_after, field_after}
use Rattle.csv.specs.Reading.{Reached, Ready, ReadRecord, ReadsOn, default_config, source_of, strip_bom, records_from}
use Rattle.csv.specs.declared.parser.Config.{Config}
use Rattle.csv.specs.declared.parser.Action.{Action}
use Rattle.csv.specs.declared.parser.Action.TheVariants as act
use Rattle.csv.specs.declared.parser.Terminator.{Terminator}
use Rattle.csv.specs.declared.parser.Terminator.TheVariants as term
use Rattle.csv.specs.declared.parser.State.{State}
use Rattle.csv.specs.declared.parser.State.TheVariants as st
use Rattle.csv.specs.declared.reader.Reader.{Reader}
use Rattle.csv.specs.declared.reader.Trim.TheVariants as trim
use Rattle.csv.proofs.ReadFacts.{rows-more, rows-end}
use Rattle.cpi_wire.specs.Input.{Record, AreFirst, records_of, IsAt, TakesRecord}

-- a step that ends a record leaves the machine outside one
abbrev EndsWell : State × Action → Type 0
EndsWell x = is_end x.1 ≡ true → ends_at_end x.0 ≡ false

goes_on : (s : State) (a : Action) → is_end a ≡ false → EndsWell (s, a)
goes_on s a e h = absurd (false≢true (sym e ∙ h))

picked : (b : Bool) (x y : State × Action) → EndsWell x → EndsWell y → EndsWell (if b then x else y)
picked true x y p q = p
picked false x y p q = q

after_end_goes_on : (t : Terminator) (c : ℕ) → ends_at_end (after_end t c) ≡ false
after_end_goes_on term.CRLF c = elim (c == 13) as (λ b. ends_at_end (if b then st.AfterCr else st.StartRecord) ≡ false)
    [ true ↦ refl | false ↦ refl ]
after_end_goes_on (term.Any t) c = refl

in_field_ends_well : (cfg : Config) (c : ℕ) → EndsWell (in_field cfg c)
in_field_ends_well cfg c = picked (c == cfg.delimiter) _ _ (goes_on st.StartField act.EndField refl)
    (picked (ends_with cfg.terminator c) _ _ (λ _. after_end_goes_on cfg.terminator c)
    (goes_on st.InField act.Copy refl))

start_field_ends_well : (cfg : Config) (c : ℕ) → EndsWell (start_field cfg c)
start_field_ends_well cfg c = picked (cfg.quoting && (c == cfg.quote)) _ _ (goes_on st.InQuoted act.Skip refl)
    (in_field_ends_well cfg c)

start_record_ends_well : (cfg : Config) (c : ℕ) → EndsWell (start_record cfg c)
start_record_ends_well cfg c = picked (ends_with cfg.terminator c) _ _ (goes_on st.StartRecord act.Skip refl)
    (picked (is_byte cfg.comment c) _ _ (goes_on st.InComment act.Skip refl) (start_field_ends_well cfg c))

step_ends : (cfg : Config) (s : State) (c : ℕ) → EndsWell (step cfg s c)
step_ends cfg st.StartRecord c = start_record_ends_well cfg c
step_ends cfg st.StartField c = start_field_ends_well cfg c
step_ends cfg st.InField c = in_field_ends_well cfg c
step_ends cfg st.InQuoted c = picked (cfg.quoting && (c == cfg.quote)) _ _ (goes_on st.AfterQuote act.Skip refl)
    (picked (cfg.quoting && is_byte cfg.escape c) _ _ (goes_on st.InEscape act.Skip refl)
    (goes_on st.InQuoted act.Copy refl))
step_ends cfg st.InEscape c = goes_on st.InQuoted act.Copy refl
step_ends cfg st.AfterQuote c = picked (cfg.quoting && cfg.double_quote && (c == cfg.quote)) _ _
    (goes_on st.InQuoted act.Copy refl) (in_field_ends_well cfg c)
step_ends cfg st.InComment c = picked (c == 10) _ _ (goes_on st.StartRecord act.Skip refl)
    (goes_on st.InComment act.Skip refl)
step_ends cfg st.AfterCr c = picked (c == 10) _ _ (goes_on st.StartRecord act.Skip refl) (start_record_ends_well cfg c)

-- a record takes bytes, and ends outside a record
abbrev Took : List ℕ → Option Read → Type 0
Took xs None = Unit {0}
Took xs (Some p) = (length p.2 ≤ length xs - 1) × (ends_at_end p.1 ≡ false)

took_if : (b : Bool) (xs : List ℕ) (q : Read) (o : Option Read) → (b ≡ true → Took xs (Some q)) → Took xs o →
    Took xs (if b then Some q else o)
took_if true xs q o p r = p refl
took_if false xs q o p r = r

took_less : (c : ℕ) (xs : List ℕ) (o : Option Read) → Took xs o → Took (c ∷ xs) o
took_less c xs None h = tt
took_less c xs (Some p) h = (omega (arith, h.0), h.1)

took : (cfg : Config) (s : State) (fields : List (List ℕ)) (field xs : List ℕ) →
    Took xs (next_record cfg s fields field xs)
unfolding next_record
took cfg s fields field [] = took_if (ends_at_end s) [] _ None (λ _. (omega arith, refl)) tt
took cfg s fields field (c ∷ rest) = took_if (is_end (step cfg s c).1) (c ∷ rest) _ _
    (λ h. (omega arith, step_ends cfg s c h))
    (took_less c rest _ (took cfg (step cfg s c).0 (fields_after (step cfg s c).1 fields field)
    (field_after (step cfg s c).1 c field) rest))

took_some : (s : State) (xs : List ℕ) (p : Read) → next_record default_config s [] [] xs ≡ Some p →
    (length p.2 ≤ length xs - 1) × (ends_at_end p.1 ≡ false)
took_some s xs p e = let t : Took xs (next_record default_config s [] [] xs) = took default_config s [] [] xs in
    rw e at t

-- a state outside a record finds none in an empty text
none_left : (s : State) → ends_at_end s ≡ false → next_record default_config s [] [] [] ≡ None
unfolding next_record
none_left s e = rw e refl

some_left : (s : State) (xs : List ℕ) (p : Read) → ends_at_end s ≡ false →
    next_record default_config s [] [] xs ≡ Some p → length p.2 < length xs
some_left s [] p e h = cc (none_left s e)
some_left s (x ∷ xs) p e h = let t = took_some s (x ∷ xs) p h in omega (arith, t.0)

-- the records of the input are those that were reached, and then those of what is left
pub reached_front : (n : ℕ) (s : State) (xs : List ℕ) (rows : List Record) (s2 : State) (ys : List ℕ)
    → length xs < n → ends_at_end s ≡ false → Reached default_config s xs rows s2 ys
    → (more : List Record) × (records_from default_config n s xs ≡ rows ++ more)
unfolding Reached records_from
reached_front zero s xs rows s2 ys h e r = absurd (omega arith)
reached_front (suc n) s xs [] s2 ys h e r = (records_from default_config (suc n) s xs, refl)
reached_front (suc n) s xs (q ∷ qs) s2 ys h e r =
    let lt : length r.0.2 < length xs = some_left s xs r.0 e r.1 in
    let ih = reached_front n r.0.1 r.0.2 qs s2 ys (omega arith) (took_some s xs r.0 r.1).1 r.3 in
    (ih.0, rw r.1 (ap (λ (z : List Record). r.0.0 ∷ z) ih.1 ∙ ap (λ (z : Record). z ∷ (qs ++ ih.0)) (sym r.2)))

pub reached_all : (n : ℕ) (s : State) (xs : List ℕ) (rows : List Record) (s2 : State) (ys : List ℕ)
    → length xs < n → ends_at_end s ≡ false → Reached default_config s xs rows s2 ys →
    next_record default_config s2 [] [] ys ≡ None
    → records_from default_config n s xs ≡ rows
unfolding Reached records_from
reached_all zero s xs rows s2 ys h e r none = absurd (omega arith)
reached_all (suc n) s xs [] s2 ys h e r none =
    let at : next_record default_config s [] [] xs ≡ None = rw (r.0, r.1) none in rw at refl
reached_all (suc n) s xs (q ∷ qs) s2 ys h e r none =
    let lt : length r.0.2 < length xs = some_left s xs r.0 e r.1 in
    let ih = reached_all n r.0.1 r.0.2 qs s2 ys (omega arith) (took_some s xs r.0 r.1).1 r.3 none in
    rw r.1 (ap (λ (z : List Record). r.0.0 ∷ z) ih ∙ ap (λ (z : Record). z ∷ qs) (sym r.2))

pub at_start : {R : Type 0} (rem : R → Option (List ℕ)) (input : Option (List ℕ)) (s : Reader R)
    → s.trim ≡ trim.None → Ready s → s.config ≡ default_config → s.state ≡ st.StartRecord →
    source_of rem s ≡ option_map strip_bom input → IsAt rem input [] s
unfolding Reached
at_start rem None s t r c e h = record { trim = t; ready = r; config = c; reached = tt }
at_start rem (Some xs) s t r c e h = record {
  trim = t;
  ready = r;
  config = c;
  reached =
      (strip_bom xs, h, (sym e, refl));
}

at_next : {R : Type 0} (rem : R → Option (List ℕ)) (input : Option (List ℕ)) (rows : List Record) (a b : Reader R)
    (f : Record)
    → IsAt rem input rows a → ReadRecord rem a b true f → ReadsOn a b → IsAt rem input (rows ++ f ∷ []) b
at_next rem None rows a b f h r on = record {
  trim = r.3 ∙ h.trim;
  ready = (on.4 h.ready).0;
  config = r.2 ∙ h.config;
  reached = tt;
}
at_next rem (Some xs) rows a b f h r on = record {
  trim = r.3 ∙ h.trim;
  ready = (on.4 h.ready).0;
  config = r.2 ∙ h.config;
  reached = rows-more rem a b f default_config st.StartRecord (strip_bom xs) h.reached.0 rows h.config h.reached.1
      h.reached.2 r;
}

pub at_front : {R : Type 0} (rem : R → Option (List ℕ)) (input : Option (List ℕ)) (rows : List Record) (a : Reader R)
    → IsAt rem input rows a → IfSome input (AreFirst rows)
at_front rem None rows a h = tt
at_front rem (Some xs) rows a h = reached_front _ _ _ rows _ _ (omega arith) refl h.reached.2

at_end : {R : Type 0} (rem : R → Option (List ℕ)) (input : Option (List ℕ)) (rows : List Record) (a b : Reader R)
    (f : Record)
    → IsAt rem input rows a → ReadRecord rem a b false f → IfSome input (λ xs. rows ≡ records_of xs)
at_end rem None rows a b f h r = tt
at_end rem (Some xs) rows a b f h r =
    sym (reached_all _ _ _ rows _ _ (omega arith) refl h.reached.2
    (rows-end rem a b f default_config h.reached.0 h.config h.reached.1 r))

pub takes_next : {R : Type 0} (rem : R → Option (List ℕ)) (a b : Reader R) (f : Record) (found : Bool)
    → (a.trim ≡ trim.None → Ready a → ReadRecord rem a b found f) → (found ≡ true → ReadsOn a b) →
    TakesRecord rem a b f found
takes_next rem a b f true read on = λ input rows h. at_next rem input rows a b f h (read h.trim h.ready) (on refl)
takes_next rem a b f false read on = λ input rows h. at_end rem input rows a b f h (read h.trim h.ready)
