use Rattle.std.proofs.Common.{◌≡◌, inl, rules, subst}
use Rattle.std.specs.Prelude.{Result, Ok, Err, OnOk, is_ok}
use Rattle.sqlite.specs.Held.{state}
use Rattle.sqlite.proofs.StateLemmas.{survives_weaker}
use Rattle.cpi_sql_open.specs.declared.version.Version.TheVariants.{Other}
use Rattle.cpi_sql_open.specs.Said.{ShowsVersion}
use Rattle.cpi_sql_open.proofs.MakeLemmas.{blank_database, blank_office, blank_tables, blank_whole, blank_years}
use Rattle.cpi_sql_open.proofs.open.open_office.Goals as goal

-- an answer whose error was named anew
on_named : {A E F : Type 0} (r : Result A E) (s : Result A F) (P Q : Type 0) → is_ok s ≡ is_ok r → OnOk r P → (P → Q)
    → OnOk s Q
on_named (Ok x) (Ok y) P Q same p f = f p
on_named (Err e) (Ok y) P Q same p f = absurd cc
on_named r (Err e) P Q same p f = tt

pub returns-then-is_blank-clause-ready : goal.returns-then-is_blank-clause-ready
returns-then-is_blank-clause-ready g c = λ clean. on_named c.make_tables.result c.map_err.result _ _
    c.map_err.ensures.variant (c.make_tables.ensures.made clean.disk (c.is_blank.ensures.blank c.if-is_blank.true))
    (λ blank. blank_tables (state g.S.Store c.make_tables.new.conn) blank c.make_tables.ensures.alone)

pub returns-then-is_blank-clause-whole : goal.returns-then-is_blank-clause-whole
returns-then-is_blank-clause-whole g c = λ clean. on_named c.make_tables.result c.map_err.result _ _
    c.map_err.ensures.variant (c.make_tables.ensures.made clean.disk (c.is_blank.ensures.blank c.if-is_blank.true))
    (blank_whole (state g.S.Store c.make_tables.new.conn))

pub returns-then-is_blank-clause-years : goal.returns-then-is_blank-clause-years
returns-then-is_blank-clause-years g c = λ clean. on_named c.make_tables.result c.map_err.result _ _
    c.map_err.ensures.variant (c.make_tables.ensures.made clean.disk (c.is_blank.ensures.blank c.if-is_blank.true))
    (blank_years (state g.S.Store c.make_tables.new.conn))

pub returns-then-is_blank-clause-opened : goal.returns-then-is_blank-clause-opened
returns-then-is_blank-clause-opened g c = λ clean. let none = c.is_blank.ensures.blank c.if-is_blank.true in
    on_named c.make_tables.result c.map_err.result _ _ c.map_err.ensures.variant
    (c.make_tables.ensures.made clean.disk none)
    (λ blank. (
      inl (none, blank_office (state g.S.Store c.make_tables.new.conn) blank),
      blank.schema,
      blank_database
          (state g.S.Store c.make_tables.new.conn) blank,
    ))

pub returns-then-is_blank-clause-crash : goal.returns-then-is_blank-clause-crash
returns-then-is_blank-clause-crash g c = let none = c.is_blank.ensures.blank c.if-is_blank.true in
    survives_weaker (state g.S.Store c.args.conn.now) (state g.S.Store c.make_tables.new.conn) _ _
    (λ _ db made. let new = made none in (new.database, inl (none, new.office))) c.make_tables.ensures.crash

pub returns-in-Ok-Other-clause-unknown : goal.returns-in-Ok-Other-clause-unknown
returns-in-Ok-Other-clause-unknown g c = λ clean _.
    let other : c.in-Ok-Other.field-0 ≡ Other = search rules in
    let it = subst (ShowsVersion g.S.Store c.args.conn.now) other (c.in-Ok-Other.ensures.shown clean.disk) in
    (it.0, it.1, it.2, it.3, it.4, it.5.0, it.5.1)
