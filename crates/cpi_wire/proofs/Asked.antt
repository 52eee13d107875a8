-- The fields of a record, by their places.
use Rattle.std.proofs.Common.{◌≡◌, refl, ◌≤◌, ◌<◌, ◌-◌, List, [], ◌∷◌, length, get_or, take, drop, Option, None, Bor}
use Rattle.std.proofs.Common.{arith}
use Rattle.std.specs.Option.{unwrap_or}
use Rattle.std.proofs.lemmas.List.{take_rest}
use Rattle.cpi_codes.specs.Zone.{ZoneRule}
use Rattle.cpi_wire.specs.declared.asks.Ask.{Ask}
use Rattle.cpi_wire.specs.declared.asks.Ask.TheVariants as ask
use Rattle.cpi_wire.specs.Arguments.{Text}
use Rattle.cpi_wire.specs.Import.{row_asks}
use Rattle.cpi_wire.specs.Record.{ask_of, spelled_parts}
use Rattle.cpi_wire.specs.Words.{spelled_word, spelled_request}
use Rattle.cpi_wire.proofs.Counted.{texts}

pub ask_short : (zone : ZoneRule) (xs : List (Bor Text)) → length xs < 3 → ask.Bad ≡ ask_of zone (texts xs)
unfolding ask_of
ask_short zone [] h = refl
ask_short zone (a ∷ []) h = refl
ask_short zone (a ∷ b ∷ []) h = refl
ask_short zone (a ∷ b ∷ c ∷ xs) h = absurd (omega arith)

pub ask_parts : (zone : ZoneRule) (xs : List (Bor Text)) (d : Bor Text) (r : Option Ask) → 3 ≤ length xs
    → r ≡ spelled_parts zone (get_or xs 0 d).now (get_or xs 1 d).now (get_or xs 2 d).now
    (texts (take (length xs - 3) (drop 3 xs)))
    → unwrap_or r ask.Bad ≡ ask_of zone (texts xs)
unfolding ask_of
ask_parts zone [] d r h e = absurd (omega arith)
ask_parts zone (a ∷ []) d r h e = absurd (omega arith)
ask_parts zone (a ∷ b ∷ []) d r h e = absurd (omega arith)
ask_parts zone (a ∷ b ∷ c ∷ xs) d r h e = rw (rw (take_rest (a ∷ b ∷ c ∷ xs) 3) at e) refl

pub row_of : (zone : ZoneRule) (xs : List (Bor Text)) (x : Bor Text) (rest : List (Bor Text)) → xs ≡ x ∷ rest →
    spelled_request zone (spelled_word x.now) (texts rest) ≡ row_asks zone (texts xs)
unfolding row_asks
row_of zone xs x rest e = rw e refl

pub row_none : (zone : ZoneRule) (xs : List (Bor Text)) → length xs ≡ 0 → None ≡ row_asks zone (texts xs)
unfolding row_asks
row_none zone [] e = refl
row_none zone (x ∷ xs) e = absurd (omega arith)
