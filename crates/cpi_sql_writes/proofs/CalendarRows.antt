-- What the upsert of a calendar row does to the rows.
use Rattle.std.proofs.Common.{ℕ, pos, List, [], ◌∷◌, refl, ap}
use Rattle.sqlite.specs.Order.{Row}
use Rattle.sqlite.specs.Source.TheVariants.{Values}
use Rattle.sqlite.specs.Tree.{rowid}
use Rattle.sqlite.specs.declared.types.Value.TheVariants.{Null, Int}
use Rattle.cpi_sql_rows.proofs.Change.{IsChange}
use Rattle.cpi_sql_rows.proofs.KeyColumns.{one_rowid, rowid_agreed}
use Rattle.cpi_sql_rows.proofs.Reading.{equality}
use Rattle.cpi_sql_rows.proofs.Texts.{put_calendar_is}
use Rattle.cpi_sql_rows.proofs.Upserts.{IsPutOver, IsUpsert, puts_over}
use Rattle.cpi_sql_rows.proofs.Writing.{cast_int, cast_null}
use Rattle.cpi_sql_rows.specs.Shelf.{HasRowids}
use Rattle.cpi_sql_rows.specs.Tables.{table_of_calendar}
use Rattle.cpi_sql_rows.specs.Texts.{given_calendar, put_calendar_text, update_calendar}

-- a row of the calendar is known by its month, which is its rowid
abbrev pub calendar_places : List ℕ
calendar_places = 0 ∷ []

abbrev pub day_columns : ℕ → ℕ → ℕ → ℕ → Row
day_columns m o c p = Int (pos m) ∷ Int (pos o) ∷ Int (pos c) ∷ Int (pos p) ∷ []

-- the columns of a row after its rowid: NULL for the month, and the three moments
abbrev pub day_behind : ℕ → ℕ → ℕ → Row
day_behind o c p = Null ∷ Int (pos o) ∷ Int (pos c) ∷ Int (pos p) ∷ []

module _ (m o c p : ℕ) where
  abbrev behind : Row
  behind = day_behind o c p

  upsert : IsUpsert table_of_calendar 6 calendar_places (Int (pos m)) behind (day_columns m o c p)
      update_calendar.filter
      update_calendar.project
  upsert = record {
    stands = refl;
    stored = λ db. refl;
    fits = cast_int (pos m);
    casts = λ id fit. rw (fit, cast_null, cast_int (pos o), cast_int (pos c), cast_int (pos p)) refl;
    numbered = λ rows. (pos m, refl, refl);
    meets = λ new r. refl;
    one = λ db keeps. one_rowid (db 10);
    tested = λ id z r. equality (rowid r) id;
    written = λ id z r. refl;
    stays = λ id r is hit. ap (λ z. Int z ∷ []) (rowid_agreed r (Int (pos m) ∷ behind) id (pos m) is refl hit);
  }

  -- the statement, over a database with these tables
  pub day_put : IsChange put_calendar_text (day_columns m o c p)
      (λ db after. HasRowids (db 10) → IsPutOver calendar_places (Int (pos m)) behind 10 db after)
  day_put = puts_over table_of_calendar 6 calendar_places (Int (pos m)) behind (day_columns m o c p)
      update_calendar.filter
      update_calendar.project upsert put_calendar_text (Values given_calendar 5) put_calendar_is
      (λ limit db rows h. h.1)
