-- What the upsert of a quote does to the rows.
use Rattle.std.proofs.Common.{ℕ, pos, List, [], ◌∷◌, refl}
use Rattle.sqlite.specs.Edit.{next_rowid}
use Rattle.sqlite.specs.Order.{Row}
use Rattle.sqlite.specs.Source.TheVariants.{Values}
use Rattle.sqlite.specs.Tree.{rowid}
use Rattle.sqlite.specs.declared.types.Value.TheVariants.{Null, Int, Text}
use Rattle.cpi_sql_rows.proofs.Change.{IsChange}
use Rattle.cpi_sql_rows.proofs.KeyColumns.{IsUnique, one_row}
use Rattle.cpi_sql_rows.proofs.Reading.{equality}
use Rattle.cpi_sql_rows.proofs.Texts.{put_quote_is}
use Rattle.cpi_sql_rows.proofs.Upserts.{IsPutOver, IsUpsert, puts_over}
use Rattle.cpi_sql_rows.proofs.Writing.{cast_int, cast_null}
use Rattle.cpi_sql_rows.specs.Shelf.{HasRowids}
use Rattle.cpi_sql_rows.specs.Tables.{table_of_quotes_2}
use Rattle.cpi_sql_rows.specs.Texts.{given_quote, put_quote_text, update_quote}

-- a quote is known by its collector, its slot and its month
abbrev pub quote_places : List ℕ
quote_places = 1 ∷ 2 ∷ 3 ∷ []

pub quotes_unique : IsUnique table_of_quotes_2 quote_places
quotes_unique = record { at = 14; stands = refl; rule = λ db row. refl }

abbrev pub quote_columns : ℕ → ℕ → ℕ → List ℕ → ℕ → ℕ → Row
quote_columns c s m mark v n = Int (pos c) ∷ Int (pos s) ∷ Int (pos m) ∷ Text mark ∷ Int (pos v) ∷ Int (pos n) ∷ []

module _ (c s m : ℕ) (mark : List ℕ) (v n : ℕ) where
  abbrev columns : Row
  columns = quote_columns c s m mark v n

  upsert : IsUpsert table_of_quotes_2 14 quote_places Null columns columns update_quote.filter update_quote.project
  upsert = record {
    stands = refl;
    stored = λ db. refl;
    fits = cast_null;
    casts = λ id fit. rw (
      fit,
      cast_int (pos c),
      cast_int (pos s),
      cast_int (pos m),
      cast_int (pos v),
      cast_int (pos n),
    ) refl;
    numbered = λ rows. (next_rowid rows, refl, refl);
    meets = λ new r. refl;
    one = one_row table_of_quotes_2 quote_places quotes_unique;
    tested = λ id z r. equality (rowid r) id;
    written = λ id z r. refl;
    stays = λ id r is hit. refl;
  }

  -- the statement, over a database with these tables
  pub quote_put : IsChange put_quote_text columns
      (λ db after. HasRowids (db 24) → IsPutOver quote_places Null columns 24 db after)
  quote_put = puts_over table_of_quotes_2 14 quote_places Null columns columns update_quote.filter
      update_quote.project upsert
      put_quote_text (Values given_quote 7) put_quote_is (λ limit db rows h. h.1)
