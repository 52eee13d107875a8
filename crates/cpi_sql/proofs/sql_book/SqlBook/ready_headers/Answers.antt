use Rattle.sqlite.specs.Held.{state}
use Rattle.cpi_sql.proofs.Followed.{look_sound}
use Rattle.cpi_sql.proofs.sql_book.SqlBook.ready_headers.Goals as goal

pub invariant_of-self : goal.invariant_of-self
invariant_of-self g c =
    look_sound (state g.S.Store c.self.inside.conn) (state g.S.Store c.read_headers.new.conn) _ _
    c.read_headers.ensures.look.still c.self.invariant
    (λ clean st. record {
      survey = st.cached.survey;
      headers = λ _. c.in-Ok.ensures.read clean st.tables;
      lists = st.cached.lists;
      samples = st.cached.samples;
    })

pub invariant_of-self-in-Err : goal.invariant_of-self-in-Err
invariant_of-self-in-Err g c =
    look_sound (state g.S.Store c.self.inside.conn) (state g.S.Store c.read_headers.new.conn) _ _
    c.read_headers.ensures.look.still c.self.invariant (λ clean st. st.cached)
