use Rattle.cpi_http.proofs.TableResponses.{table_responses_are_computed, messages_report_tables}
use Rattle.cpi_http.proofs.laws.tables_are_sent.Goals as goal

pub returns-clause-responses : goal.returns-clause-responses
returns-clause-responses g c = table_responses_are_computed g.B.Book.state

pub returns-clause-replies : goal.returns-clause-replies
returns-clause-replies g c = messages_report_tables g.B.Book.state
