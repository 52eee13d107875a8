-- The response to a message.
use Rattle.std.specs.Prelude.{◌≡◌, ℕ, Bool, List, Option, Some, None, Ok, Err}
use Rattle.cpi_release.specs.declared.form.Form.{Form}
use Rattle.cpi_release.specs.declared.form.Form.TheVariants as form
use Rattle.cpi_release.specs.State.{State}
use Rattle.cpi_store.specs.Office.{Office}
use Rattle.cpi_office.specs.declared.reply.Reply.{Reply}
use Rattle.cpi_office.specs.declared.reply.Reply.TheVariants as reply
use Rattle.cpi_office.specs.declared.request.Request.{Request}
use Rattle.cpi_office.specs.declared.request.Request.TheVariants as request
use Rattle.cpi_wire.specs.Answer.{Answer}
use Rattle.cpi_wire.specs.Answer as answer
use Rattle.cpi_wire.specs.Answers.{Answers, some_fails}
use Rattle.cpi_wire.specs.declared.asks.Ask.{Ask}
use Rattle.cpi_wire.specs.declared.asks.Ask.TheVariants as ask
use Rattle.cpi_wire.specs.Line.{line_of_reply}
use Rattle.cpi_wire.specs.Lines.{all_replies}
use Rattle.cpi_wire.specs.Rows.{answer_line}
use Rattle.cpi_http.specs.declared.bytes.Content.{Content}
use Rattle.cpi_http.specs.declared.bytes.Content.TheVariants as content
use Rattle.cpi_http.specs.declared.responses.Response.{Response}
use Rattle.cpi_http.specs.Bytes.{http_of}
use Rattle.cpi_http.specs.Message.{MessageAsks}
use Rattle.cpi_http.specs.Statuses.{status_of_reply}

-- a response before it is put into bytes
pub record Said : Type 0 where
  pub status : ℕ
  pub content : Content
  pub body : List ℕ

-- the response whose body is the line of a reply
abbrev pub in_json : ℕ → List ℕ → Said
in_json status line = record { status = status; content = content.Json; body = line }

abbrev pub content_of : Form → Content
content_of form.Text = content.Text
content_of form.Csv = content.Csv

-- the response whose body is a printed table
abbrev pub as_printed : Form → List ℕ → Said
as_printed f printed = record { status = 200; content = content_of f; body = printed }

-- the form of the table that a request asks for
abbrev pub form_asked : Request → Option Form
form_asked (request.Table month f edition) = Some f
form_asked other = None

-- a table is sent as it was printed, and every other reply as its line
abbrev pub said_of : Option Form → Reply → Said
said_of (Some f) (reply.Table printed) = as_printed f printed
said_of f reply = in_json (status_of_reply reply) (line_of_reply reply)

-- an import that was carried out has the status 200, whatever the replies to its rows are
abbrev pub said_to : Ask → Answer → Said
said_to ask.Bad answered = in_json 400 (answer_line answered)
said_to (ask.One now caller request) (answer.One reply) = said_of (form_asked request) reply
said_to (ask.One now caller request) (answer.Rows replies) = in_json 200 (answer_line (answer.Rows replies))
said_to (ask.Import now caller rows) answered = in_json 200 (answer_line answered)

-- a message that is refused has the status that refuses it
abbrev pub response_to : MessageAsks → Answer → Said
response_to (Ok ask) answered = said_to ask answered
response_to (Err status) answered = in_json status (answer_line answered)

abbrev pub body_bytes : Said → List ℕ
body_bytes said = http_of said.status said.content said.body

-- the value of the program is this response, and states whether the office was unavailable
abbrev pub SaysResponse : Said → Bool → Response → Type 0
SaysResponse said failed r =
    (r.status ≡ said.status) × (r.content ≡ said.content) × (r.body.items ≡ said.body) × (r.failed ≡ failed)

-- the request that the office gets: none from a message that is refused
abbrev pub ask_in : MessageAsks → Ask
ask_in (Ok ask) = ask
ask_in (Err status) = ask.Bad

-- the message was carried out, and this is the response
abbrev pub IsCarriedOut : {B : Type 0} (state : B → State Office) → MessageAsks → B → B → Response → Type 0
IsCarriedOut state m old new response =
    (answered : Answer) × Answers state old (ask_in m) answered new
    × SaysResponse (response_to m answered) (some_fails (all_replies answered)) response
