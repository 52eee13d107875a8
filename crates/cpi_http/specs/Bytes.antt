-- The bytes of a response (RFC 9112, section 4).
use Rattle.std.specs.Prelude.{ℕ, List, [], ◌++◌, length, if◌then◌else◌, ◌==◌, codes, decimal}
use Rattle.std.specs.Option.{unwrap_or}
use Rattle.http.specs.StatusCode.{reason_phrase}
use Rattle.cpi_http.specs.declared.bytes.Content.{Content}
use Rattle.cpi_http.specs.declared.bytes.Content.TheVariants.{Json, Text, Csv}

-- the media type of a body
abbrev pub media_type : Content → List ℕ
media_type Json = codes "application/json"
media_type Text = codes "text/plain; charset=utf-8"
media_type Csv = codes "text/csv; charset=utf-8"

-- a line of a head ends in CR LF
abbrev pub line : List ℕ → List ℕ
line text = text ++ codes "\r\n"

-- the challenge that goes with 401
abbrev pub challenge : ℕ → List ℕ
challenge status = if status == 401 then line (codes "WWW-Authenticate: CPI-Key") else []

-- the phrase that goes with a status
abbrev pub phrase : ℕ → List ℕ
phrase status = unwrap_or (reason_phrase status) []

-- the status line, the fields, and the empty line
abbrev pub head_text : ℕ → List ℕ → List ℕ → ℕ → List ℕ → List ℕ
head_text code reason media size more =
    line (codes "HTTP/1.1 " ++ decimal code ++ codes " " ++ reason)
    ++ line (codes "Content-Type: " ++ media)
    ++ line (codes "Content-Length: " ++ decimal size)
    ++ line (codes "Connection: close")
    ++ more
    ++ codes "\r\n"

-- the head of a response
unfoldable pub head_of : ℕ → Content → ℕ → List ℕ
head_of status content size = head_text status (phrase status) (media_type content) size (challenge status)

-- the head and the body
abbrev pub http_of : ℕ → Content → List ℕ → List ℕ
http_of status content body = head_of status content (length body) ++ body
