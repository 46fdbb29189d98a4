-- The bytes of a response (RFC 9112).
use Rattle.std.specs.Prelude.{ℕ, Bool, List, [], ◌∷◌, ◌++◌, ◌==◌, ◌||◌, ◌&&◌, not, if◌then◌else◌, map, length, codes, decimal, unwrap_or, encode_utf8_all}
use Rattle.http.specs.StatusCode.{code_digits, reason_phrase}
use Rattle.http_out.specs.Message.{message}
use Rattle.http_out.specs.declared.reply.Reply.{Reply}

-- the phrase of a status, empty where it has none
unfoldable pub phrase : ℕ → List ℕ
phrase status = unwrap_or (reason_phrase status) []

-- status-line = HTTP-version SP status-code SP [ reason-phrase ] (§4)
unfoldable pub status_line : ℕ → List ℕ
status_line status = codes "HTTP/1.1 " ++ code_digits status ++ codes " " ++ phrase status

-- field-line = field-name ":" OWS field-value OWS (§5), with one space before the value and none after it
unfoldable pub field_line : List ℕ → List ℕ → List ℕ
field_line name value = name ++ codes ": " ++ value

-- whether responses of the status have a content: 204 and 304 have none, and state neither type nor length (§6.3)
unfoldable pub has_content : ℕ → Bool
has_content status = not (status == 204 || status == 304)

-- the line of the content's type
unfoldable pub type_lines : Reply → List (List ℕ)
type_lines reply = if has_content reply.status then field_line (codes "Content-Type") (encode_utf8_all reply.kind) ∷ [] else []

-- the line of a further field
unfoldable pub further_line : List ℕ × List ℕ → List ℕ
further_line field = field_line (encode_utf8_all field.0) (encode_utf8_all field.1)

-- the line of the content's length in bytes (§6.2), also where the content itself is left out
unfoldable pub length_lines : Reply → List (List ℕ)
length_lines reply =
    if has_content reply.status then field_line (codes "Content-Length") (decimal (length (encode_utf8_all reply.body))) ∷ [] else []

-- the connection option (§9.3, §9.6)
abbrev pub connection_option : Bool → List ℕ
connection_option keep = if keep then codes "keep-alive" else codes "close"

-- the line that says whether the connection is kept
unfoldable pub connection_line : Bool → List ℕ
connection_line keep = field_line (codes "Connection") (connection_option keep)

-- the lines of the head
unfoldable pub head_lines : Reply → Bool → List (List ℕ)
head_lines reply keep =
    status_line reply.status ∷ [] ++ type_lines reply ++ map further_line reply.fields ++ length_lines reply ++ connection_line keep ∷ []

-- the content (§6.3): none where only the head is asked for
unfoldable pub content : Reply → Bool → List ℕ
content reply head_only = if has_content reply.status && not head_only then encode_utf8_all reply.body else []

-- the bytes of the response
unfoldable pub response_bytes : Reply → Bool → Bool → List ℕ
response_bytes reply keep head_only = message (head_lines reply keep) (content reply head_only)
