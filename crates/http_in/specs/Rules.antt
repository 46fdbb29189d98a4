-- What is asked of the head of a request, and what is read in it (RFC 9112 §2.3, §3, §5, §6, §9.3).
use Rattle.std.specs.Prelude.{ℕ, ◌+◌, ◌-◌, ◌==◌, Bool, false, not, ◌||◌, ◌&&◌, nat_lt, nat_le, List, [], ◌∷◌, length, take, drop, slice_index, map, codes, Result, Ok, Err, if◌then◌else◌}
use Rattle.std.specs.List.{list_any, list_all}
use Rattle.std.specs.Char.{is_ascii_digit}
use Rattle.std.specs.Str.{chars, bytes_eq}
use Rattle.std.specs.Str.Lossy.{utf8_lossy}
use Rattle.std.specs.Str.Parse.{digits_value}
use Rattle.percent_encoding.specs.Percent.{percent_decode}
use Rattle.httparse.specs.Ascii.{line_feed, carriage_return}
use Rattle.httparse.specs.Grammar.{RequestHead}
use Rattle.httparse.specs.Spans.{name_and_value}
use Rattle.http_in.specs.declared.request.Request.{Request}
use Rattle.http_in.specs.Fields.{values, has_option}

-- the bytes at the front that pass a test
abbrev pub front_while : (ℕ → Bool) → List ℕ → List ℕ
front_while test [] = []
front_while test (b ∷ bs) = if test b then b ∷ front_while test bs else []

-- ---- the version (RFC 9112 §2.3)

abbrev pub is_within_line : ℕ → Bool
is_within_line b = not (b == line_feed)

-- without the CR of the line's end
abbrev pub without_cr : List ℕ → List ℕ
without_cr line = if slice_index line (length line - 1) == carriage_return then take (length line - 1) line else line

-- the first line, without its end
unfoldable pub first_line : List ℕ → List ℕ
first_line head = without_cr (front_while is_within_line head)

-- SP `HTTP/` DIGIT `.` DIGIT, but neither 1.0 nor 1.1
abbrev pub is_other_version : List ℕ → Bool
is_other_version (space ∷ h ∷ t ∷ u ∷ p ∷ slash ∷ major ∷ point ∷ minor ∷ []) =
    bytes_eq (space ∷ h ∷ t ∷ u ∷ p ∷ slash ∷ []) (codes " HTTP/")
    && is_ascii_digit major && point == 46 && is_ascii_digit minor
    && not (major == 49 && (minor == 48 || minor == 49))
is_other_version _ = false

-- the line ends in a version that is not spoken here
unfoldable pub ends_in_other_version : List ℕ → Bool
ends_in_other_version line = is_other_version (drop (length line - 9) line)

-- ---- the method and the target (RFC 9112 §3.1, §3.2)

abbrev pub methods : List (List ℕ)
methods = codes "GET" ∷ codes "HEAD" ∷ codes "POST" ∷ codes "PUT" ∷ codes "DELETE" ∷ codes "OPTIONS" ∷ codes "PATCH" ∷ []

-- a method that is known (RFC 9110 §9.3, RFC 5789)
abbrev pub is_known_method : List ℕ → Bool
is_known_method method = list_any (λ known. bytes_eq method known) methods

-- origin-form begins with `/` (§3.2.1)
abbrev pub is_origin_form : List ℕ → Bool
is_origin_form [] = false
is_origin_form (b ∷ bs) = b == 47

abbrev pub is_before_query : ℕ → Bool
is_before_query b = not (b == 63)

-- bytes as text, U+FFFD for what is not UTF-8
abbrev pub text_of : List ℕ → List ℕ
text_of bytes = chars (utf8_lossy bytes)

-- the path: up to the first `?`, its escapes decoded, and not normalised
unfoldable pub path_of : List ℕ → List ℕ
path_of target = text_of (percent_decode (front_while is_before_query target))

-- the query: what stands behind that `?`
unfoldable pub query_of : List ℕ → List ℕ
query_of target = drop (length (front_while is_before_query target) + 1) target

-- ---- the fields

-- exactly one `Host` in a request of version 1.1, and at most one in one of 1.0 (§3.2)
abbrev pub has_right_hosts : ℕ → List (List ℕ) → Bool
has_right_hosts minor hosts = if minor == 1 then length hosts == 1 else nat_le (length hosts) 1

-- the most bytes of a body
abbrev pub max_body : ℕ
max_body = 1048576

-- one digit or more, and nothing else
abbrev pub is_number : List ℕ → Bool
is_number value = nat_lt 0 (length value) && list_all is_ascii_digit value

-- the length that the fields `Content-Length` state (§6.2), 0 without one, or the status
abbrev pub stated_length : List (List ℕ) → Result ℕ ℕ
stated_length [] = Ok 0
stated_length (value ∷ []) =
    if is_number value then (if nat_le (digits_value 10 value) max_body then Ok (digits_value 10 value) else Err 413) else Err 400
stated_length (value ∷ other ∷ more) = Err 400

abbrev pub fields_of : RequestHead → List (List ℕ × List ℕ)
fields_of h = map name_and_value h.fields

-- the length of the body, or the status of the first rule that the head breaks
unfoldable pub body_length : List ℕ → List ℕ → ℕ → List (List ℕ × List ℕ) → Result ℕ ℕ
body_length method target minor fields =
    if not (is_known_method method) then Err 501
    else if not (is_origin_form target) then Err 400
    else if not (has_right_hosts minor (values (codes "Host") fields)) then Err 400
    else if nat_lt 0 (length (values (codes "Transfer-Encoding") fields)) then Err 501
    else stated_length (values (codes "Content-Length") fields)

-- the requests of one connection
abbrev pub max_requests : ℕ
max_requests = 1000

-- whether the connection goes on (RFC 9112 §9.3, §9.6) behind the request that so many came before
unfoldable pub keeps : ℕ → ℕ → List (List ℕ) → Bool
keeps number minor connections =
    nat_lt (number + 1) max_requests && not (has_option (codes "close") connections)
    && (minor == 1 || has_option (codes "keep-alive") connections)

-- a field as texts
abbrev pub field_texts : List ℕ × List ℕ → List ℕ × List ℕ
field_texts f = (text_of f.0, text_of f.1)

-- the request of these parts and this body, behind so many others
unfoldable pub made_request : ℕ → List ℕ → List ℕ → ℕ → List (List ℕ × List ℕ) → List ℕ → Request
made_request number method target minor fields body = record {
  method = text_of method;
  path = path_of target;
  query = query_of target;
  minor = minor;
  fields = map field_texts fields;
  body = body;
  keep = keeps number minor (values (codes "Connection") fields);
}

-- the request of a head and a body
abbrev pub request_of : ℕ → RequestHead → List ℕ → Request
request_of number h body = made_request number h.method h.target h.minor (fields_of h) body
