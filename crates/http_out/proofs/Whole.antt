-- The lines of a response's head hold no line end.
use Rattle.std.proofs.Common.{◌≡◌, ◌≢◌, ◌<◌, ◌+◌, ◌/◌, ◌%◌, ◌^◌, ℕ, Bool, true, false, List, [], ◌∷◌, ◌++◌, length, refl, arith, IsTrue, decimal, length-append, map}
use Rattle.std.specs.Prelude.{All, codes, not, if◌then◌else◌, ◌&&◌, ◌==◌, encode_utf8_all}
use Rattle.std.specs.List.{list_all}
use Rattle.std.specs.Str.Parse.{AllDigits}
use Rattle.std.proofs.lemmas.Bool.Decides.{nat_tests}
use Rattle.std.proofs.lemmas.List.Elements.{All-weaker, All-nil, All-cons, All-append, All-map}
use Rattle.std.proofs.lemmas.Fmt.{decimal_is_IsNumeral}
use Rattle.http.specs.StatusCode.{code_digits}
use Rattle.http_header.specs.Token.{is_token_byte, is_value_byte, is_visible_or_blank}
use Rattle.http_header.specs.FieldValue.{IsVisibleAscii}
use Rattle.http_header.proofs.TokenLemmas.{token_byte_range, AllPass-from_test}
use Rattle.http_out.specs.Message.{HasNoLineEnd, IsLine}
use Rattle.http_out.specs.Reply.{IsName, IsValue, IsField, IsReply}
use Rattle.http_out.specs.Response.{phrase, status_line, field_line, has_content, type_lines, further_line, length_lines, connection_line, head_lines}
use Rattle.http_out.specs.declared.reply.Reply.{Reply}

abbrev IsPlain : ℕ → Type 0
IsPlain b = (b ≢ 13) × (b ≢ 10)

abbrev is_plain : ℕ → Bool
is_plain b = not (b == 13) && not (b == 10)

IsPlain-from_test : (b : ℕ) → IsTrue (is_plain b) → IsPlain b
IsPlain-from_test b h = (λ e. grind (arith, nat_tests), λ e. grind (arith, nat_tests))

-- for bytes that are written out, the test computes
HasNoLineEnd-from_test : (bytes : List ℕ) → list_all is_plain bytes ≡ true → HasNoLineEnd bytes
HasNoLineEnd-from_test bytes h = All-weaker (λ b. IsTrue (is_plain b)) IsPlain IsPlain-from_test bytes (AllPass-from_test is_plain bytes h)

IsPlain-from_value : (b : ℕ) → IsTrue (is_value_byte b) → IsPlain b
IsPlain-from_value b h = (λ e. grind (arith, nat_tests), λ e. grind (arith, nat_tests))

IsPlain-from_visible : (b : ℕ) → IsTrue (is_visible_or_blank b) → IsPlain b
IsPlain-from_visible b h = (λ e. grind (arith, nat_tests), λ e. grind (arith, nat_tests))

IsPlain-from_token : (b : ℕ) → IsTrue (is_token_byte b) → IsPlain b
IsPlain-from_token b h =
    let range = token_byte_range b h in
    (λ e. omega arith, λ e. omega arith)

HasNoLineEnd-from_digits : (bytes : List ℕ) → AllDigits 10 bytes → HasNoLineEnd bytes
HasNoLineEnd-from_digits [] h = All-nil IsPlain
HasNoLineEnd-from_digits (b ∷ bytes) h =
    All-cons IsPlain b bytes (λ e. grind (arith, nat_tests), λ e. grind (arith, nat_tests)) (HasNoLineEnd-from_digits bytes h.1)

IsLine-field_line : (name value : List ℕ) → HasNoLineEnd name → HasNoLineEnd value → IsLine (field_line name value)
unfolding IsLine field_line
IsLine-field_line name value h k = (
  simp length-append (omega arith),
  All-append IsPlain (name ++ codes ": ") value (All-append IsPlain name (codes ": ") h (HasNoLineEnd-from_test (codes ": ") refl)) k,
)

IsPlain-digit : (n : ℕ) → IsPlain (48 + n)
IsPlain-digit n = (λ (e : 48 + n ≡ 13). omega arith, λ (e : 48 + n ≡ 10). omega arith)

HasNoLineEnd-code_digits : (status : ℕ) → HasNoLineEnd (code_digits status)
HasNoLineEnd-code_digits status =
    let last = All-cons IsPlain (48 + status % 10) [] (IsPlain-digit (status % 10)) (All-nil IsPlain) in
    let later = All-cons IsPlain (48 + status / 10 % 10) ((48 + status % 10) ∷ []) (IsPlain-digit (status / 10 % 10)) last in
    All-cons IsPlain (48 + status / 100) ((48 + status / 10 % 10) ∷ (48 + status % 10) ∷ []) (IsPlain-digit (status / 100)) later

pub IsLine-status_line : (status : ℕ) → IsVisibleAscii (phrase status) → IsLine (status_line status)
unfolding IsLine status_line
IsLine-status_line status h = (
  omega arith,
  All-append IsPlain (codes "HTTP/1.1 " ++ code_digits status ++ codes " ") (phrase status)
      (All-append IsPlain (codes "HTTP/1.1 " ++ code_digits status) (codes " ")
      (All-append IsPlain (codes "HTTP/1.1 ") (code_digits status) (HasNoLineEnd-from_test (codes "HTTP/1.1 ") refl) (HasNoLineEnd-code_digits status))
      (HasNoLineEnd-from_test (codes " ") refl))
      (All-weaker (λ b. IsTrue (is_visible_or_blank b)) IsPlain IsPlain-from_visible (phrase status) h),
)

where_stated : (stated : Bool) (line : List ℕ) → IsLine line → All IsLine (if stated then line ∷ [] else [])
where_stated true line h = All-cons IsLine line [] h (All-nil IsLine)
where_stated false line h = All-nil IsLine

pub length_lines-whole : (reply : Reply) → length (encode_utf8_all reply.body) < 2 ^ 64 → All IsLine (length_lines reply)
unfolding length_lines
length_lines-whole reply h =
    where_stated (has_content reply.status) _ (IsLine-field_line (codes "Content-Length") (decimal (length (encode_utf8_all reply.body))) (HasNoLineEnd-from_test (codes "Content-Length") refl)
    (HasNoLineEnd-from_digits _ (decimal_is_IsNumeral (length (encode_utf8_all reply.body)) h).0.1))

type_lines-whole : (reply : Reply) → IsValue reply.kind → All IsLine (type_lines reply)
unfolding type_lines IsValue
type_lines-whole reply h =
    where_stated (has_content reply.status) _ (IsLine-field_line (codes "Content-Type") (encode_utf8_all reply.kind) (HasNoLineEnd-from_test (codes "Content-Type") refl)
    (All-weaker (λ b. IsTrue (is_value_byte b)) IsPlain IsPlain-from_value _ h))

IsLine-further_line : (field : List ℕ × List ℕ) → IsField field → IsLine (further_line field)
unfolding further_line IsName IsValue
IsLine-further_line field h =
    IsLine-field_line _ _ (All-weaker (λ b. IsTrue (is_token_byte b)) IsPlain IsPlain-from_token _ h.0.0.1)
    (All-weaker (λ b. IsTrue (is_value_byte b)) IsPlain IsPlain-from_value _ h.1)

IsLine-connection_line : (keep : Bool) → IsLine (connection_line keep)
unfolding connection_line
IsLine-connection_line true =
    IsLine-field_line (codes "Connection") (codes "keep-alive") (HasNoLineEnd-from_test (codes "Connection") refl) (HasNoLineEnd-from_test (codes "keep-alive") refl)
IsLine-connection_line false =
    IsLine-field_line (codes "Connection") (codes "close") (HasNoLineEnd-from_test (codes "Connection") refl) (HasNoLineEnd-from_test (codes "close") refl)

pub head_lines-whole : (reply : Reply) (keep : Bool) → IsReply reply → IsLine (status_line reply.status) → All IsLine (length_lines reply)
    → All IsLine (head_lines reply keep)
unfolding head_lines
head_lines-whole reply keep h status lengths =
    let first = status_line reply.status ∷ [] in
    let types = type_lines reply in
    let further = map further_line reply.fields in
    let counted = length_lines reply in
    let last = connection_line keep ∷ [] in
    let further_whole = All-map IsLine further_line reply.fields (All-weaker IsField (λ f. IsLine (further_line f)) IsLine-further_line reply.fields h.fields) in
    let first_whole = All-cons IsLine (status_line reply.status) [] status (All-nil IsLine) in
    let last_whole = All-cons IsLine (connection_line keep) [] (IsLine-connection_line keep) (All-nil IsLine) in
    All-append IsLine (first ++ types ++ further ++ counted) last
    (All-append IsLine (first ++ types ++ further) counted
    (All-append IsLine (first ++ types) further (All-append IsLine first types first_whole (type_lines-whole reply h.kind)) further_whole) lengths) last_whole
