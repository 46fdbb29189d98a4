-- What a response may be made from.
use Rattle.std.specs.Prelude.{◌≡◌, ◌≤◌, ◌<◌, ℕ, List, [], ◌∷◌, length, All, codes, false, encode_utf8_all}
use Rattle.std.specs.List.{list_any}
use Rattle.std.specs.Str.{str_eq_ignore_ascii_case}
use Rattle.http_header.specs.Token.{IsToken}
use Rattle.http_header.specs.FieldValue.{IsFieldValue}
use Rattle.http_out.specs.declared.reply.Reply.{Reply}

-- the fields that a response states itself, and that no reply may name: its type (RFC 9110 §8.3), and those that say
-- where it ends and whether another follows (RFC 9112 §6.1, §6.2, §9.6)
abbrev pub stated_names : List (List ℕ)
stated_names = codes "Content-Type" ∷ codes "Content-Length" ∷ codes "Connection" ∷ codes "Transfer-Encoding" ∷ []

-- a name of a further field: a token (RFC 9110 §5.1), and in no case of its letters one of those
unfoldable pub IsName : List ℕ → Type 0
IsName name =
    let bytes = encode_utf8_all name in
    IsToken bytes × (list_any (λ stated. str_eq_ignore_ascii_case bytes stated) stated_names ≡ false)

-- a value of a field: no control characters but TAB (RFC 9110 §5.5)
unfoldable pub IsValue : List ℕ → Type 0
IsValue value = IsFieldValue (encode_utf8_all value)

-- a further field
abbrev pub IsField : List ℕ × List ℕ → Type 0
IsField field = IsName field.0 × IsValue field.1

-- a reply from which a response may be made
pub record IsReply (reply : Reply) : Type 0 where
  pub low : 100 ≤ reply.status
  pub high : reply.status < 1000
  pub kind : IsValue reply.kind
  pub fields : All IsField reply.fields
  pub few : length reply.fields ≤ 64
