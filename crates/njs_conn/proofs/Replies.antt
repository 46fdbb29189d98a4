-- A reply of plain text may be sent.
use Rattle.std.proofs.Common.{◌≡◌, ◌≤◌, ◌<◌, ℕ, List, [], All, refl, arith, codes, encode_utf8_all}
use Rattle.std.proofs.lemmas.List.Elements.{All-nil}
use Rattle.std.proofs.lemmas.List.Sums.{AllPass-from_list_all}
use Rattle.std.specs.Char.{encode_utf8}
use Rattle.http_header.specs.Token.{is_value_byte}
use Rattle.http_out.specs.Reply.{IsValue, IsField, IsReply}
use Rattle.njs_conn.specs.Meaning.{plain_text}

plain_type : IsValue (codes "text/plain")
unfolding IsValue encode_utf8
plain_type = AllPass-from_list_all is_value_byte (encode_utf8_all (codes "text/plain")) refl

pub sendable : (status : ℕ) (body : List ℕ) → 100 ≤ status → status < 1000 → IsReply (plain_text status body)
sendable status body low high = record { low = low; high = high; kind = plain_type; fields = All-nil IsField; few = omega arith }
