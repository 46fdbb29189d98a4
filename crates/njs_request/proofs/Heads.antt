-- Heads from which a response may be made.
use Rattle.std.proofs.Common.{◌≡◌, ◌≤◌, ℕ, List, [], refl, ap, ◌∙◌, arith, codes, encode_utf8_all}
use Rattle.std.proofs.lemmas.List.Elements.{All-nil}
use Rattle.std.proofs.lemmas.List.Sums.{AllPass-from_list_all}
use Rattle.std.specs.Char.{encode_utf8}
use Rattle.http_header.specs.Token.{is_value_byte}
use Rattle.http_out.specs.Reply.{IsValue, IsField, IsReply}
use Rattle.njs_meaning.specs.State.{Head}
use Rattle.njs_request.specs.Response.{IsHead, reply_with}
use Rattle.njs_request.specs.Return.{plain_head}

plain_type : IsValue (codes "text/plain")
unfolding IsValue encode_utf8
plain_type = AllPass-from_list_all is_value_byte (encode_utf8_all (codes "text/plain")) refl

pub plain_is_head : (status : ℕ) → 200 ≤ status → status ≤ 599 → IsHead (plain_head status)
plain_is_head status low high = record { low = low; high = high; kind = plain_type; fields = All-nil IsField; few = omega arith }

-- a head that is made of these parts
abbrev of_parts : ℕ → List ℕ → List (List ℕ × List ℕ) → Head
of_parts status kind fields = record { status = status; kind = kind; fields = fields }

pub plain_parts : (status : ℕ) (kind : List ℕ) (fields : List (List ℕ × List ℕ)) → kind ≡ codes "text/plain" → fields ≡ [] → of_parts status kind fields ≡ plain_head status
plain_parts status kind fields named none = ap (λ k. of_parts status k fields) named ∙ ap (of_parts status (codes "text/plain")) none

-- with any body
pub reply_is_valid : (head : Head) (body : List ℕ) → IsHead head → IsReply (reply_with body head)
reply_is_valid head body is = record {
  low = let low = is.low in omega arith;
  high = let high = is.high in omega arith;
  kind = is.kind;
  fields = is.fields;
  few = is.few;
}
