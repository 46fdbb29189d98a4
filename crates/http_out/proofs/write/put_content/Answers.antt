use Rattle.std.proofs.Common.{◌∙◌, sym, append-nil, inl, inr}
use Rattle.http_out.specs.Response.{content}
use Rattle.http_out.proofs.write.put_content.Goals as goal

pub returns-in_ok-extend_from_slice : goal.returns-in_ok-extend_from_slice
unfolding content
returns-in_ok-extend_from_slice c =
    c.in_ok-extend_from_slice.ensures.items ∙ rw (c.as_bytes.ensures.bytes, ← c.if-has_content.ensures, c.if-not-head_only.true)

pub returns-else-has_content : goal.returns-else-has_content
unfolding content
returns-else-has_content c =
    elim c.else-has_content.either [
      | inl both ↦ rw (← c.has_content.ensures, both.0, both.1) (sym (append-nil _))
      | inr none ↦ rw (← c.has_content.ensures, none) (sym (append-nil _))
    ]
