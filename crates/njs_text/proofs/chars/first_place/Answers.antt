use Rattle.std.proofs.Common.{◌≡◌, ◌+◌, length, take, sym, ap, ◌∙◌, subst}
use Rattle.std.specs.Str.{chars}
use Rattle.memchr.specs.Find.{FindsNeedle, NoneBefore, Nowhere, OccursAt}
use Rattle.njs_text.proofs.Finding.{boundary, first_value, no_value}
use Rattle.njs_text.proofs.Places.{range_from_start}
use Rattle.njs_text.proofs.chars.first_place.Goals as goal

pub returns-in_err-byte : goal.returns-in_err-byte
returns-in_err-byte c =
    let none : Nowhere (OccursAt c.args.text.now c.args.part.now) 0 (length c.args.text.now + 1) =
    rw (← c.as_bytes.ensures.value, ← c.as_bytes-2.ensures.value) c.in_err-byte.ensures
    in
    subst (FindsNeedle (chars c.args.text.now) (chars c.args.part.now) 0) (sym c.from_residual.ensures)
    (no_value c.args.text.now c.args.part.now c.utf8.text c.utf8.part none)

pub range-requires-clause-end_boundary : goal.range-requires-clause-end_boundary
range-requires-clause-end_boundary c =
    let found : NoneBefore (OccursAt c.args.text.now c.args.part.now) 0 (length c.args.text.now + 1) c.in_ok-byte.byte × OccursAt c.args.text.now c.args.part.now c.in_ok-byte.byte =
    rw (← c.as_bytes.ensures.value, ← c.as_bytes-2.ensures.value) c.in_ok-byte.ensures
    in
    boundary c.args.text.now c.args.part.now c.utf8.text c.utf8.part c.in_ok-byte.byte found.1 found.0.before

pub returns : goal.returns
returns c =
    let found : NoneBefore (OccursAt c.args.text.now c.args.part.now) 0 (length c.args.text.now + 1) c.in_ok-byte.byte × OccursAt c.args.text.now c.args.part.now c.in_ok-byte.byte =
    rw (← c.as_bytes.ensures.value, ← c.as_bytes-2.ensures.value) c.in_ok-byte.ensures
    in
    let count : length (chars (take c.in_ok-byte.byte c.args.text.now)) ≡ c.char_count.result =
    sym (c.char_count.ensures.count ∙ ap (λ bytes. length (chars bytes)) (c.range.ensures.value ∙ range_from_start c.args.text.now c.in_ok-byte.byte))
    in
    subst
    (λ k. NoneBefore (OccursAt (chars c.args.text.now) (chars c.args.part.now)) 0 (length (chars c.args.text.now) + 1) k × OccursAt (chars c.args.text.now) (chars c.args.part.now) k)
    count (first_value c.args.text.now c.args.part.now c.utf8.text c.utf8.part c.in_ok-byte.byte found.1 found.0.before)
