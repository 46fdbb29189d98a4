use Rattle.std.proofs.Common.{sym, ◌∙◌, arith}
use Rattle.std.specs.List.{slice_range}
use Rattle.std.specs.Str.{chars}
use Rattle.std.proofs.lemmas.Str.{chars_from_encodes}
use Rattle.njs_text.proofs.Places.{range_from_start, part_length, part_boundary, part_bytes}
use Rattle.njs_text.proofs.chars.part_of.Goals as goal

pub overflow_sub-rest : goal.overflow_sub-rest
overflow_sub-rest c =
    let whole = part_length (chars c.args.text.now) c.rest_of-rest.result.now c.rest_of-past.result.now c.args.from c.args.to c.requires.order c.rest_of-rest.utf8 c.rest_of-past.utf8 c.rest_of-rest.ensures c.rest_of-past.ensures in
    omega arith

pub range-requires-clause-end_boundary : goal.range-requires-clause-end_boundary
range-requires-clause-end_boundary c =
    part_boundary (chars c.args.text.now) c.rest_of-rest.result.now c.rest_of-past.result.now c.args.from c.args.to c.requires.order c.rest_of-rest.utf8 c.rest_of-past.utf8 c.rest_of-rest.ensures c.rest_of-past.ensures

pub returns : goal.returns
returns c =
    let bytes = part_bytes (chars c.args.text.now) c.rest_of-rest.result.now c.rest_of-past.result.now c.args.from c.args.to c.requires.order c.rest_of-rest.utf8 c.rest_of-past.utf8 c.rest_of-rest.ensures c.rest_of-past.ensures in
    sym (chars_from_encodes (slice_range (chars c.args.text.now) c.args.from c.args.to) c.range.result.now c.range.utf8 (sym (c.range.ensures.value ∙ range_from_start c.rest_of-rest.result.now _ ∙ bytes)))
