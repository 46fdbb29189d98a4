use Rattle.std.proofs.Common.{◌≡◌, map, drop, codes}
use Rattle.httparse.specs.Spans.{header_bytes}
use Rattle.http_in.specs.Fields.{values, has_option}
use Rattle.http_in.proofs.fields.has_option.Given as goal

abbrev pub invariant-loop-field : goal.invariant-loop-field
invariant-loop-field l =
    has_option l.word (values (codes "Connection") (map (header_bytes l.head) l.fields))
    ≡ has_option l.word (values (codes "Connection") (map (header_bytes l.head) (drop l.field-index l.fields)))
