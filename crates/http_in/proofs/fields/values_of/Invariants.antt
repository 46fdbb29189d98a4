use Rattle.std.proofs.Common.{map, drop}
use Rattle.httparse.specs.Spans.{header_bytes}
use Rattle.http_in.specs.Fields.{values}
use Rattle.http_in.proofs.Found.{Found}
use Rattle.http_in.proofs.fields.values_of.Given as goal

-- the values so far, and those behind
abbrev pub invariant-loop-field : goal.invariant-loop-field
invariant-loop-field l = Found l.found l.head (values l.name (map (header_bytes l.head) l.fields)) (values l.name (map (header_bytes l.head) (drop l.field-index l.fields)))
