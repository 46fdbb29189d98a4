use Rattle.std.proofs.Common.{◌≡◌, map, take}
use Rattle.httparse.specs.Spans.{header_bytes}
use Rattle.http_in.specs.Rules.{field_texts}
use Rattle.http_in.proofs.request.field_texts.Given as goal

abbrev pub invariant-loop-field : goal.invariant-loop-field
invariant-loop-field l = l.texts ≡ map field_texts (map (header_bytes l.head) (take l.field-index l.fields))
