use Rattle.std.proofs.Common.{◌≡◌, drop, length}
use denote.Text.{Utf8}
use denote.Shadow.{shadow}
use Rattle.std.specs.Str.{chars}
use Rattle.njs_tree.specs.Lexical.{front_length}
use Rattle.njs_lexer.specs.Runs.{test_of}
use Rattle.njs_lexer.proofs.rest.past_run.Given as goal

-- the run so far is passed over
abbrev pub invariant-loop-kind : goal.invariant-loop-kind
invariant-loop-kind l = shadow (Utf8 l.rest) × (drop (front_length (test_of l.kind) (chars l.rest)) (chars l.rest) ≡ drop (front_length (test_of l.kind) (chars l.text)) (chars l.text))

abbrev pub decreases-loop-kind : goal.decreases-loop-kind
decreases-loop-kind l = length (chars l.rest)
