use Rattle.std.proofs.Common.{◌≡◌, drop}
use Rattle.conf_read.specs.Rules.{alike, any_key, key_of}
use Rattle.conf_read.specs.Walk.{listed}
use Rattle.conf_read.proofs.rules.has_key.Given as goal

-- the rest decides
abbrev pub invariant-loop-piece : goal.invariant-loop-piece
invariant-loop-piece l = record {
  wanted : l.wanted ≡ key_of l.kind l.directive.words;
  rest : any_key l.kind l.wanted (alike l.directive (listed l.earlier)) ≡ any_key l.kind l.wanted (alike l.directive (listed (drop l.piece-index l.earlier)));
}
