use Rattle.std.proofs.Common.{◌≡◌, drop}
use Rattle.conf_read.specs.Values.{with_options, no_options}
use Rattle.conf_read.proofs.zone.options_of.Given as goal

-- the words that are left decide
abbrev pub invariant-loop-word : goal.invariant-loop-word
invariant-loop-word l = with_options no_options l.words ≡ with_options l.options (drop l.word-index l.words)
