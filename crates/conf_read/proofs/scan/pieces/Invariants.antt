use Rattle.std.proofs.Common.{◌≡◌, drop}
use Rattle.conf_read.specs.Scan.{pieces_of, scanned, IsSmall}
use Rattle.conf_read.proofs.scan.pieces.Given as goal

-- what is given with the rest of the text is what the whole text gives
abbrev pub invariant-loop-c : goal.invariant-loop-c
invariant-loop-c l = record {
  given : scanned l.scanner (drop l.c-index l.text) ≡ pieces_of l.text;
  small : IsSmall l.scanner l.c-index;
}
