use Rattle.std.proofs.Common.{◌≡◌, ◌≤◌, length, if◌then◌else◌}
use Rattle.std.specs.List.{list_any}
use Rattle.conf_read.specs.Values.{last_part, is_slash}
use Rattle.conf_read.proofs.words.last_part.Given as goal

-- the part so far is the last one where no other `/` comes
abbrev pub invariant-loop-rest : goal.invariant-loop-rest
invariant-loop-rest l = record {
  last : last_part l.text ≡ (if list_any is_slash l.rest then last_part l.rest else l.part);
  few : length l.part ≤ length l.text;
  left : length l.rest ≤ length l.text;
}

abbrev pub decreases-loop-rest : goal.decreases-loop-rest
decreases-loop-rest l = length l.rest
