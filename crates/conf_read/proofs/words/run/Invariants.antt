use Rattle.std.proofs.Common.{◌≡◌, ◌++◌, take, drop}
use Rattle.conf_read.specs.Values.{run_of, passes}
use Rattle.conf_read.proofs.words.run.Given as goal

-- all so far passed
abbrev pub invariant-loop-c : goal.invariant-loop-c
invariant-loop-c l = record {
  counted : l.count ≡ l.c-index;
  passed : run_of (passes l.class) l.text ≡ (take l.c-index l.text ++ (run_of (passes l.class) (drop l.c-index l.text)).0, (run_of (passes l.class) (drop l.c-index l.text)).1);
}
