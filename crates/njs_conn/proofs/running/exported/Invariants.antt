use Rattle.std.proofs.Common.{◌≡◌, drop}
use Rattle.njs_conn.specs.Meaning.{exported}
use Rattle.njs_conn.proofs.running.exported.Given as goal

-- no item before exports anything
abbrev pub invariant-loop-item : goal.invariant-loop-item
invariant-loop-item l = exported l.script ≡ exported (drop l.item-index l.script)
