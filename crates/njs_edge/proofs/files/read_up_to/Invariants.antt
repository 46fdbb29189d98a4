use Rattle.std.proofs.Common.{◌≤◌, ◌-◌, vec_len}
use Rattle.std.specs.Io.KnownBytes.{Consumes}
use Rattle.njs_edge.proofs.files.read_up_to.Given as goal

abbrev pub invariant-loop-interruptions : goal.invariant-loop-interruptions
invariant-loop-interruptions g l =
    (vec_len l.bytes ≤ l.limit) × Consumes (g.F.Read.remaining l.fn.file) (g.F.Read.remaining l.file) l.bytes.items

-- each turn but the last adds a byte
abbrev pub decreases-loop-interruptions : goal.decreases-loop-interruptions
decreases-loop-interruptions g l = l.limit - vec_len l.bytes
