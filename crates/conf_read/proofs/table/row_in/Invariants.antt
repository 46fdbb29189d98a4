use Rattle.std.proofs.Common.{◌≡◌, drop, map}
use Rattle.conf_read.specs.Table.{row_in}
use Rattle.conf_read.proofs.table.row_in.Given as goal

-- the rest of the rows decides
abbrev pub invariant-loop-word : goal.invariant-loop-word
invariant-loop-word l = row_in l.name (map (λ r. (r.0.now, r.1)) l.rows) ≡ row_in l.name (map (λ r. (r.0.now, r.1)) (drop l.word-index l.rows))
