use Rattle.std.proofs.Common.{◌≡◌, ◌++◌, drop}
use Rattle.njs_meaning.specs.Members.{index_names}
use Rattle.njs_members.proofs.names.add_indices.Given as goal

-- the names so far, and those of the rest
abbrev pub invariant-loop-index : goal.invariant-loop-index
invariant-loop-index l = l.names.items ++ index_names l.index (drop l.index l.text) ≡ l.initial.names.items ++ index_names 0 l.text
