use Rattle.std.proofs.Common.{◌≡◌, drop}
use Rattle.njs_meaning.specs.Chains.{small_letters}
use Rattle.njs_props.specs.Props.{property}
use Rattle.njs_clone.proofs.reads.read_header.Given as goal

-- the name isn't among the entries so far
abbrev pub invariant-loop-place : goal.invariant-loop-place
invariant-loop-place l = property (small_letters l.name) (drop l.place l.props) ≡ property (small_letters l.name) l.props
