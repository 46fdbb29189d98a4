use Rattle.std.proofs.Common.{◌≡◌, drop}
use Rattle.std.specs.List.{list_all}
use Rattle.njs_tree.specs.Characters.{is_part}
use Rattle.njs_tree.proofs.names.all_parts.Given as goal

-- the rest decides
abbrev pub invariant-loop-b : goal.invariant-loop-b
invariant-loop-b l = list_all is_part l.bytes ≡ list_all is_part (drop l.b-index l.bytes)
