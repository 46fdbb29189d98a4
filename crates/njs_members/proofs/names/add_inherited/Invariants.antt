use Rattle.std.proofs.Common.{◌≡◌, ◌<◌, ◌-◌, ◌+◌, ◌++◌, ℕ, length}
use Rattle.njs_clone.specs.Content.{content}
use Rattle.njs_clone.specs.StandsFor.{plain_objects}
use Rattle.njs_meaning.specs.Chains.{chain}
use Rattle.njs_meaning.specs.Members.{listed_names, chain_from}
use Rattle.njs_members.specs.Listed.{own_names_of, hidden_by}
use Rattle.njs_members.proofs.names.add_inherited.Given as goal

-- the chain so far with the rest of it, and the names so far with those of the rest
abbrev pub invariant-loop-depth : goal.invariant-loop-depth
invariant-loop-depth l = record {
  within : l.at.0 < length l.machine.objects;
  way : (more : ℕ) → chain (l.depth + more) (plain_objects l.machine) l.start.0 ≡ chain l.depth (plain_objects l.machine) l.start.0 ++ chain more (plain_objects l.machine) l.at.0;
  rest : l.names.items ++ listed_names (hidden_by (content l.machine.texts l.base) (plain_objects l.machine) l.start.0 l.depth) (chain (length l.machine.objects - l.depth) (plain_objects l.machine) l.at.0)
      ≡ l.initial.names.items ++ listed_names (own_names_of (content l.machine.texts l.base)) (chain_from (plain_objects l.machine) l.start.0);
}
