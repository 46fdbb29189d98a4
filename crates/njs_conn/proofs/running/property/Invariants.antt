use Rattle.std.proofs.Common.{◌≡◌, drop}
use Rattle.std.specs.Option.{option_map}
use Rattle.njs_conn.specs.Meaning.{property, or_else}
use Rattle.njs_conn.proofs.running.property.Given as goal

-- what was found counts unless a later key is the same
abbrev pub invariant-loop-property : goal.invariant-loop-property
invariant-loop-property l = property l.name l.properties ≡ or_else (property l.name (drop l.property-index l.properties)) (option_map (λ e. e.now) l.found)
