use Rattle.std.proofs.Common.{◌≡◌, drop}
use Rattle.std.specs.Option.{option_map}
use Rattle.njs_conn.specs.Meaning.{function_named, or_else}
use Rattle.njs_conn.proofs.running.function_named.Given as goal

-- what was found counts unless a later item declares the name again
abbrev pub invariant-loop-item : goal.invariant-loop-item
invariant-loop-item l = function_named l.name l.script ≡ or_else (function_named l.name (drop l.item-index l.script)) (option_map (λ f. f.now) l.found)
