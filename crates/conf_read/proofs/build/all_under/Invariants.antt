use Rattle.std.proofs.Common.{◌≡◌, take, map, option_map}
use Rattle.conf_read.specs.Meaning.{under}
use Rattle.conf_read.proofs.build.all_under.Given as goal

-- those so far
abbrev pub invariant-loop-import : goal.invariant-loop-import
invariant-loop-import l = l.all ≡ map (under (option_map (λ path. path.now) l.path)) (take l.import-index l.imports)
