use Rattle.std.proofs.Common.{◌≡◌, drop}
use Rattle.conf_read.specs.Rules.{is_import}
use Rattle.conf_read.proofs.rules.is_import.Given as goal

-- the rest decides
abbrev pub invariant-loop-import : goal.invariant-loop-import
invariant-loop-import l = is_import l.name l.imports ≡ is_import l.name (drop l.import-index l.imports)
