use Rattle.std.proofs.Common.{sym, ap, ◌∙◌}
use Rattle.http_in.specs.Rules.{ends_in_other_version}
use Rattle.http_in.proofs.Judging.{other_version}
use Rattle.http_in.proofs.judge.judge.Goals as goal

pub returns-then-ends_in_other_version : goal.returns-then-ends_in_other_version
returns-then-ends_in_other_version c =
    λ others. other_version c.args.number c.args.head.now others (ap ends_in_other_version (sym c.first_line.ensures) ∙ sym c.if-ends_in_other_version.ensures)
