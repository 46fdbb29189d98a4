use Rattle.std.proofs.Common.{◌≡◌, is_some, ◌∙◌, rules}
use Rattle.njs_clone.specs.Content.{content}
use Rattle.njs_members.specs.Own.{own_of}
use Rattle.njs_members.proofs.Listing.{own-names}
use Rattle.njs_members.proofs.own.has_own.Goals as goal

pub returns-clause-named : goal.returns-clause-named
returns-clause-named c =
    let v = content c.args.machine.now.texts c.args.base in
    let there : c.is_some.result ≡ is_some (own_of c.args.name.now v) = search rules in
    there ∙ own-names c.args.name.now v c.own.ensures.short
