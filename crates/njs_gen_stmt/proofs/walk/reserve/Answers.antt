use Rattle.std.proofs.Common.{◌≡◌, [], ◌∷◌, ◌++◌, rules}
use Rattle.njs_gen_stmt.specs.Walked.{unwritten}
use Rattle.njs_gen_stmt.proofs.FunctionEnds.{reserved, refused_reserved}
use Rattle.njs_gen_stmt.proofs.walk.reserve.Goals as goal

pub returns-in-Ok-clause-reserved : goal.returns-in-Ok-clause-reserved
returns-in-Ok-clause-reserved c f h =
    let pushed : c.push.new.self ≡ c.args.w.now.functions ++ unwritten ∷ [] = search rules in
    reserved c.args.w.now f c.push.new.self (λ g. pushed) h

pub returns-in-Err-clause-reserved : goal.returns-in-Err-clause-reserved
returns-in-Err-clause-reserved c f h =
    let same : c.push.new.self ≡ c.args.w.now.functions = search rules in
    refused_reserved c.args.w.now c.refuse.new.w f c.push.new.self same c.refuse.ensures.holds c.refuse.ensures.ended h
