use Rattle.std.proofs.Common.{◌+◌, drop, arith}
use Rattle.std.proofs.lemmas.List.{take_rest, length-drop}
use Rattle.std.proofs.lemmas.Bool.{not-false}
use Rattle.http_in.proofs.Fronts.{kept_few}
use Rattle.http_in.proofs.Standing.{no_progress}
use Rattle.http_in.proofs.reader.Reader.look.Goals as goal

pub invariant_of-self : goal.invariant_of-self
invariant_of-self c =
    let inside = c.self.inside in
    let decided = simp take_rest at c.in-Request.ensures in
    let stands = rw c.deref.ensures.value at decided.1 in
    record {
      within = (let used = simp length-drop at decided.0 in let before = c.self.invariant.within in omega arith);
      few = λ kept. kept_few inside.given (drop inside.at inside.bytes.items) _ c.in-Request.request stands (not-false c.in-Request.request.keep kept);
      known = λ kept. no_progress (inside.given + 1) (drop (inside.at + c.in-Request.used) inside.bytes.items);
    }
