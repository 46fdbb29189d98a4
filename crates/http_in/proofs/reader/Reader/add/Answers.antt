use Rattle.std.proofs.Common.{drop, length, sym, subst, ap, ◌∙◌, arith}
use Rattle.std.proofs.lemmas.List.{length-append, drop-append-le}
use Rattle.http_in.specs.Deciding.{IsProgress}
use Rattle.http_in.proofs.Standing.{progress_more}
use Rattle.http_in.proofs.reader.Reader.add.Goals as goal

pub invariant_of-self-2 : goal.invariant_of-self-2
invariant_of-self-2 c =
    let inside = c.self.inside in
    let items = c.in_ok-extend_from_slice.ensures.items in
    let before = c.self.invariant.within in
    record {
      within = (let all = ap length items ∙ length-append inside.bytes.items c.args.piece.now in omega (arith, all, before));
      few = c.self.invariant.few;
      known = λ kept.
          subst (λ xs. IsProgress inside.given inside.progress xs) (sym (ap (drop inside.at) items ∙ drop-append-le inside.at inside.bytes.items c.args.piece.now before))
          (progress_more inside.given inside.progress (drop inside.at inside.bytes.items) c.args.piece.now (c.self.invariant.known kept));
    }
