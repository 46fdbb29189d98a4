use Rattle.std.proofs.Common.{◌≡◌, ◌+◌, [], ◌∷◌, ◌++◌, drop, ap, sym, ◌∙◌, append_assoc, rules, arith}
use Rattle.std.specs.Fmt.{decimal}
use Rattle.std.proofs.lemmas.List.{drop_more}
use Rattle.njs_meaning.specs.Members.{index_names}
use Rattle.njs_members.proofs.names.add_indices.Goals as goal

pub loop-index-preserved : goal.loop-index-preserved
loop-index-preserved c =
    let text = c.args.text.now in
    let i = c.loop-index.index in
    let names = c.loop-index.names.items in
    let pushed : c.push.new.self.items ≡ names ++ decimal i ∷ [] = search rules in
    ap (λ xs. xs ++ index_names (i + 1) (drop (i + 1) text)) pushed
    ∙ append_assoc names (decimal i ∷ []) (index_names (i + 1) (drop (i + 1) text))
    ∙ ap (λ t. names ++ index_names i t) (sym (drop_more text i 0 (omega (arith, c.length_of-index-end.ensures.length))))
    ∙ c.loop-index.invariant
