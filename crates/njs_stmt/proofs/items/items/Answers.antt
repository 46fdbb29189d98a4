use Rattle.std.proofs.Common.{◌≡◌, ◌++◌, [], ◌∷◌, drop, sym, subst}
use Rattle.njs_tree.specs.TokenList.{symbols_of}
use Rattle.njs_stmt.proofs.NextItems.{ReadTo}
use Rattle.njs_stmt.proofs.Lookups.{none_read, pushed, token_read}
use Rattle.njs_stmt.proofs.Reading.{items_cut_off, items_more, items_stopped, items_whole}
use Rattle.njs_stmt.proofs.items.items.Goals as goal

pub returns-then-is_end : goal.returns-then-is_end
returns-then-is_end c =
    items_whole c.args.text.now c.args.tokens.now c.loop-token.found c.loop-token.exported c.loop-token.at c.in-Some.token.now c.requires.0 c.loop-token.invariant
    (token_read c.args.tokens.now c.loop-token.at c.in-Some.token.now c.in-Some.ensures.lookup.0 c.in-Some.ensures.lookup.1) (sym c.if-is_end.ensures)

pub loop-token-preserved : goal.loop-token-preserved
loop-token-preserved c =
    let all = symbols_of c.args.text.now c.args.tokens.now in
    let longer : c.push.new.self ≡ c.loop-token.found ++ c.in-Ok.item ∷ [] = pushed _ c.push.result c.if-is_err.ensures.value c.push.ensures.ok in
    let step = items_more c.args.text.now c.args.tokens.now c.loop-token.found c.loop-token.exported c.loop-token.at c.in-Ok.to c.in-Ok.item c.loop-token.invariant c.in-Ok.ensures in
    let flag : ReadTo all (c.loop-token.found ++ c.in-Ok.item ∷ []) c.exports-exported.result (drop c.in-Ok.to all) = subst (λ z. ReadTo all (c.loop-token.found ++ c.in-Ok.item ∷ []) z (drop c.in-Ok.to all)) (sym c.exports-exported.ensures) step in
    subst (λ z. ReadTo all z c.exports-exported.result (drop c.in-Ok.to all)) (sym longer) flag

pub returns-in-Err : goal.returns-in-Err
returns-in-Err c =
    items_stopped c.args.text.now c.args.tokens.now c.loop-token.found c.loop-token.exported c.loop-token.at c.in-Err.stop c.in-Some.token.now c.loop-token.invariant
    (token_read c.args.tokens.now c.loop-token.at c.in-Some.token.now c.in-Some.ensures.lookup.0 c.in-Some.ensures.lookup.1) (sym c.if-is_end.ensures) c.in-Err.ensures

pub returns : goal.returns
returns c =
    items_cut_off c.args.text.now c.args.tokens.now c.loop-token.found c.loop-token.exported c.loop-token.at c.line_at.result c.requires.0 c.loop-token.invariant (none_read c.args.tokens.now c.loop-token.at c.in_default.ensures.lookup.0)
    c.line_at.ensures
