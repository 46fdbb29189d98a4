-- What the levels of expressions are to one another, and what a symbol after an expression says of its level.
use Rattle.std.proofs.Common.{◌≡◌, ℕ, ◌≤◌, Bool, true, false, [], ◌∷◌, None, refl, ap, sym, ◌∙◌, arith, ◌⊎◌, inl, inr, pos}
use Rattle.njs_tree.specs.declared.token.Mark.TheVariants as mark
use Rattle.njs_tree.specs.declared.token.Joint.TheVariants as joint
use Rattle.njs_tree.specs.declared.tree.Expr.{Expr}
use Rattle.njs_tree.specs.declared.tree.ExprNode.TheVariants as node
use Rattle.njs_tree.specs.Lexemes.{Lexeme, Symbol}
use Rattle.njs_tree.specs.Symbols.{lexeme_of, joint_of, binds, update_of, strength, strength_by}
use Rattle.njs_tree.specs.Grammar.{is_target, is_target_node, Spells}
use Rattle.njs_expr.specs.Readers.{Symbols, terminal_of}
use Rattle.njs_expr.specs.Expressions.{links}
use Rattle.njs_expr.proofs.Forwards.{never}
use Rattle.njs_expr.proofs.Follow.{Follows, binds_small, joint_strength}
use Rattle.njs_expr.proofs.ExpressionsRead.{bare_untargeted}

-- at a looser level
pub weaken : {with_in : Bool} {least : ℕ} {tree : Expr} {d : ℕ} {e : Bool} {i r : Symbols} → Spells with_in least tree d e i r → (lower : ℕ) → lower ≤ least → Spells with_in lower tree d e i r
weaken (Spells.comma with_in least a b da db ea eb t i j r low ha is_t hb) lower h = Spells.comma with_in lower a b da db ea eb t i j r (omega arith) ha is_t hb
weaken (Spells.assign with_in least op a b da db ea eb t i j r low ha target is_t hb) lower h = Spells.assign with_in lower op a b da db ea eb t i j r (omega arith) ha target is_t hb
weaken (Spells.cond with_in least a b c da db dc ea eb ec t u i j k r low ha is_t hb is_u hc) lower h = Spells.cond with_in lower a b c da db dc ea eb ec t u i j k r (omega arith) ha is_t hb is_u hc
weaken (Spells.logical with_in least op a b da db ea eb t i j r low ha is_t hb) lower h = Spells.logical with_in lower op a b da db ea eb t i j r (omega arith) ha is_t hb
weaken (Spells.binary with_in least op a b da db ea eb t i j r low ha is_t hb) lower h = Spells.binary with_in lower op a b da db ea eb t i j r (omega arith) ha is_t hb
weaken (Spells.unary with_in least op a d e t j r low is_t ha) lower h = Spells.unary with_in lower op a d e t j r (omega arith) is_t ha
weaken (Spells.update_before with_in least op a d e t j r low is_t ha target) lower h = Spells.update_before with_in lower op a d e t j r (omega arith) is_t ha target
weaken (Spells.update_after with_in least op a d e t i r low ha target is_t same) lower h = Spells.update_after with_in lower op a d e t i r (omega arith) ha target is_t same
weaken (Spells.bare_new with_in least a d i r low ha) lower h = Spells.bare_new with_in lower a d i r (omega arith) ha
weaken (Spells.call with_in least a xs da dx ea t i j r low ha is_t hxs) lower h = Spells.call with_in lower a xs da dx ea t i j r (omega arith) ha is_t hxs
weaken (Spells.member with_in least base a name d e t u i r low low2 low3 ha is_t is_u) lower h = Spells.member with_in lower base a name d e t u i r (omega arith) low2 low3 ha is_t is_u
weaken (Spells.index with_in least base a b da db ea eb t u i j r low low2 low3 ha is_t hb is_u) lower h = Spells.index with_in lower base a b da db ea eb t u i j r (omega arith) low2 low3 ha is_t hb is_u
weaken (Spells.new with_in least a xs da dx ea t u j k r low is_t ha is_u hxs) lower h = Spells.new with_in lower a xs da dx ea t u j k r (omega arith) is_t ha is_u hxs
weaken (Spells.parenthesized with_in least a d e t u j r is_t ha is_u) lower h = Spells.parenthesized with_in lower a d e t u j r is_t ha is_u
weaken (Spells.number with_in least n t r is_t) lower h = Spells.number with_in lower n t r is_t
weaken (Spells.string with_in least text t r is_t) lower h = Spells.string with_in lower text t r is_t
weaken (Spells.name with_in least text t r is_t) lower h = Spells.name with_in lower text t r is_t
weaken (Spells.this with_in least t r is_t) lower h = Spells.this with_in lower t r is_t
weaken (Spells.null with_in least t r is_t) lower h = Spells.null with_in lower t r is_t
weaken (Spells.yes with_in least t r is_t) lower h = Spells.yes with_in lower t r is_t
weaken (Spells.no with_in least t r is_t) lower h = Spells.no with_in lower t r is_t
weaken (Spells.array with_in least xs d t j r is_t hxs) lower h = Spells.array with_in lower xs d t j r is_t hxs
weaken (Spells.object with_in least ps d t j r is_t hps) lower h = Spells.object with_in lower ps d t j r is_t hps
weaken (Spells.unnamed with_in least f d t j r is_t hf) lower h = Spells.unnamed with_in lower f d t j r is_t hf
weaken (Spells.named with_in least name f d t u j r is_t is_u hf) lower h = Spells.named with_in lower name f d t u j r is_t is_u hf

-- a target is a chain, at whatever level it is spelled
pub tighten : {with_in : Bool} {least : ℕ} {tree : Expr} {d : ℕ} {e : Bool} {i r : Symbols} → Spells with_in least tree d e i r → is_target tree ≡ true → Spells with_in 16 tree d e i r
tighten (Spells.comma with_in least a b da db ea eb t i j r low ha is_t hb) h = absurd (never (sym h ∙ ap is_target_node (node.outs-Comma a b)))
tighten (Spells.assign with_in least op a b da db ea eb t i j r low ha target is_t hb) h = absurd (never (sym h ∙ ap is_target_node (node.outs-Assign op a b)))
tighten (Spells.cond with_in least a b c da db dc ea eb ec t u i j k r low ha is_t hb is_u hc) h = absurd (never (sym h ∙ ap is_target_node (node.outs-Cond a b c)))
tighten (Spells.logical with_in least op a b da db ea eb t i j r low ha is_t hb) h = absurd (never (sym h ∙ ap is_target_node (node.outs-Logical op a b)))
tighten (Spells.binary with_in least op a b da db ea eb t i j r low ha is_t hb) h = absurd (never (sym h ∙ ap is_target_node (node.outs-Binary op a b)))
tighten (Spells.unary with_in least op a d e t j r low is_t ha) h = absurd (never (sym h ∙ ap is_target_node (node.outs-Unary op a)))
tighten (Spells.update_before with_in least op a d e t j r low is_t ha target) h = absurd (never (sym h ∙ ap is_target_node (node.outs-Update op true a)))
tighten (Spells.update_after with_in least op a d e t i r low ha target is_t same) h = absurd (never (sym h ∙ ap is_target_node (node.outs-Update op false a)))
tighten (Spells.bare_new with_in least a d i r low ha) h = absurd (never (sym h ∙ bare_untargeted ha))
tighten (Spells.call with_in least a xs da dx ea t i j r low ha is_t hxs) h = absurd (never (sym h ∙ ap is_target_node (node.outs-Call a xs)))
tighten (Spells.member with_in least base a name d e t u i r low low2 low3 ha is_t is_u) h = Spells.member with_in 16 base a name d e t u i r (omega arith) low2 low3 ha is_t is_u
tighten (Spells.index with_in least base a b da db ea eb t u i j r low low2 low3 ha is_t hb is_u) h = Spells.index with_in 16 base a b da db ea eb t u i j r (omega arith) low2 low3 ha is_t hb is_u
tighten (Spells.new with_in least a xs da dx ea t u j k r low is_t ha is_u hxs) h = absurd (never (sym h ∙ ap is_target_node (node.outs-New a xs)))
tighten (Spells.parenthesized with_in least a d e t u j r is_t ha is_u) h = Spells.parenthesized with_in 16 a d e t u j r is_t ha is_u
tighten (Spells.number with_in least n t r is_t) h = absurd (never (sym h ∙ ap is_target_node (node.outs-Num (pos n))))
tighten (Spells.string with_in least text t r is_t) h = absurd (never (sym h ∙ ap is_target_node (node.outs-Str text)))
tighten (Spells.name with_in least text t r is_t) h = Spells.name with_in 16 text t r is_t
tighten (Spells.this with_in least t r is_t) h = absurd (never (sym h ∙ ap is_target_node (node.outs-This)))
tighten (Spells.null with_in least t r is_t) h = absurd (never (sym h ∙ ap is_target_node (node.outs-Null)))
tighten (Spells.yes with_in least t r is_t) h = absurd (never (sym h ∙ ap is_target_node (node.outs-Bool true)))
tighten (Spells.no with_in least t r is_t) h = absurd (never (sym h ∙ ap is_target_node (node.outs-Bool false)))
tighten (Spells.array with_in least xs d t j r is_t hxs) h = absurd (never (sym h ∙ ap is_target_node (node.outs-Array xs)))
tighten (Spells.object with_in least ps d t j r is_t hps) h = absurd (never (sym h ∙ ap is_target_node (node.outs-Object ps)))
tighten (Spells.unnamed with_in least f d t j r is_t hf) h = absurd (never (sym h ∙ ap is_target_node (node.outs-Function f)))
tighten (Spells.named with_in least name f d t u j r is_t is_u hf) h = absurd (never (sym h ∙ ap is_target_node (node.outs-Function f)))

-- ---- the symbol after an expression

kept_by : (with_in ends : Bool) (x : Lexeme) (broken : Bool) → strength_by with_in ends x broken ≤ 14 → strength_by with_in ends x broken ≡ binds (joint_of with_in x)
kept_by with_in true (Lexeme.mark mark.LeftParen) broken h = refl
kept_by with_in false (Lexeme.mark mark.LeftParen) broken h = absurd (omega arith)
kept_by with_in true (Lexeme.mark mark.LeftBracket) broken h = refl
kept_by with_in false (Lexeme.mark mark.LeftBracket) broken h = absurd (omega arith)
kept_by with_in true (Lexeme.mark mark.Dot) broken h = refl
kept_by with_in false (Lexeme.mark mark.Dot) broken h = absurd (omega arith)
kept_by with_in true (Lexeme.mark mark.PlusPlus) broken h = refl
kept_by with_in false (Lexeme.mark mark.PlusPlus) true h = refl
kept_by with_in false (Lexeme.mark mark.PlusPlus) false h = absurd (omega arith)
kept_by with_in true (Lexeme.mark mark.MinusMinus) broken h = refl
kept_by with_in false (Lexeme.mark mark.MinusMinus) true h = refl
kept_by with_in false (Lexeme.mark mark.MinusMinus) false h = absurd (omega arith)
kept_by with_in ends _ broken h = refl

-- what binds neither as a link nor as a postfix binds as a joint
pub kept : (with_in : Bool) (r : Symbols) (e : Bool) → strength with_in e r ≤ 14 → strength with_in e r ≡ binds (joint_of with_in (lexeme_of r))
kept with_in [] e h = refl
kept with_in (t ∷ ts) e h = kept_by with_in e t.lexeme t.after_break h

after_postfix_by : (with_in : Bool) (x : Lexeme) (broken : Bool) → strength_by with_in true x broken ≤ 13
after_postfix_by with_in (Lexeme.mark mark.LeftParen) broken = omega arith
after_postfix_by with_in (Lexeme.mark mark.LeftBracket) broken = omega arith
after_postfix_by with_in (Lexeme.mark mark.Dot) broken = omega arith
after_postfix_by with_in (Lexeme.mark mark.PlusPlus) broken = omega arith
after_postfix_by with_in (Lexeme.mark mark.MinusMinus) broken = omega arith
after_postfix_by with_in x broken = binds_small (joint_of with_in x)

pub after_postfix : (with_in : Bool) (r : Symbols) → strength with_in true r ≤ 13
after_postfix with_in [] = omega arith
after_postfix with_in (t ∷ ts) = after_postfix_by with_in t.lexeme t.after_break

-- neither a link nor a postfix on the line
pub broken_off : (with_in : Bool) (x : Lexeme) (broken : Bool) → links true (terminal_of x) ≡ false → (broken ≡ true) ⊎ (update_of x ≡ None) → strength_by with_in false x broken ≤ 13
broken_off with_in (Lexeme.mark mark.LeftParen) broken unlinked h = absurd (cc)
broken_off with_in (Lexeme.mark mark.LeftBracket) broken unlinked h = absurd (cc)
broken_off with_in (Lexeme.mark mark.Dot) broken unlinked h = absurd (cc)
broken_off with_in (Lexeme.mark mark.PlusPlus) true unlinked h = omega arith
broken_off with_in (Lexeme.mark mark.PlusPlus) false unlinked (inl e) = absurd (cc)
broken_off with_in (Lexeme.mark mark.PlusPlus) false unlinked (inr e) = absurd (cc)
broken_off with_in (Lexeme.mark mark.MinusMinus) true unlinked h = omega arith
broken_off with_in (Lexeme.mark mark.MinusMinus) false unlinked (inl e) = absurd (cc)
broken_off with_in (Lexeme.mark mark.MinusMinus) false unlinked (inr e) = absurd (cc)
broken_off with_in x broken unlinked h = binds_small (joint_of with_in x)

pub above_question : (with_in : Bool) (level : ℕ) (ends : Bool) (t : Symbol) (j : Symbols) → joint_of with_in t.lexeme ≡ joint.Question → Follows with_in level ends (t ∷ j) → 4 ≤ level
above_question with_in level ends t j is f =
    let e : strength with_in ends (t ∷ j) ≡ 3 = joint_strength with_in ends t j joint.Question is (omega arith) in
    grind (arith, e, f.tight, f.low)
