-- How expressions and statements begin.
use Rattle.std.proofs.Common.{◌≡◌, ℕ, ◌≤◌, Bool, true, false, ◌||◌, List, Some, None, refl, ap, sym, ◌∙◌, arith}
use Rattle.njs_tree.specs.declared.token.Keyword.TheVariants as keyword
use Rattle.njs_tree.specs.declared.token.Mark.{Mark}
use Rattle.njs_tree.specs.declared.token.Mark.TheVariants as mark
use Rattle.njs_tree.specs.declared.tree.UnaryOp.{UnaryOp}
use Rattle.njs_tree.specs.declared.tree.UpdateOp.{UpdateOp}
use Rattle.njs_tree.specs.declared.tree.Expr.{Expr}
use Rattle.njs_tree.specs.declared.tree.Stmt.{Stmt}
use Rattle.njs_expr.specs.declared.terminal.Terminal.{Terminal}
use Rattle.njs_expr.specs.declared.terminal.Terminal.TheVariants as terminal
use Rattle.njs_tree.specs.Lexemes.{Lexeme}
use Rattle.njs_tree.specs.Symbols.{lexeme_of, breaks, prefix_of, update_of, begins_other, may_miss}
use Rattle.njs_tree.specs.Grammar.{Spells, BareNew, Block, IsItem, Stands, Ends}
use Rattle.njs_expr.specs.Readers.{Symbols, Reader, terminal_of, next_of, sees, like, Grown, Stood}
use Rattle.njs_expr.specs.Expressions.{closes}
use Rattle.njs_expr.specs.Statements.{begins_labelled, ends_here, expr_by, name_by, keyword_by, statement_by}
use Rattle.njs_expr.proofs.Terminals.{seen_terminal, is_seen, miss_like}
use Rattle.njs_expr.proofs.Forwards.{quiet_by}

-- the terminals with which an expression begins
abbrev pub begins : Terminal → Bool
begins terminal.Name = true
begins terminal.Number = true
begins terminal.Str = true
begins (terminal.Mark mark.LeftParen) = true
begins (terminal.Mark mark.LeftBracket) = true
begins (terminal.Mark mark.LeftBrace) = true
begins (terminal.Mark mark.Plus) = true
begins (terminal.Mark mark.Minus) = true
begins (terminal.Mark mark.BitNot) = true
begins (terminal.Mark mark.Not) = true
begins (terminal.Mark mark.PlusPlus) = true
begins (terminal.Mark mark.MinusMinus) = true
begins (terminal.Reserved keyword.Delete) = true
begins (terminal.Reserved keyword.Void) = true
begins (terminal.Reserved keyword.TypeOf) = true
begins (terminal.Reserved keyword.New) = true
begins (terminal.Reserved keyword.Function) = true
begins (terminal.Reserved keyword.This) = true
begins (terminal.Reserved keyword.Null) = true
begins (terminal.Reserved keyword.True) = true
begins (terminal.Reserved keyword.False) = true
begins _ = false

prefix_begins : (x : Lexeme) (op : UnaryOp) → prefix_of x ≡ Some op → begins (terminal_of x) ≡ true
prefix_begins (Lexeme.reserved keyword.Delete) op e = refl
prefix_begins (Lexeme.reserved keyword.Void) op e = refl
prefix_begins (Lexeme.reserved keyword.TypeOf) op e = refl
prefix_begins (Lexeme.mark mark.Plus) op e = refl
prefix_begins (Lexeme.mark mark.Minus) op e = refl
prefix_begins (Lexeme.mark mark.BitNot) op e = refl
prefix_begins (Lexeme.mark mark.Not) op e = refl
prefix_begins _ op e = absurd (cc)

update_begins : (x : Lexeme) (op : UpdateOp) → update_of x ≡ Some op → begins (terminal_of x) ≡ true
update_begins (Lexeme.mark mark.PlusPlus) op e = refl
update_begins (Lexeme.mark mark.MinusMinus) op e = refl
update_begins _ op e = absurd (cc)

bare_begins : {with_in : Bool} {tree : Expr} {d : ℕ} {i r : Symbols} → BareNew with_in tree d i r → begins (next_of i) ≡ true
bare_begins (BareNew.new_chain with_in a d e t j r is_t ha) = rw is_t
bare_begins (BareNew.new_new with_in a d t j r is_t ha) = rw is_t

pub begun : {with_in : Bool} {least : ℕ} {tree : Expr} {d : ℕ} {e : Bool} {i r : Symbols} → Spells with_in least tree d e i r → begins (next_of i) ≡ true
begun (Spells.comma with_in least a b da db ea eb t i j r low ha is_t hb) = begun ha
begun (Spells.assign with_in least op a b da db ea eb t i j r low ha target is_t hb) = begun ha
begun (Spells.cond with_in least a b c da db dc ea eb ec t u i j k r low ha is_t hb is_u hc) = begun ha
begun (Spells.logical with_in least op a b da db ea eb t i j r low ha is_t hb) = begun ha
begun (Spells.binary with_in least op a b da db ea eb t i j r low ha is_t hb) = begun ha
begun (Spells.unary with_in least op a d e t j r low is_t ha) = prefix_begins t.lexeme op is_t
begun (Spells.update_before with_in least op a d e t j r low is_t ha target) = update_begins t.lexeme op is_t
begun (Spells.update_after with_in least op a d e t i r low ha target is_t same) = begun ha
begun (Spells.bare_new with_in least a d i r low ha) = bare_begins ha
begun (Spells.call with_in least a xs da dx ea t i j r low ha is_t hxs) = begun ha
begun (Spells.member with_in least base a name d e t u i r low low2 low3 ha is_t is_u) = begun ha
begun (Spells.index with_in least base a b da db ea eb t u i j r low low2 low3 ha is_t hb is_u) = begun ha
begun (Spells.new with_in least a xs da dx ea t u j k r low is_t ha is_u hxs) = rw is_t
begun (Spells.parenthesized with_in least a d e t u j r is_t ha is_u) = rw is_t
begun (Spells.number with_in least n t r is_t) = rw is_t
begun (Spells.string with_in least text t r is_t) = rw is_t
begun (Spells.name with_in least text t r is_t) = rw is_t
begun (Spells.this with_in least t r is_t) = rw is_t
begun (Spells.null with_in least t r is_t) = rw is_t
begun (Spells.yes with_in least t r is_t) = rw is_t
begun (Spells.no with_in least t r is_t) = rw is_t
begun (Spells.array with_in least xs d t j r is_t hxs) = rw is_t
begun (Spells.object with_in least ps d t j r is_t hps) = rw is_t
begun (Spells.unnamed with_in least f d t j r is_t hf) = rw is_t
begun (Spells.named with_in least name f d t u j r is_t is_u hf) = rw is_t

abbrev pub Unprefixed : Lexeme → Type 0
Unprefixed x = (prefix_of x ≡ None) × (update_of x ≡ None)

pub plain_start : (x y : Lexeme) → x ≡ y → Unprefixed y → Unprefixed x
plain_start x y e h = rw e h

-- a chain begins with no operator
pub chain_begun : {with_in : Bool} {least : ℕ} {tree : Expr} {d : ℕ} {e : Bool} {i r : Symbols} → Spells with_in least tree d e i r → 17 ≤ least → Unprefixed (lexeme_of i)
chain_begun (Spells.comma with_in least a b da db ea eb t i j r low ha is_t hb) h = absurd (omega arith)
chain_begun (Spells.assign with_in least op a b da db ea eb t i j r low ha target is_t hb) h = absurd (omega arith)
chain_begun (Spells.cond with_in least a b c da db dc ea eb ec t u i j k r low ha is_t hb is_u hc) h = absurd (omega arith)
chain_begun (Spells.logical with_in least op a b da db ea eb t i j r low ha is_t hb) h = chain_begun ha (omega arith)
chain_begun (Spells.binary with_in least op a b da db ea eb t i j r low ha is_t hb) h = chain_begun ha (omega arith)
chain_begun (Spells.unary with_in least op a d e t j r low is_t ha) h = absurd (omega arith)
chain_begun (Spells.update_before with_in least op a d e t j r low is_t ha target) h = absurd (omega arith)
chain_begun (Spells.update_after with_in least op a d e t i r low ha target is_t same) h = absurd (omega arith)
chain_begun (Spells.bare_new with_in least a d i r low ha) h = absurd (omega arith)
chain_begun (Spells.call with_in least a xs da dx ea t i j r low ha is_t hxs) h = chain_begun ha (omega arith)
chain_begun (Spells.member with_in least base a name d e t u i r low low2 low3 ha is_t is_u) h = chain_begun ha low2
chain_begun (Spells.index with_in least base a b da db ea eb t u i j r low low2 low3 ha is_t hb is_u) h = chain_begun ha low2
chain_begun (Spells.new with_in least a xs da dx ea t u j k r low is_t ha is_u hxs) h = plain_start t.lexeme _ is_t (refl, refl)
chain_begun (Spells.parenthesized with_in least a d e t u j r is_t ha is_u) h = plain_start t.lexeme _ is_t (refl, refl)
chain_begun (Spells.number with_in least n t r is_t) h = plain_start t.lexeme _ is_t (refl, refl)
chain_begun (Spells.string with_in least text t r is_t) h = plain_start t.lexeme _ is_t (refl, refl)
chain_begun (Spells.name with_in least text t r is_t) h = plain_start t.lexeme _ is_t (refl, refl)
chain_begun (Spells.this with_in least t r is_t) h = plain_start t.lexeme _ is_t (refl, refl)
chain_begun (Spells.null with_in least t r is_t) h = plain_start t.lexeme _ is_t (refl, refl)
chain_begun (Spells.yes with_in least t r is_t) h = plain_start t.lexeme _ is_t (refl, refl)
chain_begun (Spells.no with_in least t r is_t) h = plain_start t.lexeme _ is_t (refl, refl)
chain_begun (Spells.array with_in least xs d t j r is_t hxs) h = plain_start t.lexeme _ is_t (refl, refl)
chain_begun (Spells.object with_in least ps d t j r is_t hps) h = plain_start t.lexeme _ is_t (refl, refl)
chain_begun (Spells.unnamed with_in least f d t j r is_t hf) h = plain_start t.lexeme _ is_t (refl, refl)
chain_begun (Spells.named with_in least name f d t u j r is_t is_u hf) h = plain_start t.lexeme _ is_t (refl, refl)

-- ---- what an expression doesn't begin with

unseen_by : (m : Mark) (k : Terminal) (b : Bool) → sees m k ≡ b → begins k ≡ true → begins (terminal.Mark m) ≡ false → sees m k ≡ false
unseen_by m k false s h foreign = s
unseen_by m k true s h foreign = absurd (let e : true ≡ false = sym h ∙ ap begins (seen_terminal m k s) ∙ foreign in cc)

-- a mark that begins no expression
pub unseen : (m : Mark) (k : Terminal) → begins k ≡ true → begins (terminal.Mark m) ≡ false → sees m k ≡ false
unseen m k h foreign = unseen_by m k (sees m k) refl h foreign

open_closes : (k : Terminal) → begins k ≡ true → closes k ≡ false
open_closes (terminal.Mark mark.RightBrace) h = absurd (cc)
open_closes (terminal.Reserved keyword.Case) h = absurd (cc)
open_closes (terminal.Reserved keyword.Default) h = absurd (cc)
open_closes _ h = refl

pub other_like : (x : Lexeme) → begins_other (like (terminal_of x)) ≡ begins_other x
other_like (Lexeme.name text) = refl
other_like (Lexeme.reserved k) = refl
other_like (Lexeme.number n) = refl
other_like (Lexeme.string text) = refl
other_like (Lexeme.mark m) = refl
other_like Lexeme.over = refl

module _ (E : Bool → ℕ → ℕ → Reader Grown) (S : Bool → ℕ → Reader Stood) where
  keyword_expr : (room line : ℕ) (k : Terminal) → begins k ≡ true → (i : Symbols) → keyword_by E S room line k i ≡ expr_by E room line i
  keyword_expr room line (terminal.Reserved keyword.Var) h i = absurd (cc)
  keyword_expr room line (terminal.Reserved keyword.If) h i = absurd (cc)
  keyword_expr room line (terminal.Reserved keyword.Do) h i = absurd (cc)
  keyword_expr room line (terminal.Reserved keyword.While) h i = absurd (cc)
  keyword_expr room line (terminal.Reserved keyword.For) h i = absurd (cc)
  keyword_expr room line (terminal.Reserved keyword.Continue) h i = absurd (cc)
  keyword_expr room line (terminal.Reserved keyword.Break) h i = absurd (cc)
  keyword_expr room line (terminal.Reserved keyword.Return) h i = absurd (cc)
  keyword_expr room line (terminal.Reserved keyword.Throw) h i = absurd (cc)
  keyword_expr room line (terminal.Reserved keyword.Switch) h i = absurd (cc)
  keyword_expr room line (terminal.Reserved keyword.Try) h i = absurd (cc)
  keyword_expr room line _ h i = refl

  -- what is no label, no block and no declaration is read as an expression
  pub plain : (declares : Bool) (room line : ℕ) (k second : Terminal) (i : Symbols) → begins k ≡ true → begins_other (like k) ≡ false → begins_labelled k second ≡ false
      → statement_by E S declares room line k second i ≡ expr_by E room line i
  unfolding name_by
  plain declares room line (terminal.Mark mark.Semicolon) second i h other unlabelled = absurd (cc)
  plain declares room line (terminal.Mark mark.LeftBrace) second i h other unlabelled = absurd (cc)
  plain declares room line (terminal.Reserved keyword.Function) second i h other unlabelled = absurd (cc)
  plain declares room line terminal.Name second i h other unlabelled = rw unlabelled
  plain declares room line k second i h other unlabelled = keyword_expr room line k h i

-- ---- where `return` has a value

open_miss : (k : Terminal) (broken : Bool) → begins k ≡ true → broken ≡ false → may_miss (like k) broken false ≡ false
open_miss (terminal.Mark mark.RightBrace) broken h same = absurd (cc)
open_miss terminal.End broken h same = absurd (cc)
open_miss (terminal.Mark mark.Semicolon) broken h same = refl
open_miss _ broken h same = rw same

pub goes_on_here : (i : Symbols) → begins (next_of i) ≡ true → breaks i ≡ false → ends_here i ≡ false
unfolding ends_here
goes_on_here i h same = rw (unseen mark.Semicolon (next_of i) h refl, open_miss (next_of i) (breaks i) h same)

or_true : (a : Bool) → (a || true) ≡ true
or_true true = refl
or_true false = refl

pub ended_here : (on : Bool) (i r : Symbols) → Ends on i r → ends_here i ≡ true
unfolding ends_here
ended_here on i r (Ends.written o t rest is_t) = rw (is_seen mark.Semicolon t.lexeme is_t)
ended_here on i r (Ends.missing o rest miss) = rw (miss_like (lexeme_of i) (breaks i) false, quiet_by (lexeme_of i) (breaks i) on miss) (or_true (sees mark.Semicolon (next_of i)))

-- ---- no statement begins with what ends a list of statements

closes_as : (x y : Lexeme) → x ≡ y → closes (terminal_of y) ≡ false → closes (terminal_of x) ≡ false
closes_as x y e h = rw e h

block_opens : {ss : List Stmt} {d : ℕ} {i r : Symbols} → Block ss d i r → closes (next_of i) ≡ false
block_opens (Block.braced ss d t u i r is_t hss is_u) = closes_as t.lexeme _ is_t refl

pub statement_opens : {s : Stmt} {d : ℕ} {i r : Symbols} → Stands s d i r → closes (next_of i) ≡ false
statement_opens (Stands.block ss d i r hss) = block_opens hss
statement_opens (Stands.var vs d last t i k r is_t hvs ending) = closes_as t.lexeme _ is_t refl
statement_opens (Stands.empty t r is_t) = closes_as t.lexeme _ is_t refl
statement_opens (Stands.expr a d e i k r other unlabelled ha ending) = open_closes (next_of i) (begun ha)
statement_opens (Stands.if_only a s da ds t i j r is_t ha hs not_on) = closes_as t.lexeme _ is_t refl
statement_opens (Stands.if_else a s o da ds dn t u i j k r is_t ha hs is_u ho) = closes_as t.lexeme _ is_t refl
statement_opens (Stands.do_while s a ds da t u i j k r is_t hs is_u ha ending) = closes_as t.lexeme _ is_t refl
statement_opens (Stands.while a s da ds t i j r is_t ha hs) = closes_as t.lexeme _ is_t refl
statement_opens (Stands.for f a b s df da db ds t u i j k l r is_t is_u hf ha hb hs) = closes_as t.lexeme _ is_t refl
statement_opens (Stands.for_in h a s dh da ds e t u v w i j k r is_t is_u hh is_v ha is_w hs) = closes_as t.lexeme _ is_t refl
statement_opens (Stands.continue t j r is_t ending) = closes_as t.lexeme _ is_t refl
statement_opens (Stands.continue_to label t u j r is_t same is_u ending) = closes_as t.lexeme _ is_t refl
statement_opens (Stands.break t j r is_t ending) = closes_as t.lexeme _ is_t refl
statement_opens (Stands.break_to label t u j r is_t same is_u ending) = closes_as t.lexeme _ is_t refl
statement_opens (Stands.return t j r is_t ending) = closes_as t.lexeme _ is_t refl
statement_opens (Stands.return_value a d e t i k r is_t same ha ending) = closes_as t.lexeme _ is_t refl
statement_opens (Stands.throw a d e t i k r is_t same ha ending) = closes_as t.lexeme _ is_t refl
statement_opens (Stands.switch a cs da dc has_default t u i j r is_t ha is_u hcs) = closes_as t.lexeme _ is_t refl
statement_opens (Stands.try_catch ss cs name ds dc t i j r is_t hss hcs not_on) = closes_as t.lexeme _ is_t refl
statement_opens (Stands.try_finally ss fs ds df t u i j r is_t hss is_u hfs) = closes_as t.lexeme _ is_t refl
statement_opens (Stands.try_both ss cs fs name ds dc df t u i j k r is_t hss hcs is_u hfs) = closes_as t.lexeme _ is_t refl
statement_opens (Stands.label name s d t u j r is_t is_u hs loop) = closes_as t.lexeme _ is_t refl

pub item_opens : {s : Stmt} {d : ℕ} {i r : Symbols} → IsItem s d i r → closes (next_of i) ≡ false
item_opens (IsItem.statement s d i r hs) = statement_opens hs
item_opens (IsItem.declaration name f d t u j r is_t is_u hf) = closes_as t.lexeme _ is_t refl
