-- What the small readers give, by the symbols that come next.
use Rattle.std.proofs.Common.{◌≡◌, ℕ, ◌+◌, ◌<◌, ◌≤◌, Bool, true, false, nat_lt, List, ◌∷◌, Some, refl, arith}
use Rattle.std.proofs.lemmas.Bool.Decides.{nat_tests}
use Rattle.njs_tree.specs.declared.token.Keyword.{Keyword}
use Rattle.njs_tree.specs.declared.token.Mark.{Mark}
use Rattle.njs_tree.specs.declared.token.Mark.TheVariants as mark
use Rattle.njs_tree.specs.declared.tree.ExprNode.{ExprNode}
use Rattle.njs_tree.specs.declared.tree.StmtNode.{StmtNode}
use Rattle.njs_tree.specs.Lexemes.{Lexeme, Symbol, word_text, key_text}
use Rattle.njs_tree.specs.Symbols.{lexeme_of, breaks, may_miss}
use Rattle.njs_tree.specs.Grammar.{stands, Ends}
use Rattle.njs_expr.specs.Readers.{Symbols, terminal_of, next_of, tail, sees, sees_word, after, after_word, expect, expect_word, separate, semicolon, take_name, take_number, take_string, take_word, take_key, on, grown, stood}
use Rattle.njs_expr.proofs.Terminals.{is_seen, is_word_seen, miss_like}

pub never : true ≡ false → ⊥
never e = cc

pub lt_yes : (a b : ℕ) → a < b → nat_lt a b ≡ true
lt_yes a b h = grind (arith, nat_tests)

pub lt_no : (a b : ℕ) → b ≤ a → nat_lt a b ≡ false
lt_no a b h = grind (arith, nat_tests)

pub grown_ok : (room line : ℕ) (n : ExprNode) (below : ℕ) (i : Symbols) → below < room → grown room line n below i ≡ Some ((on line n, below + 1), i)
unfolding grown
grown_ok room line n below i h = rw (lt_yes below room h)

pub stood_ok : (room line : ℕ) (s : StmtNode) (below : ℕ) (i : Symbols) → below < room → stood room line s below i ≡ Some ((stands line s, below + 1), i)
unfolding stood
stood_ok room line s below i h = rw (lt_yes below room h)

pub expected : (m : Mark) (t : Symbol) (r : Symbols) → t.lexeme ≡ Lexeme.mark m → expect m (t ∷ r) ≡ Some (tt, r)
unfolding expect
expected m t r e = rw (is_seen m t.lexeme e)

pub expected_word : (w : Keyword) (t : Symbol) (r : Symbols) → t.lexeme ≡ Lexeme.reserved w → expect_word w (t ∷ r) ≡ Some (tt, r)
unfolding expect_word
expected_word w t r e = rw (is_word_seen w t.lexeme e)

pub after_seen : (m : Mark) (i : Symbols) → sees m (next_of i) ≡ true → after m i ≡ tail i
unfolding after
after_seen m i e = rw e

pub after_other : (m : Mark) (i : Symbols) → sees m (next_of i) ≡ false → after m i ≡ i
unfolding after
after_other m i e = rw e

pub after_word_seen : (w : Keyword) (i : Symbols) → sees_word w (next_of i) ≡ true → after_word w i ≡ tail i
unfolding after_word
after_word_seen w i e = rw e

pub after_word_other : (w : Keyword) (i : Symbols) → sees_word w (next_of i) ≡ false → after_word w i ≡ i
unfolding after_word
after_word_other w i e = rw e

pub separated : (close : Mark) (t : Symbol) (r : Symbols) → t.lexeme ≡ Lexeme.mark mark.Comma → separate close (t ∷ r) ≡ Some (tt, r)
unfolding separate
separated close t r e = rw (is_seen mark.Comma t.lexeme e)

pub separated_last : (close : Mark) (t : Symbol) (r : Symbols) → sees mark.Comma (terminal_of t.lexeme) ≡ false → t.lexeme ≡ Lexeme.mark close → separate close (t ∷ r) ≡ Some (tt, t ∷ r)
unfolding separate
separated_last close t r not e = rw (not, is_seen close t.lexeme e)

pub took_name : (text : List ℕ) (t : Symbol) (r : Symbols) → t.lexeme ≡ Lexeme.name text → take_name (t ∷ r) ≡ Some (text, r)
unfolding take_name
took_name text t r e = rw e

pub took_number : (n : ℕ) (t : Symbol) (r : Symbols) → t.lexeme ≡ Lexeme.number n → take_number (t ∷ r) ≡ Some (n, r)
unfolding take_number
took_number n t r e = rw e

pub took_string : (text : List ℕ) (t : Symbol) (r : Symbols) → t.lexeme ≡ Lexeme.string text → take_string (t ∷ r) ≡ Some (text, r)
unfolding take_string
took_string text t r e = rw e

pub took_word : (text : List ℕ) (t : Symbol) (r : Symbols) → word_text t.lexeme ≡ Some text → take_word (t ∷ r) ≡ Some (text, r)
unfolding take_word
took_word text t r e = rw e

pub took_key : (text : List ℕ) (t : Symbol) (r : Symbols) → key_text t.lexeme ≡ Some text → take_key (t ∷ r) ≡ Some (text, r)
unfolding take_key
took_key text t r e = rw e

-- ---- the end of a statement

pub quiet_by : (x : Lexeme) (broken on : Bool) → may_miss x broken on ≡ true → may_miss x broken false ≡ true
quiet_by (Lexeme.mark mark.Semicolon) broken on e = absurd (cc)
quiet_by (Lexeme.mark mark.RightBrace) broken on e = refl
quiet_by Lexeme.over broken on e = refl
quiet_by _ true on e = refl
quiet_by _ false on e = absurd (cc)

unseen : (x : Lexeme) (broken on : Bool) → may_miss x broken on ≡ true → sees mark.Semicolon (terminal_of x) ≡ false
unfolding sees
unseen (Lexeme.mark mark.Semicolon) broken on e = absurd (cc)
unseen _ broken on e = refl

-- where a statement ends, its semicolon is read or passed over
pub ended : (on : Bool) (i r : Symbols) → Ends on i r → semicolon i ≡ Some (tt, r)
unfolding semicolon
ended on i r (Ends.written o t rest is) = rw (is_seen mark.Semicolon t.lexeme is)
ended on i r (Ends.missing o rest miss) =
    rw (unseen (lexeme_of r) (breaks r) on miss, miss_like (lexeme_of r) (breaks r) false, quiet_by (lexeme_of r) (breaks r) on miss)
