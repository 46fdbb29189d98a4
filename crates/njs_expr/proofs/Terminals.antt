-- What the grammar asks of a lexeme it may ask of its terminal, and the marks and words that are tested for.
use Rattle.std.proofs.Common.{◌≡◌, Bool, true, false, [], ◌∷◌, refl, ap, rules}
use denote.Enum.Bare.{true_same, same_true}
use Rattle.njs_tree.specs.contracts.token.Keyword as Keyword_derived
use Rattle.njs_tree.specs.contracts.token.Mark as Mark_derived
use Rattle.njs_tree.specs.declared.token.Keyword.{Keyword}
use Rattle.njs_tree.specs.declared.token.Keyword.TheVariants as keyword
use Rattle.njs_tree.specs.declared.token.Mark.{Mark}
use Rattle.njs_tree.specs.declared.token.Mark.TheVariants as mark
use Rattle.njs_expr.specs.declared.terminal.Terminal.{Terminal}
use Rattle.njs_expr.specs.declared.terminal.Terminal.TheVariants as terminal
use Rattle.njs_tree.specs.Lexemes.{Lexeme, Symbol}
use Rattle.njs_tree.specs.Symbols.{joint_of, prefix_of, update_of, may_miss, is_else, is_finally, begins_label, label_by, is_colon, lexeme_of}
use Rattle.njs_expr.specs.Readers.{Symbols, terminal_of, like, next_of, second_of, tail, sees, sees_word}
use Rattle.njs_expr.specs.Statements.{begins_labelled}

pub joint_like : (with_in : Bool) (x : Lexeme) → joint_of with_in (like (terminal_of x)) ≡ joint_of with_in x
joint_like with_in (Lexeme.name text) = refl
joint_like with_in (Lexeme.reserved k) = refl
joint_like with_in (Lexeme.number n) = refl
joint_like with_in (Lexeme.string text) = refl
joint_like with_in (Lexeme.mark m) = refl
joint_like with_in Lexeme.over = refl

pub prefix_like : (x : Lexeme) → prefix_of (like (terminal_of x)) ≡ prefix_of x
prefix_like (Lexeme.name text) = refl
prefix_like (Lexeme.reserved k) = refl
prefix_like (Lexeme.number n) = refl
prefix_like (Lexeme.string text) = refl
prefix_like (Lexeme.mark m) = refl
prefix_like Lexeme.over = refl

pub update_like : (x : Lexeme) → update_of (like (terminal_of x)) ≡ update_of x
update_like (Lexeme.name text) = refl
update_like (Lexeme.reserved k) = refl
update_like (Lexeme.number n) = refl
update_like (Lexeme.string text) = refl
update_like (Lexeme.mark m) = refl
update_like Lexeme.over = refl

pub miss_like : (x : Lexeme) (broken on : Bool) → may_miss (like (terminal_of x)) broken on ≡ may_miss x broken on
miss_like (Lexeme.name text) broken on = refl
miss_like (Lexeme.reserved k) broken on = refl
miss_like (Lexeme.number n) broken on = refl
miss_like (Lexeme.string text) broken on = refl
miss_like (Lexeme.mark m) broken on = refl
miss_like Lexeme.over broken on = refl

-- ---- marks

pub is_seen : (m : Mark) (x : Lexeme) → x ≡ Lexeme.mark m → sees m (terminal_of x) ≡ true
unfolding sees
is_seen m x e = rw e (true_same Mark_derived.the_type m m refl)

pub seen_is : (m : Mark) (x : Lexeme) → sees m (terminal_of x) ≡ true → x ≡ Lexeme.mark m
unfolding sees
seen_is m (Lexeme.mark n) e = ap Lexeme.mark (same_true Mark_derived.the_type (search rules) n m e)
seen_is m (Lexeme.name text) e = absurd (cc)
seen_is m (Lexeme.reserved k) e = absurd (cc)
seen_is m (Lexeme.number n) e = absurd (cc)
seen_is m (Lexeme.string text) e = absurd (cc)
seen_is m Lexeme.over e = absurd (cc)

pub seen_terminal : (m : Mark) (k : Terminal) → sees m k ≡ true → k ≡ terminal.Mark m
unfolding sees
seen_terminal m (terminal.Mark n) e = ap terminal.Mark (same_true Mark_derived.the_type (search rules) n m e)
seen_terminal m terminal.Name e = absurd (cc)
seen_terminal m (terminal.Reserved k) e = absurd (cc)
seen_terminal m terminal.Number e = absurd (cc)
seen_terminal m terminal.Str e = absurd (cc)
seen_terminal m terminal.End e = absurd (cc)

pub seen_symbol : (m : Mark) (i : Symbols) → sees m (next_of i) ≡ true → (t : Symbol) × (i ≡ t ∷ tail i) × (t.lexeme ≡ Lexeme.mark m)
unfolding sees
seen_symbol m [] e = absurd (cc)
seen_symbol m (t ∷ ts) e = (t, refl, seen_is m t.lexeme e)

pub other_mark : (m : Mark) (x y : Lexeme) → x ≡ y → sees m (terminal_of y) ≡ false → sees m (terminal_of x) ≡ false
other_mark m x y e h = rw e h

pub other_word : (w : Keyword) (x y : Lexeme) → x ≡ y → sees_word w (terminal_of y) ≡ false → sees_word w (terminal_of x) ≡ false
other_word w x y e h = rw e h

-- ---- reserved words

pub is_word_seen : (w : Keyword) (x : Lexeme) → x ≡ Lexeme.reserved w → sees_word w (terminal_of x) ≡ true
unfolding sees_word
is_word_seen w x e = rw e (true_same Keyword_derived.the_type w w refl)

pub word_seen_is : (w : Keyword) (x : Lexeme) → sees_word w (terminal_of x) ≡ true → x ≡ Lexeme.reserved w
unfolding sees_word
word_seen_is w (Lexeme.reserved k) e = ap Lexeme.reserved (same_true Keyword_derived.the_type (search rules) k w e)
word_seen_is w (Lexeme.mark n) e = absurd (cc)
word_seen_is w (Lexeme.name text) e = absurd (cc)
word_seen_is w (Lexeme.number n) e = absurd (cc)
word_seen_is w (Lexeme.string text) e = absurd (cc)
word_seen_is w Lexeme.over e = absurd (cc)

pub word_seen_symbol : (w : Keyword) (i : Symbols) → sees_word w (next_of i) ≡ true → (t : Symbol) × (i ≡ t ∷ tail i) × (t.lexeme ≡ Lexeme.reserved w)
unfolding sees_word
word_seen_symbol w [] e = absurd (cc)
word_seen_symbol w (t ∷ ts) e = (t, refl, word_seen_is w t.lexeme e)

pub else_like : (x : Lexeme) → sees_word keyword.Else (terminal_of x) ≡ is_else x
unfolding sees_word
else_like (Lexeme.reserved keyword.Else) = refl
else_like _ = refl

pub finally_like : (x : Lexeme) → sees_word keyword.Finally (terminal_of x) ≡ is_finally x
unfolding sees_word
finally_like (Lexeme.reserved keyword.Finally) = refl
finally_like _ = refl

colon_like : (x : Lexeme) → sees mark.Colon (terminal_of x) ≡ is_colon x
unfolding sees
colon_like (Lexeme.mark mark.Colon) = refl
colon_like _ = refl

label_like_by : (x : Lexeme) (r : Symbols) → begins_labelled (terminal_of x) (next_of r) ≡ label_by x r
label_like_by (Lexeme.name text) r = colon_like (lexeme_of r)
label_like_by (Lexeme.reserved k) r = refl
label_like_by (Lexeme.number n) r = refl
label_like_by (Lexeme.string text) r = refl
label_like_by (Lexeme.mark m) r = refl
label_like_by Lexeme.over r = refl

pub label_like : (i : Symbols) → begins_labelled (next_of i) (second_of i) ≡ begins_label i
label_like [] = refl
label_like (t ∷ r) = label_like_by t.lexeme r
