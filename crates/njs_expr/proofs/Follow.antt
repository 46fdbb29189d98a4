-- What the symbol after an expression tells the descent.
use Rattle.std.proofs.Common.{◌≡◌, ℕ, zero, suc, ◌<◌, ◌≤◌, Bool, true, false, not, [], ◌∷◌, Option, Some, None, refl, ap, ◌∙◌, arith, ◌⊎◌, inl, inr, ◌==◌}
use Rattle.std.proofs.lemmas.Bool.Decides.{nat_tests}
use Rattle.njs_tree.specs.declared.token.Keyword.TheVariants as keyword
use Rattle.njs_tree.specs.declared.token.Mark.{Mark}
use Rattle.njs_tree.specs.declared.token.Mark.TheVariants as mark
use Rattle.njs_tree.specs.declared.token.Joint.{Joint}
use Rattle.njs_tree.specs.declared.token.Joint.TheVariants as joint
use Rattle.njs_tree.specs.declared.tree.BinaryOp.{BinaryOp}
use Rattle.njs_tree.specs.declared.tree.BinaryOp.TheVariants as binary
use Rattle.njs_tree.specs.declared.tree.LogicalOp.{LogicalOp}
use Rattle.njs_tree.specs.declared.tree.LogicalOp.TheVariants as logical
use Rattle.njs_tree.specs.declared.tree.UpdateOp.{UpdateOp}
use Rattle.njs_tree.specs.Lexemes.{Lexeme, Symbol}
use Rattle.njs_tree.specs.Symbols.{lexeme_of, breaks, joint_of, binds, logical_level, binary_level, prefix_of, update_of, strength, strength_by, goes_on, declares_on, var_goes_on, may_miss}
use Rattle.njs_tree.specs.Grammar.{Ends}
use Rattle.njs_expr.specs.declared.terminal.Terminal.{Terminal}
use Rattle.njs_expr.specs.declared.terminal.Terminal.TheVariants as terminal
use Rattle.njs_expr.specs.Readers.{Symbols, terminal_of, next_of, sees, Grown}
use Rattle.njs_expr.specs.Expressions.{links, updated_by, updated}
use Rattle.njs_expr.proofs.Terminals.{update_like}

-- what may follow an expression at a level, so that reading it stops there
pub record Follows (with_in : Bool) (least : ℕ) (ends : Bool) (r : Symbols) : Type 0 where
  pub tight : strength with_in ends r ≤ least
  pub low : least ≤ 3 → strength with_in ends r ≤ 1
  pub loose : strength with_in ends r ≤ 14

pub logical_bounds : (op : LogicalOp) → (4 ≤ logical_level op) × (logical_level op ≤ 5)
logical_bounds logical.Or = (omega arith, omega arith)
logical_bounds logical.And = (omega arith, omega arith)

pub binary_bounds : (op : BinaryOp) → (6 ≤ binary_level op) × (binary_level op ≤ 13)
binary_bounds binary.BitOr = (omega arith, omega arith)
binary_bounds binary.BitXor = (omega arith, omega arith)
binary_bounds binary.BitAnd = (omega arith, omega arith)
binary_bounds binary.Eq = (omega arith, omega arith)
binary_bounds binary.Ne = (omega arith, omega arith)
binary_bounds binary.StrictEq = (omega arith, omega arith)
binary_bounds binary.StrictNe = (omega arith, omega arith)
binary_bounds binary.Lt = (omega arith, omega arith)
binary_bounds binary.Gt = (omega arith, omega arith)
binary_bounds binary.Le = (omega arith, omega arith)
binary_bounds binary.Ge = (omega arith, omega arith)
binary_bounds binary.InstanceOf = (omega arith, omega arith)
binary_bounds binary.In = (omega arith, omega arith)
binary_bounds binary.Shl = (omega arith, omega arith)
binary_bounds binary.Shr = (omega arith, omega arith)
binary_bounds binary.UShr = (omega arith, omega arith)
binary_bounds binary.Add = (omega arith, omega arith)
binary_bounds binary.Sub = (omega arith, omega arith)
binary_bounds binary.Mul = (omega arith, omega arith)
binary_bounds binary.Div = (omega arith, omega arith)
binary_bounds binary.Rem = (omega arith, omega arith)

pub binds_small : (j : Joint) → binds j ≤ 13
binds_small joint.Comma = omega arith
binds_small (joint.Assign op) = omega arith
binds_small joint.Question = omega arith
binds_small (joint.Logical op) = omega (arith, (logical_bounds op).1)
binds_small (joint.Binary op) = (binary_bounds op).1
binds_small joint.None = omega arith

-- a joint is as strong as it binds
pub strong : (with_in ends : Bool) (x : Lexeme) (broken : Bool) → 0 < binds (joint_of with_in x) → strength_by with_in ends x broken ≡ binds (joint_of with_in x)
strong with_in ends (Lexeme.mark mark.LeftParen) broken h = absurd (omega arith)
strong with_in ends (Lexeme.mark mark.LeftBracket) broken h = absurd (omega arith)
strong with_in ends (Lexeme.mark mark.Dot) broken h = absurd (omega arith)
strong with_in ends (Lexeme.mark mark.PlusPlus) broken h = absurd (omega arith)
strong with_in ends (Lexeme.mark mark.MinusMinus) broken h = absurd (omega arith)
strong with_in ends _ broken h = refl

-- the strength of the joint that follows
pub joint_strength : (with_in ends : Bool) (t : Symbol) (j : Symbols) (k : Joint) → joint_of with_in t.lexeme ≡ k → 0 < binds k → strength with_in ends (t ∷ j) ≡ binds k
joint_strength with_in ends t j k is some = strong with_in ends t.lexeme t.after_break (rw is some) ∙ ap binds is

weak_by : (with_in ends : Bool) (x : Lexeme) (broken : Bool) → binds (joint_of with_in x) ≤ strength_by with_in ends x broken
weak_by with_in ends (Lexeme.mark mark.LeftParen) broken = omega arith
weak_by with_in ends (Lexeme.mark mark.LeftBracket) broken = omega arith
weak_by with_in ends (Lexeme.mark mark.Dot) broken = omega arith
weak_by with_in ends (Lexeme.mark mark.PlusPlus) broken = omega arith
weak_by with_in ends (Lexeme.mark mark.MinusMinus) broken = omega arith
weak_by with_in ends _ broken = omega arith

pub weak : (with_in ends : Bool) (r : Symbols) → binds (joint_of with_in (lexeme_of r)) ≤ strength with_in ends r
weak with_in ends [] = omega arith
weak with_in ends (t ∷ ts) = weak_by with_in ends t.lexeme t.after_break

unlinked_by : (with_in : Bool) (x : Lexeme) (broken : Bool) → strength_by with_in false x broken ≤ 14 → links true (terminal_of x) ≡ false
unlinked_by with_in (Lexeme.mark mark.LeftParen) broken h = absurd (omega arith)
unlinked_by with_in (Lexeme.mark mark.LeftBracket) broken h = absurd (omega arith)
unlinked_by with_in (Lexeme.mark mark.Dot) broken h = absurd (omega arith)
unlinked_by with_in _ broken h = refl

pub unlinked : (with_in : Bool) (r : Symbols) → strength with_in false r ≤ 14 → links true (next_of r) ≡ false
unlinked with_in [] h = refl
unlinked with_in (t ∷ ts) h = unlinked_by with_in t.lexeme t.after_break h

-- what links no chain links none without calls
pub unlinked_more : (k : Terminal) → links true k ≡ false → links false k ≡ false
unlinked_more (terminal.Mark mark.LeftParen) h = refl
unlinked_more (terminal.Mark mark.Dot) h = h
unlinked_more (terminal.Mark mark.LeftBracket) h = h
unlinked_more _ h = refl

pub no_call : (k : Terminal) → links true k ≡ false → sees mark.LeftParen k ≡ false
unfolding sees
no_call (terminal.Mark mark.LeftParen) h = absurd (cc)
no_call _ h = refl

unupdated_by : (with_in : Bool) (room line : ℕ) (f : Grown) (x : Lexeme) (broken : Bool) (r : Symbols) → strength_by with_in false x broken ≤ 14
    → updated_by room line f broken (update_of x) r ≡ Some (f, r)
unupdated_by with_in room line f (Lexeme.mark mark.PlusPlus) true r h = refl
unupdated_by with_in room line f (Lexeme.mark mark.PlusPlus) false r h = absurd (omega arith)
unupdated_by with_in room line f (Lexeme.mark mark.MinusMinus) true r h = refl
unupdated_by with_in room line f (Lexeme.mark mark.MinusMinus) false r h = absurd (omega arith)
unupdated_by with_in room line f _ true r h = refl
unupdated_by with_in room line f _ false r h = refl

pub unupdated : (with_in : Bool) (room line : ℕ) (f : Grown) (r : Symbols) → strength with_in false r ≤ 14 → updated room line f r ≡ Some (f, r)
unfolding updated
unupdated with_in room line f [] h = refl
unupdated with_in room line f (t ∷ ts) h = rw (update_like t.lexeme) (unupdated_by with_in room line f t.lexeme t.after_break (t ∷ ts) h)

pub update_unlinked : (x : Lexeme) (op : UpdateOp) (with_calls : Bool) → update_of x ≡ Some op → links with_calls (terminal_of x) ≡ false
update_unlinked (Lexeme.mark mark.PlusPlus) op with_calls e = refl
update_unlinked (Lexeme.mark mark.MinusMinus) op with_calls e = refl
update_unlinked _ op with_calls e = absurd (cc)

pub not_prefix : (x : Lexeme) (op : UpdateOp) → update_of x ≡ Some op → prefix_of x ≡ None
not_prefix (Lexeme.mark mark.PlusPlus) op e = refl
not_prefix (Lexeme.mark mark.MinusMinus) op e = refl
not_prefix _ op e = absurd (cc)

-- ---- marks after which nothing goes on

abbrev pub is_closing : Mark → Bool
is_closing mark.RightParen = true
is_closing mark.RightBracket = true
is_closing mark.RightBrace = true
is_closing mark.Colon = true
is_closing mark.Semicolon = true
is_closing _ = false

closed_by : (with_in ends : Bool) (m : Mark) (broken : Bool) → is_closing m ≡ true → strength_by with_in ends (Lexeme.mark m) broken ≡ 0
closed_by with_in ends mark.RightParen broken h = refl
closed_by with_in ends mark.RightBracket broken h = refl
closed_by with_in ends mark.RightBrace broken h = refl
closed_by with_in ends mark.Colon broken h = refl
closed_by with_in ends mark.Semicolon broken h = refl
closed_by with_in ends _ broken h = absurd (cc)

pub closed : (with_in ends : Bool) (m : Mark) (t : Symbol) (r : Symbols) → t.lexeme ≡ Lexeme.mark m → is_closing m ≡ true → strength with_in ends (t ∷ r) ≡ 0
closed with_in ends m t r e h = rw e (closed_by with_in ends m t.after_break h)

pub comma_strength : (with_in ends : Bool) (t : Symbol) (r : Symbols) → t.lexeme ≡ Lexeme.mark mark.Comma → strength with_in ends (t ∷ r) ≡ 1
comma_strength with_in ends t r e = rw e

pub in_strength : (ends : Bool) (t : Symbol) (r : Symbols) → t.lexeme ≡ Lexeme.reserved keyword.In → strength false ends (t ∷ r) ≡ 0
in_strength ends t r e = rw e

-- ---- the end of a statement

zero_of : (n : ℕ) → not (not (n == 0)) ≡ true → n ≡ 0
zero_of zero e = refl
zero_of (suc n) e = grind (arith, nat_tests)

miss_stops : (x : Lexeme) (broken : Bool) (n : ℕ) → may_miss x broken (not (n == 0)) ≡ true → (n ≡ 0) ⊎ ((x ≡ Lexeme.mark mark.RightBrace) ⊎ (x ≡ Lexeme.over))
miss_stops (Lexeme.mark mark.Semicolon) broken n e = absurd (cc)
miss_stops (Lexeme.mark mark.RightBrace) broken n e = inr (inl refl)
miss_stops Lexeme.over broken n e = inr (inr refl)
miss_stops _ true n e = inl (zero_of n e)
miss_stops _ false n e = absurd (cc)

brace_strength : (ends : Bool) (r : Symbols) → (lexeme_of r ≡ Lexeme.mark mark.RightBrace) ⊎ (lexeme_of r ≡ Lexeme.over) → strength true ends r ≡ 0
brace_strength ends [] h = refl
brace_strength ends (t ∷ r) (inl e) = rw e
brace_strength ends (t ∷ r) (inr e) = rw e

-- nothing carries on an expression at whose end the statement ends
pub stops : (ends : Bool) (i r : Symbols) → Ends (goes_on ends i) i r → strength true ends i ≡ 0
stops ends i r (Ends.written o t rest is) = closed true ends mark.Semicolon t rest is refl
stops ends i r (Ends.missing o rest miss) =
    elim (miss_stops (lexeme_of i) (breaks i) (strength true ends i) miss) [
      | inl e ↦ e
      | inr e ↦ brace_strength ends i e
    ]

-- after the last of the names of a `var`
abbrev pub var_stops : Bool → Option Bool → Symbols → Type 0
var_stops with_in None r = declares_on (lexeme_of r) ≡ false
var_stops with_in (Some ends) r = strength with_in ends r ≡ 0

closing_declares : (m : Mark) → is_closing m ≡ true → declares_on (Lexeme.mark m) ≡ false
closing_declares mark.Comma h = absurd (cc)
closing_declares mark.Assign h = absurd (cc)
closing_declares _ h = refl

pub closed_var : (with_in : Bool) (last : Option Bool) (m : Mark) (t : Symbol) (r : Symbols) → t.lexeme ≡ Lexeme.mark m → is_closing m ≡ true → var_stops with_in last (t ∷ r)
closed_var with_in None m t r e h = rw e (closing_declares m h)
closed_var with_in (Some ends) m t r e h = closed with_in ends m t r e h

pub in_var : (last : Option Bool) (t : Symbol) (r : Symbols) → t.lexeme ≡ Lexeme.reserved keyword.In → var_stops false last (t ∷ r)
in_var None t r e = rw e
in_var (Some ends) t r e = in_strength ends t r e

miss_declares : (x : Lexeme) (broken : Bool) → may_miss x broken (declares_on x) ≡ true → declares_on x ≡ false
miss_declares (Lexeme.mark mark.Comma) true e = absurd (cc)
miss_declares (Lexeme.mark mark.Comma) false e = absurd (cc)
miss_declares (Lexeme.mark mark.Assign) true e = absurd (cc)
miss_declares (Lexeme.mark mark.Assign) false e = absurd (cc)
miss_declares _ broken e = refl

pub ended_var : (last : Option Bool) (i r : Symbols) → Ends (var_goes_on last i) i r → var_stops true last i
ended_var None i r (Ends.written o t rest is) = rw is
ended_var None i r (Ends.missing o rest miss) = miss_declares (lexeme_of i) (breaks i) miss
ended_var (Some ends) i r e = stops ends i r e
