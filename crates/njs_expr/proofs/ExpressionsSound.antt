-- What the rules of expressions read is spelled, where their parts are.
use Rattle.std.proofs.Common.{◌≡◌, ℕ, zero, suc, ◌+◌, ◌-◌, max, ◌<◌, ◌≤◌, Bool, true, false, nat_lt, [], ◌∷◌, length, Option, Some, None, refl, arith, pos, inl, inr}
use denote.Enum.Bare.{true_same}
use Rattle.njs_tree.specs.contracts.token.Keyword as Keyword_derived
use Rattle.njs_tree.specs.declared.token.Keyword.{Keyword}
use Rattle.njs_tree.specs.declared.token.Keyword.TheVariants as keyword
use Rattle.njs_tree.specs.declared.token.Mark.TheVariants as mark
use Rattle.njs_tree.specs.declared.token.Joint.{Joint}
use Rattle.njs_tree.specs.declared.token.Joint.TheVariants as joint
use Rattle.njs_tree.specs.declared.tree.BinaryOp.{BinaryOp}
use Rattle.njs_tree.specs.declared.tree.LogicalOp.{LogicalOp}
use Rattle.njs_tree.specs.declared.tree.UnaryOp.{UnaryOp}
use Rattle.njs_tree.specs.declared.tree.UpdateOp.{UpdateOp}
use Rattle.njs_tree.specs.declared.tree.ExprNode.TheVariants as node
use Rattle.njs_expr.specs.declared.terminal.Terminal.{Terminal}
use Rattle.njs_expr.specs.declared.terminal.Terminal.TheVariants as terminal
use Rattle.njs_tree.specs.Lexemes.{Lexeme, Symbol}
use Rattle.njs_tree.specs.Symbols.{lexeme_of, line_of, joint_of, binds, logical_level, binary_level, prefix_of, update_of, strength}
use Rattle.njs_tree.specs.Grammar.{is_target, Spells}
use Rattle.njs_expr.specs.Readers.{Symbols, Reader, and_then, terminal_of, next_of, like, sees_word, take_name, take_number, take_string, Grown, Stood, grown}
use Rattle.njs_expr.specs.Expressions.{links, updated_by, updated, parenthesized, conditional, comma, assigned, logical_joined, binary_joined, joined_by, joined, climb, whole_climb, prefix_unary, prefix_update, word_primary, primary_by, primary, whole_chain, chained, postfix, operand_by, operand, operators, level_of}
use Rattle.njs_expr.proofs.Terminals.{joint_like, prefix_like, update_like, word_seen_is}
use Rattle.njs_expr.proofs.Past.{past, shorter}
use Rattle.njs_expr.proofs.Follow.{Follows, logical_bounds, binary_bounds, joint_strength}
use Rattle.njs_expr.proofs.Backwards.{bind_case, none_some, pure_case, if_case, pick_case, expect_case, number_case, string_case, name_case, grown_case, less, not_less}
use Rattle.njs_expr.proofs.Levels.{weaken, tighten, kept, after_postfix, broken_off, above_question}
use Rattle.njs_expr.proofs.Soundness.{Spelled, Chain, Chained, Sound}
use Rattle.njs_expr.proofs.PartsSound.{of_mark, newed_sound, array_sound, object_sound, function_value_sound, chain_sound}

-- an operand, before the operators
record Operand (with_in : Bool) (room : ℕ) (i : Symbols) (g : Grown) (r : Symbols) : Type 0 where
  ends : Bool
  spells : Spells with_in 14 g.0 g.1 ends i r
  loose : strength with_in ends r ≤ 13
  fits : g.1 ≤ room

-- what the operators were read up to
record Climbing (with_in : Bool) (least room : ℕ) (i : Symbols) (g : Grown) (r : Symbols) : Type 0 where
  level : ℕ
  ends : Bool
  above : least ≤ level
  spells : Spells with_in level g.0 g.1 ends i r
  follows : Follows with_in level ends r
  fits : g.1 ≤ room

-- what a joint made, up to a level
abbrev Joined : Bool → ℕ → ℕ → Symbols → Symbols → Grown → Symbols → Type 0
Joined with_in least room s j g r = Climbing with_in least room s g r × (length r < length j)

pub of_word : (w : Keyword) (x : Lexeme) → terminal_of x ≡ terminal.Reserved w → x ≡ Lexeme.reserved w
unfolding sees_word
of_word w x e = word_seen_is w x (rw e (true_same Keyword_derived.the_type w w refl))

primary_chain : (with_in with_calls : Bool) (room : ℕ) (i : Symbols) (g : Grown) (r : Symbols) → Chained with_in false room i g r → Chained with_in with_calls room i g r
primary_chain with_in true room i g r c = record {
  chain = elim c.chain [
    | inl s ↦ inl (weaken s 17 (omega arith))
    | inr b ↦ inr b
  ];
  fits = c.fits;
}
primary_chain with_in false room i g r c = c

module _ (E : Bool → ℕ → ℕ → Reader Grown) (S : Bool → ℕ → Reader Stood) (sound : Sound E S) where
  -- ---- primary expressions

  parenthesized_sound : (with_in : Bool) (room : ℕ) (t : Symbol) (j : Symbols) (g : Grown) (r : Symbols) → t.lexeme ≡ Lexeme.mark mark.LeftParen
      → parenthesized E room j ≡ Some (g, r) → Chained with_in false room (t ∷ j) g r
  unfolding parenthesized
  parenthesized_sound with_in room t j g r is e = bind_case (E true 1 room j) _ (g, r) e (λ x k found e1.
      let b = sound.reads true 1 room j x k (omega arith) (omega arith) found in
      expect_case (λ q. Spells true 1 x.0 x.1 b.ends j q → Chained with_in false room (t ∷ j) g r) mark.RightParen _ k (g, r) e1
      (λ u m is_u e2 sb. pure_case (λ y q. Chained with_in false room (t ∷ j) y q) e2
      (record { chain = inl (Spells.parenthesized with_in 18 x.0 x.1 b.ends t u j m is sb is_u); fits = b.fits })) b.spells)

  word_primary_sound : (with_in : Bool) (room : ℕ) (t : Symbol) (k : Terminal) (j : Symbols) (g : Grown) (r : Symbols) → terminal_of t.lexeme ≡ k
      → word_primary E S with_in room t.line k (t ∷ j) ≡ Some (g, r) → Chained with_in false room (t ∷ j) g r
  word_primary_sound with_in room t (terminal.Reserved keyword.This) j g r is e =
      grown_case (λ y q. Chained with_in false room (t ∷ j) y q) room t.line node.This 0 j g r e
      (λ fits. record { chain = inl (Spells.this with_in 18 t j (of_word keyword.This t.lexeme is)); fits = omega (arith, fits) })
  word_primary_sound with_in room t (terminal.Reserved keyword.Null) j g r is e =
      grown_case (λ y q. Chained with_in false room (t ∷ j) y q) room t.line node.Null 0 j g r e
      (λ fits. record { chain = inl (Spells.null with_in 18 t j (of_word keyword.Null t.lexeme is)); fits = omega (arith, fits) })
  word_primary_sound with_in room t (terminal.Reserved keyword.True) j g r is e =
      grown_case (λ y q. Chained with_in false room (t ∷ j) y q) room t.line (node.Bool true) 0 j g r e
      (λ fits. record { chain = inl (Spells.yes with_in 18 t j (of_word keyword.True t.lexeme is)); fits = omega (arith, fits) })
  word_primary_sound with_in room t (terminal.Reserved keyword.False) j g r is e =
      grown_case (λ y q. Chained with_in false room (t ∷ j) y q) room t.line (node.Bool false) 0 j g r e
      (λ fits. record { chain = inl (Spells.no with_in 18 t j (of_word keyword.False t.lexeme is)); fits = omega (arith, fits) })
  word_primary_sound with_in room t (terminal.Reserved keyword.Function) j g r is e = function_value_sound E S sound with_in room t j g r (of_word keyword.Function t.lexeme is) e
  word_primary_sound with_in room t (terminal.Reserved keyword.New) j g r is e = newed_sound E S sound with_in room t j g r (of_word keyword.New t.lexeme is) e
  word_primary_sound with_in room t _ j g r is e = absurd (none_some (g, r) e)

  number_sound : (with_in : Bool) (room : ℕ) (i : Symbols) (g : Grown) (r : Symbols) → and_then (take_number i) (λ n. grown room (line_of i) (node.Num (pos n)) 0) ≡ Some (g, r)
      → Chained with_in false room i g r
  number_sound with_in room i g r e =
      number_case (λ q. line_of q ≡ line_of i → Chained with_in false room q g r) _ i (g, r) e (λ n t j is e1 same.
      grown_case (λ y q. Chained with_in false room (t ∷ j) y q) room t.line (node.Num (pos n)) 0 j g r (rw same e1)
      (λ fits. record { chain = inl (Spells.number with_in 18 n t j is); fits = omega (arith, fits) })) refl

  string_sound : (with_in : Bool) (room : ℕ) (i : Symbols) (g : Grown) (r : Symbols) → and_then (take_string i) (λ text. grown room (line_of i) (node.Str text) 0) ≡ Some (g, r)
      → Chained with_in false room i g r
  string_sound with_in room i g r e =
      string_case (λ q. line_of q ≡ line_of i → Chained with_in false room q g r) _ i (g, r) e (λ text t j is e1 same.
      grown_case (λ y q. Chained with_in false room (t ∷ j) y q) room t.line (node.Str text) 0 j g r (rw same e1)
      (λ fits. record { chain = inl (Spells.string with_in 18 text t j is); fits = omega (arith, fits) })) refl

  name_sound : (with_in : Bool) (room : ℕ) (i : Symbols) (g : Grown) (r : Symbols) → and_then (take_name i) (λ text. grown room (line_of i) (node.Name text) 0) ≡ Some (g, r)
      → Chained with_in false room i g r
  name_sound with_in room i g r e =
      name_case (λ q. line_of q ≡ line_of i → Chained with_in false room q g r) _ i (g, r) e (λ text t j is e1 same.
      grown_case (λ y q. Chained with_in false room (t ∷ j) y q) room t.line (node.Name text) 0 j g r (rw same e1)
      (λ fits. record { chain = inl (Spells.name with_in 18 text t j is); fits = omega (arith, fits) })) refl

  primary_by_sound : (with_in : Bool) (room : ℕ) (t : Symbol) (k : Terminal) (j : Symbols) (g : Grown) (r : Symbols) → terminal_of t.lexeme ≡ k
      → primary_by E S with_in room t.line k (t ∷ j) ≡ Some (g, r) → Chained with_in false room (t ∷ j) g r
  primary_by_sound with_in room t terminal.Number j g r is e = number_sound with_in room (t ∷ j) g r e
  primary_by_sound with_in room t terminal.Str j g r is e = string_sound with_in room (t ∷ j) g r e
  primary_by_sound with_in room t terminal.Name j g r is e = name_sound with_in room (t ∷ j) g r e
  primary_by_sound with_in room t (terminal.Mark mark.LeftParen) j g r is e = parenthesized_sound with_in room t j g r (of_mark mark.LeftParen t.lexeme is) e
  primary_by_sound with_in room t (terminal.Mark mark.LeftBracket) j g r is e = array_sound E S sound with_in room t j g r (of_mark mark.LeftBracket t.lexeme is) e
  primary_by_sound with_in room t (terminal.Mark mark.LeftBrace) j g r is e = object_sound E S sound with_in room t j g r (of_mark mark.LeftBrace t.lexeme is) e
  primary_by_sound with_in room t k j g r is e = word_primary_sound with_in room t k j g r is e

  primary_sound : (with_in : Bool) (room : ℕ) (i : Symbols) (g : Grown) (r : Symbols) → primary E S with_in room (line_of i) i ≡ Some (g, r) → Chained with_in false room i g r
  unfolding primary
  primary_sound with_in room [] g r e = absurd (none_some (g, r) e)
  primary_sound with_in room (t ∷ j) g r e = primary_by_sound with_in room t (terminal_of t.lexeme) j g r refl e

  chained_sound : (with_in with_calls : Bool) (room : ℕ) (i : Symbols) (g : Grown) (r : Symbols) → chained E S with_in with_calls room (line_of i) i ≡ Some (g, r)
      → Chained with_in with_calls room i g r × (links with_calls (next_of r) ≡ false)
  unfolding chained whole_chain
  chained_sound with_in with_calls room i g r e = bind_case (primary E S with_in room (line_of i) i) _ (g, r) e (λ x k found e1.
      chain_sound E S sound with_in with_calls room i (length k) x k g r (omega arith) (primary_chain with_in with_calls room i x k (primary_sound with_in room i x k found)) e1)

  -- ---- operands

  -- a chain, at the level that `++` and `--` take
  chain_level_16 : (with_in : Bool) (i : Symbols) (g : Grown) (r : Symbols) → Chain with_in true i g r → Spells with_in 16 g.0 g.1 false i r
  chain_level_16 with_in i g r (inl s) = weaken s 16 (omega arith)
  chain_level_16 with_in i g r (inr b) = Spells.bare_new with_in 16 g.0 g.1 i r (omega arith) b.0

  updated_by_sound : (with_in : Bool) (room : ℕ) (s : Symbols) (f : Grown) (t : Symbol) (u : Option UpdateOp) (broken : Bool) (j : Symbols) (g : Grown) (r : Symbols)
      → update_of t.lexeme ≡ u → t.after_break ≡ broken → Spells with_in 16 f.0 f.1 false s (t ∷ j) → f.1 ≤ room → links true (terminal_of t.lexeme) ≡ false
      → updated_by room (line_of s) f broken u (t ∷ j) ≡ Some (g, r) → Operand with_in room s g r
  updated_by_sound with_in room s f t (Some op) false j g r is same sf fits_f unlinked e =
      if_case (is_target f.0) _ _ (t ∷ j) (g, r) e
      (λ target e1. grown_case (λ y q. Operand with_in room s y q) room (line_of s) (node.Update op false f.0) f.1 j g r e1
      (λ fits. record { ends = true; spells = Spells.update_after with_in 14 op f.0 f.1 false t s j (omega arith) sf target is same; loose = after_postfix with_in j; fits = omega (arith, fits) }))
      (λ other e1. absurd (none_some (g, r) e1))
  updated_by_sound with_in room s f t (Some op) true j g r is same sf fits_f unlinked e =
      pure_case (λ y q. Operand with_in room s y q) e (record { ends = false; spells = weaken sf 14 (omega arith); loose = broken_off with_in t.lexeme t.after_break unlinked (inl same); fits = fits_f })
  updated_by_sound with_in room s f t None true j g r is same sf fits_f unlinked e =
      pure_case (λ y q. Operand with_in room s y q) e (record { ends = false; spells = weaken sf 14 (omega arith); loose = broken_off with_in t.lexeme t.after_break unlinked (inl same); fits = fits_f })
  updated_by_sound with_in room s f t None false j g r is same sf fits_f unlinked e =
      pure_case (λ y q. Operand with_in room s y q) e (record { ends = false; spells = weaken sf 14 (omega arith); loose = broken_off with_in t.lexeme t.after_break unlinked (inr is); fits = fits_f })

  updated_sound : (with_in : Bool) (room : ℕ) (s : Symbols) (f : Grown) (i : Symbols) (g : Grown) (r : Symbols) → Spells with_in 16 f.0 f.1 false s i → f.1 ≤ room → links true (next_of i) ≡ false
      → updated room (line_of s) f i ≡ Some (g, r) → Operand with_in room s g r
  unfolding updated
  updated_sound with_in room s f [] g r sf fits_f unlinked e =
      pure_case (λ y q. Operand with_in room s y q) e (record { ends = false; spells = weaken sf 14 (omega arith); loose = omega arith; fits = fits_f })
  updated_sound with_in room s f (t ∷ j) g r sf fits_f unlinked e =
      updated_by_sound with_in room s f t (update_of t.lexeme) t.after_break j g r refl refl sf fits_f unlinked (rw (← update_like t.lexeme) e)

  postfix_sound : (with_in : Bool) (room : ℕ) (i : Symbols) (g : Grown) (r : Symbols) → postfix E S with_in room (line_of i) i ≡ Some (g, r) → Operand with_in room i g r
  unfolding postfix
  postfix_sound with_in room i g r e = bind_case (chained E S with_in true room (line_of i) i) _ (g, r) e (λ x k found e1.
      let c = chained_sound with_in true room i x k found in updated_sound with_in room i x k g r (chain_level_16 with_in i x k c.0.chain) c.0.fits c.1 e1)

  unary_sound : (with_in : Bool) (room : ℕ) (op : UnaryOp) (t : Symbol) (j : Symbols) (g : Grown) (r : Symbols) → prefix_of t.lexeme ≡ Some op
      → prefix_unary E with_in room t.line op j ≡ Some (g, r) → Operand with_in room (t ∷ j) g r
  unfolding prefix_unary
  unary_sound with_in room op t j g r is e = bind_case (E with_in 14 (room - 1) j) _ (g, r) e (λ x k found e1.
      let b = sound.reads with_in 14 (room - 1) j x k (omega arith) (omega arith) found in
      grown_case (λ y q. Operand with_in room (t ∷ j) y q) room t.line (node.Unary op x.0) x.1 k g r e1
      (λ fits. record { ends = b.ends; spells = Spells.unary with_in 14 op x.0 x.1 b.ends t j k (omega arith) is b.spells; loose = omega (arith, b.stop); fits = omega (arith, fits) }))

  before_sound : (with_in : Bool) (room : ℕ) (op : UpdateOp) (t : Symbol) (j : Symbols) (g : Grown) (r : Symbols) → update_of t.lexeme ≡ Some op
      → prefix_update E with_in room t.line op j ≡ Some (g, r) → Operand with_in room (t ∷ j) g r
  unfolding prefix_update
  before_sound with_in room op t j g r is e = bind_case (E with_in 14 (room - 1) j) _ (g, r) e (λ x k found e1.
      let b = sound.reads with_in 14 (room - 1) j x k (omega arith) (omega arith) found in
      if_case (is_target x.0) _ _ k (g, r) e1
      (λ target e2. grown_case (λ y q. Operand with_in room (t ∷ j) y q) room t.line (node.Update op true x.0) x.1 k g r e2
      (λ fits. record { ends = b.ends; spells = Spells.update_before with_in 14 op x.0 x.1 b.ends t j k (omega arith) is (tighten b.spells target) target; loose = omega (arith, b.stop); fits = omega (arith, fits) }))
      (λ other e2. absurd (none_some (g, r) e2)))

  operand_by_sound : (with_in : Bool) (room : ℕ) (t : Symbol) (p : Option UnaryOp) (u : Option UpdateOp) (j : Symbols) (g : Grown) (r : Symbols) → prefix_of t.lexeme ≡ p → update_of t.lexeme ≡ u
      → operand_by E S with_in room t.line p u (t ∷ j) ≡ Some (g, r) → Operand with_in room (t ∷ j) g r
  operand_by_sound with_in room t (Some op) u j g r is is_u e = unary_sound with_in room op t j g r is e
  operand_by_sound with_in room t None (Some op) j g r is is_u e = before_sound with_in room op t j g r is_u e
  operand_by_sound with_in room t None None j g r is is_u e = postfix_sound with_in room (t ∷ j) g r e

  operand_sound : (with_in : Bool) (room : ℕ) (i : Symbols) (g : Grown) (r : Symbols) → operand E S with_in room (line_of i) i ≡ Some (g, r) → Operand with_in room i g r
  unfolding operand
  operand_sound with_in room [] g r e = postfix_sound with_in room [] g r e
  operand_sound with_in room (t ∷ j) g r e =
      operand_by_sound with_in room t (prefix_of t.lexeme) (update_of t.lexeme) j g r refl refl (rw (← prefix_like t.lexeme, ← update_like t.lexeme) e)

  -- ---- operators between values

  cond_sound : (with_in : Bool) (least room : ℕ) (s : Symbols) (a : Grown) (t : Symbol) (j : Symbols) (g : Grown) (r : Symbols) → joint_of with_in t.lexeme ≡ joint.Question → least ≤ 3
      → Climbing with_in least room s a (t ∷ j) → conditional E with_in room (line_of s) a j ≡ Some (g, r) → Joined with_in least room s j g r
  unfolding conditional
  cond_sound with_in least room s a t j g r is low c e = bind_case (E true 2 (room - 1) j) _ (g, r) e (λ x k found_x e1.
      let b = sound.reads true 2 (room - 1) j x k (omega arith) (omega arith) found_x in
      expect_case (λ q. Spells true 2 x.0 x.1 b.ends j q → Joined with_in least room s j g r) mark.Colon _ k (g, r) e1 (λ u m is_u e2 sb.
      bind_case (E with_in 2 (room - 1) m) _ (g, r) e2 (λ y l found_y e3.
      let d = sound.reads with_in 2 (room - 1) m y l (omega arith) (omega arith) found_y in
      grown_case (λ z q. Joined with_in least room s j z q) room (line_of s) (node.Cond a.0 x.0 y.0) (max a.1 (max x.1 y.1)) l g r e3 (λ fits. (
        record {
          level = 3;
          ends = d.ends;
          above = low;
          spells = Spells.cond with_in 3 a.0 x.0 y.0 a.1 x.1 y.1 c.ends b.ends d.ends t u s j m l (omega arith) (weaken c.spells 4 (above_question with_in c.level c.ends t j is c.follows)) is sb is_u d.spells;
          follows = record { tight = omega (arith, d.stop); low = λ three. omega (arith, d.stop); loose = omega (arith, d.stop) };
          fits = omega (arith, fits);
        },
        omega (arith, shorter (past sb), shorter (past d.spells)),
      )))) b.spells)

  comma_sound : (with_in : Bool) (least room : ℕ) (s : Symbols) (a : Grown) (t : Symbol) (j : Symbols) (g : Grown) (r : Symbols) → joint_of with_in t.lexeme ≡ joint.Comma → least ≤ 1
      → Climbing with_in least room s a (t ∷ j) → comma E with_in room (line_of s) a j ≡ Some (g, r) → Joined with_in least room s j g r
  unfolding comma
  comma_sound with_in least room s a t j g r is low c e = bind_case (E with_in 2 (room - 1) j) _ (g, r) e (λ x k found e1.
      let b = sound.reads with_in 2 (room - 1) j x k (omega arith) (omega arith) found in
      let strength_t = joint_strength with_in c.ends t j joint.Comma is (omega arith) in
      grown_case (λ z q. Joined with_in least room s j z q) room (line_of s) (node.Comma a.0 x.0) (max a.1 x.1) k g r e1 (λ fits. (
        record {
          level = 1;
          ends = b.ends;
          above = low;
          spells = Spells.comma with_in 1 a.0 x.0 a.1 x.1 c.ends b.ends t s j k (omega arith) (weaken c.spells 1 (omega (arith, strength_t, c.follows.tight))) is b.spells;
          follows = record { tight = omega (arith, b.stop); low = λ three. omega (arith, b.stop); loose = omega (arith, b.stop) };
          fits = omega (arith, fits);
        },
        omega (arith, shorter (past b.spells)),
      )))

  assign_sound : (with_in : Bool) (least room : ℕ) (s : Symbols) (op : Option BinaryOp) (a : Grown) (t : Symbol) (j : Symbols) (g : Grown) (r : Symbols) → joint_of with_in t.lexeme ≡ joint.Assign op
      → least ≤ 2 → is_target a.0 ≡ true → Climbing with_in least room s a (t ∷ j) → assigned E with_in room (line_of s) op a j ≡ Some (g, r) → Joined with_in least room s j g r
  unfolding assigned
  assign_sound with_in least room s op a t j g r is low target c e = bind_case (E with_in 2 (room - 1) j) _ (g, r) e (λ x k found e1.
      let b = sound.reads with_in 2 (room - 1) j x k (omega arith) (omega arith) found in
      grown_case (λ z q. Joined with_in least room s j z q) room (line_of s) (node.Assign op a.0 x.0) (max a.1 x.1) k g r e1 (λ fits. (
        record {
          level = 2;
          ends = b.ends;
          above = low;
          spells = Spells.assign with_in 2 op a.0 x.0 a.1 x.1 c.ends b.ends t s j k (omega arith) (tighten c.spells target) target is b.spells;
          follows = record { tight = omega (arith, b.stop); low = λ three. omega (arith, b.stop); loose = omega (arith, b.stop) };
          fits = omega (arith, fits);
        },
        omega (arith, shorter (past b.spells)),
      )))

  logical_sound : (with_in : Bool) (least room : ℕ) (s : Symbols) (op : LogicalOp) (a : Grown) (t : Symbol) (j : Symbols) (g : Grown) (r : Symbols) → joint_of with_in t.lexeme ≡ joint.Logical op
      → least ≤ logical_level op → Climbing with_in least room s a (t ∷ j) → logical_joined E with_in room (line_of s) op a j ≡ Some (g, r) → Joined with_in least room s j g r
  unfolding logical_joined
  logical_sound with_in least room s op a t j g r is low c e = bind_case (E with_in (logical_level op + 1) (room - 1) j) _ (g, r) e (λ x k found e1.
      let bounds = logical_bounds op in
      let b = sound.reads with_in (logical_level op + 1) (room - 1) j x k (omega arith) (omega (arith, bounds.1)) found in
      let strength_t = joint_strength with_in c.ends t j (joint.Logical op) is (omega (arith, bounds.0)) in
      grown_case (λ z q. Joined with_in least room s j z q) room (line_of s) (node.Logical op a.0 x.0) (max a.1 x.1) k g r e1 (λ fits. (
        record {
          level = logical_level op;
          ends = b.ends;
          above = low;
          spells = Spells.logical with_in (logical_level op) op a.0 x.0 a.1 x.1 c.ends b.ends t s j k (omega arith) (weaken c.spells (logical_level op) (omega (arith, strength_t, c.follows.tight))) is b.spells;
          follows = record { tight = omega (arith, b.stop); low = λ three. absurd (omega (arith, bounds.0)); loose = omega (arith, b.stop, bounds.1) };
          fits = omega (arith, fits);
        },
        omega (arith, shorter (past b.spells)),
      )))

  binary_sound : (with_in : Bool) (least room : ℕ) (s : Symbols) (op : BinaryOp) (a : Grown) (t : Symbol) (j : Symbols) (g : Grown) (r : Symbols) → joint_of with_in t.lexeme ≡ joint.Binary op
      → least ≤ binary_level op → Climbing with_in least room s a (t ∷ j) → binary_joined E with_in room (line_of s) op a j ≡ Some (g, r) → Joined with_in least room s j g r
  unfolding binary_joined
  binary_sound with_in least room s op a t j g r is low c e = bind_case (E with_in (binary_level op + 1) (room - 1) j) _ (g, r) e (λ x k found e1.
      let bounds = binary_bounds op in
      let b = sound.reads with_in (binary_level op + 1) (room - 1) j x k (omega arith) (omega (arith, bounds.1)) found in
      let strength_t = joint_strength with_in c.ends t j (joint.Binary op) is (omega (arith, bounds.0)) in
      grown_case (λ z q. Joined with_in least room s j z q) room (line_of s) (node.Binary op a.0 x.0) (max a.1 x.1) k g r e1 (λ fits. (
        record {
          level = binary_level op;
          ends = b.ends;
          above = low;
          spells = Spells.binary with_in (binary_level op) op a.0 x.0 a.1 x.1 c.ends b.ends t s j k (omega arith) (weaken c.spells (binary_level op) (omega (arith, strength_t, c.follows.tight))) is b.spells;
          follows = record { tight = omega (arith, b.stop); low = λ three. absurd (omega (arith, bounds.0)); loose = omega (arith, b.stop, bounds.1) };
          fits = omega (arith, fits);
        },
        omega (arith, shorter (past b.spells)),
      )))

  joined_by_sound : (with_in : Bool) (least room : ℕ) (s : Symbols) (a : Grown) (t : Symbol) (k : Joint) (j : Symbols) (g : Grown) (r : Symbols) → joint_of with_in t.lexeme ≡ k → least ≤ binds k
      → Climbing with_in least room s a (t ∷ j) → joined_by E with_in room (line_of s) a k (t ∷ j) ≡ Some (g, r) → Joined with_in least room s j g r
  joined_by_sound with_in least room s a t joint.Comma j g r is low c e = comma_sound with_in least room s a t j g r is low c e
  joined_by_sound with_in least room s a t (joint.Assign op) j g r is low c e =
      if_case (is_target a.0) _ _ (t ∷ j) (g, r) e (λ target e1. assign_sound with_in least room s op a t j g r is low target c e1) (λ other e1. absurd (none_some (g, r) e1))
  joined_by_sound with_in least room s a t joint.Question j g r is low c e = cond_sound with_in least room s a t j g r is low c e
  joined_by_sound with_in least room s a t (joint.Logical op) j g r is low c e = logical_sound with_in least room s op a t j g r is low c e
  joined_by_sound with_in least room s a t (joint.Binary op) j g r is low c e = binary_sound with_in least room s op a t j g r is low c e
  joined_by_sound with_in least room s a t joint.None j g r is low c e = absurd (none_some (g, r) e)

  joined_sound : (with_in : Bool) (least room : ℕ) (s : Symbols) (a : Grown) (i : Symbols) (g : Grown) (r : Symbols) → 1 ≤ least → least ≤ binds (joint_of with_in (lexeme_of i))
      → Climbing with_in least room s a i → joined E with_in room (line_of s) a i ≡ Some (g, r) → Joined with_in least room s i g r
  unfolding joined
  joined_sound with_in least room s a [] g r one low c e = absurd (omega arith)
  joined_sound with_in least room s a (t ∷ j) g r one low c e =
      let l = joined_by_sound with_in least room s a t (joint_of with_in t.lexeme) j g r refl low c (rw (← joint_like with_in t.lexeme) e) in (l.0, omega (arith, l.1))

  -- where the operators stop
  stopped : (with_in : Bool) (least room : ℕ) (s : Symbols) (g : Grown) (r : Symbols) → binds (joint_of with_in (lexeme_of r)) < least → Climbing with_in least room s g r → Spelled with_in least room s g r
  stopped with_in least room s g r low c = record {
    ends = c.ends;
    spells = weaken c.spells least c.above;
    stop = rw (kept with_in r c.ends c.follows.loose) low;
    fits = c.fits;
  }

  climb_sound : (with_in : Bool) (least room : ℕ) (s : Symbols) (n : ℕ) (a : Grown) (i : Symbols) (g : Grown) (r : Symbols) → 1 ≤ least → length i ≤ n
      → Climbing with_in least room s a i → climb E with_in least room (line_of s) n a i ≡ Some (g, r) → Spelled with_in least room s g r
  unfolding climb
  climb_sound with_in least room s zero a [] g r one turns c e = pure_case (λ y q. Spelled with_in least room s y q) e (stopped with_in least room s a [] (omega arith) c)
  climb_sound with_in least room s zero a (t ∷ i) g r one turns c e = absurd (omega arith)
  climb_sound with_in least room s (suc n) a i g r one turns c e =
      if_case (nat_lt (binds (joint_of with_in (like (next_of i)))) least) _ _ i (g, r) e
      (λ low e1. pure_case (λ y q. Spelled with_in least room s y q) e1 (stopped with_in least room s a i (rw (← joint_like with_in (lexeme_of i)) (less _ _ low)) c))
      (λ high e1. bind_case (joined E with_in room (line_of s) a i) _ (g, r) e1 (λ x k found e2.
      let l = joined_sound with_in least room s a i x k one (rw (← joint_like with_in (lexeme_of i)) (not_less _ _ high)) c found in
      climb_sound with_in least room s n x k g r one (omega (arith, l.1)) l.0 e2))

  pub level_sound : (with_in : Bool) (least room : ℕ) (i : Symbols) (g : Grown) (r : Symbols) → 1 ≤ least → least ≤ 14 → level_of E S with_in least room i ≡ Some (g, r) → Spelled with_in least room i g r
  unfolding level_of operators whole_climb
  level_sound with_in least room i g r one high e =
      pick_case (nat_lt 14 least) _ _ (g, r) e
      (λ above e1. absurd (omega (arith, less 14 least above)))
      (λ under e1. bind_case (operand E S with_in room (line_of i) i) _ (g, r) e1 (λ x k found e2.
      let o = operand_sound with_in room i x k found in
      climb_sound with_in least room i (length k) x k g r one (omega arith)
      (record {
        level = 14;
        ends = o.ends;
        above = high;
        spells = o.spells;
        follows = record { tight = omega (arith, o.loose); low = λ three. absurd (omega arith); loose = omega (arith, o.loose) };
        fits = o.fits;
      }) e2))

  pub callee_sound : (with_in : Bool) (room : ℕ) (i : Symbols) (g : Grown) (r : Symbols) → level_of E S with_in 18 room i ≡ Some (g, r) → Chained with_in false room i g r × (links false (next_of r) ≡ false)
  unfolding level_of
  callee_sound with_in room i g r e = chained_sound with_in false room i g r e
