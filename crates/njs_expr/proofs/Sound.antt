-- What is read is spelled.
use Rattle.std.proofs.Common.{◌≡◌, ℕ, zero, suc, ◌<◌, ◌≤◌, Bool, true, ◌==◌, Some}
use Rattle.njs_tree.specs.declared.tree.Expr.{Expr}
use Rattle.njs_tree.specs.declared.tree.Stmt.{Stmt}
use Rattle.njs_tree.specs.Symbols.{strength}
use Rattle.njs_tree.specs.Grammar.{Spells, IsItem}
use Rattle.njs_expr.specs.Readers.{Symbols}
use Rattle.njs_expr.specs.Descent.{expr, stmt}
use Rattle.njs_expr.proofs.Backwards.{none_some, if_case}
use Rattle.njs_expr.proofs.Soundness.{Sound}
use Rattle.njs_expr.proofs.ExpressionsSound.{level_sound, callee_sound}
use Rattle.njs_expr.proofs.StatementsSound.{one_sound}

sound_at : (fuel : ℕ) → Sound (expr fuel) (stmt fuel)
unfolding expr stmt
sound_at zero = record {
  reads = λ with_in least room i g r one high e. absurd (none_some (g, r) e);
  callees = λ with_in room i g r e. absurd (none_some (g, r) e);
  stands = λ declares room i g r e. absurd (none_some (g, r) e);
}
sound_at (suc fuel) = record {
  reads = λ with_in least room i g r one high e.
      if_case (room == 0) _ _ i (g, r) e (λ empty e1. absurd (none_some (g, r) e1)) (λ filled e1. level_sound (expr fuel) (stmt fuel) (sound_at fuel) with_in least room i g r one high e1);
  callees = λ with_in room i g r e.
      if_case (room == 0) _ _ i (g, r) e (λ empty e1. absurd (none_some (g, r) e1)) (λ filled e1. callee_sound (expr fuel) (stmt fuel) (sound_at fuel) with_in room i g r e1);
  stands = λ declares room i g r e.
      if_case (room == 0) _ _ i (g, r) e (λ empty e1. absurd (none_some (g, r) e1)) (λ filled e1. one_sound (expr fuel) (stmt fuel) (sound_at fuel) declares room i g r e1);
}

-- What is read spells the tree, nothing carries it on, and its depth is allowed.
pub sound : (fuel : ℕ) (with_in : Bool) (least room : ℕ) (i : Symbols) (tree : Expr) (d : ℕ) (r : Symbols) → 1 ≤ least → least ≤ 14 → expr fuel with_in least room i ≡ Some ((tree, d), r)
    → (ends : Bool) × Spells with_in least tree d ends i r × (strength with_in ends r < least) × (d ≤ room)
sound fuel with_in least room i tree d r one high e =
    let s = (sound_at fuel).reads with_in least room i (tree, d) r one high e in (s.ends, s.spells, s.stop, s.fits)

-- What is read as an item is one, and its depth is allowed.
pub item_sound : (fuel room : ℕ) (i : Symbols) (s : Stmt) (d : ℕ) (r : Symbols) → stmt fuel true room i ≡ Some ((s, d), r) → IsItem s d i r × (d ≤ room)
item_sound fuel room i s d r e = let h = (sound_at fuel).stands true room i (s, d) r e in (h.stands, h.fits)
