-- Where a step is refused, what it is a step of is.
use Rattle.std.proofs.Common.{◌≡◌, ℕ, ◌-◌, Bool, true, Option, Some, Result, Ok, Err, refl, ap, sym, ◌∙◌, subst}
use Rattle.std.specs.Result.{IsErrAnd}
use Rattle.njs_tree.specs.declared.token.Mark.TheVariants as mark
use Rattle.njs_expr.specs.declared.stop.ParseStop.{ParseStop}
use Rattle.njs_expr.specs.declared.stop.ParseStop.TheVariants as stop
use Rattle.njs_expr.specs.Readers.{Symbols, Reader, and_then, expect, Grown}
use Rattle.njs_expr.specs.Expressions.{index, conditional}
use Rattle.njs_expr.specs.Reads.{Reads, Refuses}

refused_next : {A B : Type 0} (o : Option (A × Symbols)) (f : A → Reader B) (e : ParseStop) → Refuses o e → Refuses (and_then o f) e
refused_next o f (stop.Refused line) h = rw h refl
refused_next o f stop.NoMemory h = tt

-- what `?` hands on
stopped : {A B : Type 0} (P : ParseStop → Type 0) (o : Option (A × Symbols)) (f : A → Reader B) (e : ParseStop) (r : Result B ParseStop) (new : Symbols)
    → ((s : ParseStop) → P s → s ≡ e) → Refuses o e → IsErrAnd r P → Reads (and_then o f) r new
stopped P o f e (Ok b) new same h is = absurd is
stopped P o f e (Err s) new same h is = subst (Refuses (and_then o f)) (sym (same s is)) (refused_next o f e h)

module _ (expr : Bool → ℕ → ℕ → Reader Grown) where
  pub index_stopped : (P : ParseStop → Type 0) (room below line : ℕ) (f x : Grown) (i j new : Symbols) (e : ParseStop) (r : Result Grown ParseStop)
      → ((s : ParseStop) → P s → s ≡ e) → below ≡ room - 1 → expr true 1 below i ≡ Some (x, j) → Refuses (expect mark.RightBracket j) e → IsErrAnd r P → Reads (index expr room line f i) r new
  unfolding index
  index_stopped P room below line f x i j new e r same b read h is =
      let first : expr true 1 (room - 1) i ≡ Some (x, j) = ap (λ n. expr true 1 n i) (sym b) ∙ read in
      rw first (stopped P (expect mark.RightBracket j) _ e r new same h is)

  pub middle_stopped : (P : ParseStop → Type 0) (with_in : Bool) (room below line : ℕ) (a x : Grown) (i j new : Symbols) (e : ParseStop) (r : Result Grown ParseStop)
      → ((s : ParseStop) → P s → s ≡ e) → below ≡ room - 1 → expr true 2 below i ≡ Some (x, j) → Refuses (expect mark.Colon j) e → IsErrAnd r P → Reads (conditional expr with_in room line a i) r new
  unfolding conditional
  middle_stopped P with_in room below line a x i j new e r same b read h is =
      let first : expr true 2 (room - 1) i ≡ Some (x, j) = ap (λ n. expr true 2 n i) (sym b) ∙ read in
      rw first (stopped P (expect mark.Colon j) _ e r new same h is)

  pub right_stopped : (P : ParseStop → Type 0) (with_in : Bool) (room below lower line : ℕ) (a x : Grown) (u : Unit {0}) (i j k new : Symbols) (e : ParseStop) (r : Result Grown ParseStop)
      → ((s : ParseStop) → P s → s ≡ e) → below ≡ room - 1 → expr true 2 below i ≡ Some (x, j) → expect mark.Colon j ≡ Some (u, k) → lower ≡ room - 1 → Refuses (expr with_in 2 lower k) e → IsErrAnd r P
      → Reads (conditional expr with_in room line a i) r new
  unfolding conditional
  right_stopped P with_in room below lower line a x u i j k new e r same b read colon l h is =
      let first : expr true 2 (room - 1) i ≡ Some (x, j) = ap (λ n. expr true 2 n i) (sym b) ∙ read in
      let last : Refuses (expr with_in 2 (room - 1) k) e = subst (λ n. Refuses (expr with_in 2 n k) e) l h in
      rw (first, colon) (stopped P (expr with_in 2 (room - 1) k) _ e r new same last is)
