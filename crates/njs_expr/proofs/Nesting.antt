-- What is read with one more level of nesting.
use Rattle.std.proofs.Common.{◌≡◌, ℕ, zero, suc, ◌-◌, ◌<◌, Bool, false, ◌==◌, Option, Some, Result, Ok, Err, ap, sym, ◌∙◌, ◌⊎◌, inl, inr, arith}
use Rattle.std.proofs.lemmas.Bool.Decides.{nat_tests}
use Rattle.njs_tree.specs.declared.tree.Expr.{Expr}
use Rattle.njs_tree.specs.declared.tree.Stmt.{Stmt}
use Rattle.njs_expr.specs.declared.stop.ParseStop.{ParseStop}
use Rattle.njs_expr.specs.Readers.{Symbols, Grown, Stood}
use Rattle.njs_expr.specs.Expressions.{level_of}
use Rattle.njs_expr.specs.Statements.{one_statement}
use Rattle.njs_expr.specs.Descent.{expr, stmt}
use Rattle.njs_expr.specs.Reads.{Reads, ReadsAs, Builds}
use Rattle.njs_expr.proofs.ExpressionSteps.{turned, nested}

pub nested_statement : (fuel : ℕ) (declares : Bool) (room : ℕ) → 0 < fuel → 0 < room → (i : Symbols)
    → stmt fuel declares room i ≡ one_statement (expr (fuel - 1)) (stmt (fuel - 1)) declares room i
unfolding stmt
nested_statement zero declares room some fits i = absurd (omega arith)
nested_statement (suc fuel) declares room some fits i =
    let filled : (room == 0) ≡ false = grind (arith, nat_tests) in rw filled (turned (λ k. one_statement (expr k) (stmt k) declares room i) fuel)

pub either_way : {fuel room : ℕ} → (fuel ≡ 0) ⊎ ((fuel ≡ 0 → ⊥) × (room ≡ 0)) → (fuel ≡ 0) ⊎ (room ≡ 0)
either_way (inl h) = inl h
either_way (inr h) = inr h.1

same_read : {T A : Type 0} (stands : T → A) (outcome : Option ((A × ℕ) × Symbols)) (a : A) (d : ℕ) (b : T) (e : ℕ) (new : Symbols) → outcome ≡ Some ((a, d), new) → stands b ≡ a → e ≡ d
    → outcome ≡ Some ((stands b, e), new)
same_read {A = A} stands outcome a d b e new h s k = h ∙ ap (λ (z : A). Some ((z, d), new)) (sym s) ∙ ap (λ (n : ℕ). Some ((stands b, n), new)) (sym k)

built_reads : {T A : Type 0} (stands : T → A) (outcome : Option ((A × ℕ) × Symbols)) (r : Result (A × ℕ) ParseStop) (q : Result (T × ℕ) ParseStop) (new : Symbols)
    → Reads outcome r new → Builds stands r q → ReadsAs stands outcome q new
built_reads stands outcome (Ok g) (Ok h) new read built = same_read stands outcome g.0 g.1 h.0 h.1 new read built.0 built.1
built_reads stands outcome (Ok g) (Err f) new read built = absurd built
built_reads stands outcome (Err e) (Ok h) new read built = absurd built
built_reads stands outcome (Err e) (Err f) new read built = rw built read

pub expr_built : {T : Type 0} (stands : T → Expr) (fuel : ℕ) (with_in : Bool) (least room : ℕ) (old : Symbols) (r : Result Grown ParseStop) (q : Result (T × ℕ) ParseStop) (new : Symbols)
    → 0 < fuel → 0 < room → Reads (level_of (expr (fuel - 1)) (stmt (fuel - 1)) with_in least room old) r new → Builds stands r q → ReadsAs stands (expr fuel with_in least room old) q new
expr_built stands fuel with_in least room old r q new some fits read built = rw (nested fuel with_in least room some fits old) (built_reads stands _ r q new read built)

pub stmt_built : {S : Type 0} (stands : S → Stmt) (fuel : ℕ) (declares : Bool) (room : ℕ) (old : Symbols) (r : Result Stood ParseStop) (q : Result (S × ℕ) ParseStop) (new : Symbols)
    → 0 < fuel → 0 < room → Reads (one_statement (expr (fuel - 1)) (stmt (fuel - 1)) declares room old) r new → Builds stands r q → ReadsAs stands (stmt fuel declares room old) q new
stmt_built stands fuel declares room old r q new some fits read built = rw (nested_statement fuel declares room some fits old) (built_reads stands _ r q new read built)
