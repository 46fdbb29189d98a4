-- What a function that reads ensures: the reader's answer, unless memory fails.
use Rattle.std.specs.Prelude.{◌≡◌, ℕ, Bool, Option, Some, None, Result, Ok, Err}
use Rattle.std.specs.declared.alloc.Global.{Global}
use denote.Ref.{MutBor}
use Rattle.njs_tree.specs.declared.tree.Expr.{Expr}
use Rattle.njs_tree.specs.declared.tree.Stmt.{Stmt}
use Rattle.njs_expr.specs.declared.stop.ParseStop.{ParseStop}
use Rattle.njs_expr.specs.declared.stop.ParseStop.TheVariants as stop
use Rattle.njs_expr.specs.Readers.{Symbols}
use Rattle.njs_expr.specs.Descent.{expr, stmt}

abbrev pub Refuses : {A : Type 0} → Option (A × Symbols) → ParseStop → Type 0
Refuses outcome (stop.Refused line) = outcome ≡ None
Refuses outcome stop.NoMemory = Unit {0}

abbrev pub Reads : {A : Type 0} → Option (A × Symbols) → Result A ParseStop → Symbols → Type 0
Reads outcome (Ok a) new = outcome ≡ Some (a, new)
Reads outcome (Err e) new = Refuses outcome e

-- the same of a value that stands for the tree
abbrev pub ReadsAs : {T A : Type 0} → (T → A) → Option ((A × ℕ) × Symbols) → Result (T × ℕ) ParseStop → Symbols → Type 0
ReadsAs stands outcome (Ok g) new = outcome ≡ Some ((stands g.0, g.1), new)
ReadsAs stands outcome (Err e) new = Refuses outcome e

-- one outcome stands for another
abbrev pub Builds : {T A : Type 0} → (T → A) → Result (A × ℕ) ParseStop → Result (T × ℕ) ParseStop → Type 0
Builds stands (Ok g) (Ok h) = (stands h.0 ≡ g.0) × (h.1 ≡ g.1)
Builds stands (Err e) (Err f) = f ≡ e
Builds stands _ _ = ⊥

-- a function value that reads expressions, nested no deeper than the number
pub record ReadsExpr {T P : Type 0} (stands : T → Expr) (fuel : ℕ) (pre : P → Global → MutBor Symbols → ℕ → Bool → ℕ → ℕ → Type 0)
    (post : P → Global → MutBor Symbols → ℕ → Bool → ℕ → ℕ → Result (T × ℕ) ParseStop → MutBor Symbols → Type 0) : Type 0 where
  pub callable : (of : P) (alloc : Global) (old : MutBor Symbols) (with_in : Bool) (least room : ℕ) → pre of alloc old fuel with_in least room
  pub reads : (of : P) (alloc : Global) (old new : MutBor Symbols) (with_in : Bool) (least room : ℕ) (r : Result (T × ℕ) ParseStop) → post of alloc old fuel with_in least room r new
      → ReadsAs stands (expr fuel with_in least room old.now) r new.now

-- and one that reads statements
pub record ReadsStmt {S P : Type 0} (stands : S → Stmt) (fuel : ℕ) (pre : P → Global → MutBor Symbols → ℕ → Bool → ℕ → Type 0)
    (post : P → Global → MutBor Symbols → ℕ → Bool → ℕ → Result (S × ℕ) ParseStop → MutBor Symbols → Type 0) : Type 0 where
  pub callable : (of : P) (alloc : Global) (old : MutBor Symbols) (declares : Bool) (room : ℕ) → pre of alloc old fuel declares room
  pub reads : (of : P) (alloc : Global) (old new : MutBor Symbols) (declares : Bool) (room : ℕ) (r : Result (S × ℕ) ParseStop) → post of alloc old fuel declares room r new
      → ReadsAs stands (stmt fuel declares room old.now) r new.now
