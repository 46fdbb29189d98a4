-- What it is that a reader reads what is spelled.
use Rattle.std.proofs.Common.{◌≡◌, ℕ, max, ◌<◌, ◌≤◌, Bool, true, false, List, [], ◌∷◌, ◌++◌, Some, refl, ap, sym, ◌∙◌, subst, arith, append_assoc, append-nil, ◌⊎◌}
use Rattle.njs_tree.specs.declared.tree.Stmt.{Stmt}
use Rattle.njs_tree.specs.Symbols.{strength}
use Rattle.njs_tree.specs.Grammar.{Spells, BareNew, IsItem, Stands, Body, Statements}
use Rattle.njs_expr.specs.Readers.{Symbols, Reader, next_of, Grown, Stood}
use Rattle.njs_expr.specs.Expressions.{links}
use Rattle.njs_expr.proofs.Read.{chain_level}

pub record Spelled (with_in : Bool) (least room : ℕ) (i : Symbols) (g : Grown) (r : Symbols) : Type 0 where
  pub ends : Bool
  pub spells : Spells with_in least g.0 g.1 ends i r
  pub stop : strength with_in ends r < least
  pub fits : g.1 ≤ room

-- a chain, or a `new` without arguments, which no chain goes on from
abbrev pub Chain : Bool → Bool → Symbols → Grown → Symbols → Type 0
Chain with_in with_calls i g r = Spells with_in (chain_level with_calls) g.0 g.1 false i r ⊎ (BareNew with_in g.0 g.1 i r × (links true (next_of r) ≡ false))

pub record Chained (with_in with_calls : Bool) (room : ℕ) (i : Symbols) (g : Grown) (r : Symbols) : Type 0 where
  pub chain : Chain with_in with_calls i g r
  pub fits : g.1 ≤ room

-- an item where functions may be declared, else a statement
abbrev pub StandsAs : Bool → Stmt → ℕ → Symbols → Symbols → Type 0
StandsAs true = IsItem
StandsAs false = Stands

pub record Standing (declares : Bool) (room : ℕ) (i : Symbols) (g : Stood) (r : Symbols) : Type 0 where
  pub stands : StandsAs declares g.0 g.1 i r
  pub fits : g.1 ≤ room

abbrev pub ListStands : Bool → List Stmt → ℕ → Symbols → Symbols → Type 0
ListStands true = Body
ListStands false = Statements

pub record Sound (E : Bool → ℕ → ℕ → Reader Grown) (S : Bool → ℕ → Reader Stood) : Type 0 where
  pub reads : (with_in : Bool) (least room : ℕ) (i : Symbols) (g : Grown) (r : Symbols) → 1 ≤ least → least ≤ 14 → E with_in least room i ≡ Some (g, r) → Spelled with_in least room i g r
  pub callees : (with_in : Bool) (room : ℕ) (i : Symbols) (g : Grown) (r : Symbols) → E with_in 18 room i ≡ Some (g, r) → Chained with_in false room i g r × (links false (next_of r) ≡ false)
  pub stands : (declares : Bool) (room : ℕ) (i : Symbols) (g : Stood) (r : Symbols) → S declares room i ≡ Some (g, r) → Standing declares room i g r

-- ---- the rest of a list, after what was found

pub record Rest {A : Type 0} (R : List A → ℕ → Type 0) (found : List A) (below : ℕ) (xs : List A × ℕ) : Type 0 where
  pub items : List A
  pub depth : ℕ
  pub same : xs ≡ (found ++ items, max below depth)
  pub related : R items depth

regroup : {A : Type 0} (found : List A) (a : A) (ys : List A) (below d ds : ℕ)
    → ◌≡◌ {A = List A × ℕ} ((found ++ a ∷ []) ++ ys, max (max below d) ds) (found ++ (a ∷ ys), max below (max d ds))
regroup found a ys below d ds = let e : max (max below d) ds ≡ max below (max d ds) = omega arith in rw (append_assoc found (a ∷ []) ys, e)

pub rest_more : {A : Type 0} (Q R : List A → ℕ → Type 0) (found : List A) (a : A) (below d : ℕ) (xs : List A × ℕ) → Rest Q (found ++ a ∷ []) (max below d) xs
    → ((ys : List A) (ds : ℕ) → Q ys ds → R (a ∷ ys) (max d ds)) → Rest R found below xs
rest_more Q R found a below d xs m k = record { items = a ∷ m.items; depth = max d m.depth; same = m.same ∙ regroup found a m.items below d m.depth; related = k m.items m.depth m.related }

pub rest_none : {A : Type 0} (R : List A → ℕ → Type 0) (found : List A) (below : ℕ) → R [] 0 → Rest R found below (found, below)
rest_none R found below h =
    let e : max below 0 ≡ below = omega arith in record { items = []; depth = 0; same = rw (append-nil found, e); related = h }

pub rest_last : {A : Type 0} (R : List A → ℕ → Type 0) (found : List A) (a : A) (below d : ℕ) → R (a ∷ []) d → Rest R found below (found ++ a ∷ [], max below d)
rest_last R found a below d h = record { items = a ∷ []; depth = d; same = refl; related = h }

pub rest_whole : {A : Type 0} (R : List A → ℕ → Type 0) (xs : List A × ℕ) → Rest R [] 0 xs → R xs.0 xs.1
rest_whole R xs m =
    let e : max 0 m.depth ≡ m.depth = omega arith in
    subst (λ q. R q.0 q.1) (sym (m.same ∙ ap (λ n. (m.items, n)) e)) m.related
