-- Lists that the definitions have been taken through.
use Rattle.std.proofs.Common.{◌≡◌, ℕ, ◌||◌, List, [], ◌∷◌, map, Option, option_map, refl, ap}
use Rattle.std.proofs.lemmas.List.{length-map}
use Rattle.std.specs.List.{list_any}
use Rattle.njs_tree.specs.declared.tree.Expr.{Expr}
use Rattle.njs_tree.specs.Names.{is_protected}
use Rattle.njs_early.specs.Walk.{values_of}

-- a `var` keeps its names
pub declares_same : (vs : List (List ℕ × Option Expr)) → list_any (λ v. is_protected v.0) (values_of vs) ≡ list_any (λ v. is_protected v.0) vs
declares_same [] = refl
declares_same (v ∷ vs) = ap (λ rest. is_protected v.0 || rest) (declares_same vs)

pub ruleset list_lemmas = (declares_same, length-map)
