-- What a writer holds, told in other words.
use Rattle.std.proofs.Common.{◌≡◌, ℕ, ◌+◌, List, [], ◌++◌, subst, sym, arith}
use Rattle.std.proofs.lemmas.List.{append_assoc, append-nil}
use Rattle.njs_code.specs.declared.op.Op.{Op}
use Rattle.njs_meaning.specs.declared.place.Place.{Place}
use Rattle.njs_gen_expr.specs.Written.{Progress, draft, Holds}

pub recount : (w : Progress) (ops : List Op) (n m : ℕ) (places : List Place) (functions : ℕ) → n ≡ m → Holds w (draft ops n places functions) → Holds w (draft ops m places functions)
recount w ops n m places functions same h = subst (λ k. Holds w (draft ops k places functions)) same h

-- in front of the last of two parts
pub split : (w : Progress) (ops : List Op) (n : ℕ) (front a b : List Place) (first p q : ℕ) → Holds w (draft ops n (front ++ (a ++ b)) (first + (p + q)))
    → Holds w (draft ops n ((front ++ a) ++ b) ((first + p) + q))
split w ops n front a b first p q h =
    let sum : first + (p + q) ≡ (first + p) + q = omega arith in
    subst (λ k. Holds w (draft ops n ((front ++ a) ++ b) k)) sum (subst (λ ps. Holds w (draft ops n ps (first + (p + q)))) (sym (append_assoc front a b)) h)

-- of a part without names and functions
pub bare : (w : Progress) (ops : List Op) (n : ℕ) (front : List Place) (first : ℕ) → Holds w (draft ops n (front ++ []) (first + 0)) → Holds w (draft ops n front first)
bare w ops n front first h =
    let sum : first + 0 ≡ first = omega arith in
    subst (λ k. Holds w (draft ops n front k)) sum (subst (λ ps. Holds w (draft ops n ps (first + 0))) (append-nil front) h)
