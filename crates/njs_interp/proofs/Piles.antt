-- Stacks that are cut.
use Rattle.std.proofs.Common.{◌≡◌, ℕ, suc, ◌-◌, ◌<◌, List, [], ◌∷◌, ◌++◌, length, take, drop, reverse, refl, sym, ap, ◌∙◌, arith, append_assoc}
use Rattle.std.specs.List.{insert}
use Rattle.njs_interp.specs.Tucked.{tucked}
use Rattle.std.proofs.lemmas.List.{reverse-append, length-reverse, take-append-drop, length-drop}
use Rattle.std.proofs.Math.Seq.{drop-append_seam}

take_front : {A : Type 0} (xs ys : List A) → take (length xs) (xs ++ ys) ≡ xs
take_front [] ys = refl
take_front (x ∷ xs) ys = ap (λ l. x ∷ l) (take_front xs ys)

-- the lowest n of a stack are the first n that were pushed
pub cut_reverse : {A : Type 0} (n : ℕ) (xs : List A) → reverse (take n xs) ≡ drop (length (reverse xs) - n) (reverse xs)
cut_reverse n xs =
    let whole : reverse xs ≡ reverse (drop n xs) ++ reverse (take n xs) = ap reverse (sym (take-append-drop n xs)) ∙ reverse-append (take n xs) (drop n xs) in
    let len : length (reverse xs) - n ≡ length (reverse (drop n xs)) = omega (arith, length-reverse xs, length-reverse (drop n xs), length-drop n xs) in
    sym (ap (λ k. drop k (reverse xs)) len ∙ ap (drop (length (reverse (drop n xs)))) whole ∙ drop-append_seam (reverse (drop n xs)) (reverse (take n xs)))

-- the others stand above them
pub above_reverse : {A : Type 0} (n : ℕ) (xs : List A) → reverse (drop n xs) ≡ take (length xs - n) (reverse xs)
above_reverse n xs =
    let whole : reverse xs ≡ reverse (drop n xs) ++ reverse (take n xs) = ap reverse (sym (take-append-drop n xs)) ∙ reverse-append (take n xs) (drop n xs) in
    let len : length xs - n ≡ length (reverse (drop n xs)) = omega (arith, length-reverse (drop n xs), length-drop n xs) in
    sym (ap (λ k. take k (reverse xs)) len ∙ ap (take (length (reverse (drop n xs)))) whole ∙ take_front (reverse (drop n xs)) (reverse (take n xs)))

-- one put among those that were pushed
pub insert_reverse : {A : Type 0} (xs : List A) (under : ℕ) (top : A) (below : List A) → reverse xs ≡ top ∷ below → under < length xs
    → reverse (insert xs (length xs - 1 - under) top) ≡ tucked under top below
insert_reverse xs under top below is within =
    let at = length xs - 1 - under in
    let kept : length (reverse xs) - at ≡ suc under = omega (arith, length-reverse xs) in
    let above : length xs - at ≡ suc under = omega arith in
    let lower : reverse (take at xs) ≡ drop under below = cut_reverse at xs ∙ ap (λ k. drop k (reverse xs)) kept ∙ ap (drop (suc under)) is in
    let upper : reverse (drop at xs) ≡ top ∷ take under below = above_reverse at xs ∙ ap (λ k. take k (reverse xs)) above ∙ ap (take (suc under)) is in
    reverse-append (take at xs) (top ∷ drop at xs)
    ∙ ap (λ l. l ++ reverse (take at xs)) (reverse-append (top ∷ []) (drop at xs))
    ∙ append_assoc (reverse (drop at xs)) (top ∷ []) (reverse (take at xs))
    ∙ ap (λ l. l ++ top ∷ reverse (take at xs)) upper
    ∙ ap (λ l. (top ∷ take under below) ++ top ∷ l) lower

-- and the others are those above them
pub split_reverse : {A : Type 0} (k : ℕ) (xs : List A) → reverse xs ≡ reverse (drop k xs) ++ reverse (take k xs)
split_reverse k xs = ap reverse (sym (take-append-drop k xs)) ∙ reverse-append (take k xs) (drop k xs)
