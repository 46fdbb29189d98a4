-- Relations between the members of two lists.
use Rattle.std.proofs.Common.{◌≡◌, suc, List, [], ◌∷◌, ◌++◌, length, Option, Some, None, refl, ap}

-- the members of two lists, one by one
abbrev pub Each : {A B : Type 0} → (A → B → Type 0) → List A → List B → Type 0
Each R [] [] = Unit {0}
Each R (a ∷ xs) (b ∷ ys) = R a b × Each R xs ys
Each R [] (b ∷ ys) = ⊥
Each R (a ∷ xs) [] = ⊥

-- what may be missing, on both sides or on none
abbrev pub Held : {A B : Type 0} → (A → B → Type 0) → Option A → Option B → Type 0
Held R None None = Unit {0}
Held R (Some a) (Some b) = R a b
Held R None (Some b) = ⊥
Held R (Some a) None = ⊥

-- with the same name
abbrev pub Named : {A B N : Type 0} → (A → B → Type 0) → N × A → N × B → Type 0
Named R a b = (a.0 ≡ b.0) × R a.1 b.1

pub each_length : {A B : Type 0} (R : A → B → Type 0) (xs : List A) (ys : List B) → Each R xs ys → length xs ≡ length ys
each_length R [] [] t = refl
each_length R (a ∷ xs) (b ∷ ys) t = ap suc (each_length R xs ys t.1)
each_length R [] (b ∷ ys) t = absurd t
each_length R (a ∷ xs) [] t = absurd t

pub each_append : {A B : Type 0} (R : A → B → Type 0) (xs xs' : List A) (ys ys' : List B) → Each R xs ys → Each R xs' ys' → Each R (xs ++ xs') (ys ++ ys')
each_append R [] xs' [] ys' t t' = t'
each_append R (a ∷ xs) xs' (b ∷ ys) ys' t t' = (t.0, each_append R xs xs' ys ys' t.1 t')
each_append R [] xs' (b ∷ ys) ys' t t' = absurd t
each_append R (a ∷ xs) xs' [] ys' t t' = absurd t

pub each_so : {A B : Type 0} (R S : A → B → Type 0) → ((a : A) (b : B) → R a b → S a b) → (xs : List A) (ys : List B) → Each R xs ys → Each S xs ys
each_so R S go [] [] t = tt
each_so R S go (a ∷ xs) (b ∷ ys) t = (go a b t.0, each_so R S go xs ys t.1)
each_so R S go [] (b ∷ ys) t = absurd t
each_so R S go (a ∷ xs) [] t = absurd t
