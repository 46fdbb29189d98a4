-- Parts of a script and their code: functions, declared functions and names, put together in the same way.
use Rattle.std.proofs.Common.{◌≡◌, ℕ, zero, suc, ◌+◌, List, [], ◌∷◌, ◌++◌, length, map, ◌||◌, Option, Some, None, refl, ap, sym, subst, ◌∙◌, slice_get, arith}
use Rattle.std.proofs.lemmas.List.{length-append}
use Rattle.njs_code.specs.declared.code.FunctionCode.{FunctionCode}
use Rattle.njs_meaning.specs.Places.{Around}
use Rattle.njs_meaning.specs.Functions.{Function}
use Rattle.njs_meaning.specs.Parts.{Declared, Part, leaf, one, two, three, four, each, held, each_named, each_held, each_named_held, with_vars, without_declared}
use Rattle.njs_simul.specs.Compiled.{Placed, further_in}
use Rattle.njs_simul.specs.Fits.{Names}
use Rattle.njs_simul.specs.Program.{FunctionMeans}
use Rattle.njs_simul.proofs.FineFunctions.{EachStandsIn, FunctionFine}
use Rattle.njs_simul.proofs.Pairs.{Each, Held, Named, each_append}
use Rattle.njs_simul.proofs.Kept.{pushed_before}

-- the functions with the numbers from `first` on stand in scopes with the names that their places have
abbrev pub Knows : Names → ℕ → List Placed → ℕ → Around → Type 0
Knows env unit fs first names = (at : ℕ) (f : Placed) → slice_get fs at ≡ Some f → env unit (first + at) ≡ (f names).around

pub found_later : {A : Type 0} (xs ys : List A) (at : ℕ) (x : A) → slice_get ys at ≡ Some x → slice_get (xs ++ ys) (length xs + at) ≡ Some x
found_later {A} [] ys at x is = let e : at ≡ length {A = A} [] + at = omega arith in subst (λ k. slice_get ys k ≡ Some x) e is
found_later (y ∷ xs) ys at x is = let e : suc (length xs + at) ≡ length (y ∷ xs) + at = omega arith in subst (λ k. slice_get (y ∷ (xs ++ ys)) k ≡ Some x) e (found_later xs ys at x is)

pub knows_first : (env : Names) (unit : ℕ) (xs ys : List Placed) (first : ℕ) (names : Around) → Knows env unit (xs ++ ys) first names → Knows env unit xs first names
knows_first env unit xs ys first names k at f is = k at f (pushed_before xs ys at f is)

pub knows_later : (env : Names) (unit : ℕ) (xs ys : List Placed) (first n : ℕ) (names : Around) → length xs ≡ n → Knows env unit (xs ++ ys) first names → Knows env unit ys (first + n) names
knows_later env unit xs ys first n names count k at f is =
    let e : first + (length xs + at) ≡ first + n + at = omega (arith, count) in
    subst (λ number. env unit number ≡ (f names).around) e (k (length xs + at) f (found_later xs ys at f is))

pub mapped_at : {A B : Type 0} (f : A → B) (xs : List A) (at : ℕ) (x : A) → slice_get xs at ≡ Some x → slice_get (map f xs) at ≡ Some (f x)
mapped_at f [] at x is = cc
mapped_at f (y ∷ xs) zero x is = cc
mapped_at f (y ∷ xs) (suc at) x is = mapped_at f xs at x is

pub map_count : {A B : Type 0} (f : A → B) (xs : List A) → length (map f xs) ≡ length xs
map_count f [] = refl
map_count f (x ∷ xs) = ap suc (map_count f xs)

-- with the functions of a part in further scopes
pub knows_further : (env : Names) (unit : ℕ) (scopes : Around → Around) (fs : List Placed) (first : ℕ) (names : Around)
    → Knows env unit (map (λ f around. f (scopes around)) fs) first names → Knows env unit fs first (scopes names)
knows_further env unit scopes fs first names k at f is = k at (λ around. f (scopes around)) (mapped_at (λ f around. f (scopes around)) fs at f is)

-- a function and its code
pub record FunctionTied (env : Names) (unit : ℕ) (around : Around) (f : Function) (code : FunctionCode) : Type 0 where
  pub fine : FunctionFine env unit around f
  pub means : FunctionMeans env unit around f code

abbrev pub EachFunction : Names → ℕ → Around → List Function → List Placed → Type 0
EachFunction env unit names = Each (λ f g. FunctionTied env unit (g names).around f (g names).code)

-- a part and its code: where the functions in it stand in the scopes that their places have, what it means and its code are so
pub record PartsTied (env : Names) (unit : ℕ) {A B : Type 0} (R : Around → A → B → Type 0) (p : Part Function A) (q : Part Placed B) : Type 0 where
  pub size : p.size ≡ q.size
  pub count : (first : ℕ) → length (q.functions first) ≡ q.size
  pub functions : (first : ℕ) (names : Around) → Knows env unit (q.functions first) first names → EachFunction env unit names (p.functions first) (q.functions first)
  pub declared : (first : ℕ) → p.declared first ≡ q.declared first
  pub declares : (first : ℕ) (names : Around) → Knows env unit (q.functions first) first names → EachStandsIn env unit names (q.declared first)
  pub vars : p.vars ≡ q.vars
  pub named : p.names_arguments ≡ q.names_arguments
  pub means : (first : ℕ) (names : Around) → Knows env unit (q.functions first) first names → R names (p.means first) (q.means first)

stands_append : (env : Names) (unit : ℕ) (names : Around) (xs ys : List Declared) → EachStandsIn env unit names xs → EachStandsIn env unit names ys → EachStandsIn env unit names (xs ++ ys)
stands_append env unit names [] ys h k = k
stands_append env unit names (x ∷ xs) ys h k = (h.0, stands_append env unit names xs ys h.1 k)

module _ (env : Names) (unit : ℕ) where
  pub tied_leaf : {A B : Type 0} (R : Around → A → B → Type 0) (a : A) (b : B) → ((names : Around) → R names a b) → PartsTied env unit R (leaf a) (leaf b)
  tied_leaf R a b r = record {
    size = refl;
    count = λ first. refl;
    functions = λ first names k. tt;
    declared = λ first. refl;
    declares = λ first names k. tt;
    vars = refl;
    named = refl;
    means = λ first names k. r names;
  }

  pub tied_one : {A B C D : Type 0} (R : Around → A → B → Type 0) (S : Around → C → D → Type 0) (p : Part Function A) (q : Part Placed B) (f : A → C) (g : B → D)
      → ((names : Around) (a : A) (b : B) → R names a b → S names (f a) (g b)) → PartsTied env unit R p q → PartsTied env unit S (one p f) (one q g)
  tied_one R S p q f g go t = record {
    size = t.size;
    count = t.count;
    functions = t.functions;
    declared = t.declared;
    declares = t.declares;
    vars = t.vars;
    named = t.named;
    means = λ first names k. go names (p.means first) (q.means first) (t.means first names k);
  }

  pub tied_two : {A B C D E F : Type 0} (R : Around → A → B → Type 0) (S : Around → C → D → Type 0) (T : Around → E → F → Type 0)
      (p : Part Function A) (q : Part Placed B) (p' : Part Function C) (q' : Part Placed D) (f : A → C → E) (g : B → D → F)
      → ((names : Around) (a : A) (b : B) (c : C) (d : D) → R names a b → S names c d → T names (f a c) (g b d))
      → PartsTied env unit R p q → PartsTied env unit S p' q' → PartsTied env unit T (two p p' f) (two q q' g)
  tied_two R S T p q p' q' f g go t t' = record {
    size = ap (λ n. n + p'.size) t.size ∙ ap (λ n. q.size + n) t'.size;
    count = λ first. length-append (q.functions first) (q'.functions (first + q.size)) ∙ ap (λ n. n + length (q'.functions (first + q.size))) (t.count first) ∙ ap (λ n. q.size + n) (t'.count (first + q.size));
    functions = λ first names k.
        let k' = knows_later env unit (q.functions first) (q'.functions (first + q.size)) first q.size names (t.count first) k in
        each_append (λ f g. FunctionTied env unit (g names).around f (g names).code) (p.functions first) (p'.functions (first + p.size)) (q.functions first) (q'.functions (first + q.size))
        (t.functions first names (knows_first env unit (q.functions first) (q'.functions (first + q.size)) first names k))
        (subst (λ n. EachFunction env unit names (p'.functions (first + n)) (q'.functions (first + q.size))) (sym t.size) (t'.functions (first + q.size) names k'));
    declared = λ first. ap (λ xs. xs ++ p'.declared (first + p.size)) (t.declared first) ∙ ap (λ n. q.declared first ++ p'.declared (first + n)) t.size ∙ ap (λ xs. q.declared first ++ xs) (t'.declared (first + q.size));
    declares = λ first names k. stands_append env unit names (q.declared first) (q'.declared (first + q.size))
        (t.declares first names (knows_first env unit (q.functions first) (q'.functions (first + q.size)) first names k))
        (t'.declares (first + q.size) names (knows_later env unit (q.functions first) (q'.functions (first + q.size)) first q.size names (t.count first) k));
    vars = ap (λ xs. xs ++ p'.vars) t.vars ∙ ap (λ xs. q.vars ++ xs) t'.vars;
    named = ap (λ b. b || p'.names_arguments) t.named ∙ ap (λ b. q.names_arguments || b) t'.named;
    means = λ first names k.
        go names (p.means first) (q.means first) (p'.means (first + p.size)) (q'.means (first + q.size))
        (t.means first names (knows_first env unit (q.functions first) (q'.functions (first + q.size)) first names k))
        (subst (λ n. S names (p'.means (first + n)) (q'.means (first + q.size))) (sym t.size)
        (t'.means (first + q.size) names (knows_later env unit (q.functions first) (q'.functions (first + q.size)) first q.size names (t.count first) k)));
  }

  -- functions of what is related give what is related
  abbrev pub Leads : {C D E F : Type 0} → (Around → C → D → Type 0) → (Around → E → F → Type 0) → Around → (C → E) → (D → F) → Type 0
  Leads {C} {D} T U names h k = (x : C) (y : D) → T names x y → U names (h x) (k y)

  pub tied_three : {A B C D E F G H : Type 0} (R : Around → A → B → Type 0) (S : Around → C → D → Type 0) (T : Around → E → F → Type 0) (U : Around → G → H → Type 0)
      (p : Part Function A) (q : Part Placed B) (p' : Part Function C) (q' : Part Placed D) (p2 : Part Function E) (q2 : Part Placed F) (f : A → C → E → G) (g : B → D → F → H)
      → ((names : Around) (a : A) (b : B) (c : C) (d : D) (x : E) (y : F) → R names a b → S names c d → T names x y → U names (f a c x) (g b d y))
      → PartsTied env unit R p q → PartsTied env unit S p' q' → PartsTied env unit T p2 q2 → PartsTied env unit U (three p p' p2 f) (three q q' q2 g)
  tied_three R S T U p q p' q' p2 q2 f g go t t' third =
      tied_two (Leads T U) T U (two p p' f) (two q q' g) p2 q2 (λ h x. h x) (λ h x. h x) (λ names h k x y r s. r x y s)
      (tied_two R S (Leads T U) p q p' q' f g (λ names a b c d r s x y t. go names a b c d x y r s t) t t') third

  pub tied_four : {A B C D E F G H I J : Type 0} (R : Around → A → B → Type 0) (S : Around → C → D → Type 0) (T : Around → E → F → Type 0) (U : Around → G → H → Type 0) (V : Around → I → J → Type 0)
      (p : Part Function A) (q : Part Placed B) (p' : Part Function C) (q' : Part Placed D) (p2 : Part Function E) (q2 : Part Placed F) (p3 : Part Function G) (q3 : Part Placed H)
      (f : A → C → E → G → I) (g : B → D → F → H → J)
      → ((names : Around) (a : A) (b : B) (c : C) (d : D) (x : E) (y : F) (v : G) (w : H) → R names a b → S names c d → T names x y → U names v w → V names (f a c x v) (g b d y w))
      → PartsTied env unit R p q → PartsTied env unit S p' q' → PartsTied env unit T p2 q2 → PartsTied env unit U p3 q3 → PartsTied env unit V (four p p' p2 p3 f) (four q q' q2 q3 g)
  tied_four R S T U V p q p' q' p2 q2 p3 q3 f g go t t' third fourth =
      tied_two (Leads U V) U V (three p p' p2 f) (three q q' q2 g) p3 q3 (λ h x. h x) (λ h x. h x) (λ names h k x y r s. r x y s)
      (tied_three R S T (Leads U V) p q p' q' p2 q2 f g (λ names a b c d x y r s t v w u. go names a b c d x y v w r s t u) t t' third) fourth

  -- ---- lists of parts

  abbrev pub Lists : {A B : Type 0} → (Around → A → B → Type 0) → Around → List A → List B → Type 0
  Lists R names = Each (R names)

  pub tied_each : {A B : Type 0} (R : Around → A → B → Type 0) (ps : List (Part Function A)) (qs : List (Part Placed B)) → Each (PartsTied env unit R) ps qs → PartsTied env unit (Lists R) (each ps) (each qs)
  tied_each R [] [] t = tied_leaf (Lists R) [] [] (λ names. tt)
  tied_each R (p ∷ ps) (q ∷ qs) t = tied_two R (Lists R) (Lists R) p q (each ps) (each qs) (λ x xs. x ∷ xs) (λ x xs. x ∷ xs) (λ names a b xs ys r rs. (r, rs)) t.0 (tied_each R ps qs t.1)
  tied_each R [] (q ∷ qs) t = absurd t
  tied_each R (p ∷ ps) [] t = absurd t

  abbrev pub Maybe : {A B : Type 0} → (Around → A → B → Type 0) → Around → Option A → Option B → Type 0
  Maybe R names = Held (R names)

  pub tied_held : {A B : Type 0} (R : Around → A → B → Type 0) (p : Option (Part Function A)) (q : Option (Part Placed B)) → Held (PartsTied env unit R) p q → PartsTied env unit (Maybe R) (held p) (held q)
  tied_held R None None t = tied_leaf (Maybe R) None None (λ names. tt)
  tied_held R (Some p) (Some q) t = tied_one R (Maybe R) p q Some Some (λ names a b r. r) t
  tied_held R None (Some q) t = absurd t
  tied_held R (Some p) None t = absurd t

  abbrev pub NamedLists : {A B N : Type 0} → (Around → A → B → Type 0) → Around → List (N × A) → List (N × B) → Type 0
  NamedLists R names = Each (Named (R names))

  pub tied_each_named : {A B N : Type 0} (R : Around → A → B → Type 0) (ps : List (N × Part Function A)) (qs : List (N × Part Placed B)) → Each (Named (PartsTied env unit R)) ps qs
      → PartsTied env unit (NamedLists {N = N} R) (each_named ps) (each_named qs)
  tied_each_named {N = N} R [] [] t = tied_leaf (NamedLists {N = N} R) [] [] (λ names. tt)
  tied_each_named {N = N} R (p ∷ ps) (q ∷ qs) t =
      tied_two R (NamedLists {N = N} R) (NamedLists {N = N} R) p.1 q.1 (each_named ps) (each_named qs) (λ x xs. (p.0, x) ∷ xs) (λ x xs. (q.0, x) ∷ xs) (λ names a b xs ys r rs. ((t.0.0, r), rs)) t.0.1 (tied_each_named R ps qs t.1)
  tied_each_named R [] (q ∷ qs) t = absurd t
  tied_each_named R (p ∷ ps) [] t = absurd t

  pub tied_each_held : {A B : Type 0} (R : Around → A → B → Type 0) (ps : List (Option (Part Function A))) (qs : List (Option (Part Placed B))) → Each (Held (PartsTied env unit R)) ps qs
      → PartsTied env unit (Lists (Maybe R)) (each_held ps) (each_held qs)
  tied_each_held R [] [] t = tied_leaf (Lists (Maybe R)) [] [] (λ names. tt)
  tied_each_held R (p ∷ ps) (q ∷ qs) t =
      tied_two (Maybe R) (Lists (Maybe R)) (Lists (Maybe R)) (held p) (held q) (each_held ps) (each_held qs) (λ x xs. x ∷ xs) (λ x xs. x ∷ xs) (λ names a b xs ys r rs. (r, rs)) (tied_held R p q t.0) (tied_each_held R ps qs t.1)
  tied_each_held R [] (q ∷ qs) t = absurd t
  tied_each_held R (p ∷ ps) [] t = absurd t

  pub tied_each_named_held : {A B N : Type 0} (R : Around → A → B → Type 0) (ps : List (N × Option (Part Function A))) (qs : List (N × Option (Part Placed B))) → Each (Named (Held (PartsTied env unit R))) ps qs
      → PartsTied env unit (NamedLists {N = N} (Maybe R)) (each_named_held ps) (each_named_held qs)
  tied_each_named_held {N = N} R [] [] t = tied_leaf (NamedLists {N = N} (Maybe R)) [] [] (λ names. tt)
  tied_each_named_held {N = N} R (p ∷ ps) (q ∷ qs) t =
      tied_two (Maybe R) (NamedLists {N = N} (Maybe R)) (NamedLists {N = N} (Maybe R)) (held p.1) (held q.1) (each_named_held ps) (each_named_held qs) (λ x xs. (p.0, x) ∷ xs) (λ x xs. (q.0, x) ∷ xs)
      (λ names a b xs ys r rs. ((t.0.0, r), rs)) (tied_held R p.1 q.1 t.0.1) (tied_each_named_held R ps qs t.1)
  tied_each_named_held R [] (q ∷ qs) t = absurd t
  tied_each_named_held R (p ∷ ps) [] t = absurd t

  -- ---- names and declarations

  pub tied_vars : {A B : Type 0} (R : Around → A → B → Type 0) (xs ys : List (List ℕ)) (p : Part Function A) (q : Part Placed B) → xs ≡ ys → PartsTied env unit R p q → PartsTied env unit R (with_vars xs p) (with_vars ys q)
  tied_vars R xs ys p q same t = record {
    size = t.size;
    count = t.count;
    functions = t.functions;
    declared = t.declared;
    declares = t.declares;
    vars = ap (λ zs. zs ++ p.vars) same ∙ ap (λ zs. ys ++ zs) t.vars;
    named = t.named;
    means = t.means;
  }

  pub tied_undeclared : {A B : Type 0} (R : Around → A → B → Type 0) (p : Part Function A) (q : Part Placed B) → PartsTied env unit R p q → PartsTied env unit R (without_declared p) (without_declared q)
  tied_undeclared R p q t = record {
    size = t.size;
    count = t.count;
    functions = t.functions;
    declared = λ first. refl;
    declares = λ first names k. tt;
    vars = t.vars;
    named = t.named;
    means = t.means;
  }

  pub functions_further : (scopes : Around → Around) (names : Around) (fs : List Function) (gs : List Placed) → EachFunction env unit (scopes names) fs gs → EachFunction env unit names fs (map (λ f around. f (scopes around)) gs)
  functions_further scopes names [] [] t = tt
  functions_further scopes names (f ∷ fs) (g ∷ gs) t = (t.0, functions_further scopes names fs gs t.1)
  functions_further scopes names [] (g ∷ gs) t = absurd t
  functions_further scopes names (f ∷ fs) [] t = absurd t

  -- a part that declares no functions of the one around it, in further scopes
  pub tied_further : {A B : Type 0} (R S : Around → A → B → Type 0) (scopes : ℕ → Around → Around) (p : Part Function A) (q : Part Placed B)
      → ((first : ℕ) (names : Around) → R (scopes first names) (p.means first) (q.means first) → S names (p.means first) (q.means first)) → ((first : ℕ) → q.declared first ≡ [])
      → PartsTied env unit R p q → PartsTied env unit S p (further_in scopes q)
  tied_further R S scopes p q go none t = record {
    size = t.size;
    count = λ first. map_count (λ f around. f (scopes first around)) (q.functions first) ∙ t.count first;
    functions = λ first names k. functions_further (scopes first) names (p.functions first) (q.functions first) (t.functions first (scopes first names) (knows_further env unit (scopes first) (q.functions first) first names k));
    declared = t.declared;
    declares = λ first names k. subst (EachStandsIn env unit names) (sym (none first)) tt;
    vars = t.vars;
    named = t.named;
    means = λ first names k. go first names (t.means first (scopes first names) (knows_further env unit (scopes first) (q.functions first) first names k));
  }
