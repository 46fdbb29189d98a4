-- Parts of a script whose code is small: with that of the functions in it, and what is declared.
use Rattle.std.proofs.Common.{◌≡◌, ℕ, ◌+◌, ◌≤◌, List, [], ◌∷◌, ◌++◌, length, map, Bool, true, false, Option, Some, None, refl, ap, subst, arith}
use Rattle.njs_tree.specs.declared.tree.Stmt.{Stmt}
use Rattle.njs_meaning.specs.Places.{Around, assignable}
use Rattle.njs_meaning.specs.Parts.{Declared, Part, leaf, one, two, three, four, each, held, with_vars, with_declaration, without_declared}
use Rattle.njs_meaning.specs.Meaning.{Made, declared_as}
use Rattle.njs_simul.specs.EmissionOfStatements.{CodedStatement, in_turn_size, function_body, at_start}
use Rattle.njs_simul.specs.Compiled as code
use Rattle.njs_simul.specs.Compiled.{Placed, further_in}
use Rattle.njs_simul.specs.Sizes.{declared_size, arguments_size, function_size}
use Rattle.njs_simul.proofs.Sizes.{sizes_are_true}
use Rattle.njs_simul.proofs.CodedTrees.{coded_statement, coded_statements}

-- the operations of the functions in a part, in these scopes
abbrev pub inside : List Placed → Around → ℕ
inside [] names = 0
inside (f ∷ fs) names = length (f names).code.ops + inside fs names

-- a part that is at most so large, with the functions in it and what it declares
pub record Small {A : Type 0} (P : A → ℕ → Type 0) (most : ℕ) (p : Part Placed A) (first : ℕ) (names : Around) : Type 0 where
  pub size : ℕ
  pub has : P (p.means first) size
  pub within : size + (declared_size (p.declared first) + inside (p.functions first) names) ≤ most

abbrev pub PartSmall : {A : Type 0} → (A → ℕ → Type 0) → ℕ → Part Placed A → Type 0
PartSmall P most p = (first : ℕ) (names : Around) → Small P most p first names

inside_append : (fs gs : List Placed) (names : Around) → inside (fs ++ gs) names ≡ inside fs names + inside gs names
inside_append [] gs names = omega arith
inside_append (f ∷ fs) gs names = let e = inside_append fs gs names in omega (arith, e)

declared_append : (ds es : List Declared) → declared_size (ds ++ es) ≡ declared_size ds + declared_size es
declared_append [] es = omega arith
declared_append (d ∷ ds) es = let e = declared_append ds es in omega (arith, e)

pub small_leaf : {A : Type 0} (P : A → ℕ → Type 0) (most n : ℕ) (a : A) → P a n → n ≤ most → PartSmall P most (leaf a)
small_leaf P most n a h le first names = record { size = n; has = h; within = omega (arith, le) }

pub small_one : {A B : Type 0} (P : A → ℕ → Type 0) (Q : B → ℕ → Type 0) (n most c : ℕ) (p : Part Placed A) (g : A → B) → ((a : A) (m : ℕ) → P a m → Q (g a) (m + c)) → n + c ≤ most
    → PartSmall P n p → PartSmall Q most (one p g)
small_one P Q n most c p g go le t first names =
    let s = t first names in let w = s.within in record { size = s.size + c; has = go (p.means first) s.size s.has; within = omega (arith, w, le) }

pub small_two : {A B C : Type 0} (P : A → ℕ → Type 0) (Q : B → ℕ → Type 0) (T : C → ℕ → Type 0) (n m most c : ℕ) (p : Part Placed A) (q : Part Placed B) (g : A → B → C)
    → ((a : A) (b : B) (i j : ℕ) → P a i → Q b j → T (g a b) (i + j + c)) → n + m + c ≤ most → PartSmall P n p → PartSmall Q m q → PartSmall T most (two p q g)
small_two P Q T n m most c p q g go le t u first names =
    let s = t first names in let r = u (first + p.size) names in let w = s.within in let v = r.within in
    let e = inside_append (p.functions first) (q.functions (first + p.size)) names in
    let d = declared_append (p.declared first) (q.declared (first + p.size)) in
    record { size = s.size + r.size + c; has = go (p.means first) (q.means (first + p.size)) s.size r.size s.has r.has; within = omega (arith, w, v, e, d, le) }

-- functions of what is so give what is so
abbrev pub Gives : {A B : Type 0} → (A → ℕ → Type 0) → (B → ℕ → Type 0) → ℕ → (A → B) → ℕ → Type 0
Gives {A} P Q c h m = (a : A) (n : ℕ) → P a n → Q (h a) (m + n + c)

pub small_three : {A B C D : Type 0} (P : A → ℕ → Type 0) (Q : B → ℕ → Type 0) (T : C → ℕ → Type 0) (U : D → ℕ → Type 0) (n m k most c : ℕ) (p : Part Placed A) (q : Part Placed B) (r : Part Placed C) (g : A → B → C → D)
    → ((a : A) (b : B) (x : C) (i j l : ℕ) → P a i → Q b j → T x l → U (g a b x) (i + j + l + c)) → n + m + k + c ≤ most
    → PartSmall P n p → PartSmall Q m q → PartSmall T k r → PartSmall U most (three p q r g)
small_three P Q T U n m k most c p q r g go le t u v =
    small_two (Gives T U c) T U (n + m) k most c (two p q g) r (λ h x. h x) (λ h x i j give has. give x j has) le
    (small_two P Q (Gives T U c) n m (n + m) 0 p q g (λ a b i j hp hq x l hx. subst (λ s. U (g a b x) s) (omega arith) (go a b x i j l hp hq hx)) (omega arith) t u) v

pub small_four : {A B C D E : Type 0} (P : A → ℕ → Type 0) (Q : B → ℕ → Type 0) (T : C → ℕ → Type 0) (V : D → ℕ → Type 0) (U : E → ℕ → Type 0) (n m k l most c : ℕ)
    (p : Part Placed A) (q : Part Placed B) (r : Part Placed C) (s : Part Placed D) (g : A → B → C → D → E)
    → ((a : A) (b : B) (x : C) (y : D) (i j h o : ℕ) → P a i → Q b j → T x h → V y o → U (g a b x y) (i + j + h + o + c)) → n + m + k + l + c ≤ most
    → PartSmall P n p → PartSmall Q m q → PartSmall T k r → PartSmall V l s → PartSmall U most (four p q r s g)
small_four P Q T V U n m k l most c p q r s g go le t u v w =
    small_two (Gives V U c) V U (n + m + k) l most c (three p q r g) s (λ h x. h x) (λ h x i j give has. give x j has) le
    (small_three P Q T (Gives V U c) n m k (n + m + k) 0 p q r g (λ a b x i j h hp hq hx y o hy. subst (λ z. U (g a b x y) z) (omega arith) (go a b x y i j h o hp hq hx hy)) (omega arith) t u v) w

-- ---- lists

abbrev pub All_small : {A : Type 0} → (A → ℕ → Type 0) → List A → ℕ → Type 0
All_small P [] m = Unit {0}
All_small P (a ∷ rest) m = (i : ℕ) × (j : ℕ) × P a i × All_small P rest j × (i + j ≤ m)

abbrev pub Perhaps_small : {A : Type 0} → (A → ℕ → Type 0) → Option A → ℕ → Type 0
Perhaps_small P None m = Unit {0}
Perhaps_small P (Some a) m = P a m

abbrev pub Named_small : {A N : Type 0} → (A → ℕ → Type 0) → N × A → ℕ → Type 0
Named_small P p m = P p.1 m

-- ---- what is put around a part

pub small_wider : {A : Type 0} (P : A → ℕ → Type 0) (n m : ℕ) (p : Part Placed A) → n ≤ m → PartSmall P n p → PartSmall P m p
small_wider P n m p le t first names = let s = t first names in let w = s.within in record { size = s.size; has = s.has; within = omega (arith, w, le) }

pub small_held : {A : Type 0} (P : A → ℕ → Type 0) (n : ℕ) (p : Part Placed A) → PartSmall P n p → PartSmall (Perhaps_small P) n (held (Some p))
small_held P n p t first names = let s = t first names in let w = s.within in record { size = s.size; has = s.has; within = w }

pub small_more : {A : Type 0} (P : A → ℕ → Type 0) (n m most : ℕ) (p : Part Placed A) (q : Part Placed (List A)) → n + m ≤ most → PartSmall P n p → PartSmall (All_small P) m q
    → PartSmall (All_small P) most (two p q (λ x xs. x ∷ xs))
small_more P n m most p q le t u = small_two P (All_small P) (All_small P) n m most 0 p q (λ x xs. x ∷ xs) (λ a b i j hp hq. (i, j, hp, hq, omega arith)) (omega (arith, le)) t u

pub small_with_vars : {A : Type 0} (P : A → ℕ → Type 0) (n : ℕ) (names : List (List ℕ)) (p : Part Placed A) → PartSmall P n p → PartSmall P n (with_vars names p)
small_with_vars P n names p t first around = let s = t first around in record { size = s.size; has = s.has; within = s.within }

pub small_undeclared : {A : Type 0} (P : A → ℕ → Type 0) (n : ℕ) (p : Part Placed A) → PartSmall P n p → PartSmall P n (without_declared p)
small_undeclared P n p t first around = let s = t first around in let w = s.within in record { size = s.size; has = s.has; within = omega (arith, w) }

inside_further : (scopes : Around → Around) (fs : List Placed) (names : Around) → inside (map (λ f around. f (scopes around)) fs) names ≡ inside fs (scopes names)
inside_further scopes [] names = refl
inside_further scopes (f ∷ fs) names = ap (λ n. length (f (scopes names)).code.ops + n) (inside_further scopes fs names)

pub small_further : {A : Type 0} (P : A → ℕ → Type 0) (n : ℕ) (scopes : ℕ → Around → Around) (p : Part Placed A) → PartSmall P n p → PartSmall P n (further_in scopes p)
small_further P n scopes p t first names =
    let s = t first (scopes first names) in let w = s.within in let e = inside_further (scopes first) (p.functions first) names in
    record { size = s.size; has = s.has; within = omega (arith, w, e) }

-- ---- functions

-- what is made takes nothing where it is made
abbrev pub Nothing : Made → ℕ → Type 0
Nothing made m = Unit {0}

abbrev pub Within : (List CodedStatement) → ℕ → Type 0
Within cs m = in_turn_size cs ≤ m

arguments_few : (b : Bool) → arguments_size b ≤ 3
arguments_few false = omega arith
arguments_few true = omega arith

function_long : (body : List Stmt) (first : ℕ) (ds : List Declared) (b : Bool) (names : Around)
    → length (function_body ds b ((each (map coded_statement body)).means first) (at_start names) []) ≡ function_size ds b ((each (map coded_statement body)).means first)
function_long body first ds b names =
    let e = (sizes_are_true.functions body first ds b).long (at_start names) [] in
    subst (λ f. length (function_body ds b ((each (map f body)).means first) (at_start names) []) ≡ function_size ds b ((each (map f body)).means first)) coded_statements
    (omega (arith, e))

pub small_function : (name : Option (List ℕ)) (params : List (List ℕ)) (body : List Stmt) (n : ℕ) → PartSmall Within n (each (map coded_statement body)) → PartSmall Nothing (n + 5) (code.function_of name params (each (map coded_statement body)))
small_function name params body n t first names =
    let q = each (map coded_statement body) in
    let scopes : Around → Around = λ around. assignable (code.names_in params q first) ∷ around in
    let s = t (first + 1) (scopes names) in let w = s.within in let h = s.has in
    let e = inside_further scopes (q.functions (first + 1)) names in
    let l = function_long body (first + 1) (q.declared (first + 1)) q.names_arguments (scopes names) in
    let a = arguments_few q.names_arguments in
    record { size = 0; has = tt; within = omega (arith, w, h, e, l, a) }

pub small_declaration : {B : Type 0} (Q : B → ℕ → Type 0) (n most c : ℕ) (q : Part Placed Made) (g : Made → B) → ((made : Made) → Q (g made) c) → n + c + 3 ≤ most → ((first : ℕ) → q.declared first ≡ [])
    → PartSmall Nothing n q → PartSmall Q most (with_declaration q declared_as g)
small_declaration Q n most c q g go le none t first names =
    let s = t first names in let w = s.within in
    record { size = c; has = go (q.means first); within = omega (arith, w, le) }
