-- What parts of scripts mean, and the functions in them, end from every state as the calls in them do.
use Rattle.std.proofs.Common.{ℕ, ◌+◌, List, [], ◌∷◌, ◌++◌, Option, Some, None}
use Rattle.njs_meaning.specs.State.{State}
use Rattle.njs_meaning.specs.Completions.{Statement}
use Rattle.njs_meaning.specs.Functions.{Function}
use Rattle.njs_meaning.specs.Parts.{Declared, Part, leaf, one, two, three, four, each, held, each_named, each_held, each_named_held, with_vars, with_declaration, without_declared}
use Rattle.njs_meaning.specs.Meaning.{function_of}
use Rattle.njs_simul.proofs.AskingSteps.{IsThrough}
use Rattle.njs_simul.proofs.AlwaysExpressions.{Every, IfAny, Always}
use Rattle.njs_simul.proofs.AlwaysStatements.{StatementAlways, always_in_turn}

every_append : {A : Type 0} (is : A → Type 0) (xs ys : List A) → Every is xs → Every is ys → Every is (xs ++ ys)
every_append is [] ys h k = k
every_append is (x ∷ xs) ys h k = (h.0, every_append is xs ys h.1 k)

-- nothing is said
abbrev pub Whatever : {A : Type 0} → A → Type 0
Whatever a = Unit {0}

-- a function gives what is so of what is so
abbrev pub Leads : {A B : Type 0} → (A → Type 0) → (B → Type 0) → (A → B) → Type 0
Leads {A} S T f = (a : A) → S a → T (f a)

module _ (R : State → State → Type 0) where
  abbrev pub FunctionAlways : Function → Type 0
  FunctionAlways f = Always R f.body

  -- what a part means is so, and the functions in it always end so
  pub record PartAlways {A : Type 0} (S : A → Type 0) (p : Part Function A) : Type 0 where
    pub functions : (first : ℕ) → Every FunctionAlways (p.functions first)
    pub means : (first : ℕ) → S (p.means first)

  pub part_leaf : {A : Type 0} (S : A → Type 0) (a : A) → S a → PartAlways S (leaf a)
  part_leaf S a h = record { functions = λ first. tt; means = λ first. h }

  pub part_one : {A B : Type 0} (S : A → Type 0) (T : B → Type 0) (p : Part Function A) (f : A → B) → ((a : A) → S a → T (f a)) → PartAlways S p → PartAlways T (one p f)
  part_one S T p f go h = record { functions = h.functions; means = λ first. go (p.means first) (h.means first) }

  pub part_two : {A B C : Type 0} (S : A → Type 0) (T : B → Type 0) (U : C → Type 0) (p : Part Function A) (q : Part Function B) (f : A → B → C)
      → ((a : A) (b : B) → S a → T b → U (f a b)) → PartAlways S p → PartAlways T q → PartAlways U (two p q f)
  part_two S T U p q f go h k = record {
    functions = λ first. every_append FunctionAlways (p.functions first) (q.functions (first + p.size)) (h.functions first) (k.functions (first + p.size));
    means = λ first. go (p.means first) (q.means (first + p.size)) (h.means first) (k.means (first + p.size));
  }

  pub part_three : {A B C D : Type 0} (S : A → Type 0) (T : B → Type 0) (U : C → Type 0) (V : D → Type 0) (p : Part Function A) (q : Part Function B) (r : Part Function C) (f : A → B → C → D)
      → ((a : A) (b : B) (c : C) → S a → T b → U c → V (f a b c)) → PartAlways S p → PartAlways T q → PartAlways U r → PartAlways V (three p q r f)
  part_three S T U V p q r f go h k l =
      part_two (Leads U V) U V (two p q f) r (λ g x. g x) (λ g c m t. m c t) (part_two S T (Leads U V) p q f (λ a b s t c u. go a b c s t u) h k) l

  pub part_four : {A B C D E : Type 0} (S : A → Type 0) (T : B → Type 0) (U : C → Type 0) (V : D → Type 0) (W : E → Type 0)
      (p : Part Function A) (q : Part Function B) (r : Part Function C) (o : Part Function D) (f : A → B → C → D → E)
      → ((a : A) (b : B) (c : C) (d : D) → S a → T b → U c → V d → W (f a b c d)) → PartAlways S p → PartAlways T q → PartAlways U r → PartAlways V o → PartAlways W (four p q r o f)
  part_four S T U V W p q r o f go h k l m =
      part_two (Leads V W) V W (three p q r f) o (λ g x. g x) (λ g d n t. n d t) (part_three S T U (Leads V W) p q r f (λ a b c s t u d v. go a b c d s t u v) h k l) m

  -- ---- lists of parts

  pub part_each : {A : Type 0} (S : A → Type 0) (ps : List (Part Function A)) → Every (PartAlways S) ps → PartAlways (Every S) (each ps)
  part_each S [] h = part_leaf (Every S) [] tt
  part_each S (p ∷ ps) h = part_two S (Every S) (Every S) p (each ps) (λ x xs. x ∷ xs) (λ a rest s ss. (s, ss)) h.0 (part_each S ps h.1)

  pub part_held : {A : Type 0} (S : A → Type 0) (p : Option (Part Function A)) → IfAny (PartAlways S) p → PartAlways (IfAny S) (held p)
  part_held S None h = part_leaf (IfAny S) None tt
  part_held S (Some p) h = part_one S (IfAny S) p Some (λ a s. s) h

  pub part_each_named : {A N : Type 0} (S : A → Type 0) (ps : List (N × Part Function A)) → Every (λ p. PartAlways S p.1) ps → PartAlways (Every (λ (p : N × A). S p.1)) (each_named ps)
  part_each_named {N = N} S [] h = part_leaf (Every (λ p. S p.1)) [] tt
  part_each_named {N = N} S (p ∷ ps) h =
      part_two S (Every (λ p. S p.1)) (Every (λ p. S p.1)) p.1 (each_named ps) (λ x xs. (p.0, x) ∷ xs) (λ a rest s ss. (s, ss)) h.0 (part_each_named S ps h.1)

  pub part_each_held : {A : Type 0} (S : A → Type 0) (ps : List (Option (Part Function A))) → Every (IfAny (PartAlways S)) ps → PartAlways (Every (IfAny S)) (each_held ps)
  part_each_held S [] h = part_leaf (Every (IfAny S)) [] tt
  part_each_held S (p ∷ ps) h = part_two (IfAny S) (Every (IfAny S)) (Every (IfAny S)) (held p) (each_held ps) (λ x xs. x ∷ xs) (λ a rest s ss. (s, ss)) (part_held S p h.0) (part_each_held S ps h.1)

  pub part_each_named_held : {A N : Type 0} (S : A → Type 0) (ps : List (N × Option (Part Function A))) → Every (λ p. IfAny (PartAlways S) p.1) ps
      → PartAlways (Every (λ (p : N × Option A). IfAny S p.1)) (each_named_held ps)
  part_each_named_held S [] h = part_leaf (Every (λ p. IfAny S p.1)) [] tt
  part_each_named_held S (p ∷ ps) h =
      part_two (IfAny S) (Every (λ p. IfAny S p.1)) (Every (λ p. IfAny S p.1)) (held p.1) (each_named_held ps) (λ x xs. (p.0, x) ∷ xs) (λ a rest s ss. (s, ss)) (part_held S p.1 h.0) (part_each_named_held S ps h.1)

  -- ---- names, declarations and functions

  pub part_vars : {A : Type 0} (S : A → Type 0) (names : List (List ℕ)) (p : Part Function A) → PartAlways S p → PartAlways S (with_vars names p)
  part_vars S names p h = record { functions = h.functions; means = h.means }

  pub part_undeclared : {A : Type 0} (S : A → Type 0) (p : Part Function A) → PartAlways S p → PartAlways S (without_declared p)
  part_undeclared S p h = record { functions = h.functions; means = h.means }

  pub part_declaration : {A B : Type 0} (S : A → Type 0) (T : B → Type 0) (p : Part Function A) (declared : A → Declared) (f : A → B) → ((a : A) → S a → T (f a)) → PartAlways S p
      → PartAlways T (with_declaration p declared f)
  part_declaration S T p declared f go h = record { functions = h.functions; means = λ first. go (p.means first) (h.means first) }

  pub part_function : (through : IsThrough R) (name : Option (List ℕ)) (params : List (List ℕ)) (body : Part Function (List Statement)) → PartAlways (Every (StatementAlways R)) body
      → PartAlways Whatever (function_of name params body)
  part_function through name params body h = record {
    functions = λ first. (always_in_turn R through (body.means (first + 1)) (h.means (first + 1)), h.functions (first + 1));
    means = λ first. tt;
  }
