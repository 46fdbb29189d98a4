-- Parts of a script, and what is known of them before they run: the functions in them, numbered in order of the text, the names
-- that they declare (ECMA-262 5.1 §10.5, §12.2, §13), and whether they name `arguments` (§10.6).
use Rattle.std.specs.Prelude.{ℕ, ◌+◌, List, [], ◌∷◌, ◌++◌, Bool, false, ◌||◌, Option, Some, None}

-- a declared function: its name, its number, and how many parameters it has
pub record Declared : Type 0 where
  pub name : List ℕ
  pub number : ℕ
  pub params : ℕ

-- a part with a meaning A, in which each function is an F; `first` is the number of the first function in it
pub record Part (F A : Type 0) : Type 0 where
  pub size : ℕ
  pub functions : (first : ℕ) → List F
  pub declared : (first : ℕ) → List Declared
  pub vars : List (List ℕ)
  pub names_arguments : Bool
  pub means : (first : ℕ) → A

module _ {F : Type 0} where
  -- a part without parts
  abbrev pub leaf : {A : Type 0} → A → Part F A
  leaf a = record { size = 0; functions = λ first. []; declared = λ first. []; vars = []; names_arguments = false; means = λ first. a }

  -- a part whose meaning is made of that of its one part
  abbrev pub one : {A B : Type 0} → Part F A → (A → B) → Part F B
  one a f = record {
    size = a.size;
    functions = a.functions;
    declared = a.declared;
    vars = a.vars;
    names_arguments = a.names_arguments;
    means = λ first. f (a.means first);
  }

  -- of those of its two parts, in order of the text
  abbrev pub two : {A B C : Type 0} → Part F A → Part F B → (A → B → C) → Part F C
  two a b f = record {
    size = a.size + b.size;
    functions = λ first. a.functions first ++ b.functions (first + a.size);
    declared = λ first. a.declared first ++ b.declared (first + a.size);
    vars = a.vars ++ b.vars;
    names_arguments = a.names_arguments || b.names_arguments;
    means = λ first. f (a.means first) (b.means (first + a.size));
  }

  abbrev pub three : {A B C D : Type 0} → Part F A → Part F B → Part F C → (A → B → C → D) → Part F D
  three a b c f = two (two a b f) c (λ g x. g x)

  abbrev pub four : {A B C D E : Type 0} → Part F A → Part F B → Part F C → Part F D → (A → B → C → D → E) → Part F E
  four a b c d f = two (three a b c f) d (λ g x. g x)

  -- of those of a list of parts
  abbrev pub each : {A : Type 0} → List (Part F A) → Part F (List A)
  each [] = leaf []
  each (a ∷ rest) = two a (each rest) (λ x xs. x ∷ xs)

  -- of a part that may be missing
  abbrev pub held : {A : Type 0} → Option (Part F A) → Part F (Option A)
  held None = leaf None
  held (Some a) = one a Some

  -- of parts with names
  abbrev pub each_named : {A N : Type 0} → List (N × Part F A) → Part F (List (N × A))
  each_named [] = leaf []
  each_named (p ∷ ps) = two p.1 (each_named ps) (λ x xs. (p.0, x) ∷ xs)

  -- of parts that may be missing, one after the other, and with names
  abbrev pub each_held : {A : Type 0} → List (Option (Part F A)) → Part F (List (Option A))
  each_held [] = leaf []
  each_held (a ∷ rest) = two (held a) (each_held rest) (λ x xs. x ∷ xs)

  abbrev pub each_named_held : {A N : Type 0} → List (N × Option (Part F A)) → Part F (List (N × Option A))
  each_named_held [] = leaf []
  each_named_held (p ∷ ps) = two (held p.1) (each_named_held ps) (λ x xs. (p.0, x) ∷ xs)

  -- a part that declares these names before those in it
  abbrev pub with_vars : {A : Type 0} → List (List ℕ) → Part F A → Part F A
  with_vars names a = record {
    size = a.size;
    functions = a.functions;
    declared = a.declared;
    vars = names ++ a.vars;
    names_arguments = a.names_arguments;
    means = a.means;
  }

  -- the declaration of a function
  abbrev pub with_declaration : {A B : Type 0} → Part F A → (A → Declared) → (A → B) → Part F B
  with_declaration a declared f = record {
    size = a.size;
    functions = a.functions;
    declared = λ first. declared (a.means first) ∷ [];
    vars = a.vars;
    names_arguments = a.names_arguments;
    means = λ first. f (a.means first);
  }

  -- a part whose declared functions are none of the function around it
  abbrev pub without_declared : {A : Type 0} → Part F A → Part F A
  without_declared a = record {
    size = a.size;
    functions = a.functions;
    declared = λ first. [];
    vars = a.vars;
    names_arguments = a.names_arguments;
    means = a.means;
  }
