-- Parts of a script whose code is valid, put together.
use Rattle.std.proofs.Common.{◌≡◌, ℕ, ◌+◌, ◌≤◌, List, [], ◌∷◌, ◌++◌, length, map, true, false, Option, Some, None, refl, ap, sym, subst, ◌∙◌, slice_get, arith}
use Rattle.std.proofs.lemmas.List.{length-append}
use Rattle.std.proofs.lemmas.Slice.Eq.{bytes_eq-Decides}
use Rattle.njs_tree.specs.Early.{repeats}
use Rattle.njs_code.specs.declared.code.FunctionCode.{FunctionCode}
use Rattle.njs_code.specs.Valid.{function_valid, slots_behind, stands_in}
use Rattle.njs_meaning.specs.Places.{Around, assignable}
use Rattle.njs_meaning.specs.Parts.{Part, leaf, one, two, three, four, each, held, each_named, each_held, each_named_held, with_vars, with_declaration, without_declared}
use Rattle.njs_meaning.specs.Meaning.{Made, declared_as}
use Rattle.njs_simul.specs.EmissionOfStatements.{CodedStatement, slots_of}
use Rattle.njs_simul.specs.Compiled as code
use Rattle.njs_simul.specs.Compiled.{Placed, further_in}
use Rattle.njs_simul.specs.Checks.{StatementChecked}
use Rattle.njs_simul.proofs.Kept.{pushed_before}
use Rattle.njs_simul.proofs.TiedParts.{found_later, mapped_at, map_count}
use Rattle.njs_simul.proofs.ValidExpressions.{All, Perhaps, Called}
use Rattle.njs_simul.proofs.ValidFunctions.{DeclaredIn, function_code_valid}

pub all_append : {A : Type 0} (R : A → Type 0) (xs ys : List A) → All R xs → All R ys → All R (xs ++ ys)
all_append R [] ys h k = k
all_append R (x ∷ xs) ys h k = (h.0, all_append R xs ys h.1 k)

module _ (functions : List FunctionCode) where
  -- these functions have the numbers from `first` on
  abbrev pub KnowsCode : List Placed → ℕ → Around → Type 0
  KnowsCode fs first names = (at : ℕ) (g : Placed) → slice_get fs at ≡ Some g → slice_get functions (first + at) ≡ Some (g names).code

  knows_first : (xs ys : List Placed) (first : ℕ) (names : Around) → KnowsCode (xs ++ ys) first names → KnowsCode xs first names
  knows_first xs ys first names k at g is = k at g (pushed_before xs ys at g is)

  knows_later : (xs ys : List Placed) (first n : ℕ) (names : Around) → length xs ≡ n → KnowsCode (xs ++ ys) first names → KnowsCode ys (first + n) names
  knows_later xs ys first n names count k at g is =
      let e : first + (length xs + at) ≡ first + n + at = omega (arith, count) in
      subst (λ number. slice_get functions number ≡ Some (g names).code) e (k (length xs + at) g (found_later xs ys at g is))

  knows_further : (scopes : Around → Around) (fs : List Placed) (first : ℕ) (names : Around) → KnowsCode (map (λ f around. f (scopes around)) fs) first names → KnowsCode fs first (scopes names)
  knows_further scopes fs first names k at g is = k at (λ around. g (scopes around)) (mapped_at (λ f around. f (scopes around)) fs at g is)

  abbrev pub EachValid : Around → List Placed → Type 0
  EachValid names fs = All (λ g. function_valid functions (g names).code ≡ true) fs

  -- a part: where its functions have their numbers, they and its code are valid
  pub record PartsChecked {B : Type 0} (R : Around → B → Type 0) (q : Part Placed B) : Type 0 where
    pub count : (first : ℕ) → length (q.functions first) ≡ q.size
    pub valid : (first : ℕ) (names : Around) → 1 ≤ length names → KnowsCode (q.functions first) first names → EachValid names (q.functions first)
    pub declares : (first : ℕ) (names : Around) → KnowsCode (q.functions first) first names → All (DeclaredIn functions names) (q.declared first)
    pub means : (first : ℕ) (names : Around) → KnowsCode (q.functions first) first names → R names (q.means first)

  pub checked_leaf : {B : Type 0} (R : Around → B → Type 0) (b : B) → ((names : Around) → R names b) → PartsChecked R (leaf b)
  checked_leaf R b r = record { count = λ first. refl; valid = λ first names some k. tt; declares = λ first names k. tt; means = λ first names k. r names }

  pub checked_one : {B D : Type 0} (R : Around → B → Type 0) (S : Around → D → Type 0) (q : Part Placed B) (g : B → D) → ((names : Around) (b : B) → R names b → S names (g b)) → PartsChecked R q → PartsChecked S (one q g)
  checked_one R S q g go t = record { count = t.count; valid = t.valid; declares = t.declares; means = λ first names k. go names (q.means first) (t.means first names k) }

  pub checked_two : {B D F : Type 0} (R : Around → B → Type 0) (S : Around → D → Type 0) (T : Around → F → Type 0) (q : Part Placed B) (q' : Part Placed D) (g : B → D → F)
      → ((names : Around) (b : B) (d : D) → R names b → S names d → T names (g b d)) → PartsChecked R q → PartsChecked S q' → PartsChecked T (two q q' g)
  checked_two R S T q q' g go t t' = record {
    count = λ first. length-append (q.functions first) (q'.functions (first + q.size)) ∙ ap (λ n. n + length (q'.functions (first + q.size))) (t.count first) ∙ ap (λ n. q.size + n) (t'.count (first + q.size));
    valid = λ first names some k. all_append _ (q.functions first) (q'.functions (first + q.size))
        (t.valid first names some (knows_first (q.functions first) (q'.functions (first + q.size)) first names k))
        (t'.valid (first + q.size) names some (knows_later (q.functions first) (q'.functions (first + q.size)) first q.size names (t.count first) k));
    declares = λ first names k. all_append (DeclaredIn functions names) (q.declared first) (q'.declared (first + q.size))
        (t.declares first names (knows_first (q.functions first) (q'.functions (first + q.size)) first names k))
        (t'.declares (first + q.size) names (knows_later (q.functions first) (q'.functions (first + q.size)) first q.size names (t.count first) k));
    means = λ first names k. go names (q.means first) (q'.means (first + q.size))
        (t.means first names (knows_first (q.functions first) (q'.functions (first + q.size)) first names k))
        (t'.means (first + q.size) names (knows_later (q.functions first) (q'.functions (first + q.size)) first q.size names (t.count first) k));
  }

  -- a function of what is so gives what is so
  abbrev pub Gives : {D F : Type 0} → (Around → D → Type 0) → (Around → F → Type 0) → Around → (D → F) → Type 0
  Gives {D} T U names h = (x : D) → T names x → U names (h x)

  pub checked_three : {B D F H : Type 0} (R : Around → B → Type 0) (S : Around → D → Type 0) (T : Around → F → Type 0) (U : Around → H → Type 0) (q : Part Placed B) (q' : Part Placed D) (q2 : Part Placed F) (g : B → D → F → H)
      → ((names : Around) (b : B) (d : D) (x : F) → R names b → S names d → T names x → U names (g b d x)) → PartsChecked R q → PartsChecked S q' → PartsChecked T q2 → PartsChecked U (three q q' q2 g)
  checked_three R S T U q q' q2 g go t t' t2 =
      checked_two (Gives T U) T U (two q q' g) q2 (λ h x. h x) (λ names h x r s. r x s)
      (checked_two R S (Gives T U) q q' g (λ names b d r s x u. go names b d x r s u) t t') t2

  pub checked_four : {B D F H J : Type 0} (R : Around → B → Type 0) (S : Around → D → Type 0) (T : Around → F → Type 0) (U : Around → H → Type 0) (V : Around → J → Type 0)
      (q : Part Placed B) (q' : Part Placed D) (q2 : Part Placed F) (q3 : Part Placed H) (g : B → D → F → H → J)
      → ((names : Around) (b : B) (d : D) (x : F) (v : H) → R names b → S names d → T names x → U names v → V names (g b d x v))
      → PartsChecked R q → PartsChecked S q' → PartsChecked T q2 → PartsChecked U q3 → PartsChecked V (four q q' q2 q3 g)
  checked_four R S T U V q q' q2 q3 g go t t' t2 t3 =
      checked_two (Gives U V) U V (three q q' q2 g) q3 (λ h x. h x) (λ names h x r s. r x s)
      (checked_three R S T (Gives U V) q q' q2 g (λ names b d x r s u v w. go names b d x v r s u w) t t' t2) t3

  -- ---- lists of parts

  pub checked_each : {B : Type 0} (R : Around → B → Type 0) (qs : List (Part Placed B)) → All (PartsChecked R) qs → PartsChecked (λ names. All (R names)) (each qs)
  checked_each R [] t = checked_leaf (λ names. All (R names)) [] (λ names. tt)
  checked_each R (q ∷ qs) t = checked_two R (λ names. All (R names)) (λ names. All (R names)) q (each qs) (λ x xs. x ∷ xs) (λ names b bs r rs. (r, rs)) t.0 (checked_each R qs t.1)

  pub checked_held : {B : Type 0} (R : Around → B → Type 0) (q : Option (Part Placed B)) → Perhaps (PartsChecked R) q → PartsChecked (λ names. Perhaps (R names)) (held q)
  checked_held R None t = checked_leaf (λ names. Perhaps (R names)) None (λ names. tt)
  checked_held R (Some q) t = checked_one R (λ names. Perhaps (R names)) q Some (λ names b r. r) t

  pub checked_each_named : {B N : Type 0} (R : Around → B → Type 0) (qs : List (N × Part Placed B)) → All (Called (PartsChecked R)) qs → PartsChecked (λ names. All (Called {N = N} (R names))) (each_named qs)
  checked_each_named {N = N} R [] t = checked_leaf (λ names. All (Called {N = N} (R names))) [] (λ names. tt)
  checked_each_named {N = N} R (q ∷ qs) t =
      checked_two R (λ names. All (Called {N = N} (R names))) (λ names. All (Called {N = N} (R names))) q.1 (each_named qs) (λ x xs. (q.0, x) ∷ xs) (λ names b bs r rs. (r, rs)) t.0 (checked_each_named R qs t.1)

  pub checked_each_held : {B : Type 0} (R : Around → B → Type 0) (qs : List (Option (Part Placed B))) → All (Perhaps (PartsChecked R)) qs → PartsChecked (λ names. All (Perhaps (R names))) (each_held qs)
  checked_each_held R [] t = checked_leaf (λ names. All (Perhaps (R names))) [] (λ names. tt)
  checked_each_held R (q ∷ qs) t =
      checked_two (λ names. Perhaps (R names)) (λ names. All (Perhaps (R names))) (λ names. All (Perhaps (R names))) (held q) (each_held qs) (λ x xs. x ∷ xs) (λ names b bs r rs. (r, rs)) (checked_held R q t.0) (checked_each_held R qs t.1)

  pub checked_each_named_held : {B N : Type 0} (R : Around → B → Type 0) (qs : List (N × Option (Part Placed B))) → All (Called (Perhaps (PartsChecked R))) qs → PartsChecked (λ names. All (Called {N = N} (Perhaps (R names)))) (each_named_held qs)
  checked_each_named_held {N = N} R [] t = checked_leaf (λ names. All (Called {N = N} (Perhaps (R names)))) [] (λ names. tt)
  checked_each_named_held {N = N} R (q ∷ qs) t =
      checked_two (λ names. Perhaps (R names)) (λ names. All (Called {N = N} (Perhaps (R names)))) (λ names. All (Called {N = N} (Perhaps (R names)))) (held q.1) (each_named_held qs) (λ x xs. (q.0, x) ∷ xs)
      (λ names b bs r rs. (r, rs)) (checked_held R q.1 t.0) (checked_each_named_held R qs t.1)

  -- ---- names and declarations

  pub checked_vars : {B : Type 0} (R : Around → B → Type 0) (xs : List (List ℕ)) (q : Part Placed B) → PartsChecked R q → PartsChecked R (with_vars xs q)
  checked_vars R xs q t = record { count = t.count; valid = t.valid; declares = t.declares; means = t.means }

  pub checked_undeclared : {B : Type 0} (R : Around → B → Type 0) (q : Part Placed B) → PartsChecked R q → PartsChecked R (without_declared q)
  checked_undeclared R q t = record { count = t.count; valid = t.valid; declares = λ first names k. tt; means = t.means }

  valid_further : (scopes : Around → Around) (names : Around) (fs : List Placed) → EachValid (scopes names) fs → EachValid names (map (λ f around. f (scopes around)) fs)
  valid_further scopes names [] t = tt
  valid_further scopes names (f ∷ fs) t = (t.0, valid_further scopes names fs t.1)

  -- a part that declares no functions of the one around it, in further scopes
  pub checked_further : {B : Type 0} (R S : Around → B → Type 0) (scopes : ℕ → Around → Around) (q : Part Placed B)
      → ((first : ℕ) (names : Around) → R (scopes first names) (q.means first) → S names (q.means first)) → ((first : ℕ) → q.declared first ≡ [])
      → ((first : ℕ) (names : Around) → 1 ≤ length names → 1 ≤ length (scopes first names)) → PartsChecked R q → PartsChecked S (further_in scopes q)
  checked_further R S scopes q go none longer t = record {
    count = λ first. map_count (λ f around. f (scopes first around)) (q.functions first) ∙ t.count first;
    valid = λ first names some k.
        valid_further (scopes first) names (q.functions first) (t.valid first (scopes first names) (longer first names some) (knows_further (scopes first) (q.functions first) first names k));
    declares = λ first names k. subst (All (DeclaredIn functions names)) (sym (none first)) tt;
    means = λ first names k. go first names (t.means first (scopes first names) (knows_further (scopes first) (q.functions first) first names k));
  }

  -- ---- functions

  -- what is made of a function, which stands in these scopes
  abbrev pub MadeChecked : Around → Made → Type 0
  MadeChecked names made = stands_in (slice_get functions made.number) (slots_of names) ≡ true

  -- a function in a part: it declares none of the part around it
  pub record FunctionPartChecked (q : code.Of_function) : Type 0 where
    pub checked : PartsChecked MadeChecked q
    pub none : (first : ℕ) → q.declared first ≡ []

  there_so : (found : Option FunctionCode) (f : FunctionCode) (own : ℕ) (slots : List ℕ) → found ≡ Some f → f.slots ≡ own ∷ slots → stands_in found slots ≡ true
  there_so found f own slots is same =
      ap (λ x. stands_in x slots) is ∙ ap (λ xs. slots_behind xs slots) same ∙ (bytes_eq-Decides slots slots).1 refl

  module _ (name : Option (List ℕ)) (params : List (List ℕ)) (once : repeats params ≡ false) (q : Part Placed (List CodedStatement)) (t : PartsChecked (λ names. All (StatementChecked functions names)) q) where
    -- the scopes around what stands in the function
    abbrev scopes : ℕ → Around → Around
    scopes first around = assignable (code.names_in params q first) ∷ around

    knows_within : (first : ℕ) (names : Around) → KnowsCode ((code.function_of name params q).functions first) first names → KnowsCode (q.functions (first + 1)) (first + 1) (scopes first names)
    knows_within first names k =
        knows_further (scopes first) (q.functions (first + 1)) (first + 1) names
        (knows_later (code.function_in params q first ∷ []) (map (code.in_call params q first) (q.functions (first + 1))) first 1 names refl k)

    function_valids : (first : ℕ) (names : Around) → 1 ≤ length names → KnowsCode ((code.function_of name params q).functions first) first names → EachValid names ((code.function_of name params q).functions first)
    function_valids first names some k =
        let within = knows_within first names k in (
          function_code_valid functions params (q.declared (first + 1)) q.names_arguments q.vars (q.means (first + 1)) names once some
              (t.declares (first + 1) (scopes first names) within) (t.means (first + 1) (scopes first names) within),
          valid_further (scopes first) names (q.functions (first + 1)) (t.valid (first + 1) (scopes first names) (omega arith) within),
        )

    function_count : (first : ℕ) → length ((code.function_of name params q).functions first) ≡ 1 + q.size
    function_count first =
        let e : length (map (code.in_call params q first) (q.functions (first + 1))) ≡ q.size = map_count (code.in_call params q first) (q.functions (first + 1)) ∙ t.count (first + 1) in
        omega (arith, e)

    function_stands : (first : ℕ) (names : Around) → KnowsCode ((code.function_of name params q).functions first) first names → stands_in (slice_get functions first) (slots_of names) ≡ true
    function_stands first names k =
        let e : first + 0 ≡ first = omega arith in
        let f = (code.function_in params q first names).code in
        there_so (slice_get functions first) f (length (assignable (code.names_in params q first))) (slots_of names)
        (subst (λ number. slice_get functions number ≡ Some f) e (k 0 (code.function_in params q first) refl)) refl

    pub function_part_checked : FunctionPartChecked (code.function_of name params q)
    function_part_checked = record {
      checked = record { count = function_count; valid = function_valids; declares = λ first names k. tt; means = function_stands };
      none = λ first. refl;
    }

  -- a declared function
  pub checked_declaration : {B : Type 0} (R : Around → B → Type 0) (q : code.Of_function) (g : Made → B) → ((names : Around) (made : Made) → R names (g made)) → FunctionPartChecked q → PartsChecked R (with_declaration q declared_as g)
  checked_declaration R q g go t =
      let u = t.checked in
      record { count = u.count; valid = u.valid; declares = λ first names k. (u.means first names k, tt); means = λ first names k. go names (q.means first) }
