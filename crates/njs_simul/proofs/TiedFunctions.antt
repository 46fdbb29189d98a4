-- Functions and their code, by their bodies.
use Rattle.std.proofs.Common.{◌≡◌, ℕ, ◌+◌, List, [], ◌∷◌, length, map, Bool, Option, refl, ap, sym, subst, ◌∙◌, arith}
use Rattle.njs_meaning.specs.Places.{Around, assignable}
use Rattle.njs_meaning.specs.Completions.{Statement, in_turn}
use Rattle.njs_meaning.specs.Functions.{Function, scope_names}
use Rattle.njs_meaning.specs.Parts.{Declared, Part, with_declaration}
use Rattle.njs_meaning.specs.Meaning as means
use Rattle.njs_meaning.specs.Meaning.{Made, declared_as}
use Rattle.njs_simul.specs.EmissionOfStatements.{CodedStatement, function_code}
use Rattle.njs_simul.specs.Compiled as code
use Rattle.njs_simul.specs.Compiled.{Placed}
use Rattle.njs_simul.specs.Fits.{Names}
use Rattle.njs_simul.specs.Laws.{StatementTied}
use Rattle.njs_simul.proofs.FineFunctions.{EachStandsIn}
use Rattle.njs_simul.proofs.Pairs.{Each}
use Rattle.njs_simul.proofs.Statements.{StatementsTied, in_turn_tied}
use Rattle.njs_simul.proofs.Bodies.{function_runs}
use Rattle.njs_simul.proofs.TiedParts.{Knows, knows_later, knows_further, map_count, functions_further, FunctionTied, EachFunction, PartsTied}

-- what is made of a function, which stands in these scopes
abbrev pub MadeTied : Names → ℕ → Around → Made → Made → Type 0
MadeTied env unit names m c = (m ≡ c) × (env unit m.number ≡ names)

-- a function in a part: it declares none of the part around it
pub record FunctionPartTied (env : Names) (unit : ℕ) (p : means.Of_function) (q : code.Of_function) : Type 0 where
  pub tied : PartsTied env unit (MadeTied env unit) p q
  pub same : (first : ℕ) → p.means first ≡ q.means first
  pub none : (first : ℕ) → q.declared first ≡ []

module _ (env : Names) (unit : ℕ) where
  pub statements_of : (names : Around) (ms : List Statement) (cs : List CodedStatement) → Each (StatementTied env unit names) ms cs → StatementsTied env unit names ms cs
  statements_of names [] [] t = tt
  statements_of names (m ∷ ms) (c ∷ cs) t = (t.0, statements_of names ms cs t.1)
  statements_of names [] (c ∷ cs) t = absurd t
  statements_of names (m ∷ ms) [] t = absurd t

  abbrev Within : Around → List (List ℕ) → List Declared → Bool → List (List ℕ) → Around
  Within names params ds b vs = assignable (scope_names params ds b vs) ∷ names

  abbrev function_as : Option (List ℕ) → List (List ℕ) → List Declared → Bool → List (List ℕ) → List Statement → Function
  function_as name params ds b vs ms = record { name = name; params = params; declared = ds; takes_arguments = b; vars = vs; body = in_turn ms }

  function_with : (name : Option (List ℕ)) (params : List (List ℕ)) (ds : List Declared) (b : Bool) (vs : List (List ℕ)) (ms : List Statement) (cs : List CodedStatement) (names : Around)
      → EachStandsIn env unit (Within names params ds b vs) ds → StatementsTied env unit (Within names params ds b vs) ms cs
      → FunctionTied env unit names (function_as name params ds b vs ms) (function_code (length params) (scope_names params ds b vs) ds b cs names)
  function_with name params ds b vs ms cs names all t =
      let inner = Within names params ds b vs in
      let body = in_turn_tied env unit inner ms cs t in
      record {
        fine = record { declared = all; body = body.fine };
        means = record { params = refl; slots = refl; runs = function_runs env unit inner (function_as name params ds b vs ms) ds b cs refl refl all body.fine body.runs };
      }

  -- the same names on both sides
  function_so : (name : Option (List ℕ)) (params : List (List ℕ)) (ds ds' : List Declared) (b b' : Bool) (vs vs' : List (List ℕ)) (ms : List Statement) (cs : List CodedStatement) (names : Around)
      → ds ≡ ds' → b ≡ b' → vs ≡ vs' → EachStandsIn env unit (Within names params ds' b' vs') ds' → StatementsTied env unit (Within names params ds' b' vs') ms cs
      → FunctionTied env unit names (function_as name params ds b vs ms) (function_code (length params) (scope_names params ds' b' vs') ds' b' cs names)
  function_so name params ds ds' b b' vs vs' ms cs names declared named vars all t =
      let coded = function_code (length params) (scope_names params ds' b' vs') ds' b' cs names in
      subst (λ ds. FunctionTied env unit names (function_as name params ds b vs ms) coded) (sym declared)
      (subst (λ b. FunctionTied env unit names (function_as name params ds' b vs ms) coded) (sym named)
      (subst (λ vs. FunctionTied env unit names (function_as name params ds' b' vs ms) coded) (sym vars)
      (function_with name params ds' b' vs' ms cs names all t)))

  module _ (name : Option (List ℕ)) (params : List (List ℕ)) (p : Part Function (List Statement)) (q : Part Placed (List CodedStatement)) (t : PartsTied env unit (λ names. Each (StatementTied env unit names)) p q) where
    -- the scopes around what stands in the function
    abbrev scopes : ℕ → Around → Around
    scopes first around = assignable (code.names_in params q first) ∷ around

    knows_within : (first : ℕ) (names : Around) → Knows env unit ((code.function_of name params q).functions first) first names → Knows env unit (q.functions (first + 1)) (first + 1) (scopes first names)
    knows_within first names k =
        knows_further env unit (scopes first) (q.functions (first + 1)) (first + 1) names
        (knows_later env unit (code.function_in params q first ∷ []) (map (code.in_call params q first) (q.functions (first + 1))) first 1 names refl k)

    function_functions : (first : ℕ) (names : Around) → Knows env unit ((code.function_of name params q).functions first) first names
        → EachFunction env unit names ((means.function_of name params p).functions first) ((code.function_of name params q).functions first)
    function_functions first names k =
        let within = knows_within first names k in (
          function_so name params (p.declared (first + 1)) (q.declared (first + 1)) p.names_arguments q.names_arguments p.vars q.vars (p.means (first + 1)) (q.means (first + 1)) names
              (t.declared (first + 1)) t.named t.vars (t.declares (first + 1) (scopes first names) within)
              (statements_of (scopes first names) (p.means (first + 1)) (q.means (first + 1)) (t.means (first + 1) (scopes first names) within)),
          functions_further env unit (scopes first) names (p.functions (first + 1)) (q.functions (first + 1)) (t.functions (first + 1) (scopes first names) within),
        )

    function_count : (first : ℕ) → length ((code.function_of name params q).functions first) ≡ 1 + q.size
    function_count first =
        let e : length (map (code.in_call params q first) (q.functions (first + 1))) ≡ q.size = map_count (code.in_call params q first) (q.functions (first + 1)) ∙ t.count (first + 1) in
        omega (arith, e)

    function_stands : (first : ℕ) (names : Around) → Knows env unit ((code.function_of name params q).functions first) first names → env unit first ≡ names
    function_stands first names k =
        let e : first + 0 ≡ first = omega arith in
        subst (λ number. env unit number ≡ names) e (k 0 (code.function_in params q first) refl)

    pub function_part_tied : FunctionPartTied env unit (means.function_of name params p) (code.function_of name params q)
    function_part_tied = record {
      tied = record {
        size = ap (λ n. 1 + n) t.size;
        count = function_count;
        functions = function_functions;
        declared = λ first. refl;
        declares = λ first names k. tt;
        vars = refl;
        named = refl;
        means = λ first names k. (refl, function_stands first names k);
      };
      same = λ first. refl;
      none = λ first. refl;
    }

  -- a declared function
  pub tied_declaration : {A B : Type 0} (R : Around → A → B → Type 0) (p : means.Of_function) (q : code.Of_function) (f : Made → A) (g : Made → B)
      → ((names : Around) (m c : Made) → R names (f m) (g c)) → FunctionPartTied env unit p q → PartsTied env unit R (with_declaration p declared_as f) (with_declaration q declared_as g)
  tied_declaration R p q f g go t =
      let u = t.tied in
      record {
        size = u.size;
        count = u.count;
        functions = u.functions;
        declared = λ first. ap (λ made. declared_as made ∷ []) (t.same first);
        declares = λ first names k. (ap (λ made. env unit made.number) (sym (t.same first)) ∙ (u.means first names k).1, tt);
        vars = u.vars;
        named = u.named;
        means = λ first names k. go names (p.means first) (q.means first);
      }
