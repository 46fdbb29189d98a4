-- How functions are walked over, and parts in scopes of their own.
use Rattle.std.proofs.Common.{◌≡◌, ℕ, ◌+◌, List, [], ◌∷◌, ◌++◌, map, length, Bool, true, false, ◌||◌, if◌then◌else◌, Option, None, Some, codes, bytes_eq, refl, sym, ap, subst, arith, rules, ◌∙◌}
use Rattle.std.specs.Option.{option_map}
use Rattle.std.proofs.lemmas.List.{append-nil, append_assoc, length-append, length-map}
use Rattle.njs_tree.specs.declared.tree.Expr.{Expr, the_lemmas}
use Rattle.njs_tree.specs.declared.tree.Stmt.{Stmt}
use Rattle.njs_tree.specs.declared.tree.FunctionTree.{FunctionTree, out-FunctionTree}
use Rattle.njs_code.specs.declared.code.FunctionCode.{FunctionCode}
use Rattle.njs_meaning.specs.declared.place.Place.{Place}
use Rattle.njs_meaning.specs.Functions.{scope_names, each_once, arguments_name}
use Rattle.njs_meaning.specs.Meaning.{declared_as}
use Rattle.njs_meaning.specs.Parts.{Declared, Part, leaf, one, three, held, with_vars}
use Rattle.njs_meaning.specs.Places.{Around, Bindings, assignable, place_in}
use Rattle.njs_simul.specs.Emission as emit
use Rattle.njs_simul.specs.EmissionOfStatements as step
use Rattle.njs_simul.specs.EmissionOfStatements.{CodedFunction, CodedStatement, slots_of, at_start}
use Rattle.njs_simul.specs.Counts.{operations_in}
use Rattle.njs_simul.specs.Sizes.{function_size}
use Rattle.njs_simul.proofs.Sizes.{sizes_are_true}
use Rattle.njs_simul.specs.Compiled as compiled
use Rattle.njs_simul.specs.Compiled.{Placed, Of_function, expression, statement, function_of, function_expression, further_in, in_call, names_in, function_in}
use Rattle.njs_scope.specs.Uses as uses
use Rattle.njs_scope.specs.Uses.{Uses, Of_part}
use Rattle.njs_gen_expr.specs.declared.fault.Fault.{Fault}
use Rattle.njs_gen_expr.specs.declared.fault.Fault.TheVariants.{NoMemory, TooLong}
use Rattle.njs_gen_expr.specs.Trees as code
use Rattle.njs_gen_stmt.specs.declared.function.Declaration.{Declaration}
use Rattle.njs_gen_stmt.specs.declared.walk.Walk.{Walk}
use Rattle.njs_gen_stmt.specs.declared.walk.Begun.{Begun}
use Rattle.njs_gen_stmt.specs.Functions.{told_all}
use Rattle.njs_gen_stmt.specs.Statements.{in_turn, in_turn_uses, declared_in, declared_uses, caught, caught_uses, last, last_uses}
use Rattle.njs_gen_stmt.specs.Walked.{Found, found, Reached, Made, IsUnbroken, IsInside, Alike, Walked, Remembers, unwritten, is_crowded, any_crowded, code_in, coded, variables, variables_uses, declaration_part, declaration_uses}
use Rattle.njs_gen_stmt.proofs.Walks.{retold, walked_leaf, walked_one, walked_two, walked_three}

or_none : (b : Bool) → b ≡ (b || false)
or_none true = refl
or_none false = refl

map_map : {A B C : Type 0} (f : B → C) (g : A → B) (xs : List A) → map f (map g xs) ≡ map (λ x. f (g x)) xs
map_map f g [] = refl
map_map f g (x ∷ xs) = ap (λ ys. f (g x) ∷ ys) (map_map f g xs)

-- ---- functions by their parts

pub coded_function : (f : FunctionTree) → code.function f ≡ function_of (out-FunctionTree f).name (out-FunctionTree f).params (in_turn (out-FunctionTree f).body)
unfolding expression statement code.function code.branch code.first code.head
coded_function f = search (rules, the_lemmas)

pub used_function : (f : FunctionTree) → uses.function f ≡ uses.function_of (out-FunctionTree f).name (out-FunctionTree f).params (in_turn_uses (out-FunctionTree f).body)
unfolding uses.expression uses.statement uses.function uses.branch uses.first uses.head
used_function f = search (rules, the_lemmas)

-- names of a scope, by what a body declares in the plan and in the code
same_names : (params : List (List ℕ)) (B : Part Placed (List CodedStatement)) (U : Of_part) (first start : ℕ) → Alike B U
    → assignable (scope_names params (U.declared start) U.names_arguments U.vars) ≡ assignable (scope_names params (B.declared first) B.names_arguments B.vars)
same_names params B U first start a =
    let names : List (List ℕ) → Bool → List (List ℕ) → Bindings = λ declared takes vars. assignable (each_once [] (params ++ declared ++ (if takes then arguments_name ∷ [] else []) ++ vars)) in
    ap (λ declared. names declared U.names_arguments U.vars) (a.declares first start)
    ∙ ap (λ takes. names (map (λ (d : Declared). d.name) (B.declared first)) takes U.vars) a.mentions
    ∙ ap (λ vars. names (map (λ (d : Declared). d.name) (B.declared first)) B.names_arguments vars) a.vars

-- ---- the beginning and the end of a function

abbrev pub Begins : List ℕ → Walk → Walk → Begun → Type 0
Begins around old new begun =
    (f : Found) (own : Bindings) → Reached old (record f { scopes = own ∷ f.scopes })
    → Reached new (record f { functions = f.functions ++ unwritten ∷ []; declared = []; takes_arguments = false }) × Remembers begun f own new.fault

abbrev pub Ends : FunctionTree → Begun → Walk → Walk → Type 0
Ends f begun old new =
    (b : Found) (own : Bindings) (around : Around) (start : ℕ) (nested : List FunctionCode) (ds : List Declared) (takes : Bool) (scopes : List Bindings) (places : List Place)
    → let body = (out-FunctionTree f).body in
    Remembers begun b own old.fault → IsInside around → (IsUnbroken old.fault → begun.slots ≡ slots_of (own ∷ around)) → length nested ≡ (in_turn body).size
    → b.places ≡ ((in_turn_uses body).means start).places (own ∷ around) ++ places
    → Reached old (found (b.functions ++ (unwritten ∷ nested)) ds takes scopes places)
    → Reached new (found (b.functions ++ (code_in f (length b.functions) ds takes (own ∷ around) ∷ nested)) b.declared b.takes_arguments scopes places)

module _ (f : FunctionTree) (around : List ℕ) where
  abbrev named_part : Of_function
  named_part = function_of (out-FunctionTree f).name (out-FunctionTree f).params (in_turn (out-FunctionTree f).body)

  abbrev used_part : Of_part
  used_part = one (uses.function_of (out-FunctionTree f).name (out-FunctionTree f).params (in_turn_uses (out-FunctionTree f).body)) uses.declared_function

  inner_walked : (b : Begun) (w0 w1 w2 w3 : Walk) → (IsUnbroken w1.fault → IsUnbroken w0.fault) → Begins around w0 w1 b → (IsUnbroken w1.fault → b.slots ≡ length b.names.now ∷ around)
      → Walked (in_turn (out-FunctionTree f).body) (in_turn_uses (out-FunctionTree f).body) b.slots w1 w2 → (IsUnbroken w3.fault → IsUnbroken w2.fault) → Ends f b w2 w3
      → Walked named_part used_part around w0 w3
  inner_walked b w0 w1 w2 w3 stays1 begins slots t stays3 ends =
      let tree = out-FunctionTree f in
      let B = in_turn tree.body in
      let U = in_turn_uses tree.body in record {
        alike = record {
          count = λ first.
              let e : length (map (in_call tree.params B first) (B.functions (first + 1))) ≡ B.size = length-map (B.functions (first + 1)) (in_call tree.params B first) ∙ t.alike.count (first + 1) in
              omega (arith, e);
          declares = λ first start. refl;
          vars = refl;
          mentions = refl;
        };
        stays = λ g. stays1 (t.stays (stays3 g));
        reaches = λ names first start g inside known count h.
            let own = assignable (scope_names tree.params (U.declared (start + 1)) U.names_arguments U.vars) in
            let is = same_names tree.params B U (first + 1) (start + 1) t.alike in
            let us = (U.means (start + 1)).scopes (own ∷ names) in
            let up = (U.means (start + 1)).places (own ∷ names) in
            let g0 : Found = record g { scopes = us ++ g.scopes; places = up ++ g.places } in
            let told = begins g0 own h in
            let g1 : Found = found (g.functions ++ unwritten ∷ []) [] false g.scopes g.places in
            let known1 : IsUnbroken w1.fault → b.slots ≡ slots_of (own ∷ names) = λ going.
            slots going ∙ ap (λ (ns : Bindings). length ns ∷ around) told.1.0 ∙ ap (λ (ks : List ℕ). length own ∷ ks) (known (stays1 going)) in
            let made : length (g.functions ++ unwritten ∷ []) ≡ length g.functions + 1 = length-append g.functions (unwritten ∷ []) in
            let count1 : first + 1 ≡ length (g.functions ++ unwritten ∷ []) = ap (λ n. n + 1) count ∙ sym made in
            let h2 = t.reaches (own ∷ names) (first + 1) (start + 1) g1 (own, names, refl) known1 count1 told.0 in
            let nested = coded B (first + 1) (own ∷ names) in
            let ds = B.declared (first + 1) in
            let h2' = retold w2 ((g.functions ++ unwritten ∷ []) ++ nested) (g.functions ++ (unwritten ∷ nested)) ds ds B.names_arguments B.names_arguments g.scopes g.places
            (append_assoc g.functions (unwritten ∷ []) nested) refl refl h2 in
            let size : length nested ≡ B.size = length-map (B.functions (first + 1)) (λ (p : Placed). (p (own ∷ names)).code) ∙ t.alike.count (first + 1) in
            let remembers : Remembers b g0 own w2.fault = (told.1.0, told.1.1, λ (going : IsUnbroken w2.fault). told.1.2 (t.stays going)) in
            let h3 = ends g0 own names (start + 1) nested ds B.names_arguments g.scopes g.places remembers inside (λ going. known1 (t.stays going)) size refl h2' in
            let whole : Bindings → ℕ → List FunctionCode → List FunctionCode = λ ns n fs. g.functions ++ (code_in f n ds B.names_arguments (ns ∷ names) ∷ fs) in
            let same : whole own (length g.functions) nested ≡ g.functions ++ coded named_part first names =
            ap (λ ns. whole ns (length g.functions) (coded B (first + 1) (ns ∷ names))) is
            ∙ ap (λ n. whole (assignable (names_in tree.params B first)) n (coded B (first + 1) (assignable (names_in tree.params B first) ∷ names))) (sym count)
            ∙ ap (λ fs. whole (assignable (names_in tree.params B first)) first fs) (sym (map_map (λ (p : Placed). (p names).code) (in_call tree.params B first) (B.functions (first + 1)))) in
            retold w3 (whole own (length g.functions) nested) (g.functions ++ coded named_part first names) g.declared (g.declared ++ []) g.takes_arguments (g.takes_arguments || false) g.scopes g.places
            same (sym (append-nil g.declared)) (or_none g.takes_arguments) h3;
      }

  pub function_walked : (b : Begun) (w0 w1 w2 w3 : Walk) → (IsUnbroken w1.fault → IsUnbroken w0.fault) → Begins around w0 w1 b → (IsUnbroken w1.fault → b.slots ≡ length b.names.now ∷ around)
      → Walked (in_turn (out-FunctionTree f).body) (in_turn_uses (out-FunctionTree f).body) b.slots w1 w2 → (IsUnbroken w3.fault → IsUnbroken w2.fault) → Ends f b w2 w3
      → Walked (code.function f) (one (uses.function f) uses.declared_function) around w0 w3
  function_walked b w0 w1 w2 w3 stays1 begins slots t stays3 ends =
      subst (λ (x : Of_function). Walked x (one (uses.function f) uses.declared_function) around w0 w3) (sym (coded_function f))
      (subst (λ (x : uses.Of_function). Walked named_part (one x uses.declared_function) around w0 w3) (sym (used_function f)) (inner_walked b w0 w1 w2 w3 stays1 begins slots t stays3 ends))

-- ---- a part in a scope of its own

abbrev pub Passes : Walk → Walk → Type 0
Passes old new = (f : Found) (names : Bindings) → Reached old (record f { scopes = names ∷ f.scopes }) → Reached new f

module _ {A B : Type 0} (C : Part Placed A) (U : Of_part) (own : Bindings) (around further : List ℕ) where
  pub scoped_walked : (g : A → B) (w0 w1 w2 : Walk) → (IsUnbroken w1.fault → IsUnbroken w0.fault) → Passes w0 w1 → (IsUnbroken w1.fault → further ≡ length own ∷ around) → Walked C U further w1 w2
      → Walked (one (further_in (λ first names. own ∷ names) C) g) (one U (uses.in_scope own)) around w0 w2
  scoped_walked g w0 w1 w2 stays1 passes slots t = record {
    alike = record {
      count = λ first. length-map (C.functions first) (λ (p : Placed) names. p (own ∷ names)) ∙ t.alike.count first;
      declares = t.alike.declares;
      vars = t.alike.vars;
      mentions = t.alike.mentions;
    };
    stays = λ going. stays1 (t.stays going);
    reaches = λ names first start f inside known count h.
        let us = (U.means start).scopes (own ∷ names) in
        let up = (U.means start).places (own ∷ names) in
        let f0 : Found = record f { scopes = us ++ f.scopes; places = up ++ f.places } in
        let h1 = passes f0 own h in
        let known1 : IsUnbroken w1.fault → further ≡ slots_of (own ∷ names) = λ going. slots going ∙ ap (λ (ks : List ℕ). length own ∷ ks) (known (stays1 going)) in
        let h2 = t.reaches (own ∷ names) first start f (own, names, refl) known1 count h1 in
        retold w2 (f.functions ++ coded C first (own ∷ names)) (f.functions ++ coded (one (further_in (λ first names. own ∷ names) C) g) first names)
        (f.declared ++ C.declared first) (f.declared ++ C.declared first) (f.takes_arguments || C.names_arguments) (f.takes_arguments || C.names_arguments) f.scopes f.places
        (ap (λ fs. f.functions ++ fs) (sym (map_map (λ (p : Placed). (p names).code) (λ (p : Placed) names. p (own ∷ names)) (C.functions first)))) refl refl h2;
  }

-- ---- names

pub name_walked : (text : List ℕ) (around : List ℕ) (w0 w1 : Walk) → (IsUnbroken w1.fault → IsUnbroken w0.fault) → ((f : Found) (place : Place) → Reached w0 (record f { places = place ∷ f.places }) → Reached w1 f)
    → Walked (with_vars (text ∷ []) (leaf (compiled.bare_name text))) (with_vars (text ∷ []) (leaf (uses.use_of text))) around w0 w1
name_walked text around w0 w1 stays passed = record {
  alike = record { count = λ first. refl; declares = λ first start. refl; vars = refl; mentions = refl };
  stays = stays;
  reaches = λ names first start f inside known count h.
      retold w1 f.functions (f.functions ++ []) f.declared (f.declared ++ []) f.takes_arguments (f.takes_arguments || false) f.scopes f.places
      (sym (append-nil f.functions)) (sym (append-nil f.declared)) (or_none f.takes_arguments) (passed f (place_in text names) h);
}

-- ---- what a `var` declares

variables_same : {A B : Type 0} (g : Option Expr → A) (k : Option Expr → B) (list : List (List ℕ × Option Expr)) → map (λ (v : List ℕ × A). v.0) (map (λ v. (v.0, g v.1)) list) ≡ map (λ (v : List ℕ × B). v.0) (map (λ v. (v.0, k v.1)) list)
variables_same g k [] = refl
variables_same g k (v ∷ vs) = ap (λ ns. v.0 ∷ ns) (variables_same g k vs)

pub variables_walked : (list : List (List ℕ × Option Expr)) (around : List ℕ) (w0 w1 : Walk) → Walked (declared_in list) (declared_uses list) around w0 w1 → Walked (variables list) (variables_uses list) around w0 w1
variables_walked list around w0 w1 t =
    let ns = map (λ (v : List ℕ × Option Of_part). v.0) (map (λ (v : List ℕ × Option Expr). (v.0, option_map uses.expression v.1)) list) in
    record {
      alike = record {
        count = t.alike.count;
        declares = t.alike.declares;
        vars = ap (λ vs. ns ++ vs) t.alike.vars ∙ ap (λ ms. ms ++ (declared_in list).vars) (variables_same (option_map uses.expression) (option_map code.expression) list);
        mentions = t.alike.mentions;
      };
      stays = t.stays;
      reaches = t.reaches;
    }

pub undeclared_walked : (x : List ℕ × Option Expr) → x.1 ≡ None → (xs : List (List ℕ × Option Expr)) (around : List ℕ) (w end : Walk) → Walked (declared_in xs) (declared_uses xs) around w end
    → Walked (declared_in (x ∷ xs)) (declared_uses (x ∷ xs)) around w end
undeclared_walked x none xs around w end t =
    let told : Walked (declared_in ((x.0, None) ∷ xs)) (declared_uses ((x.0, None) ∷ xs)) around w end = record {
      alike = record {
        count = λ first. let e = t.alike.count (first + 0) in omega (arith, e);
        declares = λ first start. t.alike.declares (first + 0) start;
        vars = t.alike.vars;
        mentions = t.alike.mentions;
      };
      stays = t.stays;
      reaches = λ names first start f inside known count h. t.reaches names (first + 0) start f inside known (omega (arith, count)) h;
    } in
    subst (λ o. Walked (declared_in ((x.0, o) ∷ xs)) (declared_uses ((x.0, o) ∷ xs)) around w end) (sym none) told

pub variable_walked : (name : List ℕ) (e : Expr) (around : List ℕ) (w w1 w2 : Walk) → (IsUnbroken w1.fault → IsUnbroken w.fault)
    → ((f : Found) (place : Place) → Reached w (record f { places = place ∷ f.places }) → Reached w1 f) → Walked (code.expression e) (uses.expression e) around w1 w2
    → Walked (code.expression e) (one (uses.expression e) (λ u. uses.both (uses.use_of name) u)) around w w2
variable_walked name e around w w1 w2 stays passed t = record {
  alike = record { count = t.alike.count; declares = t.alike.declares; vars = t.alike.vars; mentions = t.alike.mentions };
  stays = λ g. stays (t.stays g);
  reaches = λ names first start f inside known count h.
      let u = (uses.expression e).means start in
      t.reaches names first start f inside (λ g. known (stays g)) count (passed (record f { scopes = u.scopes names ++ f.scopes; places = u.places names ++ f.places }) (place_in name names) h);
}

pub declared_walked : (x : List ℕ × Option Expr) (e : Expr) → x.1 ≡ Some e → (xs : List (List ℕ × Option Expr)) (around : List ℕ) (w w2 end : Walk)
    → Walked (code.expression e) (one (uses.expression e) (λ u. uses.both (uses.use_of x.0) u)) around w w2 → Walked (declared_in xs) (declared_uses xs) around w2 end
    → Walked (declared_in (x ∷ xs)) (declared_uses (x ∷ xs)) around w end
declared_walked x e some xs around w w2 end t later =
    let E = code.expression e in
    let U = one (uses.expression e) (λ u. uses.both (uses.use_of x.0) u) in
    let named : Walked (held (Some E)) U around w w2 = record {
      alike = record { count = t.alike.count; declares = t.alike.declares; vars = t.alike.vars; mentions = t.alike.mentions };
      stays = t.stays;
      reaches = t.reaches;
    } in
    let told : Walked (declared_in ((x.0, Some e) ∷ xs)) (declared_uses ((x.0, Some e) ∷ xs)) around w end =
    walked_two (held (Some E)) (declared_in xs) U (declared_uses xs) (λ v vs. (x.0, v) ∷ vs) around w w2 end named later in
    subst (λ o. Walked (declared_in ((x.0, o) ∷ xs)) (declared_uses ((x.0, o) ∷ xs)) around w end) (sym some) told

-- ---- functions as declarations and as expressions

module _ (name : Option (List ℕ)) (params : List (List ℕ)) (B : Part Placed (List CodedStatement)) (UB : Of_part) (around : List ℕ) where
  declared_part_walked : (w0 w1 w2 : Walk) → (IsUnbroken w1.fault → IsUnbroken w0.fault)
      → ((g : Found) → Reached w0 g → Reached w1 (record g { declared = g.declared ++ declared_as (record { number = length g.functions; name = name; params = length params }) ∷ [] }))
      → Walked (function_of name params B) (one (uses.function_of name params UB) uses.declared_function) around w1 w2
      → Walked (declaration_part (function_of name params B)) (declaration_uses (uses.function_of name params UB)) around w0 w2
  declared_part_walked w0 w1 w2 stays declared t = record {
    alike = record { count = t.alike.count; declares = λ first start. refl; vars = t.alike.vars; mentions = t.alike.mentions };
    stays = λ g. stays (t.stays g);
    reaches = λ names first start g inside known count h.
        let U = one (uses.function_of name params UB) uses.declared_function in
        let us = (U.means start).scopes names in
        let up = (U.means start).places names in
        let d : ℕ → Declared = λ n. declared_as (record { number = n; name = name; params = length params }) in
        let h1 = declared (record g { scopes = us ++ g.scopes; places = up ++ g.places }) h in
        let h2 = t.reaches names first start (record g { declared = g.declared ++ d (length g.functions) ∷ [] }) inside (λ x. known (stays x)) count h1 in
        let fs = coded (function_of name params B) first names in
        retold w2 (g.functions ++ fs) (g.functions ++ fs) ((g.declared ++ d (length g.functions) ∷ []) ++ []) (g.declared ++ d first ∷ []) (g.takes_arguments || false) (g.takes_arguments || false) g.scopes g.places
        refl (append-nil (g.declared ++ d (length g.functions) ∷ []) ∙ ap (λ n. g.declared ++ d n ∷ []) (sym count)) refl h2;
  }

pub declaration_walked : (f : FunctionTree) (around : List ℕ) (w0 w1 w2 : Walk) → (IsUnbroken w1.fault → IsUnbroken w0.fault)
    → ((g : Found) → let tree = out-FunctionTree f in Reached w0 g → Reached w1 (record g { declared = g.declared ++ declared_as (record { number = length g.functions; name = tree.name; params = length tree.params }) ∷ [] }))
    → Walked (code.function f) (one (uses.function f) uses.declared_function) around w1 w2 → Walked (declaration_part (code.function f)) (declaration_uses (uses.function f)) around w0 w2
declaration_walked f around w0 w1 w2 stays declared t =
    let tree = out-FunctionTree f in
    let t1 = subst (λ (x : Of_function). Walked x (one (uses.function f) uses.declared_function) around w1 w2) (coded_function f) t in
    let t2 = subst (λ (x : uses.Of_function). Walked (function_of tree.name tree.params (in_turn tree.body)) (one x uses.declared_function) around w1 w2) (used_function f) t1 in
    let told = declared_part_walked tree.name tree.params (in_turn tree.body) (in_turn_uses tree.body) around w0 w1 w2 stays declared t2 in
    subst (λ (x : Of_function). Walked (declaration_part x) (declaration_uses (uses.function f)) around w0 w2) (sym (coded_function f))
    (subst (λ (x : uses.Of_function). Walked (declaration_part (function_of tree.name tree.params (in_turn tree.body))) (declaration_uses x) around w0 w2) (sym (used_function f)) told)

module _ (params : List (List ℕ)) (B : Part Placed (List CodedStatement)) (UB : Of_part) (around : List ℕ) where
  unnamed_part_walked : (w0 w1 : Walk) → Walked (function_of None params B) (one (uses.function_of None params UB) uses.declared_function) around w0 w1
      → Walked (function_expression (function_of None params B)) (one (uses.function_of None params UB) uses.function_expression) around w0 w1
  unnamed_part_walked w0 w1 t =
      let C = function_of None params B in record {
        alike = record {
          count = λ first. length-map (C.functions first) (λ (p : Placed) names. p names) ∙ t.alike.count first;
          declares = t.alike.declares;
          vars = t.alike.vars;
          mentions = t.alike.mentions;
        };
        stays = t.stays;
        reaches = λ names first start f inside known count h.
            let h1 = t.reaches names first start f inside known count h in
            retold w1 (f.functions ++ coded C first names) (f.functions ++ coded (function_expression C) first names) (f.declared ++ []) (f.declared ++ []) (f.takes_arguments || false) (f.takes_arguments || false) f.scopes f.places
            (ap (λ fs. f.functions ++ fs) (sym (map_map (λ (p : Placed). (p names).code) (λ (p : Placed) names. p names) (C.functions first)))) refl refl h1;
      }

-- as expressions, by what is told of them as declarations
expression_told : (f : FunctionTree) (around : List ℕ) (w0 w1 : Walk) → let tree = out-FunctionTree f in
    Walked (function_expression (function_of tree.name tree.params (in_turn tree.body))) (one (uses.function_of tree.name tree.params (in_turn_uses tree.body)) uses.function_expression) around w0 w1
    → Walked (function_expression (code.function f)) (one (uses.function f) uses.function_expression) around w0 w1
expression_told f around w0 w1 t =
    let tree = out-FunctionTree f in
    subst (λ (x : Of_function). Walked (function_expression x) (one (uses.function f) uses.function_expression) around w0 w1) (sym (coded_function f))
    (subst (λ (x : uses.Of_function). Walked (function_expression (function_of tree.name tree.params (in_turn tree.body))) (one x uses.function_expression) around w0 w1) (sym (used_function f)) t)

told_plain : (f : FunctionTree) (around : List ℕ) (w0 w1 : Walk) → let tree = out-FunctionTree f in
    Walked (code.function f) (one (uses.function f) uses.declared_function) around w0 w1
    → Walked (function_of tree.name tree.params (in_turn tree.body)) (one (uses.function_of tree.name tree.params (in_turn_uses tree.body)) uses.declared_function) around w0 w1
told_plain f around w0 w1 t =
    let tree = out-FunctionTree f in
    subst (λ (x : uses.Of_function). Walked (function_of tree.name tree.params (in_turn tree.body)) (one x uses.declared_function) around w0 w1) (used_function f)
    (subst (λ (x : Of_function). Walked x (one (uses.function f) uses.declared_function) around w0 w1) (coded_function f) t)

pub unnamed_walked : (f : FunctionTree) (around : List ℕ) (w0 w1 : Walk) → (out-FunctionTree f).name ≡ None → Walked (code.function f) (one (uses.function f) uses.declared_function) around w0 w1
    → Walked (function_expression (code.function f)) (one (uses.function f) uses.function_expression) around w0 w1
unnamed_walked f around w0 w1 none t =
    let tree = out-FunctionTree f in
    let B = in_turn tree.body in
    let U = in_turn_uses tree.body in
    let t1 = subst (λ n. Walked (function_of n tree.params B) (one (uses.function_of n tree.params U) uses.declared_function) around w0 w1) none (told_plain f around w0 w1 t) in
    expression_told f around w0 w1
    (subst (λ n. Walked (function_expression (function_of n tree.params B)) (one (uses.function_of n tree.params U) uses.function_expression) around w0 w1) (sym none) (unnamed_part_walked tree.params B U around w0 w1 t1))

pub named_walked : (f : FunctionTree) (name : List ℕ) (around : List ℕ) (w0 w1 w2 w3 : Walk) (further : List ℕ) → (out-FunctionTree f).name ≡ Some name → (IsUnbroken w1.fault → IsUnbroken w0.fault) → Passes w0 w1
    → (IsUnbroken w2.fault → IsUnbroken w1.fault) → ((g : Found) → Reached w1 g → Reached w2 g) → (IsUnbroken w2.fault → further ≡ 1 ∷ around)
    → Walked (code.function f) (one (uses.function f) uses.declared_function) further w2 w3 → Walked (function_expression (code.function f)) (one (uses.function f) uses.function_expression) around w0 w3
named_walked f name around w0 w1 w2 w3 further some stays1 passes stays2 holds slots t =
    let tree = out-FunctionTree f in
    let B = in_turn tree.body in
    let U = in_turn_uses tree.body in
    let t1 = subst (λ n. Walked (function_of n tree.params B) (one (uses.function_of n tree.params U) uses.declared_function) further w2 w3) some (told_plain f further w2 w3 t) in
    let told : Walked (function_expression (function_of (Some name) tree.params B)) (one (uses.function_of (Some name) tree.params U) uses.function_expression) around w0 w3 =
    scoped_walked (function_of (Some name) tree.params B) (one (uses.function_of (Some name) tree.params U) uses.declared_function) ((name, false) ∷ []) around further emit.function w0 w2 w3
    (λ g. stays1 (stays2 g)) (λ g names h. holds g (passes g names h)) slots t1 in
    expression_told f around w0 w3
    (subst (λ n. Walked (function_expression (function_of n tree.params B)) (one (uses.function_of n tree.params U) uses.function_expression) around w0 w3) (sym some) told)

-- ---- what is known of the function around is put back, or known better

module _ (w : Walk) (fs : List FunctionCode) (scopes : List Bindings) (places : List Place) where
  redeclared_made : (fault : Option Fault) (ds es : List Declared) (t : Bool) (d : List Declaration) → Made fault w (found fs ds t scopes places) → (IsUnbroken fault → told_all d ≡ es) → Made fault (record w { declared = d }) (found fs es t scopes places)
  redeclared_made None ds es t d m k = (m.0, k tt, m.2, m.3)
  redeclared_made (Some NoMemory) ds es t d m k = tt
  redeclared_made (Some TooLong) ds es t d m k = m

  pub redeclared : (ds es : List Declared) (t : Bool) (d : List Declaration) → Reached w (found fs ds t scopes places) → (IsUnbroken w.fault → told_all d ≡ es) → Reached (record w { declared = d }) (found fs es t scopes places)
  redeclared ds es t d h k = (h.0, h.1, h.2, redeclared_made w.fault ds es t d h.3 k)

  rementioned_made : (fault : Option Fault) (ds : List Declared) (t u b : Bool) → Made fault w (found fs ds t scopes places) → b ≡ (w.names_arguments || u) → Made fault (record w { names_arguments = b }) (found fs ds (t || u) scopes places)
  rementioned_made None ds t u b m k = (m.0, m.1, k ∙ ap (λ x. x || u) m.2, m.3)
  rementioned_made (Some NoMemory) ds t u b m k = tt
  rementioned_made (Some TooLong) ds t u b m k = m

  pub rementioned : (ds : List Declared) (t u b : Bool) → Reached w (found fs ds t scopes places) → b ≡ (w.names_arguments || u) → Reached (record w { names_arguments = b }) (found fs ds (t || u) scopes places)
  rementioned ds t u b h k = (h.0, h.1, h.2, rementioned_made w.fault ds t u b h.3 k)

pub mention_walked : (text : List ℕ) (around : List ℕ) (w0 w1 : Walk) (b : Bool) → (IsUnbroken w1.fault → IsUnbroken w0.fault) → ((f : Found) (place : Place) → Reached w0 (record f { places = place ∷ f.places }) → Reached w1 f)
    → b ≡ (w1.names_arguments || bytes_eq text (codes "arguments")) → Walked (compiled.name_part text) (uses.name_part text) around w0 (record w1 { names_arguments = b })
mention_walked text around w0 w1 b stays passed is = record {
  alike = record { count = λ first. refl; declares = λ first start. refl; vars = refl; mentions = refl };
  stays = stays;
  reaches = λ names first start f inside known count h.
      let u = bytes_eq text (codes "arguments") in
      retold (record w1 { names_arguments = b }) f.functions (f.functions ++ []) f.declared (f.declared ++ []) (f.takes_arguments || u) (f.takes_arguments || u) f.scopes f.places
      (sym (append-nil f.functions)) (sym (append-nil f.declared)) refl (rementioned w1 f.functions f.scopes f.places f.declared f.takes_arguments u b (passed f (place_in text names) h) is);
}

pub caught_walked : (name : List ℕ) (list : List Stmt) (around further : List ℕ) (w0 w1 w2 w3 w4 : Walk) (declared : List Declaration) → (IsUnbroken w1.fault → IsUnbroken w0.fault) → Passes w0 w1
    → (IsUnbroken w2.fault → IsUnbroken w1.fault) → ((g : Found) → Reached w1 g → Reached w2 g) → (IsUnbroken w2.fault → further ≡ 1 ∷ around)
    → (IsUnbroken w3.fault → IsUnbroken w2.fault) → ((g : Found) → Reached w2 g → Reached w3 (record g { declared = [] }) × (IsUnbroken w2.fault → told_all declared ≡ g.declared))
    → Walked (in_turn list) (in_turn_uses list) further w3 w4 → Walked (caught (Some (name, list))) (caught_uses (Some (name, list))) around w0 (record w4 { declared = declared })
caught_walked name list around further w0 w1 w2 w3 w4 declared stays1 passes stays2 holds slots stays3 taken t =
    let B = in_turn list in
    let U = in_turn_uses list in
    let own : Bindings = (name, true) ∷ [] in record {
      alike = record {
        count = λ first. length-map (B.functions first) (λ (p : Placed) names. p (own ∷ names)) ∙ t.alike.count first;
        declares = λ first start. refl;
        vars = t.alike.vars;
        mentions = t.alike.mentions;
      };
      stays = λ g. stays1 (stays2 (stays3 (t.stays g)));
      reaches = λ names first start f inside known count h.
          let us = (U.means start).scopes (own ∷ names) in
          let up = (U.means start).places (own ∷ names) in
          let f0 : Found = record f { scopes = us ++ f.scopes; places = up ++ f.places } in
          let h2 = holds f0 (passes f0 own h) in
          let told = taken f0 h2 in
          let known3 : IsUnbroken w3.fault → further ≡ slots_of (own ∷ names) = λ g. slots (stays3 g) ∙ ap (λ (ks : List ℕ). 1 ∷ ks) (known (stays1 (stays2 (stays3 g)))) in
          let h4 = t.reaches (own ∷ names) first start (record f { declared = [] }) (own, names, refl) known3 count told.0 in
          let whole = caught (Some (name, list)) in
          let back = redeclared w4 (f.functions ++ coded B first (own ∷ names)) f.scopes f.places (B.declared first) f.declared (f.takes_arguments || B.names_arguments) declared h4 (λ g. told.1 (stays3 (t.stays g))) in
          retold (record w4 { declared = declared }) (f.functions ++ coded B first (own ∷ names)) (f.functions ++ coded whole first names) f.declared (f.declared ++ []) (f.takes_arguments || B.names_arguments) (f.takes_arguments || B.names_arguments) f.scopes f.places
          (ap (λ fs. f.functions ++ fs) (sym (map_map (λ (p : Placed). (p names).code) (λ (p : Placed) names. p (own ∷ names)) (B.functions first)))) (sym (append-nil f.declared)) refl back;
    }

-- ---- a place for the code of a function

pub none_in : (fs : List FunctionCode) → operations_in (fs ++ unwritten ∷ []) ≡ operations_in fs
none_in [] = refl
none_in (f ∷ fs) = ap (λ n. length f.ops + n) (none_in fs)

pub none_crowded : (fs : List FunctionCode) → any_crowded (fs ++ unwritten ∷ []) ≡ any_crowded fs
none_crowded [] = refl
none_crowded (f ∷ fs) = ap (λ b. is_crowded f.slots || b) (none_crowded fs)

-- a function has as many operations as its size says
pub code_long : (f : FunctionTree) (first : ℕ) (ds : List Declared) (takes : Bool) (around : Around)
    → length (code_in f first ds takes around).ops ≡ function_size ds takes ((in_turn (out-FunctionTree f).body).means (first + 1))
code_long f first ds takes around =
    let known = (sizes_are_true.functions (out-FunctionTree f).body (first + 1) ds takes).long (at_start around) [] in
    omega (arith, known)

-- ---- `try`

abbrev pub TryWalked : List Stmt → Option (List ℕ × List Stmt) → Option (List Stmt) → List ℕ → Walk → Walk → Type 0
TryWalked body c l around w0 w1 = Walked (three (in_turn body) (caught c) (last l) step.try_catch) (three (in_turn_uses body) (caught_uses c) (last_uses l) (λ a b c. uses.both a (uses.both b c))) around w0 w1

pub try_walked : (body : List Stmt) (c c' : Option (List ℕ × List Stmt)) (l l' : Option (List Stmt)) (around : List ℕ) (w0 w1 w2 w3 : Walk) → c ≡ c' → l ≡ l'
    → Walked (in_turn body) (in_turn_uses body) around w0 w1 → Walked (caught c') (caught_uses c') around w1 w2 → Walked (last l') (last_uses l') around w2 w3 → TryWalked body c l around w0 w3
try_walked body c c' l l' around w0 w1 w2 w3 same also t u v =
    subst (λ x. TryWalked body x l around w0 w3) (sym same) (subst (λ x. TryWalked body c' x around w0 w3) (sym also)
    (walked_three (in_turn body) (caught c') (last l') (in_turn_uses body) (caught_uses c') (last_uses l') step.try_catch around w0 w1 w2 w3 t u v))

pub no_catch_walked : (around : List ℕ) (w : Walk) → Walked (caught None) (caught_uses None) around w w
no_catch_walked around w = walked_leaf None around w

pub no_last_walked : (around : List ℕ) (w : Walk) → Walked (last None) (last_uses None) around w w
no_last_walked around w = walked_leaf None around w

pub last_walked : (list : List Stmt) (around : List ℕ) (w0 w1 : Walk) → Walked (in_turn list) (in_turn_uses list) around w0 w1 → Walked (last (Some list)) (last_uses (Some list)) around w0 w1
last_walked list around w0 w1 t = walked_one (in_turn list) (in_turn_uses list) Some around w0 w1 t
