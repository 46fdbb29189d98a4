-- The parameters of a function come first among the names of its scope, and have the arguments (ECMA-262 5.1 §10.5).
use Rattle.std.proofs.Common.{◌≡◌, ℕ, zero, suc, List, [], ◌∷◌, ◌++◌, length, map, Bool, true, false, ◌||◌, refl, sym, ap, ◌∙◌, subst, if◌then◌else◌, bytes_eq}
use Rattle.std.specs.List.{list_any}
use Rattle.std.proofs.lemmas.Bool.{false≢true, or_parts, false_from_ne_true}
use Rattle.std.proofs.lemmas.List.{append_assoc}
use Rattle.std.proofs.lemmas.Slice.Eq.{bytes_eq-Decides}
use Rattle.njs_tree.specs.Early.{repeats}
use Rattle.njs_value.specs.declared.Value.{Value}
use Rattle.njs_value.specs.declared.Value.TheVariants as value
use Rattle.njs_clone.specs.Content.{content}
use Rattle.njs_meaning.specs.Primitives.{Undefined}
use Rattle.njs_meaning.specs.Values.{PlainValue, Simple}
use Rattle.njs_meaning.specs.PlainHeap.{Variable}
use Rattle.njs_meaning.specs.Scopes.{bound, unbound}
use Rattle.njs_meaning.specs.Functions.{Function, each_once, arguments_name, names_of_scope, parameter_value, first_variables}
use Rattle.njs_interp.specs.Calling.{filled}

-- a name that is none of these
abbrev Apart : List ℕ → List (List ℕ) → Type 0
Apart name names = list_any (bytes_eq name) names ≡ false

itself : (a : List ℕ) → bytes_eq a a ≡ true
itself a = (bytes_eq-Decides a a).1 refl

other_way : (a b : List ℕ) → bytes_eq a b ≡ false → bytes_eq b a ≡ false
other_way a b h = false_from_ne_true (bytes_eq b a) (λ is. false≢true (sym h ∙ (bytes_eq-Decides a b).1 (sym ((bytes_eq-Decides b a).0 is))))

or_none : (a b : Bool) → a ≡ false → b ≡ false → (a || b) ≡ false
or_none true b p q = p
or_none false b p q = q

or_first : (a b : Bool) → a ≡ true → (a || b) ≡ true
or_first true b p = refl
or_first false b p = absurd (false≢true p)

or_second : (a b : Bool) → b ≡ true → (a || b) ≡ true
or_second true b p = refl
or_second false b p = p

apart_of : (name : List ℕ) (first : List ℕ) (rest : List (List ℕ)) → Apart name (first ∷ rest) → Apart name rest
apart_of name first rest h = (or_parts (bytes_eq name first) (list_any (bytes_eq name) rest) h).1

-- ---- names that are no parameters

by_test : (P : List (List ℕ) → Type 0) (b : Bool) (xs ys : List (List ℕ)) → (b ≡ true → P xs) → (b ≡ false → P ys) → P (if b then xs else ys)
by_test P true xs ys f g = f refl
by_test P false xs ys f g = g refl

none_filled : (value : List ℕ → PlainValue) (before names : List (List ℕ)) (args : List PlainValue) → ((name : List ℕ) → Apart name before → value name ≡ Simple Undefined)
    → map value (each_once before names) ≡ filled (Simple Undefined) (length (each_once before names)) 0 args
none_filled value before [] args none = refl
none_filled value before (name ∷ names) args none =
    by_test (λ ns. map value ns ≡ filled (Simple Undefined) (length ns) 0 args) (list_any (bytes_eq name) before) (each_once before names) (name ∷ each_once (name ∷ before) names)
    (λ is. none_filled value before names args none)
    (λ is.
    ap (λ v. v ∷ map value (each_once (name ∷ before) names)) (none name is)
    ∙ ap (λ vs. Simple Undefined ∷ vs) (none_filled value (name ∷ before) names args (λ other apart. none other (apart_of other name before apart))))

-- ---- parameters

no_arguments : (params : List (List ℕ)) (name : List ℕ) → parameter_value params [] name ≡ Simple Undefined
no_arguments [] name = refl
no_arguments (p ∷ params) name = refl

-- the parameters are none of the names before
abbrev Fresh : List (List ℕ) → List (List ℕ) → Type 0
Fresh before params = (name : List ℕ) → list_any (bytes_eq name) params ≡ true → Apart name before

module _ (value : List ℕ → PlainValue) where
  -- what every other name has is its argument
  abbrev Gets : List (List ℕ) → List (List ℕ) → List PlainValue → Type 0
  Gets before params args = (name : List ℕ) → Apart name before → value name ≡ parameter_value params args name

  first_apart : (before : List (List ℕ)) (p : List ℕ) (params : List (List ℕ)) → Fresh before (p ∷ params) → Apart p before
  first_apart before p params fresh = fresh p (or_first (bytes_eq p p) (list_any (bytes_eq p) params) (itself p))

  fresh_later : (before : List (List ℕ)) (p : List ℕ) (params : List (List ℕ)) → Fresh before (p ∷ params) → Apart p params → Fresh (p ∷ before) params
  fresh_later before p params fresh apart name there =
      or_none (bytes_eq name p) (list_any (bytes_eq name) before)
      (false_from_ne_true (bytes_eq name p) (λ is. false≢true (sym apart ∙ subst (λ n. list_any (bytes_eq n) params ≡ true) ((bytes_eq-Decides name p).0 is) there)))
      (fresh name (or_second (bytes_eq name p) (list_any (bytes_eq name) params) there))

  gets_later : (before : List (List ℕ)) (p : List ℕ) (params : List (List ℕ)) (v : PlainValue) (args : List PlainValue) → Gets before (p ∷ params) (v ∷ args) → Gets (p ∷ before) params args
  gets_later before p params v args gets name apart =
      let parts = or_parts (bytes_eq name p) (list_any (bytes_eq name) before) apart in
      gets name parts.1 ∙ ap (λ b. if b then v else parameter_value params args name) (other_way name p parts.0)

  params_filled : (before params rest : List (List ℕ)) (args : List PlainValue) → repeats params ≡ false → Fresh before params → Gets before params args
      → map value (each_once before (params ++ rest)) ≡ filled (Simple Undefined) (length (each_once before (params ++ rest))) (length params) args
  params_filled before [] rest args none fresh gets = none_filled value before rest args gets
  params_filled before (p ∷ params) rest [] none fresh gets =
      let parts = or_parts (list_any (bytes_eq p) params) (repeats params) none in
      let apart = first_apart before p params fresh in
      subst (λ b. map value (if b then each_once before (params ++ rest) else p ∷ each_once (p ∷ before) (params ++ rest))
      ≡ filled (Simple Undefined) (length (if b then each_once before (params ++ rest) else p ∷ each_once (p ∷ before) (params ++ rest))) (length (p ∷ params)) []) (sym apart)
      (ap (λ v. v ∷ map value (each_once (p ∷ before) (params ++ rest))) (gets p apart)
      ∙ ap (λ vs. Simple Undefined ∷ vs) (params_filled (p ∷ before) params rest [] parts.1 (fresh_later before p params fresh parts.0)
      (λ name away. gets name (apart_of name p before away) ∙ sym (no_arguments params name))))
  params_filled before (p ∷ params) rest (v ∷ args) none fresh gets =
      let parts = or_parts (list_any (bytes_eq p) params) (repeats params) none in
      let apart = first_apart before p params fresh in
      subst (λ b. map value (if b then each_once before (params ++ rest) else p ∷ each_once (p ∷ before) (params ++ rest))
      ≡ filled (Simple Undefined) (length (if b then each_once before (params ++ rest) else p ∷ each_once (p ∷ before) (params ++ rest))) (length (p ∷ params)) (v ∷ args)) (sym apart)
      (ap (λ w. w ∷ map value (each_once (p ∷ before) (params ++ rest))) (gets p apart ∙ ap (λ b. if b then v else parameter_value params args p) (itself p))
      ∙ ap (λ vs. v ∷ vs) (params_filled (p ∷ before) params rest args parts.1 (fresh_later before p params fresh parts.0) (gets_later before p params v args gets)))

-- ---- the variables of a scope

map_bound : (value : List ℕ → PlainValue) (names : List (List ℕ)) → map (λ (v : Variable). v.value) (map (λ name. bound name (value name)) names) ≡ map value names
map_bound value [] = refl
map_bound value (name ∷ names) = ap (λ vs. value name ∷ vs) (map_bound value names)

-- of a function's
pub first_filled : (f : Function) (args : List PlainValue) → repeats f.params ≡ false
    → map (λ (v : Variable). v.value) (first_variables f args) ≡ filled (Simple Undefined) (length (names_of_scope f)) (length f.params) args
first_filled f args none =
    let named : List (List ℕ) = map (λ d. d.name) f.declared in
    let own : List (List ℕ) = if f.takes_arguments then arguments_name ∷ [] else [] in
    map_bound (parameter_value f.params args) (names_of_scope f)
    ∙ subst (λ xs. map (parameter_value f.params args) (each_once [] xs) ≡ filled (Simple Undefined) (length (each_once [] xs)) (length f.params) args)
    (sym (append_assoc (f.params ++ named) own f.vars ∙ append_assoc f.params named (own ++ f.vars)))
    (params_filled (parameter_value f.params args) [] f.params (named ++ (own ++ f.vars)) args none (λ name there. refl) (λ name apart. refl))

-- of a module's, where nothing has a value yet
pub unbound_filled : (names : List (List ℕ)) (args : List PlainValue) → map (λ (v : Variable). v.value) (map unbound names) ≡ filled (Simple Undefined) (length names) 0 args
unbound_filled [] args = refl
unbound_filled (name ∷ names) args = ap (λ vs. Simple Undefined ∷ vs) (unbound_filled names args)

-- the slots of a scope, by content
pub filled_content : (texts : List (List ℕ)) (n params : ℕ) (args : List Value) → map (content texts) (filled value.Undefined n params args) ≡ filled (Simple Undefined) n params (map (content texts) args)
filled_content texts zero params args = refl
filled_content texts (suc n) zero args = ap (λ vs. Simple Undefined ∷ vs) (filled_content texts n zero args)
filled_content texts (suc n) (suc params) [] = ap (λ vs. Simple Undefined ∷ vs) (filled_content texts n params [])
filled_content texts (suc n) (suc params) (v ∷ args) = ap (λ vs. content texts v ∷ vs) (filled_content texts n params args)
