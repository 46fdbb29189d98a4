-- Names that are put after others, each once.
use Rattle.std.proofs.Common.{◌≡◌, ℕ, List, [], ◌∷◌, ◌++◌, map, Bool, true, false, ◌||◌, if◌then◌else◌, refl, sym, ap, ◌∙◌, append_assoc}
use Rattle.std.specs.List.{list_any}
use Rattle.std.proofs.lemmas.List.{append-nil}
use Rattle.njs_props.specs.Names.{same_name}
use Rattle.njs_meaning.specs.Parts.{Declared}
use Rattle.njs_meaning.specs.Places.{Bindings, assignable}
use Rattle.njs_meaning.specs.Functions.{each_once, scope_names}
use Rattle.njs_scope.specs.Uses.{Of_part}
use Rattle.njs_scope.specs.Planned.{module_names}
use Rattle.njs_scope.specs.Walked.{once_more, each_once_more, declared_names, arguments_if}

pub or_none : (b : Bool) → (b || false) ≡ b
or_none true = refl
or_none false = refl

swap : (a b c : Bool) → (a || (b || c)) ≡ (b || (a || c))
swap true true c = refl
swap true false c = refl
swap false true c = refl
swap false false c = refl

any_last : (test : List ℕ × Bool → Bool) (bs : Bindings) (b : List ℕ × Bool) → list_any test (bs ++ b ∷ []) ≡ (test b || list_any test bs)
any_last test [] b = refl
any_last test (c ∷ bs) b = ap (λ t. test c || t) (any_last test bs b) ∙ swap (test c) (test b) (list_any test bs)

either : (s t : Bool) (f : Bindings → Bindings) (g : List (List ℕ) → Bindings) (a b : Bindings) (x y : List (List ℕ)) → s ≡ t → f a ≡ g x → f b ≡ g y
    → f (if t then a else b) ≡ g (if s then x else y)
either true true f g a b x y e h k = h
either false false f g a b x y e h k = k
either true false f g a b x y e h k = cc
either false true f g a b x y e h k = cc

-- whatever stands in the way already
each_after : (before : List (List ℕ)) (bs : Bindings) (ns : List (List ℕ))
    → ((name : List ℕ) → list_any (same_name name) before ≡ list_any (λ b. same_name name b.0) bs)
    → each_once_more bs ns ≡ bs ++ assignable (each_once before ns)
each_after before bs [] same = sym (append-nil bs)
each_after before bs (n ∷ ns) same =
    let kept = each_after before bs ns same in
    let further = each_after (n ∷ before) (bs ++ (n, true) ∷ []) ns
    (λ name. ap (λ t. same_name name n || t) (same name) ∙ sym (any_last (λ b. same_name name b.0) bs (n, true))) in
    either (list_any (same_name n) before) (list_any (λ b. same_name n b.0) bs) (λ names. each_once_more names ns) (λ names. bs ++ assignable names)
    bs (bs ++ (n, true) ∷ []) (each_once before ns) (n ∷ each_once (n ∷ before) ns) (same n) kept
    (further ∙ append_assoc bs ((n, true) ∷ []) (assignable (each_once (n ∷ before) ns)))

each_alone : (ns : List (List ℕ)) → each_once_more [] ns ≡ assignable (each_once [] ns)
each_alone ns = each_after [] [] ns (λ name. refl)

each_in_turn : (bs : Bindings) (xs ys : List (List ℕ)) → each_once_more bs (xs ++ ys) ≡ each_once_more (each_once_more bs xs) ys
each_in_turn bs [] ys = refl
each_in_turn bs (x ∷ xs) ys = each_in_turn (once_more bs x) xs ys

pub scope_once : (params : List (List ℕ)) (ds : List Declared) (takes : Bool) (vars : List (List ℕ))
    → each_once_more (each_once_more (each_once_more (each_once_more [] params) (map (λ d. d.name) ds)) (arguments_if takes)) vars ≡ assignable (scope_names params ds takes vars)
scope_once params ds takes vars =
    let names = map (λ (d : Declared). d.name) ds in
    ap (λ bs. each_once_more bs vars) (ap (λ bs. each_once_more bs (arguments_if takes)) (sym (each_in_turn [] params names))
    ∙ sym (each_in_turn [] (params ++ names) (arguments_if takes)))
    ∙ sym (each_in_turn [] ((params ++ names) ++ arguments_if takes) vars)
    ∙ each_alone (((params ++ names) ++ arguments_if takes) ++ vars)

pub module_once : (part : Of_part) → each_once_more (each_once_more [] (declared_names part 0)) part.vars ≡ module_names part
module_once part = sym (each_in_turn [] (declared_names part 0) part.vars) ∙ each_alone (declared_names part 0 ++ part.vars)
