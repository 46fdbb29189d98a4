-- How the parts in lists are written, the last first.
use Rattle.std.proofs.Common.{◌≡◌, ℕ, suc, ◌+◌, ◌<◌, List, [], ◌∷◌, ◌++◌, length, map, drop, get_or, Option, None, Some, refl, sym, ap, subst, arith, ◌∙◌}
use Rattle.std.proofs.lemmas.List.{drop_more}
use Rattle.std.specs.Fmt.{decimal}
use Rattle.std.specs.Option.{option_map}
use Rattle.njs_tree.specs.declared.tree.Expr.{Expr}
use Rattle.njs_code.specs.declared.op.Kind.{Kind}
use Rattle.njs_code.specs.declared.op.Kind.TheVariants as kind
use Rattle.njs_meaning.specs.Parts.{one, two, each, held, each_held, each_named}
use Rattle.njs_simul.specs.Emission as emit
use Rattle.njs_simul.specs.Emission.{Coded, Emits, value, value_size, values, values_size, deeper, op}
use Rattle.njs_simul.specs.Compiled.{Of_expression, expression}
use Rattle.njs_scope.specs.Uses as uses
use Rattle.njs_scope.specs.Uses.{Of_part, all_of}
use Rattle.njs_gen_expr.specs.declared.here.Here.{Here}
use Rattle.njs_gen_expr.specs.Written.{Progress, IsGoing, Draft, draft, Holds, Stands}
use Rattle.njs_gen_expr.specs.Parts.{Wrote, WroteTarget, WroteValue, WroteDeeper}
use Rattle.njs_gen_expr.proofs.Drafts.{recount, split, bare}
use Rattle.njs_gen_expr.proofs.Shapes.{Puts, Deeper}

-- values one after the other, so much deeper
abbrev pub WroteValues : ℕ → List Expr → Here → Progress → Progress → Type 0
WroteValues i list = WroteDeeper i values_size values (each (map expression list)) (all_of (map uses.expression list))

pub no_values : (i : ℕ) (here : Here) (w : Progress) → WroteValues i [] here w w
no_values i here w at first start n ops front s h = recount w ops n (0 + n) front first (omega arith) (bare w ops n front first h)

pub values_step : (i : ℕ) (x : Expr) (xs : List Expr) (here inner : Here) (w0 w1 w2 : Progress) → Deeper i here inner → WroteValues (suc i) xs here w0 w1
    → WroteValue (expression x) (uses.expression x) inner w1 w2 → WroteValues i (x ∷ xs) here w0 w2
values_step i x xs here inner w0 w1 w2 stood behind a at first start n ops front s h =
    let A = expression x in
    let U = uses.expression x in
    let B = each (map expression xs) in
    let V = all_of (map uses.expression xs) in
    let later = B.means (first + A.size) in
    let ua = (U.means start).places at.names in
    let ub = (V.means (start + U.size)).places at.names in
    let h1 = behind at (first + A.size) (start + U.size) n ops (front ++ ua) s (split w0 ops n front ua ub first A.size B.size h) in
    recount w2 _ (value_size (A.means first) + (values_size later + n)) _ front first (omega arith)
    (a (deeper i at) first start (values_size later + n) (values later (deeper (suc i) at) ops) front (stood at s) h1)

-- the elements of an array, from an index on
abbrev pub WroteElements : ℕ → List (Option Expr) → Here → Progress → Progress → Type 0
WroteElements i list = Wrote emit.elements_size (emit.elements i) (each_held (map (option_map expression) list)) (one (each_held (map (option_map uses.expression) list)) uses.all_held)

pub no_elements : (i : ℕ) (here : Here) (w : Progress) → WroteElements i [] here w w
no_elements i here w at first start n ops front s h = recount w ops n (0 + n) front first (omega arith) (bare w ops n front first h)

pub hole_step : (i : ℕ) (xs : List (Option Expr)) (here : Here) (w0 w1 : Progress) → WroteElements (i + 1) xs here w0 w1 → WroteElements i (None ∷ xs) here w0 w1
hole_step i xs here w0 w1 behind at first start n ops front s h =
    let B = each_held (map (option_map expression) xs) in
    let V = one (each_held (map (option_map uses.expression) xs)) uses.all_held in
    let later = B.means (first + 0) in
    let h0 = split w0 ops n front [] ((V.means (start + 0)).places at.names) first 0 B.size h in
    let h1 = behind at (first + 0) (start + 0) n ops (front ++ []) s h0 in
    bare w1 (emit.elements (i + 1) later at ops) (emit.elements_size later + n) front first h1

pub element_step : (i : ℕ) (x : Expr) (xs : List (Option Expr)) (here inner end : Here) (w0 w1 w2 w3 : Progress) → WroteElements (i + 1) xs here w0 w1 → Puts (kind.Define (decimal i)) end w1 w2
    → Deeper 2 here end → WroteValue (expression x) (uses.expression x) inner w2 w3 → Deeper 1 here inner → WroteElements i (Some x ∷ xs) here w0 w3
element_step i x xs here inner end w0 w1 w2 w3 behind p j a stood at first start n ops front s h =
    let A = expression x in
    let U = uses.expression x in
    let B = each_held (map (option_map expression) xs) in
    let V = one (each_held (map (option_map uses.expression) xs)) uses.all_held in
    let later = B.means (first + A.size) in
    let ua = (U.means start).places at.names in
    let ub = (V.means (start + U.size)).places at.names in
    let rest = emit.elements (i + 1) later at ops in
    let size = emit.elements_size later in
    let h1 = behind at (first + A.size) (start + U.size) n ops (front ++ ua) s (split w0 ops n front ua ub first A.size B.size h) in
    let h2 = p (kind.Define (decimal i)) (deeper 2 at) (draft rest (size + n) (front ++ ua) (first + A.size)) (λ g. refl) (j at s) h1 in
    recount w3 _ (value_size (A.means first) + suc (size + n)) _ front first (omega arith)
    (a (deeper 1 at) first start (suc (size + n)) (op (kind.Define (decimal i)) (deeper 2 at) rest) front (stood at s) h2)

-- the properties of an object
abbrev pub WroteFields : List (List ℕ × Expr) → Here → Progress → Progress → Type 0
WroteFields list = Wrote emit.fields_size emit.fields (each_named (map (λ p. (p.0, expression p.1)) list)) (one (each_named (map (λ p. (p.0, uses.expression p.1)) list)) uses.all_named)

pub no_fields : (here : Here) (w : Progress) → WroteFields [] here w w
no_fields here w at first start n ops front s h = recount w ops n (0 + n) front first (omega arith) (bare w ops n front first h)

pub field_step : (x : List ℕ × Expr) (xs : List (List ℕ × Expr)) (here inner end : Here) (w0 w1 w2 w3 : Progress) → WroteFields xs here w0 w1
    → ((at : emit.Here) (d : Draft) → Stands here at → Holds w1 d → Holds w2 (record d { ops = op (kind.Define x.0) (deeper 2 at) d.ops; count = suc d.count }))
    → WroteValue (expression x.1) (uses.expression x.1) inner w2 w3 → Deeper 1 here inner → WroteFields (x ∷ xs) here w0 w3
field_step x xs here inner end w0 w1 w2 w3 behind p a stood at first start n ops front s h =
    let A = expression x.1 in
    let U = uses.expression x.1 in
    let B = each_named (map (λ p. (p.0, expression p.1)) xs) in
    let V = one (each_named (map (λ p. (p.0, uses.expression p.1)) xs)) uses.all_named in
    let later = B.means (first + A.size) in
    let ua = (U.means start).places at.names in
    let ub = (V.means (start + U.size)).places at.names in
    let rest = emit.fields later at ops in
    let size = emit.fields_size later in
    let h1 = behind at (first + A.size) (start + U.size) n ops (front ++ ua) s (split w0 ops n front ua ub first A.size B.size h) in
    let h2 = p at (draft rest (size + n) (front ++ ua) (first + A.size)) s h1 in
    recount w3 _ (value_size (A.means first) + suc (size + n)) _ front first (omega arith)
    (a (deeper 1 at) first start (suc (size + n)) (op (kind.Define x.0) (deeper 2 at) rest) front (stood at s) h2)

pub each_count : (list : List Expr) (first : ℕ) → length ((each (map expression list)).means first) ≡ length list
each_count [] first = refl
each_count (x ∷ xs) first = ap suc (each_count xs (first + (expression x).size))

pub each_held_count : (list : List (Option Expr)) (first : ℕ) → length ((each_held (map (option_map expression) list)).means first) ≡ length list
each_held_count [] first = refl
each_held_count (x ∷ xs) first = ap suc (each_held_count xs (first + (held (option_map expression x)).size))

-- a callee with its arguments behind it
pub with_arguments : (list : List Expr) (A : Of_expression) (U : Of_part) (here inner end : Here) (kinds : ℕ → Kind) (told : Kind) (depth : ℕ) (count : Coded → ℕ) (emits : Coded → Emits) (total : Coded × List Coded → ℕ)
    → ((p : Coded × List Coded) → total p ≡ count p.0 + (values_size p.1 + 1)) → (w0 w1 w2 w3 : Progress)
    → (IsGoing w0 → told ≡ kinds (length list)) → Puts told end w0 w1 → ((at : emit.Here) → Stands here at → Stands end (deeper (emit.on (length list) depth) at))
    → Wrote values_size values (each (map expression list)) (all_of (map uses.expression list)) inner w1 w2 → Deeper depth here inner → Wrote count emits A U here w2 w3
    → Wrote total (λ p at rest. emits p.0 at (values p.1 (deeper depth at) (op (kinds (length p.1)) (deeper (emit.on (length p.1) depth) at) rest)))
    (two A (each (map expression list)) (λ x y. (x, y))) (two U (all_of (map uses.expression list)) uses.both) here w0 w3
with_arguments list A U here inner end kinds told depth count emits total sum w0 w1 w2 w3 known p j vs stood a at first start n ops front s h =
    let B = each (map expression list) in
    let V = all_of (map uses.expression list) in
    let later = B.means (first + A.size) in
    let ua = (U.means start).places at.names in
    let ub = (V.means (start + U.size)).places at.names in
    let long : length list ≡ length later = sym (each_count list (first + A.size)) in
    let kind : IsGoing w0 → told ≡ kinds (length later) = λ g. known g ∙ ap kinds long in
    let ended : Stands end (deeper (emit.on (length later) depth) at) = subst (λ k. Stands end (deeper (emit.on k depth) at)) long (j at s) in
    let last = op (kinds (length later)) (deeper (emit.on (length later) depth) at) ops in
    let h1 = p (kinds (length later)) (deeper (emit.on (length later) depth) at) (draft ops n ((front ++ ua) ++ ub) ((first + A.size) + B.size)) kind ended (split w0 ops n front ua ub first A.size B.size h) in
    let h2 = vs (deeper depth at) (first + A.size) (start + U.size) (suc n) last (front ++ ua) (stood at s) h1 in
    let same : count (A.means first) + (values_size later + suc n) ≡ total (A.means first, later) + n = omega (arith, sum (A.means first, later)) in
    recount w3 _ (count (A.means first) + (values_size later + suc n)) _ front first same
    (a at first start (values_size later + suc n) (values later (deeper depth at) last) front s h2)

pub array_written : (list : List (Option Expr)) (here : Here) (w0 w1 w2 w3 w4 : Progress)
    → ((at : emit.Here) (d : Draft) → Stands here at → Holds w0 d → Holds w1 (record d { ops = emit.with_length (length list) at d.ops; count = emit.on 5 d.count }))
    → WroteElements 0 list here w1 w2 → Puts kind.NewArray here w2 w3 → Puts kind.Charge here w3 w4
    → WroteTarget (one (each_held (map (option_map expression) list)) emit.array) (one (each_held (map (option_map uses.expression) list)) uses.all_held) here w0 w4
array_written list here w0 w1 w2 w3 w4 ends es p q at first start n ops front s h =
    let B = each_held (map (option_map expression) list) in
    let V = one (each_held (map (option_map uses.expression) list)) uses.all_held in
    let coded = B.means first in
    let told = ends at (draft ops n (front ++ (V.means start).places at.names) (first + B.size)) s h in
    let h1 = subst (λ k. Holds w1 (draft (emit.with_length k at ops) (emit.on 5 n) (front ++ (V.means start).places at.names) (first + B.size))) (sym (each_held_count list first)) told in
    let last = emit.with_length (length coded) at ops in
    let size = emit.elements_size coded in
    let h2 = es at first start (emit.on 5 n) last front s h1 in
    let h3 = p kind.NewArray at (draft (emit.elements 0 coded at last) (size + emit.on 5 n) front first) (λ g. refl) s h2 in
    recount w4 _ (suc (suc (size + emit.on 5 n))) _ front first (omega arith)
    (q kind.Charge at (draft (op kind.NewArray at (emit.elements 0 coded at last)) (suc (size + emit.on 5 n)) front first) (λ g. refl) s h3)

pub object_written : (list : List (List ℕ × Expr)) (here : Here) (w0 w1 w2 w3 : Progress) → WroteFields list here w0 w1 → Puts kind.NewObject here w1 w2 → Puts kind.Charge here w2 w3
    → WroteTarget (one (each_named (map (λ p. (p.0, expression p.1)) list)) emit.object) (one (each_named (map (λ p. (p.0, uses.expression p.1)) list)) uses.all_named) here w0 w3
object_written list here w0 w1 w2 w3 fs p q at first start n ops front s h =
    let coded = (each_named (map (λ p. (p.0, expression p.1)) list)).means first in
    let size = emit.fields_size coded in
    let h1 = fs at first start n ops front s h in
    let h2 = p kind.NewObject at (draft (emit.fields coded at ops) (size + n) front first) (λ g. refl) s h1 in
    recount w3 _ (suc (suc (size + n))) _ front first (omega arith)
    (q kind.Charge at (draft (op kind.NewObject at (emit.fields coded at ops)) (suc (size + n)) front first) (λ g. refl) s h2)

pub from_place : {A : Type 0} (list : List A) (k : ℕ) (x : A) → k < length list → x ≡ get_or list k x → drop k list ≡ x ∷ drop (suc k) list
from_place list k x lt is =
    let next : k + 1 ≡ suc k = omega arith in
    drop_more list k x lt ∙ ap (λ y. y ∷ drop (k + 1) list) (sym is) ∙ ap (λ j. x ∷ drop j list) next

pub values_more : (k i : ℕ) (list : List Expr) (x : Expr) (here inner : Here) (w0 w1 w2 : Progress) → i ≡ suc k → k < length list → x ≡ get_or list k x → Deeper k here inner
    → WroteValues i (drop i list) here w0 w1 → WroteValue (expression x) (uses.expression x) inner w1 w2 → WroteValues k (drop k list) here w0 w2
values_more k i list x here inner w0 w1 w2 same lt is stood behind a =
    let further = subst (λ j. WroteValues j (drop j list) here w0 w1) same behind in
    subst (λ (l : List Expr). WroteValues k l here w0 w2) (sym (from_place list k x lt is)) (values_step k x (drop (suc k) list) here inner w0 w1 w2 stood further a)

next_elements : (k i : ℕ) (list : List (Option Expr)) (here : Here) (w0 w1 : Progress) → i ≡ suc k → WroteElements i (drop i list) here w0 w1 → WroteElements (k + 1) (drop (suc k) list) here w0 w1
next_elements k i list here w0 w1 same behind =
    let next : suc k ≡ k + 1 = omega arith in
    subst (λ j. WroteElements j (drop (suc k) list) here w0 w1) next (subst (λ j. WroteElements j (drop j list) here w0 w1) same behind)

pub hole_more : (k i : ℕ) (list : List (Option Expr)) (x : Option Expr) (here : Here) (w0 w1 : Progress) → i ≡ suc k → k < length list → x ≡ get_or list k x → x ≡ None
    → WroteElements i (drop i list) here w0 w1 → WroteElements k (drop k list) here w0 w1
hole_more k i list x here w0 w1 same lt is none behind =
    let place : drop k list ≡ None ∷ drop (suc k) list = from_place list k x lt is ∙ ap (λ y. y ∷ drop (suc k) list) none in
    subst (λ (l : List (Option Expr)). WroteElements k l here w0 w1) (sym place) (hole_step k (drop (suc k) list) here w0 w1 (next_elements k i list here w0 w1 same behind))

pub element_more : (k i : ℕ) (list : List (Option Expr)) (x : Option Expr) (e : Expr) (here inner end : Here) (w0 w1 w2 w3 : Progress) → i ≡ suc k → k < length list → x ≡ get_or list k x → x ≡ Some e
    → WroteElements i (drop i list) here w0 w1 → Puts (kind.Define (decimal k)) end w1 w2 → Deeper 2 here end → WroteValue (expression e) (uses.expression e) inner w2 w3 → Deeper 1 here inner
    → WroteElements k (drop k list) here w0 w3
element_more k i list x e here inner end w0 w1 w2 w3 same lt is some behind p j a stood =
    let place : drop k list ≡ Some e ∷ drop (suc k) list = from_place list k x lt is ∙ ap (λ y. y ∷ drop (suc k) list) some in
    subst (λ (l : List (Option Expr)). WroteElements k l here w0 w3) (sym place)
    (element_step k e (drop (suc k) list) here inner end w0 w1 w2 w3 (next_elements k i list here w0 w1 same behind) p j a stood)

pub fields_more : (k i : ℕ) (list : List (List ℕ × Expr)) (x : List ℕ × Expr) (here inner : Here) (w0 w1 w2 w3 : Progress) → i ≡ suc k → k < length list → x ≡ get_or list k x
    → WroteFields (drop i list) here w0 w1
    → ((at : emit.Here) (d : Draft) → Stands here at → Holds w1 d → Holds w2 (record d { ops = op (kind.Define x.0) (deeper 2 at) d.ops; count = suc d.count }))
    → WroteValue (expression x.1) (uses.expression x.1) inner w2 w3 → Deeper 1 here inner → WroteFields (drop k list) here w0 w3
fields_more k i list x here inner w0 w1 w2 w3 same lt is behind p a stood =
    let further = subst (λ j. WroteFields (drop j list) here w0 w1) same behind in
    subst (λ (l : List (List ℕ × Expr)). WroteFields l here w0 w3) (sym (from_place list k x lt is)) (field_step x (drop (suc k) list) here inner here w0 w1 w2 w3 further p a stood)
