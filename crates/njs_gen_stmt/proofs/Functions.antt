-- How the code of a function begins.
use Rattle.std.specs.Prelude.{Result, Ok, Err, MatchResult}
use Rattle.std.proofs.Common.{◌≡◌, ℕ, suc, ◌+◌, ◌<◌, List, [], ◌∷◌, ◌++◌, drop, length, get_or, Bool, Some, refl, sym, ap, subst, arith}
use Rattle.std.specs.Option.{option_map_or}
use Rattle.njs_tree.specs.declared.tree.Item.{Item}
use Rattle.njs_code.specs.declared.op.Op.{Op}
use Rattle.njs_meaning.specs.declared.place.Place.{Place}
use Rattle.njs_meaning.specs.declared.place.Place.TheVariants.{Slot}
use Rattle.njs_meaning.specs.Places.{Bindings, Around, place_in, slot_of, outward}
use Rattle.njs_simul.specs.EmissionOfStatements as step
use Rattle.njs_simul.specs.Sizes.{declared_size, items_size}
use Rattle.njs_simul.specs.Compiled.{item_part, items_part, items_in_turn}
use Rattle.njs_scope.specs.Uses as uses
use Rattle.njs_gen_expr.specs.declared.here.Here.{Here}
use Rattle.njs_gen_expr.specs.Written.{Progress, Going, Draft, draft, Holds, Refuses}
use Rattle.njs_gen_expr.specs.declared.fault.Fault.{Fault}
use Rattle.njs_gen_expr.specs.declared.fault.Fault.TheVariants.{NoMemory, TooLong}
use Rattle.njs_gen_expr.specs.Parts.{Wrote}
use Rattle.njs_gen_stmt.specs.Statements.{WrotePart}
use Rattle.njs_gen_expr.proofs.Drafts.{recount, split, bare}
use Rattle.njs_gen_expr.proofs.ListShapes.{from_place}
use Rattle.njs_gen_stmt.specs.declared.function.Declaration.{Declaration}
use Rattle.njs_gen_stmt.specs.Functions.{IsIn, WroteIn, Refused, told, told_all}

-- a name of the innermost scope stands in its slot
pub own_is : (name : List ℕ) (names : Bindings) (around : Around) (slot : ℕ) (assignable : Bool) → IsIn names around → slot_of name names ≡ Some (slot, assignable) → Slot 0 slot assignable ≡ place_in name around
own_is name names around slot assignable inside is =
    let next = inside.0 in
    let rest = inside.1 in
    subst (λ a. Slot 0 slot assignable ≡ place_in name a) (sym inside.2)
    (ap (λ o. option_map_or (λ p. Slot 0 p.0 p.1) o (outward (place_in name (next ∷ rest)))) (sym is))

-- declared functions, the last first
abbrev pub WroteDeclarations : Bindings → List Declaration → Here → Progress → Progress → Type 0
WroteDeclarations names list = WroteIn names (step.declared (told_all list)) (declared_size (told_all list))

pub no_declarations : (names : Bindings) (here : Here) (w : Progress) → WroteDeclarations names [] here w w
no_declarations names here w at d inside s h = recount w d.ops d.count (0 + d.count) d.places d.functions (omega arith) h

pub declarations_more : (k i : ℕ) (names : Bindings) (list : List Declaration) (x : Declaration) (here : Here) (w0 w1 w2 : Progress) → i ≡ suc k → k < length list → x ≡ get_or list k x
    → WroteDeclarations names (drop i list) here w0 w1 → WroteIn names (step.declared (told x ∷ [])) 3 here w1 w2 → WroteDeclarations names (drop k list) here w0 w2
declarations_more k i names list x here w0 w1 w2 same lt is behind a =
    let further = subst (λ j. WroteDeclarations names (drop j list) here w0 w1) same behind in
    let step' : WroteDeclarations names (x ∷ drop (suc k) list) here w0 w2 = λ at d inside s h.
    (let later = told_all (drop (suc k) list) in
    let d1 : Draft = record d { ops = step.declared later at d.ops; count = declared_size later + d.count } in
    recount w2 _ (3 + d1.count) _ d.places d.functions (omega arith) (a at d1 inside s (further at d inside s h))) in
    subst (λ (l : List Declaration). WroteDeclarations names l here w0 w2) (sym (from_place list k x lt is)) step'

-- the items of a script
abbrev pub WroteItems : List Item → Here → Progress → Progress → Type 0
WroteItems list = Wrote items_size items_in_turn (items_part list) (uses.items_part list)

pub no_items : (here : Here) (w : Progress) → WroteItems [] here w w
no_items here w at first start n ops front s h = recount w ops n (0 + n) front first (omega arith) (bare w ops n front first h)

pub items_more : (k i : ℕ) (list : List Item) (x : Item) (here : Here) (w0 w1 w2 : Progress) → i ≡ suc k → k < length list → x ≡ get_or list k x
    → WroteItems (drop i list) here w0 w1 → WrotePart (item_part x) (uses.item x) here w1 w2 → WroteItems (drop k list) here w0 w2
items_more k i list x here w0 w1 w2 same lt is behind a =
    let further = subst (λ j. WroteItems (drop j list) here w0 w1) same behind in
    let xs = drop (suc k) list in
    let step' : WroteItems (x ∷ xs) here w0 w2 = λ at first start n ops front s h.
    (let A = item_part x in
    let U = uses.item x in
    let B = items_part xs in
    let V = uses.items_part xs in
    let later = B.means (first + A.size) in
    let ua = (U.means start).places at.names in
    let ub = (V.means (start + U.size)).places at.names in
    let h1 = further at (first + A.size) (start + U.size) n ops (front ++ ua) s (split w0 ops n front ua ub first A.size B.size h) in
    recount w2 _ ((A.means first).size + (items_size later + n)) _ front first (omega arith)
    (a at first start (items_size later + n) (items_in_turn later at ops) front s h1)) in
    subst (λ (l : List Item). WroteItems l here w0 w2) (sym (from_place list k x lt is)) step'

-- what a writer hands out
pub finished : (r : Result (List Op) Fault) (d : Draft) (count : ℕ) → d.count ≡ count → MatchResult r (λ list. list ≡ d.ops) (λ fault. Refuses fault d) → MatchResult r (λ list. list ≡ d.ops) (λ fault. Refused fault count)
finished (Ok list) d count same h = h
finished (Err NoMemory) d count same h = tt
finished (Err TooLong) d count same h = omega (arith, same)

-- a writer begins
pub begun : (w : Progress) (places known : List Place) (functions number : ℕ) → w ≡ Going [] known functions → known ≡ places → functions ≡ number → Holds w (draft [] 0 ([] ++ places) number)
begun w places known functions number is a b = subst (λ p. Holds p (draft [] 0 ([] ++ places) number)) (sym is) (refl, refl, a, b)
