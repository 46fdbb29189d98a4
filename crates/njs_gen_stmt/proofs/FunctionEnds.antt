-- How the walk over a function begins and ends.
use Rattle.std.proofs.Common.{◌≡◌, ℕ, ◌-◌, ◌<◌, List, [], ◌∷◌, ◌++◌, length, take, Bool, false, ◌||◌, Option, None, Some, refl, sym, ap, subst, arith, ◌∙◌}
use Rattle.std.proofs.lemmas.List.{length-append}
use Rattle.std.proofs.Math.Seq.{take-append_seam}
use Rattle.njs_tree.specs.declared.tree.FunctionTree.{FunctionTree}
use Rattle.njs_code.specs.declared.code.FunctionCode.{FunctionCode}
use Rattle.njs_meaning.specs.declared.place.Place.{Place}
use Rattle.njs_meaning.specs.Parts.{Declared}
use Rattle.njs_meaning.specs.Places.{Around, Bindings}
use Rattle.njs_gen_expr.specs.declared.fault.Fault.{Fault}
use Rattle.njs_gen_expr.specs.declared.fault.Fault.TheVariants.{NoMemory, TooLong}
use Rattle.njs_gen_stmt.specs.declared.function.Declaration.{Declaration}
use Rattle.njs_gen_stmt.specs.declared.walk.Walk.{Walk}
use Rattle.std.specs.Prelude.{Result, MatchResult}
use Rattle.njs_gen_stmt.specs.Functions.{IsIn, Refused, told_all}
use Rattle.njs_gen_stmt.specs.Walked.{Found, found, Reached, Made, AreMade, Same, IsInside, IsUnbroken, unwritten, is_crowded, code_in}
use Rattle.njs_gen_stmt.proofs.FunctionWalks.{none_in, none_crowded}
use Rattle.njs_gen_stmt.proofs.Puts.{operations_put, crowded_put}

-- what was made, where nothing was refused
pub unbroken : (fault : Option Fault) (w : Walk) (f : Found) → IsUnbroken fault → Made fault w f → Made None w f
unbroken None w f g m = m
unbroken (Some fault) w f g m = absurd g

-- a function begins, of which it isn't known yet that it names `arguments`
unmentioned_made : (fault : Option Fault) (w : Walk) (f : Found) → Made fault w f → Made fault (record w { names_arguments = false }) (record f { takes_arguments = false })
unmentioned_made None w f m = (m.0, m.1, refl, m.3)
unmentioned_made (Some NoMemory) w f m = tt
unmentioned_made (Some TooLong) w f m = m

pub unmentioned : (w : Walk) (f : Found) → Reached w f → Reached (record w { names_arguments = false }) (record f { takes_arguments = false })
unmentioned w f h = (h.0, h.1, h.2, unmentioned_made w.fault w f h.3)

-- ---- a place for the code of a function

reserved_made : (fault : Option Fault) (w : Walk) (f : Found) (fs : List FunctionCode) → (IsUnbroken fault → fs ≡ w.functions ++ unwritten ∷ []) → Made fault w f
    → Made fault (record w { functions = fs }) (record f { functions = f.functions ++ unwritten ∷ [] })
reserved_made None w f fs is m = (is tt ∙ ap (λ gs. gs ++ unwritten ∷ []) m.0, m.1, m.2, m.3 ∙ sym (none_in f.functions))
reserved_made (Some NoMemory) w f fs is m = tt
reserved_made (Some TooLong) w f fs is m = subst (λ n. 16777216 < n) (sym (none_in f.functions)) m

pub reserved : (w : Walk) (f : Found) (fs : List FunctionCode) → (IsUnbroken w.fault → fs ≡ w.functions ++ unwritten ∷ []) → Reached w f
    → Reached (record w { functions = fs }) (record f { functions = f.functions ++ unwritten ∷ [] })
reserved w f fs is h = (h.0, h.1, h.2 ∙ sym (none_crowded f.functions), reserved_made w.fault w f fs is h.3)

pub unreserved : (w : Walk) (f : Found) (fs : List FunctionCode) → Reached w f → Reached (record w { functions = fs; fault = Some NoMemory }) (record f { functions = f.functions ++ unwritten ∷ [] })
unreserved w f fs h = (h.0, h.1, h.2 ∙ sym (none_crowded f.functions), tt)

-- ---- the code of a function takes its place

-- code that is too long alone is too long among other code
pub refused_among : (fault : Fault) (w : Walk) (front behind : List FunctionCode) (code : FunctionCode) → Refused fault (length code.ops) → AreMade (Some fault) w (front ++ (code ∷ behind))
refused_among NoMemory w front behind code r = tt
refused_among TooLong w front behind code r = let all = operations_put front behind code in omega (arith, all, r)

-- what was refused before stays so
pub still_refused : (fault : Option Fault) (w : Walk) (front behind : List FunctionCode) (code : FunctionCode) → (IsUnbroken fault → ⊥) → AreMade fault w (front ++ (unwritten ∷ behind)) → AreMade fault w (front ++ (code ∷ behind))
still_refused None w front behind code broken m = absurd (broken tt)
still_refused (Some NoMemory) w front behind code broken m = tt
still_refused (Some TooLong) w front behind code broken m = let all = operations_put front behind code in omega (arith, all, m)

-- ---- a function ends

are_made : (fault : Option Fault) (w : Walk) (f : Found) → Made fault w f → AreMade fault w f.functions
are_made None w f m = (m.0, m.3)
are_made (Some NoMemory) w f m = tt
are_made (Some TooLong) w f m = m

remade : (fault : Option Fault) (w : Walk) (f : Found) (declared : List Declaration) (b c : Bool) → AreMade fault w f.functions
    → (IsUnbroken fault → (told_all declared ≡ f.declared) × (b ≡ f.takes_arguments)) → Made fault (record w { declared = declared; names_arguments = b; crowded = c }) f
remade None w f declared b c m k = (m.0, (k tt).0, (k tt).1, m.1)
remade (Some NoMemory) w f declared b c m k = tt
remade (Some TooLong) w f declared b c m k = m

pub code_reached : (w : Walk) (fs : List FunctionCode) (ds : List Declared) (takes : Bool) (scopes : List Bindings) (places : List Place) → Reached w (found fs ds takes scopes places) → AreMade w.fault w fs
code_reached w fs ds takes scopes places h = are_made w.fault w (found fs ds takes scopes places) h.3

pub ended : (w v : Walk) (front behind : List FunctionCode) (code : FunctionCode) (ds es : List Declared) (t u : Bool) (scopes : List Bindings) (places : List Place) (declared : List Declaration) (b c : Bool)
    → Same w v → Reached w (found (front ++ (unwritten ∷ behind)) ds t scopes places) → AreMade v.fault v (front ++ (code ∷ behind)) → c ≡ (v.crowded || is_crowded code.slots)
    → (IsUnbroken v.fault → (told_all declared ≡ es) × (b ≡ u))
    → Reached (record v { declared = declared; names_arguments = b; crowded = c }) (found (front ++ (code ∷ behind)) es u scopes places)
ended w v front behind code ds es t u scopes places declared b c same h m is known = (
  same.0 ∙ h.0,
  same.1 ∙ h.1,
  is ∙ ap (λ x. x || is_crowded code.slots) (same.2 ∙ h.2) ∙ sym (crowded_put front behind code),
  remade v.fault v (found (front ++ (code ∷ behind)) es u scopes places) declared b c m known,
)

-- the places of the names in use in a function stand in front of the others
pub places_used : (used places : List Place) (count : ℕ) → count ≡ length (used ++ places) - length places → take count (used ++ places) ≡ used
places_used used places count is =
    let long = length-append used places in
    let same : count ≡ length used = omega (arith, is, long) in
    ap (λ n. take n (used ++ places)) same ∙ take-append_seam used places

-- the code of a function, by what is known of what it declares
pub known_code : (f : FunctionTree) (r : Result FunctionCode Fault) (n : ℕ) (es ds : List Declared) (t u : Bool) (around : Around) → es ≡ ds → t ≡ u
    → MatchResult r (λ x. x ≡ code_in f n es t around) (λ fault. Refused fault (length (code_in f n es t around).ops))
    → MatchResult r (λ x. x ≡ code_in f n ds u around) (λ fault. Refused fault (length (code_in f n ds u around).ops))
known_code f r n es ds t u around a b m =
    subst (λ x. MatchResult r (λ y. y ≡ code_in f n ds x around) (λ fault. Refused fault (length (code_in f n ds x around).ops))) b
    (subst (λ x. MatchResult r (λ y. y ≡ code_in f n x t around) (λ fault. Refused fault (length (code_in f n x t around).ops))) a m)

pub is_in : (own names : Bindings) (around : Around) → names ≡ own → IsInside around → IsIn names (own ∷ around)
is_in own names around same inside = (inside.0, inside.1, ap (λ (l : Around). own ∷ l) inside.2 ∙ ap (λ (n : Bindings). n ∷ (inside.0 ∷ inside.1)) (sym same))

-- ---- what is known where nothing was refused

pub are_unbroken : (fault : Option Fault) (w : Walk) (fs : List FunctionCode) → IsUnbroken fault → AreMade fault w fs → AreMade None w fs
are_unbroken None w fs g m = m
are_unbroken (Some fault) w fs g m = absurd g

pub were_made : (fault : Option Fault) (w : Walk) (fs : List FunctionCode) → IsUnbroken fault → AreMade None w fs → AreMade fault w fs
were_made None w fs g m = m
were_made (Some fault) w fs g m = absurd g

pub broken : (fault : Option Fault) (f : Fault) → fault ≡ Some f → IsUnbroken fault → ⊥
broken fault f is g = subst IsUnbroken is g

pub refused_reserved : (w v : Walk) (f : Found) (fs : List FunctionCode) → fs ≡ w.functions → ((g : Found) → Reached (record w { functions = fs }) g → Reached v g) → (IsUnbroken v.fault → ⊥) → Reached w f
    → Reached v (record f { functions = f.functions ++ unwritten ∷ [] })
refused_reserved w v f fs same holds ended h =
    let h1 = holds f (subst (λ x. Reached (record w { functions = x }) f) (sym same) h) in
    (h1.0, h1.1, h1.2 ∙ sym (none_crowded f.functions), reserved_made v.fault v f v.functions (λ g. absurd (ended g)) h1.3)
