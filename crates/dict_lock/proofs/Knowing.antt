-- Some view knows the whole history.
use Rattle.std.proofs.Common.{◌≡◌, ◌≢◌, ℕ, zero, suc, ◌⊎◌, List, [], ◌∷◌, ◌++◌, length, set, refl, sym, ap, ◌∙◌, subst, inl, inr, ⊎_elim, arith}
use mathlib.Core.Logic.{dite}
use mathlib.Core.Option.{some, some-injective, some-ne-none}
use native.Mathlib.Decide.{ℕ_discrete}
use lib.ListN.{get_elem?}
use Rattle.atomic_table.proofs.Lists.{set_else, at_longer}
use Rattle.dict_model.specs.declared.operation.Entry.{Entry}
use Rattle.dict_model.specs.History.{Begins}
use Rattle.dict_lock.specs.declared.view.ZoneView.{ZoneView}
use Rattle.dict_lock.specs.Views.{longer}
use Rattle.dict_lock.specs.Rule.{IsKnown}
use Rattle.dict_lock.proofs.Histories.{begins_whole, longer_either, longer_long}

abbrev pub Knows : List Entry → ZoneView → Type 0
Knows log v = (v.seen ≡ log) ⊎ (v.told ≡ log)

set_there : (views : List ZoneView) (id : ℕ) (v w : ZoneView) → get_elem? views id ≡ some v → get_elem? (set views id w) id ≡ some w
set_there [] id v w at = absurd (some-ne-none v (sym at))
set_there (x ∷ views) zero v w at = refl
set_there (x ∷ views) (suc id) v w at = set_there views id v w at

pub known_by : (log : List Entry) (views : List ZoneView) (id : ℕ) (v w : ZoneView) → get_elem? views id ≡ some v → Knows log w → IsKnown log (set views id w)
known_by log views id v w me knows = (id, w, set_there views id v w me, knows)

-- a view in whose place comes one that knows no less
pub known_set : (log : List Entry) (views : List ZoneView) (id : ℕ) (v w : ZoneView) → get_elem? views id ≡ some v → (Knows log v → Knows log w) → IsKnown log views → IsKnown log (set views id w)
known_set log views id v w me keeps (j, u, at, knows) = dite (ℕ_discrete j id)
    (λ here. let same : u ≡ v = some-injective u v (sym at ∙ ap (get_elem? views) here ∙ me) in known_by log views id v w me (keeps (subst (Knows log) same knows)))
    (λ apart. (j, u, set_else views id j w apart ∙ at, knows))

pub known_longer : (log : List Entry) (views : List ZoneView) (right : ZoneView) → IsKnown log views → IsKnown log (views ++ right ∷ [])
known_longer log views right (j, u, at, knows) = (j, u, at_longer views (right ∷ []) j u at, knows)

-- a view that was told nothing knows the whole by what it has seen
seen_whole : (log : List Entry) (v : ZoneView) → v.told ≡ [] → Begins v.seen log → Knows log v → v.seen ≡ log
seen_whole log v heard begins (inl seen) = seen
seen_whole log v heard begins (inr told) = begins_whole v.seen log begins (let none : length log ≡ 0 = ap length (sym told ∙ heard) in omega arith)

pub known_join : (log : List Entry) (views : List ZoneView) (id other : ℕ) (v w b spent : ZoneView) → other ≢ id → get_elem? views id ≡ some v → get_elem? views other ≡ some w → v.told ≡ [] → w.told ≡ []
    → Begins v.seen log → Begins w.seen log → b.seen ≡ v.seen → b.told ≡ w.seen → IsKnown log views → IsKnown log (set (set views id b) other spent)
known_join log views id other v w b spent apart me there v_heard w_heard v_begins w_begins b_seen b_told (j, u, at, knows) =
    let stays : get_elem? (set (set views id b) other spent) id ≡ some b = set_else (set views id b) other id spent (λ e. apart (sym e)) ∙ set_there views id v b me in
    dite (ℕ_discrete j id)
    (λ here. let same : u ≡ v = some-injective u v (sym at ∙ ap (get_elem? views) here ∙ me) in (id, b, stays, inl (b_seen ∙ seen_whole log v v_heard v_begins (subst (Knows log) same knows))))
    (λ not_here. dite (ℕ_discrete j other)
    (λ over. let same : u ≡ w = some-injective u w (sym at ∙ ap (get_elem? views) over ∙ there) in (id, b, stays, inr (b_told ∙ seen_whole log w w_heard w_begins (subst (Knows log) same knows))))
    (λ not_over. (j, u, set_else (set views id b) other j spent not_over ∙ (set_else views id j b not_here ∙ at), knows)))

pub longer_whole : (log seen told : List Entry) → Begins seen log → Begins told log → (seen ≡ log) ⊎ (told ≡ log) → longer seen told ≡ log
longer_whole log seen told p q knows =
    let within : Begins (longer seen told) log = longer_either (λ l. Begins l log) seen told p q in
    let long = longer_long seen told in
    begins_whole (longer seen told) log within (⊎_elim (λ (e : seen ≡ log). let same : length seen ≡ length log = ap length e in omega arith) (λ (e : told ≡ log). let same : length told ≡ length log = ap length e in omega arith) knows)
