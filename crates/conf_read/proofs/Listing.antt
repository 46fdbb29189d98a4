-- The directives among pieces.
use Rattle.std.proofs.Common.{◌≡◌, ℕ, ◌+◌, ◌<◌, List, [], ◌∷◌, ◌++◌, length, take, drop, get_or, refl, ap, sym, ◌∙◌, drop-cons, add-one, suc}
use Rattle.std.proofs.lemmas.List.{take_more}
use Rattle.conf_read.specs.declared.directive.Piece.{Piece}
use Rattle.conf_read.specs.declared.directive.Piece.TheVariants as piece
use Rattle.conf_read.specs.declared.conf.Import.{Import}
use Rattle.conf_read.specs.declared.walk.Walk.{Walk}
use Rattle.conf_read.specs.Walk.{listed, walked}

pub listed-append : (ps qs : List Piece) → listed (ps ++ qs) ≡ listed ps ++ listed qs
listed-append [] qs = refl
listed-append (piece.Plain d ∷ ps) qs = ap (λ ds. d ∷ ds) (listed-append ps qs)
listed-append (piece.Open d ∷ ps) qs = ap (λ ds. d ∷ ds) (listed-append ps qs)
listed-append (piece.Close ∷ ps) qs = listed-append ps qs

listed_more : (ps : List Piece) (k : ℕ) (p : Piece) → k < length ps → p ≡ get_or ps k p → listed (take (k + 1) ps) ≡ listed (take k ps) ++ listed (p ∷ [])
listed_more ps k p h is = ap listed (take_more ps k p h ∙ ap (λ q. take k ps ++ q ∷ []) (sym is)) ∙ listed-append (take k ps) (p ∷ [])

rest_more : (ps : List Piece) (k : ℕ) (p : Piece) → k < length ps → p ≡ get_or ps k p → drop k ps ≡ p ∷ drop (k + 1) ps
rest_more ps k p h is = let e = drop-cons ps k p h in rw add-one (e ∙ ap (λ q. q ∷ drop (suc k) ps) (sym is))

-- one piece more
pub walked_on : (imports : List Import) (old new : Walk) (ps : List Piece) (k : ℕ) (p : Piece) → k < length ps → p ≡ get_or ps k p
    → ((rest : List Piece) → walked imports old (listed (take k ps)) (p ∷ rest) ≡ walked imports new (listed (take k ps) ++ listed (p ∷ [])) rest)
    → walked imports new (listed (take (k + 1) ps)) (drop (k + 1) ps) ≡ walked imports old (listed (take k ps)) (drop k ps)
walked_on imports old new ps k p h is step =
    ap (λ ds. walked imports new ds (drop (k + 1) ps)) (listed_more ps k p h is) ∙ sym (step (drop (k + 1) ps)) ∙ ap (walked imports old (listed (take k ps))) (sym (rest_more ps k p h is))
