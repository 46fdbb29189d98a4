-- Pieces before what is still to come.
use Rattle.std.proofs.Common.{◌≡◌, ℕ, List, [], ◌∷◌, ◌++◌, refl, ap}
use Rattle.conf_read.specs.declared.directive.Piece.{Piece}
use Rattle.conf_read.specs.Scan.{Grouped, with_piece, with_pieces}

-- one more piece at the end
pub pieces_push : (ps : List Piece) (p : Piece) (g : Grouped) → with_pieces (ps ++ p ∷ []) g ≡ with_pieces ps (with_piece p g)
pieces_push [] p g = refl
pieces_push (x ∷ xs) p g = ap (with_piece x) (pieces_push xs p g)

pub pieces_misfit : (ps : List Piece) (line : ℕ) → with_pieces ps (Grouped.misfit line) ≡ Grouped.misfit line
pieces_misfit [] line = refl
pieces_misfit (x ∷ xs) line = ap (with_piece x) (pieces_misfit xs line)

pub pieces_cut : (ps : List Piece) → with_pieces ps Grouped.cut ≡ Grouped.cut
pieces_cut [] = refl
pieces_cut (x ∷ xs) = ap (with_piece x) (pieces_cut xs)

pub pieces_complete : (ps : List Piece) → with_pieces ps (Grouped.complete []) ≡ Grouped.complete ps
pieces_complete [] = refl
pieces_complete (x ∷ xs) = ap (with_piece x) (pieces_complete xs)
