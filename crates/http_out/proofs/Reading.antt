-- A message is read in one way.
use Rattle.std.proofs.Common.{◌≡◌, ◌≢◌, ◌∙◌, ℕ, List, [], ◌∷◌, ◌++◌, refl, sym, append_assoc, arith}
use Rattle.std.specs.Prelude.{All}
use Rattle.std.proofs.lemmas.List.Elements.{All-head, All-tail}
use Rattle.http_out.specs.Message.{crlf, ended, ended_lines, message, HasNoLineEnd, IsLine, HasOneReading}

message-nil : (content : List ℕ) → message [] content ≡ 13 ∷ 10 ∷ content
unfolding message ended_lines ended crlf
message-nil content = refl

message-cons : (line : List ℕ) (lines : List (List ℕ)) (content : List ℕ) → message (line ∷ lines) content ≡ line ++ (13 ∷ 10 ∷ message lines content)
unfolding message ended_lines ended crlf
message-cons line lines content = simp append_assoc

-- what stands up to the first CR
same_line : (a b x y : List ℕ) → HasNoLineEnd a → HasNoLineEnd b → a ++ (13 ∷ x) ≡ b ++ (13 ∷ y) → (a ≡ b) × (x ≡ y)
same_line [] [] x y ha hb e = (refl, cc)
same_line [] (c ∷ b) x y ha hb e = absurd ((All-head (λ b. (b ≢ 13) × (b ≢ 10)) c b hb).0 cc)
same_line (c ∷ a) [] x y ha hb e = absurd ((All-head (λ b. (b ≢ 13) × (b ≢ 10)) c a ha).0 cc)
same_line (c ∷ a) (d ∷ b) x y ha hb e =
    let P : ℕ → Type 0 = λ b. (b ≢ 13) × (b ≢ 10) in
    let rest : a ++ (13 ∷ x) ≡ b ++ (13 ∷ y) = cc in
    let first : c ≡ d = cc in
    let same = same_line a b x y (All-tail P c a ha) (All-tail P d b hb) rest in
    let front = same.0 in
    (cc, same.1)

-- a line isn't the empty one
starts_otherwise : (line x y : List ℕ) → IsLine line → line ++ (13 ∷ x) ≡ 13 ∷ y → ⊥
unfolding IsLine
starts_otherwise [] x y h e = absurd (omega arith)
starts_otherwise (c ∷ line) x y h e = (All-head (λ b. (b ≢ 13) × (b ≢ 10)) c line h.1).0 cc

one_reading : (lines others : List (List ℕ)) (content other : List ℕ) → All IsLine lines → All IsLine others → message lines content ≡ message others other
    → (lines ≡ others) × (content ≡ other)
unfolding IsLine
one_reading [] [] content other h k e =
    let f = message-nil content in
    let g = message-nil other in
    (refl, cc)
one_reading [] (line ∷ others) content other h k e =
    absurd (starts_otherwise line _ _ (All-head IsLine line others k) (sym (message-cons line others other) ∙ sym e ∙ message-nil content))
one_reading (line ∷ lines) [] content other h k e =
    absurd (starts_otherwise line _ _ (All-head IsLine line lines h) (sym (message-cons line lines content) ∙ e ∙ message-nil other))
one_reading (line ∷ lines) (second ∷ others) content other h k e =
    let whole : IsLine line = All-head IsLine line lines h in
    let whole' : IsLine second = All-head IsLine second others k in
    let both = sym (message-cons line lines content) ∙ e ∙ message-cons second others other in
    let same = same_line line second _ _ whole.1 whole'.1 both in
    let lines_same = same.0 in
    let tail = same.1 in
    let rest = one_reading lines others content other (All-tail IsLine line lines h) (All-tail IsLine second others k) cc in
    let rest_same = rest.0 in
    (cc, rest.1)

pub has_one_reading-law : HasOneReading
has_one_reading-law bytes lines others content other h k =
    one_reading lines others content other h.lines_whole k.lines_whole (sym h.spelled ∙ k.spelled)
