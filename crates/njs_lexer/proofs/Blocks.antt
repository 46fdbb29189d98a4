-- Comments from `/*` to `*/`.
use Rattle.std.proofs.Common.{◌≡◌, ℕ, suc, ◌+◌, ◌-◌, ◌<◌, ◌≤◌, Bool, true, false, not, List, [], ◌∷◌, length, drop, slice_get, Option, Some, None, option_map, refl, ap, subst, sym, ◌∙◌, arith, ◌==◌, if◌then◌else◌, inl, inr, length-drop}
use Rattle.std.proofs.lemmas.List.{drop-drop}
use Rattle.njs_tree.specs.Characters.{is_line_end, is_white, ends_line, line_ends, begins}
use Rattle.njs_tree.specs.Lexical.{front_length, blank_length, block_length, comment_length, line_length}
use Rattle.njs_tree.specs.TokenList.{Blanks}
use Rattle.njs_lexer.specs.Steps.{IsPast, IsPastBlanks, closes}
use Rattle.njs_lexer.proofs.Runs.{never, cases, some_one, none_some, and_left, and_right, same_number, no_more, run_within, run_lines}

-- reading came from the first text to the second, which is a rest of it, and so many lines ended on the way
pub record Passed (t x : List ℕ) (n : ℕ) : Type 0 where
  pub shorter : length x ≤ length t
  pub place : x ≡ drop (length t - length x) t
  pub lines : n + line_ends x ≡ line_ends t
  pub few : n + length x ≤ length t

pub passed_none : (t : List ℕ) → Passed t t 0
passed_none t = record { shorter = omega arith; place = (let z : length t - length t ≡ 0 = omega arith in sym (ap (λ k. drop k t) z)); lines = omega arith; few = omega arith }

abbrev pub line_count : ℕ → List ℕ → ℕ
line_count c s = if ends_line c s then 1 else 0

count_small : (b : Bool) → (if b then 1 else 0) ≤ 1
count_small true = omega arith
count_small false = omega arith

pub passed_one : (t x y : List ℕ) (n m c : ℕ) → Passed t x n → slice_get x 0 ≡ Some c → y ≡ drop 1 x → m ≡ line_count c y → Passed t y (n + m)
passed_one t [] y n m c p first e l = absurd (none_some first)
passed_one t (d ∷ s) y n m c p first e l =
    let same : d ≡ c = some_one first in
    let tail : y ≡ s = e in
    let len : length y ≡ length s = ap length tail in
    let count : m ≡ line_count d s = l ∙ ap (λ z. line_count c z) tail ∙ ap (λ z. line_count z s) (sym same) in
    let small = count_small (ends_line d s) in
    let k : length t - length y ≡ (length t - length (d ∷ s)) + 1 = omega (arith, len, p.shorter) in
    record {
      shorter = omega (arith, len, p.shorter);
      place = tail ∙ ap (drop 1) p.place ∙ drop-drop 1 (length t - length (d ∷ s)) t ∙ ap (λ z. drop z t) (sym k);
      lines = (let a : line_ends y ≡ line_ends s = ap line_ends tail in omega (arith, p.lines, a, count));
      few = omega (arith, p.few, len, count, small);
    }

-- the next `*/` is that of the rest
abbrev pub InBlock : List ℕ → List ℕ → Type 0
InBlock t x = block_length t ≡ option_map (λ n. n + (length t - length x)) (block_length x)

map_same : (o : Option ℕ) (f : ℕ → ℕ) → ((n : ℕ) → f n ≡ n) → o ≡ option_map f o
map_same None f h = refl
map_same (Some n) f h = ap Some (sym (h n))

map_map : (o : Option ℕ) (f g k : ℕ → ℕ) → ((n : ℕ) → f (g n) ≡ k n) → option_map f (option_map g o) ≡ option_map k o
map_map None f g k h = refl
map_map (Some n) f g k h = ap Some (h n)

pub block_begins : (t : List ℕ) → InBlock t t
block_begins t = map_same (block_length t) (λ n. n + (length t - length t)) (λ n. omega arith)

block_step : (c : ℕ) (s : List ℕ) → closes c s ≡ false → block_length (c ∷ s) ≡ option_map (λ n. n + 1) (block_length s)
block_step c s h = rw h refl

pub block_goes : (t x y : List ℕ) (n c : ℕ) → Passed t x n → InBlock t x → slice_get x 0 ≡ Some c → y ≡ drop 1 x → closes c y ≡ false → InBlock t y
block_goes t [] y n c p b first e h = absurd (none_some first)
block_goes t (d ∷ s) y n c p b first e h =
    let same : d ≡ c = some_one first in
    let tail : y ≡ s = e in
    let len : length y ≡ length s = ap length tail in
    let still : closes d s ≡ false = ap (λ z. closes z s) same ∙ ap (closes c) (sym tail) ∙ h in
    b ∙ ap (option_map (λ n. n + (length t - length (d ∷ s)))) (block_step d s still ∙ ap (λ z. option_map (λ n. n + 1) (block_length z)) (sym tail))
    ∙ map_map (block_length y) (λ n. n + (length t - length (d ∷ s))) (λ n. n + 1) (λ n. n + (length t - length y)) (λ n. omega (arith, len, p.shorter))

pub block_open : (t x : List ℕ) → InBlock t x → slice_get x 0 ≡ None → block_length t ≡ None
block_open t [] b e = b
block_open t (c ∷ s) b e = absurd (none_some (sym e))

ends_twice : (u : List ℕ) → line_ends (42 ∷ 47 ∷ u) ≡ line_ends u
ends_twice u = omega arith

block_two : (d e : ℕ) (u : List ℕ) → closes d (e ∷ u) ≡ true → block_length (d ∷ e ∷ u) ≡ Some 2
block_two d e u h = rw h refl

-- past the `*/`
pub block_closed : (t x y r : List ℕ) (n c : ℕ) → Passed t x n → InBlock t x → slice_get x 0 ≡ Some c → y ≡ drop 1 x → closes c y ≡ true → r ≡ drop 1 y
    → (k : ℕ) × (block_length t ≡ Some k) × IsPast t k r n
block_closed t [] y r n c p b first e h f = absurd (none_some first)
block_closed t (d ∷ []) y r n c p b first e h f =
    absurd (never (sym h ∙ ap (closes c) e ∙ no_more (c == 42)))
block_closed t (d ∷ g ∷ u) y r n c p b first e h f =
    let same : d ≡ c = some_one first in
    let tail : y ≡ g ∷ u = e in
    let end : r ≡ u = f ∙ ap (drop 1) tail in
    let hit : closes d (g ∷ u) ≡ true = ap (λ z. closes z (g ∷ u)) same ∙ ap (closes c) (sym tail) ∙ h in
    let d_is : d ≡ 42 = same_number d 42 (and_left (d == 42) (g == 47) hit) in
    let g_is : g ≡ 47 = same_number g 47 (and_right (d == 42) (g == 47) hit) in
    let lines : line_ends (d ∷ g ∷ u) ≡ line_ends u = ap (λ z. line_ends (z ∷ g ∷ u)) d_is ∙ ap (λ z. line_ends (42 ∷ z ∷ u)) g_is ∙ ends_twice u in
    let lr : line_ends r ≡ line_ends u = ap line_ends end in
    let nr : length r ≡ length u = ap length end in
    let k : 2 + (length t - length (d ∷ g ∷ u)) ≡ (length t - length (d ∷ g ∷ u)) + 2 = omega arith in (
      (length t - length (d ∷ g ∷ u)) + 2,
      b ∙ ap (option_map (λ m. m + (length t - length (d ∷ g ∷ u)))) (block_two d g u hit) ∙ ap Some k,
      record {
        rest = end ∙ ap (drop 2) p.place ∙ drop-drop 2 (length t - length (d ∷ g ∷ u)) t;
        within = omega (arith, p.shorter);
        lines = omega (arith, p.lines, lines, lr);
        few = omega (arith, p.few, nr);
      },
    )

-- ---- one blank

no_end : (c : ℕ) (s : List ℕ) → (c == 47) ≡ true → line_ends (c ∷ s) ≡ line_ends s
no_end c s h = ap (λ z. line_ends (z ∷ s)) (same_number c 47 h) ∙ omega arith

no_end_star : (c : ℕ) (s : List ℕ) → (c == 42) ≡ true → line_ends (c ∷ s) ≡ line_ends s
no_end_star c s h = ap (λ z. line_ends (z ∷ s)) (same_number c 42 h) ∙ omega arith

-- a character without a line end before
past_more : (c : ℕ) (s r : List ℕ) (n m ended : ℕ) → line_ends (c ∷ s) ≡ line_ends s → IsPast s n r ended → m ≡ n + 1 → IsPast (c ∷ s) m r ended
past_more c s r n m ended none p e =
    let k : m ≡ suc n = omega (arith, e) in
    record { rest = p.rest ∙ sym (ap (λ z. drop z (c ∷ s)) k); within = omega (arith, k, p.within); lines = omega (arith, p.lines, none); few = omega (arith, p.few) }

-- `//` up to the line end
pub line_comment : (i after r : List ℕ) → begins (λ c. c == 47) i ≡ true → after ≡ drop 1 i → r ≡ drop (front_length (λ c. not (is_line_end c)) after) after
    → (n : ℕ) × (comment_length i ≡ n + 1) × IsPast i n r 0
line_comment [] after r h e f = absurd (never (sym h))
line_comment (c ∷ s) after r h e f =
    let tail : after ≡ s = e in
    let f1 : r ≡ drop (line_length s) s = f ∙ ap (λ z. drop (line_length z) z) tail in
    let lr : line_ends r ≡ line_ends s = ap line_ends f1 ∙ run_lines s in
    let short = run_within (λ d. not (is_line_end d)) s in
    let l : length r ≡ length s - line_length s = ap length f1 ∙ length-drop (line_length s) s in (
      line_length s + 1,
      rw h (omega arith),
      past_more c s r (line_length s) (line_length s + 1) 0 (no_end c s h)
          (record { rest = f1; within = short; lines = omega (arith, lr); few = omega (arith, l) }) refl,
    )

-- `/*`
pub block_comment : (i after r : List ℕ) (k ended : ℕ) → begins (λ c. c == 47) i ≡ false → begins (λ c. c == 42) i ≡ true → after ≡ drop 1 i → block_length after ≡ Some k
    → IsPast after k r ended → (n : ℕ) × (comment_length i ≡ n + 1) × IsPast i n r ended
block_comment [] after r k ended g h e b p = absurd (never (sym h))
block_comment (c ∷ s) after r k ended g h e b p =
    let tail : after ≡ s = e in
    let b1 : block_length s ≡ Some k = ap block_length (sym tail) ∙ b in
    let p1 : IsPast s k r ended = subst (λ z. IsPast z k r ended) tail p in
    (k + 1, rw (g, h, b1) (omega arith), past_more c s r k (k + 1) ended (no_end_star c s h) p1 refl)

pub open_comment : (i after : List ℕ) → begins (λ c. c == 47) i ≡ false → after ≡ drop 1 i → block_length after ≡ None → comment_length i ≡ 0
open_comment [] after g e b = refl
open_comment (c ∷ s) after g e b =
    let b1 : block_length s ≡ None = ap block_length (sym e) ∙ b in
    elim (cases (c == 42)) [ inl h ↦ rw (g, h, b1) refl | inr h ↦ rw (g, h) refl ]

pub no_comment : (i : List ℕ) → begins (λ c. c == 47) i ≡ false → begins (λ c. c == 42) i ≡ false → comment_length i ≡ 0
no_comment [] g h = refl
no_comment (c ∷ s) g h = rw (g, h) refl

-- one white character
pub white_blank : (i r : List ℕ) (c m : ℕ) → slice_get i 0 ≡ Some c → r ≡ drop 1 i → is_white c ≡ true → m ≡ line_count c r → (0 < blank_length i) × IsPast i (blank_length i) r m
white_blank [] r c m first e h l = absurd (none_some first)
white_blank (d ∷ s) r c m first e h l =
    let same : d ≡ c = some_one first in
    let tail : r ≡ s = e in
    let n : blank_length (d ∷ s) ≡ 1 = rw (ap is_white same ∙ h) refl in
    let count : m ≡ line_count d s = l ∙ ap (λ z. line_count c z) tail ∙ ap (λ z. line_count z s) (sym same) in
    let small = count_small (ends_line d s) in
    let lr : line_ends r ≡ line_ends s = ap line_ends tail in
    let nr : length r ≡ length s = ap length tail in
    (omega (arith, n), record { rest = e ∙ sym (ap (λ z. drop z (d ∷ s)) n); within = omega (arith, n); lines = omega (arith, lr, count); few = omega (arith, nr, count, small) })

not_white : (c : ℕ) → (c == 47) ≡ true → is_white c ≡ false
not_white c h = ap is_white (same_number c 47 h)

-- a comment
pub comment_blank : (i s r : List ℕ) (c n ended : ℕ) → slice_get i 0 ≡ Some c → s ≡ drop 1 i → (c == 47) ≡ true → comment_length s ≡ n + 1 → IsPast s n r ended
    → (0 < blank_length i) × IsPast i (blank_length i) r ended
comment_blank [] s r c n ended first e h l p = absurd (none_some first)
comment_blank (d ∷ u) s r c n ended first e h l p =
    let same : d ≡ c = some_one first in
    let tail : s ≡ u = e in
    let hd : (d == 47) ≡ true = ap (λ z. z == 47) same ∙ h in
    let w = not_white d hd in
    let k : blank_length (d ∷ u) ≡ n + 1 = rw (w, hd) (ap comment_length (sym tail) ∙ l) in
    (omega (arith, k), past_more d u r n (blank_length (d ∷ u)) ended (no_end d u hd) (subst (λ z. IsPast z n r ended) tail p) k)

pub no_comment_blank : (i s : List ℕ) (c : ℕ) → slice_get i 0 ≡ Some c → s ≡ drop 1 i → (c == 47) ≡ true → comment_length s ≡ 0 → blank_length i ≡ 0
no_comment_blank [] s c first e h l = refl
no_comment_blank (d ∷ u) s c first e h l =
    let hd : (d == 47) ≡ true = ap (λ z. z == 47) (some_one first) ∙ h in
    rw (not_white d hd, hd) (ap comment_length (sym e) ∙ l)

pub no_blank : (i : List ℕ) (c : ℕ) → slice_get i 0 ≡ Some c → is_white c ≡ false → (c == 47) ≡ false → blank_length i ≡ 0
no_blank [] c first w h = refl
no_blank (d ∷ u) c first w h = let same : d ≡ c = some_one first in rw (ap is_white same ∙ w, ap (λ z. z == 47) same ∙ h) refl

pub no_blank_end : (i : List ℕ) → slice_get i 0 ≡ None → blank_length i ≡ 0
no_blank_end [] e = refl
no_blank_end (c ∷ s) e = absurd (none_some (sym e))

-- ---- all blanks

pub record InBlanks (t x : List ℕ) (n : ℕ) : Type 0 where
  pub to : (r : List ℕ) → Blanks x r → Blanks t r
  pub lines : n + line_ends x ≡ line_ends t
  pub few : n + length x ≤ length t

pub blanks_none : (t : List ℕ) → InBlanks t t 0
blanks_none t = record { to = λ r h. h; lines = omega arith; few = omega arith }

pub blanks_more : (t x y : List ℕ) (n m : ℕ) → InBlanks t x n → 0 < blank_length x → IsPast x (blank_length x) y m → InBlanks t y (n + m)
blanks_more t x y n m b some p =
    record { to = λ r h. b.to r (Blanks.blank x r some (subst (λ z. Blanks z r) p.rest h)); lines = omega (arith, b.lines, p.lines); few = omega (arith, b.few, p.few) }

pub blank_shorter : (x y : List ℕ) (m : ℕ) → 0 < blank_length x → IsPast x (blank_length x) y m → length y < length x
blank_shorter x y m some p = let l : length y ≡ length x - blank_length x = ap length p.rest ∙ length-drop (blank_length x) x in omega (arith, l, p.within, some)

pub blanks_all : (t x : List ℕ) (n : ℕ) → InBlanks t x n → blank_length x ≡ 0 → IsPastBlanks t x n
blanks_all t x n b stop = record { blanks = b.to x (Blanks.here x); stops = stop; lines = b.lines; few = b.few }
