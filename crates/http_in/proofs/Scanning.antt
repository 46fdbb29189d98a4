-- Where a head begins and ends, looked for byte by byte.
use Rattle.std.proofs.Common.{◌≡◌, ◌<◌, ◌≤◌, ◌+◌, ◌++◌, ◌||◌, ◌&&◌, ℕ, List, [], ◌∷◌, length, drop, get_or, refl, sym, ap, ◌∙◌, subst, arith, Bool, true, false, not, cond, inl, inr, eqb, Option, None, Some}
use Rattle.std.specs.Option.{option_map, is_some}
use Rattle.std.proofs.lemmas.Bool.{or_cases, or_left, and_parts, and_left, and_right, and_from, false≢true, true≢false}
use Rattle.std.proofs.lemmas.List.{drop_more, drop_all, drop-drop, append-nil}
use Rattle.http_in.specs.Head.{starts_with_lf, behind_empty_lines, empty_line, head_len}
use Rattle.http_in.specs.Deciding.{PassesOver, Passes, BeginsAt, has_begun}

-- ---- empty lines

-- the byte belongs to an empty line
abbrev pub is_passed : ℕ → List ℕ → Bool
is_passed b rest = eqb b 10 || (eqb b 13 && starts_with_lf rest)

pub passed_stays : (b : ℕ) (rest more : List ℕ) → is_passed b rest ≡ true → is_passed b (rest ++ more) ≡ true
passed_stays b [] more h = elim (or_cases (eqb b 10) (eqb b 13 && false) h) [
  | inl p ↦ or_left (eqb b 10) (eqb b 13 && starts_with_lf more) p
  | inr q ↦ absurd (false≢true (and_parts (eqb b 13) false q).1)
]
passed_stays b (c ∷ cs) more h = h

passed_over : (b : ℕ) (rest more : List ℕ) → is_passed b rest ≡ true → behind_empty_lines (b ∷ rest ++ more) ≡ behind_empty_lines (rest ++ more)
passed_over b rest more h = ap (λ t. cond t (behind_empty_lines (rest ++ more)) (b ∷ rest ++ more)) (passed_stays b rest more h)

-- one more byte is passed over
pub passes_over_more : (bytes : List ℕ) (i : ℕ) → i < length bytes → is_passed (get_or bytes i 0) (drop (i + 1) bytes) ≡ true → PassesOver i bytes → PassesOver (i + 1) bytes
passes_over_more bytes i within h so_far =
    λ more. so_far more ∙ ap (λ xs. behind_empty_lines (xs ++ more)) (drop_more bytes i 0 within) ∙ passed_over (get_or bytes i 0) (drop (i + 1) bytes) more h

-- with no more bytes
pub passes_over_now : (bytes : List ℕ) (i : ℕ) → PassesOver i bytes → behind_empty_lines bytes ≡ behind_empty_lines (drop i bytes)
passes_over_now bytes i passes = ap behind_empty_lines (sym (append-nil bytes)) ∙ passes [] ∙ ap behind_empty_lines (append-nil (drop i bytes))

-- a byte that isn't passed over
pub stops_at : (bytes : List ℕ) (i : ℕ) → i < length bytes → is_passed (get_or bytes i 0) (drop (i + 1) bytes) ≡ false → PassesOver i bytes → behind_empty_lines bytes ≡ drop i bytes
stops_at bytes i within h passes =
    passes_over_now bytes i passes ∙ ap behind_empty_lines (drop_more bytes i 0 within)
    ∙ ap (λ t. cond t (behind_empty_lines (drop (i + 1) bytes)) (get_or bytes i 0 ∷ drop (i + 1) bytes)) h ∙ sym (drop_more bytes i 0 within)

pub all_passed : (bytes : List ℕ) → PassesOver (length bytes) bytes → behind_empty_lines bytes ≡ drop (length bytes) bytes
all_passed bytes passes =
    let none = drop_all (length bytes) bytes (omega arith) in
    passes_over_now bytes (length bytes) passes ∙ ap behind_empty_lines none ∙ sym none

pub passes_over_both : (bytes : List ℕ) (m n : ℕ) → PassesOver m bytes → PassesOver n (drop m bytes) → PassesOver (m + n) bytes
passes_over_both bytes m n first second = λ more. first more ∙ second more ∙ ap (λ xs. behind_empty_lines (xs ++ more)) (drop-drop n m bytes)

pub behind_both : (bytes : List ℕ) (m n : ℕ) → PassesOver m bytes → behind_empty_lines (drop m bytes) ≡ drop n (drop m bytes) → behind_empty_lines bytes ≡ drop (m + n) bytes
behind_both bytes m n first second = passes_over_now bytes m first ∙ second ∙ drop-drop n m bytes

pub begins_now : (bytes : List ℕ) (start : ℕ) → BeginsAt start bytes → behind_empty_lines bytes ≡ drop start bytes
begins_now bytes start begins = ap behind_empty_lines (sym (append-nil bytes)) ∙ begins [] ∙ append-nil (drop start bytes)

-- ---- the head's first byte

no_longer : (b : ℕ) (bs : List ℕ) (t : Bool) → length (behind_empty_lines bs) ≤ length bs → length (cond t (behind_empty_lines bs) (b ∷ bs)) ≤ length (b ∷ bs)
no_longer b bs true less = omega arith
no_longer b bs false less = omega arith

pub shorter : (bytes : List ℕ) → length (behind_empty_lines bytes) ≤ length bytes
shorter [] = omega arith
shorter (b ∷ bs) = no_longer b bs (is_passed b bs) (shorter bs)

-- a front that no byte was passed of
not_passed : (b : ℕ) (bs : List ℕ) → behind_empty_lines (b ∷ bs) ≡ b ∷ bs → is_passed b bs ≡ false
not_passed b bs same = by (is_passed b bs) refl
  where
    by : (t : Bool) → is_passed b bs ≡ t → t ≡ false
    by true e =
        let now : behind_empty_lines bs ≡ b ∷ bs = sym (ap (λ t. cond t (behind_empty_lines bs) (b ∷ bs)) e) ∙ same in
        let less = shorter bs in
        absurd (omega (arith, ap length now))
    by false e = refl

stays_begun : (b : ℕ) (bs : List ℕ) (more : List ℕ) → is_passed b (bs ++ more) ≡ false → behind_empty_lines (b ∷ bs ++ more) ≡ b ∷ bs ++ more
stays_begun b bs more e = ap (λ t. cond t (behind_empty_lines (bs ++ more)) (b ∷ bs ++ more)) e

alone : (b : ℕ) (more : List ℕ) → is_passed b [] ≡ false → not (eqb b 13) ≡ true → is_passed b more ≡ false
alone b more e h =
    let lf : eqb b 10 ≡ false = or_first (eqb b 10) (eqb b 13 && false) e in
    let cr : eqb b 13 ≡ false = negated (eqb b 13) h in
    or_none (eqb b 10) (eqb b 13 && starts_with_lf more) lf (and_left (eqb b 13) (starts_with_lf more) cr)
  where
    or_first : (x y : Bool) → (x || y) ≡ false → x ≡ false
    or_first true y e = e
    or_first false y e = refl

    negated : (x : Bool) → not x ≡ true → x ≡ false
    negated true h = absurd (false≢true h)
    negated false h = refl

    or_none : (x y : Bool) → x ≡ false → y ≡ false → (x || y) ≡ false
    or_none x y p q = ap (λ t. t || y) p ∙ q

-- where the head has begun it stays, whatever follows
pub begun_stays : (xs : List ℕ) → behind_empty_lines xs ≡ xs → has_begun xs ≡ true → (more : List ℕ) → behind_empty_lines (xs ++ more) ≡ xs ++ more
begun_stays [] same begun more = absurd (false≢true begun)
begun_stays (b ∷ []) same begun more = stays_begun b [] more (alone b more (not_passed b [] same) begun)
begun_stays (b ∷ c ∷ bs) same begun more = stays_begun b (c ∷ bs) more (not_passed b (c ∷ bs) same)

pub begins_at : (bytes : List ℕ) (start : ℕ) → PassesOver start bytes → behind_empty_lines bytes ≡ drop start bytes → has_begun (drop start bytes) ≡ true → BeginsAt start bytes
begins_at bytes start passes now begun =
    λ more. passes more ∙ begun_stays (drop start bytes) (sym (passes_over_now bytes start passes) ∙ now) begun more

pub not_begun : (xs : List ℕ) → has_begun xs ≡ false → head_len xs ≡ None
not_begun [] h = refl
not_begun (b ∷ []) h = ap (λ t. option_map (λ n. 1 + n) (cond t None None)) (and_right (eqb b 10) false refl)
not_begun (b ∷ c ∷ bs) h = absurd (true≢false h)

-- ---- the head's end

map_twice : (i : ℕ) (o : Option ℕ) → option_map (λ n. i + n) (option_map (λ n. 1 + n) o) ≡ option_map (λ n. i + 1 + n) o
map_twice i None = refl
map_twice i (Some n) = ap (λ k. Some k) (omega arith)

pub map_none : (o : Option ℕ) → option_map (λ n. 0 + n) o ≡ o
map_none None = refl
map_none (Some n) = ap (λ k. Some k) (omega arith)

one_more : (bytes : List ℕ) (i : ℕ) (more : List ℕ) → i < length bytes
    → (eqb (get_or bytes i 0) 10 && is_some (empty_line (drop (i + 1) bytes ++ more))) ≡ false
    → option_map (λ n. i + n) (head_len (drop i bytes ++ more)) ≡ option_map (λ n. i + 1 + n) (head_len (drop (i + 1) bytes ++ more))
one_more bytes i more within h =
    ap (λ xs. option_map (λ n. i + n) (head_len (xs ++ more))) (drop_more bytes i 0 within)
    ∙ ap (λ t. option_map (λ n. i + n) (option_map (λ n. 1 + n) (cond t (empty_line (drop (i + 1) bytes ++ more)) (head_len (drop (i + 1) bytes ++ more))))) h
    ∙ map_twice i (head_len (drop (i + 1) bytes ++ more))

-- a byte that ends no line
pub passes_byte : (bytes : List ℕ) (i : ℕ) → i < length bytes → eqb (get_or bytes i 0) 10 ≡ false → Passes i bytes → Passes (i + 1) bytes
passes_byte bytes i within h passes =
    λ more. passes more ∙ one_more bytes i more within (and_left (eqb (get_or bytes i 0) 10) (is_some (empty_line (drop (i + 1) bytes ++ more))) h)

-- a line's end before a line that isn't empty
pub passes_line : (bytes : List ℕ) (i : ℕ) → i < length bytes → ((more : List ℕ) → empty_line (drop (i + 1) bytes ++ more) ≡ None) → Passes i bytes → Passes (i + 1) bytes
passes_line bytes i within other passes =
    λ more. passes more ∙ one_more bytes i more within (and_right (eqb (get_or bytes i 0) 10) (is_some (empty_line (drop (i + 1) bytes ++ more))) (ap is_some (other more)))

pub passes_now : (bytes : List ℕ) (i : ℕ) → Passes i bytes → head_len bytes ≡ option_map (λ n. i + n) (head_len (drop i bytes))
passes_now bytes i passes = ap head_len (sym (append-nil bytes)) ∙ passes [] ∙ ap (λ xs. option_map (λ n. i + n) (head_len xs)) (append-nil (drop i bytes))

-- an empty line behind a line's end
pub ends_here : (bytes : List ℕ) (i len : ℕ) → i < length bytes → eqb (get_or bytes i 0) 10 ≡ true
    → ((more : List ℕ) → empty_line (drop (i + 1) bytes ++ more) ≡ Some len) → Passes i bytes → head_len bytes ≡ Some (i + 1 + len)
ends_here bytes i len within lf empty passes =
    let line : empty_line (drop (i + 1) bytes) ≡ Some len = ap empty_line (sym (append-nil (drop (i + 1) bytes))) ∙ empty [] in
    let ends : (eqb (get_or bytes i 0) 10 && is_some (empty_line (drop (i + 1) bytes))) ≡ true = and_from _ _ lf (ap is_some line) in
    passes_now bytes i passes ∙ ap (λ xs. option_map (λ n. i + n) (head_len xs)) (drop_more bytes i 0 within)
    ∙ ap (λ t. option_map (λ n. i + n) (option_map (λ n. 1 + n) (cond t (empty_line (drop (i + 1) bytes)) (head_len (drop (i + 1) bytes))))) ends
    ∙ ap (λ o. option_map (λ n. i + n) (option_map (λ n. 1 + n) o)) line ∙ ap (λ k. Some k) (omega arith)

-- a line that is still open behind a line's end
pub open_here : (bytes : List ℕ) (i : ℕ) → i < length bytes → empty_line (drop (i + 1) bytes) ≡ None → head_len (drop (i + 1) bytes) ≡ None → Passes i bytes → head_len bytes ≡ None
open_here bytes i within line none passes =
    let goes_on : (eqb (get_or bytes i 0) 10 && is_some (empty_line (drop (i + 1) bytes))) ≡ false = and_right _ _ (ap is_some line) in
    passes_now bytes i passes ∙ ap (λ xs. option_map (λ n. i + n) (head_len xs)) (drop_more bytes i 0 within)
    ∙ ap (λ t. option_map (λ n. i + n) (option_map (λ n. 1 + n) (cond t (empty_line (drop (i + 1) bytes)) (head_len (drop (i + 1) bytes))))) goes_on
    ∙ ap (λ o. option_map (λ n. i + n) (option_map (λ n. 1 + n) o)) none

pub no_end : (bytes : List ℕ) → Passes (length bytes) bytes → head_len bytes ≡ None
no_end bytes passes = passes_now bytes (length bytes) passes ∙ ap (λ xs. option_map (λ n. length bytes + n) (head_len xs)) (drop_all (length bytes) bytes (omega arith))

pub passes_none : (bytes : List ℕ) → Passes 0 bytes
passes_none bytes = λ more. sym (map_none (head_len (bytes ++ more)))

map_sum : (m n : ℕ) (o : Option ℕ) → option_map (λ k. m + k) (option_map (λ k. n + k) o) ≡ option_map (λ k. m + n + k) o
map_sum m n None = refl
map_sum m n (Some k) = ap (λ x. Some x) (omega arith)

pub passes_both : (xs : List ℕ) (m n : ℕ) → Passes m xs → Passes n (drop m xs) → Passes (m + n) xs
passes_both xs m n first second =
    λ more. first more ∙ ap (λ o. option_map (λ k. m + k) o) (second more) ∙ map_sum m n (head_len (drop n (drop m xs) ++ more))
    ∙ ap (λ ys. option_map (λ k. m + n + k) (head_len (ys ++ more))) (drop-drop n m xs)

-- a head that ends, looked for from a place on
pub found_end : (window : List ℕ) (start seen n : ℕ) → behind_empty_lines window ≡ drop start window → Passes seen (drop start window)
    → head_len (drop (start + seen) window) ≡ Some n → head_len (behind_empty_lines window) ≡ Some (seen + n)
found_end window start seen n begins passes ends =
    ap head_len begins ∙ passes_now (drop start window) seen passes ∙ ap (λ xs. option_map (λ k. seen + k) (head_len xs)) (drop-drop seen start window)
    ∙ ap (λ o. option_map (λ k. seen + k) o) ends

pub found_none : (window : List ℕ) (start seen : ℕ) → behind_empty_lines window ≡ drop start window → Passes seen (drop start window)
    → head_len (drop (start + seen) window) ≡ None → head_len (behind_empty_lines window) ≡ None
found_none window start seen begins passes none =
    ap head_len begins ∙ passes_now (drop start window) seen passes ∙ ap (λ xs. option_map (λ k. seen + k) (head_len xs)) (drop-drop seen start window)
    ∙ ap (λ o. option_map (λ k. seen + k) o) none

pub passes_on : (window : List ℕ) (start seen n : ℕ) → Passes seen (drop start window) → Passes n (drop (start + seen) window) → Passes (seen + n) (drop start window)
passes_on window start seen n first second = passes_both (drop start window) seen n first (subst (λ xs. Passes n xs) (sym (drop-drop seen start window)) second)
