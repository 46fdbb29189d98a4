-- What stands at the front of some bytes, and that it stays where more bytes come.
use Rattle.std.proofs.Common.{◌≡◌, ◌<◌, ◌≤◌, ◌+◌, ◌-◌, ◌++◌, ◌&&◌, ℕ, List, [], ◌∷◌, length, take, drop, refl, sym, ap, ◌∙◌, subst, arith, Bool, true, false, cond, inl, inr, eqb, Option, None, Some, append-nil, append_assoc, min, leb, nat_lt}
use Rattle.std.specs.Option.{option_map, is_some}
use Rattle.std.proofs.lemmas.Bool.{cases_lt, and_parts, and_right, le-leb, lt-leb, false≢true}
use Rattle.std.proofs.lemmas.List.{take-append-le, drop-append-le, take_all, take-take, drop-take, length-append, length-take, length-drop, drop-drop}
use Rattle.std.proofs.Math.Seq.{take-append-add}
use Rattle.http_in.specs.declared.decide.Framed.TheVariants as frames
use Rattle.http_in.specs.declared.decide.Progress.{Progress}
use Rattle.http_in.specs.declared.head.Place.{Place}
use Rattle.http_in.specs.declared.request.Request.{Request}
use Rattle.http_in.specs.declared.head.Place.TheVariants as places
use Rattle.http_in.specs.Head.{max_head, starts_with_lf, behind_empty_lines, empty_line, head_len, from_head, head_start}
use Rattle.http_in.specs.Requests.{Front, Whole, Refused, Nothing, Part, HeadSays, StandsBy, StandsAt, without_head, too_long_status}
use Rattle.http_in.specs.Deciding.{FramedIs, IsPlace, IsUndecided, IsProgress}
use Rattle.http_in.proofs.Scanning.{is_passed, passed_stays}

-- ---- the first bytes

take_both : (n : ℕ) (xs ys : List ℕ) → take n (xs ++ ys) ≡ take n xs ++ take (n - length xs) ys
take_both n xs ys = elim (cases_lt n (length xs)) [
  | inl short ↦
      let none : n - length xs ≡ 0 = omega arith in
      take-append-le n xs ys (omega arith) ∙ sym (append-nil (take n xs)) ∙ sym (ap (λ k. take n xs ++ take k ys) none)
  | inr long ↦
      let all : length xs + (n - length xs) ≡ n = omega arith in
      ap (λ k. take k (xs ++ ys)) (sym all) ∙ take-append-add xs ys (n - length xs) ∙ ap (λ zs. zs ++ take (n - length xs) ys) (sym (take_all n xs long))
]

-- what more bytes add to the first 16,384
abbrev pub added : List ℕ → List ℕ → List ℕ
added bytes more = take (max_head - length bytes) more

pub window_more : (bytes more : List ℕ) → take max_head (bytes ++ more) ≡ take max_head bytes ++ added bytes more
window_more bytes more = take_both max_head bytes more

pub window_is : (bytes : List ℕ) (n : ℕ) → n ≡ min (length bytes) max_head → take n bytes ≡ take max_head bytes
window_is bytes n is = elim (cases_lt (length bytes) max_head) [
  | inl short ↦ take_all n bytes (omega arith) ∙ sym (take_all max_head bytes (omega arith))
  | inr long ↦ let all : n ≡ max_head = omega arith in ap (λ k. take k bytes) all
]

-- ---- a head that ends

alone_has_none : (b : ℕ) → head_len (b ∷ []) ≡ None
alone_has_none b = ap (λ t. option_map (λ n. 1 + n) (cond t None None)) (and_right (eqb b 10) false refl)

none_is_not : (o : Option ℕ) (n : ℕ) → o ≡ None → o ≡ Some n → ⊥
none_is_not o n p q = cc

passed_same : (b : ℕ) (bs more : List ℕ) (n : ℕ) → head_len (b ∷ bs) ≡ Some n → is_passed b bs ≡ false → is_passed b (bs ++ more) ≡ false
passed_same b [] more n ends h = absurd (none_is_not _ n (alone_has_none b) ends)
passed_same b (c ∷ cs) more n ends h = h

behind_by : (b : ℕ) (bs more : List ℕ) (n : ℕ) (t : Bool) → is_passed b bs ≡ t → (head_len (behind_empty_lines bs) ≡ Some n → behind_empty_lines (bs ++ more) ≡ behind_empty_lines bs ++ more)
    → head_len (cond t (behind_empty_lines bs) (b ∷ bs)) ≡ Some n → behind_empty_lines (b ∷ bs ++ more) ≡ cond t (behind_empty_lines bs) (b ∷ bs) ++ more
behind_by b bs more n true e later ends =
    ap (λ t. cond t (behind_empty_lines (bs ++ more)) (b ∷ bs ++ more)) (passed_stays b bs more e) ∙ later ends
behind_by b bs more n false e later ends =
    ap (λ t. cond t (behind_empty_lines (bs ++ more)) (b ∷ bs ++ more)) (passed_same b bs more n ends e)

pub behind_more : (bytes more : List ℕ) (n : ℕ) → head_len (behind_empty_lines bytes) ≡ Some n → behind_empty_lines (bytes ++ more) ≡ behind_empty_lines bytes ++ more
behind_more [] more n ends = cc
behind_more (b ∷ bs) more n ends = behind_by b bs more n (is_passed b bs) refl (behind_more bs more n) ends

-- an empty line that stands whole, or before which a head ends
abbrev line_by : Bool → Bool → Option ℕ
line_by t u = cond t (Some 1) (cond u (Some 2) None)

empty_alone : (c : ℕ) (more : List ℕ) (t : Bool) → eqb c 10 ≡ t → is_some {T = ℕ} (cond t (Some 1) (cond (eqb c 13 && false) (Some 2) None)) ≡ true
    → line_by t (eqb c 13 && starts_with_lf more) ≡ line_by t (eqb c 13 && false)
empty_alone c more true e h = refl
empty_alone c more false e h =
    let none : is_some {T = ℕ} (cond (eqb c 13 && false) (Some 2) None) ≡ false = ap (λ t. is_some {T = ℕ} (cond t (Some 2) None)) (and_right (eqb c 13) false refl) in
    absurd (false≢true (sym none ∙ h))

empty_more : (bs more : List ℕ) → is_some (empty_line bs) ≡ true → empty_line (bs ++ more) ≡ empty_line bs
empty_more [] more h = absurd (false≢true h)
empty_more (c ∷ []) more h = empty_alone c more (eqb c 10) refl h
empty_more (c ∷ d ∷ ds) more h = refl

empty_same : (bs more : List ℕ) (n : ℕ) → head_len bs ≡ Some n → empty_line (bs ++ more) ≡ empty_line bs
empty_same [] more n ends = cc
empty_same (c ∷ []) more n ends = absurd (none_is_not _ n (alone_has_none c) ends)
empty_same (c ∷ d ∷ ds) more n ends = refl

mapped : (o : Option ℕ) (n : ℕ) → option_map (λ k. 1 + k) o ≡ Some n → (k : ℕ) × (o ≡ Some k) × (n ≡ 1 + k)
mapped None n e = cc
mapped (Some k) n e = (k, refl, cc)

head_by : (b : ℕ) (bs more : List ℕ) (n : ℕ) (t : Bool) → (eqb b 10 && is_some (empty_line bs)) ≡ t → ((k : ℕ) → head_len bs ≡ Some k → head_len (bs ++ more) ≡ Some k)
    → option_map (λ k. 1 + k) (cond t (empty_line bs) (head_len bs)) ≡ Some n → head_len (b ∷ bs ++ more) ≡ Some n
head_by b bs more n true e later ends =
    let same = empty_more bs more (and_parts (eqb b 10) (is_some (empty_line bs)) e).1 in
    ap (λ o. option_map (λ k. 1 + k) (cond (eqb b 10 && is_some o) o (head_len (bs ++ more)))) same
    ∙ ap (λ t. option_map (λ k. 1 + k) (cond t (empty_line bs) (head_len (bs ++ more)))) e ∙ ends
head_by b bs more n false e later ends =
    let (k, inner, is) = mapped (head_len bs) n ends in
    let same = empty_same bs more k inner in
    ap (λ o. option_map (λ k. 1 + k) (cond (eqb b 10 && is_some o) o (head_len (bs ++ more)))) same
    ∙ ap (λ t. option_map (λ k. 1 + k) (cond t (empty_line bs) (head_len (bs ++ more)))) e
    ∙ ap (λ o. option_map (λ k. 1 + k) o) (later k inner ∙ sym inner) ∙ ends

pub head_more : (bytes more : List ℕ) (n : ℕ) → head_len bytes ≡ Some n → head_len (bytes ++ more) ≡ Some n
head_more [] more n ends = cc
head_more (b ∷ bs) more n ends = head_by b bs more n (eqb b 10 && is_some (empty_line bs)) refl (head_more bs more) ends

two_fit : (bs : List ℕ) (c k : ℕ) (t : Bool) → starts_with_lf bs ≡ t → cond (eqb c 13 && t) (Some 2) None ≡ Some k → k ≤ length (c ∷ bs)
two_fit [] c k true e h = absurd (false≢true e)
two_fit (d ∷ ds) c k true e h = by (eqb c 13) h
  where
    by : (u : Bool) → cond (u && true) (Some 2) None ≡ Some k → k ≤ length (c ∷ d ∷ ds)
    by true h = let is : 2 ≡ k = cc in omega arith
    by false h = cc
two_fit bs c k false e h =
    let none : cond (eqb c 13 && false) (Some 2) None ≡ None = ap (λ t. cond t (Some 2) None) (and_right (eqb c 13) false refl) in
    absurd (none_is_not _ k none h)

empty_fits : (bs : List ℕ) (k : ℕ) → empty_line bs ≡ Some k → k ≤ length bs
empty_fits [] k e = cc
empty_fits (c ∷ bs) k e = by (eqb c 10) e
  where
    by : (t : Bool) → cond t (Some 1) (cond (eqb c 13 && starts_with_lf bs) (Some 2) None) ≡ Some k → k ≤ length (c ∷ bs)
    by true h = let is : 1 ≡ k = cc in omega arith
    by false h = two_fit bs c k (starts_with_lf bs) refl h

fits_by : (b : ℕ) (bs : List ℕ) (n : ℕ) (t : Bool) → ((k : ℕ) → head_len bs ≡ Some k → k ≤ length bs)
    → option_map (λ k. 1 + k) (cond t (empty_line bs) (head_len bs)) ≡ Some n → n ≤ length (b ∷ bs)
fits_by b bs n true later ends = let (k, inner, is) = mapped (empty_line bs) n ends in let less = empty_fits bs k inner in omega arith
fits_by b bs n false later ends = let (k, inner, is) = mapped (head_len bs) n ends in let less = later k inner in omega arith

pub head_fits : (bytes : List ℕ) (n : ℕ) → head_len bytes ≡ Some n → n ≤ length bytes
head_fits [] n ends = cc
head_fits (b ∷ bs) n ends = fits_by b bs n (eqb b 10 && is_some (empty_line bs)) (head_fits bs) ends

-- ---- a head, and the bytes behind it

pub record HasHead (bytes head behind : List ℕ) : Type 0 where
  pub len : ℕ
  pub ends : head_len (from_head bytes) ≡ Some len
  pub head_is : take len (from_head bytes) ≡ head
  pub behind_is : drop (head_start bytes + len) bytes ≡ behind
  pub fits : head_start bytes + len ≤ length (take max_head bytes)

from_more : (bytes more : List ℕ) (n : ℕ) → head_len (from_head bytes) ≡ Some n → from_head (bytes ++ more) ≡ from_head bytes ++ added bytes more
unfolding from_head
from_more bytes more n ends = ap behind_empty_lines (window_more bytes more) ∙ behind_more (take max_head bytes) (added bytes more) n ends

start_more : (bytes more : List ℕ) (n : ℕ) → head_len (from_head bytes) ≡ Some n → head_start (bytes ++ more) ≡ head_start bytes
unfolding head_start
start_more bytes more n ends =
    let front = ap length (from_more bytes more n ends) ∙ length-append (from_head bytes) (added bytes more) in
    let all = ap length (window_more bytes more) ∙ length-append (take max_head bytes) (added bytes more) in
    omega (arith, front, all)

pub has_head_more : (bytes head behind more : List ℕ) → HasHead bytes head behind → HasHead (bytes ++ more) head (behind ++ more)
has_head_more bytes head behind more has =
    let start = start_more bytes more has.len has.ends in
    let front = from_more bytes more has.len has.ends in
    let inside = head_fits (from_head bytes) has.len has.ends in
    let whole = has.fits in
    let window = length-take max_head bytes in
    let now = ap length (window_more bytes more) ∙ length-append (take max_head bytes) (added bytes more) in
    record {
      len = has.len;
      ends = ap head_len front ∙ head_more (from_head bytes) (added bytes more) has.len has.ends;
      head_is = ap (take has.len) front ∙ take-append-le has.len (from_head bytes) (added bytes more) inside ∙ has.head_is;
      behind_is =
          ap (λ n. drop (n + has.len) (bytes ++ more)) start ∙ drop-append-le (head_start bytes + has.len) bytes more (omega (arith, window, whole))
          ∙ ap (λ xs. xs ++ more) has.behind_is;
      fits = omega (arith, start, now, whole);
    }

pub stands_with : (number : ℕ) (bytes head behind : List ℕ) (front : Front) → HasHead bytes head behind → HeadSays number head behind front → StandsAt number bytes front
unfolding StandsAt
stands_with number bytes head behind front has says =
    subst (λ o. StandsBy number bytes o front) (sym has.ends)
    (subst (λ xs. HeadSays number xs (drop (head_start bytes + has.len) bytes) front) (sym has.head_is)
    (subst (λ ys. HeadSays number head ys front) (sym has.behind_is) says))

pub stands_without : (number : ℕ) (bytes : List ℕ) (front : Front) → head_len (from_head bytes) ≡ None → front ≡ without_head bytes → StandsAt number bytes front
unfolding StandsAt
stands_without number bytes front none is = subst (λ o. StandsBy number bytes o front) (sym none) is

-- ---- a head that was found

pub framed_from : (bytes : List ℕ) (start : ℕ) → behind_empty_lines (take max_head bytes) ≡ drop start (take max_head bytes) → from_head bytes ≡ drop start (take max_head bytes)
unfolding from_head
framed_from bytes start is = is

pub framed_none : (bytes : List ℕ) → head_len (behind_empty_lines (take max_head bytes)) ≡ None → head_len (from_head bytes) ≡ None
unfolding from_head
framed_none bytes is = is

framed_start : (bytes : List ℕ) (start : ℕ) → start ≤ length (take max_head bytes) → from_head bytes ≡ drop start (take max_head bytes) → head_start bytes ≡ start
unfolding head_start
framed_start bytes start within is =
    let front = ap length is ∙ length-drop start (take max_head bytes) in
    omega (arith, front, within)

pub framed_head : (bytes : List ℕ) (start len : ℕ) → FramedIs (frames.Head start len) (take max_head bytes) → HasHead bytes (take len (drop start bytes)) (drop (start + len) bytes)
framed_head bytes start len framed =
    let from = framed_from bytes start framed.2 in
    let within = framed.0 in
    let window = length-take max_head bytes in
    let at = framed_start bytes start (omega (arith, within)) from in
    let cut : drop start (take max_head bytes) ≡ take (max_head - start) (drop start bytes) =
    let all : max_head ≡ start + (max_head - start) = omega (arith, within, window) in
    ap (λ n. drop start (take n bytes)) all ∙ drop-take start (max_head - start) bytes in
    record {
      len = len;
      ends = ap head_len (from ∙ sym framed.2) ∙ framed.1;
      head_is = ap (take len) (from ∙ cut) ∙ take-take len (max_head - start) (drop start bytes) (omega (arith, within, window));
      behind_is = ap (λ n. drop (n + len) bytes) at;
      fits = subst (λ n. n + len ≤ length (take max_head bytes)) (sym at) within;
    }

-- ---- what is not decided

pub part_undecided : (number : ℕ) (bytes head behind : List ℕ) → HasHead bytes head behind → HeadSays number head behind Part → IsUndecided number bytes
part_undecided number bytes head behind has says = inr (stands_with number bytes head behind Part has says)

without_by : (number : ℕ) (bytes : List ℕ) (u : Bool) → nat_lt 0 (length (from_head bytes)) ≡ u → leb max_head (length bytes) ≡ false → head_len (from_head bytes) ≡ None → IsUndecided number bytes
unfolding without_head
without_by number bytes true some short none =
    inr (stands_without number bytes Part none
    (sym (ap (λ t. cond t (Refused (too_long_status (from_head bytes))) (cond (nat_lt 0 (length (from_head bytes))) Part Nothing)) short ∙ ap (λ u. cond u Part Nothing) some)))
without_by number bytes false some short none =
    inl (stands_without number bytes Nothing none
    (sym (ap (λ t. cond t (Refused (too_long_status (from_head bytes))) (cond (nat_lt 0 (length (from_head bytes))) Part Nothing)) short ∙ ap (λ u. cond u Part Nothing) some)))

-- no head ends there, and more bytes may come
pub short_undecided : (number : ℕ) (bytes : List ℕ) → head_len (from_head bytes) ≡ None → length bytes < max_head → IsUndecided number bytes
short_undecided number bytes none short =
    without_by number bytes (nat_lt 0 (length (from_head bytes))) refl (lt-leb max_head (length bytes) short) none

-- no head ends there in time
pub too_long : (number : ℕ) (bytes : List ℕ) → head_len (from_head bytes) ≡ None → max_head ≤ length bytes → StandsAt number bytes (Refused (too_long_status (from_head bytes)))
unfolding without_head
too_long number bytes none long =
    stands_without number bytes (Refused (too_long_status (from_head bytes))) none
    (sym (ap (λ t. cond t (Refused (too_long_status (from_head bytes))) (cond (nat_lt 0 (length (from_head bytes))) Part Nothing)) (le-leb max_head (length bytes) long)))

-- ---- what a head that was found decides

behind_short : (bytes more : List ℕ) (at n : ℕ) → at ≤ length bytes → length (bytes ++ more) < at + n → length (drop at bytes ++ more) < n
behind_short bytes more at n within short =
    let all = length-append bytes more in
    let behind = length-append (drop at bytes) more in
    let rest = length-drop at bytes in
    omega (arith, all, behind, rest, within, short)

pub decided_whole : (number : ℕ) (bytes : List ℕ) (start len n : ℕ) (request : Request) → FramedIs (frames.Head start len) (take max_head bytes) → start + len ≤ length bytes
    → n ≤ length (drop (start + len) bytes) → HeadSays number (take len (drop start bytes)) (drop (start + len) bytes) (Whole request (drop n (drop (start + len) bytes)))
    → (start + len + n ≤ length bytes) × StandsAt number bytes (Whole request (drop (start + len + n) bytes))
decided_whole number bytes start len n request framed within fits says = (
  (let rest = length-drop (start + len) bytes in omega (arith, rest, fits, within)),
  subst (λ xs. StandsAt number bytes (Whole request xs)) (drop-drop n (start + len) bytes)
      (stands_with number bytes (take len (drop start bytes)) (drop (start + len) bytes) (Whole request (drop n (drop (start + len) bytes))) (framed_head bytes start len framed) says),
)

pub decided_refused : (number : ℕ) (bytes : List ℕ) (start len status : ℕ) → FramedIs (frames.Head start len) (take max_head bytes)
    → ((others : List ℕ) → HeadSays number (take len (drop start bytes)) others (Refused status)) → StandsAt number bytes (Refused status)
decided_refused number bytes start len status framed says =
    stands_with number bytes (take len (drop start bytes)) (drop (start + len) bytes) (Refused status) (framed_head bytes start len framed) (says (drop (start + len) bytes))

pub decided_part : (number : ℕ) (bytes : List ℕ) (start len n : ℕ) (place : Place) → FramedIs (frames.Head start len) (take max_head bytes) → start + len ≤ length bytes
    → length (drop (start + len) bytes) < n → ((others : List ℕ) → length others < n → HeadSays number (take len (drop start bytes)) others Part)
    → IsPlace place (take max_head bytes) → IsUndecided number bytes × IsProgress number (record { place = place; need = start + len + n }) bytes
decided_part number bytes start len n place framed within short says is_place =
    let has = framed_head bytes start len framed in (
      part_undecided number bytes (take len (drop start bytes)) (drop (start + len) bytes) has (says (drop (start + len) bytes) short),
      record {
        place = is_place;
        need = λ more less.
            part_undecided number (bytes ++ more) (take len (drop start bytes)) (drop (start + len) bytes ++ more)
            (has_head_more bytes (take len (drop start bytes)) (drop (start + len) bytes) more has)
            (says (drop (start + len) bytes ++ more) (behind_short bytes more (start + len) n within less));
      },
    )

-- the same where no more bytes came than were looked for
pub needs_more : (number : ℕ) (progress : Progress) (bytes : List ℕ) → IsProgress number progress bytes → length bytes < progress.need → IsUndecided number bytes
needs_more number progress bytes so_far short =
    subst (λ xs. IsUndecided number xs) (append-nil bytes) (so_far.need [] (let same = ap length (append-nil bytes) in omega (arith, same, short)))

-- the head is still open
pub open_progress : (number : ℕ) (place : Place) (need : ℕ) (bytes : List ℕ) → IsPlace place (take max_head bytes) → need ≤ length bytes → IsProgress number (record { place = place; need = need }) bytes
open_progress number place need bytes is_place enough = record {
  place = is_place;
  need = λ more less. absurd (let all = length-append bytes more in omega (arith, all, less, enough));
}

-- ---- more bytes

place_more : (place : Place) (window more : List ℕ) → IsPlace place window → IsPlace place (window ++ more)
place_more (places.EmptyLines count) window more is = (
  (let all = length-append window more in let before = is.0 in omega (arith, all, before)),
  λ later. ap behind_empty_lines (append_assoc window more later) ∙ is.1 (more ++ later) ∙ sym (ap behind_empty_lines (append_assoc (drop count window) more later))
      ∙ ap (λ xs. behind_empty_lines (xs ++ later)) (sym (drop-append-le count window more is.0)),
)
place_more (places.Head start seen) window more is =
    let before = is.0 in
    let cut = drop-append-le start window more (omega (arith, before)) in
    let inner : seen ≤ length (drop start window) = let rest = length-drop start window in omega (arith, rest, before) in (
      (let all = length-append window more in omega (arith, all, before)),
      λ later. ap behind_empty_lines (append_assoc window more later) ∙ is.1 (more ++ later) ∙ sym (append_assoc (drop start window) more later)
          ∙ ap (λ xs. xs ++ later) (sym cut),
      λ later. ap (λ xs. head_len (xs ++ later)) cut ∙ ap head_len (append_assoc (drop start window) more later) ∙ is.2 (more ++ later)
          ∙ sym (ap (λ xs. option_map (λ n. seen + n) (head_len xs)) (append_assoc (drop seen (drop start window)) more later))
          ∙ ap (λ xs. option_map (λ n. seen + n) (head_len (xs ++ later))) (sym (drop-append-le seen (drop start window) more inner))
          ∙ ap (λ xs. option_map (λ n. seen + n) (head_len (drop seen xs ++ later))) (sym cut),
    )

-- what was known of some bytes is known where more come
pub progress_more : (number : ℕ) (progress : Progress) (bytes more : List ℕ) → IsProgress number progress bytes → IsProgress number progress (bytes ++ more)
progress_more number progress bytes more is = record {
  place = subst (λ xs. IsPlace progress.place xs) (sym (window_more bytes more)) (place_more progress.place (take max_head bytes) (added bytes more) is.place);
  need = λ later less. subst (λ xs. IsUndecided number xs) (sym (append_assoc bytes more later))
      (is.need (more ++ later) (let same = ap length (append_assoc bytes more later) in omega (arith, same, less)));
}

pub no_progress : (number : ℕ) (bytes : List ℕ) → IsProgress number (record { place = places.EmptyLines 0; need = 0 }) bytes
no_progress number bytes = record {
  place = (omega arith, λ more. refl);
  need = λ more less. absurd (omega (arith, less));
}

-- the first 16,384 bytes of some bytes are nothing but empty lines
pub from_is : (bytes : List ℕ) → from_head bytes ≡ behind_empty_lines (take max_head bytes)
unfolding from_head
from_is bytes = refl

pub from_of : (held slice : List ℕ) (n : ℕ) → slice ≡ held → n ≡ min (length slice) max_head → from_head held ≡ behind_empty_lines (take n slice)
from_of held slice n same least =
    let least_held : n ≡ min (length held) max_head = subst (λ xs. n ≡ min (length xs) max_head) same least in
    from_is held ∙ ap behind_empty_lines (sym (window_is held n least_held) ∙ ap (take n) (sym same))
