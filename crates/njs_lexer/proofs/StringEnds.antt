-- Strings.
use Rattle.std.proofs.Common.{◌≡◌, ℕ, zero, suc, ◌+◌, ◌-◌, ◌<◌, ◌≤◌, Bool, true, false, ◌||◌, nat_lt, List, [], ◌∷◌, ◌++◌, length, drop, slice_get, Option, Some, None, Result, Ok, Err, refl, ap, sym, ◌∙◌, arith, ◌==◌, if◌then◌else◌, ◌⊎◌, inl, inr, length-drop}
use Rattle.std.proofs.lemmas.Bool.Decides.{nat_tests}
use Rattle.std.proofs.lemmas.List.{drop-drop}
use Rattle.njs_tree.specs.declared.token.LexFault.{LexFault}
use Rattle.njs_tree.specs.declared.token.LexFault.TheVariants as fault
use Rattle.njs_tree.specs.Characters.{is_letter, is_line_end}
use Rattle.njs_tree.specs.Lexemes.{Lexeme}
use Rattle.njs_tree.specs.Lexical.{is_decimal, is_quote, blank_length, escape_at, after_escape, one_more, string_from, string_of_length, string_fault, lexeme_at, fault_at}
use Rattle.njs_tree.specs.TokenList.{Begins}
use Rattle.njs_lexer.specs.Steps.{length_of, escape_fault, inside_length, EndsString}
use Rattle.njs_lexer.proofs.Runs.{cases, some_one, none_some, same_number}

err_ok : {A E : Type 0} {x : A} {f : E} → ◌≡◌ {A = Result A E} (Err f) (Ok x) → ⊥
err_ok e = cc

err_one : {A E : Type 0} {f g : E} → ◌≡◌ {A = Result A E} (Err f) (Err g) → f ≡ g
err_one e = cc

-- past so many characters
skip_ok : (q : ℕ) (s : List ℕ) (k : ℕ) (v : List ℕ) (n : ℕ) → string_from q (drop k s) 0 ≡ Ok (v, n) → (w : List ℕ) × (string_from q s k ≡ Ok (w, n + k))
skip_ok q s zero v n e = let z : n ≡ n + 0 = omega arith in (v, e ∙ ap (λ m. Ok (v, m)) z)
skip_ok q [] (suc k) v n e = absurd (err_ok e)
skip_ok q (c ∷ s) (suc k) v n e =
    let h = skip_ok q s k v n e in let z : n + k + 1 ≡ n + suc k = omega arith in ([] ++ h.0, ap (one_more []) h.1 ∙ ap (λ m. Ok ([] ++ h.0, m)) z)

skip_err : (q : ℕ) (s : List ℕ) (k : ℕ) (f : LexFault) → string_from q (drop k s) 0 ≡ Err f → string_from q s k ≡ Err f
skip_err q s zero f e = e
skip_err q [] (suc k) f e = e
skip_err q (c ∷ s) (suc k) f e = ap (one_more []) (skip_err q s k f e)

pub record InString (q : ℕ) (t x : List ℕ) : Type 0 where
  pub shorter : length x ≤ length t
  pub place : x ≡ drop (length t - length x) t
  pub ok : (v : List ℕ) (n : ℕ) → string_from q x 0 ≡ Ok (v, n) → (w : List ℕ) × (string_from q t 0 ≡ Ok (w, n + (length t - length x)))
  pub bad : (f : LexFault) → string_from q x 0 ≡ Err f → string_from q t 0 ≡ Err f

pub string_begins_here : (q : ℕ) (t : List ℕ) → InString q t t
string_begins_here q t =
    let z : length t - length t ≡ 0 = omega arith in
    record { shorter = omega arith; place = sym (ap (λ k. drop k t) z); ok = λ v n e. (v, e ∙ (let m : n ≡ n + (length t - length t) = omega arith in ap (λ k. Ok (v, k)) m)); bad = λ f e. e }

drop_past : (k : ℕ) (s : List ℕ) → length s ≤ k → drop k s ≡ []
drop_past zero [] h = refl
drop_past zero (c ∷ s) h = absurd (omega (arith, h))
drop_past (suc k) [] h = refl
drop_past (suc k) (c ∷ s) h = drop_past k s (omega (arith, h))

lt_le : (m n : ℕ) → nat_lt m n ≡ true → m ≤ n
lt_le m n h = grind (arith, nat_tests)

not_lt : (m j l : ℕ) → l ≡ m - j → nat_lt m j ≡ false → j ≡ m - l
not_lt m j l e h = grind (arith, nat_tests)

lt_all : (t x : List ℕ) (j : ℕ) → length x ≡ length t - j → nat_lt (length t) j ≡ true → length t ≤ length t - length x
lt_all t x j e h = let l = lt_le (length t) j h in omega (arith, l, e)

drop_place : (t x : List ℕ) (j : ℕ) → x ≡ drop j t → x ≡ drop (length t - length x) t
drop_place t x j e =
    let l : length x ≡ length t - j = ap length e ∙ length-drop j t in
    elim (cases (nat_lt (length t) j)) [
      | inl h ↦ e ∙ drop_past j t (lt_le (length t) j h) ∙ sym (drop_past (length t - length x) t (lt_all t x j l h))
      | inr h ↦ e ∙ ap (λ k. drop k t) (not_lt (length t) j (length x) l h)
    ]

by_length : (o : Option (List ℕ × ℕ)) (k : ℕ) → length_of o ≡ Some k → (w : List ℕ) × (o ≡ Some (w, k))
by_length None k e = absurd (none_some e)
by_length (Some x) k e = (x.0, ap (λ z. Some (x.0, z)) (some_one e))

if_some : (b : Bool) (x y : Option ℕ) → b ≡ true → (if b then x else y) ≡ x
if_some b x y h = rw h refl

if_none : (b : Bool) (x y : Option ℕ) → b ≡ false → (if b then x else y) ≡ y
if_none b x y h = rw h refl

if_result : (b : Bool) (x y : Result (List ℕ × ℕ) LexFault) → b ≡ true → (if b then x else y) ≡ x
if_result b x y h = rw h refl

if_other : (b : Bool) (x y : Result (List ℕ × ℕ) LexFault) → b ≡ false → (if b then x else y) ≡ y
if_other b x y h = rw h refl

string_if : (q c : ℕ) (s : List ℕ) → (c == q) ≡ false → is_line_end c ≡ false
    → string_from q (c ∷ s) 0 ≡ (if c == 92 then after_escape (escape_at s) s (string_from q s) else one_more (c ∷ []) (string_from q s 0))
string_if q c s a b = if_other (c == q) _ _ a ∙ if_other (is_line_end c) _ _ b

line_char : (q c : ℕ) (s : List ℕ) → (c == q) ≡ false → is_line_end c ≡ true → string_from q (c ∷ s) 0 ≡ Err fault.OpenText
line_char q c s a b = if_other (c == q) _ _ a ∙ if_result (is_line_end c) _ _ b

close_char : (q c : ℕ) (s : List ℕ) → (c == q) ≡ true → string_from q (c ∷ s) 0 ≡ Ok ([], 1)
close_char q c s a = if_result (c == q) _ _ a

no_length : (o : Option (List ℕ × ℕ)) → length_of o ≡ None → o ≡ None
no_length None e = refl
no_length (Some x) e = absurd (none_some (sym e))

none_after : (s : List ℕ) (rest : ℕ → Result (List ℕ × ℕ) LexFault) → after_escape None s rest ≡ Err (escape_fault s)
none_after [] rest = refl
none_after (c ∷ s) rest = refl

bad_char : (q c : ℕ) (s : List ℕ) (f : LexFault) → (c == q) ≡ false → is_line_end c ≡ false → inside_length c s ≡ None → f ≡ escape_fault s → string_from q (c ∷ s) 0 ≡ Err f
bad_char q c s f a b l e = elim (cases (c == 92)) [
  | inl h ↦
      let n = no_length (escape_at s) (sym (if_some (c == 92) _ _ h) ∙ l) in
      string_if q c s a b ∙ if_result (c == 92) _ _ h ∙ ap (λ z. after_escape z s (string_from q s)) n ∙ none_after s (string_from q s) ∙ ap Err (sym e)
  | inr h ↦ absurd (none_some (sym l ∙ if_none (c == 92) _ _ h))
]

some_left : (q : ℕ) (y v : List ℕ) (n : ℕ) → string_from q y 0 ≡ Ok (v, n) → 0 < length y
some_left q [] v n e = absurd (err_ok e)
some_left q (c ∷ s) v n e = omega arith

or_other : (a b : Bool) → a ≡ false → (a || b) ≡ b
or_other a b h = rw h refl

escaped_by : (s : List ℕ) (k : ℕ) → length_of (escape_at s) ≡ Some k → (w : List ℕ) × (escape_at s ≡ Some (w, k))
escaped_by s k e = by_length (escape_at s) k e

one_char : (q c : ℕ) (s : List ℕ) (k : ℕ) → (c == q) ≡ false → is_line_end c ≡ false → inside_length c s ≡ Some k
    → (w : List ℕ) × (string_from q (c ∷ s) 0 ≡ one_more w (string_from q s k))
one_char q c s k a b e = elim (cases (c == 92)) [
  | inl h ↦
      let l : length_of (escape_at s) ≡ Some k = sym (if_some (c == 92) _ _ h) ∙ e in
      let g = escaped_by s k l in
      (g.0, string_if q c s a b ∙ if_result (c == 92) _ _ h ∙ ap (λ z. after_escape z s (string_from q s)) g.1)
  | inr h ↦
      let z : 0 ≡ k = some_one (sym (if_none (c == 92) _ _ h) ∙ e) in
      (c ∷ [], string_if q c s a b ∙ if_other (c == 92) _ _ h ∙ ap (λ z. one_more (c ∷ []) (string_from q s z)) z)
]

pub inside_more : (q : ℕ) (t x after y : List ℕ) (c k : ℕ) → InString q t x → slice_get x 0 ≡ Some c → after ≡ drop 1 x → (c == q) ≡ false → is_line_end c ≡ false
    → inside_length c after ≡ Some k → y ≡ drop k after → InString q t y
inside_more q t [] after y c k i first e a b l h = absurd (none_some first)
inside_more q t (d ∷ s) after y c k i first e a b l h =
    let same : d ≡ c = some_one first in
    let tail : after ≡ s = e in
    let l1 : inside_length d s ≡ Some k = ap (λ z. inside_length z s) same ∙ ap (inside_length c) (sym tail) ∙ l in
    let one = one_char q d s k (ap (λ z. z == q) same ∙ a) (ap is_line_end same ∙ b) l1 in
    let y_is : y ≡ drop k s = h ∙ ap (drop k) tail in
    let y_len : length y ≡ length s - k = ap length y_is ∙ length-drop k s in
    record {
      shorter = omega (arith, y_len, i.shorter);
      place = drop_place t y ((length t - length (d ∷ s)) + (1 + k)) (y_is ∙ ap (λ z. drop k (drop 1 z)) i.place ∙ ap (drop k) (drop-drop 1 (length t - length (d ∷ s)) t) ∙ drop-drop k ((length t - length (d ∷ s)) + 1) t ∙ (let m : length t - length (d ∷ s) + 1 + k ≡ length t - length (d ∷ s) + (1 + k) = omega arith in ap (λ z. drop z t) m));
      ok = λ v n o.
          let g = skip_ok q s k v n (ap (λ z. string_from q z 0) (sym y_is) ∙ o) in
          let r = i.ok (one.0 ++ g.0) (n + k + 1) (one.1 ∙ ap (one_more one.0) g.1) in
          let some = some_left q y v n o in
          let m : n + k + 1 + (length t - length (d ∷ s)) ≡ n + (length t - length y) = omega (arith, y_len, i.shorter, some) in
          (r.0, r.1 ∙ ap (λ z. Ok (r.0, z)) m);
      bad = λ f o. i.bad f (one.1 ∙ ap (one_more one.0) (skip_err q s k f (ap (λ z. string_from q z 0) (sym y_is) ∙ o)));
    }

pub inside_bad : (q : ℕ) (t x after : List ℕ) (c : ℕ) (f : LexFault) → InString q t x → slice_get x 0 ≡ Some c → after ≡ drop 1 x → (c == q) ≡ false → is_line_end c ≡ false
    → inside_length c after ≡ None → f ≡ escape_fault after → string_from q t 0 ≡ Err f
inside_bad q t [] after c f i first e a b l h = absurd (none_some first)
inside_bad q t (d ∷ s) after c f i first e a b l h =
    let same : d ≡ c = some_one first in
    let tail : after ≡ s = e in
    let l1 : inside_length d s ≡ None = ap (λ z. inside_length z s) same ∙ ap (inside_length c) (sym tail) ∙ l in
    i.bad f (bad_char q d s f (ap (λ z. z == q) same ∙ a) (ap is_line_end same ∙ b) l1 (h ∙ ap escape_fault tail))

pub inside_over : (q : ℕ) (t x : List ℕ) → InString q t x → slice_get x 0 ≡ None → string_from q t 0 ≡ Err fault.OpenText
inside_over q t [] i first = i.bad fault.OpenText refl
inside_over q t (c ∷ s) i first = absurd (none_some (sym first))

pub inside_line : (q : ℕ) (t x : List ℕ) (c : ℕ) → InString q t x → slice_get x 0 ≡ Some c → (c == q) ≡ false → is_line_end c ≡ true → string_from q t 0 ≡ Err fault.OpenText
inside_line q t [] c i first a b = absurd (none_some first)
inside_line q t (d ∷ s) c i first a b =
    let same : d ≡ c = some_one first in i.bad fault.OpenText (line_char q d s (ap (λ z. z == q) same ∙ a) (ap is_line_end same ∙ b))

pub inside_closed : (q : ℕ) (t x r : List ℕ) (c : ℕ) → InString q t x → slice_get x 0 ≡ Some c → (c == q) ≡ true → r ≡ drop 1 x → EndsString q t r
inside_closed q t [] r c i first a e = absurd (none_some first)
inside_closed q t (d ∷ s) r c i first a e =
    let same : d ≡ c = some_one first in
    let g = i.ok [] 1 (close_char q d s (ap (λ z. z == q) same ∙ a)) in
    let m : length t - length (d ∷ s) + 1 ≡ 1 + (length t - length (d ∷ s)) = omega arith in
    (g.0, 1 + (length t - length (d ∷ s)), g.1, e ∙ ap (drop 1) i.place ∙ drop-drop 1 (length t - length (d ∷ s)) t ∙ ap (λ z. drop z t) m, omega (arith, i.shorter))

-- ---- the token

quote_is : (c : ℕ) → is_quote c ≡ true → (c ≡ 34) ⊎ (c ≡ 39)
quote_is c h = elim (cases (c == 34)) [ inl e ↦ inl (same_number c 34 e) | inr e ↦ inr (same_number c 39 (sym (or_other (c == 34) (c == 39) e) ∙ h)) ]

quote_letter : (c : ℕ) → is_quote c ≡ true → is_letter c ≡ false
quote_letter c h = elim (quote_is c h) [ inl e ↦ ap is_letter e | inr e ↦ ap is_letter e ]

quote_decimal : (c : ℕ) → is_quote c ≡ true → is_decimal c ≡ false
quote_decimal c h = elim (quote_is c h) [ inl e ↦ ap is_decimal e | inr e ↦ ap is_decimal e ]

at_quote : (n c : ℕ) (s : List ℕ) → is_quote c ≡ true → lexeme_at n (c ∷ s) ≡ string_of_length n (string_from c s 0)
at_quote n c s h = rw (quote_letter c h, quote_decimal c h, h) refl

fault_quote : (c : ℕ) (s : List ℕ) → is_quote c ≡ true → fault_at (c ∷ s) ≡ string_fault (string_from c s 0)
fault_quote c s h = rw (quote_letter c h, quote_decimal c h, h) refl

of_length : (n k : ℕ) (v : List ℕ) → k + 1 ≡ n → string_of_length n (Ok (v, k)) ≡ Some (Lexeme.string v)
of_length n k v e = let t : (k + 1 == n) ≡ true = grind (arith, nat_tests) in rw t refl

of_no_length : (n k : ℕ) (v : List ℕ) → k + 1 < n → string_of_length n (Ok (v, k)) ≡ None
of_no_length n k v e = let t : (k + 1 == n) ≡ false = grind (arith, nat_tests) in rw t refl

pub string_begins : (c : ℕ) (s : List ℕ) (v : List ℕ) (k : ℕ) → is_quote c ≡ true → blank_length (c ∷ s) ≡ 0 → string_from c s 0 ≡ Ok (v, k) → k ≤ length s → Begins (c ∷ s) (Lexeme.string v) (k + 1)
string_begins c s v k h stop e within = record {
  within = omega (arith, within);
  fits = at_quote (k + 1) c s h ∙ ap (string_of_length (k + 1)) e ∙ of_length (k + 1) k v refl;
  longest = λ m less short. at_quote m c s h ∙ ap (string_of_length m) e ∙ of_no_length m k v less;
  no_blank = stop;
  no_fault = fault_quote c s h ∙ ap string_fault e;
}

pub string_faults : (c : ℕ) (s : List ℕ) (f : LexFault) → is_quote c ≡ true → string_from c s 0 ≡ Err f → fault_at (c ∷ s) ≡ Some f
string_faults c s f h e = fault_quote c s h ∙ ap string_fault e

-- what is passed makes the rest shorter
pub inside_short : (x after y : List ℕ) (c k : ℕ) → slice_get x 0 ≡ Some c → after ≡ drop 1 x → y ≡ drop k after → length y < length x
inside_short [] after y c k first e h = absurd (none_some first)
inside_short (d ∷ s) after y c k first e h =
    let l : length after ≡ length s = ap length e in let m : length y ≡ length after - k = ap length h ∙ length-drop k after in omega (arith, l, m)
