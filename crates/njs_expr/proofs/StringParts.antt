-- A string, part by part.
use Rattle.std.proofs.Common.{◌≡◌, ℕ, zero, suc, ◌+◌, ◌*◌, ◌<◌, ◌≤◌, length, arith, true, false, ◌==◌, List, [], ◌∷◌, ◌++◌, drop, slice_get, Option, Some, None, Ok, refl, ap, sym, ◌∙◌, append_assoc, append-nil}
use Rattle.std.proofs.lemmas.Bool.Decides.{nat_tests}
use Rattle.std.specs.Char.{digit_value}
use Rattle.std.specs.Str.Parse.{digits_value_after}
use Rattle.njs_tree.specs.Characters.{is_line_end}
use Rattle.njs_tree.specs.Lexical.{escape_at, string_from}
use Rattle.njs_tree.specs.TokenList.{stood_for}
use Rattle.njs_expr.specs.Escapes.{listed, escape_of, IsPart}

none_some : {A G : Type 0} {a : A} → None ≡ Some a → G
none_some e = absurd (cc)

-- ---- the front of a text

pub front : (i : List ℕ) (c : ℕ) → slice_get i 0 ≡ Some c → i ≡ c ∷ drop 1 i
front [] c e = none_some e
front (d ∷ s) c e = let same : d ≡ c = cc in ap (λ z. z ∷ s) same

pub no_front : (i : List ℕ) → slice_get i 0 ≡ None → i ≡ []
no_front [] e = refl
no_front (d ∷ s) e = none_some (sym e)

pub shorter : (i after rest : List ℕ) (c : ℕ) → slice_get i 0 ≡ Some c → after ≡ drop 1 i → length rest ≤ length after → length rest < length i
shorter [] after rest c e b l = none_some e
shorter (d ∷ s) after rest c e b l = let n : length after ≡ length s = ap length b in omega (arith, n, l)

pub is_same : (a b : ℕ) → a ≡ b → (a == b) ≡ true
is_same a b e = grind (arith, nat_tests)

pub is_other : (a b : ℕ) → (a ≡ b → ⊥) → (a == b) ≡ false
is_other a b e = grind (arith, nat_tests)

-- ---- digits

pub one_digit : (radix value c : ℕ) (i : List ℕ) → slice_get i 0 ≡ Some c → digits_value_after radix value i ≡ digits_value_after radix (value * radix + digit_value c) (drop 1 i)
one_digit radix value c i e = ap (digits_value_after radix value) (front i c e)

-- ---- parts of strings

skipped : (quote k : ℕ) (s v : List ℕ) (n : ℕ) → string_from quote (drop k s) 0 ≡ Ok (v, n) → (m : ℕ) × (string_from quote s k ≡ Ok (v, m))
skipped quote zero s v n e = (n, e)
skipped quote (suc k) [] v n e = absurd (cc)
skipped quote (suc k) (c ∷ s) v n e = let r = skipped quote k s v n e in (r.0 + 1, rw r.1)

pub plain_part : (c : ℕ) (after : List ℕ) → is_line_end c ≡ false → (c == 92) ≡ false → IsPart c after (Some c) after
plain_part c after no_end no_escape quote no_quote v n e = (n + 1, rw (no_quote, no_end, no_escape, e))

pub escape_part : (c : ℕ) (after rest : List ℕ) (e : Option ℕ × ℕ) → is_line_end c ≡ false → (c == 92) ≡ true → escape_at after ≡ escape_of e → rest ≡ drop e.1 after → IsPart c after e.0 rest
escape_part c after rest e no_end is_escape is behind quote no_quote v n h =
    let r = skipped quote e.1 after v n (ap (λ z. string_from quote z 0) (sym behind) ∙ h) in
    (r.0 + 1, rw (no_quote, no_end, is_escape, is, r.1))

-- what the rest stands for is left of what the whole stands for
abbrev pub Leads : ℕ → List ℕ → List ℕ → List ℕ → Type 0
Leads quote whole stands rest = (v : List ℕ) (n : ℕ) → string_from quote rest 0 ≡ Ok (v, n) → (m : ℕ) × (string_from quote whole 0 ≡ Ok (stands ++ v, m))

pub begins : (quote : ℕ) (whole : List ℕ) → Leads quote whole [] whole
begins quote whole v n e = (n, e)

pub one_part : (quote c : ℕ) (whole stands i after rest longer : List ℕ) (o : Option ℕ) → Leads quote whole stands i → slice_get i 0 ≡ Some c → (c == quote) ≡ false → after ≡ drop 1 i → IsPart c after o rest
    → longer ≡ stands ++ listed o → Leads quote whole longer rest
one_part quote c whole stands i after rest longer o leads first no_quote behind part more v n e =
    let p = part quote no_quote v n e in
    let whole_rest : string_from quote i 0 ≡ Ok (listed o ++ v, p.0) = ap (λ z. string_from quote z 0) (front i c first ∙ ap (λ z. c ∷ z) (sym behind)) ∙ p.1 in
    let l = leads (listed o ++ v) p.0 whole_rest in
    (l.0, l.1 ∙ ap (λ z. Ok (z, l.0)) (sym (append_assoc stands (listed o) v) ∙ ap (λ z. z ++ v) (sym more)))

pub ended : (quote c : ℕ) (whole stands i : List ℕ) → Leads quote whole stands i → slice_get i 0 ≡ Some c → (c == quote) ≡ true → stood_for (string_from quote whole 0) ≡ stands
ended quote c whole stands i leads first is_quote =
    let here : string_from quote i 0 ≡ Ok ([], 1) = ap (λ z. string_from quote z 0) (front i c first) ∙ rw is_quote refl in
    let l = leads [] 1 here in
    ap stood_for {y = Ok (stands ++ [], l.0)} l.1 ∙ append-nil stands
