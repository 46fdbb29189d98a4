-- The tokens that a text has are just those that reading it gives.
use Rattle.std.proofs.Common.{◌≡◌, ℕ, ◌+◌, List, [], ◌∷◌, ◌++◌, Bool, true, false, not, ◌||◌, ◌==◌, if◌then◌else◌, ◌⊎◌, inl, inr, refl, ap, sym, ◌∙◌, subst, append_assoc, append-nil, eq-eqb, eqb-true}
use Rattle.conf_read.specs.declared.scan.Mode.{Mode}
use Rattle.conf_read.specs.declared.scan.Mode.TheVariants as mode
use Rattle.conf_read.specs.Characters.{is_blank, is_mark, is_quote, is_part, begins_word, begins, line_after}
use Rattle.conf_read.specs.Tree.{Lexeme, Token, Ending, Comment, Run, Inside, Unclosed, Lexes, token}
use Rattle.conf_read.specs.Scan.{Lexed, ended, with_token, between, lex}

abbrev pub Text : Type 0
Text = List ℕ

abbrev pub lexed : List Token → Ending → Lexed
lexed ts e = record { tokens = ts; ending = e }

-- ---- tests

unequal : (a b : ℕ) → (a ≡ b → ⊥) → (a == b) ≡ false
unequal a b h = elim (a == b) as (λ t. (a == b) ≡ t → t ≡ false) [ true ↦ λ e. absurd (h (eqb-true a b e)) | false ↦ λ e. refl ] refl

differ : (a b : ℕ) → (a == b) ≡ false → a ≡ b → ⊥
differ a b e same = let t : (a == b) ≡ true = eq-eqb a b same in cc

neither : (a b : Bool) → (a || b) ≡ false → (a ≡ false) × (b ≡ false)
neither true b e = absurd (cc)
neither false b e = (refl, e)

not_true : (b : Bool) → not b ≡ true → b ≡ false
not_true true e = absurd (cc)
not_true false e = refl

record NoMark (c : ℕ) : Type 0 where
  semicolon : (c == 59) ≡ false
  open_ : (c == 123) ≡ false
  close_ : (c == 125) ≡ false

no_mark : (c : ℕ) → is_mark c ≡ false → NoMark c
no_mark c e =
    let a = neither (c == 59 || c == 123) (c == 125) e in
    let b = neither (c == 59) (c == 123) a.0 in record { semicolon = b.0; open_ = b.1; close_ = a.1 }

record Begins (c : ℕ) : Type 0 where
  blank : is_blank c ≡ false
  mark : NoMark c
  quote : is_quote c ≡ false
  hash : (c == 35) ≡ false

begins_with : (c : ℕ) → begins_word c ≡ true → Begins c
begins_with c e =
    let f = not_true (is_blank c || is_mark c || is_quote c || c == 35) e in
    let a = neither (is_blank c || is_mark c || is_quote c) (c == 35) f in
    let b = neither (is_blank c || is_mark c) (is_quote c) a.0 in
    let d = neither (is_blank c) (is_mark c) b.0 in
    record { blank = d.0; mark = no_mark c d.1; quote = b.1; hash = a.1 }

either : (a b : Bool) → (a || b) ≡ true → (a ≡ true) ⊎ (b ≡ true)
either true b e = inl refl
either false b e = inr e

quote_is : (q : ℕ) → is_quote q ≡ true → (q ≡ 34) ⊎ (q ≡ 39)
quote_is q e = elim (either (q == 34) (q == 39) e) [ inl h ↦ inl (eqb-true q 34 h) | inr h ↦ inr (eqb-true q 39 h) ]

-- ---- what stands is read

word_stops : (r : Text) → begins is_part r ≡ false → (start line : ℕ) (w : Text) → lex mode.Word start w line r ≡ with_token (token start (Lexeme.word w)) (lex mode.Between start [] line r)
word_stops [] e start line w = refl
word_stops (c ∷ s) e start line w = rw e refl

word_reads : {s w r : Text} → Run s w r → (start line : ℕ) (v : Text) → lex mode.Word start v line s ≡ with_token (token start (Lexeme.word (v ++ w))) (lex mode.Between start [] line r)
word_reads (Run.stop r e) start line v = word_stops r e start line v ∙ ap (λ x. with_token (token start (Lexeme.word x)) (lex mode.Between start [] line r)) (sym (append-nil v))
word_reads (Run.more c s w r e h) start line v =
    rw e (word_reads h start line (v ++ c ∷ []) ∙ ap (λ x. with_token (token start (Lexeme.word x)) (lex mode.Between start [] line r)) (append_assoc v (c ∷ []) w))

comment_reads : {s r : Text} → Comment s r → (start line : ℕ) (w : Text) → lex mode.Comment start w line s ≡ lex mode.Between start w line r
comment_reads Comment.over start line w = refl
comment_reads (Comment.feed s) start line w = refl
comment_reads (Comment.more c s r e h) start line w = rw (unequal c 10 e) (comment_reads h start line w)

inside_reads : {q line last : ℕ} {s w r : Text} → Inside q line s w last r → (start : ℕ) (v : Text) → lex (mode.Quoted q) start v line s ≡ with_token (token start (Lexeme.word (v ++ w))) (lex mode.Between start [] last r)
inside_reads (Inside.close q line r) start v = rw (eq-eqb q q refl) (ap (λ x. with_token (token start (Lexeme.word x)) (lex mode.Between start [] line r)) (sym (append-nil v)))
inside_reads (Inside.plain q line c s w last r no_quote no_back h) start v =
    rw (unequal c q no_quote, unequal c 92 no_back) (inside_reads h start (v ++ c ∷ []) ∙ ap (λ x. with_token (token start (Lexeme.word x)) (lex mode.Between start [] last r)) (append_assoc v (c ∷ []) w))
inside_reads (Inside.taken q line c s w last r no_back h) start v =
    let e : (92 == q) ≡ false = unequal 92 q (λ same. no_back (sym same)) in
    rw e (inside_reads h start (v ++ c ∷ []) ∙ ap (λ x. with_token (token start (Lexeme.word x)) (lex mode.Between start [] last r)) (append_assoc v (c ∷ []) w))

unclosed_reads : {q : ℕ} {s : Text} → Unclosed q s → (start line : ℕ) (v : Text) → lex (mode.Quoted q) start v line s ≡ ended Ending.quoted
unclosed_reads (Unclosed.over q) start line v = refl
unclosed_reads (Unclosed.cut q no_back) start line v = let e : (92 == q) ≡ false = unequal 92 q (λ same. no_back (sym same)) in rw e refl
unclosed_reads (Unclosed.plain q c s no_quote no_back h) start line v = rw (unequal c q no_quote, unequal c 92 no_back) (unclosed_reads h start (line_after c line) (v ++ c ∷ []))
unclosed_reads (Unclosed.taken q c s no_back h) start line v = let e : (92 == q) ≡ false = unequal 92 q (λ same. no_back (sym same)) in rw e (unclosed_reads h start (line_after c line) (v ++ c ∷ []))

-- a quote begins a word in quotes
quote_begins : (q line start : ℕ) (w s : Text) → is_quote q ≡ true → lex mode.Between start w line (q ∷ s) ≡ lex (mode.Quoted q) line [] line s
quote_begins q line start w s e =
    elim (quote_is q e) [
      | inl h ↦ subst (λ x. lex mode.Between start w line (x ∷ s) ≡ lex (mode.Quoted x) line [] line s) (sym h) refl
      | inr h ↦ subst (λ x. lex mode.Between start w line (x ∷ s) ≡ lex (mode.Quoted x) line [] line s) (sym h) refl
    ]

word_begins : (c line start : ℕ) (w s : Text) → begins_word c ≡ true → lex mode.Between start w line (c ∷ s) ≡ lex mode.Word line (c ∷ []) line s
word_begins c line start w s e = let b = begins_with c e in rw (b.blank, b.hash, b.quote, b.mark.semicolon, b.mark.open_, b.mark.close_) refl

-- whatever is read before
pub stands_read : {line : ℕ} {s : Text} {ts : List Token} {e : Ending} → Lexes line s ts e → (start : ℕ) (w : Text) → lex mode.Between start w line s ≡ lexed ts e
stands_read (Lexes.over line) start w = refl
stands_read (Lexes.blank line c s ts e is h) start w = rw is (stands_read h start w)
stands_read (Lexes.comment line s r ts e c h) start w = comment_reads c start line w ∙ stands_read h start w
stands_read (Lexes.semicolon line s ts e h) start w = ap (with_token (token line Lexeme.semicolon)) (stands_read h start w)
stands_read (Lexes.opening line s ts e h) start w = ap (with_token (token line Lexeme.opening)) (stands_read h start w)
stands_read (Lexes.closing line s ts e h) start w = ap (with_token (token line Lexeme.closing)) (stands_read h start w)
stands_read (Lexes.word line c s w r ts e is run h) start v =
    word_begins c line start v s is ∙ word_reads run line line (c ∷ []) ∙ ap (with_token (token line (Lexeme.word (c ∷ w)))) (stands_read h line [])
stands_read (Lexes.quoted line q s w last r ts e is inside h) start v =
    quote_begins q line start v s is ∙ inside_reads inside line [] ∙ ap (with_token (token line (Lexeme.word w))) (stands_read h line [])
stands_read (Lexes.unclosed line q s is open_) start v = quote_begins q line start v s is ∙ unclosed_reads open_ line line []

-- ---- what is read stands

pick : (P : Lexed → Type 0) (b : Bool) (x y : Lexed) → (b ≡ true → P x) → (b ≡ false → P y) → P (if b then x else y)
pick P true x y f g = f refl
pick P false x y f g = g refl

abbrev pub Stands : ℕ → Text → Lexed → Type 0
Stands line s l = Lexes line s l.tokens l.ending

record InComment (line : ℕ) (s : Text) (l : Lexed) : Type 0 where
  rest : Text
  comment : Comment s rest
  stands : Stands line rest l

record InWord (start line : ℕ) (w s : Text) (l : Lexed) : Type 0 where
  more : Text
  rest : Text
  behind : Lexed
  run : Run s more rest
  stands : Stands line rest behind
  joined : l ≡ with_token (token start (Lexeme.word (w ++ more))) behind

pub record Closed (q start line : ℕ) (w s : Text) (l : Lexed) : Type 0 where
  more : Text
  last : ℕ
  rest : Text
  behind : Lexed
  inside : Inside q line s more last rest
  stands : Stands last rest behind
  joined : l ≡ with_token (token start (Lexeme.word (w ++ more))) behind

abbrev pub InQuotes : ℕ → ℕ → ℕ → Text → Text → Lexed → Type 0
InQuotes q start line w s l = Closed q start line w s l ⊎ (Unclosed q s × (l ≡ ended Ending.quoted))

pub record Sound (s : Text) : Type 0 where
  between : (start line : ℕ) (w : Text) → Stands line s (lex mode.Between start w line s)
  comment : (start line : ℕ) (w : Text) → InComment line s (lex mode.Comment start w line s)
  word : (start line : ℕ) (w : Text) → InWord start line w s (lex mode.Word start w line s)
  quoted : (q start line : ℕ) (w : Text) → (q ≡ 92 → ⊥) → InQuotes q start line w s (lex (mode.Quoted q) start w line s)
  escaped : (q start line : ℕ) (w : Text) → (q ≡ 92 → ⊥) → InQuotes q start line w (92 ∷ s) (lex (mode.Escaped q) start w line s)

abbrev pub onward : Text → Mode → ℕ → Text → ℕ → Lexed
onward s m st v l = lex m st v l s

-- the tests of a character between tokens, one after the other
abbrev pub at_closing : Text → ℕ → Text → ℕ → ℕ → Lexed
at_closing s start w line c = if c == 125 then with_token (token line Lexeme.closing) (onward s mode.Between start w line) else onward s mode.Word line (c ∷ []) line

abbrev pub at_opening : Text → ℕ → Text → ℕ → ℕ → Lexed
at_opening s start w line c = if c == 123 then with_token (token line Lexeme.opening) (onward s mode.Between start w line) else at_closing s start w line c

abbrev pub at_semicolon : Text → ℕ → Text → ℕ → ℕ → Lexed
at_semicolon s start w line c = if c == 59 then with_token (token line Lexeme.semicolon) (onward s mode.Between start w line) else at_opening s start w line c

abbrev pub at_quote : Text → ℕ → Text → ℕ → ℕ → Lexed
at_quote s start w line c = if is_quote c then onward s (mode.Quoted c) line [] line else at_semicolon s start w line c

abbrev pub at_hash : Text → ℕ → Text → ℕ → ℕ → Lexed
at_hash s start w line c = if c == 35 then onward s mode.Comment start w line else at_quote s start w line c

quote_no_back : (q : ℕ) → is_quote q ≡ true → q ≡ 92 → ⊥
quote_no_back q e same = let f : is_quote 92 ≡ true = subst (λ x. is_quote x ≡ true) same e in cc

or_false : (a b : Bool) → a ≡ false → b ≡ false → (a || b) ≡ false
or_false a b e f = rw (e, f) refl

is_beginning : (c : ℕ) → is_blank c ≡ false → (c == 35) ≡ false → is_quote c ≡ false → (c == 59) ≡ false → (c == 123) ≡ false → (c == 125) ≡ false → begins_word c ≡ true
is_beginning c blank hash quote semicolon open_ close_ =
    let m : is_mark c ≡ false = or_false (c == 59 || c == 123) (c == 125) (or_false (c == 59) (c == 123) semicolon open_) close_ in
    ap not (or_false (is_blank c || is_mark c || is_quote c) (c == 35) (or_false (is_blank c || is_mark c) (is_quote c) (or_false (is_blank c) (is_mark c) blank m) quote) hash)

at_line : (line c d : ℕ) (s : Text) (l : Lexed) → (c == d) ≡ true → Stands line (d ∷ s) l → Stands line (c ∷ s) l
at_line line c d s l e h = subst (λ x. Stands line (x ∷ s) l) (sym (eqb-true c d e)) h

word_stands : (line c : ℕ) (s : Text) (l : Lexed) → begins_word c ≡ true → InWord line line (c ∷ []) s l → Stands line (c ∷ s) l
word_stands line c s l e h =
    subst (λ x. Stands line (c ∷ s) x) (sym h.joined) (Lexes.word line c s h.more h.rest h.behind.tokens h.behind.ending e h.run h.stands)

quote_stands : (line q : ℕ) (s : Text) (l : Lexed) → is_quote q ≡ true → InQuotes q line line [] s l → Stands line (q ∷ s) l
quote_stands line q s l e (inl h) =
    subst (λ x. Stands line (q ∷ s) x) (sym h.joined) (Lexes.quoted line q s h.more h.last h.rest h.behind.tokens h.behind.ending e h.inside h.stands)
quote_stands line q s l e (inr h) = subst (λ x. Stands line (q ∷ s) x) (sym h.1) (Lexes.unclosed line q s e h.0)

sound_between : (c : ℕ) (s : Text) → Sound s → (start line : ℕ) (w : Text) → Stands line (c ∷ s) (lex mode.Between start w line (c ∷ s))
sound_between c s h start line w =
    let P = λ (l : Lexed). Stands line (c ∷ s) l in
    pick P (is_blank c) (onward s mode.Between start w (line_after c line)) (at_hash s start w line c) (λ e. Lexes.blank line c s _ _ e (h.between start (line_after c line) w)) (λ e0.
    pick P (c == 35) (onward s mode.Comment start w line) (at_quote s start w line c)
    (λ e. let k = h.comment start line w in at_line line c 35 s _ e (Lexes.comment line s k.rest _ _ k.comment k.stands)) (λ e1.
    pick P (is_quote c) (onward s (mode.Quoted c) line [] line) (at_semicolon s start w line c) (λ e. quote_stands line c s _ e (h.quoted c line line [] (quote_no_back c e))) (λ e2.
    pick P (c == 59) (with_token (token line Lexeme.semicolon) (onward s mode.Between start w line)) (at_opening s start w line c)
    (λ e. at_line line c 59 s (with_token (token line Lexeme.semicolon) (onward s mode.Between start w line)) e (Lexes.semicolon line s _ _ (h.between start line w))) (λ e3.
    pick P (c == 123) (with_token (token line Lexeme.opening) (onward s mode.Between start w line)) (at_closing s start w line c)
    (λ e. at_line line c 123 s (with_token (token line Lexeme.opening) (onward s mode.Between start w line)) e (Lexes.opening line s _ _ (h.between start line w))) (λ e4.
    pick P (c == 125) (with_token (token line Lexeme.closing) (onward s mode.Between start w line)) (onward s mode.Word line (c ∷ []) line)
    (λ e. at_line line c 125 s (with_token (token line Lexeme.closing) (onward s mode.Between start w line)) e (Lexes.closing line s _ _ (h.between start line w)))
    (λ e5. word_stands line c s _ (is_beginning c e0 e1 e2 e3 e4 e5) (h.word line line (c ∷ []))))))))

sound_comment : (c : ℕ) (s : Text) → Sound s → (start line : ℕ) (w : Text) → InComment line (c ∷ s) (lex mode.Comment start w line (c ∷ s))
sound_comment c s h start line w =
    let P = λ (l : Lexed). InComment line (c ∷ s) l in
    pick P (c == 10) (onward s mode.Between start w (line + 1)) (onward s mode.Comment start w line)
    (λ e. subst (λ x. InComment line (x ∷ s) (onward s mode.Between start w (line + 1))) (sym (eqb-true c 10 e))
    (record { rest = 10 ∷ s; comment = Comment.feed s; stands = Lexes.blank line 10 s _ _ refl (h.between start (line + 1) w) }))
    (λ e. let k = h.comment start line w in record { rest = k.rest; comment = Comment.more c s k.rest (differ c 10 e) k.comment; stands = k.stands })

sound_word : (c : ℕ) (s : Text) → Sound s → (start line : ℕ) (w : Text) → InWord start line w (c ∷ s) (lex mode.Word start w line (c ∷ s))
sound_word c s h start line w =
    let P = λ (l : Lexed). InWord start line w (c ∷ s) l in
    let ending = with_token (token start (Lexeme.word w)) (lex mode.Between start [] line (c ∷ s)) in
    pick P (is_part c) (onward s mode.Word start (w ++ c ∷ []) line) ending
    (λ e. let k = h.word start line (w ++ c ∷ []) in record {
      more = c ∷ k.more;
      rest = k.rest;
      behind = k.behind;
      run = Run.more c s k.more k.rest e k.run;
      stands = k.stands;
      joined = k.joined ∙ ap (λ x. with_token (token start (Lexeme.word x)) k.behind) (append_assoc w (c ∷ []) k.more);
    })
    (λ e. record {
      more = [];
      rest = c ∷ s;
      behind = lex mode.Between start [] line (c ∷ s);
      run = Run.stop (c ∷ s) e;
      stands = sound_between c s h start line [];
      joined = ap (λ x. with_token (token start (Lexeme.word x)) (lex mode.Between start [] line (c ∷ s))) (sym (append-nil w));
    })

plain_more : (q start line c : ℕ) (w s : Text) (l : Lexed) → (c ≡ q → ⊥) → (c ≡ 92 → ⊥) → InQuotes q start (line_after c line) (w ++ c ∷ []) s l → InQuotes q start line w (c ∷ s) l
plain_more q start line c w s l no_quote no_back (inl k) = inl (record {
  more = c ∷ k.more;
  last = k.last;
  rest = k.rest;
  behind = k.behind;
  inside = Inside.plain q line c s k.more k.last k.rest no_quote no_back k.inside;
  stands = k.stands;
  joined = k.joined ∙ ap (λ x. with_token (token start (Lexeme.word x)) k.behind) (append_assoc w (c ∷ []) k.more);
})
plain_more q start line c w s l no_quote no_back (inr k) = inr (Unclosed.plain q c s no_quote no_back k.0, k.1)

taken_more : (q start line c : ℕ) (w s : Text) (l : Lexed) → (q ≡ 92 → ⊥) → InQuotes q start (line_after c line) (w ++ c ∷ []) s l → InQuotes q start line w (92 ∷ c ∷ s) l
taken_more q start line c w s l no_back (inl k) = inl (record {
  more = c ∷ k.more;
  last = k.last;
  rest = k.rest;
  behind = k.behind;
  inside = Inside.taken q line c s k.more k.last k.rest no_back k.inside;
  stands = k.stands;
  joined = k.joined ∙ ap (λ x. with_token (token start (Lexeme.word x)) k.behind) (append_assoc w (c ∷ []) k.more);
})
taken_more q start line c w s l no_back (inr k) = inr (Unclosed.taken q c s no_back k.0, k.1)

sound_quoted : (c : ℕ) (s : Text) → Sound s → (q start line : ℕ) (w : Text) → (q ≡ 92 → ⊥) → InQuotes q start line w (c ∷ s) (lex (mode.Quoted q) start w line (c ∷ s))
sound_quoted c s h q start line w no_back =
    let P = λ (l : Lexed). InQuotes q start line w (c ∷ s) l in
    let more = onward s (mode.Quoted q) start (w ++ c ∷ []) (line_after c line) in
    let closed = with_token (token start (Lexeme.word w)) (onward s mode.Between start [] line) in
    pick P (c == q) closed (if c == 92 then onward s (mode.Escaped q) start w line else more)
    (λ e. subst (λ x. InQuotes q start line w (x ∷ s) closed) (sym (eqb-true c q e)) (inl (record {
      more = [];
      last = line;
      rest = s;
      behind = onward s mode.Between start [] line;
      inside = Inside.close q line s;
      stands = h.between start line [];
      joined = ap (λ x. with_token (token start (Lexeme.word x)) (onward s mode.Between start [] line)) (sym (append-nil w));
    })))
    (λ e0. pick P (c == 92) (onward s (mode.Escaped q) start w line) more
    (λ e. subst (λ x. InQuotes q start line w (x ∷ s) (onward s (mode.Escaped q) start w line)) (sym (eqb-true c 92 e)) (h.escaped q start line w no_back))
    (λ e. plain_more q start line c w s more (differ c q e0) (differ c 92 e) (h.quoted q start (line_after c line) (w ++ c ∷ []) no_back)))

sound : (s : Text) → Sound s
sound [] = record {
  between = λ start line w. Lexes.over line;
  comment = λ start line w. record { rest = []; comment = Comment.over; stands = Lexes.over line };
  word = λ start line w. record { more = []; rest = []; behind = ended Ending.whole; run = Run.stop [] refl; stands = Lexes.over line; joined = ap (λ x. with_token (token start (Lexeme.word x)) (ended Ending.whole)) (sym (append-nil w)) };
  quoted = λ q start line w no_back. inr (Unclosed.over q, refl);
  escaped = λ q start line w no_back. inr (Unclosed.cut q no_back, refl);
}
sound (c ∷ s) =
    let h = sound s in
    record {
      between = sound_between c s h;
      comment = sound_comment c s h;
      word = sound_word c s h;
      quoted = sound_quoted c s h;
      escaped = λ q start line w no_back. taken_more q start line c w s _ no_back (h.quoted q start (line_after c line) (w ++ c ∷ []) no_back);
    }

-- the tokens of a text
pub read_stands : (line start : ℕ) (w s : Text) → Stands line s (lex mode.Between start w line s)
read_stands line start w s = (sound s).between start line w
