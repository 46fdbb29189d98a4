-- Steps of a reader, backwards: from what was read to what stood there. The value and the rest go on as variables.
use Rattle.std.proofs.Common.{◌≡◌, ℕ, ◌+◌, ◌<◌, ◌≤◌, Bool, true, false, nat_lt, ◌==◌, not, if◌then◌else◌, List, [], ◌∷◌, Option, Some, None, refl, ap, sym, subst, arith}
use Rattle.std.proofs.lemmas.Bool.Decides.{nat_tests}
use Rattle.njs_tree.specs.declared.token.Keyword.{Keyword}
use Rattle.njs_tree.specs.declared.token.Mark.{Mark}
use Rattle.njs_tree.specs.declared.token.Mark.TheVariants as mark
use Rattle.njs_tree.specs.declared.tree.ExprNode.{ExprNode}
use Rattle.njs_tree.specs.declared.tree.StmtNode.{StmtNode}
use Rattle.njs_tree.specs.Lexemes.{Lexeme, Symbol, word_text, key_text}
use Rattle.njs_tree.specs.Symbols.{lexeme_of, breaks, may_miss, strength, goes_on}
use Rattle.njs_tree.specs.Grammar.{stands, Ends}
use Rattle.njs_expr.specs.Readers.{Symbols, Reader, and_then, ◌>>=◌, next_of, tail, like, sees, sees_word, after, after_word, expect, expect_word, separate, semicolon, take_name, name_by, take_number, number_by, take_string, string_by, take_word, take_key, text_by, Grown, Stood, on, grown, stood}
use Rattle.njs_expr.proofs.Terminals.{seen_symbol, word_seen_symbol, miss_like}
use Rattle.njs_expr.proofs.Forwards.{after_seen, after_other, after_word_seen, after_word_other}

pub bind_case : {A B G : Type 0} (x : Option (A × Symbols)) (f : A → Reader B) (y : B × Symbols) → and_then x f ≡ Some y
    → ((a : A) (i : Symbols) → x ≡ Some (a, i) → f a i ≡ Some y → G) → G
bind_case (Some p) f y e k = k p.0 p.1 refl e
bind_case None f y e k = absurd (cc)

pub none_some : {A : Type 0} (x : A) → ◌≡◌ {A = Option A} None (Some x) → ⊥
none_some x e = cc

pub some_one : {A : Type 0} {x y : A} → ◌≡◌ {A = Option A} (Some x) (Some y) → x ≡ y
some_one e = cc

pub some_pair : {A : Type 0} {a b : A} {i r : Symbols} → ◌≡◌ {A = Option (A × Symbols)} (Some (a, i)) (Some (b, r)) → (a ≡ b) × (i ≡ r)
some_pair {A = A} {a = a} {b = b} {i = i} {r = r} e = let p : ◌≡◌ {A = A × Symbols} (a, i) (b, r) = cc in (ap (λ (q : A × Symbols). q.0) p, ap (λ (q : A × Symbols). q.1) p)

-- nothing more is read
pub pure_case : {A : Type 0} (G : A → Symbols → Type 0) {a b : A} {i r : Symbols} → ◌≡◌ {A = Option (A × Symbols)} (Some (a, i)) (Some (b, r)) → G a i → G b r
pure_case G {a = a} {b = b} {i = i} {r = r} e g = let p = some_pair e in subst (λ x. G x r) p.0 (subst (λ x. G a x) p.1 g)

-- a choice
pub if_case : {A G : Type 0} (b : Bool) (x y : Reader A) (i : Symbols) (z : A × Symbols) → (if b then x else y) i ≡ Some z
    → (b ≡ true → x i ≡ Some z → G) → (b ≡ false → y i ≡ Some z → G) → G
if_case true x y i z e k l = k refl e
if_case false x y i z e k l = l refl e

pub pick_case : {A G : Type 0} (b : Bool) (x y : Option A) (z : A) → (if b then x else y) ≡ Some z → (b ≡ true → x ≡ Some z → G) → (b ≡ false → y ≡ Some z → G) → G
pick_case true x y z e k l = k refl e
pick_case false x y z e k l = l refl e

pub bind_bind : {A B C : Type 0} (x : Option (A × Symbols)) (f : A → Reader B) (g : B → Reader C) (z : Option (C × Symbols)) → and_then (and_then x f) g ≡ z
    → and_then x (λ a i. and_then (f a i) g) ≡ z
bind_bind (Some p) f g z e = e
bind_bind None f g z e = e

-- what follows a choice follows each of the two
pub chosen_then : {A B : Type 0} (b : Bool) (x y : Reader A) (f : A → Reader B) (i : Symbols) (z : Option (B × Symbols)) → and_then ((if b then x else y) i) f ≡ z
    → (if b then (x >>= f) else (y >>= f)) i ≡ z
chosen_then true x y f i z e = e
chosen_then false x y f i z e = e

-- ---- marks and words

-- a mark that was seen is the first symbol
seen_case : (G : Symbols → Type 0) (m : Mark) (i : Symbols) → sees m (next_of i) ≡ true → ((t : Symbol) → t.lexeme ≡ Lexeme.mark m → G (t ∷ tail i)) → G i
seen_case G m i seen k = let s = seen_symbol m i seen in subst G (sym s.1) (k s.0 s.2)

word_seen_case : (G : Symbols → Type 0) (w : Keyword) (i : Symbols) → sees_word w (next_of i) ≡ true → ((t : Symbol) → t.lexeme ≡ Lexeme.reserved w → G (t ∷ tail i)) → G i
word_seen_case G w i seen k = let s = word_seen_symbol w i seen in subst G (sym s.1) (k s.0 s.2)

pub eat_case : {A : Type 0} (G : Symbols → Type 0) (m : Mark) (x y : Reader A) (i : Symbols) (z : A × Symbols) → (if sees m (next_of i) then x else y) (after m i) ≡ Some z
    → ((t : Symbol) (j : Symbols) → t.lexeme ≡ Lexeme.mark m → x j ≡ Some z → G (t ∷ j)) → (sees m (next_of i) ≡ false → y i ≡ Some z → G i) → G i
eat_case G m x y i z e k l =
    if_case (sees m (next_of i)) x y (after m i) z e (λ seen e1. seen_case G m i seen (λ t is. k t (tail i) is (rw (after_seen m i seen) at e1)))
    (λ unseen e1. l unseen (rw (after_other m i unseen) at e1))

pub eat_word_case : {A : Type 0} (G : Symbols → Type 0) (w : Keyword) (x y : Reader A) (i : Symbols) (z : A × Symbols) → (if sees_word w (next_of i) then x else y) (after_word w i) ≡ Some z
    → ((t : Symbol) (j : Symbols) → t.lexeme ≡ Lexeme.reserved w → x j ≡ Some z → G (t ∷ j)) → (sees_word w (next_of i) ≡ false → y i ≡ Some z → G i) → G i
eat_word_case G w x y i z e k l =
    if_case (sees_word w (next_of i)) x y (after_word w i) z e (λ seen e1. word_seen_case G w i seen (λ t is. k t (tail i) is (rw (after_word_seen w i seen) at e1)))
    (λ unseen e1. l unseen (rw (after_word_other w i unseen) at e1))

pub expect_case : {A : Type 0} (G : Symbols → Type 0) (m : Mark) (f : Unit {0} → Reader A) (i : Symbols) (z : A × Symbols) → and_then (expect m i) f ≡ Some z
    → ((t : Symbol) (j : Symbols) → t.lexeme ≡ Lexeme.mark m → f tt j ≡ Some z → G (t ∷ j)) → G i
unfolding expect
expect_case G m f i z e k =
    bind_case (if sees m (next_of i) then Some (tt, tail i) else None) f z e (λ u j found e1.
    pick_case (sees m (next_of i)) (Some (tt, tail i)) None (u, j) found
    (λ seen e2. seen_case G m i seen (λ t is. k t (tail i) is (pure_case (λ v q. f v q ≡ Some z) (sym e2) e1)))
    (λ unseen e2. absurd (none_some (u, j) e2)))

pub expect_word_case : {A : Type 0} (G : Symbols → Type 0) (w : Keyword) (f : Unit {0} → Reader A) (i : Symbols) (z : A × Symbols) → and_then (expect_word w i) f ≡ Some z
    → ((t : Symbol) (j : Symbols) → t.lexeme ≡ Lexeme.reserved w → f tt j ≡ Some z → G (t ∷ j)) → G i
unfolding expect_word
expect_word_case G w f i z e k =
    bind_case (if sees_word w (next_of i) then Some (tt, tail i) else None) f z e (λ u j found e1.
    pick_case (sees_word w (next_of i)) (Some (tt, tail i)) None (u, j) found
    (λ seen e2. word_seen_case G w i seen (λ t is. k t (tail i) is (pure_case (λ v q. f v q ≡ Some z) (sym e2) e1)))
    (λ unseen e2. absurd (none_some (u, j) e2)))

-- a comma was passed, or the closing mark comes next
pub separate_case : {A : Type 0} (G : Symbols → Type 0) (close : Mark) (f : Unit {0} → Reader A) (i : Symbols) (z : A × Symbols) → and_then (separate close i) f ≡ Some z
    → ((t : Symbol) (j : Symbols) → t.lexeme ≡ Lexeme.mark mark.Comma → f tt j ≡ Some z → G (t ∷ j)) → (sees close (next_of i) ≡ true → f tt i ≡ Some z → G i) → G i
unfolding separate
separate_case G close f i z e k l =
    bind_case (if sees mark.Comma (next_of i) then Some (tt, tail i) else (if sees close (next_of i) then Some (tt, i) else None)) f z e (λ u j found e1.
    pick_case (sees mark.Comma (next_of i)) (Some (tt, tail i)) (if sees close (next_of i) then Some (tt, i) else None) (u, j) found
    (λ seen e2. seen_case G mark.Comma i seen (λ t is. k t (tail i) is (pure_case (λ v q. f v q ≡ Some z) (sym e2) e1)))
    (λ unseen e2. pick_case (sees close (next_of i)) (Some (tt, i)) None (u, j) e2
    (λ seen e3. l seen (pure_case (λ v q. f v q ≡ Some z) (sym e3) e1))
    (λ none e3. absurd (none_some (u, j) e3))))

-- ---- names, numbers and strings

name_by_case : {A : Type 0} (G : Symbols → Type 0) (x : Lexeme) (f : List ℕ → Reader A) (t : Symbol) (j : Symbols) (z : A × Symbols) → t.lexeme ≡ x → and_then (name_by x (t ∷ j)) f ≡ Some z
    → ((text : List ℕ) → t.lexeme ≡ Lexeme.name text → f text j ≡ Some z → G (t ∷ j)) → G (t ∷ j)
name_by_case G (Lexeme.name text) f t j z is e k = k text is e
name_by_case G _ f t j z is e k = absurd (cc)

pub name_case : {A : Type 0} (G : Symbols → Type 0) (f : List ℕ → Reader A) (i : Symbols) (z : A × Symbols) → and_then (take_name i) f ≡ Some z
    → ((text : List ℕ) (t : Symbol) (j : Symbols) → t.lexeme ≡ Lexeme.name text → f text j ≡ Some z → G (t ∷ j)) → G i
unfolding take_name
name_case G f [] z e k = absurd (cc)
name_case G f (t ∷ j) z e k = name_by_case G t.lexeme f t j z refl e (λ text is e1. k text t j is e1)

number_by_case : {A : Type 0} (G : Symbols → Type 0) (x : Lexeme) (f : ℕ → Reader A) (t : Symbol) (j : Symbols) (z : A × Symbols) → t.lexeme ≡ x → and_then (number_by x (t ∷ j)) f ≡ Some z
    → ((n : ℕ) → t.lexeme ≡ Lexeme.number n → f n j ≡ Some z → G (t ∷ j)) → G (t ∷ j)
number_by_case G (Lexeme.number n) f t j z is e k = k n is e
number_by_case G _ f t j z is e k = absurd (cc)

pub number_case : {A : Type 0} (G : Symbols → Type 0) (f : ℕ → Reader A) (i : Symbols) (z : A × Symbols) → and_then (take_number i) f ≡ Some z
    → ((n : ℕ) (t : Symbol) (j : Symbols) → t.lexeme ≡ Lexeme.number n → f n j ≡ Some z → G (t ∷ j)) → G i
unfolding take_number
number_case G f [] z e k = absurd (cc)
number_case G f (t ∷ j) z e k = number_by_case G t.lexeme f t j z refl e (λ n is e1. k n t j is e1)

string_by_case : {A : Type 0} (G : Symbols → Type 0) (x : Lexeme) (f : List ℕ → Reader A) (t : Symbol) (j : Symbols) (z : A × Symbols) → t.lexeme ≡ x → and_then (string_by x (t ∷ j)) f ≡ Some z
    → ((text : List ℕ) → t.lexeme ≡ Lexeme.string text → f text j ≡ Some z → G (t ∷ j)) → G (t ∷ j)
string_by_case G (Lexeme.string text) f t j z is e k = k text is e
string_by_case G _ f t j z is e k = absurd (cc)

pub string_case : {A : Type 0} (G : Symbols → Type 0) (f : List ℕ → Reader A) (i : Symbols) (z : A × Symbols) → and_then (take_string i) f ≡ Some z
    → ((text : List ℕ) (t : Symbol) (j : Symbols) → t.lexeme ≡ Lexeme.string text → f text j ≡ Some z → G (t ∷ j)) → G i
unfolding take_string
string_case G f [] z e k = absurd (cc)
string_case G f (t ∷ j) z e k = string_by_case G t.lexeme f t j z refl e (λ text is e1. k text t j is e1)

pub text_by_case : {A G : Type 0} (x : Option (List ℕ)) (f : List ℕ → Reader A) (i : Symbols) (z : A × Symbols) → and_then (text_by x i) f ≡ Some z
    → ((text : List ℕ) → x ≡ Some text → f text (tail i) ≡ Some z → G) → G
text_by_case (Some text) f i z e k = k text refl e
text_by_case None f i z e k = absurd (cc)

pub word_case : {A : Type 0} (G : Symbols → Type 0) (f : List ℕ → Reader A) (i : Symbols) (z : A × Symbols) → and_then (take_word i) f ≡ Some z
    → ((text : List ℕ) (t : Symbol) (j : Symbols) → word_text t.lexeme ≡ Some text → f text j ≡ Some z → G (t ∷ j)) → G i
unfolding take_word
word_case G f [] z e k = absurd (cc)
word_case G f (t ∷ j) z e k = text_by_case (word_text t.lexeme) f (t ∷ j) z e (λ text is e1. k text t j is e1)

pub key_case : {A : Type 0} (G : Symbols → Type 0) (f : List ℕ → Reader A) (i : Symbols) (z : A × Symbols) → and_then (take_key i) f ≡ Some z
    → ((text : List ℕ) (t : Symbol) (j : Symbols) → key_text t.lexeme ≡ Some text → f text j ≡ Some z → G (t ∷ j)) → G i
unfolding take_key
key_case G f [] z e k = absurd (cc)
key_case G f (t ∷ j) z e k = text_by_case (key_text t.lexeme) f (t ∷ j) z e (λ text is e1. k text t j is e1)

-- ---- trees

pub less : (a b : ℕ) → nat_lt a b ≡ true → a < b
less a b h = grind (arith, nat_tests)

pub not_less : (a b : ℕ) → nat_lt a b ≡ false → b ≤ a
not_less a b h = grind (arith, nat_tests)

pub grown_case : (G : Grown → Symbols → Type 0) (room line : ℕ) (n : ExprNode) (below : ℕ) (i : Symbols) (g : Grown) (r : Symbols) → grown room line n below i ≡ Some (g, r)
    → (below < room → G (on line n, below + 1) i) → G g r
unfolding grown
grown_case G room line n below i g r e k =
    pick_case (nat_lt below room) (Some ((on line n, below + 1), i)) None (g, r) e (λ fits e1. pure_case G e1 (k (less below room fits))) (λ unfit e1. absurd (none_some (g, r) e1))

pub stood_case : (G : Stood → Symbols → Type 0) (room line : ℕ) (s : StmtNode) (below : ℕ) (i : Symbols) (g : Stood) (r : Symbols) → stood room line s below i ≡ Some (g, r)
    → (below < room → G (stands line s, below + 1) i) → G g r
unfolding stood
stood_case G room line s below i g r e k =
    pick_case (nat_lt below room) (Some ((stands line s, below + 1), i)) None (g, r) e (λ fits e1. pure_case G e1 (k (less below room fits))) (λ unfit e1. absurd (none_some (g, r) e1))

-- ---- the end of a statement

pub quiet : (ends : Bool) (i : Symbols) → strength true ends i ≡ 0 → goes_on ends i ≡ false
quiet ends i h = ap (λ n. not (n == 0)) h

-- where nothing goes on, a semicolon was read or may be missing
pub semicolon_case : {A G : Type 0} (on : Bool) (f : Unit {0} → Reader A) (i : Symbols) (z : A × Symbols) → on ≡ false → and_then (semicolon i) f ≡ Some z
    → ((j : Symbols) → Ends on i j → f tt j ≡ Some z → G) → G
unfolding semicolon
semicolon_case on f i z none e k =
    bind_case (semicolon i) f z e (λ u j found e1.
    pick_case (sees mark.Semicolon (next_of i)) _ _ (u, j) found
    (λ seen e2. k (tail i) (seen_case (λ q. Ends on q (tail i)) mark.Semicolon i seen (λ t is. Ends.written on t (tail i) is)) (pure_case (λ v q. f v q ≡ Some z) (sym e2) e1))
    (λ unseen e2. pick_case (may_miss (like (next_of i)) (breaks i) false) _ _ (u, j) e2
    (λ miss e3. k i (Ends.missing on i (rw (none, ← miss_like (lexeme_of i) (breaks i) false) miss)) (pure_case (λ v q. f v q ≡ Some z) (sym e3) e1))
    (λ none e3. absurd (none_some (u, j) e3))))
