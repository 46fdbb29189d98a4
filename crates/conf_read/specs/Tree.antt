-- The tree of directives of a configuration, and the text that spells it.
use Rattle.std.specs.Prelude.{ℕ, ◌≡◌, List, [], ◌∷◌, ◌++◌, true, false}
use Rattle.std.specs.Str.{IsUtf8, chars}
use Rattle.conf_read.specs.declared.directive.Directive.{Directive}
use Rattle.conf_read.specs.Characters.{is_blank, is_quote, is_part, begins_word, begins, line_after}

-- ---- tokens

pub data Lexeme : Type 0 where
  word : List ℕ → Lexeme
  semicolon : Lexeme
  opening : Lexeme
  closing : Lexeme

-- with the line of its first character
pub record Token : Type 0 where
  pub line : ℕ
  pub lexeme : Lexeme

-- how a text ends: between tokens, or inside an open quote
pub data Ending : Type 0 where
  whole : Ending
  quoted : Ending

-- a comment, from behind its `#` up to the end of the line, and what is left
pub data Comment : List ℕ → List ℕ → Type 0 where
  over : Comment [] []
  feed : (s : List ℕ) → Comment (10 ∷ s) (10 ∷ s)
  more : (c : ℕ) (s r : List ℕ) → (c ≡ 10 → ⊥) → Comment s r → Comment (c ∷ s) r

-- how a word goes on, and what is left: it goes on as long as it can
pub data Run : List ℕ → List ℕ → List ℕ → Type 0 where
  stop : (r : List ℕ) → begins is_part r ≡ false → Run r [] r
  more : (c : ℕ) (s w r : List ℕ) → is_part c ≡ true → Run s w r → Run (c ∷ s) (c ∷ w) r

-- what stands inside these quotes from here on, on which line it ends, and what is left behind the closing quote; a backslash takes the next character as it is
pub data Inside : ℕ → ℕ → List ℕ → List ℕ → ℕ → List ℕ → Type 0 where
  close : (q line : ℕ) (r : List ℕ) → Inside q line (q ∷ r) [] line r
  plain : (q line c : ℕ) (s w : List ℕ) (last : ℕ) (r : List ℕ) → (c ≡ q → ⊥) → (c ≡ 92 → ⊥) → Inside q (line_after c line) s w last r → Inside q line (c ∷ s) (c ∷ w) last r
  taken : (q line c : ℕ) (s w : List ℕ) (last : ℕ) (r : List ℕ) → (q ≡ 92 → ⊥) → Inside q (line_after c line) s w last r → Inside q line (92 ∷ c ∷ s) (c ∷ w) last r

-- no closing quote stands from here on
pub data Unclosed : ℕ → List ℕ → Type 0 where
  over : (q : ℕ) → Unclosed q []
  cut : (q : ℕ) → (q ≡ 92 → ⊥) → Unclosed q (92 ∷ [])
  plain : (q c : ℕ) (s : List ℕ) → (c ≡ q → ⊥) → (c ≡ 92 → ⊥) → Unclosed q s → Unclosed q (c ∷ s)
  taken : (q c : ℕ) (s : List ℕ) → (q ≡ 92 → ⊥) → Unclosed q s → Unclosed q (92 ∷ c ∷ s)

abbrev pub token : ℕ → Lexeme → Token
token line lexeme = record { line = line; lexeme = lexeme }

-- the tokens of a text that begins on a line, and how it ends
pub data Lexes : ℕ → List ℕ → List Token → Ending → Type 0 where
  over : (line : ℕ) → Lexes line [] [] Ending.whole
  blank : (line c : ℕ) (s : List ℕ) (ts : List Token) (e : Ending) → is_blank c ≡ true → Lexes (line_after c line) s ts e → Lexes line (c ∷ s) ts e
  comment : (line : ℕ) (s r : List ℕ) (ts : List Token) (e : Ending) → Comment s r → Lexes line r ts e → Lexes line (35 ∷ s) ts e
  semicolon : (line : ℕ) (s : List ℕ) (ts : List Token) (e : Ending) → Lexes line s ts e → Lexes line (59 ∷ s) (token line Lexeme.semicolon ∷ ts) e
  opening : (line : ℕ) (s : List ℕ) (ts : List Token) (e : Ending) → Lexes line s ts e → Lexes line (123 ∷ s) (token line Lexeme.opening ∷ ts) e
  closing : (line : ℕ) (s : List ℕ) (ts : List Token) (e : Ending) → Lexes line s ts e → Lexes line (125 ∷ s) (token line Lexeme.closing ∷ ts) e
  word : (line c : ℕ) (s w r : List ℕ) (ts : List Token) (e : Ending) → begins_word c ≡ true → Run s w r → Lexes line r ts e → Lexes line (c ∷ s) (token line (Lexeme.word (c ∷ w)) ∷ ts) e
  quoted : (line q : ℕ) (s w : List ℕ) (last : ℕ) (r : List ℕ) (ts : List Token) (e : Ending) → is_quote q ≡ true → Inside q line s w last r → Lexes last r ts e → Lexes line (q ∷ s) (token line (Lexeme.word w) ∷ ts) e
  unclosed : (line q : ℕ) (s : List ℕ) → is_quote q ≡ true → Unclosed q s → Lexes line (q ∷ s) [] Ending.quoted

-- ---- directives

-- The directives of a block, or of the file: none; one that ends with `;`, and those behind it; or one with a block, what the block holds, and those behind it.
pub data Tree : Type 0 where
  none : Tree
  plain : Directive → Tree → Tree
  block : Directive → Tree → Tree → Tree

-- these words stand one after the other, each on some line; then comes what is left
pub data Words : List (List ℕ) → List Token → List Token → Type 0 where
  none : (r : List Token) → Words [] r r
  more : (line : ℕ) (w : List ℕ) (ws : List (List ℕ)) (i r : List Token) → Words ws i r → Words (w ∷ ws) (token line (Lexeme.word w) ∷ i) r

-- the tokens begin with those of the directives, and then comes what is left; a directive has the line of its first word
pub data Spells : Tree → List Token → List Token → Type 0 where
  none : (r : List Token) → Spells Tree.none r r
  plain : (d : Directive) (t : Tree) (line : ℕ) (i j r : List Token) → Words d.words i (token line Lexeme.semicolon ∷ j) → Spells t j r → Spells (Tree.plain d t) (token d.line (Lexeme.word d.name) ∷ i) r
  block : (d : Directive) (b t : Tree) (opened closed : ℕ) (i j k r : List Token) → Words d.words i (token opened Lexeme.opening ∷ j) → Spells b j (token closed Lexeme.closing ∷ k) → Spells t k r
      → Spells (Tree.block d b t) (token d.line (Lexeme.word d.name) ∷ i) r

-- the bytes are the UTF-8 of a text whose tokens are those of the tree
pub record ConfSpells (tree : Tree) (bytes : List ℕ) : Type 0 where
  pub tokens : List Token
  pub utf8 : IsUtf8 bytes
  pub lexes : Lexes 1 (chars bytes) tokens Ending.whole
  pub spells : Spells tree tokens []

-- ---- where a text leaves the form

-- some tree begins with these tokens
abbrev pub CanBegin : List Token → Type 0
CanBegin front = (tree : Tree) × (more : List Token) × Spells tree (front ++ more) []

-- the first token that doesn't fit stands on this line: some tree begins with those before it, and none with it too
pub record Misfit (tokens : List Token) (line : ℕ) : Type 0 where
  pub front : List Token
  pub lexeme : Lexeme
  pub rest : List Token
  pub joined : tokens ≡ front ++ token line lexeme ∷ rest
  pub fits : CanBegin front
  pub ends : CanBegin (front ++ token line lexeme ∷ []) → ⊥
