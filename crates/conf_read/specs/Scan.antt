-- How a text is read, character by character: what the private functions answer. What it means stands in Tree.
use Rattle.std.specs.Prelude.{ℕ, ◌+◌, ◌-◌, List, [], ◌∷◌, ◌++◌, ◌==◌, if◌then◌else◌, Option, Some, None, Result, Ok, Err, ◌≡◌, ◌≤◌, length}
use Rattle.conf_read.specs.declared.directive.Directive.{Directive}
use Rattle.conf_read.specs.declared.directive.Piece.{Piece}
use Rattle.conf_read.specs.declared.directive.Piece.TheVariants as piece
use Rattle.conf_read.specs.declared.fault.ConfFault.{ConfFault}
use Rattle.conf_read.specs.declared.fault.ConfFault.TheVariants as fault
use Rattle.conf_read.specs.declared.scan.Mode.{Mode}
use Rattle.conf_read.specs.declared.scan.Mode.TheVariants.{Between, Comment, Word, Quoted, Escaped}
use Rattle.conf_read.specs.declared.scan.Scanner.{Scanner}
use Rattle.conf_read.specs.declared.form.Form.{Form}
use Rattle.conf_read.specs.Characters.{is_blank, is_quote, is_part, line_after}
use Rattle.conf_read.specs.Tree.{Lexeme, Token, Ending, token}

-- ---- tokens

pub record Lexed : Type 0 where
  pub tokens : List Token
  pub ending : Ending

abbrev pub ended : Ending → Lexed
ended e = record { tokens = []; ending = e }

abbrev pub with_token : Token → Lexed → Lexed
with_token t l = record { tokens = t ∷ l.tokens; ending = l.ending }

-- how reading goes on behind a character: what is read, where the word began, what it has so far, and the line
abbrev pub Onward : Type 0
Onward = Mode → ℕ → List ℕ → ℕ → Lexed

-- a character that no word holds yet
abbrev pub between : Onward → ℕ → List ℕ → ℕ → ℕ → Lexed
between go start w line c =
    if is_blank c then go Between start w (line_after c line)
    else (if c == 35 then go Comment start w line
    else (if is_quote c then go (Quoted c) line [] line
    else (if c == 59 then with_token (token line Lexeme.semicolon) (go Between start w line)
    else (if c == 123 then with_token (token line Lexeme.opening) (go Between start w line)
    else (if c == 125 then with_token (token line Lexeme.closing) (go Between start w line)
    else go Word line (c ∷ []) line)))))

abbrev pub comment : Onward → ℕ → List ℕ → ℕ → ℕ → Lexed
comment go start w line c = if c == 10 then go Between start w (line + 1) else go Comment start w line

abbrev pub in_word : Onward → ℕ → List ℕ → ℕ → ℕ → Lexed
in_word go start w line c = if is_part c then go Word start (w ++ c ∷ []) line else with_token (token start (Lexeme.word w)) (between go start [] line c)

abbrev pub in_quotes : Onward → ℕ → ℕ → List ℕ → ℕ → ℕ → Lexed
in_quotes go q start w line c =
    if c == q then with_token (token start (Lexeme.word w)) (go Between start [] line)
    else (if c == 92 then go (Escaped q) start w line
    else go (Quoted q) start (w ++ c ∷ []) (line_after c line))

abbrev pub lex : Mode → ℕ → List ℕ → ℕ → List ℕ → Lexed
lex Between start w line [] = ended Ending.whole
lex Comment start w line [] = ended Ending.whole
lex Word start w line [] = with_token (token start (Lexeme.word w)) (ended Ending.whole)
lex (Quoted q) start w line [] = ended Ending.quoted
lex (Escaped q) start w line [] = ended Ending.quoted
lex Between start w line (c ∷ s) = between (λ m st v l. lex m st v l s) start w line c
lex Comment start w line (c ∷ s) = comment (λ m st v l. lex m st v l s) start w line c
lex Word start w line (c ∷ s) = in_word (λ m st v l. lex m st v l s) start w line c
lex (Quoted q) start w line (c ∷ s) = in_quotes (λ m st v l. lex m st v l s) q start w line c
lex (Escaped q) start w line (c ∷ s) = lex (Quoted q) start (w ++ c ∷ []) (line_after c line) s

-- ---- pieces

-- all pieces; a token that doesn't fit, on a line; or too early an end
pub data Grouped : Type 0 where
  complete : List Piece → Grouped
  misfit : ℕ → Grouped
  cut : Grouped

abbrev pub with_piece : Piece → Grouped → Grouped
with_piece p (Grouped.complete ps) = Grouped.complete (p ∷ ps)
with_piece p (Grouped.misfit line) = Grouped.misfit line
with_piece p Grouped.cut = Grouped.cut

abbrev pub with_pieces : List Piece → Grouped → Grouped
with_pieces [] g = g
with_pieces (p ∷ ps) g = with_piece p (with_pieces ps g)

abbrev pub begun : ℕ → List ℕ → Directive
begun line w = record { line = line; name = w; words = [] }

abbrev pub longer : Directive → List ℕ → Directive
longer d w = record d { words = d.words ++ w ∷ [] }

-- a directive with one more word, which may be its first
abbrev pub worded : Option Directive → ℕ → List ℕ → Directive
worded None line w = begun line w
worded (Some d) line w = longer d w

-- the end of all tokens, with this many blocks open
abbrev pub over : Ending → Option Directive → ℕ → Grouped
over Ending.quoted d depth = Grouped.cut
over Ending.whole (Some d) depth = Grouped.cut
over Ending.whole None depth = if depth == 0 then Grouped.complete [] else Grouped.cut

-- how reading goes on behind a token: the directive that has no end yet, and how many blocks are open
abbrev pub Further : Type 0
Further = Option Directive → ℕ → Grouped

abbrev pub taken : Further → Option Directive → ℕ → Token → Lexeme → Grouped
taken go d depth t (Lexeme.word w) = go (Some (worded d t.line w)) depth
taken go None depth t Lexeme.semicolon = Grouped.misfit t.line
taken go (Some d) depth t Lexeme.semicolon = with_piece (piece.Plain d) (go None depth)
taken go None depth t Lexeme.opening = Grouped.misfit t.line
taken go (Some d) depth t Lexeme.opening = with_piece (piece.Open d) (go None (depth + 1))
taken go None depth t Lexeme.closing = if depth == 0 then Grouped.misfit t.line else with_piece piece.Close (go None (depth - 1))
taken go (Some d) depth t Lexeme.closing = Grouped.misfit t.line

abbrev pub group : Ending → Option Directive → ℕ → List Token → Grouped
group e d depth [] = over e d depth
group e d depth (t ∷ ts) = taken (λ d' depth'. group e d' depth' ts) d depth t t.lexeme

-- ---- both at once

-- what a form gives with these tokens still to come
abbrev pub formed : Form → Lexed → Grouped
formed f l = with_pieces f.pieces (group l.ending f.current f.depth l.tokens)

-- what a scanner gives with this text still to come
abbrev pub scanned : Scanner → List ℕ → Grouped
scanned s rest = formed s.form (lex s.mode s.start s.word s.line rest)

-- the pieces of a text
abbrev pub pieces_of : List ℕ → Grouped
pieces_of text = let l = lex Between 1 [] 1 text in group l.ending None 0 l.tokens

-- what a call answers, and what it leaves, where before it this was given for all that may come: the same is given then, or the token on the line doesn't fit
abbrev pub Leaves : {A B : Type 0} → (B → Grouped) → Result A ConfFault → (B → Grouped) → Type 0
Leaves {A} {B} before (Ok x) after = (b : B) → before b ≡ after b
Leaves {A} {B} before (Err (fault.Syntax line)) after = (b : B) → before b ≡ Grouped.misfit line
Leaves before (Err fault.NoMemory) after = Unit {0}
Leaves before (Err _) after = ⊥

-- a form takes a token
abbrev pub Takes : {A : Type 0} → Form → Token → Result A ConfFault → Form → Type 0
Takes old t result new = Leaves (λ l. formed old (with_token t l)) result (λ l. formed new l)

-- a scanner reads a character
abbrev pub Reads : {A : Type 0} → Scanner → ℕ → Result A ConfFault → Scanner → Type 0
Reads old c result new = Leaves (λ rest. scanned old (c ∷ rest)) result (λ rest. scanned new rest)

-- a scanner reads a character that stands between tokens
abbrev pub ReadsBetween : {A : Type 0} → Scanner → ℕ → Result A ConfFault → Scanner → Type 0
ReadsBetween old c result new =
    Leaves (λ rest. formed old.form (between (λ m st v l. lex m st v l rest) old.start old.word old.line c)) result (λ rest. scanned new rest)

-- what a scanner holds after so many characters is small
pub record IsSmall (s : Scanner) (count : ℕ) : Type 0 where
  pub line : s.line ≤ count + 1
  pub word : length s.word ≤ count
  pub depth : s.form.depth ≤ count

-- one more character makes it larger by one at most
pub record Grows (old new : Scanner) : Type 0 where
  pub line : new.line ≤ old.line + 1
  pub word : length new.word ≤ length old.word + 1
  pub depth : new.form.depth ≤ old.form.depth + 1

-- the line that is refused, where the text has this last line
abbrev pub refused_line : Grouped → ℕ → Option ℕ
refused_line (Grouped.complete pieces) last = None
refused_line (Grouped.misfit line) last = Some line
refused_line Grouped.cut last = Some last

-- what is answered at the end of the text
abbrev pub Gives : Grouped → ℕ → Result (List Piece) ConfFault → Type 0
Gives g last (Ok pieces) = g ≡ Grouped.complete pieces
Gives g last (Err (fault.Syntax line)) = refused_line g last ≡ Some line
Gives g last (Err fault.NoMemory) = Unit {0}
Gives g last (Err _) = ⊥
