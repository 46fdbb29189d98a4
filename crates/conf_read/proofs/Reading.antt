-- What a scanner's step gives from what its parts give.
use Rattle.std.proofs.Common.{◌≡◌, ℕ, List, [], ◌∷◌, false, Result, Ok, Err, Some, refl, ap, sym, ◌∙◌}
use Rattle.conf_read.specs.declared.fault.ConfFault.{ConfFault}
use Rattle.conf_read.specs.declared.fault.ConfFault.TheVariants as fault
use Rattle.conf_read.specs.declared.scan.Mode.TheVariants as mode
use Rattle.conf_read.specs.declared.scan.Scanner.{Scanner}
use Rattle.conf_read.specs.declared.form.Form.{Form}
use Rattle.conf_read.specs.Characters.{is_part}
use Rattle.conf_read.specs.Tree.{Lexeme, Ending, token}
use Rattle.conf_read.specs.Scan.{Grouped, Lexed, Leaves, Reads, ReadsBetween, Gives, refused_line, formed, scanned, with_token, ended, between, lex}
use Rattle.conf_read.proofs.Pieces.{pieces_cut}

-- what else gives the same
pub leaves_also : {A B : Type 0} (f g h : B → Grouped) (r : Result A ConfFault) → ((b : B) → g b ≡ f b) → Leaves f r h → Leaves g r h
leaves_also f g h (Ok x) same l = λ b. same b ∙ l b
leaves_also f g h (Err fault.TooLong) same l = l
leaves_also f g h (Err (fault.Syntax line)) same l = λ b. same b ∙ l b
leaves_also f g h (Err (fault.Unknown line)) same l = l
leaves_also f g h (Err (fault.Place line)) same l = l
leaves_also f g h (Err (fault.Count line)) same l = l
leaves_also f g h (Err (fault.Value line)) same l = l
leaves_also f g h (Err (fault.Duplicate line)) same l = l
leaves_also f g h (Err fault.Missing) same l = l
leaves_also f g h (Err fault.NoMemory) same l = l

abbrev pub from_between : Scanner → ℕ → List ℕ → Grouped
from_between s c rest = formed s.form (between (λ m st v l. lex m st v l rest) s.start s.word s.line c)

between_same : (s : Scanner) (c : ℕ) (rest : List ℕ) → s.mode ≡ mode.Between → scanned s (c ∷ rest) ≡ from_between s c rest
between_same s c rest is = rw is refl

-- a character between tokens
pub reads_between : {A : Type 0} (old : Scanner) (c : ℕ) (r : Result A ConfFault) (new : Scanner) → old.mode ≡ mode.Between → ReadsBetween old c r new → Reads old c r new
reads_between old c r new is h = leaves_also (from_between old c) (λ rest. scanned old (c ∷ rest)) (λ rest. scanned new rest) r (λ rest. between_same old c rest is) h

word_ends : (s : Scanner) (c : ℕ) (rest : List ℕ) → s.mode ≡ mode.Word → is_part c ≡ false
    → scanned s (c ∷ rest) ≡ formed s.form (with_token (token s.start (Lexeme.word s.word)) (between (λ m st v l. lex m st v l rest) s.start [] s.line c))
word_ends s c rest is part = rw (is, part) refl

from_ended : (s t : Scanner) (form : Form) (c : ℕ) (rest : List ℕ) → t ≡ record s { word = []; form = form } → t.form ≡ form
    → formed form (between (λ m st v l. lex m st v l rest) s.start [] s.line c) ≡ from_between t c rest
from_ended s t form c rest is same = rw is refl

-- a character that ends a word
pub reads_end : {A : Type 0} (old mid : Scanner) (c : ℕ) (r : Result A ConfFault) (new : Scanner) → old.mode ≡ mode.Word → is_part c ≡ false
    → ((l : Lexed) → formed old.form (with_token (token old.start (Lexeme.word old.word)) l) ≡ formed mid.form l)
    → mid ≡ record old { word = []; form = mid.form } → ReadsBetween mid c r new → Reads old c r new
reads_end old mid c r new is part takes others h =
    leaves_also (from_between mid c) (λ rest. scanned old (c ∷ rest)) (λ rest. scanned new rest) r
    (λ rest. word_ends old c rest is part ∙ takes (between (λ m st v l. lex m st v l rest) old.start [] old.line c) ∙ from_ended old mid mid.form c rest others refl) h

-- ---- the end of a text

-- an error is given at the end too
pub gives_error : (A : Type 0) {B : Type 0} (f h : B → Grouped) (g : Grouped) (last : ℕ) (e : ConfFault) (b : B) → f b ≡ g → Leaves {A = A} f (Err e) h → Gives g last (Err e)
gives_error A f h g last fault.TooLong b same l = l
gives_error A f h g last (fault.Syntax line) b same l = ap (λ x. refused_line x last) (sym same ∙ l b)
gives_error A f h g last (fault.Unknown line) b same l = l
gives_error A f h g last (fault.Place line) b same l = l
gives_error A f h g last (fault.Count line) b same l = l
gives_error A f h g last (fault.Value line) b same l = l
gives_error A f h g last (fault.Duplicate line) b same l = l
gives_error A f h g last fault.Missing b same l = l
gives_error A f h g last fault.NoMemory b same l = l

-- what is given at the end between tokens
pub ends_between : (s : Scanner) → s.mode ≡ mode.Between → scanned s [] ≡ formed s.form (ended Ending.whole)
ends_between s is = rw is refl

pub ends_comment : (s : Scanner) → s.mode ≡ mode.Comment → scanned s [] ≡ formed s.form (ended Ending.whole)
ends_comment s is = rw is refl

-- what is given at the end of a word
pub ends_word : (s : Scanner) → s.mode ≡ mode.Word → scanned s [] ≡ formed s.form (with_token (token s.start (Lexeme.word s.word)) (ended Ending.whole))
ends_word s is = rw is refl

-- what is given inside quotes
pub ends_quoted : (s : Scanner) (quote last : ℕ) → s.mode ≡ mode.Quoted quote → refused_line (scanned s []) last ≡ Some last
ends_quoted s quote last is = rw is (ap (λ x. refused_line x last) (pieces_cut s.form.pieces))

pub ends_escaped : (s : Scanner) (quote last : ℕ) → s.mode ≡ mode.Escaped quote → refused_line (scanned s []) last ≡ Some last
ends_escaped s quote last is = rw is (ap (λ x. refused_line x last) (pieces_cut s.form.pieces))
