-- What the rules of chains, lists and primary expressions read is spelled, where their parts are.
use Rattle.std.proofs.Common.{◌≡◌, ℕ, zero, suc, ◌+◌, ◌-◌, max, ◌<◌, ◌≤◌, Bool, true, false, List, [], ◌∷◌, ◌++◌, length, Option, Some, None, refl, ap, sym, ◌∙◌, subst, arith, append_assoc, inl, inr}
use denote.Enum.Bare.{true_same}
use Rattle.njs_tree.specs.contracts.token.Mark as Mark_derived
use Rattle.njs_tree.specs.declared.token.Keyword.TheVariants as keyword
use Rattle.njs_tree.specs.declared.token.Mark.{Mark}
use Rattle.njs_tree.specs.declared.token.Mark.TheVariants as mark
use Rattle.njs_tree.specs.declared.tree.Expr.{Expr}
use Rattle.njs_tree.specs.declared.tree.ExprNode.TheVariants as node
use Rattle.njs_tree.specs.declared.tree.Stmt.{Stmt}
use Rattle.njs_tree.specs.declared.tree.FunctionTree.{FunctionTree, roll-FunctionTree}
use Rattle.njs_expr.specs.declared.terminal.Terminal.{Terminal}
use Rattle.njs_expr.specs.declared.terminal.Terminal.TheVariants as terminal
use Rattle.njs_tree.specs.Lexemes.{Lexeme, Symbol, key_text}
use Rattle.njs_tree.specs.Symbols.{line_of}
use Rattle.njs_tree.specs.Grammar.{at, Names, Parameters, Spells, BareNew, Arguments, Listed, Elements, Properties, Function, Body, Statements}
use Rattle.njs_expr.specs.Readers.{Symbols, Reader, and_then, ◌>>=◌, ◌>>◌, pure, terminal_of, next_of, sees, after, separate, Grown, Stood, on, grown, take_name, take_key}
use Rattle.njs_expr.specs.Expressions.{links, member, shorthand, listed, some_listed, arguments, new_arguments, call, index, link_by, link, chain, newed, valued_element, element, elements, whole_elements, array, property_value, property, properties, whole_properties, object, names, some_names, parameters, closes, some_name, optional_name, statements, whole_statements, braced, function, function_value}
use Rattle.njs_expr.proofs.Terminals.{seen_is}
use Rattle.njs_expr.proofs.Forwards.{never}
use Rattle.njs_expr.proofs.Past.{past, shorter, arguments_past}
use Rattle.njs_expr.proofs.Begins.{begins, begun, unseen}
use Rattle.njs_expr.proofs.Backwards.{bind_case, bind_bind, text_by_case, chosen_then, none_some, some_one, pure_case, if_case, eat_case, expect_case, separate_case, name_case, word_case, grown_case}
use Rattle.njs_expr.proofs.Read.{chain_level}
use Rattle.njs_expr.proofs.Soundness.{Chain, Chained, StandsAs, ListStands, Sound, Rest, rest_more, rest_none, rest_last, rest_whole}

-- ---- how the elements and properties of a list go on

data ElementRead : Symbols → Option Expr × ℕ → Symbols → Type 0 where
  a_hole : (t : Symbol) (k : Symbols) → t.lexeme ≡ Lexeme.mark mark.Comma → ElementRead (t ∷ k) (None, 0) k
  followed : (a : Expr) (d : ℕ) (e : Bool) (t : Symbol) (i k : Symbols) → Spells true 2 a d e i (t ∷ k) → t.lexeme ≡ Lexeme.mark mark.Comma → ElementRead i (Some a, d) k
  closed : (a : Expr) (d : ℕ) (e : Bool) (i k : Symbols) → Spells true 2 a d e i k → sees mark.RightBracket (next_of k) ≡ true → ElementRead i (Some a, d) k

seen_open : (m : Mark) (k : Terminal) → sees m k ≡ true → begins k ≡ true → begins (terminal.Mark m) ≡ false → ⊥
seen_open m k seen opens foreign = never (sym seen ∙ unseen m k opens foreign)

other_seen : (m : Mark) (x y : Lexeme) → x ≡ y → sees m (terminal_of x) ≡ true → sees m (terminal_of y) ≡ true
other_seen m x y e h = rw (← e) h

-- the last element stands before the closing bracket
last_closed : {xs : List (Option Expr)} {dx : ℕ} {k r : Symbols} → Elements xs dx k r → (a : Expr) (d : ℕ) (e : Bool) (i : Symbols) → Spells true 2 a d e i k → sees mark.RightBracket (next_of k) ≡ true
    → Elements (Some a ∷ xs) (max d dx) i r
unfolding sees
last_closed (Elements.no_element t r is_t) a d e i sa seen = let same : d ≡ max d 0 = omega arith in subst (λ n. Elements (Some a ∷ []) n i r) same (Elements.last_element a d e t i r sa is_t)
last_closed (Elements.hole xs dx t j r is_t hxs) a d e i sa seen = absurd (never (sym (other_seen mark.RightBracket t.lexeme _ is_t seen)))
last_closed (Elements.last_element b dx f t k r hb is_t) a d e i sa seen = absurd (seen_open mark.RightBracket (next_of k) seen (begun hb) refl)
last_closed (Elements.element b xs db dx f t k j r hb is_t hxs) a d e i sa seen = absurd (seen_open mark.RightBracket (next_of k) seen (begun hb) refl)

element_more : {i k : Symbols} {x : Option Expr × ℕ} → ElementRead i x k → (r : Symbols) (xs : List (Option Expr)) (dx : ℕ) → Elements xs dx k r → Elements (x.0 ∷ xs) (max x.1 dx) i r
element_more (a_hole t k is) r xs dx h = let same : dx ≡ max 0 dx = omega arith in subst (λ n. Elements (None ∷ xs) n (t ∷ k) r) same (Elements.hole xs dx t k r is h)
element_more (followed a d e t i k sa is) r xs dx h = Elements.element a xs d dx e t i k r sa is h
element_more (closed a d e i k sa seen) r xs dx h = last_closed h a d e i sa seen

data PropertyRead : Symbols → (List ℕ × Expr) × ℕ → Symbols → Type 0 where
  pair : (key : List ℕ) (a : Expr) (d : ℕ) (e : Bool) (t u v : Symbol) (i k : Symbols) → key_text t.lexeme ≡ Some key → u.lexeme ≡ Lexeme.mark mark.Colon → Spells true 2 a d e i (v ∷ k)
      → v.lexeme ≡ Lexeme.mark mark.Comma → PropertyRead (t ∷ u ∷ i) ((key, a), d) k
  last_pair : (key : List ℕ) (a : Expr) (d : ℕ) (e : Bool) (t u : Symbol) (i k : Symbols) → key_text t.lexeme ≡ Some key → u.lexeme ≡ Lexeme.mark mark.Colon → Spells true 2 a d e i k
      → sees mark.RightBrace (next_of k) ≡ true → PropertyRead (t ∷ u ∷ i) ((key, a), d) k
  shorthanded : (name : List ℕ) (t u : Symbol) (k : Symbols) → t.lexeme ≡ Lexeme.name name → u.lexeme ≡ Lexeme.mark mark.Comma → PropertyRead (t ∷ u ∷ k) ((name, on t.line (node.Name name)), 1) k
  last_short : (name : List ℕ) (t : Symbol) (k : Symbols) → t.lexeme ≡ Lexeme.name name → sees mark.RightBrace (next_of k) ≡ true → PropertyRead (t ∷ k) ((name, on t.line (node.Name name)), 1) k

key_seen : (x : Lexeme) (key : List ℕ) → key_text x ≡ Some key → sees mark.RightBrace (terminal_of x) ≡ true → ⊥
unfolding sees
key_seen (Lexeme.name text) key e h = never (sym h)
key_seen (Lexeme.reserved w) key e h = never (sym h)
key_seen (Lexeme.number n) key e h = never (sym h)
key_seen (Lexeme.string text) key e h = never (sym h)
key_seen (Lexeme.mark m) key e h = none_some key e
key_seen Lexeme.over key e h = none_some key e

name_seen : (x : Lexeme) (name : List ℕ) → x ≡ Lexeme.name name → sees mark.RightBrace (terminal_of x) ≡ true → ⊥
unfolding sees
name_seen x name is h = never (sym (other_seen mark.RightBrace x (Lexeme.name name) is h))

last_pair_closed : {ps : List (List ℕ × Expr)} {dp : ℕ} {k r : Symbols} → Properties ps dp k r → (key : List ℕ) (a : Expr) (d : ℕ) (e : Bool) (t u : Symbol) (i : Symbols) → key_text t.lexeme ≡ Some key
    → u.lexeme ≡ Lexeme.mark mark.Colon → Spells true 2 a d e i k → sees mark.RightBrace (next_of k) ≡ true → Properties ((key, a) ∷ ps) (max d dp) (t ∷ u ∷ i) r
last_pair_closed (Properties.no_property v r is_v) key a d e t u i is is_u sa seen =
    let same : d ≡ max d 0 = omega arith in subst (λ n. Properties ((key, a) ∷ []) n (t ∷ u ∷ i) r) same (Properties.last_property key a d e t u v i r is is_u sa is_v)
last_pair_closed (Properties.last_property kb b db f v w x k r is_v is_w hb is_x) key a d e t u i is is_u sa seen = absurd (key_seen v.lexeme kb is_v seen)
last_pair_closed (Properties.property kb b ps db dp f v w x k j r is_v is_w hb is_x hps) key a d e t u i is is_u sa seen = absurd (key_seen v.lexeme kb is_v seen)
last_pair_closed (Properties.last_name name v w r is_v is_w) key a d e t u i is is_u sa seen = absurd (name_seen v.lexeme name is_v seen)
last_pair_closed (Properties.property_name name ps dp v w j r is_v is_w hps) key a d e t u i is is_u sa seen = absurd (name_seen v.lexeme name is_v seen)

last_short_closed : {ps : List (List ℕ × Expr)} {dp : ℕ} {k r : Symbols} → Properties ps dp k r → (name : List ℕ) (t : Symbol) → t.lexeme ≡ Lexeme.name name → sees mark.RightBrace (next_of k) ≡ true
    → Properties ((name, on t.line (node.Name name)) ∷ ps) (max 1 dp) (t ∷ k) r
last_short_closed (Properties.no_property v r is_v) name t is seen = Properties.last_name name t v r is is_v
last_short_closed (Properties.last_property kb b db f v w x k r is_v is_w hb is_x) name t is seen = absurd (key_seen v.lexeme kb is_v seen)
last_short_closed (Properties.property kb b ps db dp f v w x k j r is_v is_w hb is_x hps) name t is seen = absurd (key_seen v.lexeme kb is_v seen)
last_short_closed (Properties.last_name other v w r is_v is_w) name t is seen = absurd (name_seen v.lexeme other is_v seen)
last_short_closed (Properties.property_name other ps dp v w j r is_v is_w hps) name t is seen = absurd (name_seen v.lexeme other is_v seen)

property_more : {i k : Symbols} {p : (List ℕ × Expr) × ℕ} → PropertyRead i p k → (r : Symbols) (ps : List (List ℕ × Expr)) (dp : ℕ) → Properties ps dp k r → Properties (p.0 ∷ ps) (max p.1 dp) i r
property_more (pair key a d e t u v i k is is_u sa is_v) r ps dp h = Properties.property key a ps d dp e t u v i k r is is_u sa is_v h
property_more (last_pair key a d e t u i k is is_u sa seen) r ps dp h = last_pair_closed h key a d e t u i is is_u sa seen
property_more (shorthanded name t u k is is_u) r ps dp h = Properties.property_name name ps dp t u k r is is_u h
property_more (last_short name t k is seen) r ps dp h = last_short_closed h name t is seen

name_of_key : (x : Lexeme) (key : List ℕ) → key_text x ≡ Some key → terminal_of x ≡ terminal.Name → x ≡ Lexeme.name key
name_of_key (Lexeme.name text) key e h = ap Lexeme.name (some_one e)
name_of_key (Lexeme.reserved w) key e h = absurd (cc)
name_of_key (Lexeme.number n) key e h = absurd (cc)
name_of_key (Lexeme.string text) key e h = absurd (cc)
name_of_key (Lexeme.mark m) key e h = absurd (cc)
name_of_key Lexeme.over key e h = absurd (cc)

paren_links : (x : Lexeme) → x ≡ Lexeme.mark mark.LeftParen → links true (terminal_of x) ≡ true
paren_links x is = rw is

no_links : (k : Terminal) → links false k ≡ false → sees mark.LeftParen k ≡ false → links true k ≡ false
unfolding sees
no_links (terminal.Mark mark.LeftParen) h unseen = absurd (never unseen)
no_links (terminal.Mark mark.Dot) h unseen = h
no_links (terminal.Mark mark.LeftBracket) h unseen = h
no_links _ h unseen = h

pub of_mark : (m : Mark) (x : Lexeme) → terminal_of x ≡ terminal.Mark m → x ≡ Lexeme.mark m
unfolding sees
of_mark m x e = seen_is m x (rw e (true_same Mark_derived.the_type m m refl))

all_links : (k : Terminal) → links false k ≡ true → links true k ≡ true
all_links (terminal.Mark mark.LeftParen) h = refl
all_links (terminal.Mark mark.Dot) h = refl
all_links (terminal.Mark mark.LeftBracket) h = refl
all_links _ h = h

-- ---- parameters

names_sound : (n : ℕ) (found : List (List ℕ)) (i : Symbols) (xs : List (List ℕ)) (r : Symbols) → names n found i ≡ Some (xs, r) → (ys : List (List ℕ)) × (xs ≡ found ++ ys) × Names ys i r
unfolding names
names_sound zero found i xs r e = absurd (none_some (xs, r) e)
names_sound (suc n) found i xs r e =
    name_case (λ q. (ys : List (List ℕ)) × (xs ≡ found ++ ys) × Names ys q r) _ i (xs, r) e (λ name t j is e1.
    eat_case (λ q. (ys : List (List ℕ)) × (xs ≡ found ++ ys) × Names ys (t ∷ q) r) mark.Comma _ _ j (xs, r) e1
    (λ u l is_u e2. let more = names_sound n (found ++ name ∷ []) l xs r e2 in (name ∷ more.0, more.1 ∙ append_assoc found (name ∷ []) more.0, Names.more name more.0 t u l r is is_u more.2))
    (λ unseen e2. expect_case (λ q. (ys : List (List ℕ)) × (xs ≡ found ++ ys) × Names ys (t ∷ q) r) mark.RightParen _ j (xs, r) e2
    (λ u l is_u e3. pure_case (λ zs q. (ys : List (List ℕ)) × (zs ≡ found ++ ys) × Names ys (t ∷ u ∷ l) q) e3 (name ∷ [], refl, Names.last name t u l is is_u))))

parameters_sound : (i : Symbols) (xs : List (List ℕ)) (r : Symbols) → parameters i ≡ Some (xs, r) → Parameters xs i r
unfolding parameters some_names
parameters_sound i xs r e =
    expect_case (λ q. Parameters xs q r) mark.LeftParen _ i (xs, r) e (λ t j is e1.
    eat_case (λ q. Parameters xs (t ∷ q) r) mark.RightParen _ _ j (xs, r) e1
    (λ u l is_u e2. pure_case (λ zs q. Parameters zs (t ∷ u ∷ l) q) e2 (Parameters.none t u l is is_u))
    (λ unseen e2. let h = names_sound (length j) [] j xs r e2 in subst (λ zs. Parameters zs (t ∷ j) r) (sym h.1) (Parameters.some h.0 t j r is h.2)))

-- ---- statements in braces

pub data Braced (declares : Bool) : List Stmt × ℕ → Symbols → Symbols → Type 0 where
  in_braces : (ss : List Stmt × ℕ) (t u : Symbol) (i r : Symbols) → t.lexeme ≡ Lexeme.mark mark.LeftBrace → ListStands declares ss.0 ss.1 i (u ∷ r) → u.lexeme ≡ Lexeme.mark mark.RightBrace
      → Braced declares ss (t ∷ i) r

function_of : (name : Option (List ℕ)) (params : List (List ℕ)) (i j r : Symbols) (body : List Stmt × ℕ) → Parameters params i j → Braced true body j r
    → Function name (roll-FunctionTree (record { name = name; params = params; body = body.0 })) body.1 i r
function_of name params i j r body hp (in_braces ss t u k q is h is_u) = Function.function name params ss.0 ss.1 t u i k q hp is h is_u

module _ (E : Bool → ℕ → ℕ → Reader Grown) (S : Bool → ℕ → Reader Stood) (sound : Sound E S) where
  -- ---- arguments

  listed_sound : (room n : ℕ) (found : List Expr) (below : ℕ) (i : Symbols) (xs : List Expr × ℕ) (r : Symbols) → listed E room n found below i ≡ Some (xs, r)
      → Rest (λ ys ds. Listed ys ds i r) found below xs
  unfolding listed
  listed_sound room zero found below i xs r e = absurd (none_some (xs, r) e)
  listed_sound room (suc n) found below i xs r e = bind_case (E true 2 (room - 1) i) _ (xs, r) e (λ x k found_x e1.
      let s = sound.reads true 2 (room - 1) i x k (omega arith) (omega arith) found_x in
      eat_case (λ q. Spells true 2 x.0 x.1 s.ends i q → Rest (λ ys ds. Listed ys ds i r) found below xs) mark.Comma _ _ k (xs, r) e1
      (λ t j is e2 sa. rest_more (λ ys ds. Listed ys ds j r) (λ ys ds. Listed ys ds i r) found x.0 below x.1 xs (listed_sound room n (found ++ x.0 ∷ []) (max below x.1) j xs r e2)
      (λ ys ds h. Listed.more_arguments x.0 ys x.1 ds s.ends t i j r sa is h))
      (λ unseen e2 sa. expect_case (λ q. Spells true 2 x.0 x.1 s.ends i q → Rest (λ ys ds. Listed ys ds i r) found below xs) mark.RightParen _ k (xs, r) e2
      (λ t j is e3 sb. pure_case (λ a q. Rest (λ ys ds. Listed ys ds i q) found below a) e3
      (rest_last (λ ys ds. Listed ys ds i j) found x.0 below x.1 (Listed.last_argument x.0 x.1 s.ends t i j sb is))) sa) s.spells)

  pub arguments_sound : (room : ℕ) (i : Symbols) (xs : List Expr × ℕ) (r : Symbols) → arguments E room i ≡ Some (xs, r) → Arguments xs.0 xs.1 i r
  unfolding arguments some_listed
  arguments_sound room i xs r e =
      eat_case (λ q. Arguments xs.0 xs.1 q r) mark.RightParen _ _ i (xs, r) e
      (λ t j is e1. pure_case (λ a q. Arguments a.0 a.1 (t ∷ j) q) e1 (Arguments.no_arguments t j is))
      (λ unseen e1. Arguments.some_arguments xs.0 xs.1 i r (rest_whole (λ ys ds. Listed ys ds i r) xs (listed_sound room (length i) [] 0 i xs r e1)))

  -- ---- links of a chain

  call_sound : (with_in : Bool) (room : ℕ) (s : Symbols) (f : Grown) (t : Symbol) (j : Symbols) (g : Grown) (r : Symbols) → t.lexeme ≡ Lexeme.mark mark.LeftParen
      → Spells with_in 17 f.0 f.1 false s (t ∷ j) → call E room (line_of s) f j ≡ Some (g, r) → Spells with_in 17 g.0 g.1 false s r × (g.1 ≤ room) × (length r < length j)
  unfolding call
  call_sound with_in room s f t j g r is sf e = bind_case (arguments E room j) _ (g, r) e (λ xs k found e1.
      let sx = arguments_sound room j xs k found in
      grown_case (λ x q. Spells with_in 17 x.0 x.1 false s q × (x.1 ≤ room) × (length q < length j)) room (line_of s) (node.Call f.0 xs.0) (max f.1 xs.1) k g r e1
      (λ fits. (Spells.call with_in 17 f.0 xs.0 f.1 xs.1 false t s j k (omega arith) sf is sx, omega (arith, fits), shorter (arguments_past sx))))

  index_sound : (with_in : Bool) (base room : ℕ) (s : Symbols) (f : Grown) (t : Symbol) (j : Symbols) (g : Grown) (r : Symbols) → t.lexeme ≡ Lexeme.mark mark.LeftBracket → 17 ≤ base → base ≤ 18
      → Spells with_in base f.0 f.1 false s (t ∷ j) → index E room (line_of s) f j ≡ Some (g, r) → Spells with_in base g.0 g.1 false s r × (g.1 ≤ room) × (length r < length j)
  unfolding index
  index_sound with_in base room s f t j g r is low high sf e = bind_case (E true 1 (room - 1) j) _ (g, r) e (λ x k found e1.
      let b = sound.reads true 1 (room - 1) j x k (omega arith) (omega arith) found in
      expect_case (λ q. Spells true 1 x.0 x.1 b.ends j q → Spells with_in base g.0 g.1 false s r × (g.1 ≤ room) × (length r < length j)) mark.RightBracket _ k (g, r) e1
      (λ u m is_u e2 sb. grown_case (λ y q. Spells with_in base y.0 y.1 false s q × (y.1 ≤ room) × (length q < length j)) room (line_of s) (node.Index f.0 x.0) (max f.1 x.1) m g r e2
      (λ fits. (Spells.index with_in base base f.0 x.0 f.1 x.1 false b.ends t u s j m (omega arith) low high sf is sb is_u, omega (arith, fits), omega (arith, shorter (past sb))))) b.spells)

  member_sound : (with_in : Bool) (base room : ℕ) (s : Symbols) (f : Grown) (t : Symbol) (j : Symbols) (g : Grown) (r : Symbols) → t.lexeme ≡ Lexeme.mark mark.Dot → 17 ≤ base → base ≤ 18
      → Spells with_in base f.0 f.1 false s (t ∷ j) → member room (line_of s) f j ≡ Some (g, r) → Spells with_in base g.0 g.1 false s r × (g.1 ≤ room) × (length r < length j)
  unfolding member
  member_sound with_in base room s f t j g r is low high sf e =
      word_case (λ q. Spells with_in base f.0 f.1 false s (t ∷ q) → Spells with_in base g.0 g.1 false s r × (g.1 ≤ room) × (length r < length q)) _ j (g, r) e
      (λ name u k is_u e1 sf2. grown_case (λ y q. Spells with_in base y.0 y.1 false s q × (y.1 ≤ room) × (length q < length (u ∷ k))) room (line_of s) (node.Member f.0 name) f.1 k g r e1
      (λ fits. (Spells.member with_in base base f.0 name f.1 false t u s k (omega arith) low high sf2 is is_u, omega (arith, fits), omega arith))) sf

  -- a link, where the chain may have it
  link_by_sound : (with_in with_calls : Bool) (room : ℕ) (s : Symbols) (f : Grown) (t : Symbol) (k : Terminal) (j : Symbols) (g : Grown) (r : Symbols) → terminal_of t.lexeme ≡ k → links with_calls k ≡ true
      → Spells with_in (chain_level with_calls) f.0 f.1 false s (t ∷ j) → link_by E room (line_of s) f k (t ∷ j) ≡ Some (g, r)
      → Spells with_in (chain_level with_calls) g.0 g.1 false s r × (g.1 ≤ room) × (length r < length j)
  link_by_sound with_in true room s f t (terminal.Mark mark.LeftParen) j g r is linked sf e = call_sound with_in room s f t j g r (of_mark mark.LeftParen t.lexeme is) sf e
  link_by_sound with_in false room s f t (terminal.Mark mark.LeftParen) j g r is linked sf e = absurd (never (sym linked))
  link_by_sound with_in true room s f t (terminal.Mark mark.Dot) j g r is linked sf e = member_sound with_in 17 room s f t j g r (of_mark mark.Dot t.lexeme is) (omega arith) (omega arith) sf e
  link_by_sound with_in false room s f t (terminal.Mark mark.Dot) j g r is linked sf e = member_sound with_in 18 room s f t j g r (of_mark mark.Dot t.lexeme is) (omega arith) (omega arith) sf e
  link_by_sound with_in true room s f t (terminal.Mark mark.LeftBracket) j g r is linked sf e = index_sound with_in 17 room s f t j g r (of_mark mark.LeftBracket t.lexeme is) (omega arith) (omega arith) sf e
  link_by_sound with_in false room s f t (terminal.Mark mark.LeftBracket) j g r is linked sf e = index_sound with_in 18 room s f t j g r (of_mark mark.LeftBracket t.lexeme is) (omega arith) (omega arith) sf e
  link_by_sound with_in with_calls room s f t _ j g r is linked sf e = absurd (none_some (g, r) e)

  link_sound : (with_in with_calls : Bool) (room : ℕ) (s : Symbols) (f : Grown) (i : Symbols) (g : Grown) (r : Symbols) → links with_calls (next_of i) ≡ true
      → Spells with_in (chain_level with_calls) f.0 f.1 false s i → link E room (line_of s) f i ≡ Some (g, r)
      → Spells with_in (chain_level with_calls) g.0 g.1 false s r × (g.1 ≤ room) × (length r < length i)
  unfolding link
  link_sound with_in with_calls room s f [] g r linked sf e = absurd (never (sym linked))
  link_sound with_in with_calls room s f (t ∷ j) g r linked sf e = let l = link_by_sound with_in with_calls room s f t (terminal_of t.lexeme) j g r refl linked sf e in (l.0, l.1, omega (arith, l.2))

  -- links with calls are all the links
  more_links : (with_calls : Bool) (k : Terminal) → links with_calls k ≡ true → links true k ≡ true
  more_links true k h = h
  more_links false k h = all_links k h

  pub chain_sound : (with_in with_calls : Bool) (room : ℕ) (s : Symbols) (n : ℕ) (f : Grown) (i : Symbols) (g : Grown) (r : Symbols) → length i ≤ n → Chained with_in with_calls room s f i
      → chain E with_calls room (line_of s) n f i ≡ Some (g, r) → Chained with_in with_calls room s g r × (links with_calls (next_of r) ≡ false)
  unfolding chain
  chain_sound with_in with_calls room s zero f [] g r short c e =
      pure_case (λ x q. Chained with_in with_calls room s x q × (links with_calls (next_of q) ≡ false)) e (c, refl)
  chain_sound with_in with_calls room s zero f (t ∷ i) g r short c e = absurd (omega arith)
  chain_sound with_in with_calls room s (suc n) f i g r short c e =
      if_case (links with_calls (next_of i)) _ _ i (g, r) e
      (λ linked e1. bind_case (link E room (line_of s) f i) _ (g, r) e1 (λ x k found e2.
      elim c.chain [
        | inl sf ↦
            let l = link_sound with_in with_calls room s f i x k linked sf found in
            chain_sound with_in with_calls room s n x k g r (omega (arith, l.2)) (record { chain = inl l.0; fits = l.1 }) e2
        | inr b ↦ absurd (never (sym (more_links with_calls (next_of i) linked) ∙ b.1))
      ]))
      (λ unlinked e1. pure_case (λ x q. Chained with_in with_calls room s x q × (links with_calls (next_of q) ≡ false)) e1 (c, unlinked))

  -- ---- `new`

  -- a callee, with arguments or without
  pub newed_sound : (with_in : Bool) (room : ℕ) (t : Symbol) (j : Symbols) (g : Grown) (r : Symbols) → t.lexeme ≡ Lexeme.reserved keyword.New → newed E with_in room t.line j ≡ Some (g, r)
      → Chained with_in false room (t ∷ j) g r
  unfolding newed new_arguments
  newed_sound with_in room t j g r is e = bind_case (E with_in 18 (room - 1) j) _ (g, r) e (λ x k found e1.
      let c = sound.callees with_in (room - 1) j x k found in
      bind_case (new_arguments E room k) _ (g, r) e1 (λ xs m found_xs e2.
      eat_case (λ q. Chain with_in false j x q → links false (next_of q) ≡ false → Chained with_in false room (t ∷ j) g r) mark.LeftParen _ _ k (xs, m) found_xs
      (λ u l is_u e3 chain unlinked. elim chain [
        | inl sf ↦
            let sx = arguments_sound room l xs m e3 in
            grown_case (λ y q. Chained with_in false room (t ∷ j) y q) room t.line (node.New x.0 xs.0) (max x.1 xs.1) m g r e2
            (λ fits. record { chain = inl (Spells.new with_in 18 x.0 xs.0 x.1 xs.1 false t u j l m (omega arith) is sf is_u sx); fits = omega (arith, fits) })
        | inr b ↦ absurd (never (sym (paren_links u.lexeme is_u) ∙ b.1))
      ])
      (λ unseen e3 chain unlinked. pure_case (λ (ys : List Expr × ℕ) q. grown room t.line (node.New x.0 ys.0) (max x.1 ys.1) q ≡ Some (g, r) → Chained with_in false room (t ∷ j) g r) e3
      (λ e4. grown_case (λ y q. Chained with_in false room (t ∷ j) y q) room t.line (node.New x.0 []) (max x.1 0) k g r e4 (λ fits.
      let same : x.1 + 1 ≡ max x.1 0 + 1 = omega arith in
      elim chain [
        | inl sf ↦ record {
          chain = inr (subst (λ d. BareNew with_in (at (t ∷ j) (node.New x.0 [])) d (t ∷ j) k) same (BareNew.new_chain with_in x.0 x.1 false t j k is sf), no_links (next_of k) unlinked unseen);
          fits = omega (arith, fits);
        }
        | inr b ↦ record {
          chain = inr (subst (λ d. BareNew with_in (at (t ∷ j) (node.New x.0 [])) d (t ∷ j) k) same (BareNew.new_new with_in x.0 x.1 t j k is b.0), b.1);
          fits = omega (arith, fits);
        }
      ])) e2) c.0.chain c.1))

  -- ---- arrays

  valued_element_sound : (room : ℕ) (i : Symbols) (x : Option Expr × ℕ) (k : Symbols) → valued_element E room i ≡ Some (x, k) → ElementRead i x k
  unfolding valued_element
  valued_element_sound room i x k e = bind_case (E true 2 (room - 1) i) _ (x, k) e (λ a j found e1.
      let s = sound.reads true 2 (room - 1) i a j (omega arith) (omega arith) found in
      separate_case (λ q. Spells true 2 a.0 a.1 s.ends i q → ElementRead i x k) mark.RightBracket _ j (x, k) e1
      (λ t l is e2 sa. pure_case (λ y q. ElementRead i y q) e2 (followed a.0 a.1 s.ends t i l sa is))
      (λ seen e2 sa. pure_case (λ y q. ElementRead i y q) e2 (closed a.0 a.1 s.ends i j sa seen)) s.spells)

  element_sound : (room : ℕ) (i : Symbols) (x : Option Expr × ℕ) (k : Symbols) → element E room i ≡ Some (x, k) → ElementRead i x k
  unfolding element
  element_sound room i x k e =
      eat_case (λ q. ElementRead q x k) mark.Comma _ _ i (x, k) e
      (λ t j is e1. pure_case (λ y q. ElementRead (t ∷ j) y q) e1 (a_hole t j is))
      (λ unseen e1. valued_element_sound room i x k e1)

  elements_sound : (room n : ℕ) (found : List (Option Expr)) (below : ℕ) (i : Symbols) (xs : List (Option Expr) × ℕ) (r : Symbols) → elements E room n found below i ≡ Some (xs, r)
      → Rest (λ ys ds. Elements ys ds i r) found below xs
  unfolding elements
  elements_sound room zero found below i xs r e = absurd (none_some (xs, r) e)
  elements_sound room (suc n) found below i xs r e =
      eat_case (λ q. Rest (λ ys ds. Elements ys ds q r) found below xs) mark.RightBracket _ _ i (xs, r) e
      (λ t j is e1. pure_case (λ y q. Rest (λ ys ds. Elements ys ds (t ∷ j) q) found below y) e1 (rest_none (λ ys ds. Elements ys ds (t ∷ j) j) found below (Elements.no_element t j is)))
      (λ unseen e1. bind_case (element E room i) _ (xs, r) e1 (λ x k found_x e2.
      rest_more (λ ys ds. Elements ys ds k r) (λ ys ds. Elements ys ds i r) found x.0 below x.1 xs (elements_sound room n (found ++ x.0 ∷ []) (max below x.1) k xs r e2)
      (λ ys ds h. element_more (element_sound room i x k found_x) r ys ds h)))

  pub array_sound : (with_in : Bool) (room : ℕ) (t : Symbol) (j : Symbols) (g : Grown) (r : Symbols) → t.lexeme ≡ Lexeme.mark mark.LeftBracket → array E room t.line j ≡ Some (g, r)
      → Chained with_in false room (t ∷ j) g r
  unfolding array whole_elements
  array_sound with_in room t j g r is e = bind_case (elements E room (length j) [] 0 j) _ (g, r) e (λ xs k found e1.
      let h = rest_whole (λ ys ds. Elements ys ds j k) xs (elements_sound room (length j) [] 0 j xs k found) in
      grown_case (λ y q. Chained with_in false room (t ∷ j) y q) room t.line (node.Array xs.0) xs.1 k g r e1
      (λ fits. record { chain = inl (Spells.array with_in 18 xs.0 xs.1 t j k is h); fits = omega (arith, fits) }))

  -- ---- objects

  pair_sound : (room : ℕ) (key : List ℕ) (t u : Symbol) (i : Symbols) (p : (List ℕ × Expr) × ℕ) (k : Symbols) → key_text t.lexeme ≡ Some key → u.lexeme ≡ Lexeme.mark mark.Colon
      → and_then (E true 2 (room - 1) i) (λ a. separate mark.RightBrace >> pure ((key, a.0), a.1)) ≡ Some (p, k) → PropertyRead (t ∷ u ∷ i) p k
  pair_sound room key t u i p k is is_u e = bind_case (E true 2 (room - 1) i) _ (p, k) e (λ a j found e1.
      let s = sound.reads true 2 (room - 1) i a j (omega arith) (omega arith) found in
      separate_case (λ q. Spells true 2 a.0 a.1 s.ends i q → PropertyRead (t ∷ u ∷ i) p k) mark.RightBrace _ j (p, k) e1
      (λ v l is_v e2 sa. pure_case (λ y q. PropertyRead (t ∷ u ∷ i) y q) e2 (pair key a.0 a.1 s.ends t u v i l is is_u sa is_v))
      (λ seen e2 sa. pure_case (λ y q. PropertyRead (t ∷ u ∷ i) y q) e2 (last_pair key a.0 a.1 s.ends t u i j is is_u sa seen)) s.spells)

  short_sound : (room : ℕ) (key : List ℕ) (t : Symbol) (i : Symbols) (k : Terminal) (p : (List ℕ × Expr) × ℕ) (r : Symbols) → key_text t.lexeme ≡ Some key → terminal_of t.lexeme ≡ k
      → and_then (shorthand (room - 1) t.line key k i) (λ a. separate mark.RightBrace >> pure ((key, a.0), a.1)) ≡ Some (p, r) → PropertyRead (t ∷ i) p r
  short_sound room key t i terminal.Name p r is named e = bind_case (grown (room - 1) t.line (node.Name key) 0 i) _ (p, r) e (λ a j found e1.
      let is_name : t.lexeme ≡ Lexeme.name key = name_of_key t.lexeme key is named in
      grown_case (λ y q. and_then (separate mark.RightBrace q) (λ u. pure ((key, y.0), y.1)) ≡ Some (p, r) → PropertyRead (t ∷ i) p r) (room - 1) t.line (node.Name key) 0 i a j found
      (λ fits e2. separate_case (λ q. PropertyRead (t ∷ q) p r) mark.RightBrace _ i (p, r) e2
      (λ u l is_u e3. pure_case (λ y q. PropertyRead (t ∷ u ∷ l) y q) e3 (shorthanded key t u l is_name is_u))
      (λ seen e3. pure_case (λ y q. PropertyRead (t ∷ i) y q) e3 (last_short key t i is_name seen))) e1)
  short_sound room key t i _ p r is named e = absurd (none_some (p, r) e)

  property_sound : (room : ℕ) (i : Symbols) (p : (List ℕ × Expr) × ℕ) (k : Symbols) → property E room i ≡ Some (p, k) → PropertyRead i p k
  unfolding property property_value take_key
  property_sound room [] p k e = absurd (none_some (p, k) e)
  property_sound room (t ∷ j) p k e = text_by_case (key_text t.lexeme) _ (t ∷ j) (p, k) e (λ key is e1.
      eat_case (λ q. PropertyRead (t ∷ q) p k) mark.Colon _ _ j (p, k)
      (chosen_then (sees mark.Colon (next_of j)) (E true 2 (room - 1)) (shorthand (room - 1) t.line key (terminal_of t.lexeme)) (λ a. separate mark.RightBrace >> pure ((key, a.0), a.1)) (after mark.Colon j) (Some (p, k)) e1)
      (λ u l is_u e2. pair_sound room key t u l p k is is_u e2)
      (λ unseen e2. short_sound room key t j (terminal_of t.lexeme) p k is refl e2))

  properties_sound : (room n : ℕ) (found : List (List ℕ × Expr)) (below : ℕ) (i : Symbols) (xs : List (List ℕ × Expr) × ℕ) (r : Symbols) → properties E room n found below i ≡ Some (xs, r)
      → Rest (λ ys ds. Properties ys ds i r) found below xs
  unfolding properties
  properties_sound room zero found below i xs r e = absurd (none_some (xs, r) e)
  properties_sound room (suc n) found below i xs r e =
      eat_case (λ q. Rest (λ ys ds. Properties ys ds q r) found below xs) mark.RightBrace _ _ i (xs, r) e
      (λ t j is e1. pure_case (λ y q. Rest (λ ys ds. Properties ys ds (t ∷ j) q) found below y) e1 (rest_none (λ ys ds. Properties ys ds (t ∷ j) j) found below (Properties.no_property t j is)))
      (λ unseen e1. bind_case (property E room i) _ (xs, r) e1 (λ x k found_x e2.
      rest_more (λ ys ds. Properties ys ds k r) (λ ys ds. Properties ys ds i r) found x.0 below x.1 xs (properties_sound room n (found ++ x.0 ∷ []) (max below x.1) k xs r e2)
      (λ ys ds h. property_more (property_sound room i x k found_x) r ys ds h)))

  pub object_sound : (with_in : Bool) (room : ℕ) (t : Symbol) (j : Symbols) (g : Grown) (r : Symbols) → t.lexeme ≡ Lexeme.mark mark.LeftBrace → object E room t.line j ≡ Some (g, r)
      → Chained with_in false room (t ∷ j) g r
  unfolding object whole_properties
  object_sound with_in room t j g r is e = bind_case (properties E room (length j) [] 0 j) _ (g, r) e (λ xs k found e1.
      let h = rest_whole (λ ys ds. Properties ys ds j k) xs (properties_sound room (length j) [] 0 j xs k found) in
      grown_case (λ y q. Chained with_in false room (t ∷ j) y q) room t.line (node.Object xs.0) xs.1 k g r e1
      (λ fits. record { chain = inl (Spells.object with_in 18 xs.0 xs.1 t j k is h); fits = omega (arith, fits) }))

  -- ---- lists of statements

  list_more : (declares : Bool) (s : Stmt) (ss : List Stmt) (d ds : ℕ) (i j r : Symbols) → StandsAs declares s d i j → ListStands declares ss ds j r → ListStands declares (s ∷ ss) (max d ds) i r
  list_more true s ss d ds i j r one more = Body.item s ss d ds i j r one more
  list_more false s ss d ds i j r one more = Statements.one_more s ss d ds i j r one more

  list_none : (declares : Bool) (r : Symbols) → ListStands declares [] 0 r r
  list_none true r = Body.no_item r
  list_none false r = Statements.no_statement r

  statements_sound : (declares : Bool) (room n : ℕ) (found : List Stmt) (below : ℕ) (i : Symbols) (xs : List Stmt × ℕ) (r : Symbols) → statements S declares room n found below i ≡ Some (xs, r)
      → Rest (λ ys ds. ListStands declares ys ds i r) found below xs
  unfolding statements
  statements_sound declares room zero found below i xs r e =
      pure_case (λ y q. Rest (λ ys ds. ListStands declares ys ds i q) found below y) e (rest_none (λ ys ds. ListStands declares ys ds i i) found below (list_none declares i))
  statements_sound declares room (suc n) found below i xs r e =
      if_case (closes (next_of i)) _ _ i (xs, r) e
      (λ over e1. pure_case (λ y q. Rest (λ ys ds. ListStands declares ys ds i q) found below y) e1 (rest_none (λ ys ds. ListStands declares ys ds i i) found below (list_none declares i)))
      (λ open_list e1. bind_case (S declares (room - 1) i) _ (xs, r) e1 (λ s k found_s e2.
      let one = sound.stands declares (room - 1) i s k found_s in
      rest_more (λ ys ds. ListStands declares ys ds k r) (λ ys ds. ListStands declares ys ds i r) found s.0 below s.1 xs (statements_sound declares room n (found ++ s.0 ∷ []) (max below s.1) k xs r e2)
      (λ ys ds h. list_more declares s.0 ys s.1 ds i k r one.stands h)))

  pub whole_statements_sound : (declares : Bool) (room : ℕ) (i : Symbols) (xs : List Stmt × ℕ) (r : Symbols) → whole_statements S declares room i ≡ Some (xs, r) → ListStands declares xs.0 xs.1 i r
  unfolding whole_statements
  whole_statements_sound declares room i xs r e = rest_whole (λ ys ds. ListStands declares ys ds i r) xs (statements_sound declares room (length i) [] 0 i xs r e)

  -- in braces
  pub braced_sound : (declares : Bool) (room : ℕ) (i : Symbols) (xs : List Stmt × ℕ) (r : Symbols) → braced S declares room i ≡ Some (xs, r) → Braced declares xs i r
  unfolding braced
  braced_sound declares room i xs r e =
      expect_case (λ q. Braced declares xs q r) mark.LeftBrace _ i (xs, r) e (λ t j is e1.
      bind_case (whole_statements S declares room j) _ (xs, r) e1 (λ ss k found e2.
      expect_case (λ q. ListStands declares ss.0 ss.1 j q → Braced declares xs (t ∷ j) r) mark.RightBrace _ k (xs, r) e2
      (λ u m is_u e3 h. pure_case (λ ys q. Braced declares ys (t ∷ j) q) e3 (in_braces ss t u j m is h is_u)) (whole_statements_sound declares room j ss k found)))

  -- ---- functions

  pub function_sound : (room : ℕ) (name : Option (List ℕ)) (i : Symbols) (f : FunctionTree × ℕ) (r : Symbols) → function S room name i ≡ Some (f, r) → Function name f.0 f.1 i r
  unfolding function
  function_sound room name i f r e = bind_case (parameters i) _ (f, r) e (λ params j found e1.
      bind_case (braced S true room j) _ (f, r) e1 (λ body k found_body e2.
      pure_case (λ (y : FunctionTree × ℕ) q. Function name y.0 y.1 i q) e2 (function_of name params i j k body (parameters_sound i params j found) (braced_sound true room j body k found_body))))

  named_sound : (with_in : Bool) (room : ℕ) (t : Symbol) (k : Terminal) (j : Symbols) (g : Grown) (r : Symbols) → t.lexeme ≡ Lexeme.reserved keyword.Function
      → and_then (some_name k j) (λ name. function S room name >>= (λ f. grown room t.line (node.Function f.0) f.1)) ≡ Some (g, r) → Chained with_in false room (t ∷ j) g r
  named_sound with_in room t terminal.Name j g r is e =
      name_case (λ q. Chained with_in false room (t ∷ q) g r) _ j (g, r) (bind_bind (take_name j) _ _ (Some (g, r)) e) (λ name u l is_u e1.
      bind_case (function S room (Some name) l) _ (g, r) e1 (λ f k found e2.
      grown_case (λ y q. Chained with_in false room (t ∷ u ∷ l) y q) room t.line (node.Function f.0) f.1 k g r e2
      (λ fits. record { chain = inl (Spells.named with_in 18 name f.0 f.1 t u l k is is_u (function_sound room (Some name) l f k found)); fits = omega (arith, fits) })))
  named_sound with_in room t _ j g r is e = bind_case (function S room None j) _ (g, r) e (λ f k found e1.
      grown_case (λ y q. Chained with_in false room (t ∷ j) y q) room t.line (node.Function f.0) f.1 k g r e1
      (λ fits. record { chain = inl (Spells.unnamed with_in 18 f.0 f.1 t j k is (function_sound room None j f k found)); fits = omega (arith, fits) }))

  pub function_value_sound : (with_in : Bool) (room : ℕ) (t : Symbol) (j : Symbols) (g : Grown) (r : Symbols) → t.lexeme ≡ Lexeme.reserved keyword.Function → function_value S room t.line j ≡ Some (g, r)
      → Chained with_in false room (t ∷ j) g r
  unfolding function_value optional_name
  function_value_sound with_in room t j g r is e = named_sound with_in room t (next_of j) j g r is e
