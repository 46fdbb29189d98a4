-- How parts are walked over, one behind the other.
use Rattle.std.proofs.Common.{◌≡◌, ℕ, suc, ◌+◌, ◌<◌, ◌≤◌, List, [], ◌∷◌, ◌++◌, map, drop, length, get_or, Bool, true, false, ◌||◌, Option, None, Some, refl, sym, ap, subst, arith, ◌∙◌}
use Rattle.std.proofs.Math.Bool.{or_assoc}
use Rattle.std.proofs.lemmas.List.{append-nil, append_assoc, map-append, length-append, length-map, drop_all}
use Rattle.njs_code.specs.declared.code.FunctionCode.{FunctionCode}
use Rattle.njs_meaning.specs.declared.place.Place.{Place}
use Rattle.njs_meaning.specs.Parts.{Declared, Part, leaf, one, two, three, four, held, with_vars}
use Rattle.njs_meaning.specs.Places.{Bindings}
use Rattle.njs_simul.specs.Compiled.{Placed}
use Rattle.njs_scope.specs.Uses as uses
use Rattle.njs_scope.specs.Uses.{Uses, Of_part}
use Rattle.njs_gen_expr.proofs.ListShapes.{from_place}
use Rattle.njs_gen_stmt.specs.declared.walk.Walk.{Walk}
use Rattle.njs_gen_stmt.specs.Walked.{Found, found, Reached, Alike, Walked, coded}

-- what was reached, told in other words
pub retold : (w : Walk) (fs gs : List FunctionCode) (ds es : List Declared) (t u : Bool) (scopes : List Bindings) (places : List Place) → fs ≡ gs → ds ≡ es → t ≡ u
    → Reached w (found fs ds t scopes places) → Reached w (found gs es u scopes places)
retold w fs gs ds es t u scopes places a b c h =
    subst (λ x. Reached w (found gs es x scopes places)) c (subst (λ x. Reached w (found gs x t scopes places)) b (subst (λ x. Reached w (found x ds t scopes places)) a h))

pub ahead : (w : Walk) (f : Found) (ss ts : List Bindings) (ps qs : List Place) → ss ≡ ts → ps ≡ qs → Reached w (record f { scopes = ss; places = ps }) → Reached w (record f { scopes = ts; places = qs })
ahead w f ss ts ps qs a b h = subst (λ x. Reached w (record f { scopes = ts; places = x })) b (subst (λ x. Reached w (record f { scopes = x; places = ps })) a h)

or_none : (b : Bool) → b ≡ (b || false)
or_none true = refl
or_none false = refl

-- a part without parts
module _ {A : Type 0} where
  pub alike_leaf : (a : A) → Alike (leaf a) (leaf uses.none)
  alike_leaf a = record { count = λ first. refl; declares = λ first start. refl; vars = refl; mentions = refl }

  pub walked_leaf : (a : A) (around : List ℕ) (w : Walk) → Walked (leaf a) (leaf uses.none) around w w
  walked_leaf a around w = record {
    alike = alike_leaf a;
    stays = λ g. g;
    reaches = λ names first start f inside known count h.
        retold w f.functions (f.functions ++ []) f.declared (f.declared ++ []) f.takes_arguments (f.takes_arguments || false) f.scopes f.places
        (sym (append-nil f.functions)) (sym (append-nil f.declared)) (or_none f.takes_arguments) h;
  }

-- a part whose meaning is made of that of its one part
pub walked_one : {A B : Type 0} (C : Part Placed A) (U : Of_part) (g : A → B) (around : List ℕ) (w0 w1 : Walk) → Walked C U around w0 w1 → Walked (one C g) U around w0 w1
walked_one C U g around w0 w1 t = record {
  alike = record { count = t.alike.count; declares = t.alike.declares; vars = t.alike.vars; mentions = t.alike.mentions };
  stays = t.stays;
  reaches = t.reaches;
}

-- of two parts
pub alike_two : {A B D : Type 0} (C : Part Placed A) (C' : Part Placed B) (U V : Of_part) (g : A → B → D) (k : Uses → Uses → Uses) → Alike C U → Alike C' V → Alike (two C C' g) (two U V k)
alike_two C C' U V g k a b = record {
  count = λ first. length-append (C.functions first) (C'.functions (first + C.size)) ∙ ap (λ n. n + length (C'.functions (first + C.size))) (a.count first) ∙ ap (λ n. C.size + n) (b.count (first + C.size));
  declares = λ first start.
      map-append (λ (d : Declared). d.name) (U.declared start) (V.declared (start + U.size))
      ∙ ap (λ names. names ++ map (λ (d : Declared). d.name) (V.declared (start + U.size))) (a.declares first start)
      ∙ ap (λ names. map (λ (d : Declared). d.name) (C.declared first) ++ names) (b.declares (first + C.size) (start + U.size))
      ∙ sym (map-append (λ (d : Declared). d.name) (C.declared first) (C'.declared (first + C.size)));
  vars = ap (λ names. names ++ V.vars) a.vars ∙ ap (λ names. C.vars ++ names) b.vars;
  mentions = ap (λ t. t || V.names_arguments) a.mentions ∙ ap (λ t. C.names_arguments || t) b.mentions;
}

pub walked_two : {A B D : Type 0} (C : Part Placed A) (C' : Part Placed B) (U V : Of_part) (g : A → B → D) (around : List ℕ) (w0 w1 w2 : Walk) → Walked C U around w0 w1 → Walked C' V around w1 w2
    → Walked (two C C' g) (two U V uses.both) around w0 w2
walked_two C C' U V g around w0 w1 w2 a b = record {
  alike = alike_two C C' U V g uses.both a.alike b.alike;
  stays = λ g. a.stays (b.stays g);
  reaches = λ names first start f inside known count h.
      let us = (U.means start).scopes names in
      let up = (U.means start).places names in
      let vs = (V.means (start + U.size)).scopes names in
      let vp = (V.means (start + U.size)).places names in
      let f0 : Found = record f { scopes = vs ++ f.scopes; places = vp ++ f.places } in
      let h0 = ahead w0 f ((us ++ vs) ++ f.scopes) (us ++ (vs ++ f.scopes)) ((up ++ vp) ++ f.places) (up ++ (vp ++ f.places)) (append_assoc us vs f.scopes) (append_assoc up vp f.places) h in
      let h1 = a.reaches names first start f0 inside known count h0 in
      let fs = coded C first names in
      let gs = coded C' (first + C.size) names in
      let f1 : Found = record f { functions = f.functions ++ fs; declared = f.declared ++ C.declared first; takes_arguments = f.takes_arguments || C.names_arguments } in
      let made : length (f.functions ++ fs) ≡ length f.functions + length fs = length-append f.functions fs in
      let size : length fs ≡ C.size = length-map (C.functions first) (λ (p : Placed). (p names).code) ∙ a.alike.count first in
      let reached : first + C.size ≡ length (f.functions ++ fs) = omega (arith, made, size, count) in
      let h2 = b.reaches names (first + C.size) (start + U.size) f1 inside (λ g. known (a.stays g)) reached h1 in
      retold w2 ((f.functions ++ fs) ++ gs) (f.functions ++ coded (two C C' g) first names) ((f.declared ++ C.declared first) ++ C'.declared (first + C.size)) (f.declared ++ (C.declared first ++ C'.declared (first + C.size)))
      ((f.takes_arguments || C.names_arguments) || C'.names_arguments) (f.takes_arguments || (C.names_arguments || C'.names_arguments)) f.scopes f.places
      (append_assoc f.functions fs gs ∙ ap (λ all. f.functions ++ all) (sym (map-append (λ (p : Placed). (p names).code) (C.functions first) (C'.functions (first + C.size)))))
      (append_assoc f.declared (C.declared first) (C'.declared (first + C.size))) (or_assoc f.takes_arguments C.names_arguments C'.names_arguments) h2;
}

-- of three and of four parts
pub walked_three : {A B D E : Type 0} (C : Part Placed A) (C' : Part Placed B) (C2 : Part Placed D) (U V W : Of_part) (g : A → B → D → E) (around : List ℕ) (w0 w1 w2 w3 : Walk)
    → Walked C U around w0 w1 → Walked C' V around w1 w2 → Walked C2 W around w2 w3 → Walked (three C C' C2 g) (three U V W (λ a b c. uses.both a (uses.both b c))) around w0 w3
walked_three {D = D} {E = E} C C' C2 U V W g around w0 w1 w2 w3 a b c =
    let t = walked_two (two C C' g) C2 (two U V uses.both) W (λ (h : D → E) x. h x) around w0 w2 w3 (walked_two C C' U V g around w0 w1 w2 a b) c in record {
      alike = record { count = t.alike.count; declares = t.alike.declares; vars = t.alike.vars; mentions = t.alike.mentions };
      stays = t.stays;
      reaches = λ names first start f inside known count h.
          let us = (U.means start).scopes names in
          let up = (U.means start).places names in
          let vs = (V.means (start + U.size)).scopes names in
          let vp = (V.means (start + U.size)).places names in
          let ws = (W.means (start + (U.size + V.size))).scopes names in
          let wp = (W.means (start + (U.size + V.size))).places names in
          t.reaches names first start f inside known count
          (ahead w0 f ((us ++ (vs ++ ws)) ++ f.scopes) (((us ++ vs) ++ ws) ++ f.scopes) ((up ++ (vp ++ wp)) ++ f.places) (((up ++ vp) ++ wp) ++ f.places)
          (ap (λ l. l ++ f.scopes) (sym (append_assoc us vs ws))) (ap (λ l. l ++ f.places) (sym (append_assoc up vp wp))) h);
    }

pub walked_four : {A B D E F : Type 0} (C : Part Placed A) (C' : Part Placed B) (C2 : Part Placed D) (C3 : Part Placed E) (U V W X : Of_part) (g : A → B → D → E → F) (around : List ℕ) (w0 w1 w2 w3 w4 : Walk)
    → Walked C U around w0 w1 → Walked C' V around w1 w2 → Walked C2 W around w2 w3 → Walked C3 X around w3 w4
    → Walked (four C C' C2 C3 g) (four U V W X (λ a b c d. uses.both a (uses.both b (uses.both c d)))) around w0 w4
walked_four {E = E} {F = F} C C' C2 C3 U V W X g around w0 w1 w2 w3 w4 a b c d =
    let t = walked_two (three C C' C2 g) C3 (three U V W (λ a b c. uses.both a (uses.both b c))) X (λ (h : E → F) x. h x) around w0 w3 w4 (walked_three C C' C2 U V W g around w0 w1 w2 w3 a b c) d in record {
      alike = record { count = t.alike.count; declares = t.alike.declares; vars = t.alike.vars; mentions = t.alike.mentions };
      stays = t.stays;
      reaches = λ names first start f inside known count h.
          let us = (U.means start).scopes names in
          let up = (U.means start).places names in
          let vs = (V.means (start + U.size)).scopes names in
          let vp = (V.means (start + U.size)).places names in
          let ws = (W.means (start + (U.size + V.size))).scopes names in
          let wp = (W.means (start + (U.size + V.size))).places names in
          let xs = (X.means (start + ((U.size + V.size) + W.size))).scopes names in
          let xp = (X.means (start + ((U.size + V.size) + W.size))).places names in
          t.reaches names first start f inside known count
          (ahead w0 f ((us ++ (vs ++ (ws ++ xs))) ++ f.scopes) (((us ++ (vs ++ ws)) ++ xs) ++ f.scopes) ((up ++ (vp ++ (wp ++ xp))) ++ f.places) (((up ++ (vp ++ wp)) ++ xp) ++ f.places)
          (ap (λ l. l ++ f.scopes) (sym (append_assoc us (vs ++ ws) xs ∙ ap (λ l. us ++ l) (append_assoc vs ws xs))))
          (ap (λ l. l ++ f.places) (sym (append_assoc up (vp ++ wp) xp ∙ ap (λ l. up ++ l) (append_assoc vp wp xp)))) h);
    }

-- a part that may be missing
module _ {A : Type 0} where
  pub walked_none : (around : List ℕ) (w : Walk) → Walked {A = Option A} (held None) (uses.held_of None) around w w
  walked_none around w = walked_leaf None around w

  pub walked_some : (C : Part Placed A) (U : Of_part) (around : List ℕ) (w0 w1 : Walk) → Walked C U around w0 w1 → Walked (held (Some C)) (uses.held_of (Some U)) around w0 w1
  walked_some C U around w0 w1 t = record {
    alike = record { count = t.alike.count; declares = t.alike.declares; vars = t.alike.vars; mentions = t.alike.mentions };
    stays = t.stays;
    reaches = t.reaches;
  }

-- with names before those that a part declares
pub walked_vars : {A : Type 0} (names : List (List ℕ)) (C : Part Placed A) (U : Of_part) (around : List ℕ) (w0 w1 : Walk) → Walked C U around w0 w1 → Walked (with_vars names C) (with_vars names U) around w0 w1
walked_vars names C U around w0 w1 t = record {
  alike = record { count = t.alike.count; declares = t.alike.declares; vars = ap (λ vs. names ++ vs) t.alike.vars; mentions = t.alike.mentions };
  stays = t.stays;
  reaches = t.reaches;
}

pub as_walked : {A : Type 0} (C C' : Part Placed A) (U U' : Of_part) (around : List ℕ) (w0 w1 : Walk) → C ≡ C' → U ≡ U' → Walked C' U' around w0 w1 → Walked C U around w0 w1
as_walked C C' U U' around w0 w1 c u t = subst (λ x. Walked x U around w0 w1) (sym c) (subst (λ x. Walked C' x around w0 w1) (sym u) t)

-- ---- lists

-- what is left of a list completes the walk over it
module _ {X B : Type 0} (C : List X → Part Placed B) (U : List X → Of_part) (around : List ℕ) where
  abbrev pub Completes : ℕ → List X → Walk → Walk → Type 0
  Completes i list w0 w = (end : Walk) → Walked (C (drop i list)) (U (drop i list)) around w end → Walked (C list) (U list) around w0 end

  pub completes_more : (i k : ℕ) (list : List X) (x : X) (w0 w w1 : Walk) → i ≡ suc k → k < length list → x ≡ get_or list k x → Completes k list w0 w
      → ((xs : List X) (end : Walk) → Walked (C xs) (U xs) around w1 end → Walked (C (x ∷ xs)) (U (x ∷ xs)) around w end) → Completes i list w0 w1
  completes_more i k list x w0 w w1 same lt is go step end t =
      let further = subst (λ j. Walked (C (drop j list)) (U (drop j list)) around w1 end) same t in
      go end (subst (λ l. Walked (C l) (U l) around w end) (sym (from_place list k x lt is)) (step (drop (suc k) list) end further))

  pub completed : (i : ℕ) (list all : List X) (w0 w : Walk) → length list ≤ i → list ≡ all → Completes i list w0 w → Walked (C []) (U []) around w w → Walked (C all) (U all) around w0 w
  completed i list all w0 w long same go none =
      let rest : drop i list ≡ [] = drop_all i list long in
      subst (λ l. Walked (C l) (U l) around w0 w) same (go w (subst (λ l. Walked (C l) (U l) around w w) (sym rest) none))
