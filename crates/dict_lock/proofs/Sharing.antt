-- Opening a zone, and splits and joins of its seats, keep the rule.
use Rattle.std.proofs.Common.{◌≡◌, ◌≢◌, ℕ, zero, suc, ◌+◌, ◌-◌, ◌<◌, ◌≤◌, List, [], ◌∷◌, ◌++◌, length, drop, get_or, set, max, Option, Some, None, refl, sym, ap, ◌∙◌, subst, inl, inr, ⊎_elim, arith}
use Rattle.std.specs.List.{AllByRecursion}
use mathlib.Core.Option.{some, none, some-injective, some-ne-none}
use lib.ListN.{get_elem?}
use lib.Seq.{set-get_or}
use Rattle.atomic_table.specs.Table.{State, step, keeps, Allows, Splits, Joins, opening}
use Rattle.atomic_table.proofs.Lists.{at_set, at_snoc, set_else}
use Rattle.dict_model.specs.declared.operation.Entry.{Entry}
use Rattle.dict_model.specs.declared.operation.ZoneSpec.{ZoneSpec}
use Rattle.dict_model.specs.Zone.{State as DictState, IsValid, empty}
use Rattle.dict_model.specs.History.{Legal, Begins}
use Rattle.dict_lock.specs.declared.view.Turn.{Turn}
use Rattle.dict_lock.specs.declared.view.Turn.TheVariants.{Idle, Waits, Holds}
use Rattle.dict_lock.specs.declared.view.ZoneView.{ZoneView}
use Rattle.dict_lock.specs.declared.view.Held.{Held}
use Rattle.dict_lock.specs.Weights.{total, below}
use Rattle.dict_lock.specs.Views.{first_view, spare_from, hands_out, newcomer, note, deals_from, dealt, takes_over, closing, spent, hears, longer, owns, own_weight, in_line, in_turn, ticket_weight, turn_weight, AllMade, ClosedFit, PlacesFit}
use Rattle.dict_lock.specs.Rule.{TurnFits, OwnFits, ViewFits, IsHome, IsOut, Orderly}
use Rattle.dict_lock.specs.Plays.{Sat, heard}
use Rattle.dict_lock.proofs.Sums.{total-append, total-set, terms_le, all-append, all_weaker}
use Rattle.dict_lock.proofs.Histories.{begins_self, begins_empty, quiet_begins, all_drop, all_drop_more, closed_begins, made_more, places_same, places_none, places_unmade, legal_begins, longer_left, longer_right, longer_either, longer_long, all_begins}
use Rattle.dict_lock.proofs.Knowing.{known_set, known_longer, known_join, longer_whole}
use Rattle.dict_lock.proofs.Turning.{in_turn_out}

pub empty_valid : (spec : ZoneSpec) → IsValid spec empty
empty_valid spec = record { moment = omega arith; within = omega arith; keys = tt; values = tt }

-- a view that is not in a turn fits when one more number is handed out
turn_more : (log : List Entry) (next : ℕ) (v : ZoneView) (turn : Turn) → v.turn ≡ turn → in_turn (λ _. 1) v ≡ 0 → TurnFits log next v turn → TurnFits log (suc next) v turn
turn_more log next v Idle is out h = tt
turn_more log next v Waits is out h = h
turn_more log next v Holds is out h = absurd (omega (arith, out, ap (λ tn. turn_weight (λ _. 1) tn v.ticket) is))

more_fits : (spec : ZoneSpec) (log : List Entry) (next : ℕ) (u : ZoneView) → in_turn (λ _. 1) u ≡ 0 → ViewFits spec log next u → ViewFits spec log (suc next) u
more_fits spec log next u out x = record {
  of = x.of;
  seen = x.seen;
  told = x.told;
  places = x.places;
  own = x.own;
  closed = x.closed;
  made = (let b = x.made in omega arith);
  seen_made = x.seen_made;
  told_made = x.told_made;
  turn = turn_more log next u u.turn refl out x.turn;
}

closing_fits : (log seen : List Entry) (mine : List ℕ) (long : ℕ) (own : Option ℕ) → length seen ≤ long → OwnFits log seen mine own → ClosedFit log long (closing own (length seen))
closing_fits log seen mine long None le h = tt
closing_fits log seen mine long (Some n) le h = ((le, h), tt)

closing_weighs : (f : ℕ → ℕ) (own : Option ℕ) (long : ℕ) → total (λ (c : ℕ × ℕ). f c.0) (closing own long) ≡ own_weight f own
closing_weighs f None long = refl
closing_weighs f (Some n) long = omega arith

longer_places : (log seen told : List Entry) (mine : List ℕ) (own : Option ℕ) → Begins seen log → Begins told log → OwnFits log seen mine own → PlacesFit seen mine own → PlacesFit (longer seen told) mine own
longer_places log seen told mine None p q h k = tt
longer_places log seen told mine (Some n) p q h k =
    let within : Begins (longer seen told) log = longer_either (λ l. Begins l log) seen told p q in
    k ∙ sym (places_same n seen (longer seen told) (longer_left seen told log p q) (quiet_begins n (length seen) (longer seen told) log within h))

longer_own : (log seen told : List Entry) (mine : List ℕ) (own : Option ℕ) → OwnFits log seen mine own → OwnFits log (longer seen told) mine own
longer_own log seen told mine None h = tt
longer_own log seen told mine (Some n) h = let le = longer_long seen told in all_drop_more (λ (e : Entry). e.caller ≢ n) (length seen) (length (longer seen told)) log (omega arith) h

spare_weighs : (f : ℕ → ℕ) (k n : ℕ) → total (λ (c : ℕ × ℕ). f c.0) (spare_from k n) + below f k ≡ below f (k + n)
spare_weighs f k zero = let e : k ≡ k + 0 = omega arith in omega (arith, ap (below f) e)
spare_weighs f k (suc n) = let e : k + 1 + n ≡ k + suc n = omega arith in let d : k + 1 ≡ suc k = omega arith in omega (arith, spare_weighs f (k + 1) n, ap (below f) e, ap (below f) d)

pub spare_fits : (k n : ℕ) → ClosedFit [] 0 (spare_from k n)
spare_fits k zero = tt
spare_fits k (suc n) = ((omega arith, tt), spare_fits (k + 1) n)

-- a view that keeps number, longest history and count keeps its turn
turn_kept : (log : List Entry) (next : ℕ) (v w : ZoneView) (turn : Turn) → w.own ≡ v.own → w.whole ≡ v.whole → w.made ≡ v.made → TurnFits log next v turn → TurnFits log next w turn
turn_kept log next v w Idle a b d h = tt
turn_kept log next v w Waits a b d h = λ e. h (sym a ∙ e)
turn_kept log next v w Holds a b d h = ((λ e. h.0 (sym a ∙ e)), b ∙ h.1, d ∙ h.2)

module _ {Z : Type 0} (spec_of : Z → ZoneSpec) (state_of : Z → DictState) (spec : ZoneSpec) where
  abbrev Rule : State (Option (Held Z)) ZoneView → Type 0
  Rule = Orderly spec_of state_of spec

  pub opens : (held : Held Z) (count : ℕ) → spec_of held.state ≡ spec → state_of held.state ≡ empty → held.next ≡ count → 0 < count → count < 4294967296
      → Rule (opening (0 ∷ 0 ∷ 0 ∷ []) (Some held ∷ []) (first_view spec count))
  opens held count of first next some_count few = record {
    log = [];
    served = 0;
    waiting = 0;
    next = count;
    words = refl;
    legal = tt;
    log_made = tt;
    few = few;
    line = λ f. refl;
    numbers = λ f. let all : 1 + (count - 1) ≡ count = omega arith in omega (arith, spare_weighs f 1 (count - 1), ap (below f) all);
    known = (0, first_view spec count, refl, inl refl);
    each = only_one;
    slot = inl (held, refl, record { of = of; state = first; valid = subst (IsValid spec) (sym first) (empty_valid spec); next = next }, λ f. refl);
  }
    where
      only_one : (j : ℕ) (v : ZoneView) → get_elem? (first_view spec count ∷ []) j ≡ some v → ViewFits spec [] count v
      only_one zero v e = subst (ViewFits spec [] count) (some-injective (first_view spec count) v e) record {
        of = λ _. refl;
        seen = begins_empty [];
        told = begins_empty [];
        places = refl;
        own = tt;
        closed = spare_fits 1 (count - 1);
        made = omega arith;
        seen_made = tt;
        told_made = tt;
        turn = tt;
      }
      only_one (suc j) v e = absurd (some-ne-none v (sym e))

  pub splits_off : (id : ℕ) (v : ZoneView) → v.turn ≡ Holds → v.made + 1 < 4294967296 → Splits Rule id v (hands_out v) (newcomer v)
  splits_off id v holding few s o me =
      let left : ZoneView = hands_out v in
      let right : ZoneView = newcomer v in
      let x = o.each id v me in
      let out = in_turn_out spec_of state_of spec s o id v me holding in
      let made : v.made ≡ o.next = out.4 in
      let holds_one : in_turn (λ _. 1) v ≡ 1 = ap (λ tn. turn_weight (λ _. 1) tn v.ticket) holding in
      let views' : List ZoneView = set s.views id left in
      record {
        log = o.log;
        served = o.served;
        waiting = o.waiting;
        next = suc o.next;
        words = o.words;
        legal = o.legal;
        log_made = made_more o.next (suc o.next) o.log (omega arith) o.log_made;
        few = omega arith;
        line = λ f. omega (arith, total-append (in_line f) views' (right ∷ []), total-set (in_line f) s.views id v left me, o.line f);
        numbers = λ f. omega (arith, total-append (owns f) views' (right ∷ []), total-set (owns f) s.views id v left me, o.numbers f, ap f made);
        known = known_longer o.log views' right (known_set o.log s.views id v left me (λ k. k) o.known);
        each = λ j u at. ⊎_elim
            (λ (there : get_elem? views' j ≡ some u). ⊎_elim
            (λ (z : (j ≡ id) × (left ≡ u)). subst (ViewFits spec o.log (suc o.next)) z.1 record {
              of = x.of;
              seen = x.seen;
              told = x.told;
              places = x.places;
              own = x.own;
              closed = x.closed;
              made = omega arith;
              seen_made = made_more v.made (v.made + 1) v.seen (omega arith) x.seen_made;
              told_made = made_more v.made (v.made + 1) v.told (omega arith) x.told_made;
              turn = (let one_more : v.made + 1 ≡ suc o.next = omega arith in subst (TurnFits o.log (suc o.next) left) (sym holding) (out.2, out.3, one_more));
            })
            (λ (z : (j ≢ id) × (get_elem? s.views j ≡ some u)). more_fits spec o.log o.next u (omega (arith, holds_one, terms_le (in_turn (λ _. 1)) s.views id j v u z.0 me z.1, out.0.1 (λ _. 1))) (o.each j u z.1))
            (at_set s.views id j left u there))
            (λ (is : right ≡ u). subst (ViewFits spec o.log (suc o.next)) is record {
              of = λ _. x.of out.2;
              seen = x.seen;
              told = begins_empty o.log;
              places = sym (places_unmade 0 v.made v.seen x.seen_made);
              own = all_drop (λ (e : Entry). e.caller ≢ v.made) (length v.seen) o.log (all_weaker (λ (e : Entry). e.caller < o.next) (λ (e : Entry). e.caller ≢ v.made) o.log (λ e lt same. absurd (omega arith)) o.log_made);
              closed = tt;
              made = omega arith;
              seen_made = made_more v.made (v.made + 1) v.seen (omega arith) x.seen_made;
              told_made = tt;
              turn = tt;
            })
            (at_snoc views' right u j at);
        slot = inr (out.0.0, λ f. omega (arith, total-append (in_turn f) views' (right ∷ []), total-set (in_turn f) s.views id v left me, out.0.1 f));
      }

  pub notes : (id : ℕ) (v : ZoneView) → Splits Rule id v v (note v)
  notes id v s o me =
      let right : ZoneView = note v in
      let x = o.each id v me in
      let views' : List ZoneView = set s.views id v in
      record {
        log = o.log;
        served = o.served;
        waiting = o.waiting;
        next = o.next;
        words = o.words;
        legal = o.legal;
        log_made = o.log_made;
        few = o.few;
        line = λ f. omega (arith, total-append (in_line f) views' (right ∷ []), total-set (in_line f) s.views id v v me, o.line f);
        numbers = λ f. omega (arith, total-append (owns f) views' (right ∷ []), total-set (owns f) s.views id v v me, o.numbers f);
        known = known_longer o.log views' right (known_set o.log s.views id v v me (λ k. k) o.known);
        each = λ j u at. ⊎_elim
            (λ (there : get_elem? views' j ≡ some u). ⊎_elim
            (λ (z : (j ≡ id) × (v ≡ u)). subst (ViewFits spec o.log o.next) z.1 x)
            (λ (z : (j ≢ id) × (get_elem? s.views j ≡ some u)). o.each j u z.1)
            (at_set s.views id j v u there))
            (λ (is : right ≡ u). subst (ViewFits spec o.log o.next) is record {
              of = λ named. absurd (named refl);
              seen = x.seen;
              told = begins_empty o.log;
              places = tt;
              own = tt;
              closed = tt;
              made = x.made;
              seen_made = x.seen_made;
              told_made = tt;
              turn = tt;
            })
            (at_snoc views' right u j at);
        slot = ⊎_elim (λ (h : IsHome spec_of state_of spec o.log o.next s). inl (h.0, h.1, h.2, λ f. omega (arith, total-append (in_turn f) views' (right ∷ []), total-set (in_turn f) s.views id v v me, h.3 f)))
            (λ (h : IsOut o.served s). inr (h.0, λ f. omega (arith, total-append (in_turn f) views' (right ∷ []), total-set (in_turn f) s.views id v v me, h.1 f))) o.slot;
      }

  -- a number that no caller has had is dealt, with no turn
  pub deals : (id : ℕ) (v : ZoneView) (number : ℕ) (rest : List (ℕ × ℕ)) → v.own ≢ None → v.closed ≡ (number, 0) ∷ rest → Splits Rule id v (deals_from v rest) (dealt v number)
  deals id v number rest named has s o me =
      let left : ZoneView = deals_from v rest in
      let right : ZoneView = dealt v number in
      let x = o.each id v me in
      let views' : List ZoneView = set s.views id left in
      let long : ℕ = max (length v.seen) (length v.told) in
      let closed : ClosedFit o.log long ((number, 0) ∷ rest) = subst (ClosedFit o.log long) has x.closed in
      let none_yet : AllByRecursion (λ (e : Entry). e.caller ≢ number) o.log = closed.0.1 in
      let weighs : (f : ℕ → ℕ) → owns f left + owns f right ≡ owns f v = λ f. omega (arith, ap (total (λ (c : ℕ × ℕ). f c.0)) has) in
      record {
        log = o.log;
        served = o.served;
        waiting = o.waiting;
        next = o.next;
        words = o.words;
        legal = o.legal;
        log_made = o.log_made;
        few = o.few;
        line = λ f. omega (arith, total-append (in_line f) views' (right ∷ []), total-set (in_line f) s.views id v left me, o.line f);
        numbers = λ f. omega (arith, total-append (owns f) views' (right ∷ []), total-set (owns f) s.views id v left me, o.numbers f, weighs f);
        known = known_longer o.log views' right (known_set o.log s.views id v left me (λ k. k) o.known);
        each = λ j u at. ⊎_elim
            (λ (there : get_elem? views' j ≡ some u). ⊎_elim
            (λ (z : (j ≡ id) × (left ≡ u)). subst (ViewFits spec o.log o.next) z.1 record {
              of = x.of;
              seen = x.seen;
              told = x.told;
              places = x.places;
              own = x.own;
              closed = closed.1;
              made = x.made;
              seen_made = x.seen_made;
              told_made = x.told_made;
              turn = turn_kept o.log o.next v left v.turn refl refl refl x.turn;
            })
            (λ (z : (j ≢ id) × (get_elem? s.views j ≡ some u)). o.each j u z.1)
            (at_set s.views id j left u there))
            (λ (is : right ≡ u). subst (ViewFits spec o.log o.next) is record {
              of = λ _. x.of named;
              seen = x.seen;
              told = begins_empty o.log;
              places = sym (places_none 0 number v.seen (all_begins (λ (e : Entry). e.caller ≢ number) v.seen o.log x.seen none_yet));
              own = all_drop (λ (e : Entry). e.caller ≢ number) (length v.seen) o.log none_yet;
              closed = tt;
              made = x.made;
              seen_made = x.seen_made;
              told_made = tt;
              turn = tt;
            })
            (at_snoc views' right u j at);
        slot = ⊎_elim (λ (h : IsHome spec_of state_of spec o.log o.next s). inl (h.0, h.1, h.2, λ f. omega (arith, total-append (in_turn f) views' (right ∷ []), total-set (in_turn f) s.views id v left me, h.3 f)))
            (λ (h : IsOut o.served s). inr (h.0, λ f. omega (arith, total-append (in_turn f) views' (right ∷ []), total-set (in_turn f) s.views id v left me, h.1 f))) o.slot;
      }

  pub joins : (id : ℕ) (v : ZoneView) (other : ℕ) (w : ZoneView) → v.turn ≡ Idle → v.told ≡ [] → w.turn ≡ Idle → w.told ≡ [] → Joins Rule id v other w (takes_over v w) spent
  joins id v other w v_idle v_heard w_idle w_heard s o me apart there =
      let b : ZoneView = takes_over v w in
      let views' : List ZoneView = set s.views id b in
      let at_other : get_elem? s.views other ≡ some w = sym (set_else s.views id other b apart) ∙ there in
      let x = o.each id v me in
      let y = o.each other w at_other in
      let v_short : length v.told ≡ 0 = ap length v_heard in
      let w_short : length w.told ≡ 0 = ap length w_heard in
      let long : ℕ = max (length v.seen) (length w.seen) in
      let weighs : (f : ℕ → ℕ) → owns f b ≡ owns f v + owns f w = λ f. omega (
        arith,
        total-append (λ (c : ℕ × ℕ). f c.0) (v.closed ++ closing w.own (length w.seen)) w.closed,
        total-append (λ (c : ℕ × ℕ). f c.0) v.closed (closing w.own (length w.seen)),
        closing_weighs f w.own (length w.seen),
      ) in
      record {
        log = o.log;
        served = o.served;
        waiting = o.waiting;
        next = o.next;
        words = o.words;
        legal = o.legal;
        log_made = o.log_made;
        few = o.few;
        line = λ f. omega (arith, total-set (in_line f) views' other w spent there, total-set (in_line f) s.views id v b me, o.line f, ap (λ tn. ticket_weight f tn w.ticket) w_idle);
        numbers = λ f. omega (arith, total-set (owns f) views' other w spent there, total-set (owns f) s.views id v b me, o.numbers f, weighs f);
        known = known_join o.log s.views id other v w b spent apart me at_other v_heard w_heard x.seen y.seen refl refl o.known;
        each = λ j u at. ⊎_elim
            (λ (z : (j ≡ other) × (spent ≡ u)). subst (ViewFits spec o.log o.next) z.1 record {
              of = λ named. absurd (named refl);
              seen = begins_empty o.log;
              told = begins_empty o.log;
              places = tt;
              own = tt;
              closed = tt;
              made = omega arith;
              seen_made = tt;
              told_made = tt;
              turn = tt;
            })
            (λ (z : (j ≢ other) × (get_elem? views' j ≡ some u)). ⊎_elim
            (λ (q : (j ≡ id) × (b ≡ u)). subst (ViewFits spec o.log o.next) q.1 record {
              of = x.of;
              seen = x.seen;
              told = y.seen;
              places = x.places;
              own = x.own;
              closed = all-append _ (v.closed ++ closing w.own (length w.seen)) w.closed
                  (all-append _ v.closed (closing w.own (length w.seen)) (closed_begins o.log o.log (max (length v.seen) (length v.told)) long v.closed (begins_self o.log) (omega arith) x.closed)
                  (closing_fits o.log w.seen w.mine long w.own (omega arith) y.own))
                  (closed_begins o.log o.log (max (length w.seen) (length w.told)) long w.closed (begins_self o.log) (omega arith) y.closed);
              made = (let p = x.made in let p' = y.made in omega arith);
              seen_made = made_more v.made (max v.made w.made) v.seen (omega arith) x.seen_made;
              told_made = made_more w.made (max v.made w.made) w.seen (omega arith) y.seen_made;
              turn = subst (TurnFits o.log o.next b) (sym v_idle) tt;
            })
            (λ (q : (j ≢ id) × (get_elem? s.views j ≡ some u)). o.each j u q.1)
            (at_set s.views id j b u z.1))
            (at_set views' other j spent u at);
        slot = ⊎_elim
            (λ (h : IsHome spec_of state_of spec o.log o.next s). inl (h.0, h.1, h.2, λ f. omega (arith, total-set (in_turn f) views' other w spent there, total-set (in_turn f) s.views id v b me, h.3 f, ap (λ tn. turn_weight f tn w.ticket) w_idle)))
            (λ (h : IsOut o.served s). inr (h.0, λ f. omega (arith, total-set (in_turn f) views' other w spent there, total-set (in_turn f) s.views id v b me, h.1 f, ap (λ tn. turn_weight f tn w.ticket) w_idle)))
            o.slot;
      }

  pub hears_it : (slots id : ℕ) (m : Sat Z) → m.0.turn ≡ Idle → m.0.own ≢ None → Allows Rule slots id m 0 (λ n. n) (heard (step slots 0 0 0 none) m)
  hears_it slots id m idle named s o wide me fits =
      let v : ZoneView = m.0 in
      let w : ZoneView = hears v in
      let both : List Entry = longer v.seen v.told in
      let x = o.each id v me in
      let within : Begins both o.log = longer_either (λ l. Begins l o.log) v.seen v.told x.seen x.told in
      let long = longer_long v.seen v.told in
      let made : AllMade v.made both = longer_either (AllMade v.made) v.seen v.told x.seen_made x.told_made in
      let places : PlacesFit both v.mine v.own = longer_places o.log v.seen v.told v.mine v.own x.seen x.told x.own x.places in (
        w,
        keeps,
        tt,
        record {
          log = o.log;
          served = o.served;
          waiting = o.waiting;
          next = o.next;
          words = set-get_or s.words 0 0 ∙ o.words;
          legal = o.legal;
          log_made = o.log_made;
          few = o.few;
          line = λ f. omega (arith, total-set (in_line f) s.views id v w me, o.line f);
          numbers = λ f. omega (arith, total-set (owns f) s.views id v w me, o.numbers f);
          known = known_set o.log s.views id v w me (λ k. inl (longer_whole o.log v.seen v.told x.seen x.told k)) o.known;
          each = λ j u at. ⊎_elim
              (λ (z : (j ≡ id) × (w ≡ u)). subst (ViewFits spec o.log o.next) z.1 record {
                of = x.of;
                seen = within;
                told = begins_empty o.log;
                places = places;
                own = longer_own o.log v.seen v.told v.mine v.own x.own;
                closed = closed_begins o.log o.log (max (length v.seen) (length v.told)) (max (length both) 0) v.closed (begins_self o.log) (omega arith) x.closed;
                made = x.made;
                seen_made = made;
                told_made = tt;
                turn = subst (TurnFits o.log o.next w) (sym idle) tt;
              })
              (λ (z : (j ≢ id) × (get_elem? s.views j ≡ some u)). o.each j u z.1)
              (at_set s.views id j w u at);
          slot = ⊎_elim (λ (h : IsHome spec_of state_of spec o.log o.next s). inl (h.0, h.1, h.2, λ f. omega (arith, total-set (in_turn f) s.views id v w me, h.3 f)))
              (λ (h : IsOut o.served s). inr (h.0, λ f. omega (arith, total-set (in_turn f) s.views id v w me, h.1 f))) o.slot;
        },
        (
          refl,
          longer_left v.seen v.told o.log x.seen x.told,
          longer_right v.seen v.told o.log x.seen x.told,
          record {
            legal = subst (λ z. Legal z both) (sym (x.of named)) (legal_begins spec both o.log within o.legal);
            made = made;
            few = (let few = o.few in let le = x.made in omega arith);
            places = places;
            closed = closed_begins both o.log (max (length v.seen) (length v.told)) (length both) v.closed within (omega arith) x.closed;
          },
        ),
      )

  pub opens_as : (key state : Z) (count : ℕ) (slots : List (Option (Held Z))) → key ≡ state → spec_of key ≡ spec → state_of state ≡ empty → 0 < count → count < 4294967296 → slots ≡ Some record { state = state; next = count } ∷ []
      → Rule (opening (0 ∷ 0 ∷ 0 ∷ []) slots (first_view spec count))
  opens_as key state count slots is of first some_count few full = subst (λ (l : List (Option (Held Z))). Rule (opening (0 ∷ 0 ∷ 0 ∷ []) l (first_view spec count))) (sym full) (opens record { state = state; next = count } count (ap spec_of (sym is) ∙ of) first refl some_count few)

  pub deals_as : (id : ℕ) (v : ZoneView) (number : ℕ) (rest : List (ℕ × ℕ)) → v.own ≢ None → v.closed ≡ (number, 0) ∷ rest → Splits Rule id v (deals_from v (drop 1 v.closed)) (dealt v (get_or v.closed 0 (0, 0)).0)
  deals_as id v number rest named has = subst (λ (l : List (ℕ × ℕ)). Splits Rule id v (deals_from v (drop 1 l)) (dealt v (get_or l 0 (0, 0)).0)) (sym has) (deals id v number rest named has)
