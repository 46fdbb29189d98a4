-- The commit keeps the rule.
use Rattle.std.proofs.Common.{◌≡◌, ◌≢◌, ℕ, ◌+◌, ◌%◌, ◌<◌, List, [], ◌∷◌, ◌++◌, length, drop, get_or, set, max, Option, Some, None, refl, sym, ap, ◌∙◌, subst, inl, inr, ⊎_elim, arith, length-append}
use Rattle.std.specs.List.{AllByRecursion}
use Rattle.std.proofs.Math.Nat.{mod-add-mod}
use Rattle.std.proofs.Math.Seq.{drop-length}
use mathlib.Core.Logic.{dite}
use mathlib.Core.Option.{some, none}
use native.Mathlib.Decide.{dec_le}
use lib.ListN.{get_elem?}
use Rattle.atomic_table.specs.Table.{State, step, keeps, Allows}
use Rattle.atomic_table.proofs.Lists.{at_set}
use Rattle.dict_model.specs.declared.operation.Entry.{Entry}
use Rattle.dict_model.specs.declared.operation.ZoneSpec.{ZoneSpec}
use Rattle.dict_model.specs.Zone.{State as DictState, dict}
use Rattle.dict_model.specs.History.{Legal, state_after, Begins}
use Rattle.dict_lock.specs.declared.view.Turn.{Turn}
use Rattle.dict_lock.specs.declared.view.Turn.TheVariants.{Idle, Waits, Holds}
use Rattle.dict_lock.specs.declared.view.ZoneView.{ZoneView}
use Rattle.dict_lock.specs.declared.view.Held.{Held}
use Rattle.dict_lock.specs.Views.{adds, owns, own_weight, in_line, in_turn, ticket_weight, turn_weight, places_of, IsQuiet, AllMade, ClosedFit, PlacesFit}
use Rattle.dict_lock.specs.Rule.{TurnFits, OwnFits, ViewFits, Orderly}
use Rattle.dict_lock.specs.Plays.{added}
use Rattle.dict_lock.proofs.Sums.{total-set, term_le, terms_le, only, only-same, below_once, below_past, all-append}
use Rattle.dict_lock.proofs.Histories.{begins_self, begins_more, begins_length, all_drop_push, closed_push, closed_begins, places_same, places_push, legal_push}
use Rattle.dict_lock.proofs.Knowing.{known_by}
use Rattle.dict_lock.proofs.Turning.{in_turn_out}

-- a number that is none of these stays quiet
own_push : (log : List Entry) (e : Entry) (seen : List Entry) (mine : List ℕ) (own : Option ℕ) → own_weight (only e.caller) own ≡ 0 → OwnFits log seen mine own → OwnFits (log ++ e ∷ []) seen mine own
own_push log e seen mine None absent h = tt
own_push log e seen mine (Some n) absent h = all_drop_push (λ (x : Entry). x.caller ≢ n) (length seen) log e h (λ same. absurd (omega (arith, only-same e.caller n (sym same), absent)))

turn_push : (log : List Entry) (e : Entry) (next : ℕ) (v : ZoneView) (turn : Turn) → v.turn ≡ turn → turn_weight (λ _. 1) v.turn v.ticket ≡ 0 → TurnFits log next v turn → TurnFits (log ++ e ∷ []) next v turn
turn_push log e next v Idle is absent h = tt
turn_push log e next v Waits is absent h = h
turn_push log e next v Holds is absent h = absurd (omega (arith, absent, ap (λ tn. turn_weight (λ _. 1) tn v.ticket) is))

-- a view of another caller, which is not in a turn
other_fits : (spec : ZoneSpec) (log : List Entry) (e : Entry) (next : ℕ) (u : ZoneView) → owns (only e.caller) u ≡ 0 → in_turn (λ _. 1) u ≡ 0 → ViewFits spec log next u → ViewFits spec (log ++ e ∷ []) next u
other_fits spec log e next u absent out x = record {
  of = x.of;
  seen = begins_more u.seen log (e ∷ []) x.seen;
  told = begins_more u.told log (e ∷ []) x.told;
  places = x.places;
  own = own_push log e u.seen u.mine u.own (omega (arith, absent)) x.own;
  closed = closed_push log e (max (length u.seen) (length u.told)) (max (length u.seen) (length u.told)) u.closed (omega arith) (omega (arith, absent)) x.closed;
  made = x.made;
  seen_made = x.seen_made;
  told_made = x.told_made;
  turn = turn_push log e next u u.turn refl out x.turn;
}

-- the places of the caller that made the entry
places_fit : (log : List Entry) (e : Entry) (seen : List Entry) (mine : List ℕ) (own : Option ℕ) → own ≡ Some e.caller → Begins seen log → PlacesFit seen mine own → OwnFits log seen mine own → PlacesFit (log ++ e ∷ []) (mine ++ length log ∷ []) own
places_fit log e seen mine own is pre p q =
    let p' : mine ≡ places_of e.caller seen = subst (PlacesFit seen mine) is p in
    let q' : IsQuiet e.caller (length seen) log = subst (OwnFits log seen mine) is q in
    subst (PlacesFit (log ++ e ∷ []) (mine ++ length log ∷ [])) (sym is)
    (ap (λ l. l ++ length log ∷ []) (p' ∙ sym (places_same e.caller seen log pre q')) ∙ sym (places_push e.caller log e refl))

module _ {Z : Type 0} (spec_of : Z → ZoneSpec) (state_of : Z → DictState) (spec : ZoneSpec) where
  abbrev Rule : State (Option (Held Z)) ZoneView → Type 0
  Rule = Orderly spec_of state_of spec

  pub commits : (slots id : ℕ) (v : ZoneView) (c : List (ℕ × Option (Held Z))) (e : Entry) → v.turn ≡ Holds → v.own ≡ Some e.caller
      → e.reply ≡ (dict v.of (state_after v.of v.whole) e.op e.reading).0
      → Allows Rule slots id (v, c) 2 (λ n. (n + 1) % 18446744073709551616) (added e (step slots 2 1 0 none) (v, c))
  commits slots id v c e holding own reply s o wide me fits =
      let n : ℕ = e.caller in
      let w : ZoneView = adds v e in
      let x = o.each id v me in
      let out = in_turn_out spec_of state_of spec s o id v me holding in
      let log : List Entry = o.log in
      let log' : List Entry = o.log ++ e ∷ [] in
      let is : v.whole ≡ log = out.3 in
      let is' : v.whole ++ e ∷ [] ≡ log' = ap (λ l. l ++ e ∷ []) is in
      let made : v.made ≡ o.next = out.4 in
      let mine : own_weight (only n) v.own ≡ 1 = ap (own_weight (only n)) own ∙ only-same n n refl in
      let all = o.numbers (only n) in
      let once = below_once n o.next in
      let has = term_le (owns (only n)) s.views id v me in
      let below_next : n < o.next = dite (dec_le o.next n) (λ past. absurd (omega (arith, mine, all, has, below_past n o.next past))) (λ lt. omega arith) in
      let holds_one : in_turn (λ _. 1) v ≡ 1 = ap (λ tn. turn_weight (λ _. 1) tn v.ticket) holding in
      let pre = x.seen in
      let long = begins_length v.seen log x.seen in
      let told_long = begins_length v.told log x.told in
      let longer' : length log' ≡ length log + 1 = length-append log (e ∷ []) in
      let same_length : length (v.whole ++ e ∷ []) ≡ length log' = ap length is' in
      let log_made : AllMade o.next log' = all-append (λ (y : Entry). y.caller < o.next) log (e ∷ []) o.log_made (below_next, tt) in
      let closed : ClosedFit log' (max (length (v.whole ++ e ∷ [])) (length v.told)) v.closed =
      closed_push log e (max (length v.seen) (length v.told)) (max (length (v.whole ++ e ∷ [])) (length v.told)) v.closed (omega arith) (omega (arith, mine, all, has, once)) x.closed in
      let places : PlacesFit (v.whole ++ e ∷ []) (v.mine ++ length v.whole ∷ []) v.own =
      subst (λ (l : List Entry). PlacesFit (l ++ e ∷ []) (v.mine ++ length l ∷ []) v.own) (sym is) (places_fit log e v.seen v.mine v.own own x.seen x.places x.own) in
      let seen : Begins (v.whole ++ e ∷ []) log' = subst (λ (l : List Entry). Begins l log') (sym is') (begins_self log') in
      let legal : Legal spec log' = legal_push spec log e o.legal (subst (λ (l : List Entry). e.reply ≡ (dict spec (state_after spec l) e.op e.reading).0) is (subst (λ z. e.reply ≡ (dict z (state_after z v.whole) e.op e.reading).0) (x.of out.2) reply)) in
      let seen_made : AllMade v.made (v.whole ++ e ∷ []) = subst (λ (l : List Entry). AllMade v.made l) (sym is') (subst (λ (k : ℕ). AllMade k log') (sym made) log_made) in
      let found : get_or s.words 2 0 ≡ length log % 18446744073709551616 = ap (λ ws. get_or ws 2 0) o.words in
      let count : (get_or s.words 2 0 + 1) % 18446744073709551616 ≡ length log' % 18446744073709551616 =
      ap (λ y. (y + 1) % 18446744073709551616) found ∙ mod-add-mod (length log) 18446744073709551616 1 ∙ ap (λ y. y % 18446744073709551616) (sym longer') in (
        w,
        keeps,
        tt,
        record {
          log = log';
          served = o.served;
          waiting = o.waiting;
          next = o.next;
          words = ap (λ ws. set ws 2 ((get_or s.words 2 0 + 1) % 18446744073709551616)) o.words ∙ ap (λ y. (o.served + o.waiting) % 18446744073709551616 ∷ o.served % 18446744073709551616 ∷ y ∷ []) count;
          legal = legal;
          log_made = log_made;
          few = o.few;
          line = λ f. omega (arith, total-set (in_line f) s.views id v w me, o.line f, ap (λ tn. ticket_weight f tn v.ticket) holding);
          numbers = λ f. omega (arith, total-set (owns f) s.views id v w me, o.numbers f);
          known = known_by log' s.views id v w me (inl is');
          each = λ j u at. ⊎_elim
              (λ (z : (j ≡ id) × (w ≡ u)). subst (ViewFits spec log' o.next) z.1 record {
                of = x.of;
                seen = seen;
                told = begins_more v.told log (e ∷ []) x.told;
                places = places;
                own = subst (OwnFits log' (v.whole ++ e ∷ []) (v.mine ++ length v.whole ∷ [])) (sym own) (subst (λ (l : List Entry). AllByRecursion (λ (y : Entry). y.caller ≢ n) (drop (length l) log')) (sym is') (subst (AllByRecursion (λ (y : Entry). y.caller ≢ n)) (sym (drop-length log')) tt));
                closed = closed;
                made = x.made;
                seen_made = seen_made;
                told_made = x.told_made;
                turn = (out.2, is', made);
              })
              (λ (z : (j ≢ id) × (get_elem? s.views j ≡ some u)). other_fits spec log e o.next u
              (omega (arith, mine, all, once, terms_le (owns (only n)) s.views id j v u z.0 me z.1))
              (omega (arith, holds_one, terms_le (in_turn (λ _. 1)) s.views id j v u z.0 me z.1, out.0.1 (λ _. 1)))
              (o.each j u z.1))
              (at_set s.views id j w u at);
          slot = inr (out.0.0, λ f. omega (arith, total-set (in_turn f) s.views id v w me, out.0.1 f, ap (λ tn. turn_weight f tn v.ticket) holding));
        },
        (
          refl,
          record {
            legal = subst (λ (l : List Entry). Legal v.of l) (sym is') (subst (λ z. Legal z log') (sym (x.of out.2)) legal);
            made = seen_made;
            few = (let few = o.few in omega arith);
            places = places;
            closed = closed_begins (v.whole ++ e ∷ []) log' (max (length (v.whole ++ e ∷ [])) (length v.told)) (length (v.whole ++ e ∷ [])) v.closed seen (omega arith) closed;
          },
        ),
      )
