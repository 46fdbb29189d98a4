-- Taking a ticket, looking, and passing the turn keep the rule.
use Rattle.std.proofs.Common.{◌≡◌, ◌≢◌, ℕ, suc, ◌+◌, ◌-◌, ◌%◌, ◌<◌, ◌≤◌, List, [], ◌∷◌, length, get_or, set, Option, Some, None, refl, sym, ap, ◌∙◌, subst, inl, inr, ⊎_elim, arith}
use Rattle.std.proofs.Math.Nat.{mod-add-mod}
use mathlib.Core.Logic.{dite}
use mathlib.Core.Option.{some, none}
use native.Mathlib.Decide.{ℕ_discrete}
use lib.ListN.{get_elem?}
use lib.Seq.{set-get_or}
use Rattle.atomic_table.specs.Table.{State, step, keeps, takes, gives, stepped, Allows}
use Rattle.atomic_table.proofs.Lists.{at_set, set_again, one_turn}
use Rattle.dict_model.specs.declared.operation.Entry.{Entry}
use Rattle.dict_model.specs.declared.operation.ZoneSpec.{ZoneSpec}
use Rattle.dict_model.specs.Zone.{State as DictState, IsValid}
use Rattle.dict_model.specs.History.{Legal, state_after}
use Rattle.dict_lock.specs.declared.view.Turn.{Turn}
use Rattle.dict_lock.specs.declared.view.Turn.TheVariants.{Idle, Waits, Holds}
use Rattle.dict_lock.specs.declared.view.ZoneView.{ZoneView}
use Rattle.dict_lock.specs.declared.view.Held.{Held}
use Rattle.dict_lock.specs.Weights.{total, run}
use Rattle.dict_lock.specs.Views.{waits, holds, rests, owns, own_weight, in_line, in_turn, ticket_weight, turn_weight}
use Rattle.dict_lock.specs.Rule.{TurnFits, ViewFits, HeldFits, IsHome, IsOut, Orderly}
use Rattle.dict_lock.specs.Plays.{Sat, took, looked, passed}
use Rattle.dict_lock.proofs.Sums.{total-set, term_le, total_le, below-one, run-one, run_head, only, only-same, only-other, run_once, run_within}
use Rattle.dict_lock.proofs.Histories.{made_more}
use Rattle.dict_lock.proofs.Knowing.{known_set}

M : ℕ
M = 18446744073709551616

module _ {Z : Type 0} (spec_of : Z → ZoneSpec) (state_of : Z → DictState) (spec : ZoneSpec) where
  abbrev pub St : Type 0
  St = State (Option (Held Z)) ZoneView

  abbrev pub Rule : St → Type 0
  Rule = Orderly spec_of state_of spec

  -- a view that changes in its ticket alone fits
  pub turned_fits : (log : List Entry) (next : ℕ) (v : ZoneView) (turn : Turn) (ticket made : ℕ) (whole : List Entry) → ViewFits spec log next v
      → (let w : ZoneView = record { of = v.of; own = v.own; mine = v.mine; closed = v.closed; seen = v.seen; told = v.told; made = made; turn = turn; ticket = ticket; whole = whole } in
      v.made ≤ made → made ≤ next → TurnFits log next w turn → ViewFits spec log next w)
  turned_fits log next v turn ticket made whole x more le t = record {
    of = x.of;
    seen = x.seen;
    told = x.told;
    places = x.places;
    own = x.own;
    closed = x.closed;
    made = le;
    seen_made = made_more v.made made v.seen more x.seen_made;
    told_made = made_more v.made made v.told more x.told_made;
    turn = t;
  }

  -- fewer wait than numbers were handed out
  line_owns : (log : List Entry) (next : ℕ) (v : ZoneView) (turn : Turn) (own : Option ℕ) → own ≡ v.own → TurnFits log next v turn → ticket_weight (λ _. 1) turn v.ticket ≤ own_weight (λ _. 1) own
  line_owns log next v Idle own e h = omega arith
  line_owns log next v Waits None e h = absurd (h (sym e))
  line_owns log next v Waits (Some n) e h = omega arith
  line_owns log next v Holds None e h = absurd (h.0 (sym e))
  line_owns log next v Holds (Some n) e h = omega arith

  pub few_wait : (s : St) (o : Rule s) → o.waiting < 4294967296
  few_wait s o =
      let f : ℕ → ℕ = λ _. 1 in
      let le = total_le (in_line f) (owns f) s.views (λ j v e. let h = line_owns o.log o.next v v.turn v.own refl (o.each j v e).turn in omega arith) in
      omega (arith, le, o.line f, o.numbers f, run-one o.served o.waiting, below-one o.next, o.few)

  -- a ticket in the line
  pub in_the_line : (s : St) (o : Rule s) (id : ℕ) (v : ZoneView) → get_elem? s.views id ≡ some v → 0 < in_line (only v.ticket) v → (o.served ≤ v.ticket) × (v.ticket < o.served + o.waiting)
  in_the_line s o id v me h = run_within v.ticket o.served o.waiting (omega (arith, term_le (in_line (only v.ticket)) s.views id v me, o.line (only v.ticket)))

  pub takes_ticket : (slots id : ℕ) (m : Sat Z) → m.0.turn ≡ Idle → m.0.own ≢ None → Allows Rule slots id m 0 (λ n. (n + 1) % 18446744073709551616) (took (step slots 0 1 0 none) m)
  takes_ticket slots id m idle named s o wide me fits =
      let v : ZoneView = m.0 in
      let t : ℕ = o.served + o.waiting in
      let w : ZoneView = waits v t in
      let found : get_or s.words 0 0 ≡ t % 18446744073709551616 = ap (λ ws. get_or ws 0 0) o.words in
      let e : t + 1 ≡ o.served + suc o.waiting = omega arith in
      let next_ticket : (get_or s.words 0 0 + 1) % 18446744073709551616 ≡ (o.served + suc o.waiting) % 18446744073709551616 = ap (λ x. (x + 1) % 18446744073709551616) found ∙ mod-add-mod t 18446744073709551616 1 ∙ ap (λ x. x % 18446744073709551616) e in
      let x = o.each id v me in (
        w,
        keeps,
        tt,
        record {
          log = o.log;
          served = o.served;
          waiting = suc o.waiting;
          next = o.next;
          words = ap (λ ws. set ws 0 ((get_or s.words 0 0 + 1) % 18446744073709551616)) o.words ∙ ap (λ y. y ∷ o.served % 18446744073709551616 ∷ length o.log % 18446744073709551616 ∷ []) next_ticket;
          legal = o.legal;
          log_made = o.log_made;
          few = o.few;
          line = λ f. omega (arith, total-set (in_line f) s.views id v w me, o.line f, ap (λ tn. ticket_weight f tn v.ticket) idle);
          numbers = λ f. omega (arith, total-set (owns f) s.views id v w me, o.numbers f);
          known = known_set o.log s.views id v w me (λ k. k) o.known;
          each = λ j u at. ⊎_elim (λ (z : (j ≡ id) × (w ≡ u)). subst (ViewFits spec o.log o.next) z.1 (turned_fits o.log o.next v Waits t v.made [] x (omega arith) x.made named)) (λ (z : (j ≢ id) × (get_elem? s.views j ≡ some u)). o.each j u z.1) (at_set s.views id j w u at);
          slot = ⊎_elim (λ (h : IsHome spec_of state_of spec o.log o.next s). inl (h.0, h.1, h.2, λ f. omega (arith, total-set (in_turn f) s.views id v w me, h.3 f)))
              (λ (h : IsOut o.served s). inr (h.0, λ f. omega (arith, total-set (in_turn f) s.views id v w me, h.1 f, ap (λ tn. turn_weight f tn v.ticket) idle))) o.slot;
        },
        (refl, sym found),
      )

  same_state : (s : St) (i id : ℕ) (v : ZoneView) (c : List (ℕ × Option (Held Z))) → get_elem? s.views id ≡ some v → s ≡ stepped s i (get_or s.words i 0) id c v keeps
  same_state s i id v c me = λ k. record { words = sym (set-get_or s.words i 0) k; homes = s.homes; views = sym (set_again s.views id v me) k }

  turn_le : (f : ℕ → ℕ) (turn : Turn) (k : ℕ) → turn_weight f turn k ≤ ticket_weight f turn k
  turn_le f Idle k = omega arith
  turn_le f Waits k = omega arith
  turn_le f Holds k = omega arith

  -- a view that waits is in the line beside those in a turn
  beside_turns : (f : ℕ → ℕ) (views : List ZoneView) (id : ℕ) (v : ZoneView) → get_elem? views id ≡ some v → v.turn ≡ Waits → total (in_turn f) views + f v.ticket ≤ total (in_line f) views
  beside_turns f views id v me waiting =
      let w : ZoneView = rests v in
      let a = total-set (in_turn f) views id v w me in
      let b = total-set (in_line f) views id v w me in
      let le = total_le (in_turn f) (in_line f) (set views id w) (λ j u e. turn_le f u.turn u.ticket) in
      omega (arith, a, b, le, ap (λ tn. turn_weight f tn v.ticket) waiting, ap (λ tn. ticket_weight f tn v.ticket) waiting)

  pub looks : (slots id : ℕ) (m : Sat Z) → m.0.turn ≡ Waits → Allows Rule slots id m 1 (λ n. n) (looked spec_of state_of (step slots 1 0 0 none) m)
  looks slots id m waiting s o wide me fits =
      let v : ZoneView = m.0 in
      let t : ℕ = v.ticket in
      let x = o.each id v me in
      let found : get_or s.words 1 0 ≡ o.served % 18446744073709551616 = ap (λ ws. get_or ws 1 0) o.words in
      let named = subst (TurnFits o.log o.next v) waiting x.turn in
      dite (ℕ_discrete (get_or s.words 1 0) (t % 18446744073709551616))
      (λ hit.
      let weighs : in_line (only t) v ≡ 1 = ap (λ tn. ticket_weight (only t) tn t) waiting ∙ only-same t t refl in
      let r = in_the_line s o id v me (omega arith) in
      let few = few_wait s o in
      let r₀ = r.0 in let r₁ = r.1 in
      let near : t < o.served + 18446744073709551616 = omega arith in
      let mine : o.served ≡ t = one_turn o.served t 18446744073709551616 r₀ near (sym found ∙ hit) in
      ⊎_elim
      (λ (h : IsHome spec_of state_of spec o.log o.next s).
      let w : ZoneView = holds v o.log o.next in (
        w,
        takes 0 (Some h.0),
        ap (λ hs. get_elem? hs 0) h.1,
        record {
          log = o.log;
          served = o.served;
          waiting = o.waiting;
          next = o.next;
          words = set-get_or s.words 1 0 ∙ o.words;
          legal = o.legal;
          log_made = o.log_made;
          few = o.few;
          line = λ f. omega (arith, total-set (in_line f) s.views id v w me, o.line f, ap (λ tn. ticket_weight f tn v.ticket) waiting);
          numbers = λ f. omega (arith, total-set (owns f) s.views id v w me, o.numbers f);
          known = known_set o.log s.views id v w me (λ k. k) o.known;
          each = λ j u at. ⊎_elim (λ (z : (j ≡ id) × (w ≡ u)). subst (ViewFits spec o.log o.next) z.1 (turned_fits o.log o.next v Holds t o.next o.log x x.made (omega arith) (subst (TurnFits o.log o.next v) waiting x.turn, refl, refl))) (λ (z : (j ≢ id) × (get_elem? s.views j ≡ some u)). o.each j u z.1) (at_set s.views id j w u at);
          slot = inr (ap (λ hs. set hs 0 none) h.1, λ f. omega (arith, total-set (in_turn f) s.views id v w me, h.3 f, ap f mine, ap (λ tn. turn_weight f tn v.ticket) waiting));
        },
        ((λ _. (o.log, o.next, h.0, refl, subst (λ z. HeldFits spec_of state_of z o.log o.next h.0) (sym (x.of named)) h.2, subst (λ z. Legal z o.log) (sym (x.of named)) o.legal, o.log_made, x.seen, x.made, o.few)), (λ miss. absurd (miss hit))),
      ))
      (λ (h : IsOut o.served s). let crowd = beside_turns (only t) s.views id v me waiting in
      absurd (omega (arith, crowd, h.1 (only t), o.line (only t), run_once t o.served o.waiting, only-same t o.served mine, only-same t t refl)))
      o.slot)
      (λ miss. (v, keeps, tt, subst Rule (same_state s 1 id v m.1 me) o, ((λ hit. absurd (miss hit)), (λ _. refl))))

  -- the view in a turn has the ticket that is served
  pub in_turn_out : (s : St) (o : Rule s) (id : ℕ) (v : ZoneView) → get_elem? s.views id ≡ some v → v.turn ≡ Holds → IsOut o.served s × (v.ticket ≡ o.served) × (v.own ≢ None) × (v.whole ≡ o.log) × (v.made ≡ o.next)
  in_turn_out s o id v me holding =
      let t : ℕ = v.ticket in
      let has = term_le (in_turn (only t)) s.views id v me in
      let one : in_turn (only t) v ≡ 1 = ap (λ tn. turn_weight (only t) tn t) holding ∙ only-same t t refl in
      let knows = subst (TurnFits o.log o.next v) holding (o.each id v me).turn in
      ⊎_elim
      (λ (h : IsHome spec_of state_of spec o.log o.next s). absurd (omega (arith, has, one, h.3 (only t))))
      (λ (h : IsOut o.served s). dite (ℕ_discrete o.served t) (λ e. (h, sym e, knows.0, knows.1, knows.2)) (λ ne. absurd (omega (arith, has, one, h.1 (only t), only-other t o.served ne))))
      o.slot

  pub passes : (slots id : ℕ) (v : ZoneView) (held : Held Z) → v.turn ≡ Holds → HeldFits spec_of state_of v.of v.whole v.made held
      → Allows Rule slots id (v, (0, Some held) ∷ []) 1 (λ n. (n + 1) % 18446744073709551616) (passed (step slots 1 1 0 none) (v, (0, Some held) ∷ []))
  passes slots id v held holding ok s o wide me fits =
      let t : ℕ = v.ticket in
      let w : ZoneView = rests v in
      let x = o.each id v me in
      let out = in_turn_out s o id v me holding in
      let mine : t ≡ o.served = out.1 in
      let weighs : in_line (only t) v ≡ 1 = ap (λ tn. ticket_weight (only t) tn t) holding ∙ only-same t t refl in
      let r = in_the_line s o id v me (omega arith) in
      let r₁ = r.1 in
      let some_wait : suc (o.waiting - 1) ≡ o.waiting = omega arith in
      let all : o.served + o.waiting ≡ o.served + 1 + (o.waiting - 1) = omega arith in
      let found : get_or s.words 1 0 ≡ o.served % 18446744073709551616 = ap (λ ws. get_or ws 1 0) o.words in
      let served : (get_or s.words 1 0 + 1) % 18446744073709551616 ≡ (o.served + 1) % 18446744073709551616 = ap (λ y. (y + 1) % 18446744073709551616) found ∙ mod-add-mod o.served 18446744073709551616 1 in (
        w,
        gives,
        tt,
        record {
          log = o.log;
          served = o.served + 1;
          waiting = o.waiting - 1;
          next = o.next;
          words = ap (λ ws. set ws 1 ((get_or s.words 1 0 + 1) % 18446744073709551616)) o.words ∙ (λ i. all i % 18446744073709551616 ∷ served i ∷ length o.log % 18446744073709551616 ∷ []);
          legal = o.legal;
          log_made = o.log_made;
          few = o.few;
          line = λ f. omega (arith, total-set (in_line f) s.views id v w me, o.line f, ap (λ tn. ticket_weight f tn t) holding, ap f mine, run_head f o.served (o.waiting - 1), ap (run f o.served) some_wait);
          numbers = λ f. omega (arith, total-set (owns f) s.views id v w me, o.numbers f);
          known = known_set o.log s.views id v w me (λ k. k) o.known;
          each = λ j u at. ⊎_elim (λ (z : (j ≡ id) × (w ≡ u)). subst (ViewFits spec o.log o.next) z.1 (turned_fits o.log o.next v Idle 0 v.made [] x (omega arith) x.made tt)) (λ (z : (j ≢ id) × (get_elem? s.views j ≡ some u)). o.each j u z.1) (at_set s.views id j w u at);
          slot = inl (
            held,
            ap (λ hs. set hs 0 (some (Some held))) out.0.0,
            record { of = ok.of ∙ x.of out.2; state = ok.state ∙ (λ i. state_after (x.of out.2 i) (out.3 i)); valid = subst (λ z. IsValid z (state_of held.state)) (x.of out.2) ok.valid; next = ok.next ∙ out.4 },
            λ f. omega (arith, total-set (in_turn f) s.views id v w me, out.0.1 f, ap f mine, ap (λ tn. turn_weight f tn t) holding),
          );
        },
        refl,
      )
