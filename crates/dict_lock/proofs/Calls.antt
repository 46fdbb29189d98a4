-- What a turn leaves, over plain views.
use Rattle.std.proofs.Common.{◌≡◌, ◌≢◌, ℕ, ◌+◌, ◌<◌, ◌≤◌, List, [], ◌∷◌, length, get_or, ◌-◌, Option, Some, None, refl, sym, ap, ◌∙◌, subst, arith}
use Rattle.dict_model.specs.declared.operation.Entry.{Entry}
use Rattle.dict_model.specs.declared.operation.ZoneSpec.{ZoneSpec}
use Rattle.dict_model.specs.Zone.{State as DictState, IsValid, dict}
use Rattle.dict_lock.specs.declared.view.Turn.TheVariants.{Idle}
use Rattle.dict_lock.specs.declared.view.ZoneView.{ZoneView}
use Rattle.dict_lock.specs.declared.view.Held.{Held}
use Rattle.dict_lock.specs.Rule.{HeldFits}
use Rattle.dict_lock.specs.Views.{waits, holds, adds, rests, hands_out, newcomer, first_view, dealt, ClosedFit, places_of, PlacesFit, SeenWell, IsSettled}
use Rattle.dict_lock.specs.Plays.{Sat}
use Rattle.atomic_table.specs.Seated.{TableId}
use Rattle.dict_lock.specs.Known.{number_of, IsCaller, caller_of}
use Rattle.dict_lock.specs.Seats.{IsIdle, Enters}
use Rattle.dict_lock.proofs.Histories.{made_more, places_none, places_unmade, after_push}
use Rattle.dict_lock.proofs.Sharing.{spare_fits}

-- a view that knows of more numbers, and nothing else
more_made : (v : ZoneView) (made ticket : ℕ) (whole : List Entry) → IsSettled v → v.made ≤ made → made < 4294967296
    → (let w : ZoneView = record { of = v.of; own = v.own; mine = v.mine; closed = v.closed; seen = v.seen; told = v.told; made = made; turn = Idle; ticket = ticket; whole = whole } in IsSettled w)
more_made v made ticket whole x le few = record {
  idle = refl;
  heard = x.heard;
  well = record {
    legal = x.well.legal;
    made = made_more v.made made v.seen le x.well.made;
    few = few;
    places = x.well.places;
    closed = x.well.closed;
  };
}

places_caller : (seen : List Entry) (mine : List ℕ) (own : Option ℕ) → own ≢ None → PlacesFit seen mine own → mine ≡ places_of (number_of own) seen
places_caller seen mine None named h = absurd (named refl)
places_caller seen mine (Some n) named h = h

pub settled_caller : {Z : Type 0} (table : TableId) (m : Sat Z) → IsIdle m → IsCaller (caller_of table m.0)
settled_caller table m idle = let well = idle.0.well in record {
  legal = well.legal;
  places = places_caller m.0.seen m.0.mine m.0.own idle.1 well.places;
  made = well.made;
  few = well.few;
  closed = well.closed;
}

module _ {Z : Type 0} (spec_of : Z → ZoneSpec) (state_of : Z → DictState) where
  -- after the commit the state is that after the longer history
  pub call_fits : (m n p : Sat Z) (held : Held Z) (e : Entry) (state' : Z) → Enters spec_of state_of m held n → p ≡ (adds n.0 e, n.1) → spec_of state' ≡ spec_of held.state
      → state_of state' ≡ (dict (spec_of held.state) (state_of held.state) e.op e.reading).1 → IsValid (spec_of state') (state_of state') → HeldFits spec_of state_of p.0.of p.0.whole p.0.made record { state = state'; next = held.next }
  call_fits m n p held e state' (ticket, whole, next, ne, fits, legal, made, pre, le, few) pe same gives valid =
      let v : ZoneView = holds (waits m.0 ticket) whole next in
      let n₀ : n.0 ≡ v = ap (λ (x : Sat Z). x.0) ne in
      let p₀ : p.0 ≡ adds v e = ap (λ (x : Sat Z). x.0) pe ∙ ap (λ (x : ZoneView). adds x e) n₀ in
      subst (λ (x : ZoneView). HeldFits spec_of state_of x.of x.whole x.made record { state = state'; next = held.next }) (sym p₀)
      record {
        of = same ∙ fits.of;
        state = gives ∙ (λ i. (dict (fits.of i) (fits.state i) e.op e.reading).1) ∙ sym (after_push m.0.of whole e);
        valid = subst (λ z. IsValid z (state_of state')) (same ∙ fits.of) valid;
        next = fits.next;
      }

  pub call_idle : (m n p r : Sat Z) (held : Held Z) (e : Entry) → IsIdle m → Enters spec_of state_of m held n → p ≡ (adds n.0 e, n.1) → SeenWell p.0 → r ≡ (rests p.0, []) → IsIdle r × (held.next ≡ r.0.made)
  call_idle m n p r held e idle (ticket, whole, next, ne, fits, legal, made, pre, le, few) pe well re =
      let v : ZoneView = holds (waits m.0 ticket) whole next in
      let n₀ : n.0 ≡ v = ap (λ (x : Sat Z). x.0) ne in
      let p₀ : p.0 ≡ adds v e = ap (λ (x : Sat Z). x.0) pe ∙ ap (λ (x : ZoneView). adds x e) n₀ in
      let well' : SeenWell (adds v e) = subst SeenWell p₀ well in
      let r₀ : r ≡ (rests (adds v e), []) = re ∙ ap (λ (x : ZoneView). (rests x, [])) p₀ in
      subst (λ (x : Sat Z). IsIdle x × (held.next ≡ x.0.made)) (sym r₀)
      ((record { idle = refl; heard = idle.0.heard; well = record { legal = well'.legal; made = well'.made; few = well'.few; places = well'.places; closed = well'.closed } }, idle.1, refl), fits.next)

  -- a turn with no commit
  pub back_idle : (m n r : Sat Z) (held : Held Z) → IsIdle m → Enters spec_of state_of m held n → r ≡ (rests n.0, []) → IsIdle r × (held.next ≡ r.0.made)
  back_idle m n r held idle (ticket, whole, next, ne, fits, legal, made, pre, le, few) re =
      let v : ZoneView = holds (waits m.0 ticket) whole next in
      let r₀ : r ≡ (rests v, []) = re ∙ ap (λ (x : Sat Z). (rests x.0, [])) ne in
      subst (λ (x : Sat Z). IsIdle x × (held.next ≡ x.0.made)) (sym r₀) ((more_made m.0 next 0 [] idle.0 le few, idle.1, refl), fits.next)

  -- a turn in which a number was handed out
  pub split_idle : (m n p r : Sat Z) (held : Held Z) → IsIdle m → Enters spec_of state_of m held n → p ≡ (hands_out n.0, n.1) → r ≡ (rests p.0, []) → held.next + 1 < 4294967296 → IsIdle r × (held.next + 1 ≡ r.0.made)
  split_idle m n p r held idle (ticket, whole, next, ne, fits, legal, made, pre, le, few) pe re room =
      let v : ZoneView = holds (waits m.0 ticket) whole next in
      let r₀ : r ≡ (rests (hands_out v), []) = re ∙ ap (λ (x : Sat Z). (rests x.0, [])) pe ∙ ap (λ (x : Sat Z). (rests (hands_out x.0), [])) ne in
      let is = fits.next in
      subst (λ (x : Sat Z). IsIdle x × (held.next + 1 ≡ x.0.made)) (sym r₀) ((more_made m.0 (next + 1) 0 [] idle.0 (omega arith) (omega arith), idle.1, refl), omega arith)

  pub split_new : (m n r : Sat Z) (held : Held Z) → IsIdle m → Enters spec_of state_of m held n → r ≡ (newcomer n.0, []) → held.next + 1 < 4294967296 → IsIdle r × (held.next + 1 ≡ r.0.made)
  split_new m n r held idle (ticket, whole, next, ne, fits, legal, made, pre, le, few) re room =
      let v : ZoneView = holds (waits m.0 ticket) whole next in
      let r₀ : r ≡ (newcomer v, []) = re ∙ ap (λ (x : Sat Z). (newcomer x.0, [])) ne in
      let is = fits.next in
      let well = idle.0.well in
      subst (λ (x : Sat Z). IsIdle x × (held.next + 1 ≡ x.0.made)) (sym r₀) (
        (
          record {
            idle = refl;
            heard = refl;
            well = record {
              legal = well.legal;
              made = made_more m.0.made (next + 1) m.0.seen (omega arith) well.made;
              few = omega arith;
              places = sym (places_unmade 0 next m.0.seen (made_more m.0.made next m.0.seen le well.made));
              closed = tt;
            };
          },
          (λ e. absurd (cc e)),
          refl,
        ),
        omega arith,
      )

pub first_idle : {Z : Type 0} (spec : ZoneSpec) (count : ℕ) (m : Sat Z) → count < 4294967296 → m ≡ (first_view spec count, []) → IsIdle m × (count ≡ m.0.made)
first_idle {Z} spec count m few is = subst (λ (x : Sat Z). IsIdle x × (count ≡ x.0.made)) (sym is)
    ((record { idle = refl; heard = refl; well = record { legal = tt; made = tt; few = few; places = refl; closed = spare_fits 1 (count - 1) } }, (λ e. absurd (cc e)), refl), refl)

pub dealt_idle : {Z : Type 0} (m r : Sat Z) (number : ℕ) (rest : List (ℕ × ℕ)) → IsIdle m → m.0.closed ≡ (number, 0) ∷ rest → r ≡ (dealt m.0 (get_or m.0.closed 0 (0, 0)).0, []) → IsIdle r × (m.0.made ≡ r.0.made)
dealt_idle {Z} m r number rest idle has is =
    let well = idle.0.well in
    let closed : ClosedFit m.0.seen (length m.0.seen) ((number, 0) ∷ rest) = subst (ClosedFit m.0.seen (length m.0.seen)) has well.closed in
    let r₀ : r ≡ (dealt m.0 number, []) = is ∙ ap (λ (l : List (ℕ × ℕ)). (dealt m.0 (get_or l 0 (0, 0)).0, [])) has in
    subst (λ (x : Sat Z). IsIdle x × (m.0.made ≡ x.0.made)) (sym r₀)
    ((record { idle = refl; heard = refl; well = record { legal = well.legal; made = well.made; few = well.few; places = sym (places_none 0 number m.0.seen closed.0.1); closed = tt } }, (λ e. absurd (cc e)), refl), refl)
