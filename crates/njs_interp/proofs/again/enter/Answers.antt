use Rattle.std.proofs.Common.{◌≡◌, ◌++◌, ℕ, List, Option, Err, inl, inr, map, sym, ap, ◌∙◌, subst, rules}
use Rattle.njs_value.specs.declared.Value.{Value}
use Rattle.njs_shared.specs.Heap.{Heap}
use Rattle.njs_shared.specs.declared.object.Inner.TheVariants as inner
use Rattle.njs_clone.specs.Content.{content}
use Rattle.njs_meaning.specs.Values.{ObjectAt}
use Rattle.njs_meaning.specs.Running.{charge}
use Rattle.njs_meaning.specs.Errors.{name_of, throw}
use Rattle.njs_meaning.specs.Replies.{state_of}
use Rattle.njs_convert.specs.Tells.{Tells, ShowsValue}
use Rattle.njs_interp.specs.declared.own.Way.{Way}
use Rattle.njs_interp.specs.Hosts.{FitsProgram, counts_of}
use Rattle.njs_interp.specs.Standing.{Stands, Holds, by_way}
use Rattle.njs_interp.specs.Calling.{bound_way, entered}
use Rattle.njs_interp.proofs.Enters.{entered_at, scoped_at, refused_at, throw_enters}
use Rattle.njs_interp.proofs.HeldTells.{tells-on}
use Rattle.njs_interp.proofs.Invoking.{script_entered, row_entered, bound_entered, refused_tells, refusal_nameless, charge_keeps, by_way_keeps, widens_grows}
use Rattle.njs_interp.proofs.again.enter.Goals as goal

pub returns-in-Script-clause-told : goal.returns-in-Script-clause-told
returns-in-Script-clause-told g c = λ calls k program is follows agrees. record {
  by = λ s stands.
      let h : Heap = c.args.machine.now in
      let new : Heap = c.enter_script.new.machine in
      let own = c.enter_script.new.caller in
      let old = c.args.own.now in
      let o = c.object.result.now in
      let i = inner.Script c.in-Script.module c.in-Script.code c.in-Script.scope in
      let here : o.inner ≡ i = search rules in
      let args = map (content h.texts) c.args.args.now in
      let keeps = g.H.Host.keeps old.host.now in
      subst (Tells (Holds (g.H.Host.keeps own.host.now) own.fuel.now.left k new) (g.H.Host.halted own.host.now k) new.texts (ShowsValue new.texts) c.enter_script.result)
      (sym (entered_at keeps old.fuel.now.left k h c.args.object.0 o c.object.ensures.object i here s stands program calls c.args.way args
      ∙ script_entered program calls h.texts c.args.object.0 args s c.args.way c.in-Script.module c.in-Script.code c.in-Script.scope))
      ((c.enter_script.ensures.told calls k program is.of_codes follows agrees).by s (stands, scoped_at keeps old.fuel.now.left k h c.args.object.0 o c.object.ensures.object i here s stands));
}

pub returns-in-Script-clause-entered : goal.returns-in-Script-clause-entered
returns-in-Script-clause-entered g c =
    let h : Heap = c.args.machine.now in
    let new : Heap = c.enter_script.new.machine in
    let own = c.enter_script.new.caller in
    record {
      agrees = c.enter_script.ensures.agrees;
      fits = subst (λ (counts : ℕ → ℕ → Option (List ℕ)). FitsProgram g.H.Host.rows (g.H.Host.zones own.host.now) counts new) (ap (λ l. l.counts) c.enter_script.ensures.same ∙ c.requires.counts) c.enter_script.ensures.fits;
      grows = widens_grows h new c.enter_script.ensures.widens;
      value = c.enter_script.ensures.value;
      spent = c.enter_script.ensures.spent;
      steps = c.enter_script.ensures.steps;
    }

pub returns-in-BuiltIn-clause-told : goal.returns-in-BuiltIn-clause-told
returns-in-BuiltIn-clause-told g c = λ calls k program is follows agrees. record {
  by = λ s stands.
      let h : Heap = c.args.machine.now in
      let new : Heap = c.enter_built_in.new.machine in
      let own = c.enter_built_in.new.own in
      let old = c.args.own.now in
      let o = c.object.result.now in
      let i = inner.BuiltIn c.in-BuiltIn.row in
      let here : o.inner ≡ i = search rules in
      let args = map (content h.texts) c.args.args.now in
      let stopped = g.H.Host.halted own.host.now k in
      subst (Tells (Holds (g.H.Host.keeps own.host.now) own.fuel.now.left k new) stopped new.texts (ShowsValue new.texts) c.enter_built_in.result)
      (sym (entered_at (g.H.Host.keeps old.host.now) old.fuel.now.left k h c.args.object.0 o c.object.ensures.object i here s stands program calls c.args.way args
      ∙ row_entered program calls h.texts c.args.object.0 args s g.H.Host.means is.answers c.args.way c.in-BuiltIn.row))
      (tells-on (Stands (g.H.Host.keeps own.host.now) own.fuel.now.left k new) (Holds (g.H.Host.keeps own.host.now) own.fuel.now.left k new) stopped stopped new.texts c.enter_built_in.result _ (λ t stands. stands.holds) (λ t stopped. stopped)
      ((c.enter_built_in.ensures.told calls k follows agrees).by s stands));
}

pub returns-in-Ok-clause-told : goal.returns-in-Ok-clause-told
returns-in-Ok-clause-told g c = λ calls k program is follows agrees. record {
  by = λ s stands.
      let h : Heap = c.args.machine.now in
      let new : Heap = c.enter_bound.new.machine in
      let own = c.enter_bound.new.caller in
      let old = c.args.own.now in
      let o = c.object.result.now in
      let i = inner.Bound c.in-Bound.target c.in-Bound.this c.in-Bound.first in
      let here : o.inner ≡ i = search rules in
      let stopped = g.H.Host.halted own.host.now k in
      let all : c.as_slice-in-Ok.result.now ≡ c.in-Bound.first ++ c.args.args.now = search rules in
      subst (Tells (Holds (g.H.Host.keeps own.host.now) own.fuel.now.left k new) stopped new.texts (ShowsValue new.texts) c.enter_bound.result)
      (sym (entered_at (g.H.Host.keeps old.host.now) old.fuel.now.left k h c.args.object.0 o c.object.ensures.object i here s stands program calls c.args.way (map (content h.texts) c.args.args.now)
      ∙ bound_entered program calls h.texts c.args.object.0 c.in-Bound.first c.args.args.now s c.args.way c.in-Bound.target c.in-Bound.this
      ∙ ap (λ (w : Way). charge 1 (by_way calls h.texts w (ObjectAt c.in-Bound.target.0) (map (content h.texts) (c.in-Bound.first ++ c.args.args.now))) s) (sym c.bound_way-way.ensures)
      ∙ ap (λ (vs : List Value). charge 1 (by_way calls h.texts c.bound_way-way.result (ObjectAt c.in-Bound.target.0) (map (content h.texts) vs)) s) (sym all)))
      ((c.enter_bound.ensures.told calls k follows agrees).by s stands);
}

pub returns-in-Err-clause-told : goal.returns-in-Err-clause-told
returns-in-Err-clause-told g c = λ calls k program is follows agrees. record {
  by = λ s stands.
      let h : Heap = c.args.machine.now in
      let own = c.args.own.now in
      let o = c.object.result.now in
      let i = inner.Bound c.in-Bound.target c.in-Bound.this c.in-Bound.first in
      let here : o.inner ≡ i = search rules in
      let keeps = g.H.Host.keeps own.host.now in
      let stopped = g.H.Host.halted own.host.now k in
      let keep = g.met.A.Again.keep own.run k calls own.host.now follows in
      let w = bound_way c.args.way c.in-Bound.this in
      let vs = map (content h.texts) (c.in-Bound.first ++ c.args.args.now) in
      subst (λ o. stopped (state_of o))
      (sym (entered_at keeps own.fuel.now.left k h c.args.object.0 o c.object.ensures.object i here s stands program calls c.args.way (map (content h.texts) c.args.args.now)
      ∙ bound_entered program calls h.texts c.args.object.0 c.in-Bound.first c.args.args.now s c.args.way c.in-Bound.target c.in-Bound.this))
      (charge_keeps stopped (λ s t zones asked before. g.met.H.Host.halted_as own.host.now k s t zones asked before) 1 (by_way calls h.texts w (ObjectAt c.in-Bound.target.0) vs)
      (λ t before. by_way_keeps stopped calls keep h.texts w (ObjectAt c.in-Bound.target.0) vs t before) s (g.met.H.Host.halts own.host.now k s stands.holds.kept));
}

pub returns-in-Plain-clause-told : goal.returns-in-Plain-clause-told
returns-in-Plain-clause-told g c = λ calls k program is follows agrees. record {
  by = λ s stands.
      let h : Heap = c.args.machine.now in
      let new : Heap = c.throw.new.machine in
      let own = c.args.own.now in
      let o = c.object.result.now in
      let f = c.args.object.0 in
      let w = c.args.way in
      let args = map (content h.texts) c.args.args.now in
      let keeps = g.H.Host.keeps own.host.now in
      let stopped = g.H.Host.halted own.host.now k in
      let laws = g.met.H.Host in
      let same : entered program calls h.texts w f args s ≡ throw c.refusal.result s =
      refused_at keeps own.fuel.now.left k h f o c.object.ensures.object s stands program calls w args (elim c.in-Plain.is [
        | inl is ↦ inl (ap (λ o. o.inner) (sym c.behind-machine.view_is) ∙ is)
        | inr zone ↦ inr (zone.0, ap (λ o. o.inner) (sym c.behind-machine.view_is) ∙ zone.1)
      ])
      ∙ ap (λ cause. throw cause s) (sym c.refusal.ensures)
      in
      subst (Tells (Holds keeps own.fuel.now.left k new) stopped new.texts (ShowsValue new.texts) (Err c.throw.result)) (sym same)
      (tells-on (Stands keeps own.fuel.now.left k new) (Holds keeps own.fuel.now.left k new) stopped stopped new.texts (Err c.throw.result) _ (λ t stands. stands.holds) (λ t stopped. stopped)
      (refused_tells (λ k s. keeps k s) (λ k s. g.H.Host.halted own.host.now k s) k (λ s t a b c d kept. laws.keeps_as own.host.now k s t a b c d kept)
      (λ s kept. laws.halts own.host.now k s kept) (λ s t zones asked before. laws.halted_as own.host.now k s t zones asked before)
      own.fuel.now.left h new c.refusal.result c.throw.result s (ap name_of c.refusal.ensures ∙ refusal_nameless w) stands c.throw.ensures.throws c.throw.ensures.extends));
}

pub returns-in-Plain-clause-entered : goal.returns-in-Plain-clause-entered
returns-in-Plain-clause-entered g c =
    let own = c.args.own.now in
    throw_enters g.H.Host.rows (counts_of c.args.codes.now) (g.H.Host.agrees own.host.now) (g.H.Host.zones own.host.now) c.args.machine.now c.throw.new.machine c.refusal.result c.throw.result own.fuel.now.left c.args.steps.now c.throw.new.steps
    c.requires.fits c.throw.ensures.throws c.throw.ensures.extends c.throw.ensures.steps
