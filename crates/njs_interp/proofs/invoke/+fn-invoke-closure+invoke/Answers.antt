use Rattle.std.proofs.Common.{◌≡◌, ◌-◌, ℕ, suc, [], true, false, map, Err, refl, sym, ap, ◌∙◌, subst, arith, rules}
use Rattle.njs_value.specs.declared.Cause.TheVariants.{CallDepth}
use Rattle.njs_value.specs.declared.Value.{Value}
use Rattle.njs_value.specs.declared.Value.TheVariants as value
use Rattle.njs_shared.specs.Heap.{Heap, sizes}
use Rattle.njs_shared.specs.Fits.{FitsValue}
use Rattle.njs_clone.specs.Content.{content}
use Rattle.njs_clone.specs.StandsFor.{plain_objects}
use Rattle.njs_meaning.specs.Errors.{name_of, throw}
use Rattle.njs_meaning.specs.Functions.{Program, calls_at}
use Rattle.njs_convert.specs.Tells.{Tells, ShowsValue}
use Rattle.njs_interp.specs.Hosts.{counts_of}
use Rattle.njs_interp.specs.Standing.{Stands, Holds, by_way}
use Rattle.njs_interp.specs.Calling.{may_enter}
use Rattle.njs_interp.proofs.Enters.{throw_enters}
use Rattle.njs_interp.proofs.Invoking.{refused_is, deepest_is, entered_is, refused_tells, refusal_nameless, fared_tells, by_way_fares, calls_fare, calls_keep}
use Rattle.njs_interp.proofs.invoke.+fn-invoke-closure+invoke.Goals as goal

pub returns-in_default-clause-told : goal.returns-in_default-clause-told
returns-in_default-clause-told g t c = λ k program is agrees. record {
  by = λ s stands.
      let h : Heap = c.args.machine.now in
      let new : Heap = c.throw.new.machine in
      let host = c.args.host.now in
      let laws = g.met.H.Host in
      let ticks = c.args.fuel.now.left in
      let v = content h.texts c.args.callee in
      let args = map (content h.texts) c.args.args.now in
      let none : may_enter program c.args.way s.objects v ≡ false = subst (λ os. may_enter program c.args.way os v ≡ false) stands.holds.heap.objects (c.in_default.ensures program is.constructs_are) in
      let keeps = g.H.Host.keeps host in
      let stopped = g.H.Host.halted host k in
      subst (Tells (Stands keeps ticks k new) stopped new.texts (ShowsValue new.texts) (Err c.throw.result))
      (sym (refused_is program h.texts args s c.args.calls c.args.way v none ∙ ap (λ cause. throw cause s) (sym c.refusal.ensures)))
      (refused_tells (λ k s. g.H.Host.keeps host k s) (λ k s. g.H.Host.halted host k s) k (λ s t a b c d kept. laws.keeps_as host k s t a b c d kept)
      (λ s kept. laws.halts host k s kept) (λ s t zones asked before. laws.halted_as host k s t zones asked before)
      ticks h new c.refusal.result c.throw.result s (ap name_of c.refusal.ensures ∙ refusal_nameless c.args.way) stands c.throw.ensures.throws c.throw.ensures.extends);
}

pub returns-in_default-clause-entered : goal.returns-in_default-clause-entered
returns-in_default-clause-entered g t c =
    throw_enters g.H.Host.rows (counts_of c.args.codes.now) (g.H.Host.agrees c.args.host.now) (g.H.Host.zones c.args.host.now) c.args.machine.now c.throw.new.machine c.refusal.result c.throw.result c.args.fuel.now.left c.args.steps.now c.throw.new.steps
    c.requires.fits c.throw.ensures.throws c.throw.ensures.extends c.throw.ensures.steps

pub returns-then-calls-eq0-clause-told : goal.returns-then-calls-eq0-clause-told
returns-then-calls-eq0-clause-told g t c = λ k program is agrees. record {
  by = λ s stands.
      let h : Heap = c.args.machine.now in
      let thrown = c.throw-then-calls-eq0 in
      let new : Heap = thrown.new.machine in
      let host = c.args.host.now in
      let laws = g.met.H.Host in
      let ticks = c.args.fuel.now.left in
      let args = map (content h.texts) c.args.args.now in
      let found = c.in-Some.ensures program is.constructs_are in
      let may : may_enter program c.args.way s.objects (content h.texts (value.Obj c.in-Some.object)) ≡ true =
      subst (λ os. may_enter program c.args.way os (content h.texts (value.Obj c.in-Some.object)) ≡ true) stands.holds.heap.objects
      (subst (λ v. may_enter program c.args.way (plain_objects h) (content h.texts v) ≡ true) found.0 found.1)
      in
      let keeps = g.H.Host.keeps host in
      let stopped = g.H.Host.halted host k in
      subst (Tells (Stands keeps ticks k new) stopped new.texts (ShowsValue new.texts) (Err thrown.result))
      (sym (ap (λ n. by_way (calls_at program n) h.texts c.args.way (content h.texts c.args.callee) args s) c.if-calls-eq0.true
      ∙ ap (λ v. by_way (calls_at program 0) h.texts c.args.way (content h.texts v) args s) found.0
      ∙ deepest_is program h.texts args s c.args.way c.in-Some.object.0 may))
      (refused_tells (λ k s. g.H.Host.keeps host k s) (λ k s. g.H.Host.halted host k s) k (λ s t a b c d kept. laws.keeps_as host k s t a b c d kept)
      (λ s kept. laws.halts host k s kept) (λ s t zones asked before. laws.halted_as host k s t zones asked before)
      ticks h new CallDepth thrown.result s refl stands thrown.ensures.throws thrown.ensures.extends);
}

pub returns-then-calls-eq0-clause-entered : goal.returns-then-calls-eq0-clause-entered
returns-then-calls-eq0-clause-entered g t c =
    let thrown = c.throw-then-calls-eq0 in
    throw_enters g.H.Host.rows (counts_of c.args.codes.now) (g.H.Host.agrees c.args.host.now) (g.H.Host.zones c.args.host.now) c.args.machine.now thrown.new.machine CallDepth thrown.result c.args.fuel.now.left c.args.steps.now thrown.new.steps
    c.requires.fits thrown.ensures.throws thrown.ensures.extends thrown.ensures.steps

pub enter-requires-clause-object : goal.enter-requires-clause-object
enter-requires-clause-object g t c =
    let program : Program = record { functions = []; answers = g.H.Host.means; constructs = g.H.Host.constructs } in
    subst (λ (v : Value). FitsValue (sizes c.args.machine.now) v) (c.in-Some.ensures program refl).0 c.requires.callee

pub returns-clause-told : goal.returns-clause-told
returns-clause-told g t c = λ k program is agrees. record {
  by = λ s stands.
      let h : Heap = c.args.machine.now in
      let new : Heap = c.enter.new.machine in
      let host = c.enter.new.own.host.now in
      let ticks = c.enter.new.own.fuel.now.left in
      let host_is : c.host-1.given.0 ≡ host = search rules in
      let ticks_are : c.fuel-1.given.0.left ≡ ticks = search rules in
      let laws = g.met.H.Host in
      let further = c.args.calls - 1 in
      let object = c.in-Some.object.0 in
      let args = map (content h.texts) c.args.args.now in
      let v = content h.texts c.args.callee in
      let found = c.in-Some.ensures program is.constructs_are in
      let may : may_enter program c.args.way s.objects (content h.texts (value.Obj c.in-Some.object)) ≡ true =
      subst (λ os. may_enter program c.args.way os (content h.texts (value.Obj c.in-Some.object)) ≡ true) stands.holds.heap.objects
      (subst (λ v. may_enter program c.args.way (plain_objects h) (content h.texts v) ≡ true) found.0 found.1)
      in
      let some : c.args.calls ≡ suc further = omega (arith, c.if-calls-eq0.false) in
      let fare = λ (n : ℕ). calls_fare g.H.Host.means g.H.Host.constructs c.args.codes.now k program is
      (λ env calls fare row this args made s good. laws.answers_fare env calls fare row this args made s good) n
      in
      let keep = λ (h : g.row.H.Denot) (n : ℕ). calls_keep g.H.Host.means g.H.Host.constructs c.args.codes.now k program is (λ s. g.H.Host.halted h k s)
      (λ s t zones asked before. laws.halted_as h k s t zones asked before)
      (λ calls call construct row this args made s before. laws.answers_halt h k calls call construct row this args made s before) n
      in
      let told =
      (c.enter.ensures.told (calls_at program further) k program is
      (fare further, (λ h. keep h further), (λ alloc m f h callee way args steps r m' f' h' steps' post agrees. post.3.0 k program is agrees)) (subst (λ (h : g.row.H.Denot). g.H.Host.agrees h k) host_is agrees)).by s stands
      in
      let stopped = g.H.Host.halted host k in
      let outcome = by_way (calls_at program c.args.calls) h.texts c.args.way v args s in
      let whole =
      subst (Tells (Holds (g.H.Host.keeps host) ticks k new) stopped new.texts (ShowsValue new.texts) c.enter.result)
      (sym (ap (λ n. by_way (calls_at program n) h.texts c.args.way v args s) some
      ∙ ap (λ v. by_way (calls_at program (suc further)) h.texts c.args.way (content h.texts v) args s) found.0
      ∙ entered_is program h.texts args s further c.args.way object may)) told
      in
      subst (λ (x : g.row.H.Denot). Tells (Stands (g.H.Host.keeps x) c.fuel-1.given.0.left k new) (g.H.Host.halted x k) new.texts (ShowsValue new.texts) c.enter.result outcome) (sym host_is)
      (subst (λ n. Tells (Stands (g.H.Host.keeps host) n k new) stopped new.texts (ShowsValue new.texts) c.enter.result outcome) (sym ticks_are)
      (fared_tells k.around (Holds (g.H.Host.keeps host) ticks k new) (Stands (g.H.Host.keeps host) ticks k new) stopped new.texts s (λ t fares holds. record { holds = holds; good = fares.good })
      c.enter.result outcome (by_way_fares k.around (calls_at program c.args.calls) (fare c.args.calls) h.texts c.args.way v args s stands.good) whole));
}
