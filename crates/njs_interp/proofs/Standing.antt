-- The states that changed heaps stand for.
use Rattle.std.proofs.Common.{◌≡◌, ℕ, List, [], ◌∷◌, ◌++◌, None, Err, length, map, ap, refl, sym, ◌∙◌}
use Rattle.std.proofs.lemmas.List.{append-nil, length-map}
use Rattle.njs_value.specs.declared.Cause.{Cause}
use Rattle.njs_value.specs.declared.Value.TheVariants as value
use Rattle.njs_shared.specs.Heap.{Heap, sizes, HeapObject}
use Rattle.njs_shared.specs.Fits.{FitsHeap}
use Rattle.njs_clone.specs.Content.{content}
use Rattle.njs_clone.specs.StandsFor.{mapped_object, content_inner, plain_objects}
use Rattle.njs_meaning.specs.Values.{ObjectAt}
use Rattle.njs_meaning.specs.State.{State}
use Rattle.njs_meaning.specs.Errors.{name_of, prototype_of, message_of, error_with, throw}
use Rattle.njs_convert.specs.declared.stop.Stop.{Stop}
use Rattle.njs_convert.specs.declared.stop.Stop.TheVariants.{Throw, Fuel, NoMemory}
use Rattle.njs_convert.specs.FirstHeap.{StandsFor, slots_of}
use Rattle.njs_convert.specs.Tells.{Extends, ThrowsError, text_at}
use Rattle.njs_members.specs.Gains.{GainsTexts, KeepsRest}
use Rattle.njs_interp.specs.Plain.{heap_of}
use Rattle.njs_interp.specs.Acts.{OnHeap, Unanswered}
use Rattle.njs_interp.specs.Outcomes.{Tells}
use Rattle.njs_interp.proofs.Causes.{unnamed}
use Rattle.njs_interp.proofs.Kept.{scopes-further, SameBeside-refl}

-- the scopes stay, and further texts may come
module _ (h k : Heap) (fits : FitsHeap h) (more : List (List ℕ)) (scopes : k.scopes ≡ h.scopes) (texts : k.texts ≡ h.texts ++ more) where
  pub slots_same : map (slots_of k.texts) k.scopes ≡ map (slots_of h.texts) h.scopes
  slots_same =
      ap (λ ts. map (slots_of ts) k.scopes) texts ∙ ap (map (slots_of (h.texts ++ more))) scopes ∙ scopes-further (sizes h) h.texts more refl h.scopes fits.scopes

pub on-gained : (h k : Heap) (s : State) → FitsHeap h → GainsTexts h k → StandsFor h (heap_of s) → OnHeap k s s
on-gained h k s fits gains stands = record {
  stands = record {
    objects = gains.objects ∙ stands.objects;
    scopes = slots_same h k fits gains.more (ap (λ (m : Heap). m.scopes) gains.is) (ap (λ (m : Heap). m.texts) gains.is) ∙ stands.scopes;
  };
  beside = SameBeside-refl s;
}

pub on-kept : (h k : Heap) (s : State) → KeepsRest h k → StandsFor h (heap_of s) → OnHeap k s (record s { objects = plain_objects k })
on-kept h k s keeps stands = record {
  stands = record {
    objects = refl;
    scopes = ap (λ ts. map (slots_of ts) k.scopes) keeps.texts ∙ ap (map (slots_of h.texts)) keeps.scopes ∙ stands.scopes;
  };
  beside = record { response = refl; zones = refl; asked = refl; log = refl; ticks = refl };
}

-- ---- what is thrown

module _ (k l : Heap) (cause : Cause) (s t : State) (fits : FitsHeap k) (on : OnHeap k s t) (none : name_of cause ≡ None) (extends : Extends k l) where
  thrown_objects : (o : ℕ) → plain_objects l ≡ plain_objects k ++ error_with (prototype_of cause) (message_of (text_at k.texts) cause) ∷ []
      → plain_objects l ≡ t.objects ++ error_with (prototype_of cause) (message_of (λ name. []) cause) ∷ []
  thrown_objects o made =
      made ∙ ap (λ m. plain_objects k ++ error_with (prototype_of cause) m ∷ []) (unnamed (text_at k.texts) cause none)
      ∙ ap (λ os. os ++ error_with (prototype_of cause) (message_of (λ name. []) cause) ∷ []) on.stands.objects

  count_same : length k.objects ≡ length t.objects
  count_same = sym (length-map k.objects (mapped_object (content k.texts) (content_inner k.texts))) ∙ ap length on.stands.objects

  pub thrown-tells : (stop : Stop) → ThrowsError cause k l stop → Tells (OnHeap l s) (Unanswered s) l.texts (Err stop) (throw cause t)
  thrown-tells (Throw (value.Obj o)) made = (
    ap ObjectAt (made.last ∙ count_same),
    record {
      stands = record {
        objects = thrown_objects o.0 made.objects;
        scopes = slots_same k l fits extends.more extends.scopes extends.texts ∙ on.stands.scopes;
      };
      beside = record { response = on.beside.response; zones = on.beside.zones; asked = on.beside.asked; log = on.beside.log; ticks = on.beside.ticks };
    },
  )
  thrown-tells (Throw value.Undefined) made = absurd made
  thrown-tells (Throw value.Null) made = absurd made
  thrown-tells (Throw (value.Bool b)) made = absurd made
  thrown-tells (Throw (value.Num n)) made = absurd made
  thrown-tells (Throw (value.Str i)) made = absurd made
  thrown-tells Fuel made = absurd made
  thrown-tells NoMemory made = record { zones = on.beside.zones; asked = on.beside.asked }

pub extends-nothing : (h : Heap) → Extends h h
extends-nothing h = record {
  scopes = refl;
  others = [];
  ordinary = tt;
  inner = sym (append-nil (map (λ (o : HeapObject). o.inner) h.objects));
  more = [];
  texts = sym (append-nil h.texts);
}
