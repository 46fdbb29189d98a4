-- What a host needs to answer the rows of requests.
use Rattle.std.proofs.Common.{◌≡◌, ◌≤◌, ℕ, Result, Ok, Err}
use Rattle.njs_meaning.specs.State.{Response, State}
use Rattle.njs_meaning.specs.Replies.{Known}
use Rattle.njs_convert.specs.declared.stop.Stop.{Stop}
use Rattle.njs_convert.specs.Tells.{Counts}
use Rattle.njs_request.specs.Response.{KeepsResponse}

-- a caller that says of its hosts just what they say of themselves
module _ {H : Type 0} (response_of : H → Response) (with_response : H → Response → H) where
  pub keeps_as : (keeps own_keeps : H → Known → State → Type 0) (agreed own_agrees : H → Known → Type 0) (zones : H → ℕ) (same_zones : H → H → Type 0)
      → KeepsResponse response_of with_response own_keeps own_agrees (λ g h. zones g ≡ zones h)
      → ((h : H) (k : Known) (s : State) → (keeps h k s → own_keeps h k s) × (own_keeps h k s → keeps h k s))
      → ((h : H) (k : Known) → (agreed h k → own_agrees h k) × (own_agrees h k → agreed h k))
      → ((g h : H) → zones g ≡ zones h → same_zones g h) → KeepsResponse response_of with_response keeps agreed same_zones
  keeps_as keeps own_keeps agreed own_agrees zones same_zones own kept agree same = record {
    read = λ h k s holds. own.read h k s ((kept h k s).0 holds);
    written = λ h k s r holds. (kept (with_response h r) k (record s { response = r })).1 (own.written h k s r ((kept h k s).0 holds));
    agrees = λ h k r holds. (agree h k).1 (own.agrees h k r ((agree (with_response h r) k).0 holds));
    zones = λ h r. same h (with_response h r) (own.zones h r);
  }

-- a caller that may count more at any time has counted what an error adds
pub counted : (V : Type 0) (adds : ℕ → Type 0) (new : ℕ) (r : Result V Stop) → ((n k : ℕ) → n ≤ k → adds n → adds k) → Counts adds new r → adds new
counted V adds new (Ok v) more counts = counts
counted V adds new (Err stop) more counts = more counts.0 new counts.2 counts.1
