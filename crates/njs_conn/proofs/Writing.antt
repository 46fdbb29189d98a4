-- What of some bytes has reached a sink.
use Rattle.std.proofs.Common.{◌≡◌, ◌++◌, ℕ, List, take, drop, Option, ap, ◌∙◌, append_assoc}
use Rattle.std.proofs.lemmas.List.{take-append-drop}
use Rattle.std.specs.Io.KnownBytes.{Appends}
use Rattle.njs_conn.specs.Writer.{Wrote}
use Rattle.njs_edge.specs.Known.{appends_more}

-- one more piece was put
pub wrote_more : (a b c : Option (List ℕ)) (rest behind bytes : List ℕ) (n : ℕ) → Wrote a b rest bytes → Appends b c (take n rest) → behind ≡ drop n rest → Wrote a c behind bytes
wrote_more a b c rest behind bytes n w put is = record {
  grew = w.grew ++ take n rest;
  wrote = appends_more a b c w.grew (take n rest) w.wrote put;
  joined = ap (λ xs. (w.grew ++ take n rest) ++ xs) is ∙ append_assoc w.grew (take n rest) (drop n rest) ∙ ap (λ xs. w.grew ++ xs) (take-append-drop n rest) ∙ w.joined;
}
