-- What several calls do together, of what is known of each: for the functions that read, write, ask or look at
-- the clock more than once, and for those that cite what their callees say. 'none' is no call, or one that
-- changed nothing; 'more' is one call behind another.
use Rattle.std.specs.Prelude.{◌⊎◌, ◌+◌, ◌≤◌, ◌^◌, ◌-◌, ℕ, List, [], ◌++◌, length, Option, Some, None}
use Rattle.std.proofs.Common.{sym, ap, ◌∙◌, subst, append_assoc, inl, inr}
use Rattle.std.proofs.lemmas.List.{append-nil, length-append}
use Rattle.std.proofs.Math.Nat.{le_refl, le_trans, le-min, min-le_left, min-le_right, add-le-add, le-add_right, add_assoc}
use Rattle.std.specs.Io.KnownBytes.{Consumes, Appends, Keeps}
use Rattle.njs_edge.specs.Causes.{Rose, Counts}
use Rattle.njs_edge.specs.Clock.{Reads}
use Rattle.njs_edge.specs.Files.{Grew}
pub use Rattle.std.proofs.KnownBytes.{Consumes-nil as consumes_same, Consumes-trans as consumes_more, Consumes-kept as consumes_keeps}
pub use Rattle.std.proofs.KnownBytes.{Appends-nil as appends_same, Appends-trans as appends_more, Appends-kept as appends_keeps}
pub use Rattle.std.proofs.KnownBytes.{Keeps-refl as keeps_same, Keeps-trans as keeps_more}

-- ---- bytes that were taken

pub consumes_none : (old new : Option (List ℕ)) → Keeps old new → Consumes old new []
consumes_none None new kept = tt
consumes_none (Some xs) None kept = kept
consumes_none (Some xs) (Some ys) kept = sym kept

pub consumes_behind : (a b c : Option (List ℕ)) (xs : List ℕ) → Keeps a b → Consumes b c xs → Consumes a c xs
consumes_behind None b c xs kept taken = tt
consumes_behind (Some us) None c xs kept taken = absurd kept
consumes_behind (Some us) (Some vs) None xs kept taken = absurd taken
consumes_behind (Some us) (Some vs) (Some ws) xs kept taken = sym kept ∙ taken

-- ---- bytes that were put

pub appends_none : (old new : Option (List ℕ)) → Keeps old new → Appends old new []
appends_none None new kept = tt
appends_none (Some xs) None kept = kept
appends_none (Some xs) (Some ys) kept = kept ∙ sym (append-nil xs)

pub appends_behind : (a b c : Option (List ℕ)) (xs : List ℕ) → Keeps a b → Appends b c xs → Appends a c xs
appends_behind None b c xs kept grew = tt
appends_behind (Some us) None c xs kept grew = absurd kept
appends_behind (Some us) (Some vs) None xs kept grew = absurd grew
appends_behind (Some us) (Some vs) (Some ws) xs kept grew = grew ∙ ap (λ ys. ys ++ xs) kept

-- ---- names that were asked

pub grew_same : {X : Type 0} (names : Option (List X)) → Grew names names []
grew_same None = tt
grew_same (Some xs) = sym (append-nil xs)

pub grew_more : {X : Type 0} (a b c : Option (List X)) (xs ys : List X) → Grew a b xs → Grew b c ys → Grew a c (xs ++ ys)
grew_more None b c xs ys first second = tt
grew_more (Some us) None c xs ys first second = absurd first
grew_more (Some us) (Some vs) None xs ys first second = absurd second
grew_more (Some us) (Some vs) (Some ws) xs ys first second = second ∙ ap (λ zs. zs ++ ys) first ∙ append_assoc us xs ys

-- ---- readings of a clock

pub reads_same : (readings : Option (List ℕ)) → Reads readings readings []
reads_same None = tt
reads_same (Some xs) = sym (append-nil xs)

pub reads_more : (a b c : Option (List ℕ)) (xs ys : List ℕ) → Reads a b xs → Reads b c ys → Reads a c (xs ++ ys)
reads_more None None None xs ys first second = tt
reads_more None None (Some ws) xs ys first second = second
reads_more None (Some vs) c xs ys first second = absurd first
reads_more (Some us) None None xs ys first second =
    le_trans first (add-le-add (le_refl (length us)) (subst (λ n. length xs ≤ n) (sym (length-append xs ys)) (le-add_right (length xs) (length ys))))
reads_more (Some us) None (Some ws) xs ys first second = absurd second
reads_more (Some us) (Some vs) None xs ys first second =
    subst (λ n. 2 ^ 64 - 1 ≤ n)
    (ap (λ zs. length zs + length ys) first ∙ ap (λ n. n + length ys) (length-append us xs) ∙ add_assoc (length us) (length xs) (length ys)
    ∙ ap (λ n. length us + n) (sym (length-append xs ys)))
    second
reads_more (Some us) (Some vs) (Some ws) xs ys first second = second ∙ ap (λ zs. zs ++ ys) first ∙ append_assoc us xs ys

-- ---- counts

-- a count that rose later, from a larger value
pub rose_behind : (a b c : ℕ) → a ≤ b → Rose b c → Rose a c
rose_behind a b c later rose =
    le_trans (le-min (le_trans (min-le_left (a + 1) (2 ^ 64 - 1)) (add-le-add later (le_refl 1))) (min-le_right (a + 1) (2 ^ 64 - 1))) rose

-- a count that rose, and then went on
pub rose_before : (a b c : ℕ) → Rose a b → b ≤ c → Rose a c
rose_before a b c rose later = le_trans rose later

-- no call, or none that can have failed
pub counts_same : (count : ℕ) (P : Type 0) → (P → ⊥) → Counts count count P
counts_same count P never = record { later = le_refl count; rose = λ failed. absurd (never failed) }

pub counts_more : (a b c : ℕ) (P Q : Type 0) → Counts a b P → Counts b c Q → Counts a c (P ⊎ Q)
counts_more a b c P Q first second = record {
  later = le_trans first.later second.later;
  rose = λ failed. elim failed [
    | inl p ↦ rose_before a b c (first.rose p) second.later
    | inr q ↦ rose_behind a b c first.later (second.rose q)
  ];
}

-- what has failed only where a call did
pub counts_where : (a b : ℕ) (P Q : Type 0) → (Q → P) → Counts a b P → Counts a b Q
counts_where a b P Q only counts = record { later = counts.later; rose = λ failed. counts.rose (only failed) }
