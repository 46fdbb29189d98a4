-- What stands while code runs, by content.
use Rattle.std.specs.Prelude.{ℕ, List, map, reverse}
use Rattle.njs_value.specs.declared.ScopeId.{ScopeId}
use Rattle.njs_clone.specs.Content.{content}
use Rattle.njs_meaning.specs.PlainHeap.{PlainHeap}
use Rattle.njs_meaning.specs.State.{State}
use Rattle.njs_meaning.specs.Completions.{Normal, Returned, Broken, Continued}
use Rattle.njs_simul.specs.Stacks as plain
use Rattle.njs_simul.specs.Stacks.{Ended, Thrown}
use Rattle.njs_interp.specs.declared.stacks.Ending.{Ending}
use Rattle.njs_interp.specs.declared.stacks.Ending.TheVariants as ending
use Rattle.njs_interp.specs.declared.stacks.Listing.{Listing}
use Rattle.njs_interp.specs.declared.stacks.Stacks.{Stacks}

-- the objects and the scopes of a state
abbrev pub heap_of : State → PlainHeap
heap_of s = record { objects = s.objects; scopes = s.scopes }

abbrev pub plain_ending : List (List ℕ) → Ending → plain.Ending
plain_ending texts ending.Normal = Ended Normal
plain_ending texts (ending.Returned v) = Ended (Returned (content texts v))
plain_ending texts (ending.Broken label) = Ended (Broken label.now)
plain_ending texts (ending.Continued label) = Ended (Continued label.now)
plain_ending texts (ending.Thrown v) = Thrown (content texts v)

abbrev pub plain_listing : List (List ℕ) → Listing → plain.Listing
plain_listing texts l = record { value = content texts l.value; names = reverse l.names.items }

abbrev pub number_of : ScopeId → ℕ
number_of scope = scope.0

abbrev pub plain_stacks : List (List ℕ) → Stacks → plain.Stacks
plain_stacks texts st = record {
  operands = map (content texts) st.operands;
  scopes = map number_of st.scopes;
  lists = map (plain_listing texts) (reverse st.lists.items);
  endings = map (plain_ending texts) st.endings;
}
