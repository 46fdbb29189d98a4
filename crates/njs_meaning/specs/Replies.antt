-- The replies that dictionaries give in a run, known from its start.
use Rattle.std.specs.Prelude.{◌≡◌, ℕ, ◌++◌, List, [], ◌∷◌, if◌then◌else◌, ◌==◌, Some, slice_get}
use Rattle.dict_model.specs.declared.operation.DictReply.{DictReply}
use Rattle.njs_meaning.specs.Places.{Around}
use Rattle.njs_meaning.specs.State.{Zone, Asked, State, Outcome, Gives, Throws, Spent, Asks}

-- all replies of a run, those of each dictionary in their order
abbrev pub Replies : Type 0
Replies = List (List DictReply)

-- what is known of a run from its start: the replies of the dictionaries, and the names of the scopes around each function of
-- each module
pub record Known : Type 0 where
  pub replies : Replies
  pub around : ℕ → ℕ → Around

-- the replies of one dictionary among the calls that were answered
abbrev pub replies_of : ℕ → List Asked → List DictReply
replies_of zone [] = []
replies_of zone (a ∷ rest) = if a.zone == zone then a.reply ∷ replies_of zone rest else replies_of zone rest

-- the replies that were given and those that are still to come are these
pub record HasReplies (replies : Replies) (s : State) : Type 0 where
  pub each : (zone : ℕ) (z : Zone) → slice_get s.zones zone ≡ Some z → slice_get replies zone ≡ Some (replies_of zone s.asked ++ z.replies)

-- no reply is still to come
pub record IsExhausted (s : State) : Type 0 where
  pub each : (zone : ℕ) (z : Zone) → slice_get s.zones zone ≡ Some z → z.replies ≡ []

-- the state in which something ended
abbrev pub state_of : {A : Type 0} → Outcome A → State
state_of (Gives a s) = s
state_of (Throws v s) = s
state_of (Spent s) = s
state_of (Asks zone op s) = s
