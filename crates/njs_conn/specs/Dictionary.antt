-- The calls of scripts on dictionaries. No node of today's scripts makes one, so there are no operations and no replies yet.
use Rattle.std.specs.Prelude.{ℕ, List}

pub data Operation : Type 0 where

pub data Reply : Type 0 where

-- a call that was answered
pub record Call : Type 0 where
  pub zone : ℕ
  pub operation : Operation
  pub reply : Reply

-- for each zone the replies that are still to come
abbrev pub Replies : Type 0
Replies = List (List Reply)
