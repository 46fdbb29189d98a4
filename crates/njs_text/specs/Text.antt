-- When bytes give a text, and what is refused.
use Rattle.std.specs.Prelude.{ℕ, List, length, ◌≡◌, ◌≤◌, ◌<◌, true, Result, Ok, Err, ◌++◌}
use Rattle.std.specs.Str.{all_scalars, encode_utf8_all, IsUtf8}
use Rattle.std.specs.Str.Lossy.{utf8_valid_len, utf8_lossy}
use Rattle.njs_text.specs.declared.text.TextFault.{TextFault}
use Rattle.njs_text.specs.declared.text.TextFault.TheVariants.{NotUtf8, TooLong, NoMemory}

-- these bytes are the UTF-8 of this text
pub record IsEncoded (text bytes : List ℕ) : Type 0 where
  pub scalars : all_scalars text ≡ true
  pub spelled : encode_utf8_all text ≡ bytes

-- what may be answered for these bytes
abbrev pub TextFrom : List ℕ → Result (List ℕ) TextFault → Type 0
TextFrom bytes (Ok text) = IsEncoded text bytes × (length text ≤ 1048576)
TextFrom bytes (Err (NotUtf8 place)) = (IsUtf8 bytes → ⊥) × (place ≡ utf8_valid_len bytes)
TextFrom bytes (Err TooLong) = (text : List ℕ) × IsEncoded text bytes × (1048576 < length text)
TextFrom bytes (Err NoMemory) = Unit {0}

-- what may be answered for these bytes, where U+FFFD stands for what isn't UTF-8, as the standard library puts it
abbrev pub LossyFrom : List ℕ → Result (List ℕ) TextFault → Type 0
LossyFrom bytes (Ok text) = IsEncoded text (utf8_lossy bytes) × (length text ≤ 1048576)
LossyFrom bytes (Err (NotUtf8 place)) = ⊥
LossyFrom bytes (Err TooLong) = (text : List ℕ) × IsEncoded text (utf8_lossy bytes) × (1048576 < length text)
LossyFrom bytes (Err NoMemory) = Unit {0}

-- what may be answered for two texts, one after the other
abbrev pub Joined : List ℕ → List ℕ → Result (List ℕ) TextFault → Type 0
Joined a b (Ok text) = (text ≡ a ++ b) × (length text ≤ 1048576)
Joined a b (Err (NotUtf8 place)) = ⊥
Joined a b (Err TooLong) = 1048576 < length (a ++ b)
Joined a b (Err NoMemory) = Unit {0}

-- what may be answered for these values
abbrev pub MadeOf : List ℕ → Result (List ℕ) TextFault → Type 0
MadeOf list (Ok text) = text ≡ list
MadeOf list (Err (NotUtf8 place)) = ⊥
MadeOf list (Err TooLong) = 1048576 < length list
MadeOf list (Err NoMemory) = Unit {0}
