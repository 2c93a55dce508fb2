-- The flags, and whether memory is paused (01, "Steps and time" and "Host registers"; 004, "Flags").
use Rattle.std.specs.Prelude.{ℕ, ◌+◌, ◌*◌, ◌/◌, ◌%◌, ◌≤◌, ◌<◌, ◌≡◌, Bool, cond, ◌&&◌, ltb, eqb}
use Rattle.families.specs.Family.{pauses_memory}
use Rattle.words.specs.Bits.{bit_of, set_bit, clear_bit}
use Rattle.machine_flags.specs.declared.flags.Change.{Change}
use Rattle.machine_flags.specs.declared.flags.Flags.{Flags}

-- unset clears a flag's enable and keeps its value
unfoldable pub enables_after : Change → ℕ → ℕ → ℕ
enables_after Change.Unset flag enables = clear_bit flag enables
enables_after Change.Set1 flag enables = set_bit flag enables
enables_after Change.Set0 flag enables = set_bit flag enables

unfoldable pub values_after : Change → ℕ → ℕ → ℕ
values_after Change.Unset flag values = values
values_after Change.Set1 flag values = set_bit flag values
values_after Change.Set0 flag values = clear_bit flag values

-- there is no flag above 31
abbrev pub changed_flags : Change → ℕ → Flags → Flags
changed_flags change flag flags =
    cond (ltb flag 32)
    (record { values = values_after change flag flags.values; enables = enables_after change flag flags.enables })
    flags

-- ---- what a change promises, bit by bit

-- the flag's own enable after a change: unset clears it, set1 and set0 set it
abbrev pub enable_after : Change → ℕ
enable_after Change.Unset = 0
enable_after Change.Set1 = 1
enable_after Change.Set0 = 1

-- its value bit, from what it was: unset keeps it, set1 sets and set0 clears it
abbrev pub value_after : Change → ℕ → ℕ
value_after Change.Unset value = value
value_after Change.Set1 value = 1
value_after Change.Set0 value = 0

-- bit n of either word is as it was
abbrev pub SameBits : ℕ → Flags → Flags → Type 0
SameBits n old new = (bit_of new.enables n ≡ bit_of old.enables n) × (bit_of new.values n ≡ bit_of old.values n)

pub record ChangesFlags (change : Change) (flag : ℕ) (old new : Flags) : Type 0 where
  pub answered : new ≡ changed_flags change flag old
  pub enable : flag < 32 → bit_of new.enables flag ≡ enable_after change
  pub value : flag < 32 → bit_of new.values flag ≡ value_after change (bit_of old.values flag)
  -- no other bit moves
  pub others : (n : ℕ) → (n ≡ flag → ⊥) → SameBits n old new
  -- there is no flag above 31
  pub above : 32 ≤ flag → new ≡ old

-- ---- what flags say

-- a flag is at override 1 where its enable and its value are 1
unfoldable pub overrides1 : ℕ → Flags → Bool
overrides1 n flags = eqb (bit_of flags.enables n) 1 && eqb (bit_of flags.values n) 1

-- the flag whose override pauses memory
abbrev pub fb_pause : ℕ
fb_pause = 16

-- memory is paused while it is at override 1, on families 2 to 4
abbrev pub paused_of : ℕ → Flags → Bool
paused_of family flags = pauses_memory family && overrides1 fb_pause flags

-- FLAGS_0 and FLAGS_1: values in bits 0 to 15, enables in bits 16 to 31, of flags 0 to 15 and 16 to 31
abbrev pub flags_word0 : Flags → ℕ
flags_word0 flags = flags.values % 65536 + 65536 * (flags.enables % 65536)

abbrev pub flags_word1 : Flags → ℕ
flags_word1 flags = flags.values / 65536 + 65536 * (flags.enables / 65536)

-- a word shows sixteen flags, those from `first` on: bit n the value of the nth of them, bit 16 + n its enable
pub record ShowsFlags (first : ℕ) (flags : Flags) (word : ℕ) : Type 0 where
  pub values : (n : ℕ) → n < 16 → bit_of word n ≡ bit_of flags.values (first + n)
  pub enables : (n : ℕ) → n < 16 → bit_of word (16 + n) ≡ bit_of flags.enables (first + n)

pub record TellsWord0 (flags : Flags) (word : ℕ) : Type 0 where
  pub answered : word ≡ flags_word0 flags
  pub shows : ShowsFlags 0 flags word

pub record TellsWord1 (flags : Flags) (word : ℕ) : Type 0 where
  pub answered : word ≡ flags_word1 flags
  pub shows : ShowsFlags 16 flags word

abbrev pub flags_from_words : ℕ → ℕ → Flags
flags_from_words word0 word1 = record {
  values = word0 % 65536 + 65536 * (word1 % 65536);
  enables = word0 / 65536 + 65536 * (word1 / 65536);
}

-- the flags that two words make are shown by them
pub record MadeOf (word0 word1 : ℕ) (flags : Flags) : Type 0 where
  pub answered : flags ≡ flags_from_words word0 word1
  pub shows0 : ShowsFlags 0 flags word0
  pub shows1 : ShowsFlags 16 flags word1
