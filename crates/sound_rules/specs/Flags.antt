-- A flag for each fold of a rule's key.
use Rattle.std.specs.Prelude.{◌≡◌, Bool, true, ◌&&◌, List, ℕ, ◌%◌, ◌<◌, eqb}
use Rattle.tables.specs.Tables.{rule_type, rule_key}
use Rattle.bitmap.specs.Bitmap.{flag}

-- the flag of a key; the laws hold for any fold
unfoldable pub flag_of : ℕ → ℕ
flag_of key = key % 1024

-- rule j has the type and the key
abbrev pub key_is : List ℕ → ℕ → ℕ → ℕ → Bool
key_is rules j ty key = eqb key (rule_key rules j) && eqb ty (rule_type rules j)

-- every rule below i has its flag set
abbrev pub Marked : List ℕ → List ℕ → ℕ → Type 0
Marked rules seen i = (j : ℕ) → j < i → flag seen (flag_of (rule_key rules j)) ≡ true
