-- Request W12: "Ruleset A of 01 named "p" gives 64 bytes".
use Rattle.std.specs.Prelude.{List, [], ◌∷◌, ◌++◌, ℕ, replicate}

abbrev pub name_of_a : List ℕ
name_of_a = 112 ∷ []

-- "/cal" and "/import"
abbrev pub cal : List ℕ
cal = 47 ∷ 99 ∷ 97 ∷ 108 ∷ []

abbrev pub imported : List ℕ
imported = 47 ∷ 105 ∷ 109 ∷ 112 ∷ 111 ∷ 114 ∷ 116 ∷ []

-- "in hex: 01 01 00 70, 02 18 00 26 21 and 22 zeros, 03 0C 00 04 and 7 zeros and "/cal", 03 0F 00 26 21 and 6 zeros and "/import""
abbrev pub bytes_of_a : List ℕ
bytes_of_a =
    (0x01 ∷ 0x01 ∷ 0x00 ∷ 0x70 ∷ [])
    ++ ((0x02 ∷ 0x18 ∷ 0x00 ∷ 0x26 ∷ 0x21 ∷ replicate 22 0)
    ++ ((0x03 ∷ 0x0c ∷ 0x00 ∷ 0x04 ∷ replicate 7 0)
    ++ (cal
    ++ ((0x03 ∷ 0x0f ∷ 0x00 ∷ 0x26 ∷ 0x21 ∷ replicate 6 0)
    ++ imported))))
