-- What a layer holds against a move, from what it denies at the two directories alone.
use Rattle.std.specs.Prelude.{cond, ℕ, eqb}
use Rattle.access.specs.Rights.{join, meet, without, REFER}
use Rattle.fs.specs.declared.verdict.Move.{Move}

-- the rights that containment compares: none within one directory
unfoldable pub compared : Move → ℕ
compared m = cond (eqb m.source m.target) 0 (join m.rights.0 m.back.0)

-- the rights that matter at P1 and at P2
abbrev pub at_source : Move → ℕ
at_source m = join m.leave.0 (compared m)

abbrev pub at_target : Move → ℕ
at_target m = join m.enter.0 (compared m)

-- d1 and d2: what the layer denies of these there; own and other: what its rules on the moved objects grant
unfoldable pub needs_against : Move → ℕ → ℕ → ℕ
needs_against m d1 d2 = join (meet d1 (without m.leave.0 REFER)) (meet d2 (without m.enter.0 REFER))

unfoldable pub refer_against : Move → ℕ → ℕ → ℕ
refer_against m d1 d2 = join (meet d1 (meet m.leave.0 REFER)) (meet d2 (meet m.enter.0 REFER))

unfoldable pub escaping_against : Move → ℕ → ℕ → ℕ → ℕ → ℕ
escaping_against m d1 d2 own other =
    join (without (without (meet d1 m.rights.0) d2) own) (without (without (meet d2 m.back.0) d1) other)

unfoldable pub crossed_against : Move → ℕ → ℕ → ℕ → ℕ → ℕ
crossed_against m d1 d2 own other =
    cond (eqb m.source m.target) 0 (cond (eqb (refer_against m d1 d2) 0) (escaping_against m d1 d2 own other) REFER)
