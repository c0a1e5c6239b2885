-- Requests W4 and W7: which fields are rules and groups, and where the first faulty one is. A place is counted from the file's start.
use Rattle.std.specs.Prelude.{Bool, true, false, cond, ◌&&◌, ◌||◌, List, [], ◌∷◌, ℕ, zero, suc, ◌+◌, eqb, leb, length, get_or, drop}
use Rattle.access.specs.Limits.{max_level}
use Rattle.policy.specs.Fields.{path_tag, port_tag, group_tag, group_header, Piece, field, stray, size, pieces}
use Rattle.policy.specs.declared.Read.{Read}
use Rattle.policy.specs.declared.Read.TheVariants.{Next, Fault}

-- "Groups nest at most 8 deep"
abbrev pub max_depth : ℕ
max_depth = 8

-- "8-byte rights"
abbrev pub rights_size : ℕ
rights_size = 8

-- "8-byte rights, 2-byte port"
abbrev pub port_size : ℕ
port_size = 10

-- "the place of the first faulty field's tag": what follows counts only if nothing before it was faulty
unfoldable pub and_then : Read → Read → Read
and_then (Next n) r = r
and_then (Fault p) r = Fault p

-- each field in turn, the first at place `at`
unfoldable pub each : (ℕ → Piece → Read) → ℕ → List Piece → Read
each g at [] = Next at
each g at (p ∷ ps) = let r = each g (at + size p) ps in and_then (g at p) r

-- the place after a field that passed its test; else its own, as a faulty one
unfoldable pub tested : Bool → ℕ → Piece → Read
tested true at p = Next (at + size p)
tested false at p = Fault at

-- "tag 3 a path rule (8-byte rights, then the path), tag 4 a port rule (8-byte rights, 2-byte port, both little-endian)"; the path may be empty
unfoldable pub is_rule : ℕ → ℕ → Bool
is_rule t n = (eqb t path_tag && leb rights_size n) || (eqb t port_tag && eqb n port_size)

-- "a one-byte lowest level (1 to 6)"; an empty value has none
unfoldable pub is_level : List ℕ → Bool
is_level v = leb 1 (get_or v 0 0) && leb (get_or v 0 0) max_level

-- a rule, and nothing else
unfoldable pub plain : ℕ → Piece → Read
plain at (stray s) = Fault at
plain at (field t v) = tested (is_rule t (length v)) at (field t v)

-- "Tag 5 is a group: a one-byte lowest level (1 to 6), then fields, perhaps none. A group may hold rules and more groups"; `inner` reads its fields,
-- which end where it ends. "A group that doesn't count is checked just the same": no level is asked for.
unfoldable pub group_or : (ℕ → Piece → Read) → ℕ → Piece → Read
group_or inner at (stray s) = Fault at
group_or inner at (field t v) =
    let fields = each inner (at + group_header) (pieces (drop 1 v)) in
    cond (eqb t group_tag) (cond (is_level v) fields (Fault at)) (plain at (field t v))

-- a rule, or a group where d more may stand inside one another: "a ninth is EBADMSG at its place"
unfoldable pub rule : ℕ → ℕ → Piece → Read
rule zero at p = plain at p
rule (suc d) at p = group_or (rule d) at p
