-- An index of the live entries by their objects: a bucket for each fold of an object number, and in each bucket a search tree, in which one
-- entry stands for all entries of its object. A cell holds an entry's number + 1, or 0 if it is empty.
use Rattle.std.specs.Prelude.{◌≡◌, true, List, ℕ, ◌+◌, ◌-◌, ◌*◌, ◌/◌, ◌%◌, ◌≤◌, ◌<◌, length, get_or, Result, MatchResult}
use Rattle.access.specs.Limits.{max_entries}
use Rattle.tables.specs.Tables.{kind, object, live}

abbrev pub buckets : ℕ
buckets = 1024

-- the children of a node
abbrev pub branches : ℕ
branches = 4

-- the bucket of an object; the laws hold for any fold
unfoldable pub bucket_of : ℕ → ℕ
bucket_of o = o % buckets

-- what a search for it goes by: its higher digits
unfoldable pub key_of : ℕ → ℕ
key_of o = o / buckets

-- the cell of the child of node f to which a search with key k goes, and the key it goes on with; the laws hold for any key
unfoldable pub child_of : ℕ → ℕ → ℕ
child_of f k = branches * f + k % branches

unfoldable pub key_below : ℕ → ℕ
key_below k = k / branches

-- the search for object o with key k from node `at` comes to node `to`, the first of the object
pub data Found (es links : List ℕ) (o : ℕ) : ℕ → ℕ → ℕ → Type 0 where
  here : {at k : ℕ} → (at ≡ 0 → ⊥) → object es (at - 1) ≡ o → Found es links o at k at
  next : {at k c to : ℕ} → (at ≡ 0 → ⊥) → (object es (at - 1) ≡ o → ⊥) → get_or links (child_of (at - 1) k) 0 ≡ c → Found es links o c (key_below k) to → Found es links o at k to

-- it comes to the empty cell p, and to no node of the object
pub data Missed (es links : List ℕ) (o : ℕ) : ℕ → ℕ → ℕ → Type 0 where
  ends : {at k p : ℕ} → (at ≡ 0 → ⊥) → (object es (at - 1) ≡ o → ⊥) → p ≡ child_of (at - 1) k → get_or links p 0 ≡ 0 → Missed es links o at k p
  goes : {at k c p : ℕ} → (at ≡ 0 → ⊥) → (object es (at - 1) ≡ o → ⊥) → get_or links (child_of (at - 1) k) 0 ≡ c → Missed es links o c (key_below k) p → Missed es links o at k p

-- what a search from the root answers: the entry that is the object's node, or the empty cell where it would be
abbrev pub Searched : List ℕ → List ℕ → ℕ → ℕ → Result ℕ ℕ → Type 0
Searched es links o root r =
    MatchResult r (λ e. (e < max_entries) × Found es links o root (key_of o) (e + 1)) (λ p. (p < branches * max_entries) × Missed es links o root (key_of o) p)

-- a cell that is not empty holds a live entry below n
abbrev pub Nodes : List ℕ → List ℕ → ℕ → Type 0
Nodes es cells n = (p : ℕ) → (get_or cells p 0 ≡ 0 → ⊥) → (get_or cells p 0 ≤ n) × (live es (get_or cells p 0 - 1) ≡ true)

-- the trees over the entries below n; a child comes after its parent, so that a search ends
pub record Trees (es links : List ℕ) (n : ℕ) : Type 0 where
  pub size : length links ≡ branches * max_entries
  pub nodes : Nodes es links n
  pub rises : (p : ℕ) → (get_or links p 0 ≡ 0 → ⊥) → p < branches * (get_or links p 0 - 1)

-- the node that stands for the entries of object o, which are of kind k
pub record Stands (es heads links : List ℕ) (o k : ℕ) : Type 0 where
  pub node : ℕ
  pub found : Found es links o (get_or heads (bucket_of o) 0) (key_of o) node
  pub alike : kind es (node - 1) ≡ k

-- the index of the entries below n
pub record IndexedBelow (es heads links : List ℕ) (n : ℕ) : Type 0 where
  pub size : length heads ≡ buckets
  pub roots : Nodes es heads n
  pub trees : Trees es links n
  pub held : (e o : ℕ) → e < n → live es e ≡ true → object es e ≡ o → Stands es heads links o (kind es e)

abbrev pub Indexed : List ℕ → List ℕ → List ℕ → Type 0
Indexed es heads links = IndexedBelow es heads links max_entries
