-- A value read cell by cell. Assumes nothing.
use mathlib.Core.Path.{◌≡◌, refl}
use mathlib.Core.List.{List, [], ◌∷◌}
use Prim.Native.Nat.{ℕ, ◌+◌, ◌*◌, ◌≤◌, ◌<◌}
use native.Mathlib.Omega.{arith}
use lib.ListN.{length, get_or, drop}
use borrow.Author.Tests.{ne_eqb, lt-ltb, le-ltb}
use Rattle.tree_log.specs.Changes.{Change, Listed, Unlisted, create, remove, link, rename, exchange, max_value, read_create, read_remove, read_move, read_exchange, read_value, read_field}

-- the number at a place
abbrev pub num : List ℕ → ℕ → ℕ
num v i = get_or v i 0 + 256 * get_or v (i + 1) 0

pub create-is : (v : List ℕ) → 3 ≤ length v → Listed (create (get_or v 0 0) (num v 1) (drop 3 v)) ≡ read_create v
unfolding read_create
create-is [] h = absurd (omega arith)
create-is (a ∷ []) h = absurd (omega arith)
create-is (a ∷ b ∷ []) h = absurd (omega arith)
create-is (a ∷ b ∷ c ∷ v) h = refl

pub create-short : (v : List ℕ) → length v < 3 → Unlisted ≡ read_create v
unfolding read_create
create-short [] h = refl
create-short (a ∷ []) h = refl
create-short (a ∷ b ∷ []) h = refl
create-short (a ∷ b ∷ c ∷ v) h = absurd (omega arith)

pub remove-is : (v : List ℕ) → length v ≡ 2 → Listed (remove (num v 0)) ≡ read_remove v
unfolding read_remove
remove-is [] h = absurd (omega arith)
remove-is (a ∷ []) h = absurd (omega arith)
remove-is (a ∷ b ∷ []) h = refl
remove-is (a ∷ b ∷ c ∷ v) h = absurd (omega arith)

pub remove_not : (v : List ℕ) → (length v ≡ 2 → ⊥) → Unlisted ≡ read_remove v
unfolding read_remove
remove_not [] h = refl
remove_not (a ∷ []) h = refl
remove_not (a ∷ b ∷ []) h = absurd (h refl)
remove_not (a ∷ b ∷ c ∷ v) h = refl

pub move-is : (f : ℕ → ℕ → List ℕ → Change) (v : List ℕ) → 4 ≤ length v → Listed (f (num v 0) (num v 2) (drop 4 v)) ≡ read_move f v
unfolding read_move
move-is f [] h = absurd (omega arith)
move-is f (a ∷ []) h = absurd (omega arith)
move-is f (a ∷ b ∷ []) h = absurd (omega arith)
move-is f (a ∷ b ∷ c ∷ []) h = absurd (omega arith)
move-is f (a ∷ b ∷ c ∷ d ∷ v) h = refl

pub move-short : (f : ℕ → ℕ → List ℕ → Change) (v : List ℕ) → length v < 4 → Unlisted ≡ read_move f v
unfolding read_move
move-short f [] h = refl
move-short f (a ∷ []) h = refl
move-short f (a ∷ b ∷ []) h = refl
move-short f (a ∷ b ∷ c ∷ []) h = refl
move-short f (a ∷ b ∷ c ∷ d ∷ v) h = absurd (omega arith)

pub exchange-is : (v : List ℕ) → length v ≡ 6 → Listed (exchange (num v 0) (num v 2) (num v 4)) ≡ read_exchange v
unfolding read_exchange
exchange-is [] h = absurd (omega arith)
exchange-is (a ∷ []) h = absurd (omega arith)
exchange-is (a ∷ b ∷ []) h = absurd (omega arith)
exchange-is (a ∷ b ∷ c ∷ []) h = absurd (omega arith)
exchange-is (a ∷ b ∷ c ∷ d ∷ []) h = absurd (omega arith)
exchange-is (a ∷ b ∷ c ∷ d ∷ e ∷ []) h = absurd (omega arith)
exchange-is (a ∷ b ∷ c ∷ d ∷ e ∷ f ∷ []) h = refl
exchange-is (a ∷ b ∷ c ∷ d ∷ e ∷ f ∷ g ∷ v) h = absurd (omega arith)

pub exchange_not : (v : List ℕ) → (length v ≡ 6 → ⊥) → Unlisted ≡ read_exchange v
unfolding read_exchange
exchange_not [] h = refl
exchange_not (a ∷ []) h = refl
exchange_not (a ∷ b ∷ []) h = refl
exchange_not (a ∷ b ∷ c ∷ []) h = refl
exchange_not (a ∷ b ∷ c ∷ d ∷ []) h = refl
exchange_not (a ∷ b ∷ c ∷ d ∷ e ∷ []) h = refl
exchange_not (a ∷ b ∷ c ∷ d ∷ e ∷ f ∷ []) h = absurd (h refl)
exchange_not (a ∷ b ∷ c ∷ d ∷ e ∷ f ∷ g ∷ v) h = refl

-- with the numbers as the code read them
module _ (v : List ℕ) where
  pub create_by : {d : ℕ} → d ≡ num v 1 → 3 ≤ length v → Listed (create (get_or v 0 0) d (drop 3 v)) ≡ read_create v
  create_by p h = rw p (create-is v h)

  pub remove_by : {e : ℕ} → e ≡ num v 0 → length v ≡ 2 → Listed (remove e) ≡ read_remove v
  remove_by p h = rw p (remove-is v h)

  pub move_by : (f : ℕ → ℕ → List ℕ → Change) {s d : ℕ} → s ≡ num v 0 → d ≡ num v 2 → 4 ≤ length v → Listed (f s d (drop 4 v)) ≡ read_move f v
  move_by f p q h = rw (p, q) (move-is f v h)

  pub exchange_by : {s d x : ℕ} → s ≡ num v 0 → d ≡ num v 2 → x ≡ num v 4 → length v ≡ 6 → Listed (exchange s d x) ≡ read_exchange v
  exchange_by p q r h = rw (p, q, r) (exchange-is v h)

  -- by the tag
  module _ (t : ℕ) where
    pub tag_create : t ≡ 16 → read_create v ≡ read_value t v
    unfolding read_value
    tag_create e = rw e refl

    pub tag_remove : t ≡ 17 → read_remove v ≡ read_value t v
    unfolding read_value
    tag_remove e = rw e refl

    pub tag_link : t ≡ 18 → read_move link v ≡ read_value t v
    unfolding read_value
    tag_link e = rw e refl

    pub tag_rename : t ≡ 19 → read_move rename v ≡ read_value t v
    unfolding read_value
    tag_rename e = rw e refl

    pub tag_exchange : t ≡ 20 → read_exchange v ≡ read_value t v
    unfolding read_value
    tag_exchange e = rw e refl

    pub tag_none : (t ≡ 16 → ⊥) → (t ≡ 17 → ⊥) → (t ≡ 18 → ⊥) → (t ≡ 19 → ⊥) → (t ≡ 20 → ⊥) → Unlisted ≡ read_value t v
    unfolding read_value
    tag_none a b c d e = rw (ne_eqb t 16 a, ne_eqb t 17 b, ne_eqb t 18 c, ne_eqb t 19 d, ne_eqb t 20 e) refl

    pub long_value : max_value < length v → Unlisted ≡ read_field t v
    unfolding read_field
    long_value h = rw (lt-ltb max_value (length v) h) refl

    pub short_value : length v ≤ max_value → read_value t v ≡ read_field t v
    unfolding read_field
    short_value h = rw (le-ltb max_value (length v) h) refl
