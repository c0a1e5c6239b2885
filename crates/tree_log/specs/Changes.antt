-- Document 02, W11: "tag 16 create, 17 remove, 18 link, 19 rename, 20 exchange", and the values, "of at most 64 bytes each". The number of an entry is two
-- bytes, little-endian; a kind is one byte; a name goes to the value's end.
use Rattle.std.specs.Prelude.{cond, List, [], ◌∷◌, ℕ, ◌+◌, ◌*◌, ◌/◌, ◌%◌, eqb, ltb, length}
use Rattle.policy_write.specs.Written.{field_bytes}
use Rattle.named.specs.Calls.{NamedCall}

-- a call that changes the tree, without its thread
pub data Change : Type 0 where
  -- kind, directory, name
  create : ℕ → ℕ → List ℕ → Change
  -- entry
  remove : ℕ → Change
  -- source, directory, name
  link : ℕ → ℕ → List ℕ → Change
  -- source, directory, name
  rename : ℕ → ℕ → List ℕ → Change
  -- source, directory, other entry
  exchange : ℕ → ℕ → ℕ → Change

-- the call, made by a thread
unfoldable pub call_of : ℕ → Change → NamedCall
call_of t (create k d n) = NamedCall.create t d k n
call_of t (remove e) = NamedCall.remove t e
call_of t (link s d n) = NamedCall.link t s d n
call_of t (rename s d n) = NamedCall.rename t s d n
call_of t (exchange s d x) = NamedCall.exchange t s d x

-- ---- writing
abbrev pub create_tag : ℕ
create_tag = 16

abbrev pub remove_tag : ℕ
remove_tag = 17

abbrev pub link_tag : ℕ
link_tag = 18

abbrev pub rename_tag : ℕ
rename_tag = 19

abbrev pub exchange_tag : ℕ
exchange_tag = 20

unfoldable pub tag_of : Change → ℕ
tag_of (create k d n) = create_tag
tag_of (remove e) = remove_tag
tag_of (link s d n) = link_tag
tag_of (rename s d n) = rename_tag
tag_of (exchange s d x) = exchange_tag

unfoldable pub value_of : Change → List ℕ
value_of (create k d n) = k ∷ d % 256 ∷ d / 256 ∷ n
value_of (remove e) = e % 256 ∷ e / 256 ∷ []
value_of (link s d n) = s % 256 ∷ s / 256 ∷ d % 256 ∷ d / 256 ∷ n
value_of (rename s d n) = s % 256 ∷ s / 256 ∷ d % 256 ∷ d / 256 ∷ n
value_of (exchange s d x) = s % 256 ∷ s / 256 ∷ d % 256 ∷ d / 256 ∷ x % 256 ∷ x / 256 ∷ []

-- "one tagged field of W4's form"
unfoldable pub field_of : Change → List ℕ
field_of c = field_bytes (tag_of c) (value_of c)

-- ---- reading
-- "at most 64 bytes each"
abbrev pub max_value : ℕ
max_value = 64

-- a field that is listed, or "of unknown tag, with a value not listed in docs/"
pub data Read : Type 0 where
  Listed : Change → Read
  Unlisted : Read

unfoldable pub read_create : List ℕ → Read
read_create [] = Unlisted
read_create (k ∷ []) = Unlisted
read_create (k ∷ a ∷ []) = Unlisted
read_create (k ∷ a ∷ b ∷ n) = Listed (create k (a + 256 * b) n)

unfoldable pub read_remove : List ℕ → Read
read_remove [] = Unlisted
read_remove (a ∷ []) = Unlisted
read_remove (a ∷ b ∷ []) = Listed (remove (a + 256 * b))
read_remove (a ∷ b ∷ c ∷ v) = Unlisted

-- two entries, then a name
unfoldable pub read_move : (ℕ → ℕ → List ℕ → Change) → List ℕ → Read
read_move f [] = Unlisted
read_move f (a ∷ []) = Unlisted
read_move f (a ∷ b ∷ []) = Unlisted
read_move f (a ∷ b ∷ c ∷ []) = Unlisted
read_move f (a ∷ b ∷ c ∷ d ∷ n) = Listed (f (a + 256 * b) (c + 256 * d) n)

unfoldable pub read_exchange : List ℕ → Read
read_exchange [] = Unlisted
read_exchange (a ∷ []) = Unlisted
read_exchange (a ∷ b ∷ []) = Unlisted
read_exchange (a ∷ b ∷ c ∷ []) = Unlisted
read_exchange (a ∷ b ∷ c ∷ d ∷ []) = Unlisted
read_exchange (a ∷ b ∷ c ∷ d ∷ e ∷ []) = Unlisted
read_exchange (a ∷ b ∷ c ∷ d ∷ e ∷ f ∷ []) = Listed (exchange (a + 256 * b) (c + 256 * d) (e + 256 * f))
read_exchange (a ∷ b ∷ c ∷ d ∷ e ∷ f ∷ g ∷ v) = Unlisted

unfoldable pub read_value : ℕ → List ℕ → Read
read_value t v =
    cond (eqb t create_tag) (read_create v)
    (cond (eqb t remove_tag) (read_remove v)
    (cond (eqb t link_tag) (read_move link v)
    (cond (eqb t rename_tag) (read_move rename v)
    (cond (eqb t exchange_tag) (read_exchange v) Unlisted))))

unfoldable pub read_field : ℕ → List ℕ → Read
read_field t v = cond (ltb max_value (length v)) Unlisted (read_value t v)
