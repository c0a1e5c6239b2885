-- Document 01, "Rights". A right set is a number, its mask: right i is in it where binary digit i is 1.
use Rattle.std.specs.Prelude.{Bool, cond, ℕ, ◌-◌, ◌/◌, ◌%◌, ◌^◌, eqb, leb}
use Rattle.std.specs.Int.Bits.{bit_and, bit_or, bit_xor}

-- right i is in the set m
unfoldable pub has : ℕ → ℕ → Bool
has m i = eqb (m / 2 ^ i % 2) 1

abbrev pub join : ℕ → ℕ → ℕ
join a b = bit_or a b

abbrev pub meet : ℕ → ℕ → ℕ
meet a b = bit_and a b

-- the rights of a that are not in b
abbrev pub without : ℕ → ℕ → ℕ
without a b = bit_xor a (bit_and a b)

-- every right of a is in b
abbrev pub within : ℕ → ℕ → Bool
within a b = eqb (bit_and b a) a

-- the set of right i alone
abbrev pub only : ℕ → ℕ
only i = 2 ^ i

-- "File system bits"
abbrev pub EXECUTE : ℕ
EXECUTE = only 0

abbrev pub WRITE_FILE : ℕ
WRITE_FILE = only 1

abbrev pub READ_FILE : ℕ
READ_FILE = only 2

abbrev pub READ_DIR : ℕ
READ_DIR = only 3

abbrev pub REMOVE_DIR : ℕ
REMOVE_DIR = only 4

abbrev pub REMOVE_FILE : ℕ
REMOVE_FILE = only 5

abbrev pub MAKE_CHAR : ℕ
MAKE_CHAR = only 6

abbrev pub MAKE_DIR : ℕ
MAKE_DIR = only 7

abbrev pub MAKE_REG : ℕ
MAKE_REG = only 8

abbrev pub MAKE_SOCK : ℕ
MAKE_SOCK = only 9

abbrev pub MAKE_FIFO : ℕ
MAKE_FIFO = only 10

abbrev pub MAKE_BLOCK : ℕ
MAKE_BLOCK = only 11

abbrev pub MAKE_SYM : ℕ
MAKE_SYM = only 12

abbrev pub REFER : ℕ
REFER = only 13

abbrev pub TRUNCATE : ℕ
TRUNCATE = only 14

abbrev pub IOCTL_DEV : ℕ
IOCTL_DEV = only 15

-- "Network"
abbrev pub BIND_TCP : ℕ
BIND_TCP = only 0

abbrev pub CONNECT_TCP : ℕ
CONNECT_TCP = only 1

-- "Scope": connecting to abstract UNIX sockets, sending signals
abbrev pub ABSTRACT_UNIX_SOCKET : ℕ
ABSTRACT_UNIX_SOCKET = only 0

abbrev pub SIGNAL : ℕ
SIGNAL = only 1

-- how many rights there are of each sort
abbrev pub fs_rights : ℕ
fs_rights = 16

abbrev pub net_rights : ℕ
net_rights = 2

abbrev pub scopes : ℕ
scopes = 2

-- every right of each sort
abbrev pub all_fs : ℕ
all_fs = 2 ^ fs_rights - 1

abbrev pub all_net : ℕ
all_net = 2 ^ net_rights - 1

-- "File set": bits 0, 1, 2, 14, 15
abbrev pub file_set : ℕ
file_set = join EXECUTE (join WRITE_FILE (join READ_FILE (join TRUNCATE IOCTL_DEV)))

-- the rights to make, remove or link an entry: "REMOVE, MAKE or REFER"
abbrev pub tree_set : ℕ
tree_set = join REMOVE_DIR (join REMOVE_FILE (join MAKE_CHAR (join MAKE_DIR (join MAKE_REG (join MAKE_SOCK (join MAKE_FIFO (join MAKE_BLOCK (join MAKE_SYM REFER))))))))

-- the write set of document 02, W6: "any of WRITE_FILE, TRUNCATE, REMOVE, MAKE or REFER"
abbrev pub write_set : ℕ
write_set = join WRITE_FILE (join TRUNCATE tree_set)

-- what a level adds from level n on
abbrev pub since : ℕ → ℕ → ℕ → ℕ
since n level m = cond (leb n level) m 0

-- "Level 1 knows bits 0 to 12; 2 adds REFER; 3 TRUNCATE; 4 the network; 5 IOCTL_DEV; 6 scopes"
unfoldable pub known_fs : ℕ → ℕ
known_fs level = join (since 1 level 8191) (join (since 2 level REFER) (join (since 3 level TRUNCATE) (since 5 level IOCTL_DEV)))

unfoldable pub known_net : ℕ → ℕ
known_net level = since 4 level (join BIND_TCP CONNECT_TCP)

unfoldable pub known_scope : ℕ → ℕ
known_scope level = since 6 level (join ABSTRACT_UNIX_SOCKET SIGNAL)

-- right i alone, if there are n rights and i is one
unfoldable pub right_at : ℕ → ℕ → ℕ
right_at n i = cond (leb n i) 0 (only i)
