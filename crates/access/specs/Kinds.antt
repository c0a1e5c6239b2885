-- Document 01, "Kinds": their numbers, and the rights to make and to remove an entry of each.
use Rattle.std.specs.Prelude.{cond, ℕ, eqb}
use Rattle.access.specs.Rights.{MAKE_CHAR, MAKE_DIR, MAKE_REG, MAKE_SOCK, MAKE_FIFO, MAKE_BLOCK, MAKE_SYM, REMOVE_DIR, REMOVE_FILE}
use Rattle.access.specs.declared.kinds.Kind.{Kind}
use Rattle.access.specs.declared.kinds.Kind.TheVariants.{Regular, Directory, Character, Block, Fifo, Socket, Symlink}
use Rattle.access.specs.declared.kinds.MaybeKind.{MaybeKind}
use Rattle.access.specs.declared.kinds.MaybeKind.TheVariants.{Known, None}

-- the number in an entry's first cell; a free row has 0
abbrev pub kind_number : Kind → ℕ
kind_number Regular = 1
kind_number Directory = 2
kind_number Character = 3
kind_number Block = 4
kind_number Fifo = 5
kind_number Socket = 6
kind_number Symlink = 7

-- the directory's number
abbrev pub directory : ℕ
directory = kind_number Directory

-- the largest number of a kind
abbrev pub last_kind : ℕ
last_kind = kind_number Symlink

-- the kind of a number; every other number is an unknown kind
abbrev pub pick : ℕ → Kind → MaybeKind → MaybeKind
pick n k other = cond (eqb n (kind_number k)) (Known k) other

unfoldable pub kind_of : ℕ → MaybeKind
kind_of n = pick n Regular (pick n Directory (pick n Character (pick n Block (pick n Fifo (pick n Socket (pick n Symlink None))))))

-- "MAKE of a kind is its own bit"
abbrev pub make_right : Kind → ℕ
make_right Regular = MAKE_REG
make_right Directory = MAKE_DIR
make_right Character = MAKE_CHAR
make_right Block = MAKE_BLOCK
make_right Fifo = MAKE_FIFO
make_right Socket = MAKE_SOCK
make_right Symlink = MAKE_SYM

-- "REMOVE is bit 4 for a directory, else 5"
abbrev pub remove_right : Kind → ℕ
remove_right Directory = REMOVE_DIR
remove_right Regular = REMOVE_FILE
remove_right Character = REMOVE_FILE
remove_right Block = REMOVE_FILE
remove_right Fifo = REMOVE_FILE
remove_right Socket = REMOVE_FILE
remove_right Symlink = REMOVE_FILE
