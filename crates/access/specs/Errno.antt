-- Document 01: the numbers of the refusals, those of the public Linux headers.
use Rattle.std.specs.Prelude.{ℕ}

abbrev pub EPERM : ℕ
EPERM = 1

abbrev pub ENOENT : ℕ
ENOENT = 2

abbrev pub ESRCH : ℕ
ESRCH = 3

abbrev pub EIO : ℕ
EIO = 5

abbrev pub E2BIG : ℕ
E2BIG = 7

abbrev pub EBADF : ℕ
EBADF = 9

abbrev pub EAGAIN : ℕ
EAGAIN = 11

abbrev pub ENOMEM : ℕ
ENOMEM = 12

abbrev pub EACCES : ℕ
EACCES = 13

abbrev pub EBUSY : ℕ
EBUSY = 16

abbrev pub EEXIST : ℕ
EEXIST = 17

abbrev pub EXDEV : ℕ
EXDEV = 18

abbrev pub ENOTDIR : ℕ
ENOTDIR = 20

abbrev pub EISDIR : ℕ
EISDIR = 21

abbrev pub EINVAL : ℕ
EINVAL = 22

abbrev pub EMFILE : ℕ
EMFILE = 24

abbrev pub ENOSPC : ℕ
ENOSPC = 28

abbrev pub ENAMETOOLONG : ℕ
ENAMETOOLONG = 36

abbrev pub ENOTEMPTY : ℕ
ENOTEMPTY = 39

abbrev pub ENOMSG : ℕ
ENOMSG = 42

abbrev pub EBADMSG : ℕ
EBADMSG = 74

abbrev pub EOPNOTSUPP : ℕ
EOPNOTSUPP = 95
