-- Document 02, W9: a batch of requests. Each answer is "its call's refusal on these tables .., up to and with the verdict, else 0, with W8's layer and set".
use Rattle.std.specs.Prelude.{Bool, cond, not, ◌&&◌, List, [], ◌∷◌, ◌++◌, ℕ, zero, suc, ◌+◌, ◌*◌, ◌/◌, eqb, ltb, leb, length, take, drop}
use Rattle.laws.specs.Tests.{all_below}
use Rattle.laws.specs.Refusals.{Check, ◌⇒◌, first}
use Rattle.laws.specs.Cells.{cell, put_cell}
use Rattle.access.specs.Errno.{EPERM, EIO, EINVAL}
use Rattle.access.specs.declared.errno.Reply.{Reply}
use Rattle.access.specs.declared.errno.Reply.TheVariants.{Done, Refused}
use Rattle.tables.specs.Tables.{is_dir}
use Rattle.judge.specs.Blame.{entry_reply, port_reply}
use Rattle.fs.specs.Blame.{move_reply}
use Rattle.fs_access.specs.Access.{access_checks}
use Rattle.net.specs.Port.{port_checks}
use Rattle.tree.specs.Entries.{is_above}
use Rattle.tree.specs.Moves.{link_move, rename_move, exchange_move}
use Rattle.tree.specs.Link.{link_verdict}
use Rattle.tree.specs.Rename.{rename_verdict}
use Rattle.tree.specs.Exchange.{exchange_checks}
use Rattle.codes.specs.Codes.{Said, said}
use Rattle.named.specs.Named.{Named, named_sound, NamedOutcome, named_outcome}
use Rattle.named.specs.Tree.{link_before, replaced_by, rename_before}

-- ---- one request: its call's checks up to and with the verdict; unsound tables are EIO
unfoldable pub on_sound : Named → List Check → List Check
on_sound N cs = not (named_sound N) ⇒ EIO ∷ cs

unfoldable pub link_asked : Named → ℕ → ℕ → ℕ → List ℕ → List Check
link_asked N t s d n = link_before N t s d n ++ ((is_dir N.core.entries s ⇒ EPERM ∷ []) ++ link_verdict N.core t s d)

unfoldable pub rename_asked : Named → ℕ → ℕ → ℕ → List ℕ → List Check
rename_asked N t s d n = rename_before N.core t s d n ++ ((is_above N.core.entries s d ⇒ EINVAL ∷ []) ++ rename_verdict N.core t s d (replaced_by N d n))

unfoldable pub access_reply : Named → ℕ → ℕ → ℕ → Reply
access_reply N t e m = entry_reply N.core t e m (on_sound N (access_checks N.core t e m))

unfoldable pub port_answer : Named → ℕ → ℕ → ℕ → Reply
port_answer N t p m = port_reply N.core t p m (on_sound N (port_checks N.core t p m))

unfoldable pub link_reply : Named → ℕ → ℕ → ℕ → List ℕ → Reply
link_reply N t s d n = move_reply N.core t (link_move N.core.entries s d) (on_sound N (link_asked N t s d n))

unfoldable pub rename_reply : Named → ℕ → ℕ → ℕ → List ℕ → Reply
rename_reply N t s d n = move_reply N.core t (rename_move N.core.entries s d (replaced_by N d n)) (on_sound N (rename_asked N t s d n))

-- nothing refuses an exchange after its verdict
unfoldable pub exchange_reply : Named → ℕ → ℕ → ℕ → ℕ → Reply
exchange_reply N t s d x = move_reply N.core t (exchange_move N.core.entries s d x) (on_sound N (exchange_checks N.core t s d x))

-- ---- the cells of a request: sort, thread, three numbers, and where its name starts in the names and how long it is
abbrev pub request_width : ℕ
request_width = 7

abbrev pub asked_cell : List ℕ → ℕ → ℕ → ℕ
asked_cell rs i k = cell rs request_width i k

-- "access, port, link, rename and exchange requests": 1 to 5
abbrev pub access_sort : ℕ
access_sort = 1

abbrev pub port_sort : ℕ
port_sort = 2

abbrev pub link_sort : ℕ
link_sort = 3

abbrev pub rename_sort : ℕ
rename_sort = 4

abbrev pub exchange_sort : ℕ
exchange_sort = 5

unfoldable pub known_sort : ℕ → Bool
known_sort sort = leb access_sort sort && leb sort exchange_sort

-- the name of a request; a part that does not lie in the names is a bad name, as the empty one is
unfoldable pub part_name : List ℕ → ℕ → ℕ → List ℕ
part_name ns from n = cond (leb (from + n) (length ns)) (take n (drop from ns)) []

-- the reply to a request of a sort, with its thread, three numbers and name
unfoldable pub reply_asked : Named → ℕ → ℕ → ℕ → ℕ → ℕ → List ℕ → Reply
reply_asked N sort t a b c n =
    cond (eqb sort access_sort) (access_reply N t a b)
    (cond (eqb sort port_sort) (port_answer N t a b)
    (cond (eqb sort link_sort) (link_reply N t a b n)
    (cond (eqb sort rename_sort) (rename_reply N t a b n) (exchange_reply N t a b c))))

-- the reply to request i
unfoldable pub request_reply : Named → List ℕ → List ℕ → ℕ → Reply
request_reply N rs ns i =
    reply_asked N (asked_cell rs i 0) (asked_cell rs i 1) (asked_cell rs i 2) (asked_cell rs i 3) (asked_cell rs i 4) (part_name ns (asked_cell rs i 5) (asked_cell rs i 6))

-- ---- the answers: error number or 0, layer, rights
abbrev pub batch_answer_width : ℕ
batch_answer_width = 3

unfoldable pub put_said : List ℕ → ℕ → Said → List ℕ
put_said xs i s = put_cell (put_cell (put_cell xs batch_answer_width i 0 s.error) batch_answer_width i 1 s.layer) batch_answer_width i 2 s.rights

-- the answers to the first n requests; the cells past them stay
unfoldable pub answers_to : Named → List ℕ → List ℕ → List ℕ → ℕ → List ℕ
answers_to N rs ns xs zero = xs
answers_to N rs ns xs (suc n) = put_said (answers_to N rs ns xs n) n (said (request_reply N rs ns n))

abbrev pub request_count : List ℕ → ℕ
request_count rs = length rs / request_width

-- "First, a request of another sort or too little room for answers is EINVAL and writes nothing"; so is a list that ends within a request
unfoldable pub batch_checks : List ℕ → List ℕ → List Check
batch_checks rs xs =
    not (eqb (length rs) (request_width * request_count rs)) ⇒ EINVAL
    ∷ not (all_below (λ i. known_sort (asked_cell rs i 0)) (request_count rs)) ⇒ EINVAL
    ∷ ltb (length xs) (batch_answer_width * request_count rs) ⇒ EINVAL
    ∷ []

pub record Batched : Type 0 where
  pub reply : Reply
  pub answers : List ℕ

abbrev pub batched : Reply → List ℕ → Batched
batched r xs = record { reply = r; answers = xs }

unfoldable pub batch_of : Named → List ℕ → List ℕ → List ℕ → Batched
batch_of N rs ns xs =
    let c = first (batch_checks rs xs) in
    cond (eqb c 0) (batched (Done 0) (answers_to N rs ns xs (request_count rs))) (batched (Refused (record { 0 = c })) xs)

-- a batch "changes none of their cells"
unfoldable pub batch_named : Named → List ℕ → List ℕ → List ℕ → NamedOutcome
batch_named N rs ns xs = named_outcome (batch_of N rs ns xs).reply N
