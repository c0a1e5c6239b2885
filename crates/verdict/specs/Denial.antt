-- The verdict of a domain on a question: which layer denies it, and what.
use Rattle.std.specs.Prelude.{cond, List, [], ◌∷◌, ℕ, zero, suc, eqb}
use Rattle.access.specs.Errno.{EACCES, EXDEV}
use Rattle.tables.specs.Layers.{layer_at}
use Rattle.judge.specs.Judge.{missing, port_missing}
use Rattle.judge.specs.Domain.{domain}
use Rattle.judge.specs.Read.{layer_reads, largest}
use Rattle.fs.specs.Move.{denied_needs}
use Rattle.fs.specs.Blame.{crossed}
use Rattle.access.specs.declared.errno.Reply.{Reply}
use Rattle.access.specs.declared.errno.Reply.TheVariants.{Done, Denied as DeniedReply}
use Rattle.verdict.specs.declared.Question.{Question}
use Rattle.verdict.specs.declared.Question.TheVariants.{Entry, Port, Move}
use Rattle.verdict.specs.declared.Denial.{Denial}
use Rattle.verdict.specs.declared.Denial.TheVariants.{None, Denied, Crossed}

-- what layer l denies: of the rights asked for, or of a move's needs other than REFER
unfoldable pub denied_by : List ℕ → List ℕ → List ℕ → Question → ℕ → ℕ
denied_by es ls ps (Entry e m) l = missing es (layer_at ls ps l) e m.0
denied_by es ls ps (Port p m) l = port_missing (layer_at ls ps l) p m.0
denied_by es ls ps (Move m) l = denied_needs es (layer_at ls ps l) m

-- what layer l holds against a move between two directories: REFER, or the rights that fail containment
unfoldable pub crossed_by : List ℕ → List ℕ → List ℕ → Question → ℕ → ℕ
crossed_by es ls ps (Entry e m) l = 0
crossed_by es ls ps (Port p m) l = 0
crossed_by es ls ps (Move m) l = crossed es (layer_at ls ps l) m

-- how many entries' rules layer l reads for a request on an entry
unfoldable pub read_by : List ℕ → List ℕ → List ℕ → Question → ℕ → ℕ
read_by es ls ps (Entry e m) l = layer_reads es (layer_at ls ps l) e m.0
read_by es ls ps (Port p m) l = 0
read_by es ls ps (Move m) l = 0

-- the first crossing that was met: its layer (the number + 1, or 0 for none) and its set
abbrev pub kept_at : ℕ → ℕ → ℕ → ℕ
kept_at k at b = cond (eqb k 0) (cond (eqb b 0) 0 at) k

abbrev pub kept_set : ℕ → ℕ → ℕ → ℕ
kept_set k set b = cond (eqb k 0) b set

unfoldable pub crossed_at : ℕ → ℕ → Denial
crossed_at zero set = None
crossed_at (suc l) set = Crossed l (record { 0 = set })

-- the youngest layer of a domain whose set a is not empty, with that set; else the first crossing, met before (k, set) or now, of the sets b
unfoldable pub denial : (ℕ → ℕ) → (ℕ → ℕ) → ℕ → ℕ → List ℕ → Denial
denial a b k set [] = crossed_at k set
denial a b k set (l ∷ D) = let r = denial a b (kept_at k (suc l) (b l)) (kept_set k set (b l)) D in cond (eqb (a l) 0) r (Denied l (record { 0 = a l }))

-- the denial by the domain of a thread
unfoldable pub thread_denial : List ℕ → List ℕ → List ℕ → List ℕ → ℕ → Question → Denial
thread_denial es ls ps ts t q = denial (denied_by es ls ps q) (crossed_by es ls ps q) 0 0 (domain ls ts t)

unfoldable pub thread_reads : List ℕ → List ℕ → List ℕ → List ℕ → ℕ → Question → ℕ
thread_reads es ls ps ts t q = largest (read_by es ls ps q) (domain ls ts t)

-- "A denied need other than REFER is EACCES; else denied REFER or failed containment is EXDEV"
unfoldable pub refusal_of : Denial → ℕ
refusal_of None = 0
refusal_of (Denied l s) = EACCES
refusal_of (Crossed l s) = EXDEV

-- the reply that names the layer
unfoldable pub reply_of : Denial → Reply
reply_of None = Done 0
reply_of (Denied l s) = DeniedReply (record { 0 = EACCES }) l s
reply_of (Crossed l s) = DeniedReply (record { 0 = EXDEV }) l s
