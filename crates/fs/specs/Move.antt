-- Document 01, "Changing the tree": the verdict on a move, from one set of rights for each layer.
use Rattle.std.specs.Prelude.{Bool, cond, not, List, [], ◌∷◌, ℕ, eqb}
use Rattle.laws.specs.Tests.{any}
use Rattle.laws.specs.Refusals.{Check, ◌⇒◌}
use Rattle.access.specs.Rights.{join, meet, without, REFER, file_set, all_fs}
use Rattle.access.specs.Errno.{EACCES, EXDEV}
use Rattle.tables.specs.Tables.{is_dir, path_rule}
use Rattle.tables.specs.Layers.{Layer, layer_at}
use Rattle.judge.specs.Rules.{rights_on}
use Rattle.judge.specs.Judge.{denied, missing}
use Rattle.fs.specs.declared.verdict.Move.{Move}

-- the rights that an entry can hold: "all 16 for a directory, .. the file set otherwise"
unfoldable pub entry_rights : List ℕ → ℕ → ℕ
entry_rights es e = cond (is_dir es e) all_fs file_set

-- the needs other than REFER that a layer denies, at both directories
unfoldable pub denied_needs : List ℕ → Layer → Move → ℕ
denied_needs es L m = join (missing es L m.source (without m.leave.0 REFER)) (missing es L m.target (without m.enter.0 REFER))

-- REFER, if the layer denies it at one of the directories that need it
unfoldable pub denied_refer : List ℕ → Layer → Move → ℕ
denied_refer es L m = join (missing es L m.source (meet m.leave.0 REFER)) (missing es L m.target (meet m.enter.0 REFER))

-- containment: "a right denied at P1 and not granted by that layer's rule on the moved object itself is denied at P2"; the rights that fail it.
--
-- This is what keeps a sandbox from widening itself. A layer grants an entry what its rules say of the entry and of all directories above it, so
-- a move to another directory exchanges what those above grant. If a right were denied under P1 and granted under P2, whoever may move the
-- entry would come to the right by the move alone, without any rule saying so: the calibration table, moved to where the thread may write.
-- So each layer by itself asks that what it denied the entry at P1 it denies at P2 too. What the layer's own rule on the object grants moves along
-- with it, and is no gain. It is asked
--   layer by layer: a right is denied if one layer denies it, and another layer's grant at P2 must not make up for it;
--   of every right that the kind can hold, and not only of those that someone asked for: what lies in a moved directory moves along with it,
--   and can be of any kind;
--   both ways for an exchange, which moves two entries.
-- With it every right that a layer denied an entry stays denied after every call (theorems/proofs/Denied.antt), and demand 3 rests on that.
unfoldable pub uncontained : List ℕ → Layer → ℕ → ℕ → ℕ → ℕ → ℕ
uncontained es L p1 p2 o rights = without (without (missing es L p1 rights) (rights_on L.rules path_rule o)) (denied es L p2)

-- "Exchange asks the same of the other entry the other way"
unfoldable pub escaping : List ℕ → Layer → Move → ℕ
escaping es L m =
    join (uncontained es L m.source m.target m.object m.rights.0) (uncontained es L m.target m.source m.other m.back.0)

-- "If P1 differs from P2": what a layer holds against the crossing
unfoldable pub crossing : List ℕ → Layer → Move → ℕ
crossing es L m = cond (eqb m.source m.target) 0 (join (denied_refer es L m) (escaping es L m))

-- a layer, by its number
unfoldable pub layer_denies : List ℕ → List ℕ → List ℕ → Move → ℕ → Bool
layer_denies es ls ps m l = not (eqb (denied_needs es (layer_at ls ps l) m) 0)

unfoldable pub layer_crosses : List ℕ → List ℕ → List ℕ → Move → ℕ → Bool
layer_crosses es ls ps m l = not (eqb (crossing es (layer_at ls ps l) m) 0)

-- "A denied need other than REFER is EACCES; else denied REFER or failed containment is EXDEV": over the layers D of a domain
unfoldable pub verdict : List ℕ → List ℕ → List ℕ → List ℕ → Move → List Check
verdict es ls ps D m = any (layer_denies es ls ps m) D ⇒ EACCES ∷ any (layer_crosses es ls ps m) D ⇒ EXDEV ∷ []
