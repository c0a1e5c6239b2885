-- Document 01, "Changing the tree": the needs of link, rename and exchange. P1 is the source's parent, P2 the target directory.
use Rattle.std.specs.Prelude.{Bool, cond, ℕ}
use Rattle.access.specs.Rights.{join, REFER}
use Rattle.access.specs.Kinds.{make_right, remove_right}
use Rattle.access.specs.declared.kinds.Kind.{Kind}
use Rattle.access.specs.declared.kinds.MaybeKind.{MaybeKind}
use Rattle.access.specs.declared.kinds.MaybeKind.TheVariants.{Known, None}
use Rattle.fs.specs.declared.needs.Step.{Step}
use Rattle.fs.specs.declared.needs.Step.TheVariants.{Link, Rename, Exchange}

-- MAKE and REMOVE of the replaced or exchanged entry, if there is one
abbrev pub make_of : MaybeKind → ℕ
make_of (Known k) = make_right k
make_of None = 0

abbrev pub remove_of : MaybeKind → ℕ
remove_of (Known k) = remove_right k
remove_of None = 0

-- "If P1 differs from P2, link, rename and exchange also need REFER at both"
abbrev pub refer : Bool → ℕ
refer same = cond same 0 REFER

-- "Needs at P1": k1 is the moved entry's kind, k2 that of the replaced or exchanged one
unfoldable pub source_needs : Step → Kind → MaybeKind → Bool → ℕ
source_needs Link k1 k2 same = refer same
source_needs Rename k1 k2 same = join (remove_right k1) (refer same)
source_needs Exchange k1 k2 same = join (join (remove_right k1) (make_of k2)) (refer same)

-- "Needs at P2"
unfoldable pub target_needs : Step → Kind → MaybeKind → Bool → ℕ
target_needs Link k1 k2 same = join (make_right k1) (refer same)
target_needs Rename k1 k2 same = join (join (make_right k1) (remove_of k2)) (refer same)
target_needs Exchange k1 k2 same = join (join (make_right k1) (remove_of k2)) (refer same)
