-- Document 02, W14: what the moved object, or either one of an exchange, "would, if it were moved, hold".
use Rattle.std.specs.Prelude.{cond, List, ℕ, ltb}
use Rattle.access.specs.Limits.{max_entries}
use Rattle.access.specs.Rights.{join, meet, without}
use Rattle.tables.specs.Tables.{parent}
use Rattle.tables.specs.Layers.{Layer}
use Rattle.judge.specs.Judge.{denied}
use Rattle.fs.specs.Move.{entry_rights}
use Rattle.tree.specs.Entries.{free_entry, put_parent}
use Rattle.tree.specs.Link.{linked}

-- "a right which that layer denied it before, among its kind's rights in 01": of the rights of e's kind, those that the layer denies e on the entries es
-- and does not deny e' on es'
unfoldable pub gained : List ℕ → List ℕ → Layer → ℕ → ℕ → ℕ
gained es es' L e e' = without (meet (entry_rights es e) (denied es L e)) (denied es' L e')

-- "if it were moved": the entries with s in d, whatever else the call would do or refuse
abbrev pub if_moved : List ℕ → ℕ → ℕ → List ℕ
if_moved es s d = put_parent es s d

-- "for an exchange either one": s in d and x where s stood, both at once
abbrev pub if_exchanged : List ℕ → ℕ → ℕ → ℕ → List ℕ
if_exchanged es s d x = put_parent (put_parent es s d) x (parent es s)

-- a link of s in d, and its entry: the lowest free one. Where none is free, s itself in d stands for it
abbrev pub if_linked : List ℕ → ℕ → ℕ → List ℕ
if_linked es s d = cond (ltb (free_entry es) max_entries) (linked es s d) (if_moved es s d)

abbrev pub new_link : List ℕ → ℕ → ℕ
new_link es s = cond (ltb (free_entry es) max_entries) (free_entry es) s

-- what a layer would see gained: by a rename, by an exchange, by a link, whose new entry is compared with its source
abbrev pub rename_gain : List ℕ → ℕ → ℕ → Layer → ℕ
rename_gain es s d L = gained es (if_moved es s d) L s s

abbrev pub exchange_gain : List ℕ → ℕ → ℕ → ℕ → Layer → ℕ
exchange_gain es s d x L = join (gained es (if_exchanged es s d x) L s s) (gained es (if_exchanged es s d x) L x x)

abbrev pub link_gain : List ℕ → ℕ → ℕ → Layer → ℕ
link_gain es s d L = gained es (if_linked es s d) L s (new_link es s)
