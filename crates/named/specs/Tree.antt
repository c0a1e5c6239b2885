-- Document 02, W1: the calls that change the tree, with names. Verdict, later checks, the layer that a refusal names and the effect on the six tables
-- are those of document 01's calls, by name.
use Rattle.std.specs.Prelude.{cond, not, List, [], ◌∷◌, ◌++◌, ℕ, eqb}
use Rattle.laws.specs.Refusals.{Check, ◌⇒◌}
use Rattle.access.specs.Errno.{EPERM, ENOENT, ESRCH, EBUSY, EEXIST, ENOTDIR, EINVAL}
use Rattle.access.specs.Kinds.{kind_of}
use Rattle.access.specs.declared.errno.Reply.TheVariants.{Done}
use Rattle.tables.specs.Tables.{Tables, kind, parent, live, is_dir, thread_live}
use Rattle.judge.specs.Blame.{naming_entry}
use Rattle.fs.specs.Needs.{make_of, remove_of}
use Rattle.fs.specs.Blame.{naming_move}
use Rattle.tree.specs.declared.Replaced.{Replaced}
use Rattle.tree.specs.Entries.{free_entry, unknown_kind, is_above, replacing, same_object, free_row, with_entries}
use Rattle.tree.specs.Moves.{link_move, rename_move, exchange_move}
use Rattle.tree.specs.Create.{create_verdict, create_later, tree_created, remove_checks}
use Rattle.tree.specs.Link.{link_verdict, link_later, linked}
use Rattle.tree.specs.Rename.{rename_verdict, rename_later, moved}
use Rattle.tree.specs.Exchange.{exchange_checks, swapped}
use Rattle.names.specs.Names.{name_checks, put_name, clear_name, taken, bearer, drop_name, swap_names}
use Rattle.named.specs.Named.{Named, with_names, NamedOutcome, named_outcome, named_call, judged_by}

-- ---- create: "after the target's ENOTDIR come a bad name .., then for create and link a taken one, EEXIST"
unfoldable pub create_target : List ℕ → List ℕ → ℕ → ℕ → List Check
create_target es ts t d = not (thread_live ts t) ⇒ ESRCH ∷ not (live es d) ⇒ ENOENT ∷ not (is_dir es d) ⇒ ENOTDIR ∷ []

unfoldable pub new_name : List ℕ → List ℕ → ℕ → List ℕ → List Check
new_name es ns d n = name_checks n ++ (taken es ns d n ⇒ EEXIST ∷ [])

-- what comes before document 01's own checks: those up to the target's ENOTDIR, then the name's
unfoldable pub create_before : Named → ℕ → ℕ → List ℕ → List Check
create_before N t d n = create_target N.core.entries N.core.threads t d ++ new_name N.core.entries N.names d n

unfoldable pub create_named_checks : Named → ℕ → ℕ → ℕ → List ℕ → List Check
create_named_checks N t d k n = create_before N t d n ++ ((unknown_kind k ⇒ EINVAL ∷ []) ++ (create_verdict N.core t d k ++ create_later N.core))

-- the new entry, the lowest free one, takes the name
unfoldable pub new_names : List ℕ → List ℕ → List ℕ → List ℕ
new_names es ns n = put_name ns (free_entry es) n

unfoldable pub create_named : Named → ℕ → ℕ → ℕ → List ℕ → NamedOutcome
create_named N t d k n =
    judged_by (naming_entry N.core t d (make_of (kind_of k)))
    (named_call N (create_named_checks N t d k n)
    (named_outcome (Done (free_entry N.core.entries)) (with_names (tree_created N.core d k) (new_names N.core.entries N.names n))))

-- ---- remove: document 01's checks
unfoldable pub remove_named : Named → ℕ → ℕ → NamedOutcome
remove_named N t e =
    judged_by (naming_entry N.core t (parent N.core.entries e) (remove_of (kind_of (kind N.core.entries e))))
    (named_call N (remove_checks N.core t e) (named_outcome (Done 0) (with_names (with_entries N.core (free_row N.core.entries e)) (clear_name N.names e))))

-- ---- link
unfoldable pub link_target : List ℕ → List ℕ → ℕ → ℕ → ℕ → List Check
link_target es ts t s d =
    not (thread_live ts t) ⇒ ESRCH
    ∷ not (live es s) ⇒ ENOENT
    ∷ not (live es d) ⇒ ENOENT
    ∷ eqb s 0 ⇒ EBUSY
    ∷ not (is_dir es d) ⇒ ENOTDIR
    ∷ []

unfoldable pub link_before : Named → ℕ → ℕ → ℕ → List ℕ → List Check
link_before N t s d n = link_target N.core.entries N.core.threads t s d ++ new_name N.core.entries N.names d n

unfoldable pub link_named_checks : Named → ℕ → ℕ → ℕ → List ℕ → List Check
link_named_checks N t s d n = link_before N t s d n ++ ((is_dir N.core.entries s ⇒ EPERM ∷ []) ++ (link_verdict N.core t s d ++ link_later N.core))

unfoldable pub link_named : Named → ℕ → ℕ → ℕ → List ℕ → NamedOutcome
link_named N t s d n =
    judged_by (naming_move N.core t (link_move N.core.entries s d))
    (named_call N (link_named_checks N t s d n)
    (named_outcome (Done (free_entry N.core.entries)) (with_names (with_entries N.core (linked N.core.entries s d)) (new_names N.core.entries N.names n))))

-- ---- rename: "the replaced entry is the one that bears it". It is live, not the root and a child of d, so its ENOENT, EBUSY and EINVAL are gone
unfoldable pub replaced_by : Named → ℕ → List ℕ → Replaced
replaced_by N d n = bearer N.core.entries N.names d n

unfoldable pub rename_before : Tables → ℕ → ℕ → ℕ → List ℕ → List Check
rename_before T t s d n = link_target T.entries T.threads t s d ++ name_checks n

unfoldable pub rename_named_checks : Named → ℕ → ℕ → ℕ → List ℕ → List Check
rename_named_checks N t s d n =
    let x = replaced_by N d n in
    rename_before N.core t s d n ++ ((is_above N.core.entries s d ⇒ EINVAL ∷ []) ++ (rename_verdict N.core t s d x ++ rename_later N.core.entries s x))

-- "same object on both sides ..: 0, nothing changes", so a rename onto the own name too; else "A same-directory rename now changes the name"
unfoldable pub renamed_names : List ℕ → List ℕ → ℕ → List ℕ → Replaced → List ℕ
renamed_names es ns s n x = cond (replacing x (same_object es s)) ns (put_name (drop_name ns x) s n)

unfoldable pub rename_named : Named → ℕ → ℕ → ℕ → List ℕ → NamedOutcome
rename_named N t s d n =
    let x = replaced_by N d n in
    judged_by (naming_move N.core t (rename_move N.core.entries s d x))
    (named_call N (rename_named_checks N t s d n)
    (named_outcome (Done 0) (with_names (with_entries N.core (moved N.core.entries s d x)) (renamed_names N.core.entries N.names s n x))))

-- ---- exchange: document 01's checks; "an exchange swaps names with places", and "same object on both sides ..: 0, nothing changes"
unfoldable pub swapped_names : List ℕ → List ℕ → ℕ → ℕ → List ℕ
swapped_names es ns s x = cond (same_object es s x) ns (swap_names ns s x)

unfoldable pub exchange_named : Named → ℕ → ℕ → ℕ → ℕ → NamedOutcome
exchange_named N t s d x =
    judged_by (naming_move N.core t (exchange_move N.core.entries s d x))
    (named_call N (exchange_checks N.core t s d x)
    (named_outcome (Done 0) (with_names (with_entries N.core (swapped N.core.entries s d x)) (swapped_names N.core.entries N.names s x))))
