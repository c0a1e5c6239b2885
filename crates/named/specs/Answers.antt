-- Document 02, W9: the answers of a batch, beside the replies of the calls themselves.
use Rattle.std.specs.Prelude.{◌≡◌, refl, false, List, ◌++◌, ℕ}
use Rattle.laws.specs.Refusals.{first}
use Rattle.access.specs.Errno.{EIO}
use Rattle.access.specs.declared.errno.Reply.TheVariants.{Done, Refused}
use Rattle.tree.specs.Link.{link_later}
use Rattle.tree.specs.Rename.{rename_later}
use Rattle.theorems.specs.Calls.{Call}
use Rattle.named.specs.Named.{Named, named_sound}
use Rattle.named.specs.Tree.{link_named_checks, replaced_by, rename_named_checks}
use Rattle.named.specs.Batch.{on_sound, link_asked, rename_asked, access_reply, port_answer, link_reply, rename_reply, exchange_reply, request_reply}
use Rattle.named.specs.Calls.{lifted, link, rename, exchange, reply_named}

-- "gives each its call's refusal on these tables .., up to and with the verdict, else 0, with W8's layer and set"
pub record BatchAnswers : Type 0 where
  -- nothing refuses these after their verdict: the very reply of the call
  pub access : (N : Named) (t e m : ℕ) → access_reply N t e m ≡ reply_named N (lifted (Call.access t e m) refl)
  pub port : (N : Named) (t p m : ℕ) → port_answer N t p m ≡ reply_named N (lifted (Call.port t p m) refl)
  pub exchange : (N : Named) (t s d x : ℕ) → exchange_reply N t s d x ≡ reply_named N (exchange t s d x)
  -- a link: what is asked and what is not are the call's own refusals, in their order
  pub link_parts : (N : Named) (t s d : ℕ) (n : List ℕ) → link_named_checks N t s d n ≡ link_asked N t s d n ++ link_later N.core
  pub link-refused_lem : (N : Named) (t s d : ℕ) (n : List ℕ) → (first (on_sound N (link_asked N t s d n)) ≡ 0 → ⊥) → link_reply N t s d n ≡ reply_named N (link t s d n)
  pub link_else : (N : Named) (t s d : ℕ) (n : List ℕ) → first (on_sound N (link_asked N t s d n)) ≡ 0 → link_reply N t s d n ≡ Done 0
  -- a rename likewise
  pub rename_parts : (N : Named) (t s d : ℕ) (n : List ℕ) → rename_named_checks N t s d n ≡ rename_asked N t s d n ++ rename_later N.core.entries s (replaced_by N d n)
  pub rename-refused_lem : (N : Named) (t s d : ℕ) (n : List ℕ) → (first (on_sound N (rename_asked N t s d n)) ≡ 0 → ⊥) → rename_reply N t s d n ≡ reply_named N (rename t s d n)
  pub rename_else : (N : Named) (t s d : ℕ) (n : List ℕ) → first (on_sound N (rename_asked N t s d n)) ≡ 0 → rename_reply N t s d n ≡ Done 0
  -- "(EIO on unsound ones)"
  pub unsound : (N : Named) (rs ns : List ℕ) (i : ℕ) → named_sound N ≡ false → request_reply N rs ns i ≡ Refused (record { 0 = EIO })
