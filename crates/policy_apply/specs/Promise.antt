-- Request W4: what applying a ruleset of two policy files promises beside its definition.
use Rattle.std.specs.Prelude.{◌≡◌, true, List, ℕ}
use Rattle.access.specs.Reply.{is_refused}
use Rattle.named.specs.Named.{Named, named_sound}
use Rattle.named.specs.Calls.{apply, after_named, reply_named}

pub record Applying : Type 0 where
  -- "stops at the first refusal with that number, and then closes what it opened, so no cell differs": whatever the tables, the files and the name are
  pub undone : (N : Named) (stock site name : List ℕ) → is_refused (reply_named N (apply stock site name)) ≡ true → after_named N (apply stock site name) ≡ N
  -- sound tables stay sound
  pub kept : (N : Named) (stock site name : List ℕ) → named_sound N ≡ true → named_sound (after_named N (apply stock site name)) ≡ true
