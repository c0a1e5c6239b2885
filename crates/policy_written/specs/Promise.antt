-- Request W12: what is promised of a written policy file.
use Rattle.std.specs.Prelude.{◌≡◌, List, ◌↔◌, ℕ, ◌≤◌, ◌<◌, length, take}
use Rattle.access.specs.Limits.{max_rulesets}
use Rattle.access.specs.declared.errno.Reply.TheVariants.{Done}
use Rattle.tables.specs.Layers.{ruleset_at}
use Rattle.ruleset.specs.Create.{free_ruleset}
use Rattle.policy.specs.Files.{place_of, read_file}
use Rattle.policy.specs.Find.{max_file}
use Rattle.policy.specs.declared.Read.TheVariants.{Next}
use Rattle.policy_write.specs.Agree.{Agree}
use Rattle.named.specs.Named.{Named, NamedOutcome}
use Rattle.named.specs.Policy.{apply_named}
use Rattle.named.specs.Write.{write_named, written_out}

-- the bytes that a success wrote
abbrev pub bytes_out : Named → ℕ → List ℕ → List ℕ → ℕ → List ℕ
bytes_out N r name out n = take n (written_out N r name out)

-- "gives a ruleset with the same masks and the same rights for each object and port" as ruleset r
pub record Restored (N : Named) (r : ℕ) (o : NamedOutcome) : Type 0 where
  pub number : ℕ
  pub done : o.reply ≡ Done number
  pub same : Agree (ruleset_at N.core.rulesets r) (ruleset_at o.left.core.rulesets number)

-- a file that is fine
pub record Fine (f : List ℕ) : Type 0 where
  pub small : length f ≤ max_file
  pub end : ℕ
  pub read : read_file f ≡ Next end

pub record PolicyWritten : Type 0 where
  -- "Reading what was written and applying it to the same tables, with a ruleset free": as the site's file, beside any stock file
  pub as_site : (N : Named) (r : ℕ) (name out : List ℕ) (n : ℕ) (stock : List ℕ) → (write_named N r name out).reply ≡ Done n → free_ruleset N.core.rulesets < max_rulesets → Fine stock
      → Restored N r (apply_named N stock (bytes_out N r name out n) name)
  -- as the stock file, beside any site's file that lacks the name
  pub as_stock : (N : Named) (r : ℕ) (name out : List ℕ) (n : ℕ) (site : List ℕ) → (write_named N r name out).reply ≡ Done n → free_ruleset N.core.rulesets < max_rulesets → Fine site
      → length site ≤ place_of site name → Restored N r (apply_named N (bytes_out N r name out n) site name)
  -- "Two rulesets written from the same tables give equal bytes under one name exactly if they agree in these"
  pub equal_bytes : (N : Named) (r s : ℕ) (name out other : List ℕ) (n m : ℕ) → (write_named N r name out).reply ≡ Done n → (write_named N s name other).reply ≡ Done m
      → (bytes_out N r name out n ≡ bytes_out N s name other m) ↔ Agree (ruleset_at N.core.rulesets r) (ruleset_at N.core.rulesets s)
