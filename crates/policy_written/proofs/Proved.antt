-- What is promised of a written policy file, proved. Assumes nothing.
use mathlib.Core.Path.{◌≡◌, refl, sym, ap, ◌∙◌, subst}
use mathlib.Core.Bool.{true, cond}
use mathlib.Core.List.{List, [], ◌++◌}
use mathlib.Core.Logic.{◌↔◌}
use Prim.Native.Nat.{ℕ, ◌≤◌, ◌<◌}
use native.Mathlib.Omega.{arith}
use lib.ListN.{length, take, drop}
use lib.Seq.{take-append_seam}
use Rattle.laws.specs.Refusals.{first}
use Rattle.access.specs.Errno.{EIO}
use Rattle.access.specs.Limits.{max_rulesets}
use Rattle.access.specs.declared.errno.Reply.{Reply}
use Rattle.access.specs.declared.errno.Reply.TheVariants.{Done, Refused}
use Rattle.tables.specs.Layers.{ruleset_at}
use Rattle.ruleset.specs.Create.{free_ruleset}
use Rattle.theorems.specs.Calls.{is_done}
use Rattle.policy.specs.Files.{place_of}
use Rattle.policy.specs.Find.{found, part_of}
use Rattle.policy.specs.Meaning.{Rule}
use Rattle.policy.specs.declared.File.{File}
use Rattle.policy.specs.declared.File.TheVariants.{Stock, Site}
use Rattle.policy.specs.declared.Found.TheVariants.{At}
use Rattle.policy.specs.declared.Span.{Span}
use Rattle.policy_write.specs.Chosen.{chosen_path}
use Rattle.policy_write.specs.File.{file_rules, policy_file, written_over, write_checks}
use Rattle.policy_write.specs.Agree.{Agree}
use Rattle.policy_write.proofs.Bytes.{FitAll}
use Rattle.policy_write.proofs.Agreed.{Writable, rules_fit, equal_agree, agree_equal}
use Rattle.policy_write.proofs.Reading.{found_site, found_stock, part_site, part_stock}
use Rattle.named.specs.Named.{Named, named_sound, NamedOutcome, named_outcome}
use Rattle.named.proofs.Made.{named-goes, named-cases}
use Rattle.named.specs.Policy.{applied, found_number, found_checks, apply_named}
use Rattle.named.specs.Write.{file_of, write_named, written_out}
use Rattle.policy_written.specs.Promise.{bytes_out, Restored, Fine, PolicyWritten}
use Rattle.policy_written.proofs.Sound.{Has, one_object, L, Goes, goes, writable}
use Rattle.policy_written.proofs.Trip.{trip_done, trip_agree}

-- ---- a write that is done
refused-done : {A : Type 0} (e n : ℕ) → ◌≡◌ {A = Reply} (Refused (record { 0 = e })) (Done n) → A
refused-done e n q = absurd (let z : ◌≡◌ {A = ℕ} 0 1 = cc in omega arith)

done-same : (a b : ℕ) → ◌≡◌ {A = Reply} (Done a) (Done b) → a ≡ b
done-same a b e = cc

-- a name that is found is not refused
checks_pass : (stock site name : List ℕ) (which : File) (s : Span) → found stock site name ≡ At which s → first (found_checks stock site name) ≡ 0
unfolding found_checks found_number first
checks_pass stock site name which s e = rw e

module _ (N : Named) (r : ℕ) (name out : List ℕ) (n : ℕ) where
  record Success : Type 0 where
    pub sound_now : named_sound N ≡ true
    pub passes : first (write_checks N.core N.names r name out) ≡ 0
    pub size : length (file_of N r name) ≡ n

  success : (write_named N r name out).reply ≡ Done n → Success
  unfolding write_named
  success =
      named-cases N (write_checks N.core N.names r name out) (named_outcome (Done (length (file_of N r name))) N) (λ o. o.reply ≡ Done n → Success)
      (λ h e. refused-done EIO n e)
      (λ h z e. refused-done (first (write_checks N.core N.names r name out)) n e)
      (λ h z e. record { sound_now = h; passes = z; size = done-same (length (file_of N r name)) n e })

  -- the bytes that it wrote are the file
  wrote : (write_named N r name out).reply ≡ Done n → bytes_out N r name out n ≡ file_of N r name
  unfolding written_out written_over
  wrote e =
      let z = (success e).size in
      ap (λ (a : Reply). take n (cond (is_done a) (file_of N r name ++ drop (length (file_of N r name)) out) out)) e
      ∙ ap (λ (k : ℕ). take k (file_of N r name ++ drop (length (file_of N r name)) out)) (sym z) ∙ take-append_seam (file_of N r name) (drop (length (file_of N r name)) out)

  -- the ruleset that is written
  module _ (e : (write_named N r name out).reply ≡ Done n) where
    abbrev h : named_sound N ≡ true
    h = (success e).sound_now

    abbrev G : Goes N h r name out
    G = goes N h r name out (success e).passes

    abbrev W : Writable (chosen_path N.core.entries N.names) (Has N h) (one_object N h) (L N h r)
    W = writable N h r name out G

    abbrev file : List ℕ
    file = file_of N r name

    abbrev qs : List Rule
    qs = file_rules (chosen_path N.core.entries N.names) (L N h r).rules

    abbrev fit : FitAll qs
    fit = rules_fit (chosen_path N.core.entries N.names) (Has N h) (one_object N h) (L N h r) W

    module _ (free : free_ruleset N.core.rulesets < max_rulesets) where
      -- the files give the written one, found in either
      applies : (stock site : List ℕ) (which : File) → found stock site name ≡ At which (record { at = 0; end = length file }) → part_of stock site (At which (record { at = 0; end = length file })) ≡ file
          → Restored N r (apply_named N stock site name)
      unfolding apply_named
      applies stock site which f p =
          let R : Restored N r (applied N file) = record { number = free_ruleset N.core.rulesets; done = trip_done N h r name out G free; same = trip_agree N h r name out G free } in
          let q : part_of stock site (found stock site name) ≡ file = ap (part_of stock site) f ∙ p in
          subst (Restored N r) (named-goes N (found_checks stock site name) (applied N (part_of stock site (found stock site name))) h (sym (checks_pass stock site name which _ f)) refl)
          (subst (λ (s : List ℕ). Restored N r (applied N s)) (sym q) R)

      by_site : (stock : List ℕ) → Fine stock → Restored N r (apply_named N stock (bytes_out N r name out n) name)
      by_site stock f = subst (λ (b : List ℕ). Restored N r (apply_named N stock b name)) (sym (wrote e)) (unfold policy_file in
          applies stock file Site (found_site name (L N h r) qs G.some G.short fit stock f.end f.small f.read G.not_big) (part_site name (L N h r) qs G.some G.short fit stock))

      by_stock : (site : List ℕ) → Fine site → length site ≤ place_of site name → Restored N r (apply_named N (bytes_out N r name out n) site name)
      by_stock site f lacks = subst (λ (b : List ℕ). Restored N r (apply_named N b site name)) (sym (wrote e)) (unfold policy_file in
          applies file site Stock (found_stock name (L N h r) qs G.some G.short fit site f.end f.small f.read lacks G.not_big) (part_stock name (L N h r) qs G.some G.short fit site))

-- ---- two of them
equals : (N : Named) (r s : ℕ) (name out other : List ℕ) (n m : ℕ) → (write_named N r name out).reply ≡ Done n → (write_named N s name other).reply ≡ Done m
    → (bytes_out N r name out n ≡ bytes_out N s name other m) ↔ Agree (ruleset_at N.core.rulesets r) (ruleset_at N.core.rulesets s)
unfolding policy_file
equals N r s name out other n m e f =
    let k = (success N r name out n e).sound_now in
    let A = goes N k r name out (success N r name out n e).passes in
    let B = goes N k s name other (success N s name other m f).passes in
    let paths = chosen_path N.core.entries N.names in
    let U = writable N k r name out A in
    let X = writable N k s name other B in
    let a = wrote N r name out n e in
    let b = wrote N s name other m f in (
      (λ q. equal_agree paths (Has N k) (one_object N k) (L N k r) (L N k s) U X name A.some A.short (sym a ∙ q ∙ b)),
      (λ q. a ∙ agree_equal paths (Has N k) (one_object N k) (L N k r) (L N k s) U X name A.some A.short q ∙ sym b),
    )

pub policy_written : PolicyWritten
policy_written = record {
  as_site = λ N r name out n stock e free f. by_site N r name out n e free stock f;
  as_stock = λ N r name out n site e free f lacks. by_stock N r name out n e free site f lacks;
  equal_bytes = equals;
}
