-- The turns of the lookup's loop: what the walk from a place comes to is what the whole path comes to. Assumes nothing.
use mathlib.Core.Path.{◌≡◌, refl, sym, ap, ◌∙◌}
use mathlib.Core.Bool.{true, false}
use mathlib.Core.List.{List, [], ◌∷◌}
use Prim.Native.Nat.{ℕ, suc, ◌-◌, ◌≤◌, ◌<◌}
use native.Mathlib.Omega.{arith}
use lib.Dec.{eqb, ltb}
use lib.ListN.{length, get_or, drop}
use borrow.Author.Tests.{lt-ltb, le-ltb}
use Rattle.laws.specs.Cells.{part}
use Rattle.access.specs.Errno.{ENOENT, ENOTDIR, ENAMETOOLONG}
use Rattle.tables.specs.Tables.{is_dir}
use Rattle.tree.specs.declared.Replaced.{Replaced}
use Rattle.tree.specs.declared.Replaced.TheVariants.{None, Entry}
use Rattle.names.specs.Names.{max_name, slash}
use Rattle.names.specs.Paths.{component_start, component_end, component, components, closing, refuse, arrived, step_to, walk, found}
use Rattle.names.proofs.Component.{between, end_between}
use Rattle.names.proofs.Walking.{walk_start, between_start, walk_end, walk_no_dir, walk-long, walk_unknown, walk-on}
use Rattle.path.proofs.Places.{start-past, end_in, end_later, some-length}

-- the loop has come to the place `at` of the path, and to the entry e
pub record Here (es ns p : List ℕ) (at e : ℕ) : Type 0 where
  pub within : at ≤ length p
  pub parted : between p at ≡ true
  pub walked : walk es ns (closing p) (components (drop at p)) e ≡ found es ns p

-- a component from `from` to `to`, found from the place `at` on
pub record Ends (p : List ℕ) (at from to : ℕ) : Type 0 where
  pub filled : from ≤ to
  pub later : at < to
  pub inside : to ≤ length p

module _ (es ns p : List ℕ) where
  pub here-start : Here es ns p 0 0
  here-start = record { within = omega arith; parted = between_start es ns p; walked = sym (walk_start es ns p) }

  module _ {at e from : ℕ} (h : Here es ns p at e) (s : from ≡ component_start p at) where
    pub here_end : length p ≤ from → arrived es (closing p) e ≡ found es ns p
    here_end g = sym (walk_end es ns p (closing p) at e h.parted (rw s at g)) ∙ h.walked

    module _ (l : from < length p) where
      in_path : component_start p at < length p
      in_path = rw s at l

      pub here_no_dir : is_dir es e ≡ false → refuse ENOTDIR ≡ found es ns p
      here_no_dir d = sym (walk_no_dir es ns p (closing p) at e h.parted in_path d) ∙ h.walked

      module _ {to : ℕ} (t : to ≡ component_end p from) where
        ends : to ≡ component_end p (component_start p at)
        ends = t ∙ ap (component_end p) s

        shown : part p from to ≡ component p at
        unfolding component
        shown = rw (s, ends) refl

        size : length (component p at) ≡ to - from
        size = some-length p at in_path ∙ rw (s, ends) refl

        -- the component has a byte, and ends within the path
        pub here-ends : Ends p at from to
        here-ends =
            let a = start-past p at in
            let b = end_later p at in_path in
            let e = ends in
            record { filled = omega arith; later = omega arith; inside = rw t (end_in p from (omega arith)) }

        module _ (d : is_dir es e ≡ true) where
          pub here-long : max_name < to - from → refuse ENAMETOOLONG ≡ found es ns p
          here-long g = sym (walk-long es ns p (closing p) at e h.parted in_path d (rw size (lt-ltb max_name (to - from) g))) ∙ h.walked

          module _ {x : Replaced} (g : to - from ≤ max_name) (q : x ≡ step_to es ns e (part p from to)) where
            fits : ltb max_name (length (component p at)) ≡ false
            fits = rw size (le-ltb max_name (to - from) g)

            leads : step_to es ns e (component p at) ≡ x
            leads = sym (q ∙ ap (step_to es ns e) shown)

            pub here_unknown : x ≡ None → refuse ENOENT ≡ found es ns p
            here_unknown z = sym (walk_unknown es ns p (closing p) at e h.parted in_path d fits (leads ∙ z)) ∙ h.walked

            pub here_on : (y : ℕ) → x ≡ Entry y → Here es ns p to y
            here_on y z = record {
              within = here-ends.inside;
              parted = rw t (end_between p from (omega arith));
              walked = rw ends (sym (walk-on es ns p (closing p) at e h.parted in_path d y fits (leads ∙ z)) ∙ h.walked);
            }

-- the last byte
pub closes : (p : List ℕ) → (length p ≡ 0 → ⊥) → eqb (get_or p (length p - 1) 0) slash ≡ closing p
unfolding closing
closes [] h = absurd (h refl)
closes (b ∷ []) h = refl
closes (b ∷ c ∷ p) h =
    let e : suc (suc (length p)) - 1 ≡ suc (length p) = omega arith in
    let f : suc (length p) - 1 ≡ length p = omega arith in
    ap (λ (n : ℕ). eqb (get_or (b ∷ c ∷ p) n 0) slash) e ∙ ap (λ (n : ℕ). eqb (get_or (c ∷ p) n 0) slash) (sym f) ∙ closes (c ∷ p) (λ z. let y : suc (length p) ≡ 0 = z in absurd (omega arith))

pub not_closing : (p : List ℕ) → length p ≡ 0 → false ≡ closing p
unfolding closing
not_closing [] h = refl
not_closing (b ∷ p) h = absurd (let z : suc (length p) ≡ 0 = h in omega arith)
