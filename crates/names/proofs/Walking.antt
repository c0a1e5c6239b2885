-- How a loop over places of the path comes to the lookup, component by component. Assumes nothing.
use mathlib.Core.Path.{◌≡◌, refl, ap, ◌∙◌}
use mathlib.Core.Bool.{Bool, true, false}
use mathlib.Core.List.{List, ◌∷◌}
use Prim.Native.Nat.{ℕ, ◌≤◌, ◌<◌}
use lib.Dec.{ltb}
use lib.ListN.{length, drop}
use Rattle.access.specs.Errno.{ENOENT, ENOTDIR, ENAMETOOLONG}
use Rattle.tables.specs.Tables.{is_dir}
use Rattle.tree.specs.declared.Replaced.TheVariants.{None, Entry}
use Rattle.names.specs.Names.{max_name}
use Rattle.names.specs.Paths.{component_start, component_end, component, components, closing, refuse, arrived, step_to, walk, found}
use Rattle.names.proofs.Component.{between, next-component, no_component}

module _ (es ns p : List ℕ) where
  -- the loop's start: at the path's start, at the root
  pub walk_start : found es ns p ≡ walk es ns (closing p) (components (drop 0 p)) 0
  unfolding found
  walk_start = refl

  pub between_start : between p 0 ≡ true
  unfolding between
  between_start = refl

  module _ (close : Bool) (at e : ℕ) (b : between p at ≡ true) where
    -- no component is left
    pub walk_end : length p ≤ component_start p at → walk es ns close (components (drop at p)) e ≡ arrived es close e
    unfolding walk
    walk_end g = ap (λ (cs : List (List ℕ)). walk es ns close cs e) (no_component p at b g)

    module _ (l : component_start p at < length p) where
      one : walk es ns close (components (drop at p)) e ≡ walk es ns close (component p at ∷ components (drop (component_end p (component_start p at)) p)) e
      one = ap (λ (cs : List (List ℕ)). walk es ns close cs e) (next-component p at b l)

      pub walk_no_dir : is_dir es e ≡ false → walk es ns close (components (drop at p)) e ≡ refuse ENOTDIR
      unfolding walk
      walk_no_dir d = one ∙ (rw d refl)

      module _ (d : is_dir es e ≡ true) where
        pub walk-long : ltb max_name (length (component p at)) ≡ true → walk es ns close (components (drop at p)) e ≡ refuse ENAMETOOLONG
        unfolding walk
        walk-long q = one ∙ (rw (d, q) refl)

        pub walk_unknown : ltb max_name (length (component p at)) ≡ false → step_to es ns e (component p at) ≡ None → walk es ns close (components (drop at p)) e ≡ refuse ENOENT
        unfolding walk
        walk_unknown q s = one ∙ (rw (d, q, s) refl)

        -- the loop's turn: on from the component's end
        pub walk-on : (x : ℕ) → ltb max_name (length (component p at)) ≡ false → step_to es ns e (component p at) ≡ Entry x
            → walk es ns close (components (drop at p)) e ≡ walk es ns close (components (drop (component_end p (component_start p at)) p)) x
        unfolding walk
        walk-on x q s = one ∙ (rw (d, q, s) refl)
