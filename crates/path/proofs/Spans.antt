-- What the report of a component says, and that it is the component's part of the path. Assumes nothing.
use mathlib.Core.Path.{◌≡◌, refl, sym, ap, ◌∙◌}
use mathlib.Core.List.{List}
use Prim.Native.Nat.{ℕ, ◌+◌, ◌-◌, ◌≤◌, ◌<◌}
use native.Mathlib.Omega.{arith}
use lib.Dec.{ltb}
use lib.ListN.{length, drop, length-take}
use lib.Seq.{ext_get_or}
use borrow.Author.Tests.{lt-ltb, le-ltb, ltb-true, ltb-false}
use Rattle.laws.specs.Cells.{part}
use Rattle.laws.proofs.Bools.{split}
use Rattle.names.specs.Paths.{component_start, component_end, component}
use Rattle.path.specs.Span.{shown_start}
use Rattle.path.proofs.Places.{end_in, end_later, none-length, some-length}

module _ (p : List ℕ) (at : ℕ) where
  some-start : component_start p at < length p → shown_start p at ≡ component_start p at
  unfolding shown_start
  some-start l = rw (lt-ltb (component_start p at) (length p) l) refl

  none-start : length p ≤ component_start p at → shown_start p at ≡ 0
  unfolding shown_start
  none-start g = rw (le-ltb (component_start p at) (length p) g) refl

  module _ {from : ℕ} (s : from ≡ component_start p at) where
    pub none_shown : length p ≤ from → (0 ≡ shown_start p at) × (0 ≡ length (component p at))
    none_shown g = (sym (none-start (rw s at g)), sym (none-length p at (rw s at g)))

    module _ {to : ℕ} (l : from < length p) (t : to ≡ component_end p from) where
      ends : to ≡ component_end p (component_start p at)
      ends = t ∙ ap (component_end p) s

      pub some_shown : (from ≡ shown_start p at) × (to - from ≡ length (component p at))
      some_shown = (s ∙ sym (some-start (rw s at l)), rw (s, ends) (sym (some-length p at (rw s at l))))

  -- a report's part of the path
  module _ {from size : ℕ} (f : from ≡ shown_start p at) (n : size ≡ length (component p at)) where
    -- there is no component, or it stands from its start to its end
    data Cases : Type 0 where
      none : from ≡ 0 → size ≡ 0 → Cases
      some : from ≡ component_start p at → from + size ≡ component_end p (component_start p at) → component_start p at < length p → Cases

    cases : Cases
    cases = split (ltb (component_start p at) (length p))
        (λ q.
        let l = ltb-true (component_start p at) (length p) q in
        let b = end_later p at l in
        let k = some-length p at l in
        let e : from ≡ component_start p at = f ∙ some-start l in
        some e (omega arith) l)
        (λ q. let g = ltb-false (component_start p at) (length p) q in none (f ∙ none-start g) (n ∙ none-length p at g))

    pub report_in : from + size ≤ length p
    report_in = elim cases [ none z y ↦ omega arith | some a b l ↦ rw b (end_in p (component_start p at) (omega arith)) ]

    pub report_part : part p from (from + size) ≡ component p at
    unfolding component
    report_part = elim cases [
      | none z y ↦
          let t = length-take (from + size - from) (drop from p) in
          ext_get_or 0 (part p from (from + size)) (component p at) (omega arith) (λ i h. absurd (omega arith))
      | some a b l ↦ ap (part p from) b ∙ ap (λ (i : ℕ). part p i (component_end p (component_start p at))) a
    ]
