-- What a layer holds against a move is not empty exactly if the verdict says so. Assumes nothing.
use mathlib.Core.Path.{◌≡◌, refl, sym, ap, ap₂, ◌∙◌}
use mathlib.Core.Bool.{Bool, not, ◌||◌}
use mathlib.Core.List.{List, [], ◌∷◌}
use Prim.Native.Nat.{ℕ}
use lib.Dec.{eqb}
use borrow.Author.Tests.{eqb-true, eqb-false, ne_eqb}
use Rattle.laws.specs.Tests.{any}
use Rattle.laws.proofs.Bools.{split}
use Rattle.access.specs.Rights.{has, join}
use Rattle.access.proofs.Laws.{has_join, has-none, ext_has, join-some}
use Rattle.tables.specs.Tables.{Tables}
use Rattle.tables.specs.Layers.{Layer, layer_at}
use Rattle.fs.specs.declared.verdict.Move.{Move}
use Rattle.fs.specs.Move.{denied_refer, escaping, crossing, layer_crosses}
use Rattle.fs.specs.Blame.{crossed, crossed_move}

join-none : (a : ℕ) → join 0 a ≡ a
join-none a = ext_has (join 0 a) a (λ i. has_join 0 a i ∙ ap (λ (x : Bool). x || has a i) (has-none i))

crossed-none : (es : List ℕ) (L : Layer) (m : Move) → eqb (crossed es L m) 0 ≡ eqb (crossing es L m) 0
unfolding crossed crossing
crossed-none es L m = split (eqb m.source m.target) (λ q. rw q refl)
    (λ q. rw q (split (eqb (denied_refer es L m) 0)
    (λ z. rw z (ap (λ (x : ℕ). eqb x 0) (sym (ap (λ (x : ℕ). join x (escaping es L m)) (eqb-true (denied_refer es L m) 0 z) ∙ join-none (escaping es L m)))))
    (λ z. rw z (sym (ne_eqb (join (denied_refer es L m) (escaping es L m)) 0 (join-some (denied_refer es L m) (escaping es L m) (eqb-false (denied_refer es L m) 0 z)))))))

-- over the layers of a domain
pub crosses_any : (T : Tables) (m : Move) (D : List ℕ) → any (λ l. not (eqb (crossed_move T m l) 0)) D ≡ any (layer_crosses T.entries T.layers T.pool m) D
unfolding any layer_crosses
crosses_any T m [] = refl
crosses_any T m (l ∷ D) = ap₂ ◌||◌ (ap not (crossed-none T.entries (layer_at T.layers T.pool l) m)) (crosses_any T m D)
