-- Two rows are the same exactly if their words and their last bytes are. Assumes nothing.
use mathlib.Core.Path.{◌≡◌, sym, ap}
use mathlib.Core.Bool.{false}
use mathlib.Core.List.{List}
use Prim.Native.Nat.{ℕ, ◌+◌, ◌*◌, ◌-◌, ◌≤◌, ◌<◌}
use native.Mathlib.Omega.{arith}
use lib.Dec.{eqb, ltb}
use lib.ListN.{length, get_or}
use lib.Seq.{ext_get_or}
use borrow.Author.Tests.{eqb-true, eqb-false, eq-eqb, ltb-true, ltb-false}
use Rattle.laws.proofs.Bools.{split, agree}
use Rattle.names.specs.Names.{max_name, name_width, same_bytes}
use Rattle.names.proofs.Bytes.{bytes_equal, bytes_same}
use Rattle.sound_names_words.specs.Words.{Bytes, word_bytes, word_at}
use Rattle.sound_names_words.proofs.Words.{word_bytes_lem}

module _ (xs ys : List ℕ) where
  -- the first n bytes agree
  abbrev pub Agree : ℕ → Type 0
  Agree n = (k : ℕ) → k < n → get_or xs k 0 ≡ get_or ys k 0

  pub agree_none : Agree 0
  agree_none k l = absurd (omega arith)

  -- one more word
  pub agree_more : Bytes xs → Bytes ys → (n : ℕ) → Agree (word_bytes * n) → word_at xs (word_bytes * n) ≡ word_at ys (word_bytes * n) → Agree (word_bytes * (n + 1))
  agree_more X Y n f e k l = split (ltb k (word_bytes * n))
      (λ q. f k (ltb-true k (word_bytes * n) q))
      (λ q.
      let g : word_bytes * n ≤ k = ltb-false k (word_bytes * n) q in
      let a : word_bytes * n + (k - word_bytes * n) ≡ k = omega arith in
      rw a at (word_bytes_lem xs ys X Y (word_bytes * n) (word_bytes * n) e (k - word_bytes * n) (omega arith)))

  -- another word
  pub words_differ : (i : ℕ) → (word_at xs i ≡ word_at ys i → ⊥) → false ≡ same_bytes xs ys
  words_differ i d = split (same_bytes xs ys) (λ q. absurd (d (ap (λ (zs : List ℕ). word_at zs i) (bytes_equal xs ys q)))) (λ q. sym q)

  module _ (w : length xs ≡ name_width) (v : length ys ≡ name_width) (f : Agree max_name) where
    whole : get_or xs max_name 0 ≡ get_or ys max_name 0 → xs ≡ ys
    whole e = ext_get_or 0 xs ys (omega arith) (λ k l. split (eqb k max_name)
        (λ q. rw (eqb-true k max_name q) e)
        (λ q. let d = eqb-false k max_name q in f k (omega arith)))

    -- the last byte decides
    pub last_decides : eqb (get_or xs max_name 0) (get_or ys max_name 0) ≡ same_bytes xs ys
    last_decides = agree (eqb (get_or xs max_name 0) (get_or ys max_name 0)) (same_bytes xs ys)
        (λ q. rw (whole (eqb-true (get_or xs max_name 0) (get_or ys max_name 0) q)) (bytes_same ys))
        (λ q. eq-eqb (get_or xs max_name 0) (get_or ys max_name 0) (ap (λ (zs : List ℕ). get_or zs max_name 0) (bytes_equal xs ys q)))
