-- Document 02, W14: "show that EXDEV is never needless", for link, rename and exchange as they are, with names.
use Rattle.std.specs.Prelude.{◌≡◌, Bool, true, false, cond, not, List, [], ◌∷◌, ◌++◌, ℕ, eqb}
use Rattle.laws.specs.Refusals.{Check, ◌⇒◌, first}
use Rattle.laws.specs.Tests.{any}
use Rattle.access.specs.Errno.{EPERM, EINVAL, EXDEV}
use Rattle.access.specs.Rights.{REFER}
use Rattle.access.specs.declared.errno.Errno.{Errno}
use Rattle.access.specs.declared.errno.Reply.{Reply}
use Rattle.access.specs.declared.errno.Reply.TheVariants.{Denied}
use Rattle.access.specs.declared.rights.Rights.{Rights}
use Rattle.tables.specs.Tables.{is_dir}
use Rattle.tables.specs.Layers.{Layer, layer_at}
use Rattle.tables.specs.Outcome.{error_of}
use Rattle.fs.specs.Move.{denied_refer, escaping, layer_denies}
use Rattle.fs.specs.declared.verdict.Move.{Move}
use Rattle.tree.specs.Entries.{is_above}
use Rattle.tree.specs.Moves.{link_move, rename_move, exchange_move}
use Rattle.tree.specs.Link.{link_verdict, link_later}
use Rattle.tree.specs.Rename.{rename_verdict, rename_later, dropped}
use Rattle.tree.specs.Exchange.{exchange_names, exchange_shape, exchange_verdict}
use Rattle.theorems.specs.Claim.{domain_of}
use Rattle.theorems.specs.Named.{Youngest}
use Rattle.named.specs.Named.{Named, named_sound}
use Rattle.named.specs.Tree.{link_before, replaced_by, rename_before}
use Rattle.named.specs.Calls.{NamedCall, link, rename, exchange, reply_named}
use Rattle.gain.specs.Gain.{gained, if_moved, rename_gain, exchange_gain, link_gain}

-- a call that moves something: its refusals before the verdict, of it and after it, what the verdict judges, and what a layer would see gained
pub record Crossing : Type 0 where
  pub thread : ℕ
  pub call : NamedCall
  pub earlier : List Check
  pub verdict : List Check
  pub later : List Check
  pub move : Move
  pub gain : Layer → ℕ

unfoldable pub link_crossing : Named → ℕ → ℕ → ℕ → List ℕ → Crossing
link_crossing N t s d n =
    let es = N.core.entries in
    record {
      thread = t;
      call = link t s d n;
      earlier = link_before N t s d n ++ (is_dir es s ⇒ EPERM ∷ []);
      verdict = link_verdict N.core t s d;
      later = link_later N.core;
      move = link_move es s d;
      gain = link_gain es s d;
    }

unfoldable pub rename_crossing : Named → ℕ → ℕ → ℕ → List ℕ → Crossing
rename_crossing N t s d n =
    let es = N.core.entries in
    let x = replaced_by N d n in
    record {
      thread = t;
      call = rename t s d n;
      earlier = rename_before N.core t s d n ++ (is_above es s d ⇒ EINVAL ∷ []);
      verdict = rename_verdict N.core t s d x;
      later = rename_later es s x;
      move = rename_move es s d x;
      gain = rename_gain es s d;
    }

unfoldable pub exchange_crossing : Named → ℕ → ℕ → ℕ → ℕ → Crossing
exchange_crossing N t s d x =
    let es = N.core.entries in
    record {
      thread = t;
      call = exchange t s d x;
      earlier = exchange_names N.core t s d x ++ exchange_shape es s d x;
      verdict = exchange_verdict N.core t s d x;
      later = [];
      move = exchange_move es s d x;
      gain = exchange_gain es s d x;
    }

module _ (N : Named) (c : Crossing) where
  -- the layers of the caller's domain
  abbrev pub layers : List ℕ
  layers = domain_of N.core c.thread

  abbrev pub layer_of : ℕ → Layer
  layer_of l = layer_at N.core.layers N.core.pool l

  -- what layer l would see gained
  abbrev pub gain_in : ℕ → ℕ
  gain_in l = c.gain (layer_of l)

  -- "in some layer's eyes"
  abbrev pub some_gains : Bool
  some_gains = any (λ l. not (eqb (gain_in l) 0)) layers

  -- REFER, as far as layer l denies it
  abbrev pub refer_in : ℕ → ℕ
  refer_in l = denied_refer N.core.entries (layer_of l) c.move

  -- W8's set for EXDEV: REFER if the layer denies it, otherwise what it would see gained
  abbrev pub held_in : ℕ → ℕ
  held_in l = cond (eqb (refer_in l) 0) (gain_in l) REFER

  -- "when nothing earlier in the order refuses .., a move between directories", on sound tables
  pub record Judged : Type 0 where
    pub is-sound_lem : named_sound N ≡ true
    pub passed : first c.earlier ≡ 0
    pub apart : c.move.source ≡ c.move.target → ⊥

  -- "and no other need is denied": neither REFER nor any other, by any layer
  pub record Granted : Type 0 where
    pub needs : any (layer_denies N.core.entries N.core.layers N.core.pool c.move) layers ≡ false
    pub refer : any (λ l. not (eqb (refer_in l) 0)) layers ≡ false

  -- W8: a refusal that names the youngest layer that would see something gained, and that set
  pub record Names (r : Reply) : Type 0 where
    pub layer : ℕ
    pub youngest : Youngest gain_in layers layer (gain_in layer)
    pub is : r ≡ Denied (record { 0 = EXDEV }) layer (record { 0 = gain_in layer })

  pub record Exact : Type 0 where
    -- whatever is granted, in each layer by itself: the rights that fail containment are those gained. So it fails exactly if some right would be
    pub contained : Judged → (L : Layer) → escaping N.core.entries L c.move ≡ c.gain L
    -- "turned down for containment exactly if": the verdict, and what the call answers, which is else for its later checks to say
    pub judged : Judged → Granted → first c.verdict ≡ cond some_gains EXDEV 0
    pub answered : Judged → Granted → error_of (reply_named N c.call) ≡ cond some_gains EXDEV (first c.later)
    -- no later check answers EXDEV
    pub only_then : Judged → Granted → some_gains ≡ false → error_of (reply_named N c.call) ≡ EXDEV → ⊥
    -- the answer names the layer and what it would see gained
    pub names : Judged → Granted → some_gains ≡ true → Names (reply_named N c.call)
    -- any EXDEV, whatever else is known: nothing earlier refused, and the layer is the youngest that denies REFER or would see something gained
    pub why : (e : Errno) (l : ℕ) (r : Rights) → reply_named N c.call ≡ Denied e l r → e.0 ≡ EXDEV → Judged × Youngest held_in layers l r.0

pub record NeverNeedless : Type 0 where
  pub links : (N : Named) (t s d : ℕ) (n : List ℕ) → Exact N (link_crossing N t s d n)
  pub renames : (N : Named) (t s d : ℕ) (n : List ℕ) → Exact N (rename_crossing N t s d n)
  pub exchanges : (N : Named) (t s d x : ℕ) → Exact N (exchange_crossing N t s d x)
  -- the source itself in d would gain what its link would: what stands for the entry of a link where none is free gains the same
  pub link_as_source : (N : Named) (t s d : ℕ) (n : List ℕ) → Judged N (link_crossing N t s d n) → (L : Layer)
      → link_gain N.core.entries s d L ≡ rename_gain N.core.entries s d L
  -- that the replaced entry would go, if it is not refused, gains nothing
  pub replaced_unseen : (N : Named) (t s d : ℕ) (n : List ℕ) → Judged N (rename_crossing N t s d n) → (L : Layer)
      → gained N.core.entries (dropped (if_moved N.core.entries s d) (replaced_by N d n)) L s s ≡ rename_gain N.core.entries s d L
