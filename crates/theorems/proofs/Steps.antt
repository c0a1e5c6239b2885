-- One call: what it does to the entries, in the eyes of one layer of the caller's domain and one right. Assumes nothing.
use mathlib.Core.Path.{◌≡◌, refl, sym}
use mathlib.Core.Bool.{Bool, true, false, not, ◌&&◌, and-false}
use mathlib.Core.List.{List}
use Prim.Native.Nat.{ℕ}
use native.Mathlib.Omega.{arith}
use lib.Dec.{eqb}
use borrow.Author.Tests.{eqb-true, eqb-false, ltb-true, not-false}
use Rattle.laws.specs.Refusals.{Check, first}
use Rattle.laws.specs.Tests.{any, elem}
use Rattle.laws.proofs.Bools.{split, clash}
use Rattle.laws.proofs.Refusals.{passed}
use Rattle.access.specs.Limits.{max_entries}
use Rattle.access.specs.Rights.{has}
use Rattle.access.specs.declared.errno.Reply.{Reply}
use Rattle.tables.specs.Tables.{Tables, counter, kind, parent, object, live, is_dir}
use Rattle.tables.specs.Layers.{layer_at}
use Rattle.tables.specs.Outcome.{Outcome, outcome, naming}
use Rattle.sound_tree.proofs.Facts.{Tree}
use Rattle.sound.specs.Sound.{sound}
use Rattle.sound.specs.Call.{call}
use Rattle.sound.proofs.Facts.{facts}
use Rattle.judge.specs.Judge.{handled}
use Rattle.fs.specs.Move.{entry_rights, layer_crosses, verdict}
use Rattle.fs_access.specs.Access.{access_call}
use Rattle.fs.specs.declared.needs.Step.TheVariants.{Rename, Exchange}
use Rattle.net.specs.Port.{port_call}
use Rattle.task.specs.Task.{task_call}
use Rattle.ruleset.specs.Create.{created, create_done, closed, close_done}
use Rattle.rule.specs.Rule.{path_added, port_added, add_done}
use Rattle.domain_restrict.specs.Restrict.{restrict_call, restrict_done, restricted}
use Rattle.domain.specs.Layer.{layer_read}
use Rattle.domain.specs.Threads.{cloned, clone_done, privs_set, admin_set, mark_done}
use Rattle.domain_end.specs.End.{end_done, end_call}
use Rattle.kept_end.proofs.End.{ended-entries}
use Rattle.tree.specs.declared.Replaced.{Replaced}
use Rattle.tree.specs.declared.Replaced.TheVariants.{None, Entry}
use Rattle.tree.specs.Entries.{free_entry, replacing, same_object, put_entry, put_parent, free_row}
use Rattle.tree.specs.Moves.{rename_move, exchange_move, kind_at, replaced_kind}
use Rattle.tree.specs.Create.{create_shape, create_verdict, create_later, tree_create_checks, tree_created, tree_create, remove_shape, remove_verdict, remove_later, remove_checks, tree_remove}
use Rattle.tree.specs.Link.{link_shape, link_verdict, link_later, link_checks, linked, tree_link}
use Rattle.tree.specs.Rename.{rename_names, rename_shape, rename_verdict, rename_later, rename_checks, dropped, moved, tree_rename}
use Rattle.tree.specs.Exchange.{exchange_names, exchange_shape, exchange_verdict, exchange_checks, swapped, tree_exchange}
use Rattle.theorems.specs.Calls.{Call, create_ruleset, close_ruleset, add_path_rule, add_port_rule, restrict, layer-rules_lem, clone, end-thread_lem, set_no_new_privs, set-admin_lem, access, port, task, create, remove, link, rename, exchange, outcome_of, after, caller, is_done, would_free, frees}
use Rattle.theorems.specs.Claim.{domain_of}
use Rattle.theorems.proofs.Naming.{call-cases, done-named}
use Rattle.theorems.proofs.Shut.{gives, Shut, shut_up, Above}
use Rattle.kept_tree.proofs.Clear.{childless}
use Rattle.kept_tree.proofs.Fill.{free-entry}
use Rattle.kept_tree.proofs.Written.{put_other, length-move, live_dir}
use Rattle.kept_tree.proofs.Edits.{Frame, Childless, at-parent, inside, still_frame, fill_frame, clear_frame, move_frame, replace_frame, swap_frame}
use Rattle.theorems.proofs.Contained.{shut_there, shut_back}

pub record Step (T : Tables) (u : ℕ) (es' : List ℕ) (gone : ℕ → Bool) : Type 0 where
  pub frame : Frame T.entries es' gone
  pub above : (l i : ℕ) → elem l (domain_of T u) ≡ true → has (handled (layer_at T.layers T.pool l)) i ≡ true
      → Above T.entries es' gone (gives (layer_at T.layers T.pool l) i) i

-- the same of an outcome, with the entries that the call would free
abbrev StepOf : Tables → ℕ → Outcome → (ℕ → Bool) → Type 0
StepOf T u o w = Step T u o.left.entries (λ e. is_done o.reply && w e)

module _ (T : Tables) (s : sound T ≡ true) where
  whole : Tree T.entries (counter T.system)
  whole = (facts T s).tree

  still-step : (u : ℕ) (gone : ℕ → Bool) → ((z : ℕ) → gone z ≡ false) → Step T u T.entries gone
  still-step u gone q = record {
    frame = still_frame T.entries (counter T.system) whole gone q;
    above = λ l i c hd z a g r h. shut_up T.entries (gives (layer_at T.layers T.pool l) i) z h;
  }

  call_step : (u : ℕ) (cs : List Check) (done : Outcome) (w : ℕ → Bool) → (first cs ≡ 0 → StepOf T u done w) → StepOf T u (call T cs done) w
  call_step u cs done w f = call-cases T cs done (λ o. StepOf T u o w) (λ h. clash (sound T) s h) (λ h z. still-step u (λ e. false) (λ e. refl)) (λ h. f)

  -- a call with a verdict, which names a layer
  verdict-step : (a b : ℕ → ℕ) (D : List ℕ) (u : ℕ) (cs : List Check) (done : Outcome) (w : ℕ → Bool) → (first cs ≡ 0 → StepOf T u done w)
      → StepOf T u (naming a b D (call T cs done)) w
  verdict-step a b D u cs done w f = rw (done-named a b D (call T cs done).reply) (call_step u cs done w f)

  fill_step : (u n k d o : ℕ) (gone : ℕ → Bool) → ((z : ℕ) → gone z ≡ false) → live T.entries n ≡ false → Step T u (put_entry T.entries n k d o) gone
  fill_step u n k d o gone q free =
      let es = T.entries in
      record {
        frame = fill_frame es (counter T.system) whole n k d o free gone q;
        above = λ l i c hd z a g r h. rw (put_other es n k d o z 1 (λ e. clash (live es n) (rw e at a) free) (omega arith))
            (shut_up es (gives (layer_at T.layers T.pool l) i) z h);
      }

  create-step : (t d k : ℕ) → StepOf T t (tree_create T t d k) (λ e. false)
  unfolding tree_create tree_create_checks create_shape create_verdict create_later tree_created
  create-step t d k = verdict-step _ _ _ t (tree_create_checks T t d k) _ (λ e. false) (λ z.
      let p = passed (tree_create_checks T t d k) z in
      fill_step t (free_entry T.entries) k d (counter T.system) (λ e. false) (λ e. refl)
      (free-entry T.entries (ltb-true _ max_entries (not-false _ p.1.1.1.1.1.0))))

  remove-step : (t x : ℕ) → StepOf T t (tree_remove T t x) (λ e. eqb e x)
  unfolding tree_remove remove_checks remove_shape remove_verdict remove_later free_row
  remove-step t x = verdict-step _ _ _ t (remove_checks T t x) _ (λ e. eqb e x) (λ z.
      let es = T.entries in
      let p = passed (remove_checks T t x) z in
      let cx : Childless es x = childless es (counter T.system) whole x (λ z. eqb-false x 0 p.1.1.0 (sym z)) p.1.1.1.1.0 in
      record {
        frame = clear_frame es (counter T.system) whole es x (λ e. eqb e x) (λ e. refl) (λ e. refl) (λ e. refl) (λ e a. whole.in_dir e a) cx;
        above = λ l i c hd e a g r h. rw (put_other es x 0 0 0 e 1 (eqb-false e x g) (omega arith)) (shut_up es (gives (layer_at T.layers T.pool l) i) e h);
      })

  link-step : (t a d : ℕ) → StepOf T t (tree_link T t a d) (λ e. false)
  unfolding tree_link link_checks link_shape link_verdict link_later verdict linked
  link-step t a d = verdict-step _ _ _ t (link_checks T t a d) _ (λ e. false) (λ z.
      let es = T.entries in
      let p = passed (link_checks T t a d) z in
      fill_step t (free_entry es) (kind es a) d (object es a) (λ e. false) (λ e. refl)
      (free-entry es (ltb-true _ max_entries (not-false _ p.1.1.1.1.1.1.1.1.0))))

  -- ---- moves: what is shut at a is shut at d
  abbrev Goes : ℕ → ℕ → ℕ → Type 0
  Goes u a d = (l i : ℕ) → elem l (domain_of T u) ≡ true → has (handled (layer_at T.layers T.pool l)) i ≡ true → has (entry_rights T.entries a) i ≡ true
      → Shut T.entries (gives (layer_at T.layers T.pool l) i) a → Shut T.entries (gives (layer_at T.layers T.pool l) i) d

  moved-above : (u a d : ℕ) → live T.entries a ≡ true → Goes u a d → (l i : ℕ) → elem l (domain_of T u) ≡ true → has (handled (layer_at T.layers T.pool l)) i ≡ true
      → (z : ℕ) → has (entry_rights T.entries z) i ≡ true → Shut T.entries (gives (layer_at T.layers T.pool l) i) z
      → Shut T.entries (gives (layer_at T.layers T.pool l) i) (parent (put_parent T.entries a d) z)
  moved-above u a d la G l i c hd z r h =
      let es = T.entries in
      let f = gives (layer_at T.layers T.pool l) i in
      at-parent es a d z (inside es (counter T.system) whole a la) (λ p. Shut es f p)
      (λ e. G l i c hd (rw e at r) (rw e at h))
      (λ n. shut_up es f z h)

  rename-goes : (t a d : ℕ) (x : Replaced) → any (layer_crosses T.entries T.layers T.pool (rename_move T.entries a d x)) (domain_of T t) ≡ false
      → is_dir T.entries d ≡ true → Goes t a d
  rename-goes t a d x v kd l i c hd r h = shut_there T.entries (counter T.system) whole i T.layers T.pool (domain_of T t) l c hd Rename a d (replaced_kind T.entries x) 0 0 v
      (live_dir T.entries d kd) r h

  -- a row freed besides
  free-above : (a d y e : ℕ) → (e ≡ y → ⊥) → (P : ℕ → Type 0) → P (parent (put_parent T.entries a d) e) → P (parent (free_row (put_parent T.entries a d) y) e)
  unfolding free_row
  free-above a d y e n P h = rw (put_other (put_parent T.entries a d) y 0 0 0 e 1 n (omega arith)) h

  rename-step : (t a d : ℕ) (x : Replaced) → StepOf T t (tree_rename T t a d x) (λ e. replacing x (λ y. not (same_object T.entries a y) && eqb e y))
  unfolding tree_rename rename_checks rename_names rename_shape rename_verdict verdict rename_later moved dropped replacing
  rename-step t a d None = verdict-step _ _ _ t (rename_checks T t a d None) _ (λ e. false) (λ z.
      let es = T.entries in
      let p = passed (rename_checks T t a d None) z in
      let la : live es a ≡ true = not-false _ p.1.0 in
      let kd : is_dir es d ≡ true = not-false _ p.1.1.1.1.1.1.0 in
      let G : Goes t a d = rename-goes t a d None p.1.1.1.1.1.1.1.1.1.1.0 kd in
      record {
        frame = move_frame es (counter T.system) whole a d la kd (λ e. false) (λ e. refl);
        above = λ l i c hd e q g r h. moved-above t a d la G l i c hd e r h;
      })
  rename-step t a d (Entry y) = verdict-step _ _ _ t (rename_checks T t a d (Entry y)) _ (λ e. not (same_object T.entries a y) && eqb e y) (λ z.
      let es = T.entries in
      let p = passed (rename_checks T t a d (Entry y)) z in
      let la : live es a ≡ true = not-false _ p.1.0 in
      let ly : live es y ≡ true = not-false _ p.1.1.1.0 in
      let ny : (y ≡ 0 → ⊥) = eqb-false y 0 p.1.1.1.1.1.0 in
      let kd : is_dir es d ≡ true = not-false _ p.1.1.1.1.1.1.0 in
      let py : parent es y ≡ d = eqb-true (parent es y) d (not-false _ p.1.1.1.1.1.1.1.0) in
      let G : Goes t a d = rename-goes t a d (Entry y) p.1.1.1.1.1.1.1.1.1.1.0 kd in
      split (same_object es a y)
      (λ q. rw q (still-step t (λ e. false) (λ e. refl)))
      (λ q.
      let cy : Childless es y = childless es (counter T.system) whole y (λ z. ny (sym z)) (p.1.1.1.1.1.1.1.1.1.1.1 q).1.1.0 in
      rw q (record {
        frame = replace_frame es (counter T.system) whole a d y la kd ly py cy (λ e. eqb e y) (λ e. refl);
        above = λ l i c hd e u g r h. free-above a d y e (eqb-false e y g) (Shut es (gives (layer_at T.layers T.pool l) i)) (moved-above t a d la G l i c hd e r h);
      })))

  exchange-step : (t a d x : ℕ) → StepOf T t (tree_exchange T t a d x) (λ e. false)
  unfolding tree_exchange exchange_checks exchange_names exchange_shape exchange_verdict verdict swapped
  exchange-step t a d x = verdict-step _ _ _ t (exchange_checks T t a d x) _ (λ e. false) (λ z.
      let es = T.entries in
      let p = passed (exchange_checks T t a d x) z in
      let la : live es a ≡ true = not-false _ p.1.0 in
      let lx : live es x ≡ true = not-false _ p.1.1.1.0 in
      let kd : is_dir es d ≡ true = not-false _ p.1.1.1.1.1.1.0 in
      let px : parent es x ≡ d = eqb-true (parent es x) d (not-false _ p.1.1.1.1.1.1.1.0) in
      let v : any (layer_crosses es T.layers T.pool (exchange_move es a d x)) (domain_of T t) ≡ false = p.1.1.1.1.1.1.1.1.1.1.1.0 in
      let G : Goes t a d = λ l i c hd r h. shut_there es (counter T.system) whole i T.layers T.pool (domain_of T t) l c hd Exchange a d (kind_at es x) (object es x) (entry_rights es x) v
      (live_dir es d kd) r h in
      let B : Goes t x (parent es a) = λ l i c hd r h. shut_back es (counter T.system) whole i T.layers T.pool (domain_of T t) l c hd Exchange a d (kind_at es x) (object es x) (entry_rights es x) v
      x refl refl px (live_dir es (parent es a) (whole.in_dir a la)) r h in
      split (same_object es a x)
      (λ q. rw q (still-step t (λ e. false) (λ e. refl)))
      (λ q. rw q (record {
        frame = swap_frame es (counter T.system) whole a d x la kd lx (λ e. false) (λ e. refl);
        above = λ l i c hd e u g r h. at-parent (put_parent es a d) x (parent es a) e (rw (length-move es a d) (inside es (counter T.system) whole x lx))
            (Shut es (gives (layer_at T.layers T.pool l) i))
            (λ k. B l i c hd (rw k at r) (rw k at h))
            (λ n. moved-above t a d la G l i c hd e r h);
      })))

  -- every other call leaves the entries alone
  other-done : (u : ℕ) (done : Outcome) → done.left.entries ≡ T.entries → StepOf T u done (λ e. false)
  other-done u done q = rw q (still-step u (λ e. is_done done.reply && false) (λ e. and-false (is_done done.reply)))

  other_step : (u : ℕ) (cs : List Check) (done : Outcome) → done.left.entries ≡ T.entries → StepOf T u (call T cs done) (λ e. false)
  other_step u cs done q = call_step u cs done (λ e. false) (λ z. other-done u done q)

  request_step : (a b : ℕ → ℕ) (D : List ℕ) (u : ℕ) (cs : List Check) (r : Reply) → StepOf T u (naming a b D (call T cs (outcome r T))) (λ e. false)
  request_step a b D u cs r = verdict-step a b D u cs (outcome r T) (λ e. false) (λ z. other-done u (outcome r T) refl)

  pub step : (c : Call) → Step T (caller c) (after T c).entries (frees T c)
  unfolding outcome_of caller would_free frees created closed create_done close_done path_added port_added add_done restrict_call restrict_done restricted cloned clone_done end_call end_done privs_set admin_set mark_done layer_read access_call port_call task_call
  step (create_ruleset bs flags) = other_step 0 _ _ refl
  step (close_ruleset r) = other_step 0 _ _ refl
  step (add_path_rule r e rights flags) = other_step 0 _ _ refl
  step (add_port_rule r n rights flags) = other_step 0 _ _ refl
  step (restrict t r flags) = other_step t _ _ refl
  step (layer-rules_lem l) = other_step 0 _ _ refl
  step (clone t) = other_step t _ _ refl
  step (end-thread_lem t) = other_step t _ _ (ended-entries T t)
  step (set_no_new_privs t) = other_step t _ _ refl
  step (set-admin_lem t on) = other_step t _ _ refl
  step (access t e m) = request_step _ _ _ t _ _
  step (port t n m) = request_step _ _ _ t _ _
  step (task t u i) = other_step t _ _ refl
  step (create t d k) = create-step t d k
  step (remove t x) = remove-step t x
  step (link t a d) = link-step t a d
  step (rename t a d x) = rename-step t a d x
  step (exchange t a d x) = exchange-step t a d x
