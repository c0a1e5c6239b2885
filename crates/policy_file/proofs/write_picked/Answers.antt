use mathlib.Core.Path.{◌≡◌, refl, sym, ap, ◌∙◌}
use native.Mathlib.Omega.{arith}
use borrow.Author.Rules.{rules}
use lib.ListN.{length}
use Rattle.access.specs.declared.errno.Reply.TheVariants.{Done}
use Rattle.policy_write.specs.File.{policy_file, write_room}
use Rattle.policy_file.proofs.Filled.{refuses, refuses_left, writes, writes_left, too_big, no_room, has_room, laid, laid_short, ports-few, is-long}
use Rattle.policy_file.proofs.write_picked.Goals as goal

pub order_paths-m-requires : goal.order_paths-m-requires
order_paths-m-requires c =
    let p = c.requires in record { rooted = p.rooted; picked = p.picked; few = p.few; room = omega arith; apart = p.paths_apart }

pub order_ports-k-requires : goal.order_ports-k-requires
order_ports-k-requires c =
    let p = c.requires in record { few = p.few; room = omega arith; apart = p.ports-apart_lem }

pub file_size-size-requires : goal.file_size-size-requires
file_size-size-requires c =
    let a = c.args in
    let x = c.order_paths-m.ensures.0 in
    let y = c.order_ports-k.ensures.0 in
    let d = laid c.order_paths-m.ensures.1 c.order_ports-k.ensures.1 (omega arith) (omega arith) in
    (laid_short a.entries.now a.rulesets.now a.names.now a.r a.name.now a.rules.now a.picks.now c.requires _ _ _ _ d, ports-few a.entries.now a.rulesets.now a.names.now a.r a.name.now a.rules.now a.picks.now c.requires _ _ _ _ d, c.requires.name_short)

pub returns-then-size-gt-MAX_FILE : goal.returns-then-size-gt-MAX_FILE
returns-then-size-gt-MAX_FILE c =
    let a = c.args in
    let x = c.order_paths-m.ensures.0 in
    let y = c.order_ports-k.ensures.0 in
    let d = laid c.order_paths-m.ensures.1 c.order_ports-k.ensures.1 (omega arith) (omega arith) in
    let file = policy_file a.entries.now a.rulesets.now a.names.now a.r a.name.now in
    let n = c.file_size-size.ensures ∙ sym (is-long a.entries.now a.rulesets.now a.names.now a.r a.name.now a.rules.now a.picks.now c.requires _ _ _ _ d) in
    let cs = write_room (length file) (length a.out.now) in
    let h = c.if-size-gt-MAX_FILE.true in
    let q = too_big file a.out.now (omega arith) in
    record { reply = refuses cs file q (λ z. omega arith); output = refuses_left cs file q a.out.now (λ z. omega arith) }

pub returns-then-size-out : goal.returns-then-size-out
returns-then-size-out c =
    let a = c.args in
    let x = c.order_paths-m.ensures.0 in
    let y = c.order_ports-k.ensures.0 in
    let d = laid c.order_paths-m.ensures.1 c.order_ports-k.ensures.1 (omega arith) (omega arith) in
    let file = policy_file a.entries.now a.rulesets.now a.names.now a.r a.name.now in
    let n = c.file_size-size.ensures ∙ sym (is-long a.entries.now a.rulesets.now a.names.now a.r a.name.now a.rules.now a.picks.now c.requires _ _ _ _ d) in
    let cs = write_room (length file) (length a.out.now) in
    let h = c.if-size-gt-MAX_FILE.false in
    let g = c.if-size-out.true in
    let q = no_room file a.out.now (omega arith) (omega arith) in
    record { reply = refuses cs file q (λ z. omega arith); output = refuses_left cs file q a.out.now (λ z. omega arith) }

pub fill-requires : goal.fill-requires
fill-requires c =
    let a = c.args in
    let x = c.order_paths-m.ensures.0 in
    let y = c.order_ports-k.ensures.0 in
    let d = laid c.order_paths-m.ensures.1 c.order_ports-k.ensures.1 (omega arith) (omega arith) in
    let file = policy_file a.entries.now a.rulesets.now a.names.now a.r a.name.now in
    let n = c.file_size-size.ensures ∙ sym (is-long a.entries.now a.rulesets.now a.names.now a.r a.name.now a.rules.now a.picks.now c.requires _ _ _ _ d) in
    let cs = write_room (length file) (length a.out.now) in
    let g = c.if-size-out.false in
    (c.requires, d, omega arith)

pub returns : goal.returns
returns c =
    let a = c.args in
    let x = c.order_paths-m.ensures.0 in
    let y = c.order_ports-k.ensures.0 in
    let d = laid c.order_paths-m.ensures.1 c.order_ports-k.ensures.1 (omega arith) (omega arith) in
    let file = policy_file a.entries.now a.rulesets.now a.names.now a.r a.name.now in
    let n = c.file_size-size.ensures ∙ sym (is-long a.entries.now a.rulesets.now a.names.now a.r a.name.now a.rules.now a.picks.now c.requires _ _ _ _ d) in
    let cs = write_room (length file) (length a.out.now) in
    let h = c.if-size-gt-MAX_FILE.false in
    let g = c.if-size-out.false in
    let q = has_room file a.out.now (omega arith) (omega arith) in
    record { reply = ap Done n ∙ writes cs file q refl; output = c.fill.ensures ∙ writes_left cs file q a.out.now refl }
