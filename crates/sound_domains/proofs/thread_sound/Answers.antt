use Rattle.laws.proofs.Conditions.{all-is, conditions}
use Rattle.sound_domains.specs.Domains.{free_sound}
use Rattle.sound_domains.proofs.Rows.{thread-free, thread-live}
use Rattle.sound_domains.proofs.thread_sound.Goals as goal

pub returns-then-youngest-ne0 : goal.returns-then-youngest-ne0
unfolding free_sound
returns-then-youngest-ne0 c =
    let a = c.args in
    thread-free a.layers.now a.threads.now a.used a.t c.if-state-eq0.true (all-is (search conditions depth 16))

pub returns-then-privs-ne0 : goal.returns-then-privs-ne0
unfolding free_sound
returns-then-privs-ne0 c =
    let a = c.args in
    thread-free a.layers.now a.threads.now a.used a.t c.if-state-eq0.true (all-is (search conditions depth 16))

pub returns-then-state-eq0 : goal.returns-then-state-eq0
unfolding free_sound
returns-then-state-eq0 c =
    let a = c.args in
    thread-free a.layers.now a.threads.now a.used a.t c.if-state-eq0.true (all-is (search conditions depth 16))

pub returns-then-state-ne1 : goal.returns-then-state-ne1
unfolding free_sound
returns-then-state-ne1 c =
    let a = c.args in
    thread-live a.layers.now a.threads.now a.used a.t c.if-state-eq0.false (all-is (search conditions depth 16))

pub returns-then-youngest-used : goal.returns-then-youngest-used
unfolding free_sound
returns-then-youngest-used c =
    let a = c.args in
    thread-live a.layers.now a.threads.now a.used a.t c.if-state-eq0.false (all-is (search conditions depth 16))

pub returns-then-privs-gt1 : goal.returns-then-privs-gt1
unfolding free_sound
returns-then-privs-gt1 c =
    let a = c.args in
    thread-live a.layers.now a.threads.now a.used a.t c.if-state-eq0.false (all-is (search conditions depth 16))

pub returns-then-admin-gt1 : goal.returns-then-admin-gt1
unfolding free_sound
returns-then-admin-gt1 c =
    let a = c.args in
    thread-live a.layers.now a.threads.now a.used a.t c.if-state-eq0.false (all-is (search conditions depth 16))

pub returns : goal.returns
unfolding free_sound
returns c =
    let a = c.args in
    thread-live a.layers.now a.threads.now a.used a.t c.if-state-eq0.false (all-is (search conditions depth 16))
