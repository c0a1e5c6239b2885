use mathlib.Core.Bool.{not}
use mathlib.Core.Path.{◌≡◌, refl, ap, ◌∙◌}
use borrow.Author.Rules.{rules}
use Rattle.tables.specs.Tables.{Tables}
use Rattle.tables.specs.Outcome.{error_of}
use Rattle.domain.specs.Layer.{layer_code}
use Rattle.named.specs.Named.{with_names, NamedOutcome}
use Rattle.named.proofs.Replies.{lift-unsound, lift-done, part-unsound, part-done}
use Rattle.syscalls_domains.proofs.layer_rules.Goals as goal

pub returns-then-not-names_sound : goal.returns-then-not-names_sound
unfolding layer_code
returns-then-not-names_sound c =
    let s = c.names_sound.ensures in record { part = part-unsound _ s _ (ap not c.if-not-names_sound.true); answer = ap (λ (o : NamedOutcome). error_of o.reply) (lift-unsound _ _ s (ap not c.if-not-names_sound.true)); left = ap (λ (o : NamedOutcome). o.left) (lift-unsound _ _ s (ap not c.if-not-names_sound.true)) }

pub returns : goal.returns
unfolding layer_code
returns c =
    let s = c.names_sound.ensures in
    let l = c.layer_rules.ensures in record { part = part-done _ s _ (ap not c.if-not-names_sound.false) l.part; answer = l.answer ∙ ap (λ (o : NamedOutcome). error_of o.reply) (lift-done _ _ s (ap not c.if-not-names_sound.false) refl); left = ap (λ (T : Tables). with_names T c.args.names.now) l.left ∙ ap (λ (o : NamedOutcome). o.left) (lift-done _ _ s (ap not c.if-not-names_sound.false) refl) }
