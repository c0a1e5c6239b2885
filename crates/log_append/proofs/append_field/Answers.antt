use mathlib.Core.Path.{refl}
use borrow.Author.Rules.{rules}
use Rattle.log_append.proofs.Fields.{field-appended}
use Rattle.log_append.proofs.append_field.Goals as goal

pub returns : goal.returns
returns c =
    let a = c.args in
    field-appended a.log.now a.used.now a.tag a.n a.head a.name.now c.requires.0 refl c.put_header.ensures c.put_number.ensures c.put_bytes.ensures
