-- A longer name is put into the table of them.
use Rattle.std.proofs.Common.{ap, ◌∙◌, cond, bytes_eq, Some}
use Rattle.name_set.specs.Keys.{longer_number}
use Rattle.name_set.proofs.KeyLists.{name_key-short, name_key-longer, longer_number-insert_entry}
use Rattle.name_set.proofs.names.key_for.Goals as goal

pub returns-then-name-le-MOST_PACKED-clause-key : goal.returns-then-name-le-MOST_PACKED-clause-key
returns-then-name-le-MOST_PACKED-clause-key c =
    c.packed.ensures ∙ name_key-short c.args.number c.args.name.now c.if-name-le-MOST_PACKED.true

pub returns-clause-key : goal.returns-clause-key
returns-clause-key c = name_key-longer c.args.number c.args.name.now c.if-name-le-MOST_PACKED.false

pub returns-clause-long : goal.returns-clause-long
returns-clause-long c many other =
    let was = c.args.longer.now.entries in
    ap (λ es. longer_number es other) c.in_ok-insert.ensures.entries
    ∙ longer_number-insert_entry was c.in_ok-owned.owned c.args.number other
    ∙ ap (λ n. cond (bytes_eq other n) (Some c.args.number) (longer_number was other)) c.in_ok-owned.ensures.items
