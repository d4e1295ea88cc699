-- The place of the key of a short name is its number.
use Rattle.std.proofs.Common.{◌∙◌, ap, position, bytes_eq, nat_eq, arith}
use Rattle.name_set.specs.Packing.{packed}
use Rattle.name_set.specs.Keys.{names_of_spans, AreBytes}
use Rattle.name_set.proofs.KeyLists.{position-keys}
use Rattle.name_set.proofs.names.NameSet.find.Goals as goal

pub returns-then-name-le-MOST_PACKED-clause-number :
    goal.returns-then-name-le-MOST_PACKED-clause-number
returns-then-name-le-MOST_PACKED-clause-number c =
    let inside = c.self.inside in
    let bytes : AreBytes c.args.name.now = record { byte = λ i. omega (arith, c.type_inv.name i) } in
    c.get_index_of.ensures.index ∙ ap (λ k. position (nat_eq k) inside.keys.keys) c.packed.ensures
    ∙ ap (position (nat_eq (packed c.args.name.now))) c.self.invariant.0.keys_are
    ∙ position-keys c.args.name.now (names_of_spans inside.text.items inside.spans.items) 0 bytes c.self.invariant.0.bytes c.if-name-le-MOST_PACKED.true
    ∙ ap (position (bytes_eq c.args.name.now)) c.self.view_is
