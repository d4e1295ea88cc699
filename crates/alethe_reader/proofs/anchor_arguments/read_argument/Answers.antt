-- Behind `:=` stand the variable and the term.
use Rattle.std.proofs.Common.{refl, ap, ◌∙◌}
use Rattle.sexpr.specs.Items.{Item}
use Rattle.text_items.specs.ItemsAt.{item_at}
use Rattle.alethe_text.specs.Anchors.{argument_read}
use Rattle.alethe_text.specs.Commands.{Argument, assigned, argument_of}
use Rattle.text_items.specs.Stepping.{name_in}
use Rattle.alethe_commands.specs.CommandNodes.{sort_said}
use Rattle.term_reader.proofs.Coming.{refuses, same_outcome}
use Rattle.alethe_reader.proofs.ArgumentNodes.{term_is}
use Rattle.alethe_reader.proofs.ArgumentReading.{alone_refused}
use Rattle.alethe_reader.proofs.anchor_arguments.read_argument.Goals as goal

pub returns-in-Alone-clause-read : goal.returns-in-Alone-clause-read
returns-in-Alone-clause-read c settings earlier bs p opening =
    refuses refl (alone_refused settings earlier (argument_of (item_at c.args.items.now c.args.k)) c.in-Alone.place p c.in-Alone.ensures.same _ c.refused.ensures)

pub returns-in-Some-clause-read : goal.returns-in-Some-clause-read
returns-in-Some-clause-read c settings earlier bs p opening =
    same_outcome
    (ap (λ (a : Argument). argument_read settings earlier a p) c.in-Assigned.ensures.same
    ∙ ap (λ (i : Item). argument_read settings earlier (assigned c.in-Assigned.place (name_in c.args.items.now c.in-Assigned.variable) (sort_said c.args.items.now c.in-Assigned.sort) i) p)
    (term_is c.node-end.ensures c.in-Assigned.ensures.same c.node-behind.ensures c.in-Some.term c.in-Some.ensures))
    (c.read_assigned.ensures.read settings earlier bs p opening)
