use Rattle.std.proofs.Common.{◌≡◌, ◌++◌, [], drop, map}
use Rattle.sexpr.specs.Printed.{printed_all}
use Rattle.alethe_text.specs.PrintedCommands.{symbol_items}
use Rattle.printed_proofs.specs.Numbered.{printed_id}
use Rattle.alethe_printer.specs.Stages.{space_before}
use Rattle.alethe_printer.proofs.lists.push_each_id.Given as goal

abbrev pub invariant-ids : goal.invariant-ids
invariant-ids l =
    l.initial.text.items ++ printed_all [] (symbol_items (map printed_id l.indices))
    ≡ l.text.items ++ printed_all (space_before l.k) (symbol_items (map printed_id (drop l.k l.indices)))
