use Rattle.std.proofs.Common.{◌≡◌, ◌++◌, [], drop, map}
use Rattle.sexpr.specs.Printed.{printed_all}
use Rattle.proof_store.specs.Ratios.{fraction_of_ratio}
use Rattle.printed_proofs.specs.Coefficients.{coefficient_items}
use Rattle.alethe_printer.specs.Stages.{space_before}
use Rattle.alethe_printer.proofs.lists.push_each_ratio.Given as goal

abbrev pub invariant-ratios : goal.invariant-ratios
invariant-ratios l =
    l.initial.text.items ++ printed_all [] (coefficient_items (map fraction_of_ratio l.ratios))
    ≡ l.text.items ++ printed_all (space_before l.k) (coefficient_items (map fraction_of_ratio (drop l.k l.ratios)))
