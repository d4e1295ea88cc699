use Rattle.std.proofs.Common.{codes, rules}
use Rattle.std.proofs.lemmas.Result.{on_ok_weaker}
use Rattle.alethe_printer.proofs.Appended.{appended}
use Rattle.alethe_printer.proofs.Listed.{listed_ratios}
use Rattle.alethe_printer.proofs.lists.push_ratios.Goals as goal

pub returns : goal.returns
returns c =
    on_ok_weaker c.extend_from_slice.result (λ last.
    listed_ratios (codes ":args") c.args.text.now.items c.begin_list.new.text.items c.push_each_ratio.new.text.items c.extend_from_slice.new.self.items
    c.in_ok-begin_list.ensures last c.args.ratios.now (search rules) c.in_ok-push_each_ratio.ensures)
    (appended c.extend_from_slice.result _ _ _ c.extend_from_slice.ensures.items)
