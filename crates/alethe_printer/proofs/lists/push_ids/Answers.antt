use Rattle.std.proofs.Common.{rules}
use Rattle.std.proofs.lemmas.Result.{on_ok_weaker}
use Rattle.alethe_printer.proofs.Appended.{appended}
use Rattle.alethe_printer.proofs.Listed.{listed_ids}
use Rattle.alethe_printer.proofs.lists.push_ids.Goals as goal

pub returns : goal.returns
returns c =
    on_ok_weaker c.extend_from_slice.result (λ last.
    listed_ids c.args.keyword.now c.args.text.now.items c.begin_list.new.text.items c.push_each_id.new.text.items c.extend_from_slice.new.self.items
    c.in_ok-begin_list.ensures last c.args.indices.now (search rules) c.in_ok-push_each_id.ensures)
    (appended c.extend_from_slice.result _ _ _ c.extend_from_slice.ensures.items)
