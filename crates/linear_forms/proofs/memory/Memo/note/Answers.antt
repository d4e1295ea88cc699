-- One item more in the list.
use Rattle.std.proofs.Common.{refl}
use Rattle.linear_forms.proofs.Remembering.{noted_in_list}
use Rattle.linear_forms.proofs.memory.Memo.note.Goals as goal

pub returns-then-len-lt-FEW : goal.returns-then-len-lt-FEW
returns-then-len-lt-FEW c = noted_in_list c.args.self.now _ c.args.item.now c.args.number c.in_ok-push.ensures.items refl
