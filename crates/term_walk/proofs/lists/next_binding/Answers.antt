use Rattle.std.proofs.Common.{refl}
use Rattle.term_walk.proofs.Pieces.{three_more}
use Rattle.term_walk.proofs.lists.next_binding.Goals as goal

pub returns-in_default-clause-next : goal.returns-in_default-clause-next
returns-in_default-clause-next c = λ bs h. (c.in_default.ensures.first bs h, refl)

pub returns-clause-next : goal.returns-clause-next
returns-clause-next c = λ bs h. record {
  of_value = c.in-Some.binding.value;
  rest = c.in-Some.binding.rest;
  has = c.in-Some.ensures.first bs h;
  put =
      three_more c.args.tasks.now.items c.push.new.self.items c.push-2.new.self.items c.push-3.new.self.items _ _ _ c.in_ok-push.ensures.items
      c.in_ok-push-2.ensures.items c.in_ok-push-3.ensures.items;
}
