use Rattle.std.proofs.lemmas.Result.{on_ok_weaker}
use Rattle.hole_questions.proofs.Pieces.{two_more}
use Rattle.hole_questions.proofs.Performed.{body_performs}
use Rattle.hole_questions.proofs.walk.write_body.Goals as goal

pub returns : goal.returns
returns c =
    on_ok_weaker c.save.result (λ saved bs t are refers.
    body_performs c.args.symbols.now c.leaves_differ.ensures.table c.args.terms.now c.args.tasks.now.items c.push-2.new.self.items
    c.args.writer.now c.save.new.self c.put.new.self c.args.list c.args.inside bs t are refers c.in_ok-put.ensures saved
    (two_more c.args.tasks.now.items c.push.new.self.items c.push-2.new.self.items _ _ c.in_ok-push.ensures.items c.in_ok-push-2.ensures.items))
    c.save.ensures
