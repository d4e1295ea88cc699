use Rattle.hole_fillers.proofs.Seats.{asked_result, kept_result}
use Rattle.hole_fillers.proofs.bench.Bench.ask.Goals as goal

pub returns-clause-asked : goal.returns-clause-asked
returns-clause-asked g c =
    asked_result (λ b. (goal.Filler-dyn g (b.vtable, b.value)).budget b.value) (λ b. (goal.Filler-dyn g (b.vtable, b.value)).book b.value)
    c.args.self.now.fillers.items c.args.i c.index_mut.result.now c.ask.new.filler c.args.question.now _ c.ask.result c.requires.place
    c.index_mut.ensures.value c.ask.ensures.budget c.ask.ensures.book

pub returns-clause-unchanged : goal.returns-clause-unchanged
returns-clause-unchanged g c =
    kept_result (λ b. (goal.Filler-dyn g (b.vtable, b.value)).budget b.value) (λ b. (goal.Filler-dyn g (b.vtable, b.value)).book b.value)
    c.args.self.now.fillers.items c.args.i c.index_mut.result.now c.ask.new.filler _ c.ask.result c.requires.place c.index_mut.ensures.value
    c.ask.ensures.budget_kept c.ask.ensures.book_kept
