use Rattle.hole_fillers.specs.Benches.{seats}
use Rattle.filled_texts.proofs.Putting.{Reached}
use Rattle.filled_texts.proofs.asking.put.Given as goal

-- the first fillers were asked, and leave the question open
abbrev pub invariant-fillers : goal.invariant-fillers
invariant-fillers g l =
    Reached l.question l.i
    (seats (λ b. (goal.Filler-dyn g (b.vtable, b.value)).budget b.value) (λ b. (goal.Filler-dyn g (b.vtable, b.value)).book b.value)
    l.fn.bench.fillers.items)
    (seats (λ b. (goal.Filler-dyn g (b.vtable, b.value)).budget b.value) (λ b. (goal.Filler-dyn g (b.vtable, b.value)).book b.value)
    l.bench.fillers.items)
