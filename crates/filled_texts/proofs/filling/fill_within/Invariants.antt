use Rattle.std.proofs.Common.{◌≡◌}
use Rattle.hole_fillers.specs.Benches.{seats}
use Rattle.filled_texts.proofs.filling.fill_within.Given as goal

-- nobody was asked so far
abbrev pub invariant-pools : goal.invariant-pools
invariant-pools g l =
    seats (λ b. (goal.Filler-dyn g (b.vtable, b.value)).budget b.value) (λ b. (goal.Filler-dyn g (b.vtable, b.value)).book b.value)
    l.bench.fillers.items
    ≡ seats (λ b. (goal.Filler-dyn g (b.vtable, b.value)).budget b.value) (λ b. (goal.Filler-dyn g (b.vtable, b.value)).book b.value)
    l.fn.bench.fillers.items
