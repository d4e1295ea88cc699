use Rattle.std.proofs.Common.{◌≡◌, ◌-◌, ◌^◌, ◌∙◌, sym, ap}
use Rattle.contexts.specs.Remembering.{reference_of}
use Rattle.contexts.proofs.SlotLemmas.{noted_where, kept_where}
use Rattle.contexts.proofs.memo.note.Goals as goal

pub returns-then-stands_bare-clause-noted : goal.returns-then-stands_bare-clause-noted
returns-then-stands_bare-clause-noted c =
    let slot : c.number.result ≡ reference_of c.args.place.now = c.number.ensures.number ∙ c.reference.ensures in
    noted_where c.args.memo.now c.meet.new.self c.meet.ensures.same c.meet.result c.args.place.now c.args.r (sym c.if-stands_bare.ensures) (c.number.result - 2 ^ 30) (ap (λ n. n - 2 ^ 30) slot)
    c.meet.ensures.here c.meet.ensures.others c.meet.ensures.more

pub returns-then-stands_bare-clause-kept : goal.returns-then-stands_bare-clause-kept
returns-then-stands_bare-clause-kept c = kept_where c.args.memo.now c.meet.new.self c.meet.ensures.same c.meet.result c.meet.ensures.kept
