use Rattle.std.proofs.Common.{◌∙◌, sym, ◌<◌, length, arith}
use Rattle.contexts.proofs.NumberedLists.{shadowed_at}
use Rattle.contexts.proofs.layers.Layers.found.Goals as goal

pub returns-then-same : goal.returns-then-same
returns-then-same c =
    let inside : c.in_ok-number.field-0.now < length c.args.self.now.lists.items = grind arith in
    (inside, shadowed_at _ _ _ inside c.index.ensures ∙ sym c.deref.ensures.value ∙ c.same.ensures.0 c.if-same.true)
