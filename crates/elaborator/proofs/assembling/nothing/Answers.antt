use Rattle.std.proofs.Common.{List, [], ◌∷◌, ◌++◌, ◌∙◌, ap}
use Rattle.elaborator.specs.declared.putting.Opened.{Opened}
use Rattle.elaborator.proofs.Adding.{nothing_reached}
use Rattle.elaborator.proofs.assembling.nothing.Goals as goal

pub returns : goal.returns
returns c job =
    let first : Opened = record { start = 0; name = 0 } in
    nothing_reached job _ _ _ first c.in_ok-builder.ensures c.in_ok-places.ensures.items (c.in_ok-push.ensures.items ∙ ap (λ (xs : List Opened). xs ++ first ∷ []) c.new-opened.ensures.items)
