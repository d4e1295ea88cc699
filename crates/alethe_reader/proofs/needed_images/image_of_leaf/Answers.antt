-- By whether it is a leaf, whether its name is bound, and where.
use Rattle.std.proofs.Common.{arith, Some, ap, sym, ◌∙◌}
use Rattle.std.proofs.lemmas.Option.{slice_get-get_or}
use Rattle.alethe_reader.proofs.NeededImages.{no_leaf, none_found, found_inside, found_other, image_found}
use Rattle.alethe_reader.proofs.needed_images.image_of_leaf.Goals as goal

pub returns-then-leaf-count : goal.returns-then-leaf-count
returns-then-leaf-count c = no_leaf c.args.symbols.now c.args.bound.now.names.used c.args.bound.now.images.items c.args.outer c.args.leaf (omega (arith, c.count.ensures.count, c.if-leaf-count.true))

pub returns-in_default : goal.returns-in_default
returns-in_default c = none_found c.args.symbols.now c.args.bound.now.names.used c.args.bound.now.images.items c.args.outer c.args.leaf c.name.result.now c.name.ensures c.in_default.ensures

pub returns-then-found-outer : goal.returns-then-found-outer
returns-then-found-outer c = found_inside c.args.symbols.now c.args.bound.now.names.used c.args.bound.now.images.items c.args.outer c.args.leaf c.name.result.now c.name.ensures c.in-Some.found c.in-Some.ensures c.if-found-outer.true

pub returns-then-variable-leaf : goal.returns-then-variable-leaf
returns-then-variable-leaf c =
    image_found c.args.symbols.now c.args.bound.now.names.used c.args.bound.now.images.items c.args.outer c.args.leaf c.name.result.now c.name.ensures c.in-Some.found c.in-Some.ensures c.if-found-outer.false c.index.result.now
    (slice_get-get_or c.args.bound.now.images.items c.in-Some.found.place c.index.result.now (omega (arith, c.if-found-outer.false, c.requires)) ∙ ap (λ b. Some b) (sym c.index.ensures)) c.if-variable-leaf.true

pub returns-else-variable-leaf : goal.returns-else-variable-leaf
returns-else-variable-leaf c =
    found_other c.args.symbols.now c.args.bound.now.names.used c.args.bound.now.images.items c.args.outer c.args.leaf c.name.result.now c.name.ensures c.in-Some.found c.in-Some.ensures c.if-found-outer.false c.index.result.now
    (slice_get-get_or c.args.bound.now.images.items c.in-Some.found.place c.index.result.now (omega (arith, c.if-found-outer.false, c.requires)) ∙ ap (λ b. Some b) (sym c.index.ensures)) c.if-variable-leaf.false
