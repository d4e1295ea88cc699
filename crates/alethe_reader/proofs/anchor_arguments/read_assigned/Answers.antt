-- The name, the sort, the term, its image, and the variable's leaf.
use Rattle.std.proofs.Common.{refl, ap}
use Rattle.std.proofs.lemmas.Result.{err_from_is_err_and}
use Rattle.text_items.specs.ItemShapes.{Name}
use Rattle.term_pool.proofs.Keeping.{terms-trans}
use Rattle.term_reader.proofs.Staying.{adds_then, adds_variable}
use Rattle.alethe_text.specs.ProofTerms.{place_in}
use Rattle.term_reader.proofs.Coming.{refuses}
use Rattle.alethe_reader.proofs.TermAnswers.{value_answers}
use Rattle.alethe_reader.proofs.WrittenStays.{bindings_stay}
use Rattle.alethe_reader.proofs.ArgumentReading.{name_free, fails, lacks_memory, argument_done, enough_images, outer_images, name_bad, sort_bad, term_bad, image_answers}
use Rattle.alethe_reader.proofs.anchor_arguments.read_assigned.Goals as goal

pub returns-in_err-judge_variable-clause-read : goal.returns-in_err-judge_variable-clause-read
returns-in_err-judge_variable-clause-read c settings earlier bs p opening =
    let is = err_from_is_err_and c.from_residual.result c.from_residual.ensures.1 in
    rw (is.1, is.2) (refuses refl (name_bad opening c.args.assigned.place _ _ c.named_at-variable.result c.named_at-variable.ensures c.in_err-judge_variable.field-0.0 c.in_err-judge_variable.ensures))

pub returns-in_err-sort_wanted-clause-read : goal.returns-in_err-sort_wanted-clause-read
returns-in_err-sort_wanted-clause-read c settings earlier bs p opening =
    let is = err_from_is_err_and c.from_residual-in_err-sort_wanted.result c.from_residual-in_err-sort_wanted.ensures.1 in
    rw (is.1, is.2) (refuses refl (sort_bad opening c.args.assigned.place _ _ c.named_at-variable.result c.named_at-variable.ensures c.in_ok-judge_variable.ensures c.in_err-sort_wanted.field-0.0 c.in_err-sort_wanted.ensures))

pub returns-in_err-value-clause-read : goal.returns-in_err-value-clause-read
returns-in_err-value-clause-read c settings earlier bs p opening =
    let is = err_from_is_err_and c.from_residual-in_err-value.result c.from_residual-in_err-value.ensures.1 in
    rw (is.1, is.2) (term_bad opening c.args.assigned.place _ _ c.named_at-variable.result c.named_at-variable.ensures c.in_ok-judge_variable.ensures c.in_ok-sort_wanted.ensures _ c.in_err-value.field-0.0 c.in_err-value.ensures.read)

pub image_at-requires-clause-value : goal.image_at-requires-clause-value
image_at-requires-clause-value c =
    let (settings, earlier, bs, p, opening) = c.requires.opening in
    let read = value_answers _ _ _ settings p.scope.nesting _ _ p _ (c.in_ok-value.ensures.read p.script (place_in settings p.scope.nesting) opening.reader) in
    (read.answer.value, read.answer.after.is)

pub image_at-requires-clause-outer : goal.image_at-requires-clause-outer
image_at-requires-clause-outer c = let (settings, earlier, bs, p, opening) = c.requires.opening in enough_images _ _ settings _ _ earlier bs p opening

pub image_at-requires-clause-images : goal.image_at-requires-clause-images
image_at-requires-clause-images c =
    let (settings, earlier, bs, p, opening) = c.requires.opening in
    (p.scope.nesting, _, bindings_stay _ _ _ _ c.value_at.ensures.grow.symbols.keeps c.value_at.ensures.grow.terms _ _ (outer_images _ _ settings _ _ earlier bs p opening), opening.names)

pub returns-in_err-image-clause-read : goal.returns-in_err-image-clause-read
returns-in_err-image-clause-read c settings earlier bs p opening =
    let is = err_from_is_err_and c.from_residual-in_err-image.result c.from_residual-in_err-image.ensures.1 in
    rw (is.1, is.2) (fails _ c.in_err-image.field-0.0
    (image_answers opening c.args.assigned.place _ _ c.named_at-variable.result c.named_at-variable.ensures c.in_ok-judge_variable.ensures c.in_ok-sort_wanted.ensures c.in_ok-value.ensures.read c.value_at.ensures.grow.symbols c.value_at.ensures.grow.terms c.image_at.ensures.keeps c.in_err-image.ensures.read))

pub returns-in_err-leaf-clause-read : goal.returns-in_err-leaf-clause-read
returns-in_err-leaf-clause-read c settings earlier bs p opening =
    let is = err_from_is_err_and c.from_residual-in_err-leaf.result c.from_residual-in_err-leaf.ensures.1 in
    rw (is.1, is.2) (lacks_memory _ c.variable.ensures.keeps
    (image_answers opening c.args.assigned.place _ _ c.named_at-variable.result c.named_at-variable.ensures c.in_ok-judge_variable.ensures c.in_ok-sort_wanted.ensures c.in_ok-value.ensures.read c.value_at.ensures.grow.symbols c.value_at.ensures.grow.terms c.image_at.ensures.keeps c.in_ok-image.ensures.read))

pub returns-in_err-push-clause-read : goal.returns-in_err-push-clause-read
returns-in_err-push-clause-read c settings earlier bs p opening =
    let is = err_from_is_err_and c.from_residual-in_err-push.result c.from_residual-in_err-push.ensures.1 in
    rw (is.1, is.2) (lacks_memory _ c.variable.ensures.keeps
    (image_answers opening c.args.assigned.place _ _ c.named_at-variable.result c.named_at-variable.ensures c.in_ok-judge_variable.ensures c.in_ok-sort_wanted.ensures c.in_ok-value.ensures.read c.value_at.ensures.grow.symbols c.value_at.ensures.grow.terms c.image_at.ensures.keeps c.in_ok-image.ensures.read))

pub returns-in_err-push-clause-grow : goal.returns-in_err-push-clause-grow
returns-in_err-push-clause-grow c = record { symbols = adds_then _ _ _ c.value_at.ensures.grow.symbols (adds_variable _ _ c.in_ok-leaf.leaf (record { name = c.named_at-variable.result.name.now; sort = c.in_ok-value.value.sort }) c.in_ok-leaf.ensures.found_or_new c.variable.ensures.keeps); terms = terms-trans _ _ _ c.value_at.ensures.grow.terms c.image_at.ensures.keeps }

pub returns-clause-read : goal.returns-clause-read
returns-clause-read c settings earlier bs p opening =
    let added = adds_variable _ _ c.in_ok-leaf.leaf (record { name = c.named_at-variable.result.name.now; sort = c.in_ok-value.value.sort }) c.in_ok-leaf.ensures.found_or_new c.variable.ensures.keeps in
    argument_done _ _ _ _ _ settings earlier bs p c.args.bound.now c.push.new.self c.args.reader.now c.value_at.new.self opening c.value_at.ensures.grow.symbols added (terms-trans _ _ _ c.value_at.ensures.grow.terms c.image_at.ensures.keeps)
    c.named_at-variable.result.name.now _ c.in_ok-value.value c.in_ok-leaf.leaf c.in_ok-image.image (ap (λ (n : Name). n.name) c.named_at-variable.ensures) (name_free _ _ _ _ c.in_ok-judge_variable.ensures).1 c.in_ok-leaf.ensures.leaf
    c.in_ok-push.ensures.names c.in_ok-push.ensures.images c.in_ok-push.ensures.opened
    (image_answers opening c.args.assigned.place _ _ c.named_at-variable.result c.named_at-variable.ensures c.in_ok-judge_variable.ensures c.in_ok-sort_wanted.ensures c.in_ok-value.ensures.read c.value_at.ensures.grow.symbols c.value_at.ensures.grow.terms c.image_at.ensures.keeps c.in_ok-image.ensures.read)

pub returns-clause-grow : goal.returns-clause-grow
returns-clause-grow c = record { symbols = adds_then _ _ _ c.value_at.ensures.grow.symbols (adds_variable _ _ c.in_ok-leaf.leaf (record { name = c.named_at-variable.result.name.now; sort = c.in_ok-value.value.sort }) c.in_ok-leaf.ensures.found_or_new c.variable.ensures.keeps); terms = terms-trans _ _ _ c.value_at.ensures.grow.terms c.image_at.ensures.keeps }
