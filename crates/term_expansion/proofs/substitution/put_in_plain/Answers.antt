use Rattle.std.proofs.Common.{◌≡◌, length, refl, arith}
use Rattle.std.proofs.lemmas.Bool.Decides.{nat_tests}
use Rattle.term_expansion.proofs.Images.{empty_value, places_nothing, some_images, value_known, image_value, image_places, image_lacks}
use Rattle.term_expansion.proofs.substitution.put_in_plain.Goals as goal

pub returns-then-is_empty-clause-value : goal.returns-then-is_empty-clause-value
returns-then-is_empty-clause-value c =
    let none : length c.args.replacement.now ≡ 0 = grind (arith, nat_tests, c.is_empty.ensures, c.if-is_empty.true) in
    λ t q h k. empty_value _ _ c.args.replacement.now _ none c.requires.plain t q h k

pub returns-then-is_empty-clause-placed : goal.returns-then-is_empty-clause-placed
returns-then-is_empty-clause-placed c =
    λ t q h k. places_nothing _ c.args.terms.now c.args.terms.now c.leaves_differ.ensures.table c.args.replacement.now _ refl c.requires.plain t q h k

pub returns-in_err-images-clause-placed : goal.returns-in_err-images-clause-placed
returns-in_err-images-clause-placed c =
    λ t q h k. places_nothing _ c.args.terms.now c.args.terms.now c.leaves_differ.ensures.table c.args.replacement.now _ refl c.requires.plain t q h k

pub with_images-requires-clause-known : goal.with_images-requires-clause-known
with_images-requires-clause-known c = value_known _ _ _ c.requires.what

pub with_images-requires-clause-images : goal.with_images-requires-clause-images
with_images-requires-clause-images c =
    some_images _ _ c.leaves_differ.ensures.table c.args.replacement.now c.in_ok-images.images c.in_ok-images.ensures c.requires.replacement

pub returns-in-Ok-clause-value : goal.returns-in-Ok-clause-value
returns-in-Ok-clause-value c =
    λ t q h k.
    image_value _ _ _ c.leaves_differ.ensures.table c.args.replacement.now c.in_ok-images.images c.args.what _ c.in-Ok.image c.in_ok-images.ensures
    c.in-Ok.ensures.image refl c.requires.plain t q h k

pub returns-in-Ok-clause-placed : goal.returns-in-Ok-clause-placed
returns-in-Ok-clause-placed c =
    λ t q h k.
    image_places _ _ c.with_images.new.self c.leaves_differ.ensures.table c.args.replacement.now c.in_ok-images.images c.args.what c.in_ok-images.ensures
    c.with_images.ensures.placed c.requires.plain t q h k

pub returns-clause-placed : goal.returns-clause-placed
returns-clause-placed c =
    λ t q h k.
    image_places _ _ c.with_images.new.self c.leaves_differ.ensures.table c.args.replacement.now c.in_ok-images.images c.args.what c.in_ok-images.ensures
    c.with_images.ensures.placed c.requires.plain t q h k

pub returns-clause-full : goal.returns-clause-full
returns-clause-full c =
    λ t q h k same.
    image_lacks _ c.args.terms.now c.with_images.new.self c.leaves_differ.ensures.table c.args.replacement.now c.in_ok-images.images c.args.what c.in_ok-images.ensures
    (c.in-Err.ensures.full same) c.requires.plain t q h k
