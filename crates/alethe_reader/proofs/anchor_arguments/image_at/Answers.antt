-- By the sort, the image, and its height.
use Rattle.std.proofs.Common.{arith, ◌≡◌, ◌-◌, Some, Err, sym, ap, refl, ◌∙◌, length}
use Rattle.std.proofs.lemmas.Result.{err_from_is_err_and}
use Rattle.sexpr.specs.declared.causes.Refusal.{Refusal}
use Rattle.problem_text.specs.Limits.{most_height}
use Rattle.term_reader.proofs.Staying.{adds_none, refers_stays}
use Rattle.alethe_reader.specs.Opening.{is_wanted}
use Rattle.term_reader.proofs.Coming.{refuses}
use Rattle.alethe_reader.proofs.ImageReading.{outer_taken, needed_replace, image_refers, image_placed, image_lacks, image_high, image_low, other_sort, no_image, no_height, image_refused, image_made}
use Rattle.alethe_reader.proofs.anchor_arguments.image_at.Goals as goal

pub returns-then-not-is_wanted-clause-read : goal.returns-then-not-is_wanted-clause-read
returns-then-not-is_wanted-clause-read c name t nesting more q is apart zip named =
    refuses refl (other_sort (Some most_height) c.args.wanted.place name c.args.wanted.sort nesting t q (ap (is_wanted c.args.wanted.sort) (sym is.sort) ∙ (sym c.is_wanted.ensures ∙ c.if-not-is_wanted.true)) ∙ ap (λ (r : Refusal). Err r) (sym c.refused.ensures))

pub with_images-requires-clause-images : goal.with_images-requires-clause-images
with_images-requires-clause-images c =
    let (t, is) = c.requires.value in
    let (nesting, more, zip, named) = c.requires.images in
    let many : c.len.result - c.len-2.result ≡ length c.args.bound.now.images.items - length c.args.bound.now.opened.items = omega arith in
    rw (c.images_needed.ensures.same, c.deref.ensures.value)
    (needed_replace _ _ c.args.terms.now _ more _ c.in_ok-needed.needed.items nesting t c.args.value c.leaves_differ.ensures.table is (outer_taken _ _ _ _ _ _ many zip) named c.in_ok-needed.ensures.needed)

pub returns-in_err-image-clause-read : goal.returns-in_err-image-clause-read
returns-in_err-image-clause-read c name t nesting more q is apart zip named =
    let made = err_from_is_err_and c.from_residual-in_err-image.result c.from_residual-in_err-image.ensures.1 in
    let many : c.len.result - c.len-2.result ≡ length c.args.bound.now.images.items - length c.args.bound.now.opened.items = omega arith in
    let outer = outer_taken _ _ _ _ _ _ many zip in
    let fits = ap (is_wanted c.args.wanted.sort) (sym is.sort) ∙ (sym c.is_wanted.ensures ∙ c.if-not-is_wanted.false) in
    let placed = image_placed _ _ c.with_images.new.terms _ more _ c.in_ok-needed.needed.items nesting t c.args.value c.leaves_differ.ensures.table is outer named c.in_ok-needed.ensures.needed apart (rw (c.images_needed.ensures.same, c.deref.ensures.value) at c.with_images.ensures.placed) in
    rw (made.1, made.2) (no_image (Some most_height) c.args.wanted.place name c.args.wanted.sort nesting t q fits _ _ c.with_images.new.terms placed c.in_err-image.field-0.0
    (λ e. image_lacks _ _ c.with_images.new.terms _ more _ c.in_ok-needed.needed.items nesting t c.args.value c.leaves_differ.ensures.table is outer named c.in_ok-needed.ensures.needed apart ((rw (c.images_needed.ensures.same, c.deref.ensures.value) at c.in_err-image.ensures.full) e)))

pub returns-in_err-height-clause-read : goal.returns-in_err-height-clause-read
returns-in_err-height-clause-read c name t nesting more q is apart zip named =
    let made = err_from_is_err_and c.from_residual-in_err-height.result c.from_residual-in_err-height.ensures.1 in
    let many : c.len.result - c.len-2.result ≡ length c.args.bound.now.images.items - length c.args.bound.now.opened.items = omega arith in
    let outer = outer_taken _ _ _ _ _ _ many zip in
    let fits = ap (is_wanted c.args.wanted.sort) (sym is.sort) ∙ (sym c.is_wanted.ensures ∙ c.if-not-is_wanted.false) in
    let placed = image_placed _ _ c.with_images.new.terms _ more _ c.in_ok-needed.needed.items nesting t c.args.value c.leaves_differ.ensures.table is outer named c.in_ok-needed.ensures.needed apart (rw (c.images_needed.ensures.same, c.deref.ensures.value) at c.with_images.ensures.placed) in
    rw (made.1, made.2) (no_height (Some most_height) c.args.wanted.place name c.args.wanted.sort nesting t q fits _ _ c.with_images.new.terms placed c.height.new.self c.height.ensures.keeps c.height.ensures.unchanged)

pub returns-then-branch-gt-MOST_HEIGHT-clause-read : goal.returns-then-branch-gt-MOST_HEIGHT-clause-read
returns-then-branch-gt-MOST_HEIGHT-clause-read c name t nesting more q is apart zip named =
    let many : c.len.result - c.len-2.result ≡ length c.args.bound.now.images.items - length c.args.bound.now.opened.items = omega arith in
    let outer = outer_taken _ _ _ _ _ _ many zip in
    let fits = ap (is_wanted c.args.wanted.sort) (sym is.sort) ∙ (sym c.is_wanted.ensures ∙ c.if-not-is_wanted.false) in
    let placed = image_placed _ _ c.with_images.new.terms _ more _ c.in_ok-needed.needed.items nesting t c.args.value c.leaves_differ.ensures.table is outer named c.in_ok-needed.ensures.needed apart (rw (c.images_needed.ensures.same, c.deref.ensures.value) at c.with_images.ensures.placed) in
    let refers = image_refers _ _ c.with_images.new.terms _ more _ c.in_ok-needed.needed.items nesting t c.args.value c.leaves_differ.ensures.table is outer named c.in_ok-needed.ensures.needed apart c.in_ok-image.image (rw (c.images_needed.ensures.same, c.deref.ensures.value) at c.in_ok-image.ensures.term) in
    image_refused (Some most_height) c.args.wanted.place name c.args.wanted.sort nesting t q fits _ _ c.with_images.new.terms placed c.height.new.self c.height.ensures.keeps c.height.ensures.unchanged
    (image_high _ _ (c.in_ok-height.ensures.height c.args.symbols.now _ c.leaves_differ.ensures.table refers) c.if-branch-gt-MOST_HEIGHT.true) _ c.refused-then-branch-gt-MOST_HEIGHT.ensures

pub returns-clause-read : goal.returns-clause-read
returns-clause-read c name t nesting more q is apart zip named =
    let many : c.len.result - c.len-2.result ≡ length c.args.bound.now.images.items - length c.args.bound.now.opened.items = omega arith in
    let outer = outer_taken _ _ _ _ _ _ many zip in
    let fits = ap (is_wanted c.args.wanted.sort) (sym is.sort) ∙ (sym c.is_wanted.ensures ∙ c.if-not-is_wanted.false) in
    let placed = image_placed _ _ c.with_images.new.terms _ more _ c.in_ok-needed.needed.items nesting t c.args.value c.leaves_differ.ensures.table is outer named c.in_ok-needed.ensures.needed apart (rw (c.images_needed.ensures.same, c.deref.ensures.value) at c.with_images.ensures.placed) in
    let refers = image_refers _ _ c.with_images.new.terms _ more _ c.in_ok-needed.needed.items nesting t c.args.value c.leaves_differ.ensures.table is outer named c.in_ok-needed.ensures.needed apart c.in_ok-image.image (rw (c.images_needed.ensures.same, c.deref.ensures.value) at c.in_ok-image.ensures.term) in
    image_made (Some most_height) c.args.wanted.place name c.args.wanted.sort nesting t q fits _ _ c.with_images.new.terms placed c.height.new.self c.height.ensures.keeps c.height.ensures.unchanged
    (image_low _ _ (c.in_ok-height.ensures.height c.args.symbols.now _ c.leaves_differ.ensures.table refers) c.if-branch-gt-MOST_HEIGHT.false) c.in_ok-image.image
    (refers_stays _ _ c.with_images.new.terms c.height.new.self (adds_none c.args.symbols.now).keeps c.height.ensures.keeps c.in_ok-image.image _ refers)
