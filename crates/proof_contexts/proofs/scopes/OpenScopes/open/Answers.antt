use Rattle.std.proofs.Common.{◌≡◌, ◌∙◌, ◌∷◌, is_ok, true, false, reverse, refl, sym, ap, subst}
use Rattle.std.specs.List.{AllZip}
use Rattle.sym_table.proofs.Tables.{keeps_table}
use Rattle.term_model.proofs.Basics.{taken_where}
use Rattle.contexts.proofs.Results.{handed_on}
use Rattle.term_pool.specs.Bindings.{IsBindingOf}
use Rattle.rule_model.specs.Contexts.{images}
use Rattle.rule_model.specs.Reading.{bindings_at}
use Rattle.proof_contexts.proofs.Levels.{level_here, kept_later}
use Rattle.proof_contexts.proofs.Opening.{inner_replacement, kept_in, places_images, lacks_images}
use Rattle.proof_contexts.proofs.Popping.{err_is_not_ok, no_err_is_ok, left_where}
use Rattle.proof_contexts.proofs.scopes.OpenScopes.open.Goals as goal

pub images_of-requires-clause-anchor : goal.images_of-requires-clause-anchor
images_of-requires-clause-anchor c = record {
  bound = bindings_at c.requires.kept.proof c.args.k;
  are = subst (λ bs. AllZip (IsBindingOf c.args.symbols.now c.args.terms.now) bs (bindings_at c.requires.kept.proof c.args.k)) (sym c.bindings.ensures)
      (c.terms_correspond.ensures.bindings c.args.symbols.now c.args.terms.now c.args.proof.now c.requires.kept.proof c.args.k c.requires.kept.stand);
}

pub returns-in_err-images-clause-kept : goal.returns-in_err-images-clause-kept
returns-in_err-images-clause-kept c =
    kept_later c.args.symbols.now c.args.terms.now c.args.proof.now c.args.self.now c.requires.kept c.substitutions_stay.ensures.bindings c.images_of.new.terms c.images_of.ensures.keeps
    (record { alloc = c.args.self.now.alloc; around = c.args.self.now.around; here = c.args.self.now.here; substitution = c.images_of.new.outer })
    (c.proofs_stay.ensures c.args.symbols.now c.args.symbols.now c.args.terms.now c.images_of.new.terms c.args.proof.now c.requires.kept.proof (keeps_table c.args.symbols.now) c.images_of.ensures.keeps c.requires.kept.stand)
    refl c.images_of.ensures.same c.images_of.ensures.right

pub returns-in_err-images-clause-placed : goal.returns-in_err-images-clause-placed
returns-in_err-images-clause-placed c =
    let s = c.args.symbols.now in
    let v = c.args.terms.now in
    let refs = c.args.proof.now in
    let level = level_here s v refs c.args.self.now c.requires.kept in
    let zip = c.terms_correspond.ensures.bindings s v refs c.requires.kept.proof c.args.k c.requires.kept.stand in
    places_images s v refs c.args.self.now c.requires.kept c.args.k c.requires.here (c.terms_correspond.ensures.parent s v refs c.requires.kept.proof c.args.k c.requires.kept.stand)
    c.proofs_stand_for_one.ensures.one c.leaves_differ.ensures.table c.one_to_one.ensures c.images_of.new.terms.pass
    (c.images_of.ensures.placed (images level.anchors) (bindings_at c.requires.kept.proof c.args.k) level.stand (rw c.bindings.ensures zip))

pub returns-in_err-images-clause-full : goal.returns-in_err-images-clause-full
returns-in_err-images-clause-full c =
    let s = c.args.symbols.now in
    let v = c.args.terms.now in
    let refs = c.args.proof.now in
    let level = level_here s v refs c.args.self.now c.requires.kept in
    let zip = c.terms_correspond.ensures.bindings s v refs c.requires.kept.proof c.args.k c.requires.kept.stand in
    handed_on c.from_residual.result _ _ c.from_residual.ensures.1
    (λ is.
    lacks_images s v refs c.args.self.now c.requires.kept c.args.k c.requires.here (c.terms_correspond.ensures.parent s v refs c.requires.kept.proof c.args.k c.requires.kept.stand)
    c.proofs_stand_for_one.ensures.one c.leaves_differ.ensures.table c.one_to_one.ensures c.images_of.new.terms.pass
    (c.in_err-images.ensures.full is (images level.anchors) (bindings_at c.requires.kept.proof c.args.k) level.stand (rw c.bindings.ensures zip)))

pub enter-requires-clause-bindings : goal.enter-requires-clause-bindings
enter-requires-clause-bindings c =
    let s = c.args.symbols.now in
    let v = c.args.terms.now in
    let refs = c.args.proof.now in
    let level = level_here s v refs c.args.self.now c.requires.kept in
    let zip = c.terms_correspond.ensures.bindings s v refs c.requires.kept.proof c.args.k c.requires.kept.stand in
    inner_replacement s v refs c.args.self.now c.requires.kept c.args.k c.requires.here (c.terms_correspond.ensures.parent s v refs c.requires.kept.proof c.args.k c.requires.kept.stand)
    c.substitutions_stay.ensures.bindings c.images_of.new.terms c.images_of.new.outer c.images_of.ensures.keeps c.images_of.ensures.same c.in_ok-images.images.items
    (c.in_ok-images.ensures.images (images level.anchors) (bindings_at c.requires.kept.proof c.args.k) level.stand (rw c.bindings.ensures zip))

pub returns-in_err-enter-clause-kept : goal.returns-in_err-enter-clause-kept
returns-in_err-enter-clause-kept c =
    kept_later c.args.symbols.now c.args.terms.now c.args.proof.now c.args.self.now c.requires.kept c.substitutions_stay.ensures.bindings c.images_of.new.terms c.images_of.ensures.keeps
    (record { alloc = c.args.self.now.alloc; around = c.args.self.now.around; here = c.args.self.now.here; substitution = c.enter.new.self })
    (c.proofs_stay.ensures c.args.symbols.now c.args.symbols.now c.args.terms.now c.images_of.new.terms c.args.proof.now c.requires.kept.proof (keeps_table c.args.symbols.now) c.images_of.ensures.keeps c.requires.kept.stand)
    refl (c.in_err-enter.ensures.frames ∙ c.images_of.ensures.same) c.enter.ensures.right

pub returns-in_err-enter-clause-placed : goal.returns-in_err-enter-clause-placed
returns-in_err-enter-clause-placed c =
    let s = c.args.symbols.now in
    let v = c.args.terms.now in
    let refs = c.args.proof.now in
    let level = level_here s v refs c.args.self.now c.requires.kept in
    let zip = c.terms_correspond.ensures.bindings s v refs c.requires.kept.proof c.args.k c.requires.kept.stand in
    places_images s v refs c.args.self.now c.requires.kept c.args.k c.requires.here (c.terms_correspond.ensures.parent s v refs c.requires.kept.proof c.args.k c.requires.kept.stand)
    c.proofs_stand_for_one.ensures.one c.leaves_differ.ensures.table c.one_to_one.ensures c.images_of.new.terms.pass
    (c.images_of.ensures.placed (images level.anchors) (bindings_at c.requires.kept.proof c.args.k) level.stand (rw c.bindings.ensures zip))

pub returns-then-is_err-clause-kept : goal.returns-then-is_err-clause-kept
returns-then-is_err-clause-kept c =
    let failed : is_ok c.push.result ≡ false = err_is_not_ok c.push.result (sym c.is_err.ensures.value ∙ c.if-is_err.true) in
    let around = left_where (is_ok c.push.result) c.push.new.self.items _ _ failed c.push.ensures.items in
    kept_later c.args.symbols.now c.args.terms.now c.args.proof.now c.args.self.now c.requires.kept c.substitutions_stay.ensures.bindings c.images_of.new.terms c.images_of.ensures.keeps
    (record { alloc = c.args.self.now.alloc; around = c.push.new.self; here = c.args.self.now.here; substitution = c.leave.new.self })
    (c.proofs_stay.ensures c.args.symbols.now c.args.symbols.now c.args.terms.now c.images_of.new.terms c.args.proof.now c.requires.kept.proof (keeps_table c.args.symbols.now) c.images_of.ensures.keeps c.requires.kept.stand)
    (ap (λ ks. c.args.self.now.here ∷ reverse ks) around) (c.leave.ensures.frames _ _ _ c.in_ok-enter.ensures.frames ∙ c.images_of.ensures.same) (c.leave.ensures.right c.images_of.new.terms c.enter.ensures.right)

pub returns-then-is_err-clause-placed : goal.returns-then-is_err-clause-placed
returns-then-is_err-clause-placed c =
    let s = c.args.symbols.now in
    let v = c.args.terms.now in
    let refs = c.args.proof.now in
    let level = level_here s v refs c.args.self.now c.requires.kept in
    let zip = c.terms_correspond.ensures.bindings s v refs c.requires.kept.proof c.args.k c.requires.kept.stand in
    places_images s v refs c.args.self.now c.requires.kept c.args.k c.requires.here (c.terms_correspond.ensures.parent s v refs c.requires.kept.proof c.args.k c.requires.kept.stand)
    c.proofs_stand_for_one.ensures.one c.leaves_differ.ensures.table c.one_to_one.ensures c.images_of.new.terms.pass
    (c.images_of.ensures.placed (images level.anchors) (bindings_at c.requires.kept.proof c.args.k) level.stand (rw c.bindings.ensures zip))

pub returns-clause-kept : goal.returns-clause-kept
returns-clause-kept c =
    let s = c.args.symbols.now in
    let v = c.args.terms.now in
    let refs = c.args.proof.now in
    let level = level_here s v refs c.args.self.now c.requires.kept in
    let zip = c.terms_correspond.ensures.bindings s v refs c.requires.kept.proof c.args.k c.requires.kept.stand in
    let went : is_ok c.push.result ≡ true = no_err_is_ok c.push.result (sym c.is_err.ensures.value ∙ c.if-is_err.false) in
    let around = taken_where (is_ok c.push.result) c.push.new.self.items _ _ went c.push.ensures.items in
    kept_in s v refs c.args.self.now c.requires.kept c.args.k c.requires.here (c.terms_correspond.ensures.parent s v refs c.requires.kept.proof c.args.k c.requires.kept.stand)
    c.substitutions_stay.ensures.bindings c.images_of.new.terms c.images_of.new.outer c.images_of.ensures.keeps c.images_of.ensures.same c.in_ok-images.images.items
    (c.in_ok-images.ensures.images (images level.anchors) (bindings_at c.requires.kept.proof c.args.k) level.stand (rw c.bindings.ensures zip))
    (record { alloc = c.args.self.now.alloc; around = c.push.new.self; here = c.args.k; substitution = c.enter.new.self })
    (c.proofs_stay.ensures s s v c.images_of.new.terms refs c.requires.kept.proof (keeps_table s) c.images_of.ensures.keeps c.requires.kept.stand)
    refl around c.in_ok-enter.ensures.frames c.enter.ensures.right

pub returns-clause-placed : goal.returns-clause-placed
returns-clause-placed c =
    let s = c.args.symbols.now in
    let v = c.args.terms.now in
    let refs = c.args.proof.now in
    let level = level_here s v refs c.args.self.now c.requires.kept in
    let zip = c.terms_correspond.ensures.bindings s v refs c.requires.kept.proof c.args.k c.requires.kept.stand in
    places_images s v refs c.args.self.now c.requires.kept c.args.k c.requires.here (c.terms_correspond.ensures.parent s v refs c.requires.kept.proof c.args.k c.requires.kept.stand)
    c.proofs_stand_for_one.ensures.one c.leaves_differ.ensures.table c.one_to_one.ensures c.images_of.new.terms.pass
    (c.images_of.ensures.placed (images level.anchors) (bindings_at c.requires.kept.proof c.args.k) level.stand (rw c.bindings.ensures zip))
