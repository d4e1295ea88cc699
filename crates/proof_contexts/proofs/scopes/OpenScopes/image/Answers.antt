use Rattle.rule_model.specs.Contexts.{images}
use Rattle.proof_contexts.proofs.Levels.{kept_of_some, right_for_some, stand_for_images}
use Rattle.proof_contexts.proofs.scopes.OpenScopes.image.Goals as goal

pub image-requires : goal.image-requires
image-requires c = right_for_some c.args.self.now (kept_of_some c.args.symbols.now c.args.terms.now c.args.proof.now c.args.self.now c.requires.kept)

pub returns-clause-image : goal.returns-clause-image
returns-clause-image c of anchors x stand here leaf =
    c.image.ensures.image c.args.terms.now x (images anchors) leaf
    (stand_for_images c.args.symbols.now c.args.terms.now c.args.proof.now c.args.self.now c.requires.kept c.leaves_differ.ensures.table c.one_to_one.ensures (c.proofs_stand_for_one.ensures.one c.args.symbols.now c.args.terms.now c.args.proof.now) of anchors stand here)

pub returns-clause-bound : goal.returns-clause-bound
returns-clause-bound c of anchors x stand here leaf =
    let stands = stand_for_images c.args.symbols.now c.args.terms.now c.args.proof.now c.args.self.now c.requires.kept c.leaves_differ.ensures.table c.one_to_one.ensures (c.proofs_stand_for_one.ensures.one c.args.symbols.now c.args.terms.now c.args.proof.now) of anchors stand here in
    let found = c.image.ensures.replaced c.args.terms.now x (images anchors) leaf stands in
    let bind = c.images_are_closed.ensures.bound anchors x in
    ((λ some. bind.0 (found.0 some)), (λ bound. found.1 (bind.1 bound)))
