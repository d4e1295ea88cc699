use Rattle.std.proofs.Common.{◌∙◌}
use Rattle.elab_equality.proofs.ScopeLemmas.{anchors, image_of, open_here, side_lacks, side_placed}
use Rattle.elab_equality.proofs.reflecting.image.Goals as goal

pub substitute-requires-clause-term : goal.substitute-requires-clause-term
substitute-requires-clause-term c = record { means = c.requires.side.term; refers = c.requires.side.refers }

pub substitute-requires-clause-kept : goal.substitute-requires-clause-kept
substitute-requires-clause-kept c = c.requires.scope.kept

pub returns-in-Ok-clause-image : goal.returns-in-Ok-clause-image
returns-in-Ok-clause-image c =
    let p = c.args.at.now in
    let u = c.args.terms.now in
    let job = c.requires.job in
    let law = c.anchors_are_those_of_scopes.ensures in
    image_of law p u job c.requires.rule c.args.scopes.now c.requires.scope c.args.side c.requires.side c.substitute.new.terms c.substitute.ensures.keeps c.in-Ok.image
    (c.in-Ok.ensures.term job.proof (anchors law p u job c.requires.rule c.args.scopes.now c.requires.scope) c.requires.side.term job.stand
    (open_here law p u job c.requires.rule c.args.scopes.now c.requires.scope) c.requires.side.refers)

pub returns-in-Ok-clause-scope : goal.returns-in-Ok-clause-scope
returns-in-Ok-clause-scope c = record { kept = c.substitute.ensures.kept; here = c.substitute.ensures.scope ∙ c.requires.scope.here }

pub returns-in-Ok-clause-placed : goal.returns-in-Ok-clause-placed
returns-in-Ok-clause-placed c =
    let p = c.args.at.now in
    let u = c.args.terms.now in
    let job = c.requires.job in
    let law = c.anchors_are_those_of_scopes.ensures in
    side_placed law p u job c.requires.rule c.args.scopes.now c.requires.scope c.args.side c.requires.side c.substitute.new.terms c.substitute.ensures.keeps
    (c.substitute.ensures.placed job.proof (anchors law p u job c.requires.rule c.args.scopes.now c.requires.scope) c.requires.side.term job.stand
    (open_here law p u job c.requires.rule c.args.scopes.now c.requires.scope) c.requires.side.refers)

pub returns-in-Err-clause-scope : goal.returns-in-Err-clause-scope
returns-in-Err-clause-scope c = record { kept = c.substitute.ensures.kept; here = c.substitute.ensures.scope ∙ c.requires.scope.here }

pub returns-in-Err-clause-placed : goal.returns-in-Err-clause-placed
returns-in-Err-clause-placed c =
    let p = c.args.at.now in
    let u = c.args.terms.now in
    let job = c.requires.job in
    let law = c.anchors_are_those_of_scopes.ensures in
    side_placed law p u job c.requires.rule c.args.scopes.now c.requires.scope c.args.side c.requires.side c.substitute.new.terms c.substitute.ensures.keeps
    (c.substitute.ensures.placed job.proof (anchors law p u job c.requires.rule c.args.scopes.now c.requires.scope) c.requires.side.term job.stand
    (open_here law p u job c.requires.rule c.args.scopes.now c.requires.scope) c.requires.side.refers)

pub returns-in-Err-clause-full : goal.returns-in-Err-clause-full
returns-in-Err-clause-full c is =
    let p = c.args.at.now in
    let u = c.args.terms.now in
    let job = c.requires.job in
    let law = c.anchors_are_those_of_scopes.ensures in
    side_lacks law p u job c.requires.rule c.args.scopes.now c.requires.scope c.args.side c.requires.side c.substitute.new.terms c.substitute.ensures.keeps
    (c.in-Err.ensures.full (c.refused.ensures.full is) job.proof (anchors law p u job c.requires.rule c.args.scopes.now c.requires.scope) c.requires.side.term job.stand
    (open_here law p u job c.requires.rule c.args.scopes.now c.requires.scope) c.requires.side.refers)
