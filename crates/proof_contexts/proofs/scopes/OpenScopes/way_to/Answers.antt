use Rattle.std.proofs.Common.{◌<◌, ◌∙◌, sym, arith}
use Rattle.proof_contexts.proofs.Anchors.{some_parent, parent_less}
use Rattle.proof_contexts.proofs.WayLemmas.{way_up}
use Rattle.proof_contexts.proofs.scopes.OpenScopes.way_to.Goals as goal
use Rattle.contexts.proofs.Keeping.{no_some}

pub returns-in_default-clause-way : goal.returns-in_default-clause-way
returns-in_default-clause-way c =
    let above : 0 < c.up.at = let below = c.leave.ensures.below in let other = c.if-self-at.false in omega arith in
    absurd (some_parent c.args.proof.now c.up.at above c.up.invariant.within (sym c.parent.ensures ∙ no_some c.parent.result c.in_default.not-Some))

pub up-smaller : goal.up-smaller
up-smaller c = parent_less c.args.proof.now c.up.at c.in-Some.around c.up.invariant.within (sym c.parent.ensures ∙ c.in-Some.is)

pub up-preserved : goal.up-preserved
up-preserved c =
    let parent = sym c.parent.ensures ∙ c.in-Some.is in
    let less : c.in-Some.around < c.up.at = parent_less c.args.proof.now c.up.at c.in-Some.around c.up.invariant.within parent in
    record {
      within = let here = c.up.invariant.within in omega arith;
      way = rw c.in_ok-push.ensures.items (way_up c.args.proof.now c.up.at c.in-Some.around c.args.scope c.up.way.items c.up.invariant.within parent c.up.invariant.way);
      kept = λ s v refs kept. c.leave.ensures.kept s v refs (c.up.invariant.kept s v refs kept);
    }
