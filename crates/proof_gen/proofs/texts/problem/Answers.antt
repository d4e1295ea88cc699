use Rattle.proof_gen.proofs.WholeTexts.{problem_by_parts}
use Rattle.proof_gen.proofs.texts.problem.Goals as goal

pub returns : goal.returns
returns c = problem_by_parts c.args.n c.heading.ensures c.declarations.ensures c.assertions.ensures c.new-text.ensures.items c.in_ok-extend_from_slice.ensures.items
    c.in_ok-push_each_numbered.ensures c.in_ok-push_each_filled.ensures c.in_ok-push_numbered.ensures c.in_ok-extend_from_slice-2.ensures.items
