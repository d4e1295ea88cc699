use Rattle.std.proofs.Common.{refl}
use Rattle.proof_contexts.proofs.Levels.{kept_start}
use Rattle.proof_contexts.proofs.scopes.OpenScopes.new.Goals as goal

pub returns-clause-kept : goal.returns-clause-kept
returns-clause-kept c =
    kept_start c.args.symbols.now c.args.terms.now c.args.proof.now c.requires.proof c.requires.stand (c.scopes_are_a_tree.ensures.root c.requires.proof)
    (record { alloc = c.args.alloc; around = c.new-2.result; here = 0; substitution = c.in_ok-substitution.substitution })
    refl c.new-2.ensures.items c.in_ok-substitution.ensures.frames (c.in_ok-substitution.ensures.right c.args.terms.now)
