use Rattle.std.proofs.Common.{◌≡◌, arith}
use Rattle.proof_contexts.proofs.Levels.{kept_left, here_outermost}
use Rattle.proof_contexts.proofs.Popping.{emptied}
use Rattle.proof_contexts.proofs.scopes.OpenScopes.leave.Goals as goal

pub returns-in_default-clause-below : goal.returns-in_default-clause-below
returns-in_default-clause-below c =
    let none = emptied c.scopes.self.around.items _ _ _ c.pop.result _ c.in_default.not-Some c.pop.ensures.cases c.pop.ensures.rest c.pop.ensures.items in
    let first : c.scopes.self.here ≡ 0 =
    here_outermost c.requires.table c.requires.view c.requires.refs c.scopes.self none
    (c.scopes.invariant c.requires.table c.requires.view c.requires.refs c.requires.kept) in
    omega (arith, first)

pub leave-requires : goal.leave-requires
leave-requires c = record {
  view = c.requires.view;
  right = (c.scopes.invariant c.requires.table c.requires.view c.requires.refs c.requires.kept).right;
}

pub scopes-preserved : goal.scopes-preserved
scopes-preserved c s v refs kept =
    kept_left s v refs c.scopes.self (record { alloc = c.scopes.self.alloc; around = c.pop.new.self; here = c.in-Some.outer; substitution = c.leave.new.self })
    c.in-Some.ensures.items c.leave.ensures.frames (c.leave.ensures.right v) (c.scopes.invariant s v refs kept)
