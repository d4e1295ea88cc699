use Rattle.std.proofs.Common.{◌≡◌, [], ◌∷◌, ◌++◌, List, length, refl, sym, subst}
use Rattle.proof_store.specs.AddedSteps.{AddedStep}
use Rattle.proof_store.specs.declared.added.Link.{Link}
use Rattle.equality_steps.specs.Blocks.{AddsStep, IsBlockAt}
use Rattle.equality_steps.proofs.StepLemmas.{adds_pushed, block_pushed}
use Rattle.equality_steps.proofs.block.Block.push.Goals as goal

pub returns-clause-block : goal.returns-clause-block
returns-clause-block c =
    let a = c.in_ok-push.ensures.items in
    let b = c.self.view_is in
    let e : c.push.new.self.items ≡ c.args.self.now ++ c.args.step ∷ [] = cc in
    subst (IsBlockAt c.args.at.now c.args.terms.now) (sym e)
    (block_pushed c.args.at.now c.args.terms.now c.args.self.now c.args.step c.requires.block c.requires.step)

pub returns-clause-added : goal.returns-clause-added
returns-clause-added c clause h =
    let a = c.in_ok-push.ensures.items in
    let b = c.self.view_is in
    let l = c.len-number.ensures in
    let e : c.push.new.self.items ≡ c.args.self.now ++ c.args.step ∷ [] = cc in
    let n : c.len-number.result ≡ length c.args.self.now = cc in
    subst (λ (xs : List AddedStep). AddsStep c.args.at.now c.args.terms.now c.args.self.now xs (Link.New c.len-number.result) clause c.args.step.pivots) (sym e)
    (subst (λ k. AddsStep c.args.at.now c.args.terms.now c.args.self.now (c.args.self.now ++ c.args.step ∷ []) (Link.New k) clause c.args.step.pivots) (sym n)
    (adds_pushed c.args.at.now c.args.terms.now c.args.self.now c.args.step clause h))

pub returns-clause-by : goal.returns-clause-by
returns-clause-by c =
    let a = c.in_ok-push.ensures.items in
    let b = c.self.view_is in
    let e : c.push.new.self.items ≡ c.args.self.now ++ c.args.step ∷ [] = cc in
    record { before = c.args.self.now; last = c.args.step; is = e; by = refl }
