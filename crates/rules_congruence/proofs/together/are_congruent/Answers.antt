use Rattle.std.proofs.Common.{◌↔◌, List, IsTrue}
use Rattle.rule_model.specs.Congruence.{AreCongruent}
use Rattle.term_model.specs.Terms.{Term}
use Rattle.term_pool.specs.Views.{RefersTo}
use Rattle.rules_congruence.specs.Applications.{AreApplied}
use Rattle.rules_congruence.specs.Sides.{IsGiven}
use Rattle.rules_congruence.specs.Uses.{Together}
use Rattle.rules_congruence.proofs.Options.{if_ok}
use Rattle.rules_congruence.proofs.TogetherLemmas.{congruent_by, not_congruent, zip_are_terms}
use Rattle.rules_congruence.proofs.together.are_congruent.Goals as goal
use Rattle.term_parts.proofs.PartLemmas.{false_is}

pub returns-then-not-branch-clause-congruent : goal.returns-then-not-branch-clause-congruent
returns-then-not-branch-clause-congruent c ps t u given left right =
    false_is (not_congruent t u ps c.args.uses ((rw c.if-not-branch.true at c.in_ok-read.ensures.other) t u left right))

pub together-requires-clause-lefts : goal.together-requires-clause-lefts
together-requires-clause-lefts c =
    let a = (rw c.if-not-branch.false at c.in_ok-read.ensures.applied) c.requires.left.means c.requires.right.means c.requires.left.refers c.requires.right.refers in
    rw c.read.ensures.same (zip_are_terms c.args.symbols.now c.args.terms.now c.read.new.self.left.items a.cut.prefix a.cut.left)

pub together-requires-clause-rights : goal.together-requires-clause-rights
together-requires-clause-rights c =
    let a = (rw c.if-not-branch.false at c.in_ok-read.ensures.applied) c.requires.left.means c.requires.right.means c.requires.left.refers c.requires.right.refers in
    rw c.read.ensures.same (zip_are_terms c.args.symbols.now c.args.terms.now c.read.new.self.right.items a.cut.others a.cut.right)

pub returns-clause-congruent : goal.returns-clause-congruent
returns-clause-congruent c =
    let s = c.args.symbols.now in
    let v = c.args.terms.now in
    if_ok (λ yes. (ps : List (List Term)) (t u : Term) → IsGiven s v c.args.given.now.pairs.items c.args.given.now.only ps → (a : AreApplied s v c.args.uses c.read.new.self.head c.read.new.self.left.items c.read.new.self.right.items t u) → IsTrue yes ↔ Together c.args.uses a.head ps a.ts a.us)
    (λ yes. (ps : List (List Term)) (t u : Term) → IsGiven s v c.args.given.now.pairs.items c.args.given.now.only ps → RefersTo s v c.args.sides.0 t → RefersTo s v c.args.sides.1 u → IsTrue yes ↔ AreCongruent (Together c.args.uses) ps t u)
    c.together.result
    (λ yes h ps t u given left right.
    let a = (rw c.if-not-branch.false at c.in_ok-read.ensures.applied) t u left right in
    congruent_by s v c.args.uses c.read.new.self.head c.read.new.self.left.items c.read.new.self.right.items t u ps (Together c.args.uses) a (h ps t u given a))
    (rw c.read.ensures.same at c.together.ensures.together)
