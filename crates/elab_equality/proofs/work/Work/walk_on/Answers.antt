use Rattle.std.proofs.Common.{◌≡◌, ◌∙◌, ℕ, IfOk, ap, sym, subst}
use Rattle.equality_steps.specs.Links.{LinkEquates}
use Rattle.equality_ways.specs.Ways.{turned_if}
use Rattle.elab_equality.specs.Work.{AreMadeEqual}
use Rattle.elab_equality.proofs.WalkLemmas.{not_false, not_true, used_equal, used_says, used_within}
use Rattle.elab_equality.proofs.WorkLemmas.{done_none}
use Rattle.elab_equality.proofs.work.Work.walk_on.Goals as goal

pub premise-link-requires-clause-place : goal.premise-link-requires-clause-place
premise-link-requires-clause-place c =
    let (a, b, leads) = c.requires.leads in
    used_within c.args.at.now c.args.terms.now c.args.sides.now c.requires.given c.args.used a b leads

pub returns-then-not-used-clause-linked : goal.returns-then-not-used-clause-linked
returns-then-not-used-clause-linked c a b leads =
    let p = c.args.at.now in
    let v = c.args.terms.now in
    let says = used_says p v c.args.sides.now c.requires.given c.args.self.now.block c.args.used.place (turned_if c.args.used.turned (a, b)) c.premise-link.result leads
    c.premise-link.ensures in
    subst (λ x. LinkEquates p v c.args.self.now.block c.premise-link.result (turned_if {X = ℕ} x (a, b)).0 (turned_if {X = ℕ} x (a, b)).1) (not_true c.args.used.turned c.if-not-used.true) says

pub returns-then-not-used-clause-done : goal.returns-then-not-used-clause-done
returns-then-not-used-clause-done c = done_none c.args.at.now c.args.terms.now c.args.self.now 1 _ c.requires.work

pub symm-requires-clause-given : goal.symm-requires-clause-given
symm-requires-clause-given c =
    let p = c.args.at.now in
    let v = c.args.terms.now in
    let (a, b, leads) = c.requires.leads in
    subst (λ q. LinkEquates p v c.args.self.now.block c.premise-link.result q.0 q.1) (sym (c.sides_used-left.ensures a b leads))
    (used_says p v c.args.sides.now c.requires.given c.args.self.now.block c.args.used.place (turned_if c.args.used.turned (a, b)) c.premise-link.result leads
    c.premise-link.ensures)

pub symm-requires-clause-made : goal.symm-requires-clause-made
symm-requires-clause-made c =
    let p = c.args.at.now in
    let v = c.args.terms.now in
    let (a, b, leads) = c.requires.leads in
    subst (λ q. AreMadeEqual p v q.1 q.0) (sym (c.sides_used-left.ensures a b leads))
    (used_equal p v c.args.sides.now c.requires.given c.args.used.place (turned_if c.args.used.turned (a, b)) leads)

pub returns-clause-linked : goal.returns-clause-linked
returns-clause-linked c a b leads =
    let is : c.sides_used-left.result ≡ (b, a) =
    c.sides_used-left.ensures a b leads ∙ ap (λ x. turned_if {X = ℕ} x (a, b)) (not_false c.args.used.turned c.if-not-used.false) in
    subst (λ (q : ℕ × ℕ). IfOk c.symm.result (λ link. LinkEquates c.args.at.now c.symm.new.terms c.symm.new.self.block link q.1 q.0)) is c.symm.ensures.linked
