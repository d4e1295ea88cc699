use Rattle.std.proofs.Common.{◌≡◌, arith}
use Rattle.elab_equality.proofs.WorkLemmas.{done_none}
use Rattle.elab_equality.proofs.work.Work.link_bound.Goals as goal

pub returns-then-number-clause-linked : goal.returns-then-number-clause-linked
returns-then-number-clause-linked c = let e : c.args.a ≡ c.args.b = omega arith in e

pub returns-then-number-clause-done : goal.returns-then-number-clause-done
returns-then-number-clause-done c = done_none c.args.at.now c.args.terms.now c.args.self.now 2 _ c.requires.work

pub link-requires-clause-pair : goal.link-requires-clause-pair
link-requires-clause-pair c = c.requires.pair (λ e. absurd (omega (arith, e)))
