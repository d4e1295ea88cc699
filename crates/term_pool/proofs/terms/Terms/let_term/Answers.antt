use Rattle.std.proofs.Common.{refl}
use Rattle.std.proofs.lemmas.Result.{IfOk-weaker}
use Rattle.term_pool.specs.Trees.{let_term_tree}
use Rattle.term_pool.proofs.BuildingLemmas.{let_result_keeps, let_result_known}
use Rattle.term_pool.proofs.TermLemmas.{let_refers}
use Rattle.term_pool.proofs.terms.Terms.let_term.Goals as goal

pub returns-clause-term : goal.returns-clause-term
returns-clause-term c =
    rw (← c.self.view_is)
    (IfOk-weaker c.let_term.result _ _
    (λ r built s bs u. let_refers s _ _ r c.args.body c.args.vars.now c.args.values.now built bs u)
    c.let_term.ensures.built)

pub returns-clause-built : goal.returns-clause-built
returns-clause-built c = rw (← c.self.view_is) c.let_term.ensures.built

pub returns-clause-full : goal.returns-clause-full
returns-clause-full c = rw (← c.self.view_is) c.let_term.ensures.full

pub returns-clause-known : goal.returns-clause-known
returns-clause-known c =
    let_result_known c.let_term.result _ _ _ _ (let_term_tree c.args.vars.now) (rw (← c.self.view_is) at c.requires.values)
    (rw (← c.self.view_is) at c.requires.body) c.let_term.ensures.built

pub returns-clause-keeps : goal.returns-clause-keeps
returns-clause-keeps c =
    rw (← c.self.view_is)
    (record {
      pool = refl;
      pass =
          let_result_keeps c.let_term.result _ _ _ _ (let_term_tree c.args.vars.now) (rw (← c.self.view_is) at c.requires.values)
          (rw (← c.self.view_is) at c.requires.body) c.let_term.ensures.built c.let_term.ensures.full;
    })
