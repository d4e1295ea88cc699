use Rattle.std.proofs.Common.{refl}
use Rattle.std.proofs.lemmas.Result.{IfOk-weaker}
use Rattle.term_pool.specs.Trees.{app_tree}
use Rattle.term_pool.proofs.BuildingLemmas.{list_result_keeps, list_result_known}
use Rattle.term_pool.proofs.TermLemmas.{app_refers}
use Rattle.term_pool.proofs.terms.Terms.app.Goals as goal

pub returns-clause-term : goal.returns-clause-term
returns-clause-term c =
    rw (← c.self.view_is)
    (IfOk-weaker c.application.result _ _ (λ r built s ts t. app_refers s _ _ c.args.head r c.args.args.now built ts t)
    c.application.ensures.built)

pub returns-clause-known : goal.returns-clause-known
returns-clause-known c =
    list_result_known c.application.result _ _ _ (app_tree c.args.head) (rw (← c.self.view_is) at c.requires.args) c.application.ensures.built

pub returns-clause-keeps : goal.returns-clause-keeps
returns-clause-keeps c =
    rw (← c.self.view_is)
    (record {
      pool = refl;
      pass =
          list_result_keeps c.application.result _ _ _ (app_tree c.args.head) (rw (← c.self.view_is) at c.requires.args) c.application.ensures.built
          c.application.ensures.full;
    })
