-- Command by command, and item by item.
use Rattle.std.proofs.Common.{◌<◌, sym, ◌∙◌, subst}
use Rattle.term_pool.specs.Views.{RefersTo}
use Rattle.rule_model.specs.Reading.{clause_at}
use Rattle.proof_prune.proofs.Corresponding.{reached_there, empty_there, empty_back, stand_left}
use Rattle.proof_prune.proofs.laws.pruning_corresponds.Goals as goal

pub returns-clause-first : goal.returns-clause-first
returns-clause-first c s v refs proof e stand h = record {
  within = subst (λ n. e < n) (c.commands_correspond.ensures.commands s v refs proof stand) h.within;
  scope = sym (c.commands_correspond.ensures.scope s v refs proof e stand) ∙ h.scope;
  empty = empty_there (RefersTo s v) (clause_at refs e) (clause_at proof e) (c.terms_correspond.ensures.clause s v refs proof e stand) h.empty;
  first = λ i less scope none.
      h.first i less (c.commands_correspond.ensures.scope s v refs proof i stand ∙ scope)
      (empty_back (RefersTo s v) (clause_at refs i) (clause_at proof i) (c.terms_correspond.ensures.clause s v refs proof i stand) none);
}

pub returns-clause-reached : goal.returns-clause-reached
returns-clause-reached c s v refs proof from marks stand h =
    let commands = c.commands_correspond.ensures in
    let terms = c.terms_correspond.ensures in
    record {
      count = h.count ∙ commands.commands s v refs proof stand;
      each = λ i. (
        λ e. reached_there refs proof (λ j. commands.premises s v refs proof j stand) (λ j. commands.closes s v refs proof j stand) (λ k. terms.last_inside s v refs proof k stand)
            (λ j. commands.scope s v refs proof j stand) (λ j. commands.rule s v refs proof j stand) from i ((h.each i).0 e),
        λ r. (h.each i).1
            (reached_there proof refs (λ j. sym (commands.premises s v refs proof j stand)) (λ j. sym (commands.closes s v refs proof j stand)) (λ k. sym (terms.last_inside s v refs proof k stand))
            (λ j. sym (commands.scope s v refs proof j stand)) (λ j. sym (commands.rule s v refs proof j stand)) from i r),
      );
    }

pub returns-clause-left : goal.returns-clause-left
returns-clause-left c s v refs proof marks stand = stand_left s v marks 0 refs proof stand
