-- Public. The steps of arithmetic for which references stand.
use Rattle.std.specs.Prelude.{◌≡◌, List, Option}
use Rattle.rule_model.specs.Judged.{Judged}
use Rattle.rule_model.specs.Proofs.{Fraction}
use Rattle.sym_table.specs.Table.{Table}
use Rattle.term_parts.specs.Judging.{StandsForStep}
use Rattle.term_parts.specs.declared.steps.Step.{Step}
use Rattle.term_pool.specs.Views.{TermsView}

-- the references stand for those of the step, and the coefficients are its own
pub record StandsWithRatios (s : Table) (v : TermsView) (given : Step) (fractions : Option (List Fraction)) (j : Judged) : Type 0 where
  pub step : StandsForStep s v given j
  pub ratios : j.ratios ≡ fractions
