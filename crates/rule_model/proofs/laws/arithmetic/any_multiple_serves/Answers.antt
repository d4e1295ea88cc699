use Rattle.rule_model.proofs.Multiples.{any_multiple, asks_by, enough_by}
use Rattle.rule_model.proofs.laws.arithmetic.any_multiple_serves.Goals as goal

pub returns-clause-multiples : goal.returns-clause-multiples
returns-clause-multiples c ls m n one other h = any_multiple ls m n one other h

pub returns-clause-asks : goal.returns-clause-asks
returns-clause-asks c ratios premises clause met n multiple = asks_by ratios premises clause met n multiple

pub returns-clause-enough : goal.returns-clause-enough
returns-clause-enough c ratios premises clause form n multiple h = enough_by ratios premises clause form n multiple h
