-- No step is one of an empty block.
use Rattle.elaboration_laws.proofs.Nothing.{none_are_blocks, none_are_strict, none_are_fitting}
use Rattle.elaboration_laws.proofs.laws.nothing_need_be_added.Goals as goal

pub returns-clause-blocks : goal.returns-clause-blocks
returns-clause-blocks c refs = none_are_blocks refs

pub returns-clause-strict : goal.returns-clause-strict
returns-clause-strict c s v d refs proof pass = none_are_strict s v d refs proof pass

pub returns-clause-fitting : goal.returns-clause-fitting
returns-clause-fitting c s v d refs proof = none_are_fitting s v d refs proof
