use Rattle.rule_model.proofs.Elaboration.{all_pass, same_words, keeps_valid, keeps_holey}
use Rattle.rule_model.specs.declared.rules.Mode.{Mode}
use Rattle.rule_model.proofs.laws.elaboration.elaborations_keep_verdicts.Goals as goal

pub returns-clause-passes : goal.returns-clause-passes
returns-clause-passes c checking old new news e are = all_pass checking Mode.Strict old new e news are

pub returns-clause-holes : goal.returns-clause-holes
returns-clause-holes c checking mode old new statuses news e are new_are = same_words checking mode old new e statuses news are new_are

pub returns-clause-valid : goal.returns-clause-valid
returns-clause-valid c checking mode old new statuses news e are new_are valid = keeps_valid checking mode old new e statuses news are new_are valid

pub returns-clause-holey : goal.returns-clause-holey
returns-clause-holey c checking mode old new statuses news e are new_are holey = keeps_holey checking mode old new e statuses news are new_are holey
