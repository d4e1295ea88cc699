use Rattle.std.proofs.Common.{ℕ, ◌∙◌, ap}
use Rattle.rule_model.specs.Scopes.{Scope}
use Rattle.proof_prune.specs.Pruning.{job_of}
use Rattle.proof_prune.proofs.Marks.{if_ok_then}
use Rattle.proof_prune.proofs.pruning.left.Goals as goal

pub finish-requires : goal.finish-requires
finish-requires c = ap (λ (x : Scope ℕ ℕ). x.nesting) c.in-Ok.ensures.builder

pub returns-in-Ok : goal.returns-in-Ok
returns-in-Ok c = if_ok_then c.finish.result c.finish.ensures (λ new e. e ∙ ap (λ (x : Scope ℕ ℕ). x.items) c.in-Ok.ensures.builder)

pub write-requires-clause-none : goal.write-requires-clause-none
write-requires-clause-none c = c.nothing-written.ensures (job_of c.args.parts.now)
