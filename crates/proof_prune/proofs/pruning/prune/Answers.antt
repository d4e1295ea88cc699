use Rattle.std.proofs.Common.{sym, subst, arith}
use Rattle.pruned_proofs.specs.Reached.{AreReachedMarks}
use Rattle.proof_prune.specs.Closers.{AreClosers}
use Rattle.proof_prune.proofs.pruning.prune.Goals as goal

pub left-requires : goal.left-requires
left-requires c = record {
  formed = c.count-commands.ensures.well_formed;
  from = c.args.from;
  within = c.requires.within;
  outer = c.requires.outer;
  are = subst (AreReachedMarks c.args.proof.now c.args.from) (sym c.deref.ensures.value) c.in_ok-kept.ensures;
  closers = subst (AreClosers c.args.proof.now) (sym c.deref-2.ensures.value) c.in_ok-closers.ensures;
  few = let n = c.count-commands.ensures.count in let f = c.count-commands.ensures.few in omega arith;
  few_scopes = c.count-commands.ensures.few_scopes;
}

pub returns : goal.returns
returns c = record {
  marks = c.deref.result.now;
  reached = subst (AreReachedMarks c.args.proof.now c.args.from) (sym c.deref.ensures.value) c.in_ok-kept.ensures;
  left = c.in_ok-new.ensures;
}
