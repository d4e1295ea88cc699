use Rattle.std.proofs.Common.{sym, subst}
use Rattle.equality_steps.specs.Blocks.{IsBlockAt}
use Rattle.equality_blocks.specs.Made.{AreMadeSteps}
use Rattle.elab_equality.proofs.WorkLemmas.{made_none, nothing_remembered}
use Rattle.elab_equality.proofs.work.Work.new.Goals as goal

pub returns-clause-work : goal.returns-clause-work
returns-clause-work c p v site = record {
  block = subst (IsBlockAt p v) (sym c.new.ensures) (c.blocks_stay.ensures.none p v site);
  forms = c.new-2.ensures.forms p v c.new.result;
  made = subst (AreMadeSteps p v) (sym c.new.ensures) (made_none p v);
  met = λ r h. absurd (nothing_remembered c.new-2.result r c.new-2.ensures.none h);
}
