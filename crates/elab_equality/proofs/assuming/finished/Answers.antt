use Rattle.std.proofs.Common.{[], ◌∷◌, refl}
use Rattle.elab_equality.proofs.AssumeEndLemmas.{weakened, whole_block}
use Rattle.elab_equality.proofs.AssumeLemmas.{assume_is}
use Rattle.elab_equality.proofs.assuming.finished.Goals as goal

pub weakening-requires-clause-given : goal.weakening-requires-clause-given
weakening-requires-clause-given c =
    weakened c.args.at.now c.args.terms.now c.requires.job c.args.assumed c.requires.clause c.args.work.block c.args.link c.requires.given

pub returns : goal.returns
returns c =
    let h = c.requires.given in
    record {
      made = whole_block c.args.at.now c.args.terms.now c.requires.job c.args.assumed c.requires.clause
          (assume_is c.args.at.now c.args.terms.now c.requires.job c.requires.rule).closes c.args.work (record { block = c.weakening.new.block; forms = c.args.work.forms })
          h.term c.in_ok-_last._last c.requires.work refl h.refers c.in_ok-_last.ensures.block (c.in_ok-_last.ensures.added (h.term ∷ []) (h.refers, tt))
          c.in_ok-_last.ensures.by c.requires.few;
    }
