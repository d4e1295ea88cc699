use Rattle.std.proofs.Common.{refl}
use Rattle.std.proofs.lemmas.List.{take_all}
use Rattle.rules_simplify.proofs.RewriteLemmas.{missing_at, loaded_more}
use Rattle.rules_simplify.proofs.rewrites.load_letters.Goals as goal

pub loop-letter-init : goal.loop-letter-init
loop-letter-init c = record { loaded = rw c.clear.ensures.items refl }

pub returns-in_default-clause-other : goal.returns-in_default-clause-other
returns-in_default-clause-other c =
    missing_at c.args.letters.now c.args.of.now c.loop-letter.letter-index _ c.loop-letter-test.true c.in_default.ensures

pub loop-letter-preserved : goal.loop-letter-preserved
loop-letter-preserved c = record {
  loaded =
      loaded_more c.args.letters.now c.args.of.now c.loop-letter.letter-index _ _ _ _ c.loop-letter-test.true c.in-Some.ensures c.in_ok-push.ensures c.loop-letter.invariant.loaded;
}

pub returns-clause-loaded : goal.returns-clause-loaded
returns-clause-loaded c = rw (take_all c.loop-letter.letter-index c.args.of.now c.loop-letter-test.false) at c.loop-letter.invariant.loaded
