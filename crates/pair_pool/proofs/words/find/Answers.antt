use Rattle.std.proofs.Common.{◌≡◌, length, arith}
use Rattle.pair_pool.proofs.ProbeLemmas.{full_from_passed, probing_on, probing_round}
use Rattle.pair_pool.proofs.words.find.Goals as goal
use Rattle.pair_pool.proofs.words.find.Goals.{then-at-words, else-at-words}

pub probe-preserved : goal.probe-preserved
probe-preserved c =
    elim c.if-at-words.branch [
      | then-at-words w ↦
          rw w.at-is
          (probing_round _ _ _ _ _ c.probe.invariant c.if-seen-wanted.false c.if-seen-eq0.false w.if-at-words.true)
      | else-at-words w ↦
          rw w.at-is
          (probing_on _ _ _ _ _ c.probe.invariant c.if-seen-wanted.false c.if-seen-eq0.false w.if-at-words.false)
    ]

pub returns : goal.returns
returns c =
    let all : c.probe.counter ≡ length c.args.words.now = omega arith in
    full_from_passed c.args.words.now c.args.start c.args.wanted c.requires.start
    (rw all at c.probe.invariant.passed)
