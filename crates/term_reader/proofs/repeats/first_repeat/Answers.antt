use Rattle.std.proofs.Common.{arith, sym, ◌∙◌}
use Rattle.term_reader.proofs.FormSteps.{binds_ordered}
use Rattle.term_reader.proofs.RepeatLemmas.{none_repeated, one_repeated, pair_there, left_start, left_stop, left_on, left_end}
use Rattle.term_reader.proofs.repeats.first_repeat.Goals as goal

pub returns-then-first-body-clause-place : goal.returns-then-first-body-clause-place
returns-then-first-body-clause-place c = λ bs are. none_repeated c.args.items.now c.args.first c.args.body bs are c.if-first-body.true

pub next_pair-requires : goal.next_pair-requires
next_pair-requires c = (pair_there c.args.items.now c.args.first c.args.body c.requires c.if-first-body.false).inside

pub only_pair-requires : goal.only_pair-requires
only_pair-requires c = (pair_there c.args.items.now c.args.first c.args.body c.requires c.if-first-body.false).named

pub returns-then-next_pair-body-clause-place : goal.returns-then-next_pair-body-clause-place
returns-then-next_pair-body-clause-place c =
    λ bs are. one_repeated c.args.items.now c.args.first c.args.body bs c.only_pair.result are c.if-first-body.false (sym c.next_pair.ensures ∙ c.if-next_pair-body.true) c.only_pair.ensures

pub pairs-init : goal.pairs-init
pairs-init c = record {
  there = c.requires;
  left = left_start c.args.items.now c.args.first c.args.body c.new-earlier.result.keys c.new-earlier.ensures.empty;
}

pub pair_name-requires : goal.pair_name-requires
pair_name-requires c = (pair_there c.args.items.now c.pairs.k c.args.body c.pairs.invariant.there (omega (arith, c.pairs-test.true))).named

pub returns-then-branch-clause-place : goal.returns-then-branch-clause-place
returns-then-branch-clause-place c =
    λ bs are. left_stop c.args.items.now c.args.first c.pairs.k c.args.body c.pairs.earlier.keys bs (c.pairs.invariant.left bs are) (omega (arith, c.pairs-test.true))
    c.pair_name.result.now c.pair_name.ensures c.in_ok-is_repeated.field-0 c.in_ok-is_repeated.ensures.answer c.if-branch.true

pub next_pair-k-requires : goal.next_pair-k-requires
next_pair-k-requires c = (pair_there c.args.items.now c.pairs.k c.args.body c.pairs.invariant.there (omega (arith, c.pairs-test.true))).inside

pub pairs-smaller : goal.pairs-smaller
pairs-smaller c =
    let h = pair_there c.args.items.now c.pairs.k c.args.body c.pairs.invariant.there (omega (arith, c.pairs-test.true)) in
    omega (arith, h.later, h.before, c.next_pair-k.ensures)

pub pairs-preserved : goal.pairs-preserved
pairs-preserved c =
    let h = pair_there c.args.items.now c.pairs.k c.args.body c.pairs.invariant.there (omega (arith, c.pairs-test.true)) in
    rw c.next_pair-k.ensures (record {
      there = h.others;
      left = λ bs are. left_on c.args.items.now c.args.first c.pairs.k c.args.body c.pairs.earlier.keys bs (c.pairs.invariant.left bs are) (omega (arith, c.pairs-test.true))
          c.pair_name.result.now c.pair_name.ensures c.in_ok-is_repeated.field-0 c.in_ok-is_repeated.ensures.answer c.is_repeated.new.earlier.keys c.if-branch.false (c.in_ok-is_repeated.ensures.put c.if-branch.false);
    })

pub returns-clause-place : goal.returns-clause-place
returns-clause-place c =
    λ bs are.
    let left = c.pairs.invariant.left bs are in
    let last = binds_ordered c.args.items.now c.pairs.k left.rest c.args.body left.there in
    left_end c.args.items.now c.args.first c.pairs.k c.args.body c.pairs.earlier.keys bs left (omega (arith, c.pairs-test.false))
