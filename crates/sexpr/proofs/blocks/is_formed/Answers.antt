-- What has form so far, block by block.
use Rattle.std.proofs.Common.{◌≡◌, ◌+◌, sym, subst, arith, eqb-true}
use Rattle.sexpr.specs.Blocks.{IsFormedSoFar}
use Rattle.sexpr.proofs.FineBytes.{formed_from_start, formed_whole}
use Rattle.sexpr.proofs.blocks.is_formed.Goals as goal

pub loop-place-init : goal.loop-place-init
loop-place-init c = record { within = omega arith; formed = formed_from_start c.args.bytes.now }

pub loop-place-preserved-in-Some : goal.loop-place-preserved-in-Some
loop-place-preserved-in-Some c = record {
  within = omega (arith, c.if-bytes-place-gt-BLOCK.true);
  formed = subst (λ i. IsFormedSoFar c.args.bytes.now (c.loop-place.place + 16) i c.in-Some.after) (sym c.is_word_byte-inside.ensures) c.in-Some.ensures;
}

pub returns : goal.returns
returns c none =
    let l = c.loop-place in
    let depth : l.depth ≡ 0 = eqb-true l.depth 0 none in
    formed_whole c.args.bytes.now l.place l.inside l.invariant.within (omega (arith, c.loop-place-test.false))
    (subst (IsFormedSoFar c.args.bytes.now l.place l.inside) depth l.invariant.formed)
