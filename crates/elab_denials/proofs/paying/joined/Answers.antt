use Rattle.std.proofs.Common.{subst}
use Rattle.term_model.specs.Flips.{EqualUpToFlips}
use Rattle.term_pool.proofs.PlacedCells.{lacks_more, places_more}
use Rattle.flip_steps.specs.Stages.{IsMadeToJoin}
use Rattle.equality_blocks.specs.Made.{IsMadeFor}
use Rattle.elab_denials.specs.Working.{LacksRoom}
use Rattle.term_pool.specs.Placing.{LacksCellOf}
use Rattle.elab_denials.proofs.Results.{full_more}
use Rattle.elab_denials.proofs.WorkLemmas.{join_made, joined_done, place_later}
use Rattle.elab_denials.proofs.paying.joined.Goals as goal

pub join-joined-requires-clause-sides : goal.join-joined-requires-clause-sides
join-joined-requires-clause-sides c =
    let h = c.requires.place in
    record { left = h.left; right = h.right; left_refers = h.left_refers; right_refers = h.right_refers; sides = h.sides }

pub join-joined-requires-clause-equal : goal.join-joined-requires-clause-equal
join-joined-requires-clause-equal c t u l r =
    let h = c.requires.equal in
    let one = c.equal_exactly_where_terms_are.ensures c.args.at.now.symbols.now c.leaves_differ.ensures.table in
    let first = (one c.args.a c.args.a h.left t h.left_refers l).0 Rattle.std.proofs.Common.refl in
    let second = (one c.args.b c.args.b h.right u h.right_refers r).0 Rattle.std.proofs.Common.refl in
    subst (λ x. EqualUpToFlips t x) second (subst (λ x. EqualUpToFlips x h.right) first h.equal)

pub returns-clause-done : goal.returns-clause-done
returns-clause-done c =
    let p = c.args.at.now in
    let e = c.join-joined.ensures in
    joined_done p c.args.terms.now c.join-joined.new.terms c.args.work.now (record { block = c.join-joined.new.block; forms = c.join-joined.new.self }) c.args.a
    c.args.b (c.equal_exactly_where_terms_are-2.ensures p.symbols.now c.leaves_differ.ensures.table) e.keeps c.requires.work c.requires.place
    c.join-joined.result e.block e.forms e.units e.few e.met

pub returns-clause-went : goal.returns-clause-went
returns-clause-went c =
    let p = c.args.at.now in
    let s = p.symbols.now in
    let v = c.args.terms.now in
    let w = c.join-joined.new.terms in
    let e = c.join-joined.ensures in
    record {
      keeps = e.keeps;
      placed = places_more s v.pass w.pass (IsMadeToJoin s w c.args.a c.args.b) (IsMadeFor p w)
          (join_made p w (c.equal_exactly_where_terms_are-2.ensures s c.leaves_differ.ensures.table) c.args.a c.args.b
          (place_later p v w e.keeps c.args.a c.args.b c.requires.place)) e.placed;
    }

pub returns-clause-full : goal.returns-clause-full
returns-clause-full c =
    let p = c.args.at.now in
    let s = p.symbols.now in
    let v = c.args.terms.now in
    let w = c.join-joined.new.terms in
    let e = c.join-joined.ensures in
    full_more c.join-joined.result (LacksCellOf s w.pass (IsMadeToJoin s w c.args.a c.args.b)) (LacksRoom p w)
    (lacks_more s w.pass (IsMadeToJoin s w c.args.a c.args.b) (IsMadeFor p w)
    (join_made p w (c.equal_exactly_where_terms_are-2.ensures s c.leaves_differ.ensures.table) c.args.a c.args.b
    (place_later p v w e.keeps c.args.a c.args.b c.requires.place))) e.full
