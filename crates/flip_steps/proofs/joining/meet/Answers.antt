use Rattle.std.proofs.Common.{◌≤◌, ◌+◌, ◌∷◌, [], refl, sym, ◌∙◌, subst, arith}
use Rattle.equality_steps.specs.Links.{LinkEquates}
use Rattle.term_pool.proofs.PlacedCells.{lacks_more, places_more, places_more_then}
use Rattle.flip_steps.specs.Stages.{IsEqualityOf, IsMadeFrom, IsMadeToJoin}
use Rattle.flip_steps.proofs.EquateLemmas.{chained_two, grows_none, grows_then}
use Rattle.flip_steps.proofs.JoinLemmas.{alone_left, formed_as, grows_as, join_both, join_right, link_left, linked_left}
use Rattle.flip_steps.proofs.MemoryLemmas.{equates_later}
use Rattle.flip_steps.proofs.OrderLemmas.{made_from_later}
use Rattle.flip_steps.proofs.Results.{handed_on}
use Rattle.flip_steps.proofs.UnitLemmas.{units_extend}
use Rattle.flip_steps.proofs.joining.meet.Goals as goal

pub returns-in_default-clause-joined : goal.returns-in_default-clause-joined
returns-in_default-clause-joined c =
    let x = c.args.sides.now in
    linked_left c.args.at.now c.args.terms.now c.args.block.now x.a x.b x.left x.right c.requires.left c.requires.right c.requires.one c.in_default.is

pub returns-in_default-clause-grown : goal.returns-in_default-clause-grown
returns-in_default-clause-grown c =
    grows_none c.args.at.now c.args.terms.now c.args.block.now
    (IsMadeToJoin c.args.at.now.symbols.now c.args.terms.now c.args.sides.now.a c.args.sides.now.b) 2 c.requires.block

pub turn_back-requires-clause-formed : goal.turn_back-requires-clause-formed
turn_back-requires-clause-formed c =
    formed_as c.args.at.now c.args.terms.now c.args.block.now c.args.sides.now.b c.args.sides.now.right c.in-Some.back c.in-Some.is c.requires.right

pub returns-in_err-turned-clause-placed : goal.returns-in_err-turned-clause-placed
returns-in_err-turned-clause-placed c =
    let s = c.args.at.now.symbols.now in
    let w = c.turn_back.new.terms in
    let x = c.args.sides.now in
    places_more s c.args.terms.now.pass w.pass (IsMadeFrom s w x.b) (IsMadeToJoin s w x.a x.b) (join_right s w x.a x.b) c.in_err-turned.ensures.placed

pub returns-in_err-turned-clause-full : goal.returns-in_err-turned-clause-full
returns-in_err-turned-clause-full c =
    let s = c.args.at.now.symbols.now in
    let w = c.turn_back.new.terms in
    let x = c.args.sides.now in
    handed_on c.from_residual.result _ _ c.from_residual.ensures.1
    (λ full. lacks_more s w.pass (IsMadeFrom s w x.b) (IsMadeToJoin s w x.a x.b) (join_right s w x.a x.b) (c.in_err-turned.ensures.full full))

pub returns-in_default-link-clause-joined : goal.returns-in_default-link-clause-joined
returns-in_default-link-clause-joined c =
    let x = c.args.sides.now in
    let here = alone_left c.args.at.now c.args.terms.now c.args.block.now x.a x.left c.requires.left c.in_default-link.is in (
      c.requires.apart,
      subst (λ r. LinkEquates c.args.at.now c.turn_back.new.terms c.turn_back.new.block c.in_ok-turned.turned r x.b) (sym (here ∙ c.requires.one))
          c.in_ok-turned.ensures.linked,
    )

pub returns-in_default-link-clause-grown : goal.returns-in_default-link-clause-grown
returns-in_default-link-clause-grown c =
    let p = c.args.at.now in
    let w = c.turn_back.new.terms in
    let x = c.args.sides.now in
    let low : 1 ≤ 2 = omega arith in
    grows_as p w c.args.block.now c.turn_back.new.block (IsMadeFrom p.symbols.now w x.b) (IsMadeToJoin p.symbols.now w x.a x.b) 1 2
    (join_right p.symbols.now w x.a x.b) low c.in_ok-turned.ensures.grown

pub returns-in_default-link-clause-placed : goal.returns-in_default-link-clause-placed
returns-in_default-link-clause-placed c =
    let s = c.args.at.now.symbols.now in
    let w = c.turn_back.new.terms in
    let x = c.args.sides.now in
    places_more s c.args.terms.now.pass w.pass (IsMadeFrom s w x.b) (IsMadeToJoin s w x.a x.b) (join_right s w x.a x.b) c.in_ok-turned.ensures.placed

pub chain-requires-clause-chained : goal.chain-requires-clause-chained
chain-requires-clause-chained c =
    let p = c.args.at.now in
    let v = c.args.terms.now in
    let w = c.turn_back.new.terms in
    let x = c.args.sides.now in
    let e = c.in_ok-turned.ensures in
    let more = units_extend p w c.args.block.now c.turn_back.new.block (IsMadeFrom p.symbols.now w x.b) e.grown.units in
    chained_two p w c.turn_back.new.block c.leaves_differ.ensures.table c.one_to_one.ensures c.in-Some-link.first c.in_ok-turned.turned
    (c.in-Some-link.first ∷ c.in_ok-turned.turned ∷ []) x.a x.left.form x.b refl
    (equates_later c.blocks_stay.ensures.link p v w c.args.block.now c.turn_back.new.block e.keeps more c.in-Some-link.first x.a x.left.form
    (link_left p v c.args.block.now x.a x.left c.in-Some-link.first c.requires.left c.in-Some-link.is))
    (subst (λ r. LinkEquates p w c.turn_back.new.block c.in_ok-turned.turned r x.b) (sym c.requires.one) e.linked)

pub returns-in_err-joined-clause-placed : goal.returns-in_err-joined-clause-placed
returns-in_err-joined-clause-placed c =
    let s = c.args.at.now.symbols.now in
    let u = c.args.terms.now in
    let v = c.turn_back.new.terms in
    let w = c.chain.new.terms in
    let x = c.args.sides.now in
    let keeps = c.in_err-joined.ensures.keeps in
    places_more_then s u.pass v.pass w.pass (IsMadeToJoin s w x.a x.b) keeps.pass
    (places_more s u.pass v.pass (IsMadeFrom s v x.b) (IsMadeToJoin s w x.a x.b)
    (λ y h. join_right s w x.a x.b y (made_from_later s v w keeps.pass.grows x.b y h))
    c.in_ok-turned.ensures.placed)
    (places_more s v.pass w.pass (IsEqualityOf s w x.a x.b) (IsMadeToJoin s w x.a x.b) (join_both s w x.a x.b) c.in_err-joined.ensures.placed)

pub returns-in_err-joined-clause-full : goal.returns-in_err-joined-clause-full
returns-in_err-joined-clause-full c =
    let s = c.args.at.now.symbols.now in
    let w = c.chain.new.terms in
    let x = c.args.sides.now in
    handed_on c.from_residual-in_err-joined.result _ _ c.from_residual-in_err-joined.ensures.1
    (λ full. lacks_more s w.pass (IsEqualityOf s w x.a x.b) (IsMadeToJoin s w x.a x.b) (join_both s w x.a x.b) (c.in_err-joined.ensures.full full))

pub returns-clause-joined : goal.returns-clause-joined
returns-clause-joined c = (c.requires.apart, c.in_ok-joined.ensures.linked)

pub returns-clause-grown : goal.returns-clause-grown
returns-clause-grown c =
    let p = c.args.at.now in
    let s = p.symbols.now in
    let v = c.turn_back.new.terms in
    let w = c.chain.new.terms in
    let x = c.args.sides.now in
    let keeps = c.in_ok-joined.ensures.keeps in
    let low : 1 + 1 ≤ 2 = omega arith in
    let one : 1 ≤ 1 = omega arith in
    grows_then p v w c.args.block.now c.turn_back.new.block c.chain.new.block (IsMadeFrom s v x.b) (IsMadeToJoin s w x.a x.b) 1 1 2 keeps
    (λ y h. join_right s w x.a x.b y (made_from_later s v w keeps.pass.grows x.b y h)) low c.in_ok-turned.ensures.grown
    (grows_as p w c.turn_back.new.block c.chain.new.block (IsEqualityOf s w x.a x.b) (IsMadeToJoin s w x.a x.b) 1 1 (join_both s w x.a x.b) one
    c.in_ok-joined.ensures.grown)

pub returns-clause-placed : goal.returns-clause-placed
returns-clause-placed c =
    let s = c.args.at.now.symbols.now in
    let u = c.args.terms.now in
    let v = c.turn_back.new.terms in
    let w = c.chain.new.terms in
    let x = c.args.sides.now in
    let keeps = c.in_ok-joined.ensures.keeps in
    places_more_then s u.pass v.pass w.pass (IsMadeToJoin s w x.a x.b) keeps.pass
    (places_more s u.pass v.pass (IsMadeFrom s v x.b) (IsMadeToJoin s w x.a x.b)
    (λ y h. join_right s w x.a x.b y (made_from_later s v w keeps.pass.grows x.b y h))
    c.in_ok-turned.ensures.placed)
    (places_more s v.pass w.pass (IsEqualityOf s w x.a x.b) (IsMadeToJoin s w x.a x.b) (join_both s w x.a x.b) c.in_ok-joined.ensures.placed)
