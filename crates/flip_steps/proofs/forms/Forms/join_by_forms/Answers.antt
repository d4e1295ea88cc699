use Rattle.std.proofs.Common.{arith}
use Rattle.term_pool.proofs.PlacedCells.{lacks_more, places_more, places_more_then}
use Rattle.flip_steps.specs.Stages.{IsMadeFrom, IsMadeToJoin}
use Rattle.flip_steps.proofs.JoinLemmas.{equal_later, join_left, join_right, left_side, met_both, one_reference, right_side}
use Rattle.flip_steps.proofs.MemoryLemmas.{formed_later, forms_later}
use Rattle.flip_steps.proofs.OrderLemmas.{keeps_then, made_from_later}
use Rattle.flip_steps.proofs.Results.{handed_on}
use Rattle.flip_steps.proofs.UnitLemmas.{units_extend, units_more, units_then}
use Rattle.flip_steps.proofs.forms.Forms.join_by_forms.Goals as goal

pub find_form-requires-clause-side : goal.find_form-requires-clause-side
find_form-requires-clause-side c = left_side c.args.at.now c.args.terms.now c.args.a c.args.b c.requires.sides

pub returns-in_err-left-clause-placed : goal.returns-in_err-left-clause-placed
returns-in_err-left-clause-placed c =
    let p = c.args.at.now in
    let s = p.symbols.now in
    let u = c.args.terms.now in
    let v = c.find_form.new.terms in
    places_more s u.pass v.pass (IsMadeFrom s v c.args.a) (IsMadeToJoin s v c.args.a c.args.b) (join_left s v c.args.a c.args.b) c.in_err-left.ensures.placed

pub returns-in_err-left-clause-full : goal.returns-in_err-left-clause-full
returns-in_err-left-clause-full c =
    let p = c.args.at.now in
    let s = p.symbols.now in
    let u = c.args.terms.now in
    let v = c.find_form.new.terms in
    handed_on c.from_residual.result _ _ c.from_residual.ensures.1
    (λ full. lacks_more s v.pass (IsMadeFrom s v c.args.a) (IsMadeToJoin s v c.args.a c.args.b) (join_left s v c.args.a c.args.b)
    (c.in_err-left.ensures.full full))

pub find_form-requires-2-clause-side : goal.find_form-requires-2-clause-side
find_form-requires-2-clause-side c =
    right_side c.args.at.now c.args.terms.now c.find_form.new.terms c.args.a c.args.b c.in_ok-left.ensures.keeps c.requires.sides

pub returns-in_err-right-clause-placed : goal.returns-in_err-right-clause-placed
returns-in_err-right-clause-placed c =
    let p = c.args.at.now in
    let s = p.symbols.now in
    let u = c.args.terms.now in
    let v = c.find_form.new.terms in
    let w = c.find_form-2.new.terms in
    let keeps = c.in_err-right.ensures.keeps in
    places_more_then s u.pass v.pass w.pass (IsMadeToJoin s w c.args.a c.args.b) keeps.pass
    (places_more s u.pass v.pass (IsMadeFrom s v c.args.a) (IsMadeToJoin s w c.args.a c.args.b)
    (λ y h. join_left s w c.args.a c.args.b y (made_from_later s v w keeps.pass.grows c.args.a y h)) c.in_ok-left.ensures.placed)
    (places_more s v.pass w.pass (IsMadeFrom s w c.args.b) (IsMadeToJoin s w c.args.a c.args.b) (join_right s w c.args.a c.args.b)
    c.in_err-right.ensures.placed)

pub returns-in_err-right-clause-full : goal.returns-in_err-right-clause-full
returns-in_err-right-clause-full c =
    let p = c.args.at.now in
    let s = p.symbols.now in
    let u = c.args.terms.now in
    let v = c.find_form.new.terms in
    let w = c.find_form-2.new.terms in
    handed_on c.from_residual-in_err-right.result _ _ c.from_residual-in_err-right.ensures.1
    (λ full. lacks_more s w.pass (IsMadeFrom s w c.args.b) (IsMadeToJoin s w c.args.a c.args.b) (join_right s w c.args.a c.args.b)
    (c.in_err-right.ensures.full full))

pub meet-requires-clause-left : goal.meet-requires-clause-left
meet-requires-clause-left c =
    let p = c.args.at.now in
    let s = p.symbols.now in
    let u = c.args.terms.now in
    let v = c.find_form.new.terms in
    let w = c.find_form-2.new.terms in
    let e = c.in_ok-right.ensures in
    formed_later c.blocks_stay.ensures.link p v w c.find_form.new.block c.find_form-2.new.block e.keeps
    (units_extend p w c.find_form.new.block c.find_form-2.new.block (IsMadeFrom s w c.args.b) e.units) c.args.a c.in_ok-left.left c.in_ok-left.ensures.formed

pub meet-requires-clause-one : goal.meet-requires-clause-one
meet-requires-clause-one c =
    let p = c.args.at.now in
    let s = p.symbols.now in
    let u = c.args.terms.now in
    let v = c.find_form.new.terms in
    let w = c.find_form-2.new.terms in
    let e = c.in_ok-right.ensures in
    let table = c.leaves_differ.ensures.table in
    let keeps = keeps_then u v w c.in_ok-left.ensures.keeps e.keeps in
    one_reference p w c.find_form-2.new.block table c.one_to_one.ensures c.args.a c.args.b c.in_ok-left.left c.in_ok-right.right
    (formed_later c.blocks_stay.ensures.link p v w c.find_form.new.block c.find_form-2.new.block e.keeps
    (units_extend p w c.find_form.new.block c.find_form-2.new.block (IsMadeFrom s w c.args.b) e.units) c.args.a c.in_ok-left.left
    c.in_ok-left.ensures.formed) e.formed
    (λ y z here there. equal_later s u w table c.one_to_one.ensures keeps c.args.a c.args.b c.requires.sides.left c.requires.sides.right y z
    c.requires.sides.left_refers c.requires.sides.right_refers
    (c.requires.equal c.requires.sides.left c.requires.sides.right c.requires.sides.left_refers c.requires.sides.right_refers) here there)

pub meet-requires-clause-apart : goal.meet-requires-clause-apart
meet-requires-clause-apart c = c.requires.apart

pub returns-in_err-joined-clause-placed : goal.returns-in_err-joined-clause-placed
returns-in_err-joined-clause-placed c =
    let p = c.args.at.now in
    let s = p.symbols.now in
    let u = c.args.terms.now in
    let v = c.find_form.new.terms in
    let w = c.find_form-2.new.terms in
    let x = c.meet.new.terms in
    let right = c.in_ok-right.ensures.keeps in
    let last = c.in_err-joined.ensures.keeps in
    let both = keeps_then v w x right last in
    places_more_then s u.pass w.pass x.pass (IsMadeToJoin s x c.args.a c.args.b) last.pass
    (places_more_then s u.pass v.pass w.pass (IsMadeToJoin s x c.args.a c.args.b) right.pass
    (places_more s u.pass v.pass (IsMadeFrom s v c.args.a) (IsMadeToJoin s x c.args.a c.args.b)
    (λ y h. join_left s x c.args.a c.args.b y (made_from_later s v x both.pass.grows c.args.a y h)) c.in_ok-left.ensures.placed)
    (places_more s v.pass w.pass (IsMadeFrom s w c.args.b) (IsMadeToJoin s x c.args.a c.args.b)
    (λ y h. join_right s x c.args.a c.args.b y
    (made_from_later s w x last.pass.grows c.args.b y h)) c.in_ok-right.ensures.placed)) c.in_err-joined.ensures.placed

pub returns-in_err-joined-clause-full : goal.returns-in_err-joined-clause-full
returns-in_err-joined-clause-full c =
    handed_on c.from_residual-in_err-joined.result _ _ c.from_residual-in_err-joined.ensures.1 c.in_err-joined.ensures.full

pub returns-clause-block : goal.returns-clause-block
returns-clause-block c = c.in_ok-joined.ensures.grown.block

pub returns-clause-forms : goal.returns-clause-forms
returns-clause-forms c =
    let p = c.args.at.now in
    let s = p.symbols.now in
    let u = c.args.terms.now in
    let v = c.find_form.new.terms in
    let w = c.find_form-2.new.terms in
    let x = c.meet.new.terms in
    let e = c.in_ok-joined.ensures in
    forms_later c.blocks_stay.ensures.link p w x c.find_form-2.new.block c.meet.new.block e.keeps
    (units_extend p x c.find_form-2.new.block c.meet.new.block (IsMadeToJoin s x c.args.a c.args.b) e.grown.units) c.find_form-2.new.forms
    c.in_ok-right.ensures.forms

pub returns-clause-units : goal.returns-clause-units
returns-clause-units c =
    let p = c.args.at.now in
    let s = p.symbols.now in
    let u = c.args.terms.now in
    let v = c.find_form.new.terms in
    let w = c.find_form-2.new.terms in
    let x = c.meet.new.terms in
    let right = c.in_ok-right.ensures.keeps in
    let last = c.in_ok-joined.ensures.keeps in
    let both = keeps_then v w x right last in
    units_then p x c.args.block.now c.find_form-2.new.block c.meet.new.block (IsMadeToJoin s x c.args.a c.args.b)
    (units_then p x c.args.block.now c.find_form.new.block c.find_form-2.new.block (IsMadeToJoin s x c.args.a c.args.b)
    (units_more p v x c.args.block.now c.find_form.new.block (IsMadeFrom s v c.args.a) (IsMadeToJoin s x c.args.a c.args.b) both
    (λ y h. join_left s x c.args.a c.args.b y (made_from_later s v x both.pass.grows c.args.a y h)) c.in_ok-left.ensures.units)
    (units_more p w x c.find_form.new.block c.find_form-2.new.block (IsMadeFrom s w c.args.b) (IsMadeToJoin s x c.args.a c.args.b) last
    (λ y h. join_right s x c.args.a c.args.b y (made_from_later s w x last.pass.grows c.args.b y h)) c.in_ok-right.ensures.units))
    c.in_ok-joined.ensures.grown.units

pub returns-clause-few : goal.returns-clause-few
returns-clause-few c =
    let left = c.in_ok-left.ensures.few in
    let right = c.in_ok-right.ensures.few in
    let last = c.in_ok-joined.ensures.grown.few in
    omega (arith, left, right, last)

pub returns-clause-met : goal.returns-clause-met
returns-clause-met c =
    let p = c.args.at.now in
    let s = p.symbols.now in
    let u = c.args.terms.now in
    let v = c.find_form.new.terms in
    let w = c.find_form-2.new.terms in
    let x = c.meet.new.terms in
    met_both s v w c.args.a c.args.b c.args.self.now c.find_form.new.forms c.find_form-2.new.forms c.in_ok-right.ensures.keeps c.in_ok-left.ensures.met
    c.in_ok-right.ensures.met x c.in_ok-joined.ensures.keeps

pub returns-clause-placed : goal.returns-clause-placed
returns-clause-placed c =
    let p = c.args.at.now in
    let s = p.symbols.now in
    let u = c.args.terms.now in
    let v = c.find_form.new.terms in
    let w = c.find_form-2.new.terms in
    let x = c.meet.new.terms in
    let right = c.in_ok-right.ensures.keeps in
    let last = c.in_ok-joined.ensures.keeps in
    let both = keeps_then v w x right last in
    places_more_then s u.pass w.pass x.pass (IsMadeToJoin s x c.args.a c.args.b) last.pass
    (places_more_then s u.pass v.pass w.pass (IsMadeToJoin s x c.args.a c.args.b) right.pass
    (places_more s u.pass v.pass (IsMadeFrom s v c.args.a) (IsMadeToJoin s x c.args.a c.args.b)
    (λ y h. join_left s x c.args.a c.args.b y (made_from_later s v x both.pass.grows c.args.a y h)) c.in_ok-left.ensures.placed)
    (places_more s v.pass w.pass (IsMadeFrom s w c.args.b) (IsMadeToJoin s x c.args.a c.args.b)
    (λ y h. join_right s x c.args.a c.args.b y
    (made_from_later s w x last.pass.grows c.args.b y h)) c.in_ok-right.ensures.placed)) c.in_ok-joined.ensures.placed
