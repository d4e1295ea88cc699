use Rattle.std.proofs.Common.{◌≡◌, ◌≢◌, inl, refl, arith}
use Rattle.term_pool.proofs.PlacedCells.{lacks_more, places_more}
use Rattle.term_pool.proofs.ReadingLemmas.{keeps-same}
use Rattle.flip_steps.specs.Stages.{IsEqualityOf, IsMadeToJoin}
use Rattle.flip_steps.proofs.JoinLemmas.{join_both}
use Rattle.flip_steps.proofs.MemoryLemmas.{forms_later}
use Rattle.flip_steps.proofs.Results.{handed_on}
use Rattle.flip_steps.proofs.UnitLemmas.{units_extend, units_more, units_none}
use Rattle.flip_steps.proofs.forms.Forms.join.Goals as goal

pub returns-then-number-clause-joined : goal.returns-then-number-clause-joined
returns-then-number-clause-joined c = let e : c.args.a ≡ c.args.b = omega arith in e

pub returns-then-number-clause-units : goal.returns-then-number-clause-units
returns-then-number-clause-units c =
    units_none c.args.at.now c.args.terms.now c.args.block.now c.args.block.now
    (IsMadeToJoin c.args.at.now.symbols.now c.args.terms.now c.args.a c.args.b) refl

pub returns-then-number-clause-met : goal.returns-then-number-clause-met
returns-then-number-clause-met c = λ r h. inl h

pub exchange-requires-clause-block : goal.exchange-requires-clause-block
exchange-requires-clause-block c = rw c.are_exchanged-exchanged.ensures.same c.requires.block

pub exchange-requires-clause-turned : goal.exchange-requires-clause-turned
exchange-requires-clause-turned c =
    rw c.are_exchanged-exchanged.ensures.same (c.are_exchanged-exchanged.ensures.turned c.if-exchanged.true)

pub returns-in_err-link-clause-placed : goal.returns-in_err-link-clause-placed
returns-in_err-link-clause-placed c =
    let s = c.args.at.now.symbols.now in
    let w = c.exchange.new.terms in
    places_more s c.args.terms.now.pass w.pass (IsEqualityOf s w c.args.a c.args.b) (IsMadeToJoin s w c.args.a c.args.b) (join_both s w c.args.a c.args.b)
    (rw c.are_exchanged-exchanged.ensures.same at c.in_err-link.ensures.placed)

pub returns-in_err-link-clause-full : goal.returns-in_err-link-clause-full
returns-in_err-link-clause-full c =
    let s = c.args.at.now.symbols.now in
    let w = c.exchange.new.terms in
    handed_on c.from_residual.result _ _ c.from_residual.ensures.1
    (λ full. lacks_more s w.pass (IsEqualityOf s w c.args.a c.args.b) (IsMadeToJoin s w c.args.a c.args.b) (join_both s w c.args.a c.args.b)
    (c.in_err-link.ensures.full full))

pub returns-in_err-link-clause-keeps : goal.returns-in_err-link-clause-keeps
returns-in_err-link-clause-keeps c = rw c.are_exchanged-exchanged.ensures.same at c.in_err-link.ensures.keeps

pub returns-then-exchanged-clause-joined : goal.returns-then-exchanged-clause-joined
returns-then-exchanged-clause-joined c = let apart : c.args.a ≢ c.args.b = omega arith in (apart, c.in_ok-link.ensures.linked)

pub returns-then-exchanged-clause-block : goal.returns-then-exchanged-clause-block
returns-then-exchanged-clause-block c = c.in_ok-link.ensures.grown.block

pub returns-then-exchanged-clause-forms : goal.returns-then-exchanged-clause-forms
returns-then-exchanged-clause-forms c =
    let p = c.args.at.now in
    let w = c.exchange.new.terms in
    let e = c.in_ok-link.ensures in
    forms_later c.blocks_stay.ensures.link p c.args.terms.now w c.args.block.now c.exchange.new.block
    (rw c.are_exchanged-exchanged.ensures.same at e.keeps)
    (units_extend p w c.args.block.now c.exchange.new.block (IsEqualityOf p.symbols.now w c.args.a c.args.b) e.grown.units) c.args.self.now
    c.requires.forms

pub returns-then-exchanged-clause-units : goal.returns-then-exchanged-clause-units
returns-then-exchanged-clause-units c =
    let p = c.args.at.now in
    let s = p.symbols.now in
    let w = c.exchange.new.terms in
    units_more p w w c.args.block.now c.exchange.new.block (IsEqualityOf s w c.args.a c.args.b) (IsMadeToJoin s w c.args.a c.args.b)
    (keeps-same w w refl) (join_both s w c.args.a c.args.b) c.in_ok-link.ensures.grown.units

pub returns-then-exchanged-clause-few : goal.returns-then-exchanged-clause-few
returns-then-exchanged-clause-few c = let one = c.in_ok-link.ensures.grown.few in omega (arith, one)

pub returns-then-exchanged-clause-met : goal.returns-then-exchanged-clause-met
returns-then-exchanged-clause-met c = λ r h. inl h

pub returns-then-exchanged-clause-placed : goal.returns-then-exchanged-clause-placed
returns-then-exchanged-clause-placed c =
    let s = c.args.at.now.symbols.now in
    let w = c.exchange.new.terms in
    places_more s c.args.terms.now.pass w.pass (IsEqualityOf s w c.args.a c.args.b) (IsMadeToJoin s w c.args.a c.args.b) (join_both s w c.args.a c.args.b)
    (rw c.are_exchanged-exchanged.ensures.same at c.in_ok-link.ensures.placed)

pub returns-then-exchanged-clause-keeps : goal.returns-then-exchanged-clause-keeps
returns-then-exchanged-clause-keeps c = rw c.are_exchanged-exchanged.ensures.same at c.in_ok-link.ensures.keeps

pub join_by_forms-requires-clause-block : goal.join_by_forms-requires-clause-block
join_by_forms-requires-clause-block c = rw c.are_exchanged-exchanged.ensures.same c.requires.block

pub join_by_forms-requires-clause-forms : goal.join_by_forms-requires-clause-forms
join_by_forms-requires-clause-forms c = rw c.are_exchanged-exchanged.ensures.same c.requires.forms

pub join_by_forms-requires-clause-sides : goal.join_by_forms-requires-clause-sides
join_by_forms-requires-clause-sides c = rw c.are_exchanged-exchanged.ensures.same c.requires.sides

pub join_by_forms-requires-clause-equal : goal.join_by_forms-requires-clause-equal
join_by_forms-requires-clause-equal c = rw c.are_exchanged-exchanged.ensures.same c.requires.equal

pub join_by_forms-requires-clause-apart : goal.join_by_forms-requires-clause-apart
join_by_forms-requires-clause-apart c = let apart : c.args.a ≢ c.args.b = omega arith in apart

pub returns-clause-placed : goal.returns-clause-placed
returns-clause-placed c = rw c.are_exchanged-exchanged.ensures.same at c.join_by_forms.ensures.placed

pub returns-clause-keeps : goal.returns-clause-keeps
returns-clause-keeps c = rw c.are_exchanged-exchanged.ensures.same at c.join_by_forms.ensures.keeps
