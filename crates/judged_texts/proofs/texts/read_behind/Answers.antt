use Rattle.std.proofs.Common.{rules, ◌^◌, ◌∙◌, Err, ap, inl, inr}
use Rattle.term_model.specs.Terms.{Term}
use Rattle.term_pool.specs.Placing.{PlacesCellsOf, LacksCellOf}
use Rattle.term_pool.proofs.PlacedCells.{lacks_more}
use Rattle.alethe_reader.specs.Reading.{IsCountedOfProof, IsProofOf}
use Rattle.term_reader.specs.ProblemViews.{IsProblemOf}
use Rattle.judged_texts.specs.Cells.{HasMoreCells}
use Rattle.judged_texts.specs.Pools.{HoldsOnly}
use Rattle.judged_texts.specs.Reading.{settings_of, IsReadOf, NeedsRoom}
use Rattle.judged_texts.proofs.CellLemmas.{has_more_cells, holds_more, more_cells_of}
use Rattle.judged_texts.proofs.texts.read_behind.Goals as goal

pub returns-in-Err-PoolFull-clause-read : goal.returns-in-Err-PoolFull-clause-read
returns-in-Err-PoolFull-clause-read c = λ bits places.
    let t = c.args.texts.now in
    let before = c.requires.problem in
    let s = c.args.symbols.now in
    let z = c.read_proof.new.symbols in
    let old = c.args.terms.now.pass in
    let new = c.read_proof.new.terms.pass in
    let P : Term → Type 0 = IsCountedOfProof t.proof.now (settings_of t.options) before.script in
    let Q : Term → Type 0 = IsReadOf t.problem.now t.options t.proof.now in
    let more : (u : Term) → P u → Q u = λ u h. inr (record { script = before.script; stands = before.stands; counted = h }) in
    let placed : PlacesCellsOf z old new P = rw (c.flags_of-flags.ensures) at (c.read_proof.ensures.placed before.script before.is) in
    let lacks : LacksCellOf z new P = rw (c.flags_of-flags.ensures) at (c.read_proof.ensures.full before.script before.is (c.in-Err-PoolFull.is ∙ ap Err c.in-Err-PoolFull.field-0-is)) in
    let holds : HoldsOnly z new Q = holds_more s z old new P Q more c.read_proof.ensures.symbols.keeps c.read_proof.ensures.keeps.pass c.requires.holds placed in
    let cells : HasMoreCells Q (2 ^ bits) =
    has_more_cells z new Q c.pool_full.ensures.table (c.read_proof.ensures.keeps.pass.shares ∙ c.requires.shares)
    c.pool_full.ensures.one_reference c.pool_full.ensures.in_order holds (lacks_more z new P Q more lacks) (2 ^ bits) places in
    rw c.pool_full.ensures.full (more_cells_of Q (NeedsRoom t.problem.now t.options t.proof.now) (2 ^ bits) (λ u h. inl h) cells)

pub returns-clause-read : goal.returns-clause-read
returns-clause-read c =
    let t = c.args.texts.now in
    let before = c.requires.problem in
    let z = c.read_proof.new.symbols in
    let w = c.read_proof.new.terms in
    let old = c.args.terms.now.pass in
    let P : Term → Type 0 = IsCountedOfProof t.proof.now (settings_of t.options) before.script in
    let Q : Term → Type 0 = IsReadOf t.problem.now t.options t.proof.now in
    let stays : IsProblemOf z w c.args.problem before.script =
    c.problems_stay.ensures c.args.symbols.now z c.args.terms.now w c.args.problem before.script c.read_proof.ensures.symbols c.read_proof.ensures.keeps before.is in
    let read : IsProofOf t.proof.now (settings_of t.options) before.script z w c.in-Ok.proof =
    search (rules, c.read_proof.ensures.proof before.script before.is, c.in-Ok.is, c.flags_of-flags.ensures) in
    let placed : PlacesCellsOf z old w.pass P = rw (c.flags_of-flags.ensures) at (c.read_proof.ensures.placed before.script before.is) in (
      record { read = record { script = before.script; problem_text = before.stands; assertions = stays.assertions; read = read }; is = stays },
      holds_more c.args.symbols.now z old w.pass P Q (λ u h. inr (record { script = before.script; stands = before.stands; counted = h }))
          c.read_proof.ensures.symbols.keeps c.read_proof.ensures.keeps.pass c.requires.holds placed,
    )
