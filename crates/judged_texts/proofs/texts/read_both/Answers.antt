use Rattle.std.proofs.Common.{◌^◌, ◌∙◌, Err, ap, inl}
use Rattle.term_model.specs.Terms.{Term}
use Rattle.term_pool.specs.Placing.{PlacesCellsOf, LacksCellOf}
use Rattle.term_pool.proofs.PlacedCells.{lacks_more}
use Rattle.term_reader.specs.ProblemViews.{IsCounted}
use Rattle.judged_texts.specs.Cells.{HasMoreCells}
use Rattle.judged_texts.specs.Pools.{HoldsOnly}
use Rattle.judged_texts.specs.Reading.{IsReadOf, NeedsRoom}
use Rattle.judged_texts.proofs.CellLemmas.{has_more_cells, holds_placed, more_cells_of}
use Rattle.judged_texts.proofs.texts.read_both.Goals as goal

pub returns-in-Err-PoolFull-clause-read : goal.returns-in-Err-PoolFull-clause-read
returns-in-Err-PoolFull-clause-read c = λ bits places.
    let t = c.args.texts.now in
    let s = c.read_problem.new.symbols in
    let old = c.args.terms.now.pass in
    let new = c.read_problem.new.terms.pass in
    let P : Term → Type 0 = IsCounted t.problem.now t.options.replaces_lets in
    let Q : Term → Type 0 = IsReadOf t.problem.now t.options t.proof.now in
    let more : (u : Term) → P u → Q u = λ u h. inl h in
    let placed : PlacesCellsOf s old new P = rw (c.flags_of-flags.ensures) at c.read_problem.ensures.placed in
    let lacks : LacksCellOf s new P = rw (c.flags_of-flags.ensures) at (c.read_problem.ensures.full (c.in-Err-PoolFull.is ∙ ap Err c.in-Err-PoolFull.field-0-is)) in
    let holds : HoldsOnly s new Q = holds_placed s old new P Q more c.requires.nothing placed in
    let cells : HasMoreCells Q (2 ^ bits) =
    has_more_cells s new Q c.pool_full.ensures.table (c.read_problem.ensures.keeps.pass.shares ∙ c.requires.shares)
    c.pool_full.ensures.one_reference c.pool_full.ensures.in_order holds (lacks_more s new P Q more lacks) (2 ^ bits) places in
    rw c.pool_full.ensures.full (more_cells_of Q (NeedsRoom t.problem.now t.options t.proof.now) (2 ^ bits) (λ u h. inl h) cells)

pub read_behind-requires-clause-holds : goal.read_behind-requires-clause-holds
read_behind-requires-clause-holds c =
    let t = c.args.texts.now in
    let s = c.read_problem.new.symbols in
    let old = c.args.terms.now.pass in
    let new = c.read_problem.new.terms.pass in
    let P : Term → Type 0 = IsCounted t.problem.now t.options.replaces_lets in
    let Q : Term → Type 0 = IsReadOf t.problem.now t.options t.proof.now in
    let placed : PlacesCellsOf s old new P = rw (c.flags_of-flags.ensures) at c.read_problem.ensures.placed in
    holds_placed s old new P Q (λ u h. inl h) c.requires.nothing placed
