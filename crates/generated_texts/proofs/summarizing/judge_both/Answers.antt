use Rattle.std.proofs.Common.{◌^◌, ◌∙◌, inl, inr}
use Rattle.sym_table.proofs.Tables.{keeps_table}
use Rattle.term_model.specs.Terms.{Term}
use Rattle.term_pool.specs.Placing.{PlacesCellsOf, LacksCellOf}
use Rattle.term_pool.proofs.PlacedCells.{lacks_more}
use Rattle.step_check.specs.Statuses.{IsPlacedOf, LacksRoomForPlaced, PlacesOnly}
use Rattle.judged_texts.specs.Judging.{IsJudgedProof}
use Rattle.judged_texts.specs.Texts.{flags_of}
use Rattle.judged_texts.specs.Pools.{HoldsOnly}
use Rattle.judged_texts.specs.Reading.{IsReadOf, NeedsRoom}
use Rattle.judged_texts.proofs.CellLemmas.{has_more_cells, holds_kind, holds_more}
use Rattle.judged_texts.proofs.JudgementLemmas.{judged_proof}
use Rattle.generated_texts.proofs.Judged.{is_of_proof}
use Rattle.generated_texts.proofs.summarizing.judge_both.Goals as goal

pub judge_commands-requires-clause-can : goal.judge_commands-requires-clause-can
judge_commands-requires-clause-can g c =
    let texts = c.args.texts.now in
    let can = c.read_proofs_can_be_checked.ensures texts.problem.now texts.options texts.proof.now c.args.symbols.now c.args.terms.now
    c.args.both.now.problem.assertions c.args.both.now.proof c.requires.read.read c.requires.size in
    rw (c.job-check.ensures.proof, c.job-check.ensures.problem, c.job-check.ensures.symbols) (λ lives longer. can)

pub returns-in-Ok-clause-judged : goal.returns-in-Ok-clause-judged
returns-in-Ok-clause-judged g c =
    let texts = c.args.texts.now in
    let read = c.requires.read.read in
    let both = c.args.both.now in
    let s = c.args.symbols.now in
    let same = c.proofs_correspond.ensures s c.args.terms.now both.proof read.read.proof read.read.refer in
    let judged : IsJudgedProof (flags_of texts.options) s c.args.terms.now both.problem.assertions both.proof c.in-Ok.judgement =
    rw (c.job-check.ensures.flags, c.flags_of-flags.ensures, c.job-check.ensures.symbols, c.job-check.ensures.problem, c.job-check.ensures.proof)
    at c.in-Ok.ensures.judged in record {
      of_proof = is_of_proof (flags_of texts.options) s c.args.terms.now both.problem.assertions both.proof c.in-Ok.judgement judged;
      judged = judged_proof texts.problem.now texts.options texts.proof.now 0 s c.args.terms.now both.problem.assertions both.proof read same c.in-Ok.judgement judged;
    }

-- what the check places is of the proof that was read
pub returns-in-Err-PoolFull-clause-full : goal.returns-in-Err-PoolFull-clause-full
returns-in-Err-PoolFull-clause-full g c = λ bits places is.
    let t = c.args.texts.now in
    let both = c.requires.read.read in
    let refs = c.args.both.now.proof in
    let s = c.args.symbols.now in
    let old = c.args.terms.now.pass in
    let now = c.judge_commands.new.terms in
    let new = now.pass in
    let P : Term → Type 0 = IsPlacedOf both.read.proof in
    let Q : Term → Type 0 = NeedsRoom t.problem.now t.options t.proof.now in
    let more : (u : Term) → P u → Q u = λ u h. inr (record { script = both.script; commands = both.read.proof; after = both.read.after; problem_text = both.problem_text; proof_text = both.read.stands; placed = h }) in
    let placed_only : PlacesOnly s c.args.terms.now now refs = rw (c.job-check.ensures.symbols, c.job-check.ensures.proof) at c.judge_commands.ensures.placed in
    let lacks_room : LacksRoomForPlaced s c.args.terms.now now refs =
    rw (c.job-check.ensures.symbols, c.job-check.ensures.proof) at (c.in-Err-PoolFull.ensures.full c.in-Err-PoolFull.field-0-is) in
    let placed : PlacesCellsOf s old new P = placed_only both.read.proof both.read.refer in
    let lacks : LacksCellOf s new P = lacks_room both.read.proof both.read.refer in
    let held : HoldsOnly s old Q = holds_kind s old (IsReadOf t.problem.now t.options t.proof.now) Q (λ u h. inl h) c.requires.holds in
    let holds : HoldsOnly s new Q = holds_more s s old new P Q more (keeps_table s) c.judge_commands.ensures.keeps.pass held placed in
    has_more_cells s new Q c.pool_full.ensures.table (c.judge_commands.ensures.keeps.pass.shares ∙ c.requires.shares)
    c.pool_full.ensures.one_reference c.pool_full.ensures.in_order holds (lacks_more s new P Q more lacks) (2 ^ bits)
    (c.judge_commands.ensures.keeps.pass.places ∙ places)
