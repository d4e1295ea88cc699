-- The id, then the formula, and what is added.
use Rattle.std.proofs.Common.{refl, sym, ◌∙◌, ap, subst, ◌∷◌, [], ◌++◌}
use Rattle.rule_model.specs.RuleNames.{IsSymbolName}
use Rattle.text_items.specs.ItemShapes.{Name}
use Rattle.alethe_reader.specs.declared.ids.Role.TheVariants.{Assume}
use Rattle.alethe_reader.specs.Ids.{IsUnused}
use Rattle.alethe_reader.specs.IdsInUse.{in_use}
use Rattle.alethe_reader.proofs.IdsInUse.{unused_new}
use Rattle.alethe_reader.proofs.WrittenStays.{unused_now}
use Rattle.alethe_reader.proofs.LeftToRead.{hands_on}
use Rattle.alethe_reader.proofs.AssumeReading.{judged_now, bad_id, no_formula, no_room, is_assumed}
use Rattle.alethe_reader.proofs.assuming.read_assume.Goals as goal

pub returns-in_err-judge_id-clause-read : goal.returns-in_err-judge_id-clause-read
returns-in_err-judge_id-clause-read c settings p session =
    hands_on c.from_residual.result c.from_residual.ensures.1
    (rw (sym c.named_at-id.ensures) (bad_id settings _ _ p c.args.symbols.now c.args.terms.now c.args.terms.now _ c.in_err-judge_id.field-0.0 refl
    (judged_now _ _ session c.look-looked.ensures.found c.in_err-judge_id.ensures.judged)))

pub returns-in_err-formula-clause-read : goal.returns-in_err-formula-clause-read
returns-in_err-formula-clause-read c settings p session =
    let new_id = judged_now _ _ session c.look-looked.ensures.found c.in_ok-judge_id.ensures.judged in
    hands_on c.from_residual-in_err-formula.result c.from_residual-in_err-formula.ensures.1
    (rw (sym c.named_at-id.ensures) (no_formula settings _ _ p new_id c.args.symbols.now _ _ _ (record c.args.session.now { reader = c.formula_at.new.reader }) _ _ (c.in_err-formula.ensures.read settings p.scope.nesting p session.reader)))

pub assume-requires-clause-id : goal.assume-requires-clause-id
assume-requires-clause-id c =
    let (settings, p, session) = c.requires.session in
    unused_new c.args.session.now.builder c.named_at-id.result.name.now
    (subst IsSymbolName (ap (λ (x : Name). x.name) (sym c.named_at-id.ensures)) c.requires.name)
    (subst (λ us. IsUnused us c.named_at-id.result.name.now) session.written.ids (unused_now c.args.session.now.ids.used c.named_at-id.result.name.now c.look-looked.result.found c.look-looked.ensures.found c.in_ok-judge_id.ensures.unused))

pub returns-in_err-index-clause-read : goal.returns-in_err-index-clause-read
returns-in_err-index-clause-read c settings p session =
    let new_id = judged_now _ _ session c.look-looked.ensures.found c.in_ok-judge_id.ensures.judged in
    hands_on c.from_residual-in_err-index.result c.from_residual-in_err-index.ensures.1
    (rw (sym c.named_at-id.ensures) (no_room settings _ _ p new_id _ _ _ (record c.args.session.now { reader = c.formula_at.new.reader }) c.in_ok-formula.formula (c.in_ok-formula.ensures.read settings p.scope.nesting p session.reader) _))

pub returns-in_err-push-clause-read : goal.returns-in_err-push-clause-read
returns-in_err-push-clause-read c settings p session =
    let new_id = judged_now _ _ session c.look-looked.ensures.found c.in_ok-judge_id.ensures.judged in
    hands_on c.from_residual-in_err-push.result c.from_residual-in_err-push.ensures.1
    (rw (sym c.named_at-id.ensures) (no_room settings _ _ p new_id _ _ _ (record c.args.session.now { reader = c.formula_at.new.reader }) c.in_ok-formula.formula (c.in_ok-formula.ensures.read settings p.scope.nesting p session.reader) _))

pub returns-clause-read : goal.returns-clause-read
returns-clause-read c settings p session =
    let new_id = judged_now _ _ session c.look-looked.ensures.found c.in_ok-judge_id.ensures.judged in
    rw (sym c.named_at-id.ensures) (is_assumed settings _ _ p new_id _ _ _ (record c.args.session.now { reader = c.formula_at.new.reader; builder = c.assume.new.self; ids = c.push.new.self }) c.in_ok-formula.formula (c.in_ok-formula.ensures.read settings p.scope.nesting p session.reader)
    c.args.symbols.now c.args.session.now session c.formula_at.ensures.grow.symbols.keeps c.formula_at.ensures.grow.terms c.in_ok-index.ensures.written
    (c.in_ok-push.ensures.pushed ∙ ap (λ x. c.args.session.now.ids.used ++ in_use c.named_at-id.result.name.now Assume x ∷ []) c.in_ok-index.ensures.index)
    refl refl)
