use Rattle.std.proofs.Common.{◌≡◌, ◌+◌, ◌∙◌, ap, length, refl, sym, subst, arith}
use Rattle.flip_keys.specs.Assertions.{references_of}
use Rattle.term_pool.proofs.Keeping.{terms-refl, terms-trans}
use Rattle.step_check.specs.Steps.{IsStatusOf}
use Rattle.step_check.proofs.Growing.{some_stand, lacks_earlier, places_only_none, places_only_then, sorted_later, status_earlier}
use Rattle.step_check.proofs.ListLemmas.{each_none, each_push, length_push}
use Rattle.step_check.proofs.checking.add_statuses.Goals as goal

pub commands-init : goal.commands-init
commands-init c = record {
  keeps = terms-refl _;
  placed = places_only_none _ _ _ _ refl;
  references = refl;
  ready = c.requires.ready;
  kept = c.requires.kept;
  right = c.requires.right;
  long = let none : length c.args.list.now.items ≡ 0 = ap length c.requires.none in omega (arith, none);
  each = each_none _ _ c.requires.none;
}

pub status_at-requires-clause-sorted : goal.status_at-requires-clause-sorted
status_at-requires-clause-sorted c =
    sorted_later c.proofs_stay.ensures c.args.subject.now.symbols.now c.args.terms.now c.commands.terms c.commands.invariant.keeps c.args.subject.now.proof.now
    c.proofs_stand_for_one.ensures.one c.leaves_differ.ensures.table c.one_to_one.ensures (some_stand _ _ _ _ c.requires.kept) c.commands.i (λ of stand. c.requires.sorted of c.commands.i stand)

pub returns-in-Err-clause-placed : goal.returns-in-Err-clause-placed
returns-in-Err-clause-placed c =
    places_only_then c.proofs_stay.ensures _ _ _ _ c.args.subject.now.proof.now c.commands.invariant.keeps c.status_at.ensures.keeps c.commands.invariant.placed c.status_at.ensures.placed

pub returns-in-Err-clause-full : goal.returns-in-Err-clause-full
returns-in-Err-clause-full c =
    λ is. lacks_earlier c.proofs_stay.ensures c.args.subject.now.symbols.now c.args.terms.now c.commands.terms c.commands.invariant.keeps c.args.subject.now.proof.now c.status_at.new.terms (c.in-Err.ensures.full is)

pub returns-in-Err-clause-keeps : goal.returns-in-Err-clause-keeps
returns-in-Err-clause-keeps c = terms-trans _ _ _ c.commands.invariant.keeps c.status_at.ensures.keeps

pub returns-in_err-add-clause-placed : goal.returns-in_err-add-clause-placed
returns-in_err-add-clause-placed c =
    places_only_then c.proofs_stay.ensures _ _ _ _ c.args.subject.now.proof.now c.commands.invariant.keeps c.status_at.ensures.keeps c.commands.invariant.placed c.status_at.ensures.placed

pub returns-in_err-add-clause-keeps : goal.returns-in_err-add-clause-keeps
returns-in_err-add-clause-keeps c = terms-trans _ _ _ c.commands.invariant.keeps c.status_at.ensures.keeps

pub commands-preserved : goal.commands-preserved
commands-preserved c = record {
  keeps = terms-trans _ _ _ c.commands.invariant.keeps c.status_at.ensures.keeps;
  placed = places_only_then c.proofs_stay.ensures _ _ _ _ c.args.subject.now.proof.now c.commands.invariant.keeps c.status_at.ensures.keeps c.commands.invariant.placed c.status_at.ensures.placed;
  references = c.status_at.ensures.references ∙ c.commands.invariant.references;
  ready = c.in-Ok.ensures.ready;
  kept = c.status_at.ensures.kept;
  right = c.status_at.ensures.right;
  long =
      let before = c.commands.invariant.long in
      let more = length_push c.commands.list.items c.in-Ok.status (length c.commands.list.items) refl in
      rw c.in_ok-add.ensures (omega (arith, before, more));
  each = λ k status e.
      each_push (λ j st. IsStatusOf c.args.subject.now.flags c.args.subject.now.symbols.now c.args.terms.now (references_of c.args.kept.now.asserted) c.args.subject.now.proof.now (c.args.first + j) st)
      c.commands.list.items c.in-Ok.status (length c.commands.list.items) refl c.commands.invariant.each
      (subst (λ j. IsStatusOf c.args.subject.now.flags c.args.subject.now.symbols.now c.args.terms.now (references_of c.args.kept.now.asserted) c.args.subject.now.proof.now j c.in-Ok.status) (sym c.commands.invariant.long)
      (status_earlier c.proofs_stay.ensures c.args.subject.now.symbols.now c.args.terms.now c.commands.terms c.commands.invariant.keeps c.args.subject.now.proof.now c.args.subject.now.flags (references_of c.args.kept.now.asserted) c.commands.i c.in-Ok.status
      (rw c.commands.invariant.references at c.in-Ok.ensures.status)))
      k status (rw c.in_ok-add.ensures at e);
}

pub returns-clause-count : goal.returns-clause-count
returns-clause-count c = let long = c.commands.invariant.long in omega (arith, long)

pub returns-clause-each : goal.returns-clause-each
returns-clause-each c k status e = c.commands.invariant.each k status e
