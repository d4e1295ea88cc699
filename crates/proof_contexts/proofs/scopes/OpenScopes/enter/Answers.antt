use Rattle.std.proofs.Common.{sym, subst}
use Rattle.sym_table.proofs.Tables.{keeps_table}
use Rattle.contexts.proofs.Results.{handed_on}
use Rattle.proof_contexts.specs.OpenAnchors.{IsAnchorImage}
use Rattle.proof_contexts.specs.Ways.{IsWayDown}
use Rattle.term_pool.proofs.Keeping.{terms-trans}
use Rattle.term_pool.proofs.PlacedCells.{places_more_then}
use Rattle.proof_contexts.proofs.WayLemmas.{way_down}
use Rattle.proof_contexts.proofs.scopes.OpenScopes.enter.Goals as goal

pub open-requires-clause-scope : goal.open-requires-clause-scope
open-requires-clause-scope c =
    (way_down c.args.proof.now c.down.self.here c.args.scope c.pop.new.self.items c.in-Some.k (rw c.in-Some.ensures.items at c.down.invariant.way)).1

pub open-requires-clause-here : goal.open-requires-clause-here
open-requires-clause-here c =
    (way_down c.args.proof.now c.down.self.here c.args.scope c.pop.new.self.items c.in-Some.k (rw c.in-Some.ensures.items at c.down.invariant.way)).2

pub down-preserved : goal.down-preserved
down-preserved c =
    let s = c.args.symbols.now in
    let down = way_down c.args.proof.now c.down.self.here c.args.scope c.pop.new.self.items c.in-Some.k (rw c.in-Some.ensures.items at c.down.invariant.way) in
    record {
      kept = c.open.ensures.kept;
      keeps = terms-trans _ _ _ c.down.invariant.keeps c.open.ensures.keeps;
      way = subst (λ k. IsWayDown c.args.proof.now k c.args.scope c.pop.new.self.items) (sym c.in_ok-open.ensures.scope) down.0;
      placed = λ of stand.
          places_more_then s c.args.terms.now.pass c.down.terms.pass c.open.new.terms.pass (IsAnchorImage of) c.open.ensures.keeps.pass (c.down.invariant.placed of stand)
          (c.open.ensures.placed of (c.proofs_stay.ensures s s c.args.terms.now c.down.terms c.args.proof.now of (keeps_table s) c.down.invariant.keeps stand));
    }

pub returns-in_err-open-clause-placed : goal.returns-in_err-open-clause-placed
returns-in_err-open-clause-placed c of stand =
    let s = c.args.symbols.now in
    places_more_then s c.args.terms.now.pass c.down.terms.pass c.open.new.terms.pass (IsAnchorImage of) c.open.ensures.keeps.pass (c.down.invariant.placed of stand)
    (c.open.ensures.placed of (c.proofs_stay.ensures s s c.args.terms.now c.down.terms c.args.proof.now of (keeps_table s) c.down.invariant.keeps stand))

pub returns-in_err-open-clause-full : goal.returns-in_err-open-clause-full
returns-in_err-open-clause-full c =
    let s = c.args.symbols.now in
    handed_on c.from_residual-in_err-open.result _ _ c.from_residual-in_err-open.ensures.1
    (λ is of stand. c.in_err-open.ensures.full is of (c.proofs_stay.ensures s s c.args.terms.now c.down.terms c.args.proof.now of (keeps_table s) c.down.invariant.keeps stand))
