use Rattle.std.proofs.Common.{refl, ◌∙◌, subst}
use Rattle.std.proofs.lemmas.Bool.{OnTrue_at, OnFalse_at}
use Rattle.std.proofs.lemmas.Result.{IfOk-weaker}
use Rattle.rules_simplify.specs.ChainSteps.{IsStepTo}
use Rattle.rules_simplify.specs.Tables.{rows_of}
use Rattle.rules_simplify.proofs.StepLemmas.{next_term, way_starts, way_ends, way_finds, way_stops, way_conjoins, way_goes, step_falls}
use Rattle.rules_simplify.proofs.rewrites.reaches.Goals as goal

pub chain-init : goal.chain-init
chain-init c = record {
  same = refl;
  some = c.requires.at;
  way = λ t u at refers. way_starts c.args.symbols.now c.args.terms.now (rows_of c.args.table) c.args.at.now t u at;
}

pub makes-requires-clause-at : goal.makes-requires-clause-at
makes-requires-clause-at c = rw (c.first_fit.ensures.same, c.chain.invariant.same) c.chain.invariant.some

pub returns-then-branch-2-clause-reaches : goal.returns-then-branch-2-clause-reaches
returns-then-branch-2-clause-reaches c t u at refers =
    let s = c.args.symbols.now in
    let v = c.args.terms.now in
    let rows = rows_of c.args.table in
    let way = c.chain.invariant.way t u at refers in
    let is = (rw c.chain.invariant.same at (OnTrue_at c.if-branch.true c.in_ok-first_fit.ensures.first)) way.here way.is in
    let test = rw (c.first_fit.ensures.same, c.chain.invariant.same) at c.in_ok-makes.ensures.makes in
    way_finds s v rows c.chain.at t u way c.first_fit.new.fit is c.in_ok-makes.field-0 (λ f e. test rows is.row way.here u f is.parts way.is refers e) c.if-branch-2.true

pub advance-requires : goal.advance-requires
advance-requires c =
    let way = c.chain.invariant.way c.requires.at.means c.requires.right.means c.requires.at.is c.requires.right.refers in
    rw (c.makes.ensures.same, c.first_fit.ensures.same, c.chain.invariant.same)
    (record { means = way.here; is = (rw c.chain.invariant.same at (OnTrue_at c.if-branch.true c.in_ok-first_fit.ensures.first)) way.here way.is })

pub returns-in-Ends-clause-reaches : goal.returns-in-Ends-clause-reaches
returns-in-Ends-clause-reaches c t u at refers =
    let s = c.args.symbols.now in
    let v = c.args.terms.now in
    let rows = rows_of c.args.table in
    let way = c.chain.invariant.way t u at refers in
    let is = (rw c.chain.invariant.same at (OnTrue_at c.if-branch.true c.in_ok-first_fit.ensures.first)) way.here way.is in
    let test = rw (c.first_fit.ensures.same, c.chain.invariant.same) at c.in_ok-makes.ensures.makes in
    let step = rw (c.makes.ensures.same, c.first_fit.ensures.same, c.chain.invariant.same) at c.in_ok-advance.ensures.step in
    way_stops s v rows c.chain.at t u way c.first_fit.new.fit is c.in_ok-makes.field-0 (λ f e. test rows is.row way.here u f is.parts way.is refers e) c.if-branch-2.false
    (subst (IsStepTo s v rows _ (next_term s v rows c.first_fit.new.fit way.here is)) c.in-Ends.is (step way.here is))

pub reaches_conjoined-requires-clause-from : goal.reaches_conjoined-requires-clause-from
reaches_conjoined-requires-clause-from c =
    let s = c.args.symbols.now in
    let v = c.args.terms.now in
    let rows = rows_of c.args.table in
    let way = c.chain.invariant.way c.requires.at.means c.requires.right.means c.requires.at.is c.requires.right.refers in
    let is = (rw c.chain.invariant.same at (OnTrue_at c.if-branch.true c.in_ok-first_fit.ensures.first)) way.here way.is in
    let next = next_term s v rows c.first_fit.new.fit way.here is in
    let step = rw (c.makes.ensures.same, c.first_fit.ensures.same, c.chain.invariant.same) at c.in_ok-advance.ensures.step in
    rw (c.advance.ensures.same, c.makes.ensures.same, c.first_fit.ensures.same, c.chain.invariant.same)
    (record { means = next; is = (subst (IsStepTo s v rows _ next) c.in-Conjoins.is (step way.here is)).1 })

pub returns-in-Conjoins-clause-reaches : goal.returns-in-Conjoins-clause-reaches
returns-in-Conjoins-clause-reaches c =
    IfOk-weaker c.reaches_conjoined.result _ _ (λ told reaches t u at refers.
    let s = c.args.symbols.now in
    let v = c.args.terms.now in
    let rows = rows_of c.args.table in
    let way = c.chain.invariant.way t u at refers in
    let is = (rw c.chain.invariant.same at (OnTrue_at c.if-branch.true c.in_ok-first_fit.ensures.first)) way.here way.is in
    let next = next_term s v rows c.first_fit.new.fit way.here is in
    let test = rw (c.first_fit.ensures.same, c.chain.invariant.same) at c.in_ok-makes.ensures.makes in
    let step = rw (c.makes.ensures.same, c.first_fit.ensures.same, c.chain.invariant.same) at c.in_ok-advance.ensures.step in
    let from = subst (IsStepTo s v rows _ next) c.in-Conjoins.is (step way.here is) in
    way_conjoins s v rows c.chain.at t u way c.first_fit.new.fit is c.in_ok-makes.field-0 (λ f e. test rows is.row way.here u f is.parts way.is refers e) told c.if-branch-2.false from.0
    (reaches next u from.1 refers)) (rw (c.advance.ensures.same, c.makes.ensures.same, c.first_fit.ensures.same, c.chain.invariant.same) at c.reaches_conjoined.ensures.reaches)

pub chain-preserved : goal.chain-preserved
chain-preserved c =
    let s = c.args.symbols.now in
    let v = c.args.terms.now in
    let rows = rows_of c.args.table in
    let first = rw c.chain.invariant.same at (OnTrue_at c.if-branch.true c.in_ok-first_fit.ensures.first) in
    let test = rw (c.first_fit.ensures.same, c.chain.invariant.same) at c.in_ok-makes.ensures.makes in
    let step = rw (c.makes.ensures.same, c.first_fit.ensures.same, c.chain.invariant.same) at c.in_ok-advance.ensures.step in
    let start = c.chain.invariant.way c.requires.at.means c.requires.right.means c.requires.at.is c.requires.right.refers in
    let begun = first start.here start.is in
    record {
      same = c.advance.ensures.same ∙ (c.makes.ensures.same ∙ (c.first_fit.ensures.same ∙ c.chain.invariant.same));
      some = record { means = next_term s v rows c.first_fit.new.fit start.here begun; is = subst (IsStepTo s v rows _ (next_term s v rows c.first_fit.new.fit start.here begun)) c.in-Goes.is (step start.here begun) };
      way = λ t u at refers.
          (let way = c.chain.invariant.way t u at refers in
          let is = first way.here way.is in
          way_goes s v rows c.chain.at t u way c.first_fit.new.fit is c.in_ok-makes.field-0 (λ f e. test rows is.row way.here u f is.parts way.is refers e) _ c.if-branch-2.false (subst (IsStepTo s v rows _ (next_term s v rows c.first_fit.new.fit way.here is)) c.in-Goes.is (step way.here is)));
    }

pub chain-smaller : goal.chain-smaller
chain-smaller c =
    let s = c.args.symbols.now in
    let v = c.args.terms.now in
    let rows = rows_of c.args.table in
    let first = rw c.chain.invariant.same at (OnTrue_at c.if-branch.true c.in_ok-first_fit.ensures.first) in
    let step = rw (c.makes.ensures.same, c.first_fit.ensures.same, c.chain.invariant.same) at c.in_ok-advance.ensures.step in
    let start = c.chain.invariant.way c.requires.at.means c.requires.right.means c.requires.at.is c.requires.right.refers in
    let begun = first start.here start.is in
    step_falls s v c.leaves_differ.ensures.table c.terms_at.ensures.terms c.args.table c.first_fit.new.fit start.here begun c.chain.at _ start.is (subst (IsStepTo s v rows _ (next_term s v rows c.first_fit.new.fit start.here begun)) c.in-Goes.is (step start.here begun))

pub returns-clause-reaches : goal.returns-clause-reaches
returns-clause-reaches c t u at refers =
    let s = c.args.symbols.now in
    let v = c.args.terms.now in
    let rows = rows_of c.args.table in
    let way = c.chain.invariant.way t u at refers in
    let none = rw c.chain.invariant.same at (OnFalse_at c.if-branch.false c.in_ok-first_fit.ensures.none) in
    way_ends s v rows c.chain.at t u way (λ w. none way.here w way.is)
