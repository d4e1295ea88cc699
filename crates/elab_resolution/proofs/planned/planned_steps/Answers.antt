use Rattle.std.proofs.Common.{◌≡◌, ◌+◌, ◌≤◌, ◌<◌, ◌^◌, ℕ, List, length, map, refl, sym, ◌∙◌, ap, subst, arith}
use Rattle.std.proofs.lemmas.List.{length-map}
use Rattle.std.specs.Borrow.{Bor}
use Rattle.sym_table.specs.Table.{Table}
use Rattle.sym_table.proofs.Tables.{keeps_table}
use Rattle.term_model.specs.Terms.{Var, Term}
use Rattle.term_parts.specs.Judging.{ReferToClauses}
use Rattle.term_pool.specs.Views.{KeepsTerms, ReferToAll, TermsView}
use Rattle.term_pool.proofs.References.{AreOne, refer_are_terms}
use Rattle.proof_store.specs.Meaning.{StandForItems}
use Rattle.rule_model.specs.Proofs.{ProofItems}
use Rattle.rule_model.specs.Reading.{clause_at, premise_clauses, premises_at}
use Rattle.proof_store.specs.AddedSteps.{AddedStep}
use Rattle.chain_plan.specs.Plans.{PlannedStep}
use Rattle.elab_resolution.specs.Adding.{AreAddedFor, AreNear, EndsInClause, nots_at_step, roots_at}
use Rattle.elab_resolution.specs.Levels.{numbered}
use Rattle.elab_resolution.specs.Loaded.{added_for}
use Rattle.elab_resolution.specs.Plannable.{IsLoaded, ReferToStep}
use Rattle.elab_resolution.proofs.StepLemmas.{are_added, are_spelled, end_added, few_added, plannable, shown_of, there_is}
use Rattle.elab_resolution.proofs.planned.planned_steps.Goals as goal

pub find_trail-requires-clause-clause : goal.find_trail-requires-clause-clause
find_trail-requires-clause-clause c =
    rw c.clause-clause.ensures
    (refer_are_terms c.args.symbols.now c.args.terms.now _ _
    (c.terms_correspond.ensures.clause c.args.symbols.now c.args.terms.now c.args.proof.now c.requires.stand.proof c.args.i c.requires.stand.stand))

-- the clauses as they are handed on
module _ (s : Table) (v : TermsView) (i : ℕ) (of : ProofItems Var Term) (list handed : List (Bor (List ℕ))) (clause clause_of : List ℕ) (same : handed ≡ list)
    (is : clause ≡ clause_of) where
  given_there : ReferToClauses s v list (premise_clauses of i) → ReferToClauses s v handed (premise_clauses of i)
  given_there h = subst (λ ps. ReferToClauses s v ps (premise_clauses of i)) (sym same) h

  goal_there : ReferToAll s v clause_of (clause_at of i) → ReferToAll s v clause (clause_at of i)
  goal_there h = subst (λ rs. ReferToAll s v rs (clause_at of i)) (sym is) h

pub unwrap-trail-requires : goal.unwrap-trail-requires
unwrap-trail-requires c =
    let s = c.args.symbols.now in
    let v = c.args.terms.now in
    let of = c.requires.stand.proof in
    let stand = c.requires.stand.stand in
    there_is c.in_ok-find_trail.field-0 _ c.in_ok-find_trail.ensures.none
    (λ none.
    none (premise_clauses of c.args.i) (clause_at of c.args.i)
    (given_there s v c.args.i of c.premise_clauses.new.list.items c.deref.result.now c.clause-clause.result.now (clause_at c.args.proof.now c.args.i)
    c.deref.ensures.value c.clause-clause.ensures (c.in_ok-premise_clauses.ensures.stand s v of stand))
    (goal_there s v c.args.i of c.premise_clauses.new.list.items c.deref.result.now c.clause-clause.result.now (clause_at c.args.proof.now c.args.i)
    c.deref.ensures.value c.clause-clause.ensures (c.terms_correspond.ensures.clause s v c.args.proof.now of c.args.i stand))
    (c.requires.resolves of stand).follows)

pub load-requires : goal.load-requires
load-requires c =
    let s = c.args.symbols.now in
    let v = c.args.terms.now in
    let of = c.requires.stand.proof in
    let stand = c.requires.stand.stand in
    subst (λ z. ReferToStep s z c.deref-2.result.now c.clause-clause.result.now) (sym c.in_ok-find_trail.ensures.same)
    (record {
      given = premise_clauses of c.args.i;
      given_refer =
          given_there s v c.args.i of c.premise_clauses.new.list.items c.deref-2.result.now c.clause-clause.result.now (clause_at c.args.proof.now c.args.i)
          c.deref-2.ensures.value c.clause-clause.ensures (c.in_ok-premise_clauses.ensures.stand s v of stand);
      goal = clause_at of c.args.i;
      goal_refer =
          goal_there s v c.args.i of c.premise_clauses.new.list.items c.deref-2.result.now c.clause-clause.result.now (clause_at c.args.proof.now c.args.i)
          c.deref-2.ensures.value c.clause-clause.ensures (c.terms_correspond.ensures.clause s v c.args.proof.now of c.args.i stand);
    })

given_at : (s : Table) (v z : TermsView) → z ≡ v → (list handed : List (Bor (List ℕ))) (ps : List (List Term)) → handed ≡ list → ReferToClauses s v list ps
    → ReferToClauses s z handed ps
given_at s v z same list handed ps is h = subst (λ y. ReferToClauses s y handed ps) (sym same) (subst (λ rs. ReferToClauses s v rs ps) (sym is) h)

goal_at : (s : Table) (v z : TermsView) → z ≡ v → (clause handed : List ℕ) (ts : List Term) → handed ≡ clause → ReferToAll s v clause ts
    → ReferToAll s z handed ts
goal_at s v z same clause handed ts is h = subst (λ y. ReferToAll s y handed ts) (sym same) (subst (λ rs. ReferToAll s v rs ts) (sym is) h)

few_premises : (proof : ProofItems ℕ ℕ) (of : ProofItems Var Term) (i : ℕ) → premises_at proof i ≡ premises_at of i → length (premises_at proof i) < 2 ^ 32
    → length (premise_clauses of i) < 2 ^ 32
few_premises proof of i same few =
    let a = length-map (premises_at of i) (clause_at of) in
    let b = ap length same in
    omega arith

pub plan-requires : goal.plan-requires
plan-requires c =
    plannable s c.load.new.terms (premise_clauses of c.args.i) (clause_at of c.args.i) c.clause-clause.result.now c.in_ok-loaded.loaded c.unwrap-trail.result
    loaded (few_premises c.args.proof.now of c.args.i (c.commands_correspond.ensures.premises s v c.args.proof.now of c.args.i stand)
    (c.requires.short.premises c.args.i))
    (shown_of c.in_ok-find_trail.field-0 c.unwrap-trail.result _ c.unwrap-trail.ensures c.in_ok-find_trail.ensures.shown (premise_clauses of c.args.i)
    (clause_at of c.args.i)
    (given_at s v v refl c.premise_clauses.new.list.items c.deref.result.now (premise_clauses of c.args.i)
    c.deref.ensures.value (c.in_ok-premise_clauses.ensures.stand s v of stand))
    (goal_at s v v refl (clause_at c.args.proof.now c.args.i) c.clause-clause.result.now (clause_at of c.args.i)
    c.clause-clause.ensures (c.terms_correspond.ensures.clause s v c.args.proof.now of c.args.i stand)))
  where
    s : Table
    s = c.args.symbols.now

    v : TermsView
    v = c.args.terms.now

    of : ProofItems Var Term
    of = c.requires.stand.proof

    stand : StandForItems s v c.args.proof.now of
    stand = c.requires.stand.stand

    loaded : IsLoaded s c.load.new.terms (premise_clauses of c.args.i) (clause_at of c.args.i) c.clause-clause.result.now c.in_ok-loaded.loaded
    loaded =
        c.in_ok-loaded.ensures.loaded (premise_clauses of c.args.i) (clause_at of c.args.i)
        (given_at s v c.find_trail.new.terms c.in_ok-find_trail.ensures.same c.premise_clauses.new.list.items c.deref-2.result.now (premise_clauses of c.args.i)
        c.deref-2.ensures.value (c.in_ok-premise_clauses.ensures.stand s v of stand))
        (goal_at s v c.find_trail.new.terms c.in_ok-find_trail.ensures.same (clause_at c.args.proof.now c.args.i) c.clause-clause.result.now
        (clause_at of c.args.i)
        c.clause-clause.ensures (c.terms_correspond.ensures.clause s v c.args.proof.now of c.args.i stand))

added_is : (refs read : List ℕ) (truth : ℕ) (premises seen : List ℕ) (steps taken : List PlannedStep) (added : List AddedStep)
    → added ≡ map (added_for read truth seen) taken → read ≡ refs → seen ≡ premises → taken ≡ steps → added ≡ map (added_for refs truth premises) steps
added_is refs read truth premises seen steps taken added e a b d =
    e ∙ (ap (λ rs. map (added_for rs truth seen) taken) a
    ∙ (ap (λ ps. map (added_for refs truth ps) taken) b ∙ ap (map (added_for refs truth premises)) d))

-- what is known where the steps are returned, of a proof for which the references stand
module _ (c : goal.After-drop-premises-2) (of : ProofItems Var Term) (stand : StandForItems c.args.symbols.now c.args.terms.now c.args.proof.now of) where
  abbrev s : Table
  s = c.args.symbols.now

  abbrev v : TermsView
  v = c.args.terms.now

  abbrev w : TermsView
  w = c.load.new.terms

  keeps : KeepsTerms v w
  keeps = subst (λ y. KeepsTerms y w) c.in_ok-find_trail.ensures.same c.in_ok-loaded.ensures.keeps

  one : AreOne s w
  one = c.equal_exactly_where_terms_are.ensures s c.leaves_differ.ensures.table

  clauses : (m : ℕ) → ReferToAll s w (clause_at c.args.proof.now m) (clause_at of m)
  clauses m =
      c.terms_correspond.ensures.clause s w c.args.proof.now of m (c.proofs_stay.ensures s s v w c.args.proof.now of (keeps_table s) keeps stand)

  loaded : IsLoaded s w (premise_clauses of c.args.i) (clause_at of c.args.i) c.clause-clause.result.now c.in_ok-loaded.loaded
  loaded =
      c.in_ok-loaded.ensures.loaded (premise_clauses of c.args.i) (clause_at of c.args.i)
      (given_at s v c.find_trail.new.terms c.in_ok-find_trail.ensures.same c.premise_clauses.new.list.items c.deref-2.result.now (premise_clauses of c.args.i)
      c.deref-2.ensures.value (c.in_ok-premise_clauses.ensures.stand s v of stand))
      (goal_at s v c.find_trail.new.terms c.in_ok-find_trail.ensures.same (clause_at c.args.proof.now c.args.i) c.clause-clause.result.now
      (clause_at of c.args.i)
      c.clause-clause.ensures (c.terms_correspond.ensures.clause s v c.args.proof.now of c.args.i stand))

  is : c.in_ok-added.added.items ≡ map (added_for c.in_ok-loaded.loaded.refs.items c.in_ok-loaded.loaded.truth (premises_at c.args.proof.now c.args.i))
      c.in_ok-planned.planned.items
  is =
      added_is c.in_ok-loaded.loaded.refs.items c.deref-3.result.now c.in_ok-loaded.loaded.truth (premises_at c.args.proof.now c.args.i) c.premises.result.now
      c.in_ok-planned.planned.items c.deref-4.result.now c.in_ok-added.added.items c.in_ok-added.ensures c.deref-3.ensures.value c.premises.ensures
      c.deref-4.ensures.value

  premises : premises_at c.args.proof.now c.args.i ≡ premises_at of c.args.i
  premises = c.commands_correspond.ensures.premises s v c.args.proof.now of c.args.i stand

  added_here : AreAddedFor s w c.args.proof.now c.args.i c.in_ok-added.added.items
  added_here =
      are_added s w one c.args.proof.now of c.args.i clauses premises c.in_ok-loaded.loaded c.clause-clause.result.now loaded
      c.in_ok-planned.planned.items c.in_ok-added.added.items is (c.requires.resolves of stand) c.in_ok-planned.ensures.rules
      (c.in_ok-planned.ensures.met (numbered loaded.terms) loaded.named)

  ends_here : EndsInClause (clause_at c.args.proof.now c.args.i) c.in_ok-added.added.items
  ends_here =
      end_added s w one c.args.proof.now of c.args.i clauses premises c.in_ok-loaded.loaded c.clause-clause.result.now loaded
      c.in_ok-planned.planned.items c.in_ok-added.added.items is c.clause-clause.ensures c.in_ok-planned.ensures.ends

  few_here : length c.in_ok-added.added.items ≤ nots_at_step of c.args.i + 4
  few_here =
      few_added s w one c.args.proof.now of c.args.i clauses premises c.in_ok-loaded.loaded c.clause-clause.result.now loaded
      c.in_ok-planned.planned.items c.in_ok-added.added.items is c.in_ok-planned.ensures.count

  spelled_here : AreNear s w (roots_at of c.args.i) c.in_ok-added.added.items
  spelled_here =
      are_spelled s w one c.args.proof.now of c.args.i clauses premises c.in_ok-loaded.loaded c.clause-clause.result.now loaded
      c.in_ok-planned.planned.items c.in_ok-added.added.items is

pub returns-clause-added : goal.returns-clause-added
returns-clause-added c = added_here c c.requires.stand.proof c.requires.stand.stand

pub returns-clause-ends : goal.returns-clause-ends
returns-clause-ends c = ends_here c c.requires.stand.proof c.requires.stand.stand

pub returns-clause-few : goal.returns-clause-few
returns-clause-few = few_here

pub returns-clause-spelled : goal.returns-clause-spelled
returns-clause-spelled = spelled_here
