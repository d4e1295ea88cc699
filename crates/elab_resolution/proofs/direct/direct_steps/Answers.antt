use Rattle.std.proofs.Common.{◌≡◌, ◌∷◌, [], ℕ, Bool, List, map, sym, ◌∙◌, ap, subst, All}
use Rattle.std.specs.Borrow.{Bor}
use Rattle.sym_table.specs.Table.{Table}
use Rattle.term_model.specs.Terms.{Var, Term}
use Rattle.term_parts.specs.Judging.{ReferToClauses}
use Rattle.term_pool.specs.Views.{IsTerm, ReferToAll, TermsView}
use Rattle.proof_store.specs.Meaning.{StandForItems}
use Rattle.rule_model.specs.Proofs.{ProofItems}
use Rattle.rule_model.specs.Reading.{clause_at, premise_clauses, premises_at}
use Rattle.elab_resolution.specs.Adding.{AreAddedFor, AreNear, roots_at}
use Rattle.elab_resolution.specs.Guessed.{AreMetWith, IsPivotOfSome}
use Rattle.elab_resolution.proofs.DirectLemmas.{direct, direct_added, direct_spelled, found_of, is_direct}
use Rattle.elab_resolution.proofs.direct.direct_steps.Goals as goal

pub direct_pivots-requires-clause-clause : goal.direct_pivots-requires-clause-clause
direct_pivots-requires-clause-clause c =
    let of = c.requires.stand.proof in
    let stand = c.requires.stand.stand in
    rw c.clause-clause.ensures (record {
      clause = clause_at of c.args.i;
      refer = c.terms_correspond.ensures.clause c.args.symbols.now c.args.terms.now c.args.proof.now of c.args.i stand;
      truths = (c.requires.resolves of stand).clause;
    })

-- what is known where the step is returned, of a proof for which the references stand
module _ (c : goal.After-drop-premises-2) (of : ProofItems Var Term) (stand : StandForItems c.args.symbols.now c.args.terms.now c.args.proof.now of) where
  abbrev s : Table
  s = c.args.symbols.now

  abbrev v : TermsView
  v = c.args.terms.now

  abbrev proof : ProofItems ℕ ℕ
  proof = c.args.proof.now

  abbrev i : ℕ
  i = c.args.i

  abbrev list : List (Bor (List ℕ))
  list = c.deref.result.now

  abbrev pivots : List (ℕ × Bool)
  pivots = c.in-Some.pivots.items

  refer : ReferToAll s v (clause_at proof i) (clause_at of i)
  refer = c.terms_correspond.ensures.clause s v proof of i stand

  given : ReferToClauses s v list (premise_clauses of i)
  given = subst (λ l. ReferToClauses s v l (premise_clauses of i)) (sym c.deref.ensures.value) (c.in_ok-premise_clauses.ensures.stand s v of stand)

  found : All (λ (p : ℕ × Bool). IsPivotOfSome s v list p.0) pivots
  found =
      found_of c.in_ok-pivots.field-0 c.in-Some.pivots (λ ps. All (λ (p : ℕ × Bool). IsPivotOfSome s v list p.0) ps.items) c.in-Some.is
      c.in_ok-pivots.ensures.pivots

  met : AreMetWith s v list (clause_at proof i) pivots
  met =
      subst (λ clause. AreMetWith s v list clause pivots) c.clause-clause.ensures
      (found_of c.in_ok-pivots.field-0 c.in-Some.pivots (λ ps. AreMetWith s v list c.clause-clause.result.now ps.items) c.in-Some.is
      c.in_ok-pivots.ensures.met)

  clauses : map (λ (p : Bor (List ℕ)). p.now) list ≡ map (clause_at proof) (premises_at proof i)
  clauses = ap (map (λ (p : Bor (List ℕ)). p.now)) c.deref.ensures.value ∙ c.in_ok-premise_clauses.ensures.clauses

  known : All (λ (p : Bor (List ℕ)). All (IsTerm s v) p.now) list
  known = subst (All (λ (p : Bor (List ℕ)). All (IsTerm s v) p.now)) (sym c.deref.ensures.value) (c.in_ok-premise_clauses.ensures.terms s v of stand)

  is : c.push.new.self.items ≡ direct proof i pivots ∷ []
  is =
      is_direct proof i pivots c.in_ok-steps.steps.items c.push.new.self.items c.new-literals.result.items c.extend_from_slice.new.self.items
      c.clause-clause.result.now c.premises.result.now c.in_ok-links_to.field-0.items c.in_ok-push.ensures.items c.in_ok-steps.ensures.items
      c.in_ok-extend_from_slice.ensures.items c.new-literals.ensures.items c.clause-clause.ensures c.in_ok-links_to.ensures c.premises.ensures

  added_here : AreAddedFor s v proof i c.push.new.self.items
  added_here =
      subst (AreAddedFor s v proof i) (sym is)
      (direct_added s v proof of i list pivots refer given found clauses known (c.requires.resolves of stand) met)

  spelled_here : AreNear s v (roots_at of i) c.push.new.self.items
  spelled_here =
      subst (AreNear s v (roots_at of i)) (sym is)
      (direct_spelled s v proof of i list pivots refer given found (c.equal_exactly_where_terms_are.ensures s c.leaves_differ.ensures.table))

pub returns-clause-added : goal.returns-clause-added
returns-clause-added c = added_here c c.requires.stand.proof c.requires.stand.stand

pub returns-clause-spelled : goal.returns-clause-spelled
returns-clause-spelled = spelled_here
