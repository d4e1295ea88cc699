use Rattle.std.proofs.Common.{◌≡◌, List, map, ap, subst, ◌∙◌}
use Rattle.std.proofs.lemmas.List.{take_all}
use Rattle.sym_table.specs.Table.{Table}
use Rattle.term_model.specs.Terms.{Var, Term}
use Rattle.term_parts.specs.Judging.{ReferToClauses}
use Rattle.term_pool.specs.Views.{TermsView}
use Rattle.rule_model.specs.Proofs.{ProofItems}
use Rattle.rule_model.specs.Reading.{clause_at, premises_at}
use Rattle.rule_model.proofs.Standing.{premise_within}
use Rattle.proof_store.specs.Meaning.{StandForItems}
use Rattle.proof_store.proofs.PremiseLemmas.{clauses_more, clauses_stand, clauses_are_terms, literals_of}
use Rattle.proof_store.proofs.premises.premise_clauses.Goals as goal

pub clause-requires : goal.clause-requires
clause-requires c =
    rw c.premises-premises.ensures
    (premise_within c.args.proof.now c.args.i c.premises.premise-index 0 c.count-commands.ensures.well_formed c.requires
    (rw c.premises-premises.ensures at c.premises-test.true))

pub premises-preserved : goal.premises-preserved
premises-preserved c =
    rw c.in_ok-push.ensures.items
    (clauses_more (clause_at c.args.proof.now) c.premises-premises.result.now c.premises.premise-index c.premises.list.items c.clause.result
    c.premises-test.true c.clause.ensures c.premises.invariant)

pub returns : goal.returns
returns c =
    let refs = c.args.proof.now in
    let i = c.args.i in
    let list = c.premises.list.items in
    let all : literals_of list ≡ map (clause_at refs) (premises_at refs i) =
    c.premises.invariant
    ∙ ap (map (clause_at refs)) (take_all c.premises.premise-index c.premises-premises.result.now c.premises-test.false ∙ c.premises-premises.ensures) in
    let stand : (s : Table) (v : TermsView) (of : ProofItems Var Term) → StandForItems s v refs of
    → ReferToClauses s v list (map (clause_at of) (premises_at of i)) = λ s v of h.
    subst (λ js. ReferToClauses s v list (map (clause_at of) js)) (c.commands_correspond.ensures.premises s v refs of i h)
    (clauses_stand s v (clause_at refs) (clause_at of) list (premises_at refs i) (λ j. c.terms_correspond.ensures.clause s v refs of j h) all) in
    record {
      clauses = all;
      stand = stand;
      terms = λ s v of h. clauses_are_terms s v list (map (clause_at of) (premises_at of i)) (stand s v of h);
    }
