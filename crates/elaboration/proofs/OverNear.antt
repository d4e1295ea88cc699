-- What is near to literals over a vocabulary is over it: the literals and pivots of steps in the place of a resolution.
use Rattle.std.proofs.Common.{◌≡◌, ◌<◌, inl, ℕ, zero, suc, Bool, List, [], ◌∷◌, get_or, refl, sym, subst, Contains}
use Rattle.std.specs.List.{AllZip, AllByRecursion}
use Rattle.std.proofs.lemmas.List.Elements.{All-contains, All-from_recursion, recursion_from_All}
use Rattle.pair_pool.specs.Trees.{Tree}
use Rattle.pair_pool.specs.Views.{IsOneToOne}
use Rattle.sym_table.specs.Table.{Table}
use Rattle.term_model.specs.declared.symbols.Sort.{Sort}
use Rattle.term_model.specs.Sorts.{AreOf}
use Rattle.term_model.specs.Terms.{Var, Term, no_terms, term, not_of}
use Rattle.term_pool.specs.Nots.{negated}
use Rattle.term_pool.specs.StandsFor.{StandsFor}
use Rattle.term_pool.specs.Views.{TermsView, ReferToAll}
use Rattle.proof_store.specs.AddedSteps.{AddedStep}
use Rattle.proof_store.specs.Meaning.{IsPivotOf}
use Rattle.rule_model.specs.Contexts.{IsClosedUnder}
use Rattle.rule_model.specs.Proofs.{ProofItems}
use Rattle.rule_model.specs.Reading.{clause_at, premises_at}
use Rattle.rule_model.specs.Scopes.{Nesting, commands_in}
use Rattle.rule_model.specs.WellFormed.{IsWellFormed}
use Rattle.readable_proofs.specs.Names.{Vocabulary}
use Rattle.readable_proofs.specs.ProofsOver.{IsTermIn, IsPivotIn, IsProofOver}
use Rattle.elab_resolution.specs.Adding.{roots_at}
use Rattle.elab_resolution.specs.Spellings.{IsNearTo}
use Rattle.elaboration_laws.proofs.Ones.{one_clause, one_pivots}
use Rattle.elaboration.specs.Replaced.{IsTermStep}
use Rattle.elaboration.proofs.ClosedRoots.{premise_closed, premise_within}
use Rattle.elaboration.proofs.OverLines.{IsOverAt, over_at}
use Rattle.elaboration.proofs.Roots.{each_root, falsity_term, truth_term}

-- of the law of `readable_proofs`
abbrev pub NegationsAreOver : Type 0
NegationsAreOver = (v : Vocabulary) (nesting : Nesting Var Term) (t : Term) → IsTermIn v nesting t Sort.Bool → IsTermIn v nesting (not_of t) Sort.Bool

module _ (v : Vocabulary) (m : Nesting Var Term) where
  -- a term stands in a scope where it does under `not`s
  pub below_not : (t : Term) (sort : Sort) → IsTermIn v m (not_of t) sort → IsPivotIn v m t
  below_not t sort h = go h.sorted.sorts h.sorted.arguments
    where
      go : (sorts : List Sort) → AreOf (term t no_terms) sorts → IsPivotIn v m t
      go [] k = absurd k
      go (u ∷ []) k = record { sort = u; is = record { of = h.of.0; sorted = k.0; closed = λ x free. h.closed x (inl free) } }
      go (u ∷ (w ∷ sorts)) k = absurd k.1

  below_nots : (n : ℕ) (t : Term) (sort : Sort) → IsTermIn v m (negated n t) sort → IsPivotIn v m t
  below_nots zero t sort h = record { sort = sort; is = h }
  below_nots (suc n) t sort h = let below = below_not (negated n t) sort h in below_nots n t below.sort below.is

  above_nots : NegationsAreOver → (n : ℕ) (t : Term) → IsTermIn v m t Sort.Bool → IsTermIn v m (negated n t) Sort.Bool
  above_nots law zero t h = h
  above_nots law (suc n) t h = law v m (negated n t) (above_nots law n t h)

  near_over : NegationsAreOver → (roots : List Term) → ((root : Term) → Contains roots root → IsTermIn v m root Sort.Bool) → (t : Term) → IsNearTo roots t
      → IsPivotIn v m t
  near_over law roots each t near =
      below_nots near.nots t Sort.Bool
      (subst (λ u. IsTermIn v m u Sort.Bool) (sym near.same) (above_nots law 3 near.root (each near.root near.is)))

  truth_over : IsTermIn v m truth_term Sort.Bool
  truth_over = record { of = tt; sorted = record { sorts = []; arguments = tt; is = refl }; closed = λ x none. absurd none }

  falsity_over : IsTermIn v m falsity_term Sort.Bool
  falsity_over = record { of = tt; sorted = record { sorts = []; arguments = tt; is = refl }; closed = λ x none. absurd none }

  pub literal_over : (ts : List Term) (t : Term) → AllByRecursion (λ u. IsTermIn v m u Sort.Bool) ts → Contains ts t → IsTermIn v m t Sort.Bool
  literal_over ts t h has =
      All-contains (λ u. IsTermIn v m u Sort.Bool) ts t (All-from_recursion (λ u. IsTermIn v m u Sort.Bool) ts h) has

module _ (v : Vocabulary) (law : NegationsAreOver) (proof : ProofItems Var Term) (formed : IsWellFormed proof) (is_over : IsProofOver v proof) (i : ℕ)
    (less : i < commands_in proof) where
  abbrev pub own : IsOverAt v proof i
  own = over_at v proof i less is_over

  -- a premise's literal is closed where the premise stands, so where the step does
  pub premise_over : (p : ℕ) → Contains (premises_at proof i) p → (t : Term) → Contains (clause_at proof p) t → IsTermIn v own.nesting t Sort.Bool
  premise_over p has t literal =
      let there = over_at v proof p (premise_within proof formed i less p has) is_over in
      let is = literal_over v there.nesting (clause_at proof p) t there.clause literal in
      record {
        of = is.of;
        sorted = is.sorted;
        closed = subst (λ xs. IsClosedUnder xs t) (sym own.opens)
            (premise_closed proof formed i less p has t (subst (λ xs. IsClosedUnder xs t) there.opens is.closed));
      }

  root_over : (t : Term) → Contains (roots_at proof i) t → IsTermIn v own.nesting t Sort.Bool
  root_over t has =
      each_root (λ u. IsTermIn v own.nesting u Sort.Bool) proof i premise_over
      (λ u literal. literal_over v own.nesting (clause_at proof i) u own.clause literal)
      (truth_over v own.nesting) (falsity_over v own.nesting) t has

  near_root_over : (t : Term) → IsNearTo (roots_at proof i) t → IsPivotIn v own.nesting t
  near_root_over t near = near_over v own.nesting law (roots_at proof i) root_over t near

  module _ (s : Table) (w : TermsView) (known : IsOneToOne w.pass)
      (one_term : (a : Tree) (t u : Term) → StandsFor s a t → StandsFor s a u → t ≡ u) (refs : ProofItems ℕ ℕ)
      (before : List AddedStep) (a : AddedStep) (h : IsTermStep s w refs proof i before a) where
    pub clause_over : (ts : List Term) → ReferToAll s w a.clause ts → AllByRecursion (λ t. IsTermIn v own.nesting t Sort.Bool) ts
    clause_over ts refer =
        subst (AllByRecursion (λ t. IsTermIn v own.nesting t Sort.Bool)) (one_clause s w known one_term a.clause h.clause ts h.clause_refers refer)
        (recursion_from_All (λ t. IsTermIn v own.nesting t Sort.Bool) h.clause
        (λ k d below.
        let near = near_root_over (get_or h.clause k d) (h.near k d below) in
        record { of = near.is.of; sorted = h.truths k d below; closed = near.is.closed }))

    pub pivots_over : (ps : List (Term × Bool)) → AllZip (IsPivotOf s w) a.pivots ps → AllByRecursion (λ p. IsPivotIn v own.nesting p.0) ps
    pivots_over ps refer =
        subst (AllByRecursion (λ (p : Term × Bool). IsPivotIn v own.nesting p.0))
        (one_pivots s w known one_term a.pivots h.pivots ps h.pivots_refer refer)
        (recursion_from_All (λ (p : Term × Bool). IsPivotIn v own.nesting p.0) h.pivots
        (λ k d below. near_root_over (get_or h.pivots k d).0 (h.near_pivots k d below)))
