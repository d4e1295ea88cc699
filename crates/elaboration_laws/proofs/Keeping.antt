-- What is kept over references is kept over terms.
use Rattle.std.proofs.Common.{◌≡◌, ℕ, [], ◌∷◌, refl, sym, ◌∙◌, ap, subst}
use Rattle.std.specs.List.{AllZip}
use Rattle.pair_pool.specs.Trees.{Tree}
use Rattle.pair_pool.specs.Views.{IsOneToOne}
use Rattle.sym_table.specs.Table.{Table}
use Rattle.term_model.specs.Terms.{Var, Term}
use Rattle.term_pool.specs.StandsFor.{StandsFor}
use Rattle.term_pool.specs.Views.{TermsView, ReferToAll}
use Rattle.proof_store.specs.Meaning.{IsProofStepOf, StandForItems, no_items_stand, assume_stands, step_stands, subproof_stands}
use Rattle.rule_model.specs.Elaboration.{Adds, none_added, step_added, assume_added, TakesPlace, IsSamePlace, Keeps, nothing_kept, assume_kept, assume_derived, step_kept, subproof_kept}
use Rattle.rule_model.specs.Proofs.{Step, ProofItems, with_assume, with_step, with_subproof}
use Rattle.rule_model.specs.Scopes.{Nesting, outermost, inner}
use Rattle.rule_model.specs.Statuses.{Checking, kind_of_rule}
use Rattle.rule_model.specs.Visibility.{assumes_in}
use Rattle.elaboration_laws.proofs.Alike.{Alike, outermost_alike, assumes_same, inner_alike}
use Rattle.elaboration_laws.proofs.Ones.{one_reference, one_clause, one_anchor}

module _ (s : Table) (v : TermsView) (known : IsOneToOne v.pass) (one_term : (a : Tree) (t u : Term) → StandsFor s a t → StandsFor s a u → t ≡ u) (c : Checking) where
  adds_stand : (n : Nesting ℕ ℕ) (m : Nesting Var Term) (items more : ProofItems ℕ ℕ) (qs : ProofItems Var Term) → (n ≡ outermost → m ≡ outermost) → Adds c n items more → StandForItems s v more qs
      → (ps : ProofItems Var Term) × StandForItems s v items ps × Adds c m ps qs
  adds_stand _ m _ _ qs outer (none_added n items) h = (qs, h, none_added m qs)
  adds_stand _ m _ _ _ outer (step_added n items more st adds other) (step_stands _ qs _ of h stands) =
      let before = adds_stand n m items more qs outer adds h in
      (before.0, before.1, step_added m before.0 qs of before.2 (λ e. other (ap (kind_of_rule c) stands.rule ∙ e)))
  adds_stand _ m _ _ _ outer (assume_added items more id t adds) (assume_stands _ qs _ _ u h refers) =
      let before = adds_stand outermost m items more qs outer adds h in (
        before.0,
        before.1,
        subst (λ k. Adds c k before.0 (with_assume qs id u)) (sym (outer refl))
            (assume_added before.0 qs id u (subst (λ k. Adds c k before.0 qs) (outer refl) before.2)),
      )

  takes_stand : (old new : Step ℕ) (o w : Step Term) → IsProofStepOf s v old o → IsProofStepOf s v new w → TakesPlace c old new → TakesPlace c o w
  takes_stand old new o w so sw takes = record {
    clause = one_clause s v known one_term new.clause w.clause o.clause sw.clause (subst (λ rs. ReferToAll s v rs o.clause) (sym takes.clause) so.clause);
    hole = λ e.
        let h = takes.hole (ap (kind_of_rule c) so.rule ∙ e) in
        (ap (kind_of_rule c) (sym sw.rule) ∙ h.0, sym sw.rule_name ∙ (h.1 ∙ so.rule_name));
    no_hole = λ e. ap (kind_of_rule c) (sym so.rule) ∙ takes.no_hole (ap (kind_of_rule c) sw.rule ∙ e);
  }

  pub keeps_stand : (n n2 : Nesting ℕ ℕ) (m m2 : Nesting Var Term) (items kept : ProofItems ℕ ℕ) (ps qs : ProofItems Var Term) → Alike s v n m → Alike s v n2 m2
      → Keeps c n items n2 kept → StandForItems s v items ps → StandForItems s v kept qs → Keeps c m ps m2 qs
  keeps_stand _ _ m m2 _ _ _ _ a b (nothing_kept n n2) no_items_stand no_items_stand = nothing_kept m m2
  keeps_stand _ _ m m2 _ _ _ _ a b (assume_kept n n2 items kept more id new_id t keeps adds) (assume_stands _ ps _ _ u h ru) (assume_stands _ qs _ _ w g rv) =
      let before = adds_stand n2 m2 kept more qs b.outer adds g in
      let same : u ≡ w = one_reference s v known one_term t u w ru rv in
      subst (λ x. Keeps c m (with_assume ps id u) m2 (with_assume qs new_id x)) same
      (assume_kept m m2 ps before.0 qs id new_id u (keeps_stand n n2 m m2 items kept ps before.0 a b keeps h before.1) before.2)
  keeps_stand _ _ m m2 _ _ _ _ a b (assume_derived items kept more id t st keeps adds clause other) (assume_stands _ ps _ _ u h ru) (step_stands _ qs _ of g stands) =
      let before = adds_stand outermost m2 kept more qs b.outer adds g in
      let outer : m ≡ outermost = a.outer refl in
      let outer2 : m2 ≡ outermost = b.outer refl in
      let keeps_now = keeps_stand outermost outermost m m2 items kept ps before.0 a b keeps h before.1 in
      let clause_now : of.clause ≡ u ∷ [] = one_clause s v known one_term st.clause of.clause (u ∷ []) stands.clause (subst (λ rs. ReferToAll s v rs (u ∷ [])) (sym clause) (ru, tt)) in
      subst (λ k. Keeps c k (with_assume ps id u) m2 (with_step qs of)) (sym outer)
      (subst (λ k. Keeps c outermost (with_assume ps id u) k (with_step qs of)) (sym outer2)
      (assume_derived ps before.0 qs id u of
      (subst (λ k. Keeps c outermost ps k before.0) outer2 (subst (λ k. Keeps c k ps m2 before.0) outer keeps_now))
      (subst (λ k. Adds c k before.0 qs) outer2 before.2) clause_now (λ e. other (ap (kind_of_rule c) stands.rule ∙ e))))
  keeps_stand _ _ m m2 _ _ _ _ a b (step_kept n n2 items kept more old new keeps adds takes) (step_stands _ ps _ o h so) (step_stands _ qs _ w g sw) =
      let before = adds_stand n2 m2 kept more qs b.outer adds g in
      step_kept m m2 ps before.0 qs o w (keeps_stand n n2 m m2 items kept ps before.0 a b keeps h before.1) before.2 (takes_stand old new o w so sw takes)
  keeps_stand _ _ m m2 _ _ _ _ a b (subproof_kept n n2 items kept more inner_items inner_kept bindings old new keeps adds within takes same) (subproof_stands _ ps _ bound _ deep _ o h bo ho so)
      (subproof_stands _ qs _ bound2 _ deep2 _ w g bg hg sw) =
      let before = adds_stand n2 m2 kept more qs b.outer adds g in
      let in_old = inner_alike s v n m items ps bindings bound old o a h bo so in
      let in_new = inner_alike s v n2 m2 more qs bindings bound new w b g bo sw in
      let inner_now = keeps_stand (inner n items bindings old) (inner n2 more bindings new) (inner m ps bound o) (inner m2 qs bound w) inner_items inner_kept deep deep2 in_old in_new within ho hg in
      let olds = assumes_same s v (inner n items bindings old) (inner m ps bound o) inner_items deep in_old ho in
      let news = assumes_same s v (inner n2 more bindings new) (inner m2 qs bound w) inner_kept deep2 in_new hg in
      let places : AllZip (IsSamePlace (assumes_in (inner m ps bound o) deep) (assumes_in (inner m2 qs bound w) deep2)) o.discharged w.discharged =
      subst (λ xs. AllZip (IsSamePlace xs (assumes_in (inner m2 qs bound w) deep2)) o.discharged w.discharged) olds
      (subst (λ ys. AllZip (IsSamePlace (assumes_in (inner n items bindings old) inner_items) ys) o.discharged w.discharged) news
      (subst (λ ds. AllZip (IsSamePlace (assumes_in (inner n items bindings old) inner_items) (assumes_in (inner n2 more bindings new) inner_kept)) ds w.discharged) so.discharged
      (subst (λ ds. AllZip (IsSamePlace (assumes_in (inner n items bindings old) inner_items) (assumes_in (inner n2 more bindings new) inner_kept)) old.discharged ds) sw.discharged same))) in
      subst (λ bs. Keeps c m (with_subproof ps bound deep o) m2 (with_subproof qs bs deep2 w)) (one_anchor s v known one_term bindings bound bound2 bo bg)
      (subproof_kept m m2 ps before.0 qs deep deep2 bound o w (keeps_stand n n2 m m2 items kept ps before.0 a b keeps h before.1) before.2 inner_now (takes_stand old new o w so sw takes) places)

  pub kept_over_terms : (refs new : ProofItems ℕ ℕ) (proof terms : ProofItems Var Term) → Keeps c outermost refs outermost new → StandForItems s v refs proof → StandForItems s v new terms
      → Keeps c outermost proof outermost terms
  kept_over_terms refs new proof terms keeps h g =
      keeps_stand outermost outermost outermost outermost refs new proof terms (outermost_alike s v) (outermost_alike s v) keeps h g
