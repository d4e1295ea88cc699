-- A proof over a vocabulary, command by command: what is asked of a command's terms depends on the open anchors alone.
use Rattle.std.proofs.Common.{◌≡◌, ◌<◌, ◌||◌, ℕ, Bool, false, List, [], ◌∷◌, ◌++◌, map, slice_get, get_or, Option, Some, None, refl, sym, ◌∙◌, ap, subst, arith}
use Rattle.std.specs.Prelude.{⊤}
use Rattle.std.specs.List.{AllByRecursion}
use Rattle.std.proofs.lemmas.List.Elements.{recursion_from_All}
use Rattle.std.proofs.lemmas.Option.{slice_get_within, slice_get-get_or}
use Rattle.term_model.proofs.Lists.{all_joined, nth_there}
use Rattle.term_model.specs.declared.symbols.Sort.{Sort}
use Rattle.term_model.specs.Terms.{Var, Term}
use Rattle.rule_model.specs.Commands.{Line, lines_in, closed_scope}
use Rattle.rule_model.specs.Contexts.{AreAnchorsNested, IsClosedUnder}
use Rattle.rule_model.specs.Judged.{open_anchors, anchors_at}
use Rattle.rule_model.specs.Proofs.{ProofItems, no_items, with_assume, with_step, with_subproof}
use Rattle.rule_model.specs.Reading.{clause_of, pivots_of, clause_at, pivots_at, closes_at}
use Rattle.rule_model.specs.Scopes.{Nesting, outermost, inside, inner, commands_in}
use Rattle.rule_model.specs.Visibility.{open_bindings}
use Rattle.rule_model.proofs.LinearForms.{all_split}
use Rattle.rule_model.proofs.LineReading.{clause_is, closes_is, anchors_are}
use Rattle.rule_model.proofs.Numbers.{lines_in_count}
use Rattle.rule_model.proofs.ScopedTruth.{all_changed}
use Rattle.rule_model.proofs.Standing.{all_at}
use Rattle.problem_text.specs.Words.{is_among}
use Rattle.alethe_text.specs.Anchors.{bound_names}
use Rattle.readable_proofs.specs.Names.{Vocabulary}
use Rattle.readable_proofs.specs.ProofsOver.{IsTermIn, IsPivotIn, AreVariablesIn, AreIn, IsProofOver}
use Rattle.readable_proofs.specs.TermsOver.{IsTermOver}
use Rattle.elaborator.proofs.Sourcing.{pivots_are}
use Rattle.elaboration_laws.proofs.Anchors.{own_list}

-- what anchors bind, the outermost first
abbrev bindings_under : List (List (Var × Term)) → List (Var × Term)
bindings_under [] = []
bindings_under (bs ∷ rest) = bindings_under rest ++ bs

bindings_same : (n : Nesting Var Term) → open_bindings n ≡ bindings_under (open_anchors n)
bindings_same outermost = refl
bindings_same (inside around before anchor) = ap (λ bs. bs ++ anchor.bindings) (bindings_same around)

module _ (v : Vocabulary) where
  -- where the same anchors are open
  module _ (k m : Nesting Var Term) (same : open_anchors k ≡ open_anchors m) where
    term_moved : (t : Term) (sort : Sort) → IsTermIn v k t sort → IsTermIn v m t sort
    term_moved t sort h = record { of = h.of; sorted = h.sorted; closed = subst (λ xs. IsClosedUnder xs t) same h.closed }

    pivot_moved : (p : Term × Bool) → IsPivotIn v k p.0 → IsPivotIn v m p.0
    pivot_moved p h = record { sort = h.sort; is = term_moved p.0 h.sort h.is }

    clause_moved : (ts : List Term) → AllByRecursion (λ t. IsTermIn v k t Sort.Bool) ts → AllByRecursion (λ t. IsTermIn v m t Sort.Bool) ts
    clause_moved ts h = all_changed (λ t. IsTermIn v k t Sort.Bool) (λ t. IsTermIn v m t Sort.Bool) (λ t x. term_moved t Sort.Bool x) ts h

    pivots_moved : (ps : List (Term × Bool)) → AllByRecursion (λ p. IsPivotIn v k p.0) ps → AllByRecursion (λ p. IsPivotIn v m p.0) ps
    pivots_moved ps h = all_changed (λ p. IsPivotIn v k p.0) (λ p. IsPivotIn v m p.0) pivot_moved ps h

    names_moved : bound_names k ≡ bound_names m
    names_moved = ap (map (λ (b : Var × Term). b.0.name)) (bindings_same k ∙ (ap bindings_under same ∙ sym (bindings_same m)))

    variables_moved : (earlier : List (List ℕ)) (bs : List (Var × Term)) → AreVariablesIn v k earlier bs → AreVariablesIn v m earlier bs
    variables_moved earlier [] h = tt
    variables_moved earlier (b ∷ bs) h = (
      record {
        named = h.0.named;
        unbound = subst (λ names. (is_among earlier b.0.name || is_among names b.0.name) ≡ false) names_moved h.0.unbound;
        term = term_moved b.1 b.0.sort h.0.term;
      },
      variables_moved (b.0.name ∷ earlier) bs h.1,
    )

  -- what the innermost anchor binds, of a step that closes its scope
  abbrev pub BindsIn : Nesting Var Term → Option ℕ → List (List (Var × Term)) → Type 0
  BindsIn m None anchors = ⊤
  BindsIn m (Some k) [] = ⊤
  BindsIn m (Some k) (bs ∷ rest) = AreVariablesIn v m [] bs

  -- what anchors bind is over the vocabulary, and the anchors outside one bind what stands free in its terms
  pub record AreDeep (anchors : List (List (Var × Term))) : Type 0 where
    pub nested : AreAnchorsNested anchors
    pub terms : AllByRecursion (λ anchor. AllByRecursion (λ (b : Var × Term). IsTermOver v b.1) anchor) anchors

  bound_deep : (m : Nesting Var Term) (earlier : List (List ℕ)) (bs : List (Var × Term)) → AreVariablesIn v m earlier bs
      → AllByRecursion (λ (b : Var × Term). IsClosedUnder (open_anchors m) b.1) bs × AllByRecursion (λ (b : Var × Term). IsTermOver v b.1) bs
  bound_deep m earlier [] h = (tt, tt)
  bound_deep m earlier (b ∷ bs) h =
      let rest = bound_deep m (b.0.name ∷ earlier) bs h.1 in ((h.0.term.closed, rest.0), (h.0.term.of, rest.1))

  deeper : (m : Nesting Var Term) (bs : List (Var × Term)) → AreDeep (open_anchors m) → AreVariablesIn v m [] bs → AreDeep (bs ∷ open_anchors m)
  deeper m bs d h = let both = bound_deep m [] bs h in record { nested = (both.0, d.nested); terms = (both.1, d.terms) }

  -- a command's terms may stand where these anchors are open
  pub record IsOverBy (closes : Option ℕ) (anchors : List (List (Var × Term))) (ts : List Term) (ps : List (Term × Bool)) : Type 0 where
    pub nesting : Nesting Var Term
    pub opens : open_anchors nesting ≡ own_list closes anchors
    pub deep : AreDeep (open_anchors nesting)
    pub clause : AllByRecursion (λ t. IsTermIn v nesting t Sort.Bool) ts
    pub pivots : AllByRecursion (λ (p : Term × Bool). IsPivotIn v nesting p.0) ps
    pub binds : BindsIn nesting closes anchors

  abbrev pub IsOverAt : ProofItems Var Term → ℕ → Type 0
  IsOverAt proof i = IsOverBy (closes_at proof i) (anchors_at proof i) (clause_at proof i) (pivots_at proof i)

  abbrev IsLineOver : Line Var Term → Type 0
  IsLineOver l = IsOverBy (closed_scope l.scope.nesting l.command) (open_anchors l.scope.nesting) (clause_of l.command) (pivots_of l.command)

  pub same_over : (o q : Option ℕ) (xs ys : List (List (Var × Term))) (ts us : List Term) (ps qs : List (Term × Bool)) → o ≡ q → xs ≡ ys → ts ≡ us → ps ≡ qs
      → IsOverBy o xs ts ps → IsOverBy q ys us qs
  same_over o q xs ys ts us ps qs closes anchors clause pivots h =
      subst (λ x. IsOverBy x ys us qs) closes
      (subst (λ x. IsOverBy o x us qs) anchors (subst (λ x. IsOverBy o xs x qs) clause (subst (λ x. IsOverBy o xs ts x) pivots h)))

  lines_over : (m : Nesting Var Term) (ps : ProofItems Var Term) → AreDeep (open_anchors m) → AreIn v m ps → AllByRecursion IsLineOver (lines_in m ps)
  lines_over m no_items d h = tt
  lines_over m (with_assume items id t) d h =
      all_joined IsLineOver (lines_in m items) _ (lines_over m items d h.0)
      (record { nesting = m; opens = refl; deep = d; clause = (h.1, tt); pivots = tt; binds = tt }, tt)
  lines_over m (with_step items s) d h =
      all_joined IsLineOver (lines_in m items) _ (lines_over m items d h.0)
      (record { nesting = m; opens = refl; deep = d; clause = h.1.clause; pivots = h.1.pivots; binds = tt }, tt)
  lines_over m (with_subproof items bindings proof s) d h =
      let within = inner m items bindings s in
      all_joined IsLineOver (lines_in m items ++ lines_in within proof) _
      (all_joined IsLineOver (lines_in m items) (lines_in within proof) (lines_over m items d h.0)
      (lines_over within proof (deeper m bindings d h.1) h.2))
      (record { nesting = m; opens = refl; deep = d; clause = h.3.clause; pivots = h.3.pivots; binds = h.1 }, tt)

  items_over : (m : Nesting Var Term) (ps : ProofItems Var Term) → AllByRecursion IsLineOver (lines_in m ps) → AreIn v m ps
  items_over m no_items h = tt
  items_over m (with_assume items id t) h =
      let both = all_split IsLineOver (lines_in m items) _ h in
      let own = both.1.0 in
      (items_over m items both.0, term_moved own.nesting m own.opens t Sort.Bool own.clause.0)
  items_over m (with_step items s) h =
      let both = all_split IsLineOver (lines_in m items) _ h in
      let own = both.1.0 in (
        items_over m items both.0,
        record {
          clause = clause_moved own.nesting m own.opens s.clause own.clause;
          pivots = pivots_moved own.nesting m own.opens s.pivots own.pivots;
        },
      )
  items_over m (with_subproof items bindings proof s) h =
      let deep = inner m items bindings s in
      let last = all_split IsLineOver (lines_in m items ++ lines_in deep proof) _ h in
      let both = all_split IsLineOver (lines_in m items) (lines_in deep proof) last.0 in
      let own = last.1.0 in (
        items_over m items both.0,
        variables_moved own.nesting m own.opens [] bindings own.binds,
        items_over deep proof both.1,
        record {
          clause = clause_moved own.nesting m own.opens s.clause own.clause;
          pivots = pivots_moved own.nesting m own.opens s.pivots own.pivots;
        },
      )

  pub over_at : (proof : ProofItems Var Term) (i : ℕ) → i < commands_in proof → IsProofOver v proof → IsOverAt proof i
  over_at proof i less h =
      let count = lines_in_count outermost proof in
      let l = nth_there (lines_in outermost proof) i (omega arith) in
      same_over _ _ _ _ _ _ _ _ (sym (closes_is proof i l.0 l.1)) (sym (anchors_are proof i l.0 l.1)) (sym (clause_is proof i l.0 l.1))
      (sym (pivots_are proof i l.0 l.1)) (all_at IsLineOver (lines_in outermost proof) i l.0 (lines_over outermost proof (record { nested = tt; terms = tt }) h) l.1)

  pub proof_over : (proof : ProofItems Var Term) → ((i : ℕ) → i < commands_in proof → IsOverAt proof i) → IsProofOver v proof
  proof_over proof each =
      items_over outermost proof
      (recursion_from_All IsLineOver (lines_in outermost proof)
      (λ k d below. line k (get_or (lines_in outermost proof) k d) (slice_get-get_or (lines_in outermost proof) k d below)))
    where
      line : (i : ℕ) (l : Line Var Term) → slice_get (lines_in outermost proof) i ≡ Some l → IsLineOver l
      line i l there =
          let less = slice_get_within (lines_in outermost proof) i l there in
          let count = lines_in_count outermost proof in
          same_over _ _ _ _ _ _ _ _ (closes_is proof i l there) (anchors_are proof i l there) (clause_is proof i l there) (pivots_are proof i l there)
          (each i (omega arith))
