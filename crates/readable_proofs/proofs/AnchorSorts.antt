-- The sorts of variables that anchors bind are readable behind a well-named script, in a proof over its functions.
use Rattle.std.proofs.Common.{ℕ, zero, suc, List, [], ◌∷◌, slice_get, inl, inr, subst}
use Rattle.std.specs.List.{AllByRecursion}
use Rattle.std.specs.Option.{option_map_or}
use Rattle.term_model.specs.Terms.{Var, Term}
use Rattle.term_model.proofs.Lists.{all_joined}
use Rattle.rule_model.specs.Commands.{ScopeEntry, scopes_in, scopes}
use Rattle.rule_model.specs.Contexts.{IsBoundBy}
use Rattle.rule_model.specs.Judged.{open_anchors}
use Rattle.rule_model.specs.Proofs.{ProofItems, no_items, with_assume, with_step, with_subproof}
use Rattle.rule_model.specs.Reading.{bindings_at}
use Rattle.rule_model.specs.Scopes.{Nesting, outermost, inner}
use Rattle.rule_model.specs.Substitution.{Replaces}
use Rattle.problem_text.specs.Scripts.{Script}
use Rattle.printed_proofs.specs.Readable.{IsSortReadable}
use Rattle.readable_proofs.specs.Names.{IsWellNamed, Vocabulary, vocabulary_of}
use Rattle.readable_proofs.specs.ProofsOver.{AreVariablesIn, AreIn, IsProofOver}
use Rattle.readable_proofs.proofs.SortsOfTerms.{sort_known}

module _ (s : Script) where
  -- what an anchor binds has sorts that are readable
  abbrev AreRead : List (Var × Term) → Type 0
  AreRead bs = AllByRecursion (λ b. IsSortReadable s b.0.sort) bs

  abbrev IsReadScope : ScopeEntry Var Term → Type 0
  IsReadScope e = AreRead e.bindings

  own_read : (bs : List (Var × Term)) (x : Var) → AreRead bs → Replaces bs x → IsSortReadable s x.sort
  own_read [] x h bound = absurd bound
  own_read (b ∷ bs) x h (inl same) = subst (λ (y : Var). IsSortReadable s y.sort) same h.0
  own_read (b ∷ bs) x h (inr later) = own_read bs x h.1 later

  bound_read : (anchors : List (List (Var × Term))) (x : Var) → AllByRecursion AreRead anchors → IsBoundBy anchors x → IsSortReadable s x.sort
  bound_read [] x h bound = absurd bound
  bound_read (anchor ∷ outer) x h (inl own) = own_read anchor x h.0 own
  bound_read (anchor ∷ outer) x h (inr later) = bound_read outer x h.1 later

  at_scope : (entries : List (ScopeEntry Var Term)) (k : ℕ) → AllByRecursion IsReadScope entries
      → AreRead (option_map_or (λ (e : ScopeEntry Var Term). e.bindings) (slice_get entries k) [])
  at_scope [] k h = tt
  at_scope (e ∷ entries) zero h = h.0
  at_scope (e ∷ entries) (suc k) h = at_scope entries k h.1

  module _ (names : List (List ℕ)) (well : IsWellNamed s) where
    abbrev v : Vocabulary
    v = vocabulary_of s names

    bindings_read : (nesting : Nesting Var Term) (earlier : List (List ℕ)) (bs : List (Var × Term)) → AllByRecursion AreRead (open_anchors nesting)
        → AreVariablesIn v nesting earlier bs → AreRead bs
    bindings_read nesting earlier [] around h = tt
    bindings_read nesting earlier (b ∷ bs) around h = (
      sort_known s names well b.1 b.0.sort (λ x free. bound_read (open_anchors nesting) x around (h.0.term.closed x free)) h.0.term.of h.0.term.sorted,
      bindings_read nesting (b.0.name ∷ earlier) bs around h.1,
    )

    scopes_read : (nesting : Nesting Var Term) (items : ProofItems Var Term) → AllByRecursion AreRead (open_anchors nesting) → AreIn v nesting items
        → AllByRecursion IsReadScope (scopes_in nesting items)
    scopes_read nesting no_items around h = tt
    scopes_read nesting (with_assume items id t) around h = scopes_read nesting items around h.0
    scopes_read nesting (with_step items step) around h = scopes_read nesting items around h.0
    scopes_read nesting (with_subproof items bindings proof step) around h =
        let own = bindings_read nesting [] bindings around h.1 in
        all_joined IsReadScope (scopes_in nesting items) _ (scopes_read nesting items around h.0)
        (own, scopes_read (inner nesting items bindings step) proof (own, around) h.2)

    pub sorts_read : (proof : ProofItems Var Term) (k : ℕ) → IsProofOver v proof → AreRead (bindings_at proof k)
    sorts_read proof k h = at_scope (scopes proof) k (tt, scopes_read outermost proof tt h)
