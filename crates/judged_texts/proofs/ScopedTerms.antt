-- The terms that are read of a proof are well sorted, and the open anchors bind their free variables.
use Rattle.std.proofs.Common.{◌≡◌, ◌⊎◌, inl, inr, zero, suc, arith, List, [], ◌∷◌, ◌++◌, map, reverse, Result, Ok, Err, IfOk, refl, subst}
use Rattle.std.specs.Prelude.{⊤, Contains}
use Rattle.std.specs.List.{AllByRecursion}
use Rattle.std.proofs.lemmas.List.{reverse-append}
use Rattle.sexpr.specs.declared.causes.Refusal.{Refusal}
use Rattle.sexpr.specs.Items.{Item}
use Rattle.term_model.specs.Sorts.{IsOf}
use Rattle.term_model.specs.FreeVariables.{IsFree}
use Rattle.term_model.specs.Terms.{Var, Term, variable}
use Rattle.rule_model.specs.Contexts.{IsBoundBy, IsClosedUnder}
use Rattle.rule_model.specs.Judged.{open_anchors}
use Rattle.rule_model.specs.Scopes.{Nesting, outermost, inside, Scope}
use Rattle.rule_model.specs.Substitution.{Replaces}
use Rattle.rule_model.specs.Truth.{IsLiteralIn}
use Rattle.rule_model.specs.Visibility.{open_bindings}
use Rattle.problem_text.specs.Forms.{form_of}
use Rattle.problem_text.specs.Names.{Bound, Place, itself}
use Rattle.problem_text.specs.Scripts.{Script}
use Rattle.problem_text.specs.Soundness.{IsReadWithin, IsSound, HasScopedTerms, IsScoped, AreThemselves}
use Rattle.problem_text.specs.Terms.{read_term}
use Rattle.problem_text.specs.TypedTerms.{Typed}
use Rattle.problem_text.proofs.Readings.{term-sound}
use Rattle.problem_text.proofs.ScopedScripts.{term-scoped, script-scoped}
use Rattle.alethe_text.specs.ProofTerms.{variables_in, place_in, term_in}
use Rattle.alethe_text.specs.States.{ProofSettings, ProofState}
use Rattle.alethe_text.proofs.Endings.{After, Ends}
use Rattle.alethe_text.proofs.KeptReadings.{Keeps, TermsAre}
use Rattle.alethe_text.proofs.SortedProofs.{themselves_sorted}

-- What the open anchors bind.
replaced_by_bound : (bs : List (Var × Term)) (x : Var) (b : Bound) → Contains (map (λ b. itself b.0) bs) b → IsFree x b.stands_for → Replaces bs x
replaced_by_bound [] x b (k, h, e) free = absurd (omega (arith, h))
replaced_by_bound (c ∷ bs) x b (zero, h, e) free = let f : IsFree x (itself c.0).stands_for = rw (← e) at free in inl f
replaced_by_bound (c ∷ bs) x b (suc k, h, e) free = inr (replaced_by_bound bs x b (k, omega (arith, h), e) free)

replaced_in_parts : (xs ys : List (Var × Term)) (x : Var) → Replaces (xs ++ ys) x → Replaces xs x ⊎ Replaces ys x
replaced_in_parts [] ys x h = inr h
replaced_in_parts (b ∷ xs) ys x (inl h) = inl (inl h)
replaced_in_parts (b ∷ xs) ys x (inr h) = elim (replaced_in_parts xs ys x h) [ inl l ↦ inl (inr l) | inr r ↦ inr r ]

first_or_later : (b : Var × Term) (bs : List (Var × Term)) (x : Var) → Replaces (b ∷ []) x ⊎ Replaces bs x → Replaces (b ∷ bs) x
first_or_later b bs x (inl (inl e)) = inl e
first_or_later b bs x (inl (inr none)) = absurd none
first_or_later b bs x (inr h) = inr h

swapped : (b : Var × Term) (xs bs : List (Var × Term)) (x : Var) → (Replaces xs x → Replaces bs x) → Replaces xs x ⊎ Replaces (b ∷ []) x → Replaces (b ∷ []) x ⊎ Replaces bs x
swapped b xs bs x k (inl h) = inr (k h)
swapped b xs bs x k (inr h) = inl h

replaced_in_reverse : (bs : List (Var × Term)) (x : Var) → Replaces (reverse bs) x → Replaces bs x
replaced_in_reverse [] x h = h
replaced_in_reverse (b ∷ bs) x h =
    let apart : Replaces (reverse bs ++ b ∷ []) x = rw (reverse-append (b ∷ []) bs) at h in
    first_or_later b bs x (swapped b (reverse bs) bs x (replaced_in_reverse bs x) (replaced_in_parts (reverse bs) (b ∷ []) x apart))

bound_by_anchors : (nesting : Nesting Var Term) (x : Var) → Replaces (open_bindings nesting) x → IsBoundBy (open_anchors nesting) x
bound_by_anchors outermost x h = h
bound_by_anchors (inside around before anchor) x h = elim (replaced_in_parts (open_bindings around) anchor.bindings x h) [
  | inl outer ↦ inr (bound_by_anchors around x outer)
  | inr own ↦ inl own
]

closed_where_scoped : (nesting : Nesting Var Term) (t : Term) → IsScoped (variables_in nesting) t → IsClosedUnder (open_anchors nesting) t
closed_where_scoped nesting t h x free =
    let (b, there, f) = h x free in
    bound_by_anchors nesting x (replaced_in_reverse (open_bindings nesting) x (replaced_by_bound (reverse (open_bindings nesting)) x b there f))

-- Named terms, macros and assertions are well sorted, and their variables are bound.
pub record IsGood (s : Script) : Type 0 where
  pub sound : IsSound s
  pub scoped : HasScopedTerms s

-- the term is well sorted, and the anchors bind its free variables
pub record IsTermIn (nesting : Nesting Var Term) (t : Typed) : Type 0 where
  pub sort : IsOf t.tree t.sort
  pub closed : IsClosedUnder (open_anchors nesting) t.tree

themselves : (bs : List (Var × Term)) → AllByRecursion (λ b. b.stands_for ≡ variable b.variable) (map (λ b. itself b.0) bs)
themselves [] = tt
themselves (b ∷ bs) = (refl, themselves bs)

-- behind a good script each term that is read is so
module _ (settings : ProofSettings) where
  term_reads : (P : Scope Var Term → Type 0) (nesting : Nesting Var Term) (i : Item) (s : ProofState) → Keeps IsGood P s
      → Ends (λ t u. IsTermIn nesting t × Keeps IsGood P u) (term_in settings nesting i s)
  unfolding term_in
  term_reads P nesting i s h = go (read_term i place s.script).result sound.1 scoped
    where
      place : Place
      place = place_in settings nesting

      sound : IsSound (read_term i place s.script).state × IfOk (read_term i place s.script).result (IsReadWithin settings.limit)
      sound = term-sound (form_of i) place s.script (themselves_sorted (reverse (open_bindings nesting))) h.script.sound

      alone : AreThemselves place
      alone _ = themselves (reverse (open_bindings nesting))

      scoped : IfOk (read_term i place s.script).result (λ t. IsScoped (variables_in nesting) t.tree)
      scoped = term-scoped i place s.script alone h.script.scoped

      script : IsGood (read_term i place s.script).state
      script = record { sound = sound.0; scoped = script-scoped i place s.script alone h.script.scoped }

      go : (r : Result Typed Refusal) → IfOk r (IsReadWithin settings.limit) → IfOk r (λ t. IsScoped (variables_in nesting) t.tree)
          → After (λ t u. IsTermIn nesting t × Keeps IsGood P u) r (record s { script = (read_term i place s.script).state })
      go (Ok t) k l = (record { sort = k.sorted; closed = closed_where_scoped nesting t.tree l }, record { script = script; scope = h.scope })
      go (Err refusal) k l = tt

  pub scoped_terms : TermsAre settings IsGood IsTermIn IsLiteralIn (λ _ _. ⊤)
  scoped_terms = record {
    reads = term_reads;
    formula = λ nesting t bool h. record { sort = subst (IsOf t.tree) bool h.sort; closed = h.closed };
    pivot = λ nesting t h. tt;
  }
