-- What the open anchors bind is found in a scope of a proof, where no two of them bind one name.
use Rattle.std.proofs.Common.{◌≡◌, ◌⊎◌, inl, inr, ℕ, Bool, true, false, ◌||◌, Some, None, List, [], ◌∷◌, ◌++◌, map, reverse, bytes_eq, refl, sym, ap, ◌∙◌}
use Rattle.std.proofs.Common.{subst}
use Rattle.std.specs.Prelude.{Contains}
use Rattle.std.specs.List.{AllByRecursion}
use Rattle.std.specs.Option.{option_or}
use Rattle.std.proofs.Math.Bool.{or-true}
use Rattle.std.proofs.lemmas.List.{map-append, reverse-append}
use Rattle.std.proofs.lemmas.List.Folds.{find-append, list_any-append}
use Rattle.term_model.specs.Terms.{Var, Term}
use Rattle.term_model.proofs.Lists.{all_joined}
use Rattle.rule_model.specs.Contexts.{IsBoundBy}
use Rattle.rule_model.specs.Judged.{open_anchors}
use Rattle.rule_model.specs.Proofs.{ProofItems}
use Rattle.rule_model.specs.Scopes.{Nesting, outermost, inside, Anchor}
use Rattle.rule_model.specs.Substitution.{Replaces}
use Rattle.rule_model.specs.Visibility.{open_bindings}
use Rattle.problem_text.specs.Names.{Bound, itself, innermost}
use Rattle.problem_text.specs.Words.{is_among}
use Rattle.alethe_text.specs.Anchors.{bound_names}
use Rattle.alethe_text.specs.ProofTerms.{variables_in}
use Rattle.readable_proofs.specs.Names.{Vocabulary}
use Rattle.readable_proofs.specs.ProofsOver.{AreVariablesIn}
use Rattle.readable_proofs.proofs.Names.{name_same, other_name}

abbrev Bindings : Type 0
Bindings = List (Var × Term)

-- the variables of one anchor, the last one first
abbrev own_scope : Bindings → List Bound
own_scope bs = map (λ b. itself b.0) (reverse bs)

own_more : (b : Var × Term) (bs : Bindings) → own_scope (b ∷ bs) ≡ own_scope bs ++ itself b.0 ∷ []
own_more b bs = ap (map (λ (c : Var × Term). itself c.0)) (reverse-append (b ∷ []) bs) ∙ map-append (λ (c : Var × Term). itself c.0) (reverse bs) (b ∷ [])

find_joined : (xs ys : List Bound) (name : List ℕ) → innermost (xs ++ ys) name ≡ option_or (innermost xs name) (innermost ys name)
find_joined xs ys name = find-append (λ b. bytes_eq b.variable.name name) xs ys

scope_inside : (around : Nesting Var Term) (before : ProofItems Var Term) (top : Anchor Var Term)
    → variables_in (inside around before top) ≡ own_scope top.bindings ++ variables_in around
scope_inside around before top =
    ap (map (λ (c : Var × Term). itself c.0)) (reverse-append (open_bindings around) top.bindings)
    ∙ map-append (λ (c : Var × Term). itself c.0) (reverse top.bindings) (reverse (open_bindings around))

-- what all variables of a list have, all that stand in the reverse have
pub all_reversed : (P : Var → Type 0) (bs : Bindings) → AllByRecursion (λ b. P b.0) bs → AllByRecursion (λ b. P b.variable) (own_scope bs)
all_reversed P [] h = tt
all_reversed P (b ∷ bs) h =
    subst (AllByRecursion (λ b. P b.variable)) (sym (own_more b bs))
    (all_joined (λ b. P b.variable) (own_scope bs) (itself b.0 ∷ []) (all_reversed P bs h.1) (h.0, tt))

taken_more : (a b c : Bool) → (b || c) ≡ true → ((a || b) || c) ≡ true
taken_more true b c e = refl
taken_more false b c e = e

taken_first : (a b c : Bool) → a ≡ true → ((a || b) || c) ≡ true
taken_first a b c e = rw e refl

module _ (v : Vocabulary) (nesting : Nesting Var Term) where
  abbrev is_taken : List (List ℕ) → List ℕ → Bool
  is_taken earlier name = is_among earlier name || is_among (bound_names nesting) name

  -- a name that is taken is that of none of the variables
  own_none : (bs : Bindings) (earlier : List (List ℕ)) (name : List ℕ) → AreVariablesIn v nesting earlier bs → is_taken earlier name ≡ true
      → innermost (own_scope bs) name ≡ None
  own_none [] earlier name h taken = refl
  own_none (b ∷ bs) earlier name h taken =
      let rest = own_none bs (b.0.name ∷ earlier) name h.1
      (taken_more (bytes_eq name b.0.name) (is_among earlier name) (is_among (bound_names nesting) name) taken) in
      let other = other_name b.0.name name (λ same. let f = h.0.unbound in let g = ap (is_taken earlier) same in absurd (cc)) in
      ap (λ scope. innermost scope name) (own_more b bs) ∙ (find_joined (own_scope bs) (itself b.0 ∷ []) name ∙ rw (rest, other) refl)

  own_found : (bs : Bindings) (earlier : List (List ℕ)) (x : Var) → AreVariablesIn v nesting earlier bs → Replaces bs x
      → innermost (own_scope bs) x.name ≡ Some (itself x)
  own_found [] earlier x h bound = absurd bound
  own_found (b ∷ bs) earlier x h bound =
      ap (λ scope. innermost scope x.name) (own_more b bs)
      ∙ (find_joined (own_scope bs) (itself b.0 ∷ []) x.name ∙ go bound (own_found bs (b.0.name ∷ earlier) x h.1))
    where
      go : (b.0 ≡ x) ⊎ Replaces bs x → (Replaces bs x → innermost (own_scope bs) x.name ≡ Some (itself x))
          → option_or (innermost (own_scope bs) x.name) (innermost (itself b.0 ∷ []) x.name) ≡ Some (itself x)
      go (inl same) rest =
          let e : bytes_eq b.0.name x.name ≡ true = ap (λ (z : Var). bytes_eq b.0.name z.name) (sym same) ∙ name_same b.0.name in
          let back : bytes_eq x.name b.0.name ≡ true = ap (λ (z : Var). bytes_eq x.name z.name) same ∙ name_same x.name in
          let none = own_none bs (b.0.name ∷ earlier) x.name h.1
          (taken_first (bytes_eq x.name b.0.name) (is_among earlier x.name) (is_among (bound_names nesting) x.name) back) in
          rw (none, e) (ap (λ z. Some (itself z)) same)
      go (inr later) rest = let found = rest later in rw found refl

  own_named : (bs : Bindings) (earlier : List (List ℕ)) → AreVariablesIn v nesting earlier bs → AllByRecursion (λ b. Contains v.variables b.0.name) bs
  own_named [] earlier h = tt
  own_named (b ∷ bs) earlier h = (h.0.named, own_named bs (b.0.name ∷ earlier) h.1)

own_among : (bs : Bindings) (x : Var) → Replaces bs x → is_among (map (λ b. b.0.name) bs) x.name ≡ true
own_among [] x bound = absurd bound
own_among (b ∷ bs) x (inl same) =
    let e : bytes_eq x.name b.0.name ≡ true = ap (λ (z : Var). bytes_eq x.name z.name) same ∙ name_same x.name in
    rw e refl
own_among (b ∷ bs) x (inr later) = let e = own_among bs x later in rw e (or-true (bytes_eq x.name b.0.name))

-- A scope whose open anchors bind names of the vocabulary, none twice: what they bind is found by its name.
pub record IsScopeIn (v : Vocabulary) (nesting : Nesting Var Term) : Type 0 where
  pub named : AllByRecursion (λ b. Contains v.variables b.0.name) (open_bindings nesting)
  pub bound : (x : Var) → IsBoundBy (open_anchors nesting) x → is_among (bound_names nesting) x.name ≡ true
  pub found : (x : Var) → IsBoundBy (open_anchors nesting) x → innermost (variables_in nesting) x.name ≡ Some (itself x)

pub outermost_in : (v : Vocabulary) → IsScopeIn v outermost
outermost_in v = record { named = tt; bound = λ x h. absurd h; found = λ x h. absurd h }

pub inside_scope : (v : Vocabulary) (around : Nesting Var Term) (before : ProofItems Var Term) (top : Anchor Var Term)
    → IsScopeIn v around → AreVariablesIn v around [] top.bindings → IsScopeIn v (inside around before top)
inside_scope v around before top here own = record {
  named = all_joined (λ b. Contains v.variables b.0.name) (open_bindings around) top.bindings here.named (own_named v around top.bindings [] own);
  bound = λ x h. names_joined x ∙ bound_in x h;
  found = λ x h. ap (λ scope. innermost scope x.name) (scope_inside around before top)
      ∙ (find_joined (own_scope top.bindings) (variables_in around) x.name ∙ found_in x h);
}
  where
    names_joined : (x : Var) → is_among (bound_names (inside around before top)) x.name
        ≡ (is_among (bound_names around) x.name || is_among (map (λ (b : Var × Term). b.0.name) top.bindings) x.name)
    names_joined x =
        ap (λ names. is_among names x.name) (map-append (λ (b : Var × Term). b.0.name) (open_bindings around) top.bindings)
        ∙ list_any-append (bytes_eq x.name) (bound_names around) (map (λ (b : Var × Term). b.0.name) top.bindings)

    bound_in : (x : Var) → Replaces top.bindings x ⊎ IsBoundBy (open_anchors around) x
        → (is_among (bound_names around) x.name || is_among (map (λ (b : Var × Term). b.0.name) top.bindings) x.name) ≡ true
    bound_in x (inl mine) = let e = own_among top.bindings x mine in rw e (or-true (is_among (bound_names around) x.name))
    bound_in x (inr outer) = let e = here.bound x outer in rw e refl

    found_in : (x : Var) → Replaces top.bindings x ⊎ IsBoundBy (open_anchors around) x
        → option_or (innermost (own_scope top.bindings) x.name) (innermost (variables_in around) x.name) ≡ Some (itself x)
    found_in x (inl mine) = let found = own_found v around top.bindings [] x own mine in rw found refl
    found_in x (inr outer) =
        let none = own_none v around top.bindings [] x.name own (here.bound x outer) in
        let found = here.found x outer in
        rw (none, found) refl
