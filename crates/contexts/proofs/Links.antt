-- Cited by crates above. The trees of terms: their shape, and that a variable stands free in the term exactly where its leaf does in the tree.
use Rattle.std.proofs.Common.{◌≡◌, ℕ, ◌==◌, ◌⊎◌, ◌↔◌, inl, inr, Bool, true, false, pos, refl, sym, ◌∙◌, ap, subst}
use Rattle.std.specs.Bool.{⊤}
use Rattle.std.proofs.lemmas.Bool.{eqb-true}
use Rattle.pair_pool.specs.Trees.{Tree, leaf, cell}
use Rattle.sym_table.specs.Leaf.{Leaf, operator, let_head, nil}
use Rattle.sym_table.specs.Table.{Table, IsLeaf, IsTable}
use Rattle.sym_table.proofs.Tables.{one_symbol}
use Rattle.term_model.specs.FreeVariables.{IsFree, IsFreeAmong, IsFreeBound, Binds}
use Rattle.term_model.specs.Terms.{Var, Term, numeral, variable, operation, call, let_in, Terms, no_terms, term, Bindings, no_bindings, binding}
use Rattle.term_pool.specs.Heights.{is_let_head}
use Rattle.term_pool.specs.StandsFor.{variable_leaf, function_leaf, StandsFor, StandsForApplication, StandsForList, StandsForBindings}
use Rattle.term_pool.proofs.Leaves.{one_variable, one_leaf}
use Rattle.contexts.specs.Shapes.{HasShape, HasLetShape, HasListShape}
use Rattle.contexts.specs.FreeLeaves.{IsFreeLeaf, IsFreeInLet, IsFreeInValues, BindsLeaf}
use Rattle.contexts.proofs.References.{either_true, either_false, from_true, from_false}

module _ (s : Table) (table : IsTable s) where
  pub not_let : (k : ℕ) (l : Leaf) → IsLeaf s k l → ¬ (l ≡ let_head) → (k == 1) ≡ false
  not_let k l here other = go (k == 1) refl
    where
      go : (b : Bool) → (k == 1) ≡ b → (k == 1) ≡ false
      go false e = e
      go true e = absurd (other (one_symbol s 1 l let_head (subst (λ j. IsLeaf s j l) (eqb-true k 1 e) here) (table.begins 1 let_head refl)))

  pub term_no_head : (t : Term) (tree : Tree) → StandsFor s tree t → is_let_head tree ≡ false
  term_no_head t (cell a b) h = refl
  term_no_head (numeral n) (leaf k) h = not_let k (Leaf.numeral (pos n)) h (λ e. cc)
  term_no_head (variable x) (leaf k) h = not_let k (variable_leaf x) h (λ e. cc)
  term_no_head (operation op no_terms) (leaf k) h = not_let k (operator op) h (λ e. cc)
  term_no_head (operation op (term t ts)) (leaf k) h = absurd h
  term_no_head (call f no_terms) (leaf k) h = not_let k (function_leaf f) h (λ e. cc)
  term_no_head (call f (term t ts)) (leaf k) h = absurd h
  term_no_head (let_in bs u) (leaf k) h = absurd h

  -- shapes
  both_shaped : (a b : Tree) → is_let_head a ≡ false → HasShape a → HasShape b → HasShape (cell a b)
  both_shaped a b e g h = either_false (is_let_head a) (HasLetShape b) (HasShape a × HasShape b) e (g, h)

  mutual
    pub term_shape : (t : Term) (tree : Tree) → StandsFor s tree t → HasShape tree
    term_shape (numeral n) (leaf k) h = tt
    term_shape (numeral n) (cell a b) h = absurd h
    term_shape (variable x) (leaf k) h = tt
    term_shape (variable x) (cell a b) h = absurd h
    term_shape (operation op ts) tree h = application_shape (operator op) (λ e. cc) ts tree h
    term_shape (call f ts) tree h = application_shape (function_leaf f) (λ e. cc) ts tree h
    term_shape (let_in bs u) (leaf k) h = absurd h
    term_shape (let_in bs u) (cell a (leaf k)) h = absurd h.1
    term_shape (let_in bs u) (cell a (cell b c)) h =
        either_true (is_let_head a) (HasLetShape (cell b c)) (HasShape a × HasShape (cell b c)) (ap is_let_head h.0)
        (bindings_shape bs b h.1.0, term_shape u c h.1.1)

    application_shape : (l : Leaf) → ¬ (l ≡ let_head) → (ts : Terms) (tree : Tree) → StandsForApplication s tree l ts → HasShape tree
    application_shape l other no_terms (leaf k) h = tt
    application_shape l other no_terms (cell a b) h = absurd h
    application_shape l other (term t ts) (leaf k) h = absurd h
    application_shape l other (term t ts) (cell a (leaf k)) h = absurd h.1
    application_shape l other (term t ts) (cell (cell c d) (cell a b)) h = absurd h.0
    application_shape l other (term t ts) (cell (leaf k) (cell a b)) h =
        either_false (k == 1) (HasLetShape (cell a b)) (⊤ × HasShape (cell a b)) (not_let k l h.0 other)
        (tt, both_shaped a b (term_no_head t a h.1.0) (term_shape t a h.1.0) (list_shape ts b h.1.1))

    list_shape : (ts : Terms) (tree : Tree) → StandsForList s tree ts → HasShape tree
    list_shape no_terms (leaf k) h = tt
    list_shape no_terms (cell a b) h = absurd (impossible h)
      where
        impossible : cell a b ≡ leaf 0 → ⊥
        impossible e = cc
    list_shape (term t ts) (leaf k) h = absurd h
    list_shape (term t ts) (cell a b) h =
        both_shaped a b (term_no_head t a h.0) (term_shape t a h.0) (list_shape ts b h.1)

    pub bindings_shape : (bs : Bindings) (tree : Tree) → StandsForBindings s tree bs → HasListShape tree
    bindings_shape no_bindings (leaf k) h = tt
    bindings_shape no_bindings (cell a b) h = absurd (impossible h)
      where
        impossible : cell a b ≡ leaf 0 → ⊥
        impossible e = cc
    bindings_shape (binding x t bs) (leaf k) h = absurd h
    bindings_shape (binding x t bs) (cell (leaf k) b) h = absurd h.0
    bindings_shape (binding x t bs) (cell (cell (cell c d) a) b) h = absurd h.0.0
    bindings_shape (binding x t bs) (cell (cell (leaf k) a) b) h = (term_shape t a h.0.1, bindings_shape bs b h.1)

  module _ (k : ℕ) (x : Var) (here : IsLeaf s k (variable_leaf x)) where
    -- a leaf that is no variable's
    no_variable : (j : ℕ) (l : Leaf) → IsLeaf s j l → ((y : Var) → ¬ (l ≡ variable_leaf y)) → ¬ (j ≡ k)
    no_variable j l is other e = other x (one_symbol s k l (variable_leaf x) (subst (λ i. IsLeaf s i l) e is) here)

    binder_there : (y : Var) (j : ℕ) → IsLeaf s j (variable_leaf y) → j ≡ k → y ≡ x
    binder_there y j is e = one_variable s k y x (subst (λ i. IsLeaf s i (variable_leaf y)) e is) here

    binder_back : (y : Var) (j : ℕ) → IsLeaf s j (variable_leaf y) → y ≡ x → j ≡ k
    binder_back y j is e = one_leaf s table j k y x is here e

    one_number : (i j : ℕ) → leaf i ≡ leaf j → i ≡ j
    one_number i j e = cc

    pub binds_there : (bs : Bindings) (tree : Tree) → StandsForBindings s tree bs → BindsLeaf k tree → Binds bs x
    binds_there no_bindings (leaf j) h b = absurd b
    binds_there no_bindings (cell a b) h g = absurd (impossible h)
      where
        impossible : cell a b ≡ leaf 0 → ⊥
        impossible e = cc
    binds_there (binding y t bs) (leaf j) h b = absurd h
    binds_there (binding y t bs) (cell (leaf j) b) h g = absurd h.0
    binds_there (binding y t bs) (cell (cell (cell c d) a) b) h g = absurd h.0.0
    binds_there (binding y t bs) (cell (cell (leaf j) a) b) h (inl e) = inl (binder_there y j h.0.0 (one_number j k e))
    binds_there (binding y t bs) (cell (cell (leaf j) a) b) h (inr g) = inr (binds_there bs b h.1 g)

    pub binds_back : (bs : Bindings) (tree : Tree) → StandsForBindings s tree bs → Binds bs x → BindsLeaf k tree
    binds_back no_bindings tree h b = absurd b
    binds_back (binding y t bs) (leaf j) h b = absurd h
    binds_back (binding y t bs) (cell (leaf j) b) h g = absurd h.0
    binds_back (binding y t bs) (cell (cell (cell c d) a) b) h g = absurd h.0.0
    binds_back (binding y t bs) (cell (cell (leaf j) a) b) h (inl e) = inl (ap leaf (binder_back y j h.0.0 e))
    binds_back (binding y t bs) (cell (cell (leaf j) a) b) h (inr g) = inr (binds_back bs b h.1 g)

    free_in_either : (a b : Tree) → is_let_head a ≡ false → IsFreeLeaf k (cell a b) → IsFreeLeaf k a ⊎ IsFreeLeaf k b
    free_in_either a b e h = from_false (is_let_head a) (IsFreeInLet k b) (IsFreeLeaf k a ⊎ IsFreeLeaf k b) e h

    free_in_cell : (a b : Tree) → is_let_head a ≡ false → IsFreeLeaf k a ⊎ IsFreeLeaf k b → IsFreeLeaf k (cell a b)
    free_in_cell a b e h = either_false (is_let_head a) (IsFreeInLet k b) (IsFreeLeaf k a ⊎ IsFreeLeaf k b) e h

    mutual
      pub free_there : (t : Term) (tree : Tree) → StandsFor s tree t → IsFreeLeaf k tree → IsFree x t
      free_there (numeral n) (leaf j) h e = absurd (no_variable j (Leaf.numeral (pos n)) h (λ y f. cc) e)
      free_there (numeral n) (cell a b) h e = absurd h
      free_there (variable y) (leaf j) h e = binder_there y j h e
      free_there (variable y) (cell a b) h e = absurd h
      free_there (operation op ts) tree h e = application_there (operator op) (λ e. cc) (λ y f. cc) ts tree h e
      free_there (call f ts) tree h e = application_there (function_leaf f) (λ e. cc) (λ y g. cc) ts tree h e
      free_there (let_in bs u) (leaf j) h e = absurd h
      free_there (let_in bs u) (cell a (leaf j)) h e = absurd h.1
      free_there (let_in bs u) (cell a (cell b c)) h e =
          elim (from_true (is_let_head a) (IsFreeInLet k (cell b c)) (IsFreeLeaf k a ⊎ IsFreeLeaf k (cell b c)) (ap is_let_head h.0) e)
          [ inl v ↦ inl (values_there bs b h.1.0 v) | inr g ↦ inr (λ n. g.0 (binds_back bs b h.1.0 n), free_there u c h.1.1 g.1) ]

      application_there : (l : Leaf) → ¬ (l ≡ let_head) → ((y : Var) → ¬ (l ≡ variable_leaf y)) → (ts : Terms) (tree : Tree) → StandsForApplication s tree l ts → IsFreeLeaf k tree → IsFreeAmong x ts
      application_there l other never no_terms (leaf j) h e = absurd (no_variable j l h never e)
      application_there l other never no_terms (cell a b) h e = absurd h
      application_there l other never (term t ts) (leaf j) h e = absurd h
      application_there l other never (term t ts) (cell a (leaf j)) h e = absurd h.1
      application_there l other never (term t ts) (cell (cell c d) (cell a b)) h e = absurd h.0
      application_there l other never (term t ts) (cell (leaf j) (cell a b)) h e =
          elim (from_false (j == 1) (IsFreeInLet k (cell a b)) ((j ≡ k) ⊎ IsFreeLeaf k (cell a b)) (not_let j l h.0 other) e)
          [ inl f ↦ absurd (no_variable j l h.0 never f) | inr g ↦ elim (free_in_either a b (term_no_head t a h.1.0) g) [ inl f ↦ inl (free_there t a h.1.0 f) | inr e ↦ inr (list_there ts b h.1.1 e) ] ]

      list_there : (ts : Terms) (tree : Tree) → StandsForList s tree ts → IsFreeLeaf k tree → IsFreeAmong x ts
      list_there no_terms (leaf j) h e = absurd (no_variable 0 nil (table.begins 0 nil refl) (λ y f. cc) (sym (one_number j 0 h) ∙ e))
      list_there no_terms (cell a b) h e = absurd (impossible h)
        where
          impossible : cell a b ≡ leaf 0 → ⊥
          impossible e = cc
      list_there (term t ts) (leaf j) h e = absurd h
      list_there (term t ts) (cell a b) h e =
          elim (free_in_either a b (term_no_head t a h.0) e)
          [ inl f ↦ inl (free_there t a h.0 f) | inr g ↦ inr (list_there ts b h.1 g) ]

      values_there : (bs : Bindings) (tree : Tree) → StandsForBindings s tree bs → IsFreeInValues k tree → IsFreeBound x bs
      values_there no_bindings (leaf j) h e = absurd e
      values_there no_bindings (cell a b) h e = absurd (impossible h)
        where
          impossible : cell a b ≡ leaf 0 → ⊥
          impossible e = cc
      values_there (binding y t bs) (leaf j) h e = absurd h
      values_there (binding y t bs) (cell (leaf j) b) h e = absurd h.0
      values_there (binding y t bs) (cell (cell a c) b) h (inl e) = inl (free_there t c h.0.1 e)
      values_there (binding y t bs) (cell (cell a c) b) h (inr e) = inr (values_there bs b h.1 e)

    mutual
      pub free_back : (t : Term) (tree : Tree) → StandsFor s tree t → IsFree x t → IsFreeLeaf k tree
      free_back (numeral n) tree h e = absurd e
      free_back (variable y) (leaf j) h e = binder_back y j h e
      free_back (variable y) (cell a b) h e = absurd h
      free_back (operation op ts) tree h e = application_back (operator op) (λ e. cc) ts tree h e
      free_back (call f ts) tree h e = application_back (function_leaf f) (λ e. cc) ts tree h e
      free_back (let_in bs u) (leaf j) h e = absurd h
      free_back (let_in bs u) (cell a (leaf j)) h e = absurd h.1
      free_back (let_in bs u) (cell a (cell b c)) h e =
          either_true (is_let_head a) (IsFreeInLet k (cell b c)) (IsFreeLeaf k a ⊎ IsFreeLeaf k (cell b c)) (ap is_let_head h.0)
          (elim e [ inl v ↦ inl (values_back bs b h.1.0 v) | inr g ↦ inr (λ n. g.0 (binds_there bs b h.1.0 n), free_back u c h.1.1 g.1) ])

      application_back : (l : Leaf) → ¬ (l ≡ let_head) → (ts : Terms) (tree : Tree) → StandsForApplication s tree l ts → IsFreeAmong x ts → IsFreeLeaf k tree
      application_back l other no_terms tree h e = absurd e
      application_back l other (term t ts) (leaf j) h e = absurd h
      application_back l other (term t ts) (cell a (leaf j)) h e = absurd h.1
      application_back l other (term t ts) (cell (cell c d) (cell a b)) h e = absurd h.0
      application_back l other (term t ts) (cell (leaf j) (cell a b)) h e =
          either_false (j == 1) (IsFreeInLet k (cell a b)) ((j ≡ k) ⊎ IsFreeLeaf k (cell a b)) (not_let j l h.0 other)
          (inr (free_in_cell a b (term_no_head t a h.1.0)
          (elim e [ inl f ↦ inl (free_back t a h.1.0 f) | inr g ↦ inr (list_back ts b h.1.1 g) ])))

      list_back : (ts : Terms) (tree : Tree) → StandsForList s tree ts → IsFreeAmong x ts → IsFreeLeaf k tree
      list_back no_terms tree h e = absurd e
      list_back (term t ts) (leaf j) h e = absurd h
      list_back (term t ts) (cell a b) h e =
          free_in_cell a b (term_no_head t a h.0)
          (elim e [ inl f ↦ inl (free_back t a h.0 f) | inr g ↦ inr (list_back ts b h.1 g) ])

      values_back : (bs : Bindings) (tree : Tree) → StandsForBindings s tree bs → IsFreeBound x bs → IsFreeInValues k tree
      values_back no_bindings tree h e = absurd e
      values_back (binding y t bs) (leaf j) h e = absurd h
      values_back (binding y t bs) (cell (leaf j) b) h e = absurd h.0
      values_back (binding y t bs) (cell (cell a c) b) h (inl e) = inl (free_back t c h.0.1 e)
      values_back (binding y t bs) (cell (cell a c) b) h (inr e) = inr (values_back bs b h.1 e)

    pub free_is : (t : Term) (tree : Tree) → StandsFor s tree t → IsFreeLeaf k tree ↔ IsFree x t
    free_is t tree h = (free_there t tree h, free_back t tree h)
