-- What the tree of a term becomes stands for the term with the terms put in.
use Rattle.std.proofs.Common.{◌≡◌, ℕ, ◌==◌, ◌⊎◌, inl, inr, List, [], ◌∷◌, ◌++◌, Bool, true, false, pos, nat_eq, if◌then◌else◌, refl, sym, ◌∙◌, ap, subst, Contains, arith}
use Rattle.std.specs.List.{list_any}
use Rattle.std.proofs.lemmas.List.Elements.{Contains-append_cases, Contains-push_cases}
use Rattle.pair_pool.specs.Trees.{Tree, leaf, cell}
use Rattle.sym_table.specs.Leaf.{Leaf, operator, let_head}
use Rattle.sym_table.specs.Table.{Table, IsLeaf, IsTable}
use Rattle.term_model.specs.FreeVariables.{Binds}
use Rattle.term_model.specs.Terms.{Var, Term, numeral, variable, operation, call, let_in, Terms, no_terms, term, Bindings, no_bindings, binding}
use Rattle.term_model.proofs.Lists.{has_number}
use Rattle.rule_model.specs.Replacement.{Replacement, replaced_by}
use Rattle.rule_model.specs.Substitution.{unbound, put_in, put_in_all, put_in_bound}
use Rattle.rule_model.proofs.Substituting.{binds-cases, term_at-bound, term_at-unbound}
use Rattle.term_pool.specs.Heights.{is_let_head}
use Rattle.term_pool.specs.StandsFor.{nil_tree, variable_leaf, function_leaf, IsLeafOf, StandsFor, StandsForApplication, StandsForList, StandsForBindings}
use Rattle.term_pool.specs.Trees.{pair_leaves}
use Rattle.contexts.specs.Becoming.{image, becomes, let_becomes, bindings_become}
use Rattle.contexts.specs.FreeLeaves.{BindsLeaf}
use Rattle.contexts.specs.Shapes.{HasListShape}
use Rattle.contexts.proofs.Agreeing.{image_bound, image_unbound, binds_listed}
use Rattle.contexts.proofs.Links.{term_no_head, not_let, bindings_shape, binds_there, binds_back}

-- what is put in for leaves is what the replacement puts in for variables, and other leaves stay
pub record PutsFor (s : Table) (f : ℕ → Tree) (hidden : List ℕ) (q : Replacement) : Type 0 where
  pub variables : (k : ℕ) (x : Var) → IsLeaf s k (variable_leaf x) → StandsFor s (image f hidden k) (replaced_by q x)
  pub others : (k : ℕ) (l : Leaf) → IsLeaf s k l → ((x : Var) → ¬ (l ≡ variable_leaf x)) → image f hidden k ≡ leaf k

pub if_true : (b : Bool) (x y : Tree) → b ≡ true → (if b then x else y) ≡ x
if_true true x y e = refl
if_true false x y e = absurd cc

pub if_false : (b : Bool) (x y : Tree) → b ≡ false → (if b then x else y) ≡ y
if_false true x y e = absurd cc
if_false false x y e = refl

pub listed_binds : (k : ℕ) (t : Tree) → HasListShape t → Contains (pair_leaves t) k → BindsLeaf k t
listed_binds k (leaf j) shape h = let below = h.1 in absurd (omega arith)
listed_binds k (cell (leaf j) b) shape h = absurd shape.0
listed_binds k (cell (cell (cell c d) a) b) shape h = absurd shape.0
listed_binds k (cell (cell (leaf j) a) b) shape h =
    elim (Contains-append_cases (j ∷ []) (pair_leaves b) k h) [ inl e ↦ inl (ap leaf (only e)) | inr c ↦ inr (listed_binds k b shape.1 c) ]
  where
    only : Contains (j ∷ []) k → j ≡ k
    only e = elim (Contains-push_cases [] j k e) [ inl n ↦ absurd (let below = n.1 in omega arith) | inr same ↦ same ]

module _ (s : Table) (table : IsTable s) (f : ℕ → Tree) where
  -- a symbol that is no variable's
  stays : (hidden : List ℕ) (q : Replacement) → PutsFor s f hidden q → (l : Leaf) → ((x : Var) → ¬ (l ≡ variable_leaf x)) → (tree : Tree) → IsLeafOf s tree l → IsLeafOf s (becomes f hidden tree) l
  stays hidden q h l never (leaf k) p = subst (λ (t : Tree). IsLeafOf s t l) (sym (h.others k l p never)) p
  stays hidden q h l never (cell a b) p = absurd p

  -- below a let
  puts_under : (hidden : List ℕ) (q : Replacement) (bs : Bindings) (list : Tree) → StandsForBindings s list bs → PutsFor s f hidden q → PutsFor s f (hidden ++ pair_leaves list) (unbound bs q)
  puts_under hidden q bs list p h = record { variables = vars; others = rest }
    where
      shape : HasListShape list
      shape = bindings_shape s table bs list p

      bound : (k : ℕ) (x : Var) → IsLeaf s k (variable_leaf x) → Binds bs x ⊎ (¬ Binds bs x) → StandsFor s (image f (hidden ++ pair_leaves list) k) (replaced_by (unbound bs q) x)
      bound k x here (inl b) =
          subst (λ (u : Term). StandsFor s (image f (hidden ++ pair_leaves list) k) u) (sym (term_at-bound bs q x b))
          (subst (λ (t : Tree). IsLeafOf s t (variable_leaf x)) (sym (image_bound f hidden (pair_leaves list) k (binds_listed k list shape (binds_back s table k x here bs list p b)))) here)
      bound k x here (inr n) =
          subst (λ (u : Term). StandsFor s (image f (hidden ++ pair_leaves list) k) u) (sym (term_at-unbound bs q x n))
          (subst (λ (t : Tree). StandsFor s t (replaced_by q x)) (sym (image_unbound f hidden (pair_leaves list) k (λ c. n (binds_there s table k x here bs list p (listed_binds k list shape c)))))
          (h.variables k x here))

      vars : (k : ℕ) (x : Var) → IsLeaf s k (variable_leaf x) → StandsFor s (image f (hidden ++ pair_leaves list) k) (replaced_by (unbound bs q) x)
      vars k x here = bound k x here (binds-cases bs x)

      rest : (k : ℕ) (l : Leaf) → IsLeaf s k l → ((x : Var) → ¬ (l ≡ variable_leaf x)) → image f (hidden ++ pair_leaves list) k ≡ leaf k
      rest k l here never = go (list_any (nat_eq k) (pair_leaves list)) refl
        where
          go : (b : Bool) → list_any (nat_eq k) (pair_leaves list) ≡ b → image f (hidden ++ pair_leaves list) k ≡ leaf k
          go true e = image_bound f hidden (pair_leaves list) k ((has_number (pair_leaves list) k).0 e)
          go false e =
              image_unbound f hidden (pair_leaves list) k (λ c. absurd (let d = (has_number (pair_leaves list) k).1 c in cc)) ∙ h.others k l here never

  mutual
    pub becomes_stands : (t : Term) (tree : Tree) (hidden : List ℕ) (q : Replacement) → PutsFor s f hidden q → StandsFor s tree t → StandsFor s (becomes f hidden tree) (put_in q t)
    becomes_stands (numeral n) tree hidden q h p = stays hidden q h (Leaf.numeral (pos n)) (λ x e. cc) tree p
    becomes_stands (variable x) (leaf k) hidden q h p = h.variables k x p
    becomes_stands (variable x) (cell a b) hidden q h p = absurd p
    becomes_stands (operation op ts) tree hidden q h p = application_stands (operator op) (λ e. cc) (λ x e. cc) ts tree hidden q h p
    becomes_stands (call g ts) tree hidden q h p = application_stands (function_leaf g) (λ e. cc) (λ x e. cc) ts tree hidden q h p
    becomes_stands (let_in bs u) (leaf k) hidden q h p = absurd p
    becomes_stands (let_in bs u) (cell a (leaf k)) hidden q h p = absurd p.1
    becomes_stands (let_in bs u) (cell a (cell list body)) hidden q h p =
        subst (λ (t : Tree). StandsFor s t (put_in q (let_in bs u))) (sym (if_true (is_let_head a) (cell a (let_becomes f hidden (cell list body))) (cell (becomes f hidden a) (becomes f hidden (cell list body))) (ap is_let_head p.0)))
        (p.0, (bindings_stand bs list hidden q h p.1.0, becomes_stands u body (hidden ++ pair_leaves list) (unbound bs q) (puts_under hidden q bs list p.1.0 h) p.1.1))

    application_stands : (l : Leaf) → ¬ (l ≡ let_head) → ((x : Var) → ¬ (l ≡ variable_leaf x)) → (ts : Terms) (tree : Tree) (hidden : List ℕ) (q : Replacement) → PutsFor s f hidden q → StandsForApplication s tree l ts → StandsForApplication s (becomes f hidden tree) l (put_in_all q ts)
    application_stands l other never no_terms tree hidden q h p = stays hidden q h l never tree p
    application_stands l other never (term t ts) (leaf k) hidden q h p = absurd p
    application_stands l other never (term t ts) (cell a (leaf k)) hidden q h p = absurd p.1
    application_stands l other never (term t ts) (cell (cell c d) (cell a b)) hidden q h p = absurd p.0
    application_stands l other never (term t ts) (cell (leaf k) (cell a b)) hidden q h p =
        let first = becomes_stands t a hidden q h p.1.0 in
        let rest = list_stands ts b hidden q h p.1.1 in
        subst (λ (z : Tree). StandsForApplication s z l (term (put_in q t) (put_in_all q ts)))
        (sym (if_false (k == 1) (cell (leaf k) (let_becomes f hidden (cell a b))) (cell (image f hidden k) (becomes f hidden (cell a b))) (not_let s table k l p.0 other))) (
          stays hidden q h l never (leaf k) p.0,
          subst (λ (z : Tree). StandsForList s z (term (put_in q t) (put_in_all q ts)))
              (sym (if_false (is_let_head a) (cell a (let_becomes f hidden b)) (cell (becomes f hidden a) (becomes f hidden b)) (term_no_head s table t a p.1.0))) (first, rest),
        )

    list_stands : (ts : Terms) (tree : Tree) (hidden : List ℕ) (q : Replacement) → PutsFor s f hidden q → StandsForList s tree ts → StandsForList s (becomes f hidden tree) (put_in_all q ts)
    list_stands no_terms tree hidden q h p =
        subst (λ (z : Tree). becomes f hidden z ≡ nil_tree) (sym p) (h.others 0 Leaf.nil (table.begins 0 Leaf.nil refl) (λ x e. cc))
    list_stands (term t ts) (leaf k) hidden q h p = absurd p
    list_stands (term t ts) (cell a b) hidden q h p =
        let first = becomes_stands t a hidden q h p.0 in
        let rest = list_stands ts b hidden q h p.1 in
        subst (λ (z : Tree). StandsForList s z (term (put_in q t) (put_in_all q ts)))
        (sym (if_false (is_let_head a) (cell a (let_becomes f hidden b)) (cell (becomes f hidden a) (becomes f hidden b)) (term_no_head s table t a p.0))) (first, rest)

    bindings_stand : (bs : Bindings) (tree : Tree) (hidden : List ℕ) (q : Replacement) → PutsFor s f hidden q → StandsForBindings s tree bs → StandsForBindings s (bindings_become f hidden tree) (put_in_bound q bs)
    bindings_stand no_bindings tree hidden q h p = subst (λ (z : Tree). bindings_become f hidden z ≡ nil_tree) (sym p) refl
    bindings_stand (binding x t bs) (leaf k) hidden q h p = absurd p
    bindings_stand (binding x t bs) (cell (leaf k) b) hidden q h p = absurd p.0
    bindings_stand (binding x t bs) (cell (cell c a) b) hidden q h p =
        ((p.0.0, becomes_stands t a hidden q h p.0.1), bindings_stand bs b hidden q h p.1)
