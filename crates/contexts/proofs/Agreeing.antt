-- What a tree becomes depends on what is put in for the leaves that stand free in it.
use Rattle.std.proofs.Common.{◌≡◌, ℕ, ◌⊎◌, inl, inr, List, [], ◌∷◌, ◌++◌, Bool, true, false, ◌||◌, nat_eq, if◌then◌else◌, refl, sym, ◌∙◌, ap, Contains}
use Rattle.std.specs.List.{list_any}
use Rattle.std.proofs.lemmas.List.Folds.{list_any-append}
use Rattle.std.proofs.lemmas.List.Elements.{Contains-append_left, Contains-append_right, Contains-push}
use Rattle.pair_pool.specs.Trees.{Tree, leaf, cell}
use Rattle.term_model.proofs.Lists.{has_number}
use Rattle.term_pool.specs.Heights.{is_let_head}
use Rattle.term_pool.specs.Trees.{pair_leaves}
use Rattle.contexts.specs.Becoming.{image, becomes, let_becomes, bindings_become, binding_becomes}
use Rattle.contexts.specs.FreeLeaves.{BindsLeaf, IsFreeLeaf, IsFreeInLet, IsFreeInValues, IsFreeInValue}
use Rattle.contexts.specs.Shapes.{HasShape, HasLetShape, HasListShape, HasPairShape}
use Rattle.contexts.proofs.References.{either_true, either_false, from_true, from_false}

-- the leaves of a list of bindings are those that it binds
pub binds_listed : (k : ℕ) (t : Tree) → HasListShape t → BindsLeaf k t → Contains (pair_leaves t) k
binds_listed k (leaf j) shape h = absurd h
binds_listed k (cell (leaf j) b) shape h = absurd shape.0
binds_listed k (cell (cell (cell c d) a) b) shape h = absurd shape.0
binds_listed k (cell (cell (leaf j) a) b) shape (inl e) = Contains-append_left (j ∷ []) (pair_leaves b) k (only e)
  where
    same : leaf j ≡ leaf k → j ≡ k
    same e = cc

    only : leaf j ≡ leaf k → Contains (j ∷ []) k
    only e = rw (same e) (Contains-push [] k)
binds_listed k (cell (cell (leaf j) a) b) shape (inr h) = Contains-append_right (j ∷ []) (pair_leaves b) k (binds_listed k b shape.1 h)

-- behind leaves that are hidden too
hidden_both : (k : ℕ) (xs ys : List ℕ) → list_any (nat_eq k) ys ≡ true → list_any (nat_eq k) (xs ++ ys) ≡ true
hidden_both k xs ys e = list_any-append (nat_eq k) xs ys ∙ go (list_any (nat_eq k) xs) (list_any (nat_eq k) ys) e
  where
    go : (a b : Bool) → b ≡ true → (a || b) ≡ true
    go true b e = refl
    go false b e = e

hidden_first : (k : ℕ) (xs ys : List ℕ) → list_any (nat_eq k) ys ≡ false → list_any (nat_eq k) (xs ++ ys) ≡ list_any (nat_eq k) xs
hidden_first k xs ys e = list_any-append (nat_eq k) xs ys ∙ go (list_any (nat_eq k) xs) (list_any (nat_eq k) ys) e
  where
    go : (a b : Bool) → b ≡ false → (a || b) ≡ a
    go true b e = refl
    go false b e = e

pub image_hidden : (f : ℕ → Tree) (hidden : List ℕ) (k : ℕ) → list_any (nat_eq k) hidden ≡ true → image f hidden k ≡ leaf k
image_hidden f hidden k e = go (list_any (nat_eq k) hidden) e
  where
    go : (b : Bool) → b ≡ true → (if b then leaf k else f k) ≡ leaf k
    go true e = refl
    go false e = absurd cc

pub image_bound : (f : ℕ → Tree) (hidden leaves : List ℕ) (k : ℕ) → Contains leaves k → image f (hidden ++ leaves) k ≡ leaf k
image_bound f hidden leaves k h = image_hidden f (hidden ++ leaves) k (hidden_both k hidden leaves ((has_number leaves k).1 h))

pub image_unbound : (f : ℕ → Tree) (hidden leaves : List ℕ) (k : ℕ) → ¬ Contains leaves k → image f (hidden ++ leaves) k ≡ image f hidden k
image_unbound f hidden leaves k n =
    ap (λ b. if b then leaf k else f k) (hidden_first k hidden leaves (never (list_any (nat_eq k) leaves) (λ e. n ((has_number leaves k).0 e))))
  where
    never : (b : Bool) → ¬ (b ≡ true) → b ≡ false
    never true n = absurd (n refl)
    never false n = refl

under_let : (f : ℕ → Tree) (D E : List ℕ) (k : ℕ) (leaves : List ℕ) → (¬ Contains leaves k → image f D k ≡ image f E k) → image f (D ++ leaves) k ≡ image f (E ++ leaves) k
under_let f D E k leaves h = go (list_any (nat_eq k) leaves) refl
  where
    go : (b : Bool) → list_any (nat_eq k) leaves ≡ b → image f (D ++ leaves) k ≡ image f (E ++ leaves) k
    go true e =
        let c = (has_number leaves k).0 e in image_bound f D leaves k c ∙ sym (image_bound f E leaves k c)
    go false e =
        let n : ¬ Contains leaves k = λ c. absurd (let d = (has_number leaves k).1 c in cc) in
        image_unbound f D leaves k n ∙ h n ∙ sym (image_unbound f E leaves k n)

module _ (f : ℕ → Tree) where
  mutual
    pub becomes_agree : (t : Tree) (D E : List ℕ) → HasShape t → ((k : ℕ) → IsFreeLeaf k t → image f D k ≡ image f E k) → becomes f D t ≡ becomes f E t
    becomes_agree (leaf k) D E shape h = h k refl
    becomes_agree (cell a b) D E shape h =
        go (is_let_head a) refl (λ s g. let_agrees b D E s g) (λ s g. becomes_agree a D E s g) (λ s g. becomes_agree b D E s g)
      where
        go : (t : Bool) → is_let_head a ≡ t → (HasLetShape b → ((k : ℕ) → IsFreeInLet k b → image f D k ≡ image f E k) → let_becomes f D b ≡ let_becomes f E b) → (HasShape a → ((k : ℕ) → IsFreeLeaf k a → image f D k ≡ image f E k) → becomes f D a ≡ becomes f E a) → (HasShape b → ((k : ℕ) → IsFreeLeaf k b → image f D k ≡ image f E k) → becomes f D b ≡ becomes f E b) → (if t then cell a (let_becomes f D b) else cell (becomes f D a) (becomes f D b)) ≡ (if t then cell a (let_becomes f E b) else cell (becomes f E a) (becomes f E b))
        go true e first second third =
            ap (cell a) (first (from_true (is_let_head a) (HasLetShape b) (HasShape a × HasShape b) e shape) (λ k g. h k (either_true (is_let_head a) (IsFreeInLet k b) (IsFreeLeaf k a ⊎ IsFreeLeaf k b) e g)))
        go false e first second third =
            let shapes = from_false (is_let_head a) (HasLetShape b) (HasShape a × HasShape b) e shape in
            let x = second shapes.0 (λ k g. h k (either_false (is_let_head a) (IsFreeInLet k b) (IsFreeLeaf k a ⊎ IsFreeLeaf k b) e (inl g))) in
            let y = third shapes.1 (λ k g. h k (either_false (is_let_head a) (IsFreeInLet k b) (IsFreeLeaf k a ⊎ IsFreeLeaf k b) e (inr g))) in
            cc

    pub let_agrees : (t : Tree) (D E : List ℕ) → HasLetShape t → ((k : ℕ) → IsFreeInLet k t → image f D k ≡ image f E k) → let_becomes f D t ≡ let_becomes f E t
    let_agrees (leaf k) D E shape h = refl
    let_agrees (cell list u) D E shape h =
        let x = bindings_agree list D E shape.0 (λ k g. h k (inl g)) in
        let y = becomes_agree u (D ++ pair_leaves list) (E ++ pair_leaves list) shape.1
        (λ k g. under_let f D E k (pair_leaves list) (λ n. h k (inr (λ b. n (binds_listed k list shape.0 b), g)))) in
        cc

    pub bindings_agree : (t : Tree) (D E : List ℕ) → HasListShape t → ((k : ℕ) → IsFreeInValues k t → image f D k ≡ image f E k) → bindings_become f D t ≡ bindings_become f E t
    bindings_agree (leaf k) D E shape h = refl
    bindings_agree (cell pair rest) D E shape h =
        let x = binding_agrees pair D E shape.0 (λ k g. h k (inl g)) in
        let y = bindings_agree rest D E shape.1 (λ k g. h k (inr g)) in
        cc

    binding_agrees : (t : Tree) (D E : List ℕ) → HasPairShape t → ((k : ℕ) → IsFreeInValue k t → image f D k ≡ image f E k) → binding_becomes f D t ≡ binding_becomes f E t
    binding_agrees (leaf k) D E shape h = refl
    binding_agrees (cell (leaf j) t) D E shape h = ap (cell (leaf j)) (becomes_agree t D E shape h)
    binding_agrees (cell (cell c d) t) D E shape h = absurd shape
