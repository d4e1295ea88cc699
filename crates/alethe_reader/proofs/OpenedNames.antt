-- The names and the leaves of the variables of an anchor that is being read.
use Rattle.std.proofs.Common.{◌≡◌, ◌<◌, ℕ, zero, suc, List, [], ◌∷◌, ◌++◌, map, length, slice_index_or, Bool, true, false, ◌||◌, Some, Contains, refl, sym, ap, subst, ◌∙◌, arith}
use Rattle.std.specs.Str.{bytes_eq}
use Rattle.std.specs.List.{AllByRecursion, AllZip}
use Rattle.std.proofs.lemmas.List.{append_assoc, map-append}
use Rattle.std.proofs.lemmas.Slice.Eq.{bytes_eq-Decides}
use Rattle.sym_table.specs.Table.{Table, IsLeaf}
use Rattle.term_model.specs.Terms.{Var, Term}
use Rattle.term_pool.specs.StandsFor.{variable_leaf}
use Rattle.term_pool.specs.Views.{TermsView}
use Rattle.term_pool.specs.Bindings.{IsBindingOf}
use Rattle.problem_text.specs.Words.{is_among}
use Rattle.alethe_reader.specs.Opening.{AreFresh}

-- names of two lists, and of one more
pub among_joined : (xs ys : List (List ℕ)) (name : List ℕ) → is_among (xs ++ ys) name ≡ (is_among xs name || is_among ys name)
among_joined [] ys name = refl
among_joined (x ∷ xs) ys name = go (bytes_eq name x) (among_joined xs ys name)
  where
    go : (b : Bool) → is_among (xs ++ ys) name ≡ (is_among xs name || is_among ys name) → (b || is_among (xs ++ ys) name) ≡ ((b || is_among xs name) || is_among ys name)
    go true e = refl
    go false e = e

-- one more name, before the others and behind all
pub judged_more : (earlier outer xs : List (List ℕ)) (x name : List ℕ) → (is_among earlier name || is_among outer name) ≡ is_among xs name
    → (is_among (x ∷ earlier) name || is_among outer name) ≡ is_among (xs ++ x ∷ []) name
judged_more earlier outer xs x name h = go (bytes_eq name x) (is_among earlier name) (is_among outer name) (is_among xs name) h ∙ sym (among_joined xs (x ∷ []) name)
  where
    go : (b e o y : Bool) → (e || o) ≡ y → ((b || e) || o) ≡ (y || (b || false))
    go true e o true h = refl
    go true e o false h = refl
    go false true o true h = refl
    go false true o false h = absurd (cc)
    go false false o true h = h
    go false false o false h = h

fresh_first : (names : List (List ℕ)) (x name : List ℕ) → is_among (names ++ x ∷ []) name ≡ false → is_among names name ≡ false
fresh_first names x name e = go (is_among names name) (sym (among_joined names (x ∷ []) name) ∙ e)
  where
    go : (b : Bool) → (b || is_among (x ∷ []) name) ≡ false → b ≡ false
    go true h = absurd (cc)
    go false h = refl

-- fresh names are none of the others
pub fresh_apart : (names : List (List ℕ)) (bs : List (Var × Term)) → AreFresh names bs → AllByRecursion (λ b. is_among names b.0.name ≡ false) bs
fresh_apart names [] h = tt
fresh_apart names (b ∷ bs) h = (h.0, weaken bs (fresh_apart (names ++ b.0.name ∷ []) bs h.1))
  where
    weaken : (cs : List (Var × Term)) → AllByRecursion (λ c. is_among (names ++ b.0.name ∷ []) c.0.name ≡ false) cs → AllByRecursion (λ c. is_among names c.0.name ≡ false) cs
    weaken [] k = tt
    weaken (c ∷ cs) k = (fresh_first names b.0.name c.0.name k.0, weaken cs k.1)

pub fresh_more : (names : List (List ℕ)) (bs : List (Var × Term)) (c : Var × Term) → AreFresh names bs → is_among (names ++ map (λ b. b.0.name) bs) c.0.name ≡ false → AreFresh names (bs ++ c ∷ [])
fresh_more names [] c h e = (fresh_nil names c.0.name e, tt)
  where
    fresh_nil : (xs : List (List ℕ)) (name : List ℕ) → is_among (xs ++ []) name ≡ false → is_among xs name ≡ false
    fresh_nil xs name e = subst (λ ys. is_among ys name ≡ false) (Rattle.std.proofs.lemmas.List.append-nil xs) e
fresh_more names (b ∷ bs) c h e =
    (h.0, fresh_more (names ++ b.0.name ∷ []) bs c h.1 (subst (λ ns. is_among ns c.0.name ≡ false) (sym (append_assoc names (b.0.name ∷ []) (map (λ b. b.0.name) bs))) e))

-- Leaves of variables of fresh names differ from these others, and from each other.
module _ (s : Table) (v : TermsView) where
  same_name : (k : ℕ) (x y : Var) → IsLeaf s k (variable_leaf x) → IsLeaf s k (variable_leaf y) → x.name ≡ y.name
  same_name k x y h g = inside (sym h ∙ g)
    where
      inside : Some (variable_leaf x) ≡ Some (variable_leaf y) → x.name ≡ y.name
      inside e = cc

  -- a leaf among those of some variables is that of a variable of one of their names
  leaf_among : (bs : List (ℕ × ℕ)) (cs : List (Var × Term)) (x : Var) (k i : ℕ) → AllZip (IsBindingOf s v) bs cs → IsLeaf s k (variable_leaf x)
      → i < length (map (λ b. b.0) bs) → slice_index_or (map (λ b. b.0) bs) i k ≡ k → is_among (map (λ c. c.0.name) cs) x.name ≡ true
  leaf_among [] cs x k i h is below here = absurd (omega (arith, below))
  leaf_among (b ∷ bs) [] x k i h is below here = absurd h
  leaf_among (b ∷ bs) (c ∷ cs) x k zero h is below here =
      ap (λ d. d || is_among (map (λ c. c.0.name) cs) x.name)
      ((bytes_eq-Decides x.name c.0.name).1 (same_name k x c.0 is (subst (λ n. IsLeaf s n (variable_leaf c.0)) here h.0.variable)))
  leaf_among (b ∷ bs) (c ∷ cs) x k (suc i) h is below here = go (bytes_eq x.name c.0.name) (leaf_among bs cs x k i h.1 is (omega (arith, below)) here)
    where
      go : (d : Bool) → is_among (map (λ c. c.0.name) cs) x.name ≡ true → (d || is_among (map (λ c. c.0.name) cs) x.name) ≡ true
      go true e = refl
      go false e = e

  pub unbound_leaf : (bs : List (ℕ × ℕ)) (cs : List (Var × Term)) (x : Var) (k : ℕ) → AllZip (IsBindingOf s v) bs cs → IsLeaf s k (variable_leaf x)
      → is_among (map (λ c. c.0.name) cs) x.name ≡ false → ¬ Contains (map (λ b. b.0) bs) k
  unbound_leaf bs cs x k h is free (i, below, here) = absurd (let e = leaf_among bs cs x k i h is below here in cc)
