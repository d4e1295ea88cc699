-- Where each command is reached.
use Rattle.std.proofs.Common.{◌≡◌, ◌<◌, ◌≤◌, ◌-◌, ◌⊎◌, inl, inr, ℕ, zero, suc, List, [], ◌∷◌, ◌++◌, length, take, slice_get, Some, refl, sym, ◌∙◌, ap, subst, arith}
use Rattle.std.proofs.lemmas.List.{append_assoc, append-nil, take-append-le}
use Rattle.rule_model.specs.Proofs.{ProofItems, no_items, with_assume, with_step, with_subproof}
use Rattle.rule_model.specs.Scopes.{Nesting, inner}
use Rattle.rule_model.specs.Commands.{Line, lines_in, lines_around, lines_to}

-- an item of two lists is one of the first or one of the second
pub get_append : {X : Type 0} (xs ys : List X) (k : ℕ) (x : X) → slice_get (xs ++ ys) k ≡ Some x → ((k < length xs) × (slice_get xs k ≡ Some x)) ⊎ ((length xs ≤ k) × (slice_get ys (k - length xs) ≡ Some x))
get_append [] ys k x e = let same : k - 0 ≡ k = omega arith in inr (omega arith, subst (λ j. slice_get ys j ≡ Some x) (sym same) e)
get_append (y ∷ xs) ys zero x e = inl (omega arith, e)
get_append (y ∷ xs) ys (suc k) x e = go (get_append xs ys k x e)
  where
    go : ((k < length xs) × (slice_get xs k ≡ Some x)) ⊎ ((length xs ≤ k) × (slice_get ys (k - length xs) ≡ Some x)) → ((suc k < length (y ∷ xs)) × (slice_get xs k ≡ Some x)) ⊎ ((length (y ∷ xs) ≤ suc k) × (slice_get ys (suc k - length (y ∷ xs)) ≡ Some x))
    go (inl p) = inl (let h = p.0 in omega arith, p.1)
    go (inr p) =
        let same : suc k - length (y ∷ xs) ≡ k - length xs = omega arith in
        inr (let h = p.0 in omega arith, subst (λ j. slice_get ys j ≡ Some x) (sym same) p.1)

-- the one item of a list
pub get_one : {X : Type 0} (y : X) (k : ℕ) (x : X) → slice_get (y ∷ []) k ≡ Some x → (k ≡ 0) × (y ≡ x)
get_one y zero x e = (refl, cc)
get_one y (suc k) x e = absurd (cc)

take_seam : {X : Type 0} (xs ys : List X) (k : ℕ) → length xs ≤ k → take k (xs ++ ys) ≡ xs ++ take (k - length xs) ys
take_seam [] ys k h = let same : k - 0 ≡ k = omega arith in rw same refl
take_seam (x ∷ xs) ys zero h = absurd (omega arith)
take_seam (x ∷ xs) ys (suc k) h = let same : suc k - length (x ∷ xs) ≡ k - length xs = omega arith in rw same (ap (λ l. x ∷ l) (take_seam xs ys k (omega arith)))

module _ {V T : Type 0} where
  -- what a line of a scope has before it
  Before : Nesting V T → List (Line V T) → ℕ → Line V T → Type 0
  Before nesting lines k l = lines_to l.scope ≡ lines_around nesting ++ take k lines

  last_before : (nesting : Nesting V T) (lines : List (Line V T)) (k : ℕ) (l m : Line V T) → lines_to m.scope ≡ lines_around nesting ++ lines → ((n : ℕ) (x : Line V T) → slice_get lines n ≡ Some x → lines_to x.scope ≡ lines_around nesting ++ take n lines) → slice_get (lines ++ m ∷ []) k ≡ Some l → lines_to l.scope ≡ lines_around nesting ++ take k (lines ++ m ∷ [])
  last_before nesting lines k l m own earlier e = go (get_append lines (m ∷ []) k l e)
    where
      go : ((k < length lines) × (slice_get lines k ≡ Some l)) ⊎ ((length lines ≤ k) × (slice_get (m ∷ []) (k - length lines) ≡ Some l)) → lines_to l.scope ≡ lines_around nesting ++ take k (lines ++ m ∷ [])
      go (inl p) = rw (take-append-le k lines (m ∷ []) (let h = p.0 in omega arith)) (earlier k l p.1)
      go (inr p) =
          let here = get_one m (k - length lines) l p.1 in
          rw (take_seam lines (m ∷ []) k p.0, here.0, append-nil lines) (subst (λ x. lines_to x.scope ≡ lines_around nesting ++ lines) here.1 own)

  -- a command is reached where exactly the commands before it are written
  pub lines_before : (nesting : Nesting V T) (items : ProofItems V T) (k : ℕ) (l : Line V T) → slice_get (lines_in nesting items) k ≡ Some l → lines_to l.scope ≡ lines_around nesting ++ take k (lines_in nesting items)
  lines_before nesting no_items k l e = absurd (cc)
  lines_before nesting (with_assume items id t) k l e = last_before nesting (lines_in nesting items) k l _ refl (lines_before nesting items) e
  lines_before nesting (with_step items s) k l e = last_before nesting (lines_in nesting items) k l _ refl (lines_before nesting items) e
  lines_before nesting (with_subproof items bindings proof s) k l e =
      last_before nesting (lines_in nesting items ++ lines_in (inner nesting items bindings s) proof) k l _
      (append_assoc (lines_around nesting) (lines_in nesting items) (lines_in (inner nesting items bindings s) proof))
      (λ n x f. inside_before nesting (lines_in nesting items) (lines_in (inner nesting items bindings s) proof) n x (lines_before nesting items) (lines_before (inner nesting items bindings s) proof) (get_append (lines_in nesting items) (lines_in (inner nesting items bindings s) proof) n x f)) e
    where
      inside_before : (nesting : Nesting V T) (xs ys : List (Line V T)) (n : ℕ) (x : Line V T) → ((n : ℕ) (x : Line V T) → slice_get xs n ≡ Some x → lines_to x.scope ≡ lines_around nesting ++ take n xs) → ((n : ℕ) (x : Line V T) → slice_get ys n ≡ Some x → lines_to x.scope ≡ (lines_around nesting ++ xs) ++ take n ys) → ((n < length xs) × (slice_get xs n ≡ Some x)) ⊎ ((length xs ≤ n) × (slice_get ys (n - length xs) ≡ Some x)) → lines_to x.scope ≡ lines_around nesting ++ take n (xs ++ ys)
      inside_before nesting xs ys n x outer within (inl p) = rw (take-append-le n xs ys (let h = p.0 in omega arith)) (outer n x p.1)
      inside_before nesting xs ys n x outer within (inr p) = rw (take_seam xs ys n p.0) (within (n - length xs) x p.1 ∙ append_assoc (lines_around nesting) xs (take (n - length xs) ys))
