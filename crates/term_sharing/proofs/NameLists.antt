-- Names that are among others.
use Rattle.std.proofs.Common.{◌≡◌, ◌≢◌, ◌⊎◌, inl, inr, ℕ, ◌+◌, Bool, true, false, Option, Some, None, List, [], ◌∷◌, ◌++◌, length, bytes_eq, position, refl, sym, ap, ◌∙◌, subst, arith}
use Rattle.std.specs.Option.{is_some}
use Rattle.std.specs.Prelude.{slice_get, nat_eq, codes, IsSomeAnd}
use Rattle.std.specs.List.{starts_with}
use Rattle.std.proofs.lemmas.List.Quantifiers.{position-Some}
use Rattle.std.proofs.lemmas.Bool.{cases_eq}
use Rattle.std.proofs.lemmas.Option.{slice_get-get_or, slice_get_within}
use Rattle.std.proofs.lemmas.Slice.Eq.{bytes_eq-Decides}
use Rattle.sym_table.specs.Leaf.{name_of}
use Rattle.sym_table.specs.Table.{Table, LeafMeets}
use Rattle.term_model.proofs.Lists.{slice_get-left, slice_get-last}
use Rattle.term_printer.specs.Names.{name_numbered}
use Rattle.term_sharing.specs.Naming.{IsNoLeaf}
use Rattle.term_sharing.specs.FreeNames.{HasName, Notes, HasLeavesBelow}

there : (names : List (List ℕ)) (name : List ℕ) (o : Option ℕ) → o ≡ position (bytes_eq name) names → is_some o ≡ true → HasName names name
there names name None e some = absurd (let f : false ≡ true = some in cc)
there names name (Some k) e some =
    let h = position-Some (bytes_eq name) names k [] (sym e) in
    (k, slice_get-get_or names k [] h.0 ∙ ap Some (sym ((bytes_eq-Decides name _).0 h.1)))

pub noted_before : (names : List (List ℕ)) (name : List ℕ) (o : Option ℕ) → o ≡ position (bytes_eq name) names → is_some o ≡ true
    → Notes names names name
noted_before names name o e some = record { kept = λ x h. h; noted = λ j is. there names name o e some }

pub not_numbered : (names : List (List ℕ)) (name : List ℕ) (b : Bool) → b ≡ starts_with nat_eq name (codes "@c") → b ≡ false → Notes names names name
not_numbered names name b e differs = record {
  kept = λ x h. h;
  noted = λ j is.
      absurd (let f : b ≡ true = e ∙ ap (λ x. starts_with nat_eq x (codes "@c")) is in let g : true ≡ false = sym f ∙ differs in cc);
}

pub noted_now : (old new : List (List ℕ)) (name : List ℕ) → new ≡ old ++ name ∷ [] → Notes old new name
noted_now old new name is = record {
  kept = λ x h. (h.0, ap (λ l. slice_get l h.0) is ∙ slice_get-left old (name ∷ []) h.0 x h.1);
  noted = λ j e. (length old, ap (λ l. slice_get l (length old)) is ∙ slice_get-last old name);
}

-- one leaf more
pub more_leaves : (s : Table) (n m : ℕ) (old new : List (List ℕ)) (name : List ℕ) → m ≡ n + 1 → HasLeavesBelow s n old
    → LeafMeets s n (λ l. name ≡ name_of l) → Notes old new name → HasLeavesBelow s m new
more_leaves s n m old new name next before meets notes k l j low is e = go (cases_eq k n)
  where
    go : (k ≡ n) ⊎ (k ≢ n) → HasName new (name_of l)
    go (inl same) =
        let at : slice_get s.leaves n ≡ Some l = subst (λ x. slice_get s.leaves x ≡ Some l) same is in
        let named : name ≡ name_of l = subst (λ o. IsSomeAnd o (λ l. name ≡ name_of l)) at meets in
        subst (HasName new) named (notes.noted j (named ∙ e))
    go (inr other) = notes.kept (name_of l) (before k l j (omega (arith, low, next, other)) is e)

-- a name of a number that is not among those of leaves is no leaf's
pub none_is_leaf : (s : Table) (names : List (List ℕ)) (number : ℕ) → HasLeavesBelow s (length s.leaves) names
    → (HasName names (name_numbered number) → ⊥) → IsNoLeaf s (name_numbered number)
none_is_leaf s names number leaves free k l is = go (bytes_eq (name_numbered number) (name_of l)) refl
  where
    go : (test : Bool) → bytes_eq (name_numbered number) (name_of l) ≡ test → test ≡ false
    go true e =
        let same : name_of l ≡ name_numbered number = sym ((bytes_eq-Decides (name_numbered number) (name_of l)).0 e) in
        absurd (free (subst (HasName names) same (leaves k l number (slice_get_within s.leaves k l is) is same)))
    go false e = refl
