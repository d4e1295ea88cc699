-- The marks of names, by which a name that has no number is told.
use Rattle.std.proofs.Common.{◌≡◌, inl, inr, ℕ, ◌<◌, Bool, true, false, List, [], ◌∷◌, ◌++◌, length, get_or, set, position, Option, Some, None, refl, sym, ◌∙◌, ap, arith}
use Rattle.std.specs.Str.{bytes_eq}
use Rattle.std.proofs.lemmas.Bool.{cases_lt}
use Rattle.std.proofs.lemmas.Bool.Decides.{eqb_tells}
use Rattle.std.proofs.lemmas.List.{length_push, get_or_at, get_or_append_left, get_or-set_same, get_or-set_other}
use Rattle.std.proofs.lemmas.List.Quantifiers.{position-Some}
use Rattle.std.proofs.lemmas.Option.{get_or_from_slice_get}
use Rattle.sym_table.proofs.Places.{position-there}
use Rattle.term_names.specs.NameTable.{mark_of, AreMarked}

-- a name whose mark is not set has no number
pub unmarked_nowhere : (names : List (List ℕ)) (marks : List Bool) (name : List ℕ) → AreMarked names marks → get_or marks (mark_of name) false ≡ false → position (bytes_eq name) names ≡ None
unmarked_nowhere names marks name marked none = go (position (bytes_eq name) names) refl
  where
    go : (o : Option ℕ) → position (bytes_eq name) names ≡ o → o ≡ None
    go None e = refl
    go (Some k) e =
        let within = (position-Some (bytes_eq name) names k [] e).0 in
        let same : get_or names k [] ≡ name = get_or_from_slice_get names k name [] (position-there names name k e) in
        let set : get_or marks (mark_of name) false ≡ true = sym (ap (λ n. get_or marks (mark_of n) false) same) ∙ marked k within in
        absurd cc

-- a mark that is set stays set
stays_set : (marks : List Bool) (m i : ℕ) → m < length marks → get_or marks i false ≡ true → get_or (set marks m true) i false ≡ true
stays_set marks m i below e = elim (eqb_tells i m) [
  | inl a ↦ ap (λ j. get_or (set marks m true) j false) a.1 ∙ get_or-set_same marks m true false below
  | inr a ↦ get_or-set_other marks m i true false a.1 ∙ e
]

-- where a name comes and its mark is set, the mark of each name is set
pub AreMarked-new : (names : List (List ℕ)) (marks : List Bool) (name : List ℕ) → mark_of name < length marks → AreMarked names marks → AreMarked (names ++ name ∷ []) (set marks (mark_of name) true)
AreMarked-new names marks name below marked j within = elim (cases_lt j (length names)) [
  | inl old ↦
      ap (λ x. get_or (set marks (mark_of name) true) (mark_of x) false) (get_or_append_left names (name ∷ []) [] j old)
      ∙ stays_set marks (mark_of name) _ below (marked j old)
  | inr new ↦
      let last : length names ≡ j = omega (arith, length_push names name) in
      ap (λ x. get_or (set marks (mark_of name) true) (mark_of x) false) (get_or_at names name [] [] j last)
      ∙ get_or-set_same marks (mark_of name) true false below
]
