-- Cited by crates above. Where a set of names has a name.
use Rattle.std.proofs.Common.{◌≡◌, ℕ, List, slice_get, position, Option, Some, None, refl, sym, ◌∙◌, ap}
use Rattle.std.specs.Str.{bytes_eq}
use Rattle.std.proofs.lemmas.Slice.Eq.{bytes_eq-Decides}
use Rattle.std.proofs.lemmas.Option.{slice_get-get_or}
use Rattle.std.proofs.lemmas.List.Quantifiers.{position-Some}
use Rattle.sym_table.specs.Names.{Lacks}

-- the first place of a name has it
pub position-there : (names : List (List ℕ)) (name : List ℕ) (k : ℕ) → position (bytes_eq name) names ≡ Some k → slice_get names k ≡ Some name
position-there names name k e =
    let at = position-Some (bytes_eq name) names k name e in
    slice_get-get_or names k name at.0 ∙ ap Some (sym ((bytes_eq-Decides name _).0 at.1))

-- a name that is nowhere has none
pub position-lacks : (names : List (List ℕ)) (name : List ℕ) → Lacks names name → position (bytes_eq name) names ≡ None
position-lacks names name lacks = go (position (bytes_eq name) names) refl
  where
    go : (o : Option ℕ) → position (bytes_eq name) names ≡ o → o ≡ None
    go None e = refl
    go (Some k) e = absurd (lacks k (position-there names name k e))
