-- Public. Clauses that are the same but for the names of their atoms.
use Rattle.std.specs.Prelude.{◌≡◌, ◌↔◌, List, Contains, ⊤}
use Rattle.std.specs.List.{AllZip}
use Rattle.rule_model.specs.declared.literal.Literal.{Literal}
use Rattle.rule_model.specs.declared.literal.Literal.TheVariants.{Plain, Always, Never}

-- atoms are equal exactly where their images are
abbrev pub KeepsAtomsApart : {A B : Type 0} → (A → B → Type 0) → Type 0
KeepsAtomsApart {A} {B} R = (a b : A) (x y : B) → R a x → R b y → (a ≡ b) ↔ (x ≡ y)

-- literals of one sign, the atom of the one an image of that of the other; a constant is its own image
abbrev pub IsLiteralImage : {A B : Type 0} → (A → B → Type 0) → Literal A → Literal B → Type 0
IsLiteralImage R (Plain a s) (Plain x t) = R a x × (s ≡ t)
IsLiteralImage R (Plain a s) Always = ⊥
IsLiteralImage R (Plain a s) Never = ⊥
IsLiteralImage R Always (Plain x t) = ⊥
IsLiteralImage R Always Always = ⊤
IsLiteralImage R Always Never = ⊥
IsLiteralImage R Never (Plain x t) = ⊥
IsLiteralImage R Never Always = ⊥
IsLiteralImage R Never Never = ⊤

-- the literals of two clauses, and of two lists of clauses, correspond place by place
abbrev pub AreLiteralImages : {A B : Type 0} → (A → B → Type 0) → List (Literal A) → List (Literal B) → Type 0
AreLiteralImages R = AllZip (IsLiteralImage R)

abbrev pub AreAllImages : {A B : Type 0} → (A → B → Type 0) → List (List (Literal A)) → List (List (Literal B)) → Type 0
AreAllImages R = AllZip (AreLiteralImages R)

-- the table names the atom so
abbrev pub IsName : {A B : Type 0} → List (A × B) → A → B → Type 0
IsName names a x = Contains names (a, x)
