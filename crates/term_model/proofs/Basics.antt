-- Laws that std lacks: on tests, on options, and on some element of a list.
use Rattle.std.proofs.Common.{◌≡◌, zero, suc, List, ◌∷◌, Bool, true, false, ◌&&◌, ◌⊎◌, Any, if◌then◌else◌, inl, inr, refl, arith, [], not, sym, Option, Some, None}
use Rattle.std.specs.Option.{option_or}

pub and-left : (a b : Bool) → (a && b) ≡ true → a ≡ true
and-left true b e = refl
and-left false b e = e

pub and-right : (a b : Bool) → (a && b) ≡ true → b ≡ true
and-right true b e = e
and-right false b e = cc

pub and-true : (b : Bool) → (b && true) ≡ b
and-true true = refl
and-true false = refl

-- a test that a fact decides, where the fact holds or fails
pub then_branch : {A : Type 0} (b : Bool) (x y : A) → b ≡ true → (if b then x else y) ≡ x
then_branch true x y e = refl
then_branch false x y e = absurd cc

pub else_branch : {A : Type 0} (b : Bool) (x y : A) → ¬ (b ≡ true) → (if b then x else y) ≡ y
else_branch true x y n = absurd (n refl)
else_branch false x y n = refl

-- some element of a list has P
pub any_here : {X : Type 0} (P : X → Type 0) (x : X) (xs : List X) → P x → Any P (x ∷ xs)
any_here P x xs p = (0, x, omega arith, refl, p)

pub any_later : {X : Type 0} (P : X → Type 0) (x : X) (xs : List X) → Any P xs → Any P (x ∷ xs)
any_later P x xs (k, y, below, same, p) = (suc k, y, omega arith, same, p)

pub any_cases : {X : Type 0} (P : X → Type 0) (x : X) (xs : List X) → Any P (x ∷ xs) → P x ⊎ Any P xs
any_cases P x xs (zero, y, below, same, p) = inl (rw same p)
any_cases P x xs (suc k, y, below, same, p) = inr (k, y, omega arith, same, p)

-- a test that fails where it holds
pub not_both : (b : Bool) → not b ≡ true → b ≡ true → ⊥
not_both true e f = cc
not_both false e f = cc

-- what is taken of two, by a test
pub choice : {A B : Type 0} (f : A → B) (b : Bool) (x y : A) (u v : B) → u ≡ f x → v ≡ f y → (if b then u else v) ≡ f (if b then x else y)
choice f true x y u v p q = p
choice f false x y u v p q = q

pub taken_where : {X : Type 0} (b : Bool) (z x y : X) → b ≡ true → z ≡ (if b then x else y) → z ≡ x
taken_where true z x y e h = h
taken_where false z x y e h = absurd cc

-- tests that hold in the same cases
pub same_tests : (p q : Bool) → (p ≡ true → q ≡ true) → (q ≡ true → p ≡ true) → p ≡ q
same_tests true q to from = sym (to refl)
same_tests false true to from = from refl
same_tests false false to from = refl

-- two options that hold nothing
pub or_none : {A : Type 0} (a b : Option A) → option_or a b ≡ None → (a ≡ None) × (b ≡ None)
or_none None b e = (refl, e)
or_none (Some x) b e = cc

pub same_some : {X : Type 0} {a b : X} → Some a ≡ Some b → a ≡ b
same_some e = cc

pub any_none : {X : Type 0} (P : X → Type 0) → Any P [] → ⊥
any_none P (k, x, below, same, p) = omega (arith, below)

-- a fault that comes unless a test holds
pub unless_so : {A : Type 0} (b : Bool) (x : A) → (if b then None else Some x) ≡ None → b ≡ true
unless_so true x e = refl
unless_so false x e = cc
