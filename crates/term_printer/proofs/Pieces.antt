-- Bytes one after another, and what is so of a leaf.
use Rattle.std.proofs.Common.{◌≡◌, ℕ, ◌≤◌, ◌*◌, Bool, true, false, List, [], ◌∷◌, ◌++◌, refl, sym, ap, ◌∙◌, subst, arith}
use Rattle.std.proofs.lemmas.List.{append_assoc, length-append}
use Rattle.std.specs.Prelude.{IsSomeAnd, length, Result, Ok, Err, OnOk}
use Rattle.sexpr.specs.Printing.{is_plain_symbol, printed_symbol}
use Rattle.sexpr.specs.Printed.{symbol_item, printed}
use Rattle.sym_table.specs.Leaf.{Leaf}
use Rattle.sym_table.specs.Table.{Table, IsLeaf, LeafMeets}

-- what is so of the leaf
pub of_leaf : (s : Table) (k : ℕ) (l : Leaf) (P : Leaf → Type 0) → LeafMeets s k P → IsLeaf s k l → P l
of_leaf s k l P meets is = subst (λ o. IsSomeAnd o P) is meets

-- bytes one after another
pub four_pieces : (old a b c d : List ℕ) → (((old ++ a) ++ b) ++ c) ++ d ≡ old ++ (a ++ (b ++ (c ++ d)))
four_pieces old a b c d = simp append_assoc

pub pair_text : (o a b c d before name : List ℕ) → a ≡ o ++ before → b ≡ a ++ (40 ∷ []) → c ≡ b ++ name → d ≡ c ++ (32 ∷ [])
    → d ≡ o ++ (before ++ (40 ∷ (name ++ (32 ∷ []))))
pair_text o a b c d before name e f g h =
    h
    ∙ (ap (λ x. x ++ (32 ∷ [])) (g ∙ ap (λ x. x ++ name) (f ∙ ap (λ x. x ++ (40 ∷ [])) e))
    ∙ four_pieces o before (40 ∷ []) name (32 ∷ []))

-- a binding has two bytes and more
pub few_for_pair : (before name : List ℕ) → 3 ≤ 2 * length (before ++ (40 ∷ (name ++ 32 ∷ [])))
few_for_pair before name =
    let a = length-append before (40 ∷ (name ++ 32 ∷ [])) in
    let b = length-append name (32 ∷ []) in
    omega (arith, a, b)

pub two_pieces : (o a b name : List ℕ) → a ≡ o ++ (40 ∷ []) → b ≡ a ++ name → b ≡ o ++ (40 ∷ name)
two_pieces o a b name e f = f ∙ (ap (λ x. x ++ name) e ∙ append_assoc o (40 ∷ []) name)

pub symbol_same : (name : List ℕ) → printed (symbol_item name) ≡ printed_symbol name
symbol_same name = go (is_plain_symbol name) refl
  where
    go : (b : Bool) → is_plain_symbol name ≡ b → printed (symbol_item name) ≡ printed_symbol name
    go true e = rw e refl
    go false e = rw e refl

-- both are so where there is no failure
pub on_ok_both : {T E : Type 0} (P Q : Type 0) (r : Result T E) → OnOk r P → OnOk r Q → OnOk r (P × Q)
on_ok_both P Q (Ok x) p q = (p, q)
on_ok_both P Q (Err e) p q = tt
