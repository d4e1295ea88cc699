-- Private. The last items of lists, and how far in a list of arguments a cell stands.
use Rattle.std.proofs.Common.{◌≡◌, ◌≤◌, inl, inr, ℕ, zero, suc, List, [], ◌∷◌, ◌++◌, slice_get, Some, Contains, refl, sym, ◌∙◌, ap, subst, arith}
use Rattle.pair_pool.specs.Trees.{Tree, leaf, cell, depth}
use Rattle.sym_table.specs.Leaf.{Leaf, operator}
use Rattle.sym_table.specs.Table.{Table}
use Rattle.term_model.specs.Terms.{Term, numeral, variable, operation, call, let_in, Terms, no_terms, term, list_of}
use Rattle.term_model.proofs.Lists.{contains_cases, contains_none}
use Rattle.term_pool.specs.CellCounts.{Has}
use Rattle.term_pool.specs.Reading.{arguments_of}
use Rattle.term_pool.specs.StandsFor.{StandsFor, StandsForApplication, StandsForList, function_leaf}
use Rattle.term_pool.specs.Trees.{IsPartOf}
use Rattle.term_pool.proofs.Keeping.{part-refl}
use Rattle.placing_laws.proofs.StageCells.{rest_of}

-- the last item, and the one before it
abbrev last_of : List ℕ → ℕ
last_of [] = 0
last_of (x ∷ []) = x
last_of (x ∷ y ∷ ys) = last_of (y ∷ ys)

abbrev second_last : List ℕ → ℕ
second_last [] = 0
second_last (x ∷ []) = 0
second_last (x ∷ y ∷ []) = x
second_last (x ∷ y ∷ z ∷ zs) = second_last (y ∷ z ∷ zs)

last_is : (xs : List ℕ) (a : ℕ) → last_of (xs ++ a ∷ []) ≡ a
last_is [] a = refl
last_is (x ∷ []) a = refl
last_is (x ∷ y ∷ xs) a = last_is (y ∷ xs) a

last_of_two : (xs : List ℕ) (a b : ℕ) → last_of (xs ++ a ∷ b ∷ []) ≡ b
last_of_two [] a b = refl
last_of_two (x ∷ []) a b = refl
last_of_two (x ∷ y ∷ xs) a b = last_of_two (y ∷ xs) a b

second_is : (xs : List ℕ) (a b : ℕ) → second_last (xs ++ a ∷ b ∷ []) ≡ a
second_is [] a b = refl
second_is (x ∷ []) a b = refl
second_is (x ∷ y ∷ []) a b = refl
second_is (x ∷ y ∷ z ∷ xs) a b = second_is (y ∷ z ∷ xs) a b

pub one_last : (xs ys : List ℕ) (a b : ℕ) → xs ++ a ∷ [] ≡ ys ++ b ∷ [] → a ≡ b
one_last xs ys a b e = sym (last_is xs a) ∙ ap last_of e ∙ last_is ys b

pub one_last_two : (xs ys : List ℕ) (a b c d : ℕ) → xs ++ a ∷ b ∷ [] ≡ ys ++ c ∷ d ∷ [] → (a ≡ c) × (b ≡ d)
one_last_two xs ys a b c d e =
    (sym (second_is xs a b) ∙ ap second_last e ∙ second_is ys c d, sym (last_of_two xs a b) ∙ ap last_of e ∙ last_of_two ys c d)

pub last_and_two : (xs ys : List ℕ) (a b c : ℕ) → xs ++ a ∷ b ∷ [] ≡ ys ++ c ∷ [] → b ≡ c
last_and_two xs ys a b c e = sym (last_of_two xs a b) ∙ ap last_of e ∙ last_is ys c

-- what a list contains it has
pub has_of : {X : Type 0} (xs : List X) (x : X) → Contains xs x → Has xs x
has_of [] x there = absurd (contains_none x there)
has_of (y ∷ xs) x there = elim (contains_cases y x xs there) [ inl e ↦ inl (sym e) | inr later ↦ inr (has_of xs x later) ]

-- the tree of a list without so many items
abbrev pub list_behind : ℕ → Tree → Tree
list_behind zero list = list
list_behind (suc n) (leaf k) = leaf k
list_behind (suc n) (cell a b) = list_behind n b

behind_less : (n : ℕ) (list : Tree) → depth (list_behind n list) ≤ depth list
behind_less zero list = omega arith
behind_less (suc n) (leaf k) = omega arith
behind_less (suc n) (cell a b) = let h = behind_less n b in omega arith

-- a cell stands at one place
pub one_place : (m n : ℕ) (list a b : Tree) → list_behind m list ≡ cell a b → list_behind n list ≡ cell a b → m ≡ n
one_place zero zero list a b h k = refl
one_place zero (suc n) (leaf j) a b h k = absurd (cc)
one_place zero (suc n) (cell c d) a b h k =
    let less = behind_less n d in
    let same : depth (list_behind n d) ≡ depth (cell c d) = ap depth (k ∙ sym h) in
    absurd (omega arith)
one_place (suc m) zero (leaf j) a b h k = absurd (cc)
one_place (suc m) zero (cell c d) a b h k =
    let less = behind_less m d in
    let same : depth (list_behind m d) ≡ depth (cell c d) = ap depth (h ∙ sym k) in
    absurd (omega arith)
one_place (suc m) (suc n) (leaf j) a b h k = absurd (cc)
one_place (suc m) (suc n) (cell c d) a b h k = ap suc (one_place m n d a b h k)

-- an argument is the first item of the list behind those before it
pub record IsAtPlace (s : Table) (list : Tree) (place : ℕ) (t : Term) : Type 0 where
  pub tree : Tree
  pub rest : Tree
  pub is : list_behind place list ≡ cell tree rest
  pub stands : StandsFor s tree t
  pub part : IsPartOf (cell tree rest) list

module _ (s : Table) where
  place_in_list : (ts : Terms) (list : Tree) (place : ℕ) (a : Term) → StandsForList s list ts → slice_get (list_of ts) place ≡ Some a → IsAtPlace s list place a
  place_in_list no_terms list place a stands there = absurd (cc)
  place_in_list (term t ts) (leaf k) place a stands there = absurd stands
  place_in_list (term t ts) (cell b c) zero a stands there = record {
    tree = b;
    rest = c;
    is = refl;
    stands = let same : t ≡ a = cc in subst (StandsFor s b) same stands.0;
    part = inl refl;
  }
  place_in_list (term t ts) (cell b c) (suc place) a stands there =
      let found = place_in_list ts c place a stands.1 there in
      record { tree = found.tree; rest = found.rest; is = found.is; stands = found.stands; part = inr (inr found.part) }

  place_in_application : (l : Leaf) (ts : Terms) (tree : Tree) (place : ℕ) (a : Term) → StandsForApplication s tree l ts → slice_get (list_of ts) place ≡ Some a
      → IsAtPlace s (rest_of tree) place a
  place_in_application l no_terms tree place a stands there = absurd (cc)
  place_in_application l (term t ts) (leaf k) place a stands there = absurd stands
  place_in_application l (term t ts) (cell head list) place a stands there = place_in_list (term t ts) list place a stands.1 there

  pub place_of_argument : (t : Term) (tree : Tree) (place : ℕ) (a : Term) → StandsFor s tree t → slice_get (arguments_of t) place ≡ Some a
      → IsAtPlace s (rest_of tree) place a
  place_of_argument (numeral n) tree place a stands there = absurd (cc)
  place_of_argument (variable x) tree place a stands there = absurd (cc)
  place_of_argument (operation op ts) tree place a stands there = place_in_application (operator op) ts tree place a stands there
  place_of_argument (call f ts) tree place a stands there = place_in_application (function_leaf f) ts tree place a stands there
  place_of_argument (let_in bs u) tree place a stands there = absurd (cc)

-- the rest of a cell is a part of it
pub rest_part : (tree : Tree) → IsPartOf (rest_of tree) tree
rest_part (leaf k) = refl
rest_part (cell a b) = inr (inr (part-refl b))
