-- What holds of every table.
use Rattle.std.proofs.Common.{◌≡◌, ◌⊎◌, inl, inr, ℤ, pos, ◌≤ℤ◌, ℕ, ◌<◌, ◌+◌, zero, suc, Bool, true, false, ◌&&◌, nat_eq, List, [], ◌∷◌, length, slice_get, slice_index_or, Option, Some, None, refl, sym, ◌∙◌, ap, arith, zero-add, subst}
use Rattle.std.proofs.lemmas.Bool.Decides.{Decides-eqb}
use Rattle.std.proofs.lemmas.Option.{slice_get-get_or, none-some, same_Some}
use Rattle.std.proofs.lemmas.Bool.{true≢false}
use Rattle.term_model.specs.declared.symbols.Op.{Op}
use Rattle.term_model.specs.declared.symbols.Sort.{Sort}
use Rattle.term_model.proofs.Basics.{and-left, and-right}
use Rattle.sym_table.specs.declared.kind.Kind.{Kind}
use Rattle.sym_table.specs.declared.cells.Symbol.{Symbol}
use Rattle.sym_table.specs.declared.cells.Function.{Function}
use Rattle.sym_table.specs.Names.{Lacks, AreApart}
use Rattle.sym_table.specs.Leaf.{Leaf, function, variable, numeral, kind_of, name_of, first_leaves}
use Rattle.sym_table.specs.Table.{Table, IsTable, IsLeaf, LacksLeaf}
use Rattle.sym_table.specs.Cells.{function_at, leaf_of_key, leaves_of, IsInRange, AreKeysLinked}
use Rattle.sym_table.proofs.Lists.{slice_get-there, passes_at}
use Rattle.sym_table.proofs.Tables.{function_at-known, first_leaf, leaf_cases}

-- the table of some fields
abbrev pub table_of : List (List ℕ) → List Function → List (List ℕ) → List Symbol → List (List ℕ) → Table
table_of names functions variables keys sorts = record { leaves = leaves_of names functions variables keys; sorts = sorts }

-- whether a kind is one of the first leaves'
abbrev pub is_first : Kind → Bool
is_first Kind.Nil = true
is_first Kind.Let = true
is_first (Kind.Op op) = true
is_first (Kind.Fun n) = false
is_first (Kind.Var sort) = false
is_first (Kind.Num n) = false

pub first_kind : (k : ℕ) (l : Leaf) → slice_get first_leaves k ≡ Some l → is_first (kind_of 0 l) ≡ true
first_kind k l e = passes_at (λ x. is_first (kind_of 0 x)) first_leaves k l refl e

-- the place of each operator's leaf
operator_place : Op → ℕ
operator_place Op.True = 2
operator_place Op.False = 3
operator_place Op.Not = 4
operator_place Op.Implies = 5
operator_place Op.And = 6
operator_place Op.Or = 7
operator_place Op.Xor = 8
operator_place Op.Equal = 9
operator_place Op.Distinct = 10
operator_place Op.Ite = 11
operator_place Op.Minus = 12
operator_place Op.Plus = 13
operator_place Op.Times = 14
operator_place Op.Div = 15
operator_place Op.Mod = 16
operator_place Op.LessEq = 17
operator_place Op.Less = 18
operator_place Op.GreaterEq = 19
operator_place Op.Greater = 20

kind_place : Kind → ℕ
kind_place Kind.Nil = 0
kind_place Kind.Let = 1
kind_place (Kind.Op op) = operator_place op
kind_place (Kind.Fun n) = 21
kind_place (Kind.Var sort) = 21
kind_place (Kind.Num n) = 21

in_place : ℕ → List Leaf → Bool
in_place n [] = true
in_place n (l ∷ ls) = nat_eq (kind_place (kind_of 0 l)) n && in_place (suc n) ls

place_at : (n : ℕ) (ls : List Leaf) (k : ℕ) (l : Leaf) → in_place n ls ≡ true → slice_get ls k ≡ Some l → kind_place (kind_of 0 l) ≡ n + k
unfolding in_place
place_at n [] k l h e = absurd (none-some l e)
place_at n (m ∷ ls) zero l h e =
    ap (λ x. kind_place (kind_of 0 x)) (sym (same_Some m l e)) ∙ (Decides-eqb _ n).0 (and-left _ (in_place (suc n) ls) h) ∙ omega arith
place_at n (m ∷ ls) (suc k) l h e = place_at (suc n) ls k l (and-right (nat_eq (kind_place (kind_of 0 m)) n) _ h) e ∙ omega arith

first_place : (k : ℕ) (l : Leaf) → slice_get first_leaves k ≡ Some l → kind_place (kind_of 0 l) ≡ k
unfolding in_place kind_place operator_place
first_place k l e = place_at 0 first_leaves k l refl e ∙ zero-add k

-- a number in range has a function
pub function_at-shape : (names : List (List ℕ)) (functions : List Function) (n : ℕ) → length names ≡ length functions → n < length functions → (name : List ℕ) × (f : Function) × (slice_get names n ≡ Some name) × (slice_get functions n ≡ Some f) × (function_at names functions n ≡ function name f.arguments.items f.target)
function_at-shape names functions n same below = go (slice_get functions n) refl
  where
    name : List ℕ
    name = slice_index_or names n []

    named : slice_get names n ≡ Some name
    named = slice_get-get_or names n [] (omega arith)

    go : (o : Option Function) → slice_get functions n ≡ o → (x : List ℕ) × (f : Function) × (slice_get names n ≡ Some x) × (slice_get functions n ≡ Some f) × (function_at names functions n ≡ function x f.arguments.items f.target)
    go None e = absurd (slice_get-there functions n below e)
    go (Some f) e = (name, f, named, e, function_at-known names functions n name f named e)

-- a key's leaf is none of the first
key_kind : (names : List (List ℕ)) (functions : List Function) (variables : List (List ℕ)) (key : Symbol) → length names ≡ length functions → IsInRange (length functions) (length variables) key → is_first (kind_of 0 (leaf_of_key names functions variables key)) ≡ false
key_kind names functions variables (Symbol.Function n) same r = ap (λ l. is_first (kind_of 0 l)) (function_at-shape names functions n same r).4
key_kind names functions variables (Symbol.Variable n sort) same r = refl
key_kind names functions variables (Symbol.Numeral n) same r = refl

-- leaves of one kind and name have one key
same_key : (names : List (List ℕ)) (functions : List Function) (variables : List (List ℕ)) (keys : List Symbol) → AreKeysLinked names functions variables keys → (a b : Symbol) → IsInRange (length functions) (length variables) a → IsInRange (length functions) (length variables) b → kind_of 0 (leaf_of_key names functions variables a) ≡ kind_of 0 (leaf_of_key names functions variables b) → name_of (leaf_of_key names functions variables a) ≡ name_of (leaf_of_key names functions variables b) → a ≡ b
same_key names functions variables keys h (Symbol.Function m) (Symbol.Function n) r s kinds names_same =
    let x = function_at-shape names functions m h.named r in
    let y = function_at-shape names functions n h.named s in
    let one : x.0 ≡ y.0 = sym (ap name_of x.4) ∙ names_same ∙ ap name_of y.4 in
    ap Symbol.Function (h.functions_apart m n y.0 (x.2 ∙ ap Some one) y.2)
same_key names functions variables keys h (Symbol.Function m) (Symbol.Variable n sort) r s kinds names_same =
    let x = function_at-shape names functions m h.named r in
    let clash : Kind.Fun 0 ≡ Kind.Var sort = sym (ap (kind_of 0) x.4) ∙ kinds in
    cc
same_key names functions variables keys h (Symbol.Function m) (Symbol.Numeral n) r s kinds names_same =
    let x = function_at-shape names functions m h.named r in
    let clash : Kind.Fun 0 ≡ Kind.Num n = sym (ap (kind_of 0) x.4) ∙ kinds in
    cc
same_key names functions variables keys h (Symbol.Variable m sort) (Symbol.Function n) r s kinds names_same =
    let y = function_at-shape names functions n h.named s in
    let clash : Kind.Var sort ≡ Kind.Fun 0 = kinds ∙ ap (kind_of 0) y.4 in
    cc
same_key names functions variables keys h (Symbol.Variable m sort) (Symbol.Variable n other) r s kinds names_same =
    let one : m ≡ n = h.variables_apart m n (slice_index_or variables n []) (slice_get-get_or variables m [] r ∙ ap Some names_same) (slice_get-get_or variables n [] s) in
    cc
same_key names functions variables keys h (Symbol.Variable m sort) (Symbol.Numeral n) r s kinds names_same = cc
same_key names functions variables keys h (Symbol.Numeral m) (Symbol.Function n) r s kinds names_same =
    let y = function_at-shape names functions n h.named s in
    let clash : Kind.Num m ≡ Kind.Fun 0 = kinds ∙ ap (kind_of 0) y.4 in
    cc
same_key names functions variables keys h (Symbol.Numeral m) (Symbol.Variable n sort) r s kinds names_same = cc
same_key names functions variables keys h (Symbol.Numeral m) (Symbol.Numeral n) r s kinds names_same = cc

-- two leaves differ in kind or name
leaves_apart : (names : List (List ℕ)) (functions : List Function) (variables : List (List ℕ)) (keys : List Symbol) → AreKeysLinked names functions variables keys → (j k : ℕ) (l m : Leaf) → slice_get (leaves_of names functions variables keys) j ≡ Some l → slice_get (leaves_of names functions variables keys) k ≡ Some m → kind_of 0 l ≡ kind_of 0 m → name_of l ≡ name_of m → j ≡ k
leaves_apart names functions variables keys h j k l m at_j at_k kinds names_same = go (leaf_cases names functions variables keys j l at_j) (leaf_cases names functions variables keys k m at_k)
  where
    range : (i : ℕ) (key : Symbol) → slice_get keys i ≡ Some key → IsInRange (length functions) (length variables) key
    range i key e = h.in_range i key e

    go : (slice_get first_leaves j ≡ Some l) ⊎ ((i : ℕ) × (key : Symbol) × (j ≡ 21 + i) × (slice_get keys i ≡ Some key) × (l ≡ leaf_of_key names functions variables key)) → (slice_get first_leaves k ≡ Some m) ⊎ ((i : ℕ) × (key : Symbol) × (k ≡ 21 + i) × (slice_get keys i ≡ Some key) × (m ≡ leaf_of_key names functions variables key)) → j ≡ k
    go (inl a) (inl b) = sym (first_place j l a) ∙ ap kind_place kinds ∙ first_place k m b
    go (inl a) (inr b) = absurd (true≢false (sym (first_kind j l a) ∙ ap is_first kinds ∙ ap (λ x. is_first (kind_of 0 x)) b.4 ∙ key_kind names functions variables b.1 h.named (range b.0 b.1 b.3)))
    go (inr a) (inl b) = absurd (true≢false (sym (first_kind k m b) ∙ ap is_first (sym kinds) ∙ ap (λ x. is_first (kind_of 0 x)) a.4 ∙ key_kind names functions variables a.1 h.named (range a.0 a.1 a.3)))
    go (inr a) (inr b) =
        let one : a.1 ≡ b.1 = same_key names functions variables keys h a.1 b.1 (range a.0 a.1 a.3) (range b.0 b.1 b.3) (sym (ap (kind_of 0) a.4) ∙ kinds ∙ ap (kind_of 0) b.4) (sym (ap name_of a.4) ∙ names_same ∙ ap name_of b.4) in
        let place = h.keys_apart a.0 b.0 b.1 (a.3 ∙ ap Some one) b.3 in
        a.2 ∙ ap (λ i. 21 + i) place ∙ sym b.2

-- no numeral is negative
numeral_leaf : (names : List (List ℕ)) (functions : List Function) (variables : List (List ℕ)) (key : Symbol) (n : ℤ) → length names ≡ length functions → IsInRange (length functions) (length variables) key → numeral n ≡ leaf_of_key names functions variables key → pos 0 ≤ℤ n
numeral_leaf names functions variables (Symbol.Function m) n same r e =
    let clash : Kind.Num n ≡ Kind.Fun 0 = ap (kind_of 0) e ∙ ap (kind_of 0) (function_at-shape names functions m same r).4 in
    cc
numeral_leaf names functions variables (Symbol.Variable m sort) n same r e = let clash : Kind.Num n ≡ Kind.Var sort = ap (kind_of 0) e in cc
numeral_leaf names functions variables (Symbol.Numeral m) n same r e = let one : n ≡ m = cc in subst (λ z. pos 0 ≤ℤ z) (sym one) r.0

not_negative : (names : List (List ℕ)) (functions : List Function) (variables : List (List ℕ)) (keys : List Symbol) → AreKeysLinked names functions variables keys → (k : ℕ) (n : ℤ) → slice_get (leaves_of names functions variables keys) k ≡ Some (numeral n) → pos 0 ≤ℤ n
not_negative names functions variables keys h k n e =
    elim (leaf_cases names functions variables keys k (numeral n) e) [
      | inl a ↦ absurd (true≢false (sym (first_kind k (numeral n) a)))
      | inr a ↦ numeral_leaf names functions variables a.1 n h.named (h.in_range a.0 a.1 a.3) a.4
    ]

-- so the fields make a table
pub IsTable-linked : (names : List (List ℕ)) (functions : List Function) (variables : List (List ℕ)) (keys : List Symbol) (sorts : List (List ℕ)) → AreKeysLinked names functions variables keys → AreApart sorts → IsTable (table_of names functions variables keys sorts)
IsTable-linked names functions variables keys sorts h apart = record {
  begins = λ k l e. first_leaf names functions variables keys k l e;
  apart = λ j k l m a b kinds names_same. leaves_apart names functions variables keys h j k l m a b kinds names_same;
  numerals = λ k n e. not_negative names functions variables keys h k n e;
  sorts_apart = λ m n name a b. apart m n name a b;
}

-- a key that is nowhere stands for what no leaf does
pub LacksLeaf-key : (names : List (List ℕ)) (functions : List Function) (variables : List (List ℕ)) (keys : List Symbol) (sorts : List (List ℕ)) (key : Symbol) → AreKeysLinked names functions variables keys → IsInRange (length functions) (length variables) key → Lacks keys key → LacksLeaf (table_of names functions variables keys sorts) (leaf_of_key names functions variables key)
LacksLeaf-key names functions variables keys sorts key h r lacks k e =
    elim (leaf_cases names functions variables keys k (leaf_of_key names functions variables key) e) [
      | inl a ↦ true≢false (sym (first_kind k _ a) ∙ key_kind names functions variables key h.named r)
      | inr a ↦ lacks a.0 (a.3 ∙ ap Some (same_key names functions variables keys h a.1 key (h.in_range a.0 a.1 a.3) r (ap (kind_of 0) (sym a.4)) (ap name_of (sym a.4))))
    ]

-- where no name is a variable's, no leaf is that of a variable
pub lacks_variables : (t : Table) (names : List (List ℕ)) (functions : List Function) (variables : List (List ℕ)) (keys : List Symbol) (sorts : List (List ℕ)) → table_of names functions variables keys sorts ≡ t → AreKeysLinked names functions variables keys → length variables ≡ 0 → (leaf : ℕ) (name : List ℕ) (sort : Sort) → IsLeaf t leaf (variable name sort) → ⊥
lacks_variables t names functions variables keys sorts e linked none leaf name sort h =
    elim (leaf_cases names functions variables keys leaf (variable name sort) (subst (λ (t' : Table). slice_get t'.leaves leaf ≡ Some (variable name sort)) (sym e) h)) [
      | inl first ↦ (let kind = first_kind leaf (variable name sort) first in cc)
      | inr found ↦ go found.1 (linked.in_range found.0 found.1 found.3) found.4
    ]
  where
    go : (key : Symbol) → IsInRange (length functions) (length variables) key → variable name sort ≡ leaf_of_key names functions variables key → ⊥
    go (Symbol.Function n) range e =
        let at = function_at-shape names functions n linked.named range in
        cc
    go (Symbol.Variable n s) range e = absurd (omega arith)
    go (Symbol.Numeral n) range e = cc
