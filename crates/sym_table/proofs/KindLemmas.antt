-- Kinds and names of leaves, by their keys.
use Rattle.std.proofs.Common.{◌≡◌, ℕ, ◌<◌, ◌≤◌, ◌+◌, ◌-◌, ◌^◌, true, cond, List, map, take, length, slice_get, get_or, Some, IsSomeAnd, IsTrue, refl, sym, ◌∙◌, ap, arith, zero-add, subst}
use Rattle.std.specs.List.{count_by}
use Rattle.std.proofs.lemmas.List.Sums.{sum_by-append, count_by-le-length}
use Rattle.std.proofs.lemmas.Option.{slice_get-get_or, same_Some}
use Rattle.std.proofs.Math.Seq.{take-append-add}
use Rattle.std.proofs.lemmas.Bool.{true≢false}
use Rattle.sym_table.specs.declared.kind.Kind.{Kind}
use Rattle.sym_table.specs.declared.cells.Symbol.{Symbol}
use Rattle.sym_table.specs.declared.cells.Function.{Function}
use Rattle.sym_table.specs.Leaf.{Leaf, nil, let_head, operator, function, variable, numeral, is_function, kind_of, name_of, first_leaves}
use Rattle.sym_table.specs.Table.{Table, LeafMeets, IsFunctionLeaf, IsFun, functions_before}
use Rattle.sym_table.specs.Cells.{leaf_of_key, leaves_of, is_function_key, IsInRange, AreKeysLinked}
use Rattle.sym_table.proofs.Lists.{count_by-take-map}
use Rattle.sym_table.proofs.Tables.{first_leaf, key_leaf}
use Rattle.sym_table.proofs.Laws.{table_of, is_first, first_kind, function_at-shape}
use Rattle.sym_table.proofs.Adds.{length-seen}
use Rattle.sym_table.proofs.Functions.{there, meets}

-- the number of functions before matters to the kind of a function alone
kind_of-first : (n : ℕ) (l : Leaf) → is_first (kind_of 0 l) ≡ true → kind_of 0 l ≡ kind_of n l
kind_of-first n nil e = refl
kind_of-first n let_head e = refl
kind_of-first n (operator op) e = refl
kind_of-first n (function name arguments target) e = absurd (true≢false (sym e))
kind_of-first n (variable name sort) e = refl
kind_of-first n (numeral m) e = refl

first_is_no_function : (kind : Kind) → is_first kind ≡ true → IsFun kind → ⊥
first_is_no_function (Kind.Fun n) e f = true≢false (sym e)
first_is_no_function Kind.Nil e f = f
first_is_no_function Kind.Let e f = f
first_is_no_function (Kind.Op op) e f = f
first_is_no_function (Kind.Var sort) e f = f
first_is_no_function (Kind.Num n) e f = f

module _ (t : Table) (names : List (List ℕ)) (functions : List Function) (variables : List (List ℕ)) (keys : List Symbol) (sorts : List (List ℕ)) (leaf : ℕ) (v : table_of names functions variables keys sorts ≡ t) (h : AreKeysLinked names functions variables keys) where
  -- one of the first leaves
  pub first_meets : (P : Leaf → Type 0) → IsSomeAnd (slice_get first_leaves leaf) P → LeafMeets t leaf P
  first_meets P m =
      let x = there _ m in
      subst (λ (u : Table). LeafMeets u leaf P) v (meets P _ x.0 (first_leaf names functions variables keys leaf x.0 x.1) x.2)

  pub first_kind_meets : (kind : Kind) → IsSomeAnd (slice_get first_leaves leaf) (λ l. kind ≡ kind_of 0 l) → LeafMeets t leaf (λ l. kind ≡ kind_of (functions_before t leaf) l)
  first_kind_meets kind m =
      let x = there _ m in
      first_meets (λ l. kind ≡ kind_of (functions_before t leaf) l) (meets (λ l. kind ≡ kind_of (functions_before t leaf) l) _ x.0 x.1 (x.2 ∙ kind_of-first (functions_before t leaf) x.0 (first_kind leaf x.0 x.1)))

  pub first_no_function : (kind : Kind) → IsSomeAnd (slice_get first_leaves leaf) (λ l. kind ≡ kind_of 0 l) → IsFun kind → IsFunctionLeaf t leaf
  first_no_function kind m f =
      let x = there _ m in
      absurd (first_is_no_function kind (ap is_first x.2 ∙ first_kind leaf x.0 x.1) f)

  module _ (seen : List Symbol) (d key : Symbol) (same : seen ≡ keys) (low : 21 ≤ leaf) (high : leaf < length t.leaves) (read : get_or seen (leaf - 21) d ≡ key) where
    -- the key of a leaf that is none of the first
    pub below : leaf - 21 < length keys
    below = omega (arith, length-seen t names functions variables keys sorts v)

    pub at_key : slice_get keys (leaf - 21) ≡ Some key
    at_key = slice_get-get_or keys (leaf - 21) d below ∙ ap Some (ap (λ s. get_or s (leaf - 21) d) (sym same) ∙ read)

    pub in_range : IsInRange (length functions) (length variables) key
    in_range = h.in_range (leaf - 21) key at_key

    pub back : 21 + (leaf - 21) ≡ leaf
    back = omega arith

    pub key_meets : (P : Leaf → Type 0) → P (leaf_of_key names functions variables key) → LeafMeets t leaf P
    key_meets P p =
        subst (λ (u : Table). LeafMeets u leaf P) v
        (meets P _ _ (ap (slice_get (leaves_of names functions variables keys)) (sym back) ∙ key_leaf names functions variables keys (leaf - 21) key at_key) p)

-- keys in range stand for functions exactly where they are keys of functions
is_function-leaf_of : (names : List (List ℕ)) (functions : List Function) (variables : List (List ℕ)) (key : Symbol) → length names ≡ length functions → IsInRange (length functions) (length variables) key → is_function (leaf_of_key names functions variables key) ≡ is_function_key key
is_function-leaf_of names functions variables (Symbol.Function n) same r = ap is_function (function_at-shape names functions n same r).4
is_function-leaf_of names functions variables (Symbol.Variable n sort) same r = refl
is_function-leaf_of names functions variables (Symbol.Numeral n) same r = refl

-- how many functions are before the leaf of a key
functions_before-key : (names : List (List ℕ)) (functions : List Function) (variables : List (List ℕ)) (keys : List Symbol) (sorts : List (List ℕ)) (k : ℕ) → AreKeysLinked names functions variables keys → functions_before (table_of names functions variables keys sorts) (21 + k) ≡ count_by is_function_key (take k keys)
functions_before-key names functions variables keys sorts k h =
    ap (count_by is_function) (take-append-add first_leaves (map (leaf_of_key names functions variables) keys) k)
    ∙ sum_by-append (λ l. cond (is_function l) 1 0) first_leaves (take k (map (leaf_of_key names functions variables) keys))
    ∙ zero-add (count_by is_function (take k (map (leaf_of_key names functions variables) keys)))
    ∙ count_by-take-map is_function is_function_key (leaf_of_key names functions variables) keys k (λ j key e. is_function-leaf_of names functions variables key h.named (h.in_range j key e))

module _ (t : Table) (names : List (List ℕ)) (functions : List Function) (variables : List (List ℕ)) (keys : List Symbol) (sorts : List (List ℕ)) (leaf : ℕ) (v : table_of names functions variables keys sorts ≡ t) (h : AreKeysLinked names functions variables keys) (seen : List Symbol) (d key : Symbol) (same : seen ≡ keys) (low : 21 ≤ leaf) (high : leaf < length t.leaves) (read : get_or seen (leaf - 21) d ≡ key) where
  -- a function's number is how many were declared before
  pub before_key : (n : ℕ) → key ≡ Symbol.Function n → functions_before t leaf ≡ n
  before_key n e =
      ap (λ (u : Table). functions_before u leaf) (sym v)
      ∙ ap (functions_before (table_of names functions variables keys sorts)) (sym (back t names functions variables keys sorts leaf v h seen d key same low high read))
      ∙ functions_before-key names functions variables keys sorts (leaf - 21) h
      ∙ h.numbered (leaf - 21) n (at_key t names functions variables keys sorts leaf v h seen d key same low high read ∙ ap Some e)

  pub function_kind : (n : ℕ) → key ≡ Symbol.Function n → LeafMeets t leaf (λ l. Kind.Fun n ≡ kind_of (functions_before t leaf) l)
  function_kind n e =
      key_meets t names functions variables keys sorts leaf v h seen d key same low high read (λ l. Kind.Fun n ≡ kind_of (functions_before t leaf) l)
      (ap Kind.Fun (sym (before_key n e)) ∙ sym (ap (kind_of (functions_before t leaf)) (ap (leaf_of_key names functions variables) e ∙ (function_at-shape names functions n h.named (subst (IsInRange (length functions) (length variables)) e (in_range t names functions variables keys sorts leaf v h seen d key same low high read))).4)))

  pub function_is : (n : ℕ) → key ≡ Symbol.Function n → IsFunctionLeaf t leaf
  function_is n e =
      key_meets t names functions variables keys sorts leaf v h seen d key same low high read (λ l. IsTrue (is_function l))
      (is_function-leaf_of names functions variables key h.named (in_range t names functions variables keys sorts leaf v h seen d key same low high read) ∙ ap is_function_key e)

  -- so it is less than there are keys
  pub number_fits : (n : ℕ) → key ≡ Symbol.Function n → length keys + 21 ≤ 2 ^ 30 → n < 2 ^ 30
  number_fits n e few =
      let within : n < length functions = subst (IsInRange (length functions) (length variables)) e (in_range t names functions variables keys sorts leaf v h seen d key same low high read) in
      omega (arith, count_by-le-length is_function_key keys, h.counted)

-- the name of a function's leaf is the one at its number
pub function_name : (names : List (List ℕ)) (functions : List Function) (variables : List (List ℕ)) (n : ℕ) (name : List ℕ) → length names ≡ length functions → n < length functions → slice_get names n ≡ Some name → name ≡ name_of (leaf_of_key names functions variables (Symbol.Function n))
function_name names functions variables n name same r e =
    let x = function_at-shape names functions n same r in
    same_Some _ _ (sym e ∙ x.2) ∙ sym (ap name_of x.4)
