-- Which leaves stand for functions.
use Rattle.std.proofs.Common.{◌≡◌, inl, inr, ℕ, ◌<◌, ◌≤◌, ◌+◌, ◌-◌, ◌^◌, true, false, List, length, slice_get, get_or, Option, Some, None, IsSomeAnd, IsTrue, refl, sym, ◌∙◌, ap, arith, subst}
use Rattle.std.proofs.lemmas.Option.{slice_get_within, same_Some, get_or_from_slice_get}
use Rattle.std.proofs.lemmas.Bool.{true≢false}
use Rattle.sym_table.specs.declared.cells.Symbol.{Symbol}
use Rattle.sym_table.specs.declared.cells.Function.{Function}
use Rattle.sym_table.specs.Names.{Lacks}
use Rattle.sym_table.specs.Leaf.{Leaf, nil, let_head, operator, function, variable, numeral, is_function, kind_of, name_of, leaf_arguments, target_of}
use Rattle.sym_table.specs.Table.{Table, LeafMeets, IsFunctionLeaf, IsFunctionNamed, IsFunctionName}
use Rattle.sym_table.specs.Cells.{leaf_of_key, leaves_of, AreKeysLinked}
use Rattle.sym_table.proofs.Tables.{function_at-known, key_leaf, leaf_cases}
use Rattle.sym_table.proofs.Laws.{table_of, is_first, first_kind, function_at-shape}

-- what `IsSomeAnd` says
pub there : {T : Type 0} {P : T → Type 0} (o : Option T) → IsSomeAnd o P → (x : T) × (o ≡ Some x) × P x
there None h = absurd h
there (Some x) h = (x, refl, h)

pub meets : {T : Type 0} (P : T → Type 0) (o : Option T) (x : T) → o ≡ Some x → P x → IsSomeAnd o P
meets P o x e p = subst (λ q. IsSomeAnd q P) (sym e) p

-- a function is none of the first leaves
function_kind : (l : Leaf) → is_function l ≡ true → is_first (kind_of 0 l) ≡ false
function_kind (function name arguments target) e = refl
function_kind nil e = absurd (true≢false (sym e))
function_kind let_head e = absurd (true≢false (sym e))
function_kind (operator op) e = absurd (true≢false (sym e))
function_kind (variable name sort) e = refl
function_kind (numeral n) e = refl

-- a function's leaf, by its number
pub function_leaf : (names : List (List ℕ)) (functions : List Function) (variables : List (List ℕ)) (keys : List Symbol) (n : ℕ) (name : List ℕ) (f : Function) → AreKeysLinked names functions variables keys → slice_get names n ≡ Some name → slice_get functions n ≡ Some f → slice_get (leaves_of names functions variables keys) (21 + f.place) ≡ Some (function name f.arguments.items f.target)
function_leaf names functions variables keys n name f h e g =
    key_leaf names functions variables keys f.place (Symbol.Function n) (h.placed n f g) ∙ ap Some (function_at-known names functions n name f e g)

pub IsFunctionNamed-number : (t : Table) (names : List (List ℕ)) (functions : List Function) (variables : List (List ℕ)) (keys : List Symbol) (sorts : List (List ℕ)) (n : ℕ) (name : List ℕ) (f : Function) → table_of names functions variables keys sorts ≡ t → AreKeysLinked names functions variables keys → slice_get names n ≡ Some name → slice_get functions n ≡ Some f → IsFunctionNamed t (21 + f.place) name
IsFunctionNamed-number t names functions variables keys sorts n name f v h e g =
    subst (λ (u : Table). IsFunctionNamed u (21 + f.place) name) v
    (meets (λ l. IsTrue (is_function l) × (name_of l ≡ name)) _ _ (function_leaf names functions variables keys n name f h e g) (refl, refl))

-- the number of a name is that of a function
pub number_in_range : (names : List (List ℕ)) (functions : List Function) (n : ℕ) (name : List ℕ) → length names ≡ length functions → slice_get names n ≡ Some name → n < length functions
number_in_range names functions n name same e = omega (arith, slice_get_within names n name e)

-- a name that is there is a function's
pub IsFunctionName-number : (t : Table) (names : List (List ℕ)) (functions : List Function) (variables : List (List ℕ)) (keys : List Symbol) (sorts : List (List ℕ)) (n : ℕ) (name : List ℕ) → table_of names functions variables keys sorts ≡ t → AreKeysLinked names functions variables keys → slice_get names n ≡ Some name → IsFunctionName t name
IsFunctionName-number t names functions variables keys sorts n name v h e =
    let x = function_at-shape names functions n h.named (number_in_range names functions n name h.named e) in
    (21 + x.1.place, IsFunctionNamed-number t names functions variables keys sorts n name x.1 v h e x.3)

-- leaf k has the key of a function
abbrev pub HasKey : Table → List (List ℕ) → List Function → List Symbol → ℕ → Type 0
HasKey t names functions keys k = (j : ℕ) × (n : ℕ) × (name : List ℕ) × (f : Function) × (k ≡ 21 + j) × (slice_get keys j ≡ Some (Symbol.Function n)) × (slice_get names n ≡ Some name) × (slice_get functions n ≡ Some f) × (slice_get t.leaves k ≡ Some (function name f.arguments.items f.target))

-- a leaf that stands for a function has one
pub function_key : (t : Table) (names : List (List ℕ)) (functions : List Function) (variables : List (List ℕ)) (keys : List Symbol) (sorts : List (List ℕ)) (k : ℕ) → table_of names functions variables keys sorts ≡ t → AreKeysLinked names functions variables keys → IsFunctionLeaf t k → HasKey t names functions keys k
function_key t names functions variables keys sorts k v h m = go (there _ m)
  where
    by_key : (l : Leaf) → slice_get t.leaves k ≡ Some l → is_function l ≡ true → (j : ℕ) (key : Symbol) → k ≡ 21 + j → slice_get keys j ≡ Some key → l ≡ leaf_of_key names functions variables key → HasKey t names functions keys k
    by_key l e is j (Symbol.Function n) p q same =
        let x = function_at-shape names functions n h.named (h.in_range j (Symbol.Function n) q) in
        (j, n, x.0, x.1, p, q, x.2, x.3, e ∙ ap Some (same ∙ x.4))
    by_key l e is j (Symbol.Variable n sort) p q same = absurd (true≢false (sym is ∙ ap is_function same))
    by_key l e is j (Symbol.Numeral n) p q same = absurd (true≢false (sym is ∙ ap is_function same))

    go : (l : Leaf) × (slice_get t.leaves k ≡ Some l) × IsTrue (is_function l) → HasKey t names functions keys k
    go x = elim (leaf_cases names functions variables keys k x.0 (ap (λ (u : Table). slice_get u.leaves k) v ∙ x.1)) [
      | inl a ↦ absurd (true≢false (sym (first_kind k x.0 a) ∙ function_kind x.0 x.2))
      | inr a ↦ by_key x.0 x.1 x.2 a.0 a.1 a.2 a.3 a.4
    ]

-- a name that is not there is no function's
pub lacks-IsFunctionName : (t : Table) (names : List (List ℕ)) (functions : List Function) (variables : List (List ℕ)) (keys : List Symbol) (sorts : List (List ℕ)) (name : List ℕ) → table_of names functions variables keys sorts ≡ t → AreKeysLinked names functions variables keys → Lacks names name → IsFunctionName t name → ⊥
lacks-IsFunctionName t names functions variables keys sorts name v h lacks (k, m) =
    let x = there _ m in
    let key = function_key t names functions variables keys sorts k v h (meets (λ l. IsTrue (is_function l)) _ x.0 x.1 x.2.0) in
    let same : x.0 ≡ function key.2 key.3.arguments.items key.3.target = same_Some _ _ (sym x.1 ∙ key.8) in
    lacks key.1 (key.6 ∙ ap Some (sym (ap name_of same) ∙ x.2.1))

-- a function's place fits
pub place_fits-number : (names : List (List ℕ)) (functions : List Function) (variables : List (List ℕ)) (keys : List Symbol) (n : ℕ) (f : Function) → AreKeysLinked names functions variables keys → length keys + 21 ≤ 2 ^ 30 → slice_get functions n ≡ Some f → f.place + 21 ≤ 2 ^ 30
place_fits-number names functions variables keys n f h few e = omega (arith, slice_get_within keys f.place (Symbol.Function n) (h.placed n f e))

-- the item at a place that is some steps behind another
pub at_place : {X : Type 0} (xs seen : List X) (leaf j : ℕ) (x d : X) → seen ≡ xs → leaf ≡ 21 + j → slice_get xs j ≡ Some x → get_or seen (leaf - 21) d ≡ x
at_place xs seen leaf j x d e p q =
    let here : leaf - 21 ≡ j = omega arith in
    ap (λ s. get_or s (leaf - 21) d) e ∙ ap (λ i. get_or xs i d) here ∙ get_or_from_slice_get xs j x d q

-- the number in the key of a function's leaf, where it was read
pub read_number : (t : Table) (names : List (List ℕ)) (functions : List Function) (variables : List (List ℕ)) (keys : List Symbol) (sorts : List (List ℕ)) (seen : List Symbol) (leaf : ℕ) (d : Symbol) (number : ℕ) → table_of names functions variables keys sorts ≡ t → AreKeysLinked names functions variables keys → IsFunctionLeaf t leaf → seen ≡ keys → get_or seen (leaf - 21) d ≡ Symbol.Function number → (name : List ℕ) × (f : Function) × (slice_get functions number ≡ Some f) × (slice_get t.leaves leaf ≡ Some (function name f.arguments.items f.target))
read_number t names functions variables keys sorts seen leaf d number v h m e r =
    let key = function_key t names functions variables keys sorts leaf v h m in
    let both : Symbol.Function number ≡ Symbol.Function key.1 = sym r ∙ at_place keys seen leaf key.0 (Symbol.Function key.1) d e key.4 key.5 in
    let same : number ≡ key.1 = cc in
    (key.2, key.3, ap (slice_get functions) same ∙ key.7, key.8)

pub number_below : (t : Table) (names : List (List ℕ)) (functions : List Function) (variables : List (List ℕ)) (keys : List Symbol) (sorts : List (List ℕ)) (seen : List Symbol) (leaf : ℕ) (d : Symbol) (number : ℕ) → table_of names functions variables keys sorts ≡ t → AreKeysLinked names functions variables keys → IsFunctionLeaf t leaf → seen ≡ keys → get_or seen (leaf - 21) d ≡ Symbol.Function number → number < length functions
number_below t names functions variables keys sorts seen leaf d number v h m e r =
    slice_get_within functions number _ (read_number t names functions variables keys sorts seen leaf d number v h m e r).2

pub function_meets : (t : Table) (names : List (List ℕ)) (functions : List Function) (variables : List (List ℕ)) (keys : List Symbol) (sorts : List (List ℕ)) (seen : List Symbol) (leaf : ℕ) (d : Symbol) (number : ℕ) (g : Function) → table_of names functions variables keys sorts ≡ t → AreKeysLinked names functions variables keys → IsFunctionLeaf t leaf → seen ≡ keys → get_or seen (leaf - 21) d ≡ Symbol.Function number → g ≡ get_or functions number g → LeafMeets t leaf (λ l. (leaf_arguments l ≡ g.arguments.items) × (target_of l ≡ Some g.target))
function_meets t names functions variables keys sorts seen leaf d number g v h m e r read =
    let x = read_number t names functions variables keys sorts seen leaf d number v h m e r in
    let same : x.1 ≡ g = sym (get_or_from_slice_get functions number x.1 g x.2) ∙ sym read in
    meets (λ l. (leaf_arguments l ≡ g.arguments.items) × (target_of l ≡ Some g.target)) _ _ x.3 (ap (λ (f : Function). f.arguments.items) same, ap (λ (f : Function). Some f.target) same)
