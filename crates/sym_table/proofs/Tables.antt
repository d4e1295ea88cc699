-- Cited by crates above. What a table says, by the fields that keep it.
use Rattle.std.proofs.Common.{◌≡◌, ◌⊎◌, inl, inr, ℕ, ◌+◌, List, [], ◌∷◌, ◌++◌, map, length, slice_get, slice_index_or, Option, Some, None, refl, sym, ◌∙◌, ap, arith, append_assoc}
use Rattle.std.specs.Option.{option_map, option_map_or}
use Rattle.std.proofs.lemmas.List.{map-append}
use Rattle.std.proofs.lemmas.Option.{slice_get-map, get_or_from_slice_get, none-some, same_Some}
use Rattle.std.proofs.Math.ListN.{get_or-append}
use Rattle.sym_table.specs.declared.cells.Symbol.{Symbol}
use Rattle.sym_table.specs.declared.cells.Function.{Function}
use Rattle.sym_table.specs.Names.{PlacesItem}
use Rattle.sym_table.specs.Leaf.{Leaf, nil, function, variable, first_leaves}
use Rattle.sym_table.specs.Cells.{function_at, leaf_of_key, leaves_of, IsInRange, AreKeysLinked}
use Rattle.sym_table.specs.Table.{Table, IsLeaf, Keeps}
use Rattle.sym_table.proofs.Lists.{slice_get-right, slice_get-cases, slice_get-kept, map-agree}
use Rattle.term_model.proofs.Lists.{slice_get-left, slice_get-last}

-- the function of a number, where its name and its sorts are known
pub function_at-known : (names : List (List ℕ)) (functions : List Function) (n : ℕ) (name : List ℕ) (f : Function) → slice_get names n ≡ Some name → slice_get functions n ≡ Some f → function_at names functions n ≡ function name f.arguments.items f.target
function_at-known names functions n name f e g =
    ap (λ o. option_map_or (λ (x : Function). function (slice_index_or names n []) x.arguments.items x.target) o nil) g
    ∙ ap (λ x. function x f.arguments.items f.target) (get_or_from_slice_get names n name [] e)

-- where a leaf of the first ones stands, and where that of a key
pub first_leaf : (names : List (List ℕ)) (functions : List Function) (variables : List (List ℕ)) (keys : List Symbol) (k : ℕ) (l : Leaf) → slice_get first_leaves k ≡ Some l → slice_get (leaves_of names functions variables keys) k ≡ Some l
first_leaf names functions variables keys k l e = slice_get-left first_leaves (map (leaf_of_key names functions variables) keys) k l e

pub key_leaf : (names : List (List ℕ)) (functions : List Function) (variables : List (List ℕ)) (keys : List Symbol) (k : ℕ) (key : Symbol) → slice_get keys k ≡ Some key → slice_get (leaves_of names functions variables keys) (21 + k) ≡ Some (leaf_of_key names functions variables key)
key_leaf names functions variables keys k key e =
    slice_get-right first_leaves (map (leaf_of_key names functions variables) keys) k
    ∙ slice_get-map (leaf_of_key names functions variables) keys k
    ∙ ap (option_map (leaf_of_key names functions variables)) e

-- an item of an image is the image of an item
image_item : {X Y : Type 0} (v : X → Y) (xs : List X) (k : ℕ) (y : Y) → slice_get (map v xs) k ≡ Some y → (x : X) × (slice_get xs k ≡ Some x) × (y ≡ v x)
image_item {X} v xs k y g = go (slice_get xs k) refl
  where
    go : (o : Option X) → slice_get xs k ≡ o → (x : X) × (slice_get xs k ≡ Some x) × (y ≡ v x)
    go None h = absurd (none-some y (sym (ap (option_map v) h) ∙ sym (slice_get-map v xs k) ∙ g))
    go (Some x) h = (x, h, sym (same_Some _ _ (sym (ap (option_map v) h) ∙ sym (slice_get-map v xs k) ∙ g)))

-- a leaf is one of the first, or that of a key
pub leaf_cases : (names : List (List ℕ)) (functions : List Function) (variables : List (List ℕ)) (keys : List Symbol) (k : ℕ) (l : Leaf) → slice_get (leaves_of names functions variables keys) k ≡ Some l → (slice_get first_leaves k ≡ Some l) ⊎ ((j : ℕ) × (key : Symbol) × (k ≡ 21 + j) × (slice_get keys j ≡ Some key) × (l ≡ leaf_of_key names functions variables key))
leaf_cases names functions variables keys k l e =
    elim (slice_get-cases first_leaves (map (leaf_of_key names functions variables) keys) k l e) [
      | inl h ↦ inl h
      | inr h ↦ (let x = image_item (leaf_of_key names functions variables) keys h.0 l h.2 in inr (h.0, x.0, h.1, x.1, x.2))
    ]

-- keys in range stand for the same leaves where lists grow
same_leaf : (names more_names : List (List ℕ)) (functions more : List Function) (variables more_variables : List (List ℕ)) (key : Symbol) → length names ≡ length functions → IsInRange (length functions) (length variables) key → leaf_of_key (names ++ more_names) (functions ++ more) (variables ++ more_variables) key ≡ leaf_of_key names functions variables key
same_leaf names more_names functions more variables more_variables (Symbol.Function n) e h =
    ap (λ o. option_map_or (λ (x : Function). function (slice_index_or (names ++ more_names) n []) x.arguments.items x.target) o nil) (slice_get-kept functions more n h)
    ∙ ap (λ x. option_map_or (λ (f : Function). function x f.arguments.items f.target) (slice_get functions n) nil) (get_or-append names more_names [] n (omega arith))
same_leaf names more_names functions more variables more_variables (Symbol.Variable n sort) e h = ap (λ x. variable x sort) (get_or-append variables more_variables [] n h)
same_leaf names more_names functions more variables more_variables (Symbol.Numeral n) e h = refl

-- one more key is one more leaf
pub leaves_of-push : (names : List (List ℕ)) (functions : List Function) (variables : List (List ℕ)) (keys : List Symbol) (key : Symbol) → leaves_of names functions variables (keys ++ key ∷ []) ≡ leaves_of names functions variables keys ++ leaf_of_key names functions variables key ∷ []
leaves_of-push names functions variables keys key =
    ap (λ ls. first_leaves ++ ls) (map-append (leaf_of_key names functions variables) keys (key ∷ []))
    ∙ sym (append_assoc first_leaves (map (leaf_of_key names functions variables) keys) (leaf_of_key names functions variables key ∷ []))

-- where a name of a variable was placed, the leaves stay
pub leaves_of-more_variables : (names : List (List ℕ)) (functions : List Function) (variables more : List (List ℕ)) (keys : List Symbol) (k : ℕ) (name : List ℕ) → AreKeysLinked names functions variables keys → PlacesItem variables more k name → leaves_of names functions more keys ≡ leaves_of names functions variables keys
leaves_of-more_variables names functions variables more keys k name h (inl p) = ap (λ vs. leaves_of names functions vs keys) p.1
leaves_of-more_variables names functions variables more keys k name h (inr p) =
    ap (λ vs. leaves_of names functions vs keys) p.2
    ∙ ap (λ ls. first_leaves ++ ls) (map-agree _ _ keys (λ j key e. same_variable key (h.in_range j key e)))
  where
    same_variable : (key : Symbol) → IsInRange (length functions) (length variables) key → leaf_of_key names functions (variables ++ name ∷ []) key ≡ leaf_of_key names functions variables key
    same_variable (Symbol.Function n) r = refl
    same_variable (Symbol.Variable n sort) r = ap (λ x. variable x sort) (get_or-append variables (name ∷ []) [] n r)
    same_variable (Symbol.Numeral n) r = refl

-- a new function with its name and its key is one more leaf
pub leaves_of-push_function : (names : List (List ℕ)) (functions : List Function) (variables : List (List ℕ)) (keys : List Symbol) (name : List ℕ) (f : Function) → AreKeysLinked names functions variables keys → leaves_of (names ++ name ∷ []) (functions ++ f ∷ []) variables (keys ++ Symbol.Function (length functions) ∷ []) ≡ leaves_of names functions variables keys ++ function name f.arguments.items f.target ∷ []
leaves_of-push_function names functions variables keys name f h =
    leaves_of-push (names ++ name ∷ []) (functions ++ f ∷ []) variables keys (Symbol.Function (length functions))
    ∙ ap (λ ls. ls ++ function_at (names ++ name ∷ []) (functions ++ f ∷ []) (length functions) ∷ []) grown
    ∙ ap (λ l. leaves_of names functions variables keys ++ l ∷ []) (function_at-known _ _ (length functions) name f at_name (slice_get-last functions f))
  where
    at_name : slice_get (names ++ name ∷ []) (length functions) ≡ Some name
    at_name = ap (slice_get (names ++ name ∷ [])) (sym h.named) ∙ slice_get-last names name

    same : (key : Symbol) → IsInRange (length functions) (length variables) key → leaf_of_key (names ++ name ∷ []) (functions ++ f ∷ []) variables key ≡ leaf_of_key names functions variables key
    same (Symbol.Function n) r = same_leaf names (name ∷ []) functions (f ∷ []) variables [] (Symbol.Function n) h.named r
    same (Symbol.Variable n sort) r = refl
    same (Symbol.Numeral n) r = refl

    grown : leaves_of (names ++ name ∷ []) (functions ++ f ∷ []) variables keys ≡ leaves_of names functions variables keys
    grown = ap (λ ls. first_leaves ++ ls) (map-agree _ _ keys (λ k key e. same key (h.in_range k key e)))

-- one leaf stands for one symbol
pub one_symbol : (s : Table) (k : ℕ) (l m : Leaf) → IsLeaf s k l → IsLeaf s k m → l ≡ m
one_symbol s k l m h g = let e : Some l ≡ Some m = sym h ∙ g in cc

-- a table keeps what it has
pub keeps_table : (s : Table) → Keeps s s
keeps_table s = record { leaves = λ k l h. h; sorts = λ n name h. h }
