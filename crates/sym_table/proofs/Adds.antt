-- Cited by crates above. What a table says after a leaf is looked up or added.
use Rattle.std.proofs.Common.{◌≡◌, inl, inr, ℕ, ◌<◌, ◌≤◌, ◌+◌, ◌^◌, List, [], ◌∷◌, ◌++◌, map, length, slice_get, Some, refl, sym, ◌∙◌, ap, arith, subst, Result, Ok, Err, OnErr, Option, None, is_some, IfNone, false}
use Rattle.std.proofs.lemmas.List.{length-append, length-map}
use Rattle.std.proofs.lemmas.Option.{slice_get_within, get_or_from_slice_get}
use Rattle.std.proofs.lemmas.Bool.{true≢false}
use Rattle.term_model.specs.declared.symbols.Sort.{Sort}
use Rattle.term_model.proofs.Lists.{slice_get-left, slice_get-last}
use Rattle.sym_table.specs.declared.cells.Symbol.{Symbol}
use Rattle.sym_table.specs.declared.cells.Function.{Function}
use Rattle.sym_table.specs.Names.{PlacesItem}
use Rattle.sym_table.specs.Leaf.{Leaf, variable, first_leaves}
use Rattle.sym_table.specs.Table.{Table, IsLeaf, FindsOrAdds, Keeps, with_leaf, with_sort_name}
use Rattle.sym_table.specs.Cells.{leaf_of_key, leaves_of, IsInRange, AreKeysLinked}
use Rattle.sym_table.proofs.Links.{AreLinked-PlacesItem, AreLinked-more_variables, length-PlacesItem}
use Rattle.sym_table.proofs.Tables.{key_leaf, leaves_of-push, leaves_of-more_variables}
use Rattle.sym_table.proofs.Laws.{table_of, LacksLeaf-key}

-- a table keeps what it says where nothing changes, and where a leaf or a sort is added
pub Keeps-same : (old new : Table) → new ≡ old → Keeps old new
Keeps-same old new e = subst (Keeps old) (sym e) (record { leaves = λ k l h. h; sorts = λ n name h. h })

pub Keeps-with_leaf : (old new : Table) (l : Leaf) → new ≡ with_leaf old l → Keeps old new
Keeps-with_leaf old new l e = subst (Keeps old) (sym e) (record { leaves = λ k m h. slice_get-left old.leaves (l ∷ []) k m h; sorts = λ n name h. h })

pub Keeps-with_sort : (old new : Table) (name : List ℕ) → new ≡ with_sort_name old name → Keeps old new
Keeps-with_sort old new name e = subst (Keeps old) (sym e) (record { leaves = λ k l h. h; sorts = λ n x h. slice_get-left old.sorts (name ∷ []) n x h })

pub Keeps-FindsOrAdds : (old new : Table) (k : ℕ) (l : Leaf) → FindsOrAdds old new k l → Keeps old new
Keeps-FindsOrAdds old new k l (inl h) = Keeps-same old new h.1
Keeps-FindsOrAdds old new k l (inr h) = Keeps-with_leaf old new l h.2

-- the leaf that was found or added stands for what was asked
pub IsLeaf-FindsOrAdds : (old new : Table) (k : ℕ) (l : Leaf) → FindsOrAdds old new k l → IsLeaf new k l
IsLeaf-FindsOrAdds old new k l (inl h) = subst (λ t. IsLeaf t k l) (sym h.1) h.0
IsLeaf-FindsOrAdds old new k l (inr h) =
    ap (λ (t : Table). slice_get t.leaves k) h.2 ∙ ap (slice_get (old.leaves ++ l ∷ [])) h.1 ∙ slice_get-last old.leaves l

-- how many leaves there are
pub length-leaves_of : (names : List (List ℕ)) (functions : List Function) (variables : List (List ℕ)) (keys : List Symbol) → length (leaves_of names functions variables keys) ≡ 21 + length keys
length-leaves_of names functions variables keys =
    length-append first_leaves (map (leaf_of_key names functions variables) keys) ∙ ap (λ n. 21 + n) (length-map keys (leaf_of_key names functions variables))

-- where a key is placed, its leaf is found or added
pub FindsOrAdds-key : (names : List (List ℕ)) (functions : List Function) (variables : List (List ℕ)) (keys more : List Symbol) (sorts : List (List ℕ)) (k : ℕ) (key : Symbol) → AreKeysLinked names functions variables keys → IsInRange (length functions) (length variables) key → PlacesItem keys more k key → FindsOrAdds (table_of names functions variables keys sorts) (table_of names functions variables more sorts) (21 + k) (leaf_of_key names functions variables key)
FindsOrAdds-key names functions variables keys more sorts k key h r (inl p) =
    inl (key_leaf names functions variables keys k key p.0, ap (λ ks. table_of names functions variables ks sorts) p.1)
FindsOrAdds-key names functions variables keys more sorts k key h r (inr p) =
    inr (
      LacksLeaf-key names functions variables keys sorts key h r p.0,
      ap (λ n. 21 + n) p.1 ∙ sym (length-leaves_of names functions variables keys),
      ap (λ ks. table_of names functions variables ks sorts) p.2 ∙ ap (λ ls. record { leaves = ls; sorts = sorts }) (leaves_of-push names functions variables keys key),
    )

-- the same, by the table that a caller sees
pub FindsOrAdds-seen : (t : Table) (names : List (List ℕ)) (functions : List Function) (variables : List (List ℕ)) (keys more : List Symbol) (sorts : List (List ℕ)) (k : ℕ) (key : Symbol) → table_of names functions variables keys sorts ≡ t → AreKeysLinked names functions variables keys → IsInRange (length functions) (length variables) key → PlacesItem keys more k key → FindsOrAdds t (table_of names functions variables more sorts) (21 + k) (leaf_of_key names functions variables key)
FindsOrAdds-seen t names functions variables keys more sorts k key e h r p =
    subst (λ (u : Table). FindsOrAdds u (table_of names functions variables more sorts) (21 + k) (leaf_of_key names functions variables key)) e (FindsOrAdds-key names functions variables keys more sorts k key h r p)

pub length-seen : (t : Table) (names : List (List ℕ)) (functions : List Function) (variables : List (List ℕ)) (keys : List Symbol) (sorts : List (List ℕ)) → table_of names functions variables keys sorts ≡ t → length t.leaves ≡ 21 + length keys
length-seen t names functions variables keys sorts e =
    ap (λ (u : Table). length u.leaves) (sym e) ∙ length-leaves_of names functions variables keys

-- there was room for one more key
pub few-PlacesItem : (t : Table) (names : List (List ℕ)) (functions : List Function) (variables : List (List ℕ)) (keys more : List Symbol) (sorts : List (List ℕ)) (k : ℕ) (key : Symbol) → table_of names functions variables keys sorts ≡ t → length t.leaves < 2 ^ 30 → PlacesItem keys more k key → length more + 21 ≤ 2 ^ 30
few-PlacesItem t names functions variables keys more sorts k key e room p =
    omega (arith, length-seen t names functions variables keys sorts e, (length-PlacesItem keys more k key p).1)

-- a variable by its number
pub leaf_of-variable : (names : List (List ℕ)) (functions : List Function) (variables : List (List ℕ)) (n : ℕ) (name : List ℕ) (sort : Sort) → slice_get variables n ≡ Some name → leaf_of_key names functions variables (Symbol.Variable n sort) ≡ variable name sort
leaf_of-variable names functions variables n name sort e = ap (λ x. variable x sort) (get_or_from_slice_get variables n name [] e)

-- a name of a variable was placed, and then its key
pub FindsOrAdds-variable : (t : Table) (names : List (List ℕ)) (functions : List Function) (variables more_variables : List (List ℕ)) (keys more : List Symbol) (sorts : List (List ℕ)) (n k : ℕ) (name : List ℕ) (sort : Sort) → table_of names functions variables keys sorts ≡ t → AreKeysLinked names functions variables keys → PlacesItem variables more_variables n name → PlacesItem keys more k (Symbol.Variable n sort) → FindsOrAdds t (table_of names functions more_variables more sorts) (21 + k) (variable name sort)
FindsOrAdds-variable t names functions variables more_variables keys more sorts n k name sort e h p q =
    let at = (length-PlacesItem variables more_variables n name p).2 in
    let same : table_of names functions more_variables keys sorts ≡ t = ap (λ ls. record { leaves = ls; sorts = sorts }) (leaves_of-more_variables names functions variables more_variables keys n name h p) ∙ e in
    subst (FindsOrAdds t (table_of names functions more_variables more sorts) (21 + k)) (leaf_of-variable names functions more_variables n name sort at) (FindsOrAdds-seen t names functions more_variables keys more sorts k (Symbol.Variable n sort) same (AreLinked-more_variables names functions variables more_variables keys n name h p) (slice_get_within more_variables n name at) q)

pub AreLinked-variable : (names : List (List ℕ)) (functions : List Function) (variables more_variables : List (List ℕ)) (keys more : List Symbol) (n k : ℕ) (name : List ℕ) (sort : Sort) → AreKeysLinked names functions variables keys → PlacesItem variables more_variables n name → PlacesItem keys more k (Symbol.Variable n sort) → AreKeysLinked names functions more_variables more
AreLinked-variable names functions variables more_variables keys more n k name sort h p q =
    let at = (length-PlacesItem variables more_variables n name p).2 in
    AreLinked-PlacesItem names functions more_variables keys more k (Symbol.Variable n sort) (AreLinked-more_variables names functions variables more_variables keys n name h p) (slice_get_within more_variables n name at) refl q

-- the place of a key fits where there was room
pub place_fits : (keys more : List Symbol) (k : ℕ) (key : Symbol) → length keys + 21 ≤ 2 ^ 30 → PlacesItem keys more k key → k + 21 ≤ 2 ^ 30
place_fits keys more k key few (inl p) = omega (arith, slice_get_within keys k key p.0)
place_fits keys more k key few (inr p) = omega (arith, p.1)

-- a name of a variable alone changes nothing that is seen
pub table_of-more_variables : (names : List (List ℕ)) (functions : List Function) (variables more : List (List ℕ)) (keys same : List Symbol) (sorts : List (List ℕ)) (n : ℕ) (name : List ℕ) → AreKeysLinked names functions variables keys → PlacesItem variables more n name → same ≡ keys → table_of names functions more same sorts ≡ table_of names functions variables keys sorts
table_of-more_variables names functions variables more keys same sorts n name h p e =
    ap (λ ks. table_of names functions more ks sorts) e
    ∙ ap (λ ls. record { leaves = ls; sorts = sorts }) (leaves_of-more_variables names functions variables more keys n name h p)

-- a fact for the refusals that holds anyway
pub on_err : {T E P : Type 0} (r : Result T E) → P → OnErr r P
on_err (Ok x) p = tt
on_err (Err e) p = p

-- what a clause says of a missing value, where it is missing
pub if_none : {T P : Type 0} (o : Option T) → is_some o ≡ false → IfNone o P → P
if_none None e p = p
if_none (Some x) e p = absurd (true≢false e)
