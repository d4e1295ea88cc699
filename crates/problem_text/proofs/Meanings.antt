-- What a symbol means is well sorted, and so is what a meaning applied to terms gives.
use Rattle.std.proofs.Common.{◌≡◌, ℕ, List, [], ◌∷◌, ◌++◌, map, zip, Bool, true, false, Option, Some, None, IfSome, find, option_map, option_and_then, bytes_eq, if◌then◌else◌, refl, subst}
use Rattle.std.specs.List.{AllByRecursion, list_all}
use Rattle.term_model.specs.declared.symbols.Sort.{Sort}
use Rattle.term_model.specs.declared.symbols.Op.{Op}
use Rattle.term_model.specs.Terms.{Var, Fun, operation, call, let_in}
use Rattle.term_model.specs.Sorts.{IsOf, AreOf, AreBound, sorts_eq, operation_sort, call_sort}
use Rattle.term_model.proofs.Tests.{sorts_eq_decides}
use Rattle.term_model.proofs.Lists.{all_joined}
use Rattle.problem_text.specs.Words.{operator_named}
use Rattle.rule_model.specs.Replacement.{replaced, free_variables}
use Rattle.problem_text.specs.TypedTerms.{Typed}
use Rattle.problem_text.specs.Scripts.{Script}
use Rattle.problem_text.specs.Names.{Bound, Place, itself, innermost, is_bound, replacement, Meaning, value, macro, function, operator, meaning_of_bound, meaning_of_named, meaning_of, trees, sorts_of, expansion, meaning_applied, let_bindings_of, place_inside, let_term}
use Rattle.problem_text.specs.Soundness.{AreBoundSorted, IsSound}
use Rattle.problem_text.proofs.Outcomes.{if_found, if_some-or, if_some-map, if_some-and_then}
use Rattle.rule_model.specs.Substitution.{HaveTheirSorts}
use Rattle.rule_model.proofs.Replacing.{replaced-sort}

-- a meaning that is a term, or has a body, is well sorted
abbrev pub IsFit : Meaning → Type 0
IsFit (value t) = IsOf t.tree t.sort
IsFit (macro m) = IsOf m.body m.target
IsFit (function f) = Unit {0}
IsFit (operator op) = Unit {0}

pub replacement-fits : (scope : List Bound) → AreBoundSorted scope → HaveTheirSorts (replacement scope)
replacement-fits [] h = tt
replacement-fits (b ∷ scope) h = (h.0, replacement-fits scope h.1)

pub named-fits : (p : Place) (t : Typed) → AreBoundSorted p.scope → IsOf t.tree t.sort → IfSome (meaning_of_named p t) IsFit
named-fits p t h e = go (list_all (is_bound p.scope) (free_variables t.tree)) p.settings.replaces_lets
  where
    go : (b c : Bool) → IfSome (if b then Some (value (if c then record { tree = replaced (replacement p.scope) t.tree; sort = t.sort } else t)) else None) IsFit
    go true true = replaced-sort t.tree (replacement p.scope) t.sort (replacement-fits p.scope h) e
    go true false = e
    go false c = tt

functions-fit : (o : Option Fun) → IfSome (option_map function o) IsFit
functions-fit None = tt
functions-fit (Some f) = tt

operators-fit : (o : Option Op) → IfSome (option_map operator o) IsFit
operators-fit None = tt
operators-fit (Some op) = tt

pub meaning-fits : (p : Place) (s : Script) (name : List ℕ) → AreBoundSorted p.scope → IsSound s → IfSome (meaning_of p s name) IsFit
unfolding meaning_of
meaning-fits p s name h sound =
    let named = find (λ n. bytes_eq n.name name) s.named in
    let macros = find (λ m. bytes_eq m.name name) s.macros in
    let functions = find (λ f. bytes_eq f.name name) s.functions in
    if_some-or IsFit (option_map meaning_of_bound (innermost p.scope name)) _
    (if_some-map (λ b. IsOf b.stands_for b.variable.sort) IsFit meaning_of_bound (innermost p.scope name)
    (if_found (λ b. IsOf b.stands_for b.variable.sort) (λ b. bytes_eq b.variable.name name) p.scope h) (λ b e. e))
    (if_some-or IsFit (option_and_then (λ n. meaning_of_named p n.meant) named) _
    (if_some-and_then (λ n. IsOf n.meant.tree n.meant.sort) IsFit (λ n. meaning_of_named p n.meant) named
    (if_found (λ n. IsOf n.meant.tree n.meant.sort) (λ n. bytes_eq n.name name) s.named sound.named) (λ n e. named-fits p n.meant h e))
    (if_some-or IsFit (option_map macro macros) _
    (if_some-map (λ m. IsOf m.body m.target) IsFit macro macros
    (if_found (λ m. IsOf m.body m.target) (λ m. bytes_eq m.name name) s.macros sound.macros) (λ m e. e))
    (if_some-or IsFit (option_map function functions) (option_map operator (operator_named name))
    (functions-fit functions) (operators-fit (operator_named name)))))

-- each of the terms has its sort
abbrev pub AreTyped : List Typed → Type 0
AreTyped ts = AllByRecursion (λ t. IsOf t.tree t.sort) ts

pub arguments-fit : (ts : List Typed) → AreTyped ts → AreOf (trees ts) (sorts_of ts)
arguments-fit [] h = tt
arguments-fit (t ∷ ts) h = (h.0, arguments-fit ts h.1)

pub parameters-fit : (xs : List Var) (ts : List Typed) → map (λ x. x.sort) xs ≡ sorts_of ts → AreTyped ts → HaveTheirSorts (zip xs (map (λ t. t.tree) ts))
parameters-fit [] ts e h = tt
parameters-fit (x ∷ xs) [] e h = tt
parameters-fit (x ∷ xs) (t ∷ ts) e h = (subst (IsOf t.tree) (first e) h.0, parameters-fit xs ts (rest e) h.1)
  where
    first : x.sort ∷ map (λ x. x.sort) xs ≡ t.sort ∷ sorts_of ts → t.sort ≡ x.sort
    first e = cc

    rest : x.sort ∷ map (λ x. x.sort) xs ≡ t.sort ∷ sorts_of ts → map (λ x. x.sort) xs ≡ sorts_of ts
    rest e = cc

abbrev IsTyped : Typed → Type 0
IsTyped t = IsOf t.tree t.sort

pub applied-fits : (m : Meaning) (ts : List Typed) → IsFit m → AreTyped ts → IfSome (meaning_applied m ts) (λ t. IsOf t.tree t.sort)
unfolding meaning_applied
applied-fits (value t) [] fit h = fit
applied-fits (value t) (a ∷ ts) fit h = tt
applied-fits (macro m) ts fit h = go (sorts_eq (map (λ x. x.sort) m.parameters) (sorts_of ts)) refl
  where
    go : (b : Bool) → sorts_eq (map (λ x. x.sort) m.parameters) (sorts_of ts) ≡ b → IfSome (if b then Some (record { tree = expansion m ts; sort = m.target }) else None) IsTyped
    go true e =
        replaced-sort m.body (zip m.parameters (map (λ t. t.tree) ts)) m.target
        (parameters-fit m.parameters ts ((sorts_eq_decides (map (λ x. x.sort) m.parameters) (sorts_of ts)).0 e) h) fit
    go false e = tt
applied-fits (function f) ts fit h = go (call_sort f (sorts_of ts)) refl
  where
    go : (o : Option Sort) → call_sort f (sorts_of ts) ≡ o → IfSome (option_map (λ s. record { tree = call f (trees ts); sort = s }) o) IsTyped
    go None e = tt
    go (Some s) e = record { sorts = sorts_of ts; arguments = arguments-fit ts h; is = e }
applied-fits (operator op) ts fit h = go (operation_sort op (trees ts) (sorts_of ts)) refl
  where
    go : (o : Option Sort) → operation_sort op (trees ts) (sorts_of ts) ≡ o
        → IfSome (option_map (λ s. record { tree = operation op (trees ts); sort = s }) o) IsTyped
    go None e = tt
    go (Some s) e = record { sorts = sorts_of ts; arguments = arguments-fit ts h; is = e }

pub themselves-fit : (bs : List Bound) → AreBoundSorted (map (λ b. itself b.variable) bs)
themselves-fit [] = tt
themselves-fit (b ∷ bs) = (refl, themselves-fit bs)

pub inside-fits : (p : Place) (bs : List Bound) → AreBoundSorted p.scope → AreBoundSorted bs → AreBoundSorted (place_inside bs p).scope
inside-fits p bs h k = go p.settings.replaces_lets
  where
    go : (b : Bool) → AreBoundSorted ((if b then bs else map (λ b. itself b.variable) bs) ++ p.scope)
    go true = all_joined (λ b. IsOf b.stands_for b.variable.sort) bs p.scope k h
    go false = all_joined (λ b. IsOf b.stands_for b.variable.sort) (map (λ b. itself b.variable) bs) p.scope (themselves-fit bs) h

pub bindings-fit : (bs : List Bound) → AreBoundSorted bs → AreBound (let_bindings_of bs)
bindings-fit [] h = tt
bindings-fit (b ∷ bs) h = (h.0, bindings-fit bs h.1)

pub let-fits : (p : Place) (bs : List Bound) (t : Typed) → AreBoundSorted bs → IsOf t.tree t.sort → IsOf (let_term p bs t).tree (let_term p bs t).sort
let-fits p bs t h e = go p.settings.replaces_lets
  where
    go : (b : Bool) → IsTyped (if b then t else record { tree = let_in (let_bindings_of bs) t.tree; sort = t.sort })
    go true = e
    go false = (bindings-fit bs h, e)
