-- Public. What a symbol means where it stands in a term (SMT-LIB 2.6, on binders and on signatures).
use Rattle.std.specs.Prelude.{ℕ, Bool, false, if◌then◌else◌, List, [], ◌∷◌, ◌++◌, map}
use Rattle.std.specs.Prelude.{zip, bytes_eq, find, Option, Some, None, is_some, option_map, option_and_then}
use Rattle.std.specs.Option.{option_or, option_map_or}
use Rattle.std.specs.List.{list_all}
use Rattle.sexpr.specs.declared.causes.Cause.{Cause}
use Rattle.sexpr.specs.declared.causes.Cause.TheVariants.{SortMismatch, LeftOut}
use Rattle.term_model.specs.declared.symbols.Sort.{Sort}
use Rattle.term_model.specs.declared.symbols.Op.{Op}
use Rattle.term_model.specs.Terms.{Var, sort_eq, Fun, Term, variable, operation, call, let_in, Terms, Bindings, no_bindings, binding, terms_of}
use Rattle.term_model.specs.Sorts.{sorts_eq, application_sort, operation_sort, call_sort}
use Rattle.problem_text.specs.Words.{operator_named}
use Rattle.rule_model.specs.Replacement.{Replacement, replaced, free_variables}
use Rattle.problem_text.specs.Limits.{Settings}
use Rattle.problem_text.specs.TypedTerms.{Typed}
use Rattle.problem_text.specs.Scripts.{Macro, Script}

-- a variable in scope and the term that it stands for: itself, or, where its let is replaced, the let's term
pub record Bound : Type 0 where
  pub variable : Var
  pub stands_for : Term

-- Where a term stands: the variables of lets and parameters, the innermost first, and then those of open anchors; and
-- how it is read.
pub record Place : Type 0 where
  pub scope : List Bound
  pub settings : Settings

abbrev pub itself : Var → Bound
itself x = record { variable = x; stands_for = variable x }

-- the innermost binding of a name
abbrev pub innermost : List Bound → List ℕ → Option Bound
innermost scope name = find (λ b. bytes_eq b.variable.name name) scope

-- The innermost binding of the variable's name has its sort too.
abbrev pub is_bound : List Bound → Var → Bool
is_bound scope x = option_map_or (λ b. sort_eq b.variable.sort x.sort) (innermost scope x.name) false

abbrev pub replacement : List Bound → Replacement
replacement scope = map (λ b. (b.variable, b.stands_for)) scope

-- a term, which a variable or a name stands for; a macro; a declared function; an operator
pub data Meaning : Type 0 where
  value : Typed → Meaning
  macro : Macro → Meaning
  function : Fun → Meaning
  operator : Op → Meaning

abbrev pub meaning_of_bound : Bound → Meaning
meaning_of_bound b = value (record { tree = b.stands_for; sort = b.variable.sort })

-- A named term is known only where its free variables are bound. There they stand for what they are bound to.
abbrev pub meaning_of_named : Place → Typed → Option Meaning
meaning_of_named p t =
    if list_all (is_bound p.scope) (free_variables t.tree)
    then Some (value (if p.settings.replaces_lets then record { tree = replaced (replacement p.scope) t.tree; sort = t.sort } else t))
    else None

-- The look-up of a name. Functions, macros and named terms never share one.
unfoldable pub meaning_of : Place → Script → List ℕ → Option Meaning
meaning_of p s name =
    option_or (option_map meaning_of_bound (innermost p.scope name))
    (option_or (option_and_then (λ n. meaning_of_named p n.meant) (find (λ n. bytes_eq n.name name) s.named))
    (option_or (option_map macro (find (λ m. bytes_eq m.name name) s.macros))
    (option_or (option_map function (find (λ f. bytes_eq f.name name) s.functions))
    (option_map operator (operator_named name)))))

abbrev pub trees : List Typed → Terms
trees ts = terms_of (map (λ t. t.tree) ts)

abbrev pub sorts_of : List Typed → List Sort
sorts_of ts = map (λ t. t.sort) ts

-- a macro with terms for its parameters
abbrev pub expansion : Macro → List Typed → Term
expansion m ts = replaced (zip m.parameters (map (λ t. t.tree) ts)) m.body

-- the term that is a meaning applied to these, or none where the sorts do not allow it
unfoldable pub meaning_applied : Meaning → List Typed → Option Typed
meaning_applied (value t) [] = Some t
meaning_applied (value t) (a ∷ ts) = None
meaning_applied (macro m) ts =
    if sorts_eq (map (λ x. x.sort) m.parameters) (sorts_of ts) then Some (record { tree = expansion m ts; sort = m.target }) else None
meaning_applied (function f) ts = option_map (λ s. record { tree = call f (trees ts); sort = s }) (call_sort f (sorts_of ts))
meaning_applied (operator op) ts = option_map (λ s. record { tree = operation op (trees ts); sort = s }) (operation_sort op (trees ts) (sorts_of ts))

-- Why a meaning is not applied to these. Where an operator's sorts are right, its divisor is left out, which is no constant
-- or zero: a parameter of a macro is none where the body is read, nor is the variable of a let that is kept.
abbrev pub refusal_of : Meaning → List Typed → Cause
refusal_of (value t) ts = SortMismatch
refusal_of (macro m) ts = SortMismatch
refusal_of (function f) ts = SortMismatch
refusal_of (operator op) ts = if is_some (application_sort op (sorts_of ts)) then LeftOut else SortMismatch

-- the bindings of a let, as they stand in its term
abbrev pub let_bindings_of : List Bound → Bindings
let_bindings_of [] = no_bindings
let_bindings_of (b ∷ bs) = binding b.variable b.stands_for (let_bindings_of bs)

-- where the body of a let with these bindings stands
abbrev pub place_inside : List Bound → Place → Place
place_inside bs p = record p { scope = (if p.settings.replaces_lets then bs else map (λ b. itself b.variable) bs) ++ p.scope }

-- a let with this body
abbrev pub let_term : Place → List Bound → Typed → Typed
let_term p bs t = if p.settings.replaces_lets then t else record { tree = let_in (let_bindings_of bs) t.tree; sort = t.sort }
