-- Public. Sorts (SMT-LIB 2.6, section of that title): Bool, Int and the declared ones.
use Rattle.std.specs.Prelude.{ℕ, ◌||◌, if◌then◌else◌, List, [], ◌∷◌, codes, bytes_eq, position, Option, Some, None, Result, Ok, Err}
use Rattle.sexpr.specs.declared.causes.Cause.TheVariants.{BadCommand, LeftOut, UnknownName, Repeated}
use Rattle.sexpr.specs.declared.causes.Refusal.{Refusal}
use Rattle.sexpr.specs.Items.{Item, list, Items, no_items, item, place_of, symbol_name}
use Rattle.term_model.specs.declared.symbols.Sort.{Sort}
use Rattle.term_model.specs.Terms.{Var}
use Rattle.problem_text.specs.Words.{is_among, is_built_in, left_out_sorts}
use Rattle.text_items.specs.ItemShapes.{Name, name_at}
use Rattle.problem_text.specs.Commands.{refused}

-- one result and then another
abbrev pub result_then : {A B : Type 0} → Result A Refusal → (A → Result B Refusal) → Result B Refusal
result_then (Ok a) next = next a
result_then (Err refusal) next = Err refusal

-- the declared sort of a name, by its number
abbrev pub declared_sort : ℕ → Option ℕ → Result Sort Refusal
declared_sort place (Some n) = Ok (Sort.Declared n)
declared_sort place None = refused UnknownName place

-- the sort of this name, where these are the names of the declared sorts in their order
abbrev pub sort_named : List (List ℕ) → Name → Result Sort Refusal
sort_named sorts n =
    if bytes_eq n.name (codes "Bool") then Ok Sort.Bool
    else if bytes_eq n.name (codes "Int") then Ok Sort.Int
    else if is_among left_out_sorts n.name then refused LeftOut n.place
    else declared_sort n.place (position (bytes_eq n.name) sorts)

-- a symbol, where there is one, and nothing else
abbrev pub sort_spelled : List (List ℕ) → ℕ → Option (List ℕ) → Result Sort Refusal
sort_spelled sorts place (Some name) = sort_named sorts (record { place = place; name = name })
sort_spelled sorts place None = refused BadCommand place

-- The sort that an item stands for. Sorts with parameters are left out.
unfoldable pub sort_from : List (List ℕ) → Item → Result Sort Refusal
sort_from sorts (list place items) = refused LeftOut place
sort_from sorts other = sort_spelled sorts (place_of other) (symbol_name other)

abbrev pub sorts_from : List (List ℕ) → Items → Result (List Sort) Refusal
sorts_from sorts no_items = Ok []
sorts_from sorts (item i rest) = result_then (sort_from sorts i) (λ s. result_then (sorts_from sorts rest) (λ ss. Ok (s ∷ ss)))

-- A parameter and its sort, where those before it have these names. No two have one name.
abbrev pub parameter_from : List (List ℕ) → List (List ℕ) → Item → Result Var Refusal
parameter_from sorts earlier (list place (item x (item sort rest))) =
    if is_built_in (name_at x).name || is_among earlier (name_at x).name then refused Repeated (place_of x)
    else result_then (sort_from sorts sort) (λ s. Ok (record { name = (name_at x).name; sort = s }))
parameter_from sorts earlier other = refused BadCommand (place_of other)

-- the parameters of a defined function
abbrev pub parameters_from : List (List ℕ) → List (List ℕ) → Items → Result (List Var) Refusal
parameters_from sorts earlier no_items = Ok []
parameters_from sorts earlier (item i rest) =
    result_then (parameter_from sorts earlier i) (λ x. result_then (parameters_from sorts (x.name ∷ earlier) rest) (λ xs. Ok (x ∷ xs)))
