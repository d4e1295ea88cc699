-- Private. The parameters of a defined function as nodes spell them.
use Rattle.text_items.specs.Stepping.{name_in, IsSymbolAt}
use Rattle.std.specs.Prelude.{◌≡◌, ◌≤◌, ℕ, List, ◌∷◌, map, length, All, bytes_eq, Result, Ok, Err}
use Rattle.std.specs.Borrow.{Bor}
use Rattle.std.specs.List.{list_any}
use Rattle.sexpr.specs.declared.causes.Refusal.{Refusal}
use Rattle.term_model.specs.Terms.{Var}
use Rattle.term_names.specs.declared.faults.ReadFault.{ReadFault}
use Rattle.smtlib_reader.specs.declared.parameters.Parameter.{Parameter}
use Rattle.problem_text.specs.Words.{is_among}
use Rattle.text_items.specs.ItemsAt.{ItemsView}

-- the variable that a parameter is
abbrev pub parameter_said : ItemsView → Parameter → Var
parameter_said items p = record { name = (name_in items p.name).name; sort = p.sort }

abbrev pub parameters_said : ItemsView → List Parameter → List Var
parameters_said items ps = map (parameter_said items) ps

-- the name of a parameter is there
abbrev pub IsParameterThere : ItemsView → Parameter → Type 0
IsParameterThere items p = IsSymbolAt items p.name

-- The keys of the set are these names.
abbrev pub AreKeysOf : List (Bor (List ℕ)) → List (List ℕ) → Type 0
AreKeysOf keys names = (name : List ℕ) → list_any (λ key. bytes_eq name key.now) keys ≡ is_among names name

-- The reading of a parameter, where those before it have these names, comes to what is expected, unless memory was
-- refused. Where one was read the keys have its name too.
abbrev pub IsParameterRead : ItemsView → List (List ℕ) → List (Bor (List ℕ)) → Result Parameter ReadFault → Result Var Refusal → Type 0
IsParameterRead items names keys (Ok p) expected =
    (expected ≡ Ok (parameter_said items p)) × IsParameterThere items p × AreKeysOf keys ((parameter_said items p).name ∷ names)
IsParameterRead items names keys (Err (ReadFault.Text r)) expected = expected ≡ Err r
IsParameterRead items names keys (Err ReadFault.PoolFull) expected = ⊥
IsParameterRead items names keys (Err ReadFault.Memory) expected = Unit {0}

-- The parameters of nodes before this one were read. Each has a node of its own.
abbrev pub AreParametersRead : ItemsView → ℕ → Result Unit ReadFault → List Parameter → Result (List Var) Refusal → Type 0
AreParametersRead items end (Ok done) ps expected = (expected ≡ Ok (parameters_said items ps)) × All (IsParameterThere items) ps × (length ps ≤ end)
AreParametersRead items end (Err (ReadFault.Text r)) ps expected = expected ≡ Err r
AreParametersRead items end (Err ReadFault.PoolFull) ps expected = ⊥
AreParametersRead items end (Err ReadFault.Memory) ps expected = Unit {0}
