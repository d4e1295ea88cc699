-- Private. The parts of a command that defines a function (SMT-LIB 2.6, "Commands"), as the code holds them.
use Rattle.std.specs.Prelude.{◌≡◌, ◌≤◌, ℕ, true, if◌then◌else◌, List, [], ◌∷◌, ◌++◌, map, length, All, Result, Ok, Err, ⊤}
use Rattle.sexpr.specs.declared.causes.Cause.TheVariants.{SortMismatch}
use Rattle.sexpr.specs.declared.causes.Refusal.{Refusal}
use Rattle.sexpr.specs.Items.{Item, Items, place_of}
use Rattle.sym_table.specs.Table.{Table, IsLeaf}
use Rattle.term_model.specs.declared.symbols.Sort.{Sort}
use Rattle.term_model.specs.Terms.{Var, variable, sort_eq}
use Rattle.term_pool.specs.StandsFor.{variable_leaf}
use Rattle.term_names.specs.InScope.{IsScope}
use Rattle.problem_text.specs.Limits.{limited}
use Rattle.problem_text.specs.Names.{Place, itself}
use Rattle.smtlib_reader.specs.Parameters.{IsParameterThere, parameters_said}
use Rattle.term_reader.specs.Reading.{IsReaderIdle}
use Rattle.problem_text.specs.TypedTerms.{Typed}
use Rattle.problem_text.specs.Outcomes.{Outcome, done, refuse, and_then}
use Rattle.problem_text.specs.Scripts.{Script, with_macro}
use Rattle.smtlib_reader.specs.Sessions.{top}
use Rattle.problem_text.specs.Sorts.{result_then, sort_from, parameters_from}
use Rattle.term_names.specs.Standing.{AreLeavesOf, IsScript, IsReservedName}
use Rattle.problem_text.specs.Terms.{read_term}
use Rattle.term_expansion.specs.Values.{IsValue}
use Rattle.smtlib_reader.specs.declared.defining.Listed.{Listed}
use Rattle.term_names.specs.declared.faults.ReadFault.{ReadFault}
use Rattle.text_items.specs.ItemsAt.{ItemsView}
use Rattle.smtlib_reader.specs.declared.parameters.Parameter.{Parameter}
use Rattle.term_reader.specs.ReadingViews.{ReadingView}
use Rattle.term_expansion.specs.declared.values.Value.{Value}
use Rattle.term_expansion.specs.SymbolsAndTerms.{SymbolsAndTerms}

-- what stands before the body: the parameters, and the sort of the uses
pub record Signature : Type 0 where
  pub parameters : List Var
  pub target : Sort

abbrev pub signature_from : List (List ℕ) → Items → Item → Result Signature Refusal
signature_from sorts parameters target =
    result_then (parameters_from sorts [] parameters) (λ xs. result_then (sort_from sorts target) (λ t. Ok (record { parameters = xs; target = t })))

-- What was read of the nodes before this one is the signature that is expected, unless memory was refused. Each parameter
-- has a node of its own.
abbrev pub IsSignatureRead : ItemsView → ℕ → List Parameter → Result Signature Refusal → Result Sort ReadFault → Type 0
IsSignatureRead items end ps expected (Ok target) =
    (expected ≡ Ok (record { parameters = parameters_said items ps; target = target })) × All (IsParameterThere items) ps × (length ps ≤ end)
IsSignatureRead items end ps expected (Err (ReadFault.Text r)) = expected ≡ Err r
IsSignatureRead items end ps expected (Err ReadFault.PoolFull) = ⊥
IsSignatureRead items end ps expected (Err ReadFault.Memory) = Unit {0}

-- where the body stands: only the parameters are in scope, and lets are replaced
abbrev pub within : List Var → Place
within xs = record { scope = map itself xs; settings = limited true }

abbrev pub body_read : List Var → Item → Script → Outcome Script Typed
body_read xs body s = read_term body (within xs) s

-- what comes of the command once its signature is read
abbrev pub macro_defined : List ℕ → List Var → Sort → Item → Script → Outcome Script ⊤
macro_defined name xs target body s =
    and_then (body_read xs body s) (λ t last.
    if sort_eq t.sort target then done tt (with_macro (record { name = name; parameters = xs; target = target; body = t.tree }) last)
    else refuse SortMismatch (place_of body) last)

-- The leaf is that of the variable, and its term was put on the values.
pub record AddsParameter (w : SymbolsAndTerms) (old new : List Value) (k : ℕ) (x : Var) : Type 0 where
  pub leaf : IsLeaf w.symbols k (variable_leaf x)
  pub value : Value
  pub pushed : new ≡ old ++ value ∷ []
  pub is : IsValue w value (record { tree = variable x; sort = x.sort })

-- The leaves and the sorts are those of the parameters.
pub record AreListed (s : Table) (l : Listed) (xs : List Var) : Type 0 where
  pub leaves : AreLeavesOf s l.leaves.items xs
  pub sorts : l.sorts.items ≡ map (λ x. x.sort) xs

-- The reader is ready for a body with these parameters.
pub record IsReadyForBody (w : SymbolsAndTerms) (r : ReadingView) (xs : List Var) (sc : Script) : Type 0 where
  pub script : IsScript w r.names.known sc
  pub scope : IsScope w r.names.scope (map itself xs)
  pub no_values : r.values ≡ []
  pub no_leaves : r.leaves.items ≡ []
  pub no_frames : r.frames ≡ []

-- A body was read: a value without a let; and the reader is outside the definition again.
pub record IsBodyRead (w : SymbolsAndTerms) (r : ReadingView) (c : Value) (t : Typed) (sc : Script) : Type 0 where
  pub is : IsValue w c t
  pub plain : c.plain ≡ true
  pub idle : IsReaderIdle w r sc (top r.replaces_lets)

-- The reader holds nothing of a term, and the name is taken for a macro of its own.
pub record IsDefining (w : SymbolsAndTerms) (r : ReadingView) (name : List ℕ) (sc : Script) : Type 0 where
  pub idle : IsReaderIdle w r sc (top r.replaces_lets)
  pub reserved : IsReservedName w.symbols sc name

-- The macro is defined, and the reader is outside the definition again.
pub record IsDefined (w : SymbolsAndTerms) (r : ReadingView) (answer : Unit {0}) (done : ⊤) (sc : Script) : Type 0 where
  pub idle : IsReaderIdle w r sc (top r.replaces_lets)
