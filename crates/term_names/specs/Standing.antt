-- Public. When the tables of the code stand for a script. Names are tied by what they are looked up to be, not by lists.
use Rattle.std.specs.Prelude.{◌≡◌, ◌≤◌, ℕ, List, map, find, bytes_eq, true, false, Option, Some, None}
use Rattle.std.specs.List.{AllZip}
use Rattle.sym_table.specs.Table.{Table, IsLeaf, IsFunctionName, Keeps}
use Rattle.term_model.specs.Terms.{Var, Fun}
use Rattle.term_pool.specs.StandsFor.{variable_leaf, function_leaf}
use Rattle.term_pool.specs.Views.{KeepsTerms}
use Rattle.term_expansion.specs.Free.{AreFreeLeaves}
use Rattle.problem_text.specs.Limits.{most_height}
use Rattle.term_names.specs.Known.{KnownView, known_entry, macro_of, named_of}
use Rattle.rule_model.specs.Replacement.{free_variables}
use Rattle.problem_text.specs.Scripts.{Macro, Named, Script}
use Rattle.term_expansion.specs.Values.{IsValue}
use Rattle.problem_text.specs.Words.{is_among, is_built_in}
use Rattle.term_names.specs.declared.entries.Macro as macro
use Rattle.term_names.specs.declared.entries.Named as named
use Rattle.term_names.specs.declared.names.KnownEntry.{KnownEntry}
use Rattle.term_expansion.specs.SymbolsAndTerms.{SymbolsAndTerms}

-- the named term, the macro and the declared function of a name
abbrev pub named_in_script : Script → List ℕ → Option Named
named_in_script sc name = find (λ n. bytes_eq n.name name) sc.named

abbrev pub macro_in : Script → List ℕ → Option Macro
macro_in sc name = find (λ m. bytes_eq m.name name) sc.macros

abbrev pub function_in : Script → List ℕ → Option Fun
function_in sc name = find (λ f. bytes_eq f.name name) sc.functions

-- the leaves are those of the variables, in order
abbrev pub AreLeavesOf : Table → List ℕ → List Var → Type 0
AreLeavesOf s ks xs = AllZip (λ k x. IsLeaf s k (variable_leaf x)) ks xs

pub record IsMacroOf (w : SymbolsAndTerms) (m : macro.Macro) (d : Macro) : Type 0 where
  pub parameters : AreLeavesOf w.symbols m.parameters.items d.parameters
  pub sorts : m.sorts.items ≡ map (λ x. x.sort) d.parameters
  pub target : m.target ≡ d.target
  pub body : IsValue w m.body (record { tree = d.body; sort = d.target })
  pub plain : m.body.plain ≡ true

pub record IsNamedOf (w : SymbolsAndTerms) (n : named.Named) (d : Named) : Type 0 where
  pub value : IsValue w n.value d.meant
  pub low : n.value.height ≤ most_height
  pub free : AreFreeLeaves w.symbols n.free.items (free_variables d.meant.tree)

-- the function of a name, by its leaf
pub record IsFunctionAt (s : Table) (sc : Script) (name : List ℕ) (leaf : ℕ) : Type 0 where
  pub meant : Fun
  pub here : IsLeaf s leaf (function_leaf meant)
  pub same_name : meant.name ≡ name
  pub found : function_in sc name ≡ Some meant
  pub taken : is_among sc.taken name ≡ true

-- no function has the name, by the table and by the script
pub record IsNoFunction (s : Table) (sc : Script) (name : List ℕ) : Type 0 where
  pub table : IsFunctionName s name → ⊥
  pub script : function_in sc name ≡ None

-- the name is that of neither a macro nor a named term
pub record HasNoEntry (sc : Script) (name : List ℕ) : Type 0 where
  pub no_named : named_in_script sc name ≡ None
  pub no_macro : macro_in sc name ≡ None

pub record IsFreeName (s : Table) (sc : Script) (name : List ℕ) : Type 0 where
  pub no_function : IsNoFunction s sc name
  pub free : is_among sc.taken name ≡ false

pub record IsDeclaredName (s : Table) (sc : Script) (name : List ℕ) (leaf : ℕ) : Type 0 where
  pub no_entry : HasNoEntry sc name
  pub function : IsFunctionAt s sc name leaf

pub record IsReservedName (s : Table) (sc : Script) (name : List ℕ) : Type 0 where
  pub no_entry : HasNoEntry sc name
  pub no_function : IsNoFunction s sc name
  pub taken : is_among sc.taken name ≡ true

pub record IsMacroName (w : SymbolsAndTerms) (sc : Script) (name : List ℕ) (m : Option macro.Macro) : Type 0 where
  pub held : macro.Macro
  pub meant : Macro
  pub there : m ≡ Some held
  pub found : macro_in sc name ≡ Some meant
  pub is : IsMacroOf w held meant
  pub no_named : named_in_script sc name ≡ None
  pub no_function : IsNoFunction w.symbols sc name
  pub taken : is_among sc.taken name ≡ true

pub record IsNamedName (w : SymbolsAndTerms) (sc : Script) (name : List ℕ) (n : Option named.Named) : Type 0 where
  pub held : named.Named
  pub meant : Named
  pub there : n ≡ Some held
  pub found : named_in_script sc name ≡ Some meant
  pub is : IsNamedOf w held meant
  pub no_macro : macro_in sc name ≡ None
  pub no_function : IsNoFunction w.symbols sc name
  pub taken : is_among sc.taken name ≡ true

-- what a name is that of, by the entries and by the script
abbrev pub IsNameMeant : SymbolsAndTerms → KnownView → Script → List ℕ → Option KnownEntry → Type 0
IsNameMeant w k sc name None = HasNoEntry sc name × IsFreeName w.symbols sc name
IsNameMeant w k sc name (Some (KnownEntry.Function leaf)) = IsDeclaredName w.symbols sc name leaf
IsNameMeant w k sc name (Some KnownEntry.Reserved) = IsReservedName w.symbols sc name
IsNameMeant w k sc name (Some (KnownEntry.Macro which)) = IsMacroName w sc name (macro_of k which)
IsNameMeant w k sc name (Some (KnownEntry.Named which)) = IsNamedName w sc name (named_of k which)

-- The table, the pool and the entries stand for what the script declares and names. No function, macro or named term has
-- a built-in word for its name.
pub record IsScript (w : SymbolsAndTerms) (k : KnownView) (sc : Script) : Type 0 where
  pub sorts : w.symbols.sorts ≡ sc.sorts
  pub built_in : (name : List ℕ) → is_built_in name ≡ true → is_among sc.taken name ≡ false
  pub names : (name : List ℕ) → IsNameMeant w k sc name (known_entry k name)

-- Only numerals and variables are added to the table.
pub record AddsNoSymbols (old new : Table) : Type 0 where
  pub keeps : Keeps old new
  pub sorts : new.sorts ≡ old.sorts
  pub functions : (k : ℕ) (f : Fun) → IsLeaf new k (function_leaf f) → IsLeaf old k (function_leaf f)

-- What stood for something still does, and no symbol was declared.
pub record GrowByTerms (old new : SymbolsAndTerms) : Type 0 where
  pub symbols : AddsNoSymbols old.symbols new.symbols
  pub terms : KeepsTerms old.terms new.terms
