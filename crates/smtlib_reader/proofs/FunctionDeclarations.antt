-- What the declaration of a function comes to, step by step.
use Rattle.std.proofs.Common.{◌≡◌, ℕ, Bool, true, false, List, length, IfErr, OnOk, refl, sym, ap, subst, ◌∙◌, if◌then◌else◌, Result, Ok, Err}
use Rattle.std.specs.Prelude.{⊤}
use Rattle.std.proofs.lemmas.Bool.{or_parts}
use Rattle.sexpr.specs.declared.causes.Cause.TheVariants.{Repeated}
use Rattle.sexpr.specs.declared.causes.Refusal.{Refusal}
use Rattle.sexpr.specs.Items.{Item, Items}
use Rattle.sym_table.specs.Leaf.{function}
use Rattle.sym_table.specs.Table.{Table, IsFunctionName, Keeps, with_leaf}
use Rattle.term_model.specs.declared.symbols.Sort.{Sort}
use Rattle.term_pool.specs.Views.{TermsView}
use Rattle.problem_text.specs.Commands.{declare_fun}
use Rattle.term_names.specs.Faults.{IsFaultOf}
use Rattle.term_names.specs.Entries.{EntriesView, Puts}
use Rattle.term_names.specs.Scope.{Scoped}
use Rattle.text_items.specs.ItemShapes.{Name}
use Rattle.problem_text.specs.Problems.{script_performed}
use Rattle.problem_text.specs.Outcomes.{Outcome, done, refuse, given, and_then}
use Rattle.problem_text.specs.Scripts.{Script, is_taken, with_name, with_function}
use Rattle.smtlib_reader.specs.Sessions.{IsSession, IsPerformed}
use Rattle.problem_text.specs.Sorts.{sort_from, sorts_from}
use Rattle.problem_text.specs.Words.{is_among, is_built_in}
use Rattle.term_names.specs.declared.faults.ReadFault.{ReadFault}
use Rattle.term_names.specs.declared.entries.Entry.{Entry}
use Rattle.smtlib_reader.specs.Sessions.{SessionView}
use Rattle.term_reader.proofs.Coming.{answers, refuses, no_memory}
use Rattle.smtlib_reader.proofs.DeclaredFunctions.{free_name, function_session}
use Rattle.term_expansion.specs.SymbolsAndTerms.{both}
use Rattle.term_reader.specs.Reading.{ComesTo, terms_read}

-- a name that is not taken is that of no function
pub may_be_declared : (s : Table) (v : TermsView) (d : SessionView) (sc : Script) (name : List ℕ) → IsSession (both s v) d sc → is_taken sc name ≡ false
    → (is_built_in name ≡ false) × (IsFunctionName s name → ⊥)
may_be_declared s v d sc name is untaken = (
  (or_parts (is_built_in name) (is_among sc.taken name) untaken).0,
  (free_name s v d.reader.names.known sc name is.idle.script untaken).1.no_function.table,
)

module _ (s : Table) (v : TermsView) (d : SessionView) (replaces : Bool) (x : Name) (arguments : Items) (target : Item) (sc : Script) (is : IsSession (both s v) d sc) where
  abbrev asked : Outcome Script ⊤
  asked = script_performed replaces (declare_fun x arguments target) sc

  -- by the target sort, and before that by the arguments' sorts
  abbrev by_target : List Sort → Result Sort Refusal → Outcome Script ⊤
  by_target ss o = and_then (given o sc) (λ t last. done tt (with_function (record { name = x.name; arguments = ss; target = t }) (with_name x.name last)))

  abbrev by_arguments : Result (List Sort) Refusal → Outcome Script ⊤
  by_arguments o =
      and_then (given o sc) (λ ss after.
      and_then (given (sort_from sc.sorts target) after) (λ t last.
      done tt (with_function (record { name = x.name; arguments = ss; target = t }) (with_name x.name last))))

  abbrev by_name : Bool → Outcome Script ⊤
  by_name taken = if taken then refuse Repeated x.place sc else by_arguments (sorts_from sc.sorts arguments)

  name_step : (taken : Bool) → is_taken sc x.name ≡ taken → asked ≡ by_name taken
  unfolding script_performed
  name_step taken e = ap by_name e

  arguments_step : (o : Result (List Sort) Refusal) → is_taken sc x.name ≡ false → sorts_from s.sorts arguments ≡ o → asked ≡ by_arguments o
  arguments_step o untaken e =
      name_step false untaken ∙ ap (λ (sorts : List (List ℕ)). by_arguments (sorts_from sorts arguments)) (sym is.idle.script.sorts) ∙ ap by_arguments e

  target_step : (ss : List Sort) (o : Result Sort Refusal) → is_taken sc x.name ≡ false → sorts_from s.sorts arguments ≡ Ok ss → sort_from s.sorts target ≡ o → asked ≡ by_target ss o
  target_step ss o untaken f e =
      arguments_step (Ok ss) untaken f ∙ ap (λ (sorts : List (List ℕ)). by_target ss (sort_from sorts target)) (sym is.idle.script.sorts) ∙ ap (by_target ss) e

  module _ {M : Unit {0} → ⊤ → Script → Type 0} where
    pub function_repeated : (r : Refusal) → is_taken sc x.name ≡ true → r ≡ record { cause = Repeated; at = x.place } → ComesTo terms_read v (both s v) M asked (Err (ReadFault.Text r))
    function_repeated r taken same = refuses refl (ap (λ o. o.result) (name_step true taken) ∙ ap Err (sym same))

    pub arguments_refused : (fault : ReadFault) → is_taken sc x.name ≡ false → IsFaultOf (sorts_from s.sorts arguments) fault → ComesTo terms_read v (both s v) M asked (Err fault)
    arguments_refused (ReadFault.Text r) untaken f = refuses refl (ap (λ o. o.result) (arguments_step (Err r) untaken f))
    arguments_refused ReadFault.PoolFull untaken f = absurd f
    arguments_refused ReadFault.Memory untaken f = no_memory refl

    pub target_refused : (ss : List Sort) (r : Refusal) → is_taken sc x.name ≡ false → sorts_from s.sorts arguments ≡ Ok ss → sort_from s.sorts target ≡ Err r
        → ComesTo terms_read v (both s v) M asked (Err (ReadFault.Text r))
    target_refused ss r untaken f g = refuses refl (ap (λ o. o.result) (target_step ss (Err r) untaken f g))

  -- the session with these entries and this scope
  abbrev pub with_names : EntriesView → List Scoped → SessionView
  with_names e scope = record d { reader = record d.reader { names = record { known = record d.reader.names.known { own = e }; scope = scope } } }

  pub function_added : (z : Table) (e : EntriesView) (scope : List Scoped) (result : Result Unit ReadFault) (ss : List Sort) (t : Sort) → is_taken sc x.name ≡ false
      → sorts_from s.sorts arguments ≡ Ok ss → sort_from s.sorts target ≡ Ok t → OnOk result (z ≡ with_leaf s (function x.name ss t)) → IfErr result (λ fault. fault ≡ ReadFault.Memory) → Keeps s z
      → OnOk result (Puts d.reader.names.known.own.names x.name (Entry.Function (length s.leaves)) e.names) → e.macros ≡ d.reader.names.known.own.macros
      → e.named ≡ d.reader.names.known.own.named → scope ≡ d.reader.names.scope → ComesTo terms_read v (both z v) (IsPerformed (both z v) (with_names e scope)) asked result
  function_added z e scope (Ok u) ss t untaken f g added fault keeps names macros named same =
      let kept : Keeps s (with_leaf s (function x.name ss t)) = subst (λ (w : Table). Keeps s w) added keeps in
      rw added (answers tt (with_function (record { name = x.name; arguments = ss; target = t }) (with_name x.name sc)) refl (target_step ss (Ok t) untaken f g)
      (record { session = function_session s v (record { name = x.name; arguments = ss; target = t }) sc d e scope kept (record { names = names; macros = macros; named = named }) same untaken is }))
  function_added z e scope (Err h) ss t untaken f g added fault keeps names macros named same = rw fault (no_memory refl)
