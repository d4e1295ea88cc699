-- A function is declared: the tables stand for the script with the function then.
use Rattle.std.proofs.Common.{◌≡◌, ◌⊎◌, inl, inr, ℕ, false, cond, List, [], ◌∷◌, ◌++◌, length, Option, Some, None, IsTrue, refl, sym, ap, subst, ◌∙◌}
use Rattle.std.specs.Option.{option_or}
use Rattle.std.specs.Prelude.{bytes_eq, slice_get, IsSomeAnd}
use Rattle.std.proofs.lemmas.List.Folds.{find-append}
use Rattle.std.proofs.lemmas.Slice.Eq.{bytes_eq-Decides}
use Rattle.sym_table.specs.Leaf.{Leaf, is_function, name_of}
use Rattle.sym_table.specs.Table.{Table, IsFunctionName, IsFunctionNamed, Keeps, with_leaf}
use Rattle.sym_table.specs.Words.{IsBuiltIn}
use Rattle.term_model.specs.Terms.{Fun}
use Rattle.term_pool.specs.StandsFor.{function_leaf}
use Rattle.term_pool.specs.Views.{TermsView}
use Rattle.term_pool.proofs.Keeping.{terms-refl}
use Rattle.term_names.specs.Entries.{EntriesView}
use Rattle.term_names.specs.Known.{KnownView}
use Rattle.term_names.specs.Scope.{Scoped}
use Rattle.problem_text.specs.Scripts.{Script, is_taken, with_name, with_function}
use Rattle.smtlib_reader.specs.Sessions.{IsSession, top}
use Rattle.term_names.specs.Standing.{function_in, HasNoEntry, IsFreeName, IsNameMeant, IsScript}
use Rattle.problem_text.specs.Words.{is_built_in}
use Rattle.term_names.specs.declared.entries.Entry.{Entry}
use Rattle.term_names.specs.declared.names.KnownEntry.{KnownEntry}
use Rattle.smtlib_reader.specs.Sessions.{SessionView}
use Rattle.smtlib_reader.proofs.AgreeingScripts.{PutsEntry, puts_holds, script_puts, idle_moves, among_before, among_now}
use Rattle.smtlib_reader.proofs.DeclaredSorts.{is_no_word}
use Rattle.term_reader.proofs.GivenNames.{apart, or_none, no_entry, no_word_taken}
use Rattle.term_reader.proofs.Staying.{all_stay}
use Rattle.term_names.proofs.HeldVariables.{slice_get-last}
use Rattle.term_names.proofs.Positions.{slice_get-push_cases}
use Rattle.term_expansion.specs.SymbolsAndTerms.{both}

-- a name that is free is not refused
pub function_is_free : (s : Table) (name : List ℕ) → is_built_in name ≡ false → (IsFunctionName s name → ⊥) → IsBuiltIn name ⊎ IsFunctionName s name → ⊥
function_is_free s name word none (inl h) = is_no_word name word h
function_is_free s name word none (inr h) = none h

-- what the table says of a name that is free
pub free_name : (s : Table) (v : TermsView) (k : KnownView) (sc : Script) (name : List ℕ) → IsScript (both s v) k sc → is_taken sc name ≡ false → HasNoEntry sc name × IsFreeName s sc name
free_name s v k sc name is untaken = subst (IsNameMeant (both s v) k sc name) (no_entry s v k sc name is untaken) (is.names name)

-- the script with one more function
abbrev pub with_declared : Fun → Script → Script
with_declared f sc = with_function f (with_name f.name sc)

module _ (s : Table) (v : TermsView) (f : Fun) (sc : Script) where
  -- what is said of a name that is not the new one
  function_before : (other : List ℕ) → bytes_eq other f.name ≡ false → function_in (with_declared f sc) other ≡ function_in sc other
  function_before other differs =
      find-append (λ g. bytes_eq g.name other) sc.functions (f ∷ [])
      ∙ ap (λ b. option_or (function_in sc other) (cond b (Some f) None)) (apart other f.name differs)
      ∙ or_none (function_in sc other)

  -- a function of the new table is an old one or the new one
  named_before : (other : List ℕ) → bytes_eq other f.name ≡ false → IsFunctionName (with_leaf s (function_leaf f)) other → IsFunctionName s other
  named_before other differs (k, named) = (k, go (slice_get (s.leaves ++ function_leaf f ∷ []) k) refl named)
    where
      old_or_new : (l : Leaf) → (slice_get s.leaves k ≡ Some l) ⊎ ((k ≡ length s.leaves) × (function_leaf f ≡ l)) → IsTrue (is_function l) → name_of l ≡ other → IsFunctionNamed s k other
      old_or_new l (inl e) is same = rw e (is, same)
      old_or_new l (inr e) is same =
          let name : f.name ≡ other = ap name_of e.1 ∙ same in
          absurd (let g = (bytes_eq-Decides other f.name).1 (sym name) in cc)

      go : (o : Option Leaf) → slice_get (s.leaves ++ function_leaf f ∷ []) k ≡ o → IsSomeAnd o (λ l. IsTrue (is_function l) × (name_of l ≡ other)) → IsFunctionNamed s k other
      go None e h = absurd h
      go (Some l) e h = old_or_new l (slice_get-push_cases s.leaves (function_leaf f) k l e) h.0 h.1

  -- what is said of the new name
  function_now : function_in sc f.name ≡ None → function_in (with_declared f sc) f.name ≡ Some f
  function_now none =
      find-append (λ g. bytes_eq g.name f.name) sc.functions (f ∷ [])
      ∙ ap (λ o. option_or o (cond (bytes_eq f.name f.name) (Some f) None)) none
      ∙ ap (λ b. cond b (Some f) None) ((bytes_eq-Decides f.name f.name).1 refl)

  -- the table with the function
  abbrev grown : Table
  grown = with_leaf s (function_leaf f)

  module _ (keeps : Keeps s grown) (k : KnownView) (e : EntriesView) (puts : PutsEntry k.own e f.name (Entry.Function (length s.leaves))) where
    function_script : is_taken sc f.name ≡ false → IsScript (both s v) k sc → IsScript (both grown v) (record k { own = e }) (with_declared f sc)
    function_script untaken is =
        script_puts s grown v v keeps (terms-refl v) k e sc (with_declared f sc) f.name (Entry.Function (length s.leaves)) (puts_holds k e f.name _ puts) puts.names is.sorts
        (no_word_taken sc f.name untaken is.built_in)
        (λ other differs. record {
          functions = function_before other differs;
          macros = refl;
          named = refl;
          taken = among_before sc.taken f.name other differs;
          back = named_before other differs;
        })
        (here (free_name s v k sc f.name is untaken)) is
      where
        here : HasNoEntry sc f.name × IsFreeName s sc f.name → IsNameMeant (both grown v) (record k { own = e }) (with_declared f sc) f.name (Some (KnownEntry.Function (length s.leaves)))
        here (none, free) = record {
          no_entry = record { no_named = none.no_named; no_macro = none.no_macro };
          function = record {
            meant = f;
            here = slice_get-last s.leaves (function_leaf f) (length s.leaves) refl;
            same_name = refl;
            found = function_now free.no_function.script;
            taken = among_now sc.taken f.name;
          };
        }

  -- the session, whose names have the function
  pub function_session : (d : SessionView) (e : EntriesView) (scope : List Scoped) → Keeps s grown → PutsEntry d.reader.names.known.own e f.name (Entry.Function (length s.leaves)) → scope ≡ d.reader.names.scope
      → is_taken sc f.name ≡ false → IsSession (both s v) d sc
      → IsSession (both grown v) (record d { reader = record d.reader { names = record { known = record d.reader.names.known { own = e }; scope = scope } } }) (with_declared f sc)
  function_session d e scope keeps puts same untaken is = record {
    idle = idle_moves s grown v v keeps (terms-refl v) d.reader (record { known = record d.reader.names.known { own = e }; scope = scope }) sc (with_declared f sc) (top d.reader.replaces_lets) same is.idle
        (function_script keeps d.reader.names.known e puts untaken is.idle.script);
    assertions = all_stay s grown v v keeps (terms-refl v) d.assertions.items sc.assertions is.assertions;
    has_logic = is.has_logic;
    is_checked = is.is_checked;
  }
