-- What a body that was read makes of the command that defines a function.
use Rattle.std.proofs.Common.{◌≡◌, ℕ, List, true, Ok, refl, subst}
use Rattle.sexpr.specs.Items.{Item, place_of}
use Rattle.sym_table.specs.Table.{Table, Keeps}
use Rattle.sym_table.proofs.Tables.{keeps_table}
use Rattle.term_model.specs.declared.symbols.Sort.{Sort}
use Rattle.term_model.specs.Terms.{Var, sort_eq}
use Rattle.term_model.proofs.Tests.{sort_eq_decides}
use Rattle.term_pool.specs.Views.{TermsView}
use Rattle.term_pool.proofs.Keeping.{terms-refl}
use Rattle.smtlib_reader.specs.Defining.{within, body_read, macro_defined, AreListed, IsBodyRead, IsDefined}
use Rattle.smtlib_reader.specs.Sessions.{top}
use Rattle.term_names.specs.Entries.{EntriesView}
use Rattle.problem_text.specs.Forms.{form_of}
use Rattle.term_names.specs.Scope.{Scoped}
use Rattle.problem_text.specs.TypedTerms.{Typed}
use Rattle.problem_text.specs.Outcomes.{Outcome}
use Rattle.problem_text.specs.Scripts.{Script, with_macro}
use Rattle.term_names.specs.Standing.{IsReservedName}
use Rattle.smtlib_reader.specs.declared.defining.Listed.{Listed}
use Rattle.term_reader.specs.ReadingViews.{ReadingView}
use Rattle.term_expansion.specs.declared.values.Value.{Value}
use Rattle.smtlib_reader.proofs.AgreeingScripts.{idle_moves}
use Rattle.smtlib_reader.proofs.DefinedMacros.{PutsMacro, defined_script, reserved_name}
use Rattle.smtlib_reader.proofs.JudgedTerms.{checked, right_sort}
use Rattle.smtlib_reader.proofs.KeptByReading.{still_reserved, IsReservedIn}
use Rattle.term_reader.proofs.Staying.{leaves_stay}
use Rattle.term_expansion.specs.SymbolsAndTerms.{both}
use Rattle.term_reader.specs.Reading.{ComesTo, terms_read}

-- the script with the macro of this body
abbrev pub with_body : List ℕ → List Var → Sort → Typed → Script → Script
with_body name xs target t last = with_macro (record { name = name; parameters = xs; target = target; body = t.tree }) last

pub is_defined : (name : List ℕ) (xs : List Var) (target : Sort) (i : Item) (sc : Script) {a z s : Table} {v w : TermsView} (r : ReadingView) {c : Value} (e : EntriesView) (scope : List Scoped) (l : Listed)
    → IsReservedName a sc name → ComesTo terms_read v (both s w) (IsBodyRead (both s w) r) (body_read xs i sc) (Ok c) → AreListed z l xs → Keeps z s
    → checked true (place_of i) ≡ checked (sort_eq c.sort target) (place_of i) → PutsMacro r.names.known.own e name (record { parameters = l.leaves; sorts = l.sorts; target = target; body = c }) → scope ≡ r.names.scope
    → ComesTo terms_read v (both s w) (IsDefined (both s w) (record r { names = record { known = record r.names.known { own = e }; scope = scope } })) (macro_defined name xs target i sc) (Ok tt)
is_defined name xs target i sc {a} {z} {s} {v} {w} r {c} e scope l reserved h listed keeps same puts same_scope =
    right_sort target i (with_body name xs target) (λ t q. refl) (λ c t q m. m.is.sort) h same (λ t q m is f.
    let in_script : IsReservedIn q name =
    subst (λ (o : Outcome Script Typed). IsReservedIn o.state name) is (still_reserved (form_of i) (within xs) sc name (record {
      taken = reserved.taken;
      no_named = reserved.no_entry.no_named;
      no_macro = reserved.no_entry.no_macro;
      no_function = reserved.no_function.script;
    })) in
    record {
      idle = idle_moves s s w w (keeps_table s) (terms-refl w) r (record { known = record r.names.known { own = e }; scope = scope }) q (with_body name xs target t q) (top r.replaces_lets) same_scope m.idle
          (defined_script s w r.names.known e q (record { name = name; parameters = xs; target = target; body = t.tree }) (record { parameters = l.leaves; sorts = l.sorts; target = target; body = c }) puts m.idle.script (record {
            parameters = leaves_stay z s keeps l.leaves.items xs listed.leaves;
            sorts = listed.sorts;
            target = refl;
            body = record { refers = m.is.refers; sort = (sort_eq_decides c.sort target).0 f; high = m.is.high; plain = m.is.plain };
            plain = m.plain;
          }) (reserved_name s w r.names.known q name m.idle.script in_script));
    })
