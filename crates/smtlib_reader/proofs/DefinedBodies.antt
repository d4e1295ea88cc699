-- The body of a defined function has no let.
use Rattle.std.proofs.Common.{◌≡◌, ℕ, List, [], Option, Some, None, IfSome, IfOk, Ok, true, refl, sym, subst}
use Rattle.sexpr.specs.Items.{Item}
use Rattle.sym_table.specs.Table.{Table}
use Rattle.term_model.specs.Terms.{Var}
use Rattle.term_pool.specs.Views.{TermsView}
use Rattle.smtlib_reader.specs.Defining.{within, body_read, IsReadyForBody, IsBodyRead}
use Rattle.problem_text.specs.Forms.{form_of}
use Rattle.term_names.specs.Known.{KnownView, known_entry}
use Rattle.term_reader.specs.Reading.{IsReaderIdle, IsTermRead, ComesTo, terms_read}
use Rattle.rule_model.specs.Replacement.{HasNoLet}
use Rattle.term_names.specs.Entries.{EntriesView}
use Rattle.term_names.specs.Scope.{Scoped}
use Rattle.problem_text.specs.TypedTerms.{Typed}
use Rattle.problem_text.specs.Outcomes.{Outcome, done}
use Rattle.problem_text.specs.Scripts.{Macro, Script}
use Rattle.term_names.specs.Standing.{IsScript, IsNameMeant, AddsNoSymbols, GrowByTerms, macro_in}
use Rattle.problem_text.specs.Terms.{read_term}
use Rattle.term_names.specs.declared.names.KnownEntry.{KnownEntry}
use Rattle.term_reader.specs.ReadingViews.{ReadingView}
use Rattle.term_expansion.specs.declared.values.Value.{Value}
use Rattle.problem_text.proofs.LetFreeTerms.{IsFreeIn, parameters-free, term-free}
use Rattle.term_reader.proofs.Staying.{adds_then}
use Rattle.term_expansion.specs.SymbolsAndTerms.{both}

-- no macro that a name is found to be has a let
abbrev MacrosHaveNoLet : Script → Type 0
MacrosHaveNoLet sc = (name : List ℕ) → IfSome (macro_in sc name) (λ m. HasNoLet m.body)

macros_plain : (s : Table) (v : TermsView) (k : KnownView) (sc : Script) → IsScript (both s v) k sc → MacrosHaveNoLet sc
macros_plain s v k sc is name = go (known_entry k name) (is.names name)
  where
    none : macro_in sc name ≡ None → IfSome (macro_in sc name) (λ m. HasNoLet m.body)
    none e = subst (λ (o : Option Macro). IfSome o (λ m. HasNoLet m.body)) (sym e) tt

    go : (e : Option KnownEntry) → IsNameMeant (both s v) k sc name e → IfSome (macro_in sc name) (λ m. HasNoLet m.body)
    go None m = none m.0.no_macro
    go (Some (KnownEntry.Function leaf)) d = none d.no_entry.no_macro
    go (Some KnownEntry.Reserved) r = none r.no_entry.no_macro
    go (Some (KnownEntry.Macro w)) m = subst (λ (o : Option Macro). IfSome o (λ m. HasNoLet m.body)) (sym m.found) (m.is.body.plain m.is.plain)
    go (Some (KnownEntry.Named w)) n = none n.no_macro

body_plain : (s : Table) (v : TermsView) (k : KnownView) (sc last : Script) (xs : List Var) (i : Item) (t : Typed) → IsScript (both s v) k sc → body_read xs i sc ≡ done t last → HasNoLet t.tree
body_plain s v k sc last xs i t is e =
    let h = term-free MacrosHaveNoLet (λ sc name p. p name) (λ t sc p. p) (λ n sc p. p) (λ name sc p. p) (form_of i) (within xs) sc (λ _. parameters-free xs) (macros_plain s v k sc is) in
    subst (λ (o : Outcome Script Typed). IfOk o.result (IsFreeIn (within xs))) e h.1 refl

-- the reader is ready for the term that is the body
pub ready_to_read : (s : Table) (v : TermsView) (r : ReadingView) (xs : List Var) (sc : Script) → IsReadyForBody (both s v) r xs sc → IsReaderIdle (both s v) (record r { replaces_lets = true }) sc (within xs)
ready_to_read s v r xs sc h = record {
  script = h.script;
  scope = h.scope;
  settings = refl;
  no_values = h.no_values;
  no_leaves = h.no_leaves;
  no_frames = h.no_frames;
}

-- the body was read
pub body_there : {s z : Table} {v w : TermsView} (r q : ReadingView) (xs : List Var) (i : Item) (sc : Script) {c : Value} (e : EntriesView) (scope : List Scoped) → IsReadyForBody (both s v) r xs sc
    → ComesTo terms_read v (both z w) (IsTermRead (both z w) q (within xs)) (read_term i (within xs) sc) (Ok c) → e ≡ q.names.known.own → scope ≡ []
    → ComesTo terms_read v (both z w) (IsBodyRead (both z w) (record q { replaces_lets = r.replaces_lets; names = record { known = record q.names.known { own = e }; scope = scope } })) (body_read xs i sc)
    (Ok (record c { plain = true }))
body_there {s} {z} {v} {w} r q xs i sc {c} e scope ready h same none =
    let t = h.answer.value in
    let is = h.answer.after.is in
    let idle = h.answer.after.idle in record {
      answer = record {
        value = t;
        state = h.answer.state;
        is = h.answer.is;
        after = record {
          is = record { refers = is.refers; sort = is.sort; high = is.high; plain = λ _. body_plain s v r.names.known sc h.answer.state xs i t ready.script h.answer.is };
          plain = refl;
          idle = record {
            script = rw same idle.script;
            scope = rw none tt;
            settings = refl;
            no_values = idle.no_values;
            no_leaves = idle.no_leaves;
            no_frames = idle.no_frames;
          };
        };
      };
      placed = h.placed;
    }

-- parameters are entered, and then a body is read
pub entered_grows : (s t z : Table) (v w : TermsView) → AddsNoSymbols s t → GrowByTerms (both t v) (both z w) → GrowByTerms (both s v) (both z w)
entered_grows s t z v w adds grow = record { symbols = adds_then s t z adds grow.symbols; terms = grow.terms }
