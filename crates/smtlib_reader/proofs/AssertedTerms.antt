-- What a formula that was read makes of its assertion.
use Rattle.std.proofs.Common.{◌≡◌, ℕ, Bool, true, [], ◌∷◌, ◌++◌, Ok, refl, sym, ◌∙◌, subst, Vec}
use Rattle.std.specs.declared.alloc.Global.{Global}
use Rattle.sexpr.specs.Items.{Item, place_of}
use Rattle.sym_table.specs.Table.{Table}
use Rattle.sym_table.proofs.Tables.{keeps_table}
use Rattle.term_model.specs.declared.symbols.Sort.{Sort}
use Rattle.term_model.specs.Terms.{sort_eq}
use Rattle.term_pool.specs.Views.{TermsView}
use Rattle.term_pool.proofs.Keeping.{terms-refl}
use Rattle.problem_text.specs.Commands.{assert_term}
use Rattle.problem_text.specs.Forms.{form_of}
use Rattle.problem_text.specs.Problems.{script_performed}
use Rattle.term_reader.specs.Reading.{IsTermRead, ComesTo, terms_read}
use Rattle.problem_text.specs.TypedTerms.{Typed}
use Rattle.problem_text.specs.Outcomes.{Outcome, and_then}
use Rattle.problem_text.specs.Scripts.{Script, with_assertion}
use Rattle.smtlib_reader.specs.Sessions.{SessionView, top, IsSession, IsPerformed}
use Rattle.term_names.specs.Standing.{GrowByTerms}
use Rattle.problem_text.specs.Terms.{read_term}
use Rattle.term_reader.specs.ReadingViews.{ReadingView}
use Rattle.term_expansion.specs.declared.values.Value.{Value}
use Rattle.smtlib_reader.proofs.AgreeingScripts.{idle_agrees, all_refer}
use Rattle.smtlib_reader.proofs.JudgedTerms.{checked, by_sort, right_sort}
use Rattle.smtlib_reader.proofs.KeptByReading.{IsStill, still_after_term}
use Rattle.term_reader.proofs.Coming.{same_outcome}
use Rattle.term_expansion.specs.SymbolsAndTerms.{both}

abbrev pub asserting : Typed → Script → Script
asserting t last = with_assertion t.tree last

pub asserted : (replaces : Bool) (i : Item) (sc : Script) → script_performed replaces (assert_term i) sc ≡ and_then (read_term i (top replaces) sc) (by_sort Sort.Bool i asserting)
unfolding script_performed
asserted replaces i sc = refl

pub is_asserted : (i : Item) (sc : Script) {a s : Table} {v w : TermsView} (r : ReadingView) {c : Value} (d : SessionView) (more : Vec ℕ Global) → IsSession (both a v) d sc
    → ComesTo terms_read v (both s w) (IsTermRead (both s w) r (top r.replaces_lets)) (read_term i (top r.replaces_lets) sc) (Ok c) → GrowByTerms (both a v) (both s w)
    → checked true (place_of i) ≡ checked (sort_eq c.sort Sort.Bool) (place_of i) → more.items ≡ d.assertions.items ++ c.term ∷ []
    → ComesTo terms_read v (both s w) (IsPerformed (both s w) (record d { reader = r; assertions = more })) (script_performed r.replaces_lets (assert_term i) sc) (Ok tt)
is_asserted i sc {a} {s} {v} {w} r {c} d more session h grow e pushed =
    same_outcome (asserted r.replaces_lets i sc) (right_sort Sort.Bool i asserting (λ t q. refl) (λ c t q m. m.is.sort) h e (λ t last m is f.
    let same : IsStill sc last = subst (λ (q : Outcome Script Typed). IsStill sc q.state) is (still_after_term (form_of i) (top r.replaces_lets) sc) in
    record {
      session = record {
        idle = idle_agrees s s w w (keeps_table s) (terms-refl w) r last (asserting t last) (top r.replaces_lets) m.idle.script.sorts
            (λ name. record { functions = refl; macros = refl; named = refl; taken = refl; back = λ f. f }) m.idle;
        assertions = rw (pushed, same.assertions) (all_refer a s v w grow.symbols.keeps grow.terms d.assertions.items sc.assertions c.term t.tree session.assertions m.is.refers);
        has_logic = session.has_logic ∙ sym same.has_logic;
        is_checked = session.is_checked ∙ sym same.is_checked;
      };
    }))
