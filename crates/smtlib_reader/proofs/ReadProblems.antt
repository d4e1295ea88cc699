-- Cited by crates above. A whole problem that was read.
use Rattle.std.proofs.Common.{◌≡◌, refl, sym, subst, ℕ, List, [], ◌∷◌, Bool, Result, Ok, Err, inr, ◌<◌, zero, suc, length, get_or, arith}
use Rattle.std.specs.Prelude.{⊤}
use Rattle.pair_pool.specs.Views.{IsKnown}
use Rattle.sexpr.specs.declared.causes.Refusal.{Refusal}
use Rattle.sexpr.specs.declared.lexing.Lexer.{Lexer}
use Rattle.sexpr.specs.Form.{HasForm}
use Rattle.sexpr.specs.Items.{Items, AreItems, StandsForItems}
use Rattle.sexpr.specs.Tokens.{AreTokens}
use Rattle.sexpr.specs.Source.{source, position}
use Rattle.sym_table.specs.Table.{Table}
use Rattle.term_model.specs.Terms.{Term}
use Rattle.term_pool.specs.Views.{TermsView, ReferToAll}
use Rattle.term_pool.specs.Placing.{PlacesCellsOf, LacksCellOf}
use Rattle.term_pool.proofs.PlacedCells.{places_more, lacks_more}
use Rattle.smtlib_reader.specs.ProblemReading.{AreLeft}
use Rattle.term_reader.specs.ProblemViews.{IsCounted}
use Rattle.problem_text.specs.Problems.{problem, StandsForProblem, IsFirstFault}
use Rattle.term_reader.specs.Reading.{ComesTo, terms_read, IsReadBy}
use Rattle.problem_text.specs.Outcomes.{Outcome}
use Rattle.problem_text.specs.Scripts.{Script, empty_script}
use Rattle.smtlib_reader.specs.Sessions.{SessionView, IsSession, IsPerformed}
use Rattle.term_names.specs.declared.faults.ReadFault.{ReadFault}
use Rattle.term_expansion.specs.SymbolsAndTerms.{both}

-- at the start all commands of the text are left
starts : (text : List ℕ) (replaces : Bool) (l : Lexer) → source l ≡ text → position l ≡ 0 → (items : Items) → StandsForItems text items
    → AreLeft (source l) replaces (position l) empty_script (problem replaces items)
starts text replaces l e at items h = record {
  items = items;
  here = record { tokens = h.tokens; read = subst (λ (n : ℕ). AreTokens (source l) n h.tokens) (sym at) (subst (λ (x : List ℕ). AreTokens x 0 h.tokens) (sym e) h.read); nested = subst (λ (x : List ℕ). AreItems x h.tokens items []) (sym e) h.nested };
  comes = refl;
}

module _ (text : List ℕ) (replaces : Bool) (l : Lexer) (e : source l ≡ text) (at : position l ≡ 0) {s : Table} {v : TermsView} {d : SessionView} (form : HasForm text) (session : IsSession (both s v) d empty_script) where
  pub some_start : (sc : Script) × (whole : Outcome Script ⊤) × AreLeft (source l) replaces (position l) sc whole × IsSession (both s v) d sc
  some_start = (empty_script, problem replaces form.0, starts text replaces l e at form.0 form.1, session)

  -- what reading all commands comes to
  pub from_start : {z : Table} {w : TermsView} {f : SessionView} {result : Result Unit ReadFault}
      → ((sc : Script) (whole : Outcome Script ⊤) → AreLeft (source l) replaces (position l) sc whole → IsSession (both s v) d sc → ComesTo terms_read v (both z w) (IsPerformed (both z w) f) whole result)
      → ComesTo terms_read v (both z w) (IsPerformed (both z w) f) (problem replaces form.0) result
  from_start reads = reads empty_script (problem replaces form.0) (starts text replaces l e at form.0 form.1) session

-- what reading all commands of the text has come to
module _ (text : List ℕ) (replaces : Bool) (form : HasForm text) where
  counted : (t : Term) → IsReadBy terms_read (problem replaces form.0) t → IsCounted text replaces t
  counted t read = record { items = form.0; nested = form.1; read = read }

  module _ {s : Table} {old new : TermsView} {d : SessionView} where
    pub read_placed : {result : Result Unit ReadFault} → ComesTo terms_read old (both s new) (IsPerformed (both s new) d) (problem replaces form.0) result
        → PlacesCellsOf s old.pass new.pass (IsCounted text replaces)
    read_placed h = places_more s old.pass new.pass _ _ counted h.placed

    pub read_fault : {f : ReadFault} (r : Refusal) → f ≡ ReadFault.Text r → ComesTo terms_read old (both s new) (IsPerformed (both s new) d) (problem replaces form.0) (Err f) → IsFirstFault text replaces r
    read_fault r is h = let g = rw is at h in inr (record { items = form.0; nested = form.1; refused = g.answer })

    pub read_full : {f : ReadFault} → f ≡ ReadFault.PoolFull → ComesTo terms_read old (both s new) (IsPerformed (both s new) d) (problem replaces form.0) (Err f)
        → LacksCellOf s new.pass (IsCounted text replaces)
    read_full is h = let g = rw is at h in lacks_more s new.pass _ _ counted g.answer

    -- the script that the text stands for
    pub read_text : {u : Unit {0}} → ComesTo terms_read old (both s new) (IsPerformed (both s new) d) (problem replaces form.0) (Ok u)
        → (sc : Script) × StandsForProblem text replaces sc × IsSession (both s new) d sc
    read_text h = (h.answer.state, record { items = form.0; nested = form.1; read = h.answer.is }, h.answer.after.session)

-- a fault that is handed on
pub same_fault : {A : Type 0} (result : Result A ReadFault) (f g : ReadFault) → result ≡ Err f → result ≡ Err g → f ≡ g
same_fault result f g is e = cc

-- each assertion is known
pub assertion_known : (s : Table) (v : TermsView) (rs : List ℕ) (ts : List Term) → ReferToAll s v rs ts → (k d : ℕ) → k < length rs → IsKnown v.pass (get_or rs k d)
assertion_known s v [] ts h k d within = absurd (omega arith)
assertion_known s v (r ∷ rs) [] h k d within = absurd h
assertion_known s v (r ∷ rs) (t ∷ ts) (refers, h) zero d within = record { tree = refers.tree; stands = refers.known }
assertion_known s v (r ∷ rs) (t ∷ ts) (refers, h) (suc k) d within = assertion_known s v rs ts h k d (omega arith)
