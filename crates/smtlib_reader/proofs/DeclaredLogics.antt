-- A logic is set, or may not be.
use Rattle.std.proofs.Common.{◌≡◌, Bool, true, false, refl, sym, ap, ◌∙◌, if◌then◌else◌, Ok, Err}
use Rattle.std.specs.Prelude.{⊤}
use Rattle.sexpr.specs.declared.causes.Cause.TheVariants.{Repeated, LeftOut}
use Rattle.sexpr.specs.declared.causes.Refusal.{Refusal}
use Rattle.sym_table.specs.Table.{Table}
use Rattle.term_pool.specs.Views.{TermsView}
use Rattle.problem_text.specs.Commands.{set_logic}
use Rattle.text_items.specs.ItemShapes.{Name}
use Rattle.problem_text.specs.Problems.{script_performed}
use Rattle.problem_text.specs.Outcomes.{Outcome, done, refuse}
use Rattle.problem_text.specs.Scripts.{Script}
use Rattle.smtlib_reader.specs.Sessions.{SessionView, IsSession, IsPerformed}
use Rattle.problem_text.specs.Words.{is_among, logics}
use Rattle.term_names.specs.declared.faults.ReadFault.{ReadFault}
use Rattle.smtlib_reader.proofs.CommandSteps.{session_noted}
use Rattle.term_reader.proofs.Coming.{answers, refuses}
use Rattle.term_expansion.specs.SymbolsAndTerms.{both}
use Rattle.term_reader.specs.Reading.{ComesTo, terms_read}

module _ (s : Table) (v : TermsView) (d : SessionView) (replaces : Bool) (x : Name) (sc : Script) (is : IsSession (both s v) d sc) where
  abbrev asked : Outcome Script ⊤
  asked = script_performed replaces (set_logic x) sc

  -- by whether a logic is set, and whether it is one that may be
  abbrev logic_by : Bool → Bool → Outcome Script ⊤
  logic_by set allowed = if set then refuse Repeated x.place sc else if allowed then done tt (record sc { has_logic = true }) else refuse LeftOut x.place sc

  logic_parts : (set allowed : Bool) → d.has_logic ≡ set → is_among logics x.name ≡ allowed → asked ≡ logic_by set allowed
  unfolding script_performed
  logic_parts set allowed e f = ap (λ b. logic_by b (is_among logics x.name)) (sym is.has_logic ∙ e) ∙ ap (logic_by set) f

  pub logic_repeated : (r : Refusal) → d.has_logic ≡ true → r ≡ record { cause = Repeated; at = x.place } → ComesTo terms_read v (both s v) (IsPerformed (both s v) d) asked (Err (ReadFault.Text r))
  logic_repeated r set same = refuses refl (ap (λ o. o.result) (logic_parts true (is_among logics x.name) set refl) ∙ ap Err (sym same))

  pub logic_left_out : (r : Refusal) → d.has_logic ≡ false → is_among logics x.name ≡ false → r ≡ record { cause = LeftOut; at = x.place }
      → ComesTo terms_read v (both s v) (IsPerformed (both s v) d) asked (Err (ReadFault.Text r))
  logic_left_out r set allowed same = refuses refl (ap (λ o. o.result) (logic_parts false false set allowed) ∙ ap Err (sym same))

  pub logic_done : d.has_logic ≡ false → is_among logics x.name ≡ true → ComesTo terms_read v (both s v) (IsPerformed (both s v) (record d { has_logic = true })) asked (Ok tt)
  logic_done set allowed =
      answers tt (record sc { has_logic = true }) refl (logic_parts false true set allowed)
      (record { session = let noted = session_noted s v d sc is true sc.is_checked in record { idle = noted.idle; assertions = noted.assertions; has_logic = refl; is_checked = is.is_checked } })

pub ruleset logic_set = (logic_repeated, logic_left_out)
