-- What a command comes to that asks for nothing, or that notes something of the script alone.
use Rattle.std.proofs.Common.{◌≡◌, Bool, true, ◌⊎◌, inl, inr, refl, ap, Ok}
use Rattle.sym_table.specs.Table.{Table}
use Rattle.sym_table.proofs.Tables.{keeps_table}
use Rattle.term_pool.specs.Views.{TermsView}
use Rattle.term_pool.proofs.Keeping.{terms-refl}
use Rattle.text_items.specs.ItemsAt.{ItemsView}
use Rattle.smtlib_reader.specs.CommandShapes.{command_said}
use Rattle.smtlib_reader.specs.declared.commands.Command.{Command}
use Rattle.problem_text.specs.Problems.{script_performed}
use Rattle.problem_text.specs.Scripts.{Script}
use Rattle.smtlib_reader.specs.Sessions.{SessionView, IsSession, IsPerformed, top}
use Rattle.smtlib_reader.proofs.AgreeingScripts.{idle_agrees}
use Rattle.term_reader.proofs.Coming.{answers}
use Rattle.term_expansion.specs.SymbolsAndTerms.{both}
use Rattle.term_reader.specs.Reading.{ComesTo, terms_read}

module _ (s : Table) (v : TermsView) (d : SessionView) (sc : Script) (is : IsSession (both s v) d sc) where
  -- the same names, another logic or another word on checks
  pub session_noted : (logic checked : Bool) → IsSession (both s v) (record d { has_logic = logic; is_checked = checked }) (record sc { has_logic = logic; is_checked = checked })
  session_noted logic checked = record {
    idle = idle_agrees s s v v (keeps_table s) (terms-refl v) d.reader sc (record sc { has_logic = logic; is_checked = checked }) (top d.reader.replaces_lets) is.idle.script.sorts
        (λ name. record { functions = refl; macros = refl; named = refl; taken = refl; back = λ f. f }) is.idle;
    assertions = is.assertions;
    has_logic = refl;
    is_checked = refl;
  }

  module _ (replaces : Bool) (items : ItemsView) (asked : Command) where
    pub nothing_performed : (asked ≡ Command.WithoutEffect) ⊎ (asked ≡ Command.Exit)
        → ComesTo terms_read v (both s v) (IsPerformed (both s v) d) (script_performed replaces (command_said items asked) sc) (Ok tt)
    unfolding script_performed
    nothing_performed (inl e) = answers tt sc refl (ap (λ c. script_performed replaces (command_said items c) sc) e) (record { session = is })
    nothing_performed (inr e) = answers tt sc refl (ap (λ c. script_performed replaces (command_said items c) sc) e) (record { session = is })

    -- a check is noted
    pub checked_performed : asked ≡ Command.CheckSat
        → ComesTo terms_read v (both s v) (IsPerformed (both s v) (record d { is_checked = true })) (script_performed replaces (command_said items asked) sc) (Ok tt)
    unfolding script_performed
    checked_performed e =
        answers tt (record sc { is_checked = true }) refl (ap (λ c. script_performed replaces (command_said items c) sc) e)
        (record { session = let noted = session_noted sc.has_logic true in record { idle = noted.idle; assertions = noted.assertions; has_logic = is.has_logic; is_checked = refl } })
