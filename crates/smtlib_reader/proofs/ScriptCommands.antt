-- The commands of a text, the first one after the other.
use Rattle.std.proofs.Common.{◌≡◌, ◌<◌, refl, sym, ◌∙◌, ap, subst, ℕ, List, length, Bool, true, false, Result, Ok, Err}
use Rattle.std.specs.Prelude.{⊤}
use Rattle.sexpr.specs.declared.causes.Refusal.{Refusal}
use Rattle.sexpr.specs.Items.{Item, Items, no_items, item}
use Rattle.sym_table.specs.Table.{Table}
use Rattle.term_pool.specs.Views.{TermsView}
use Rattle.term_pool.proofs.PlacedCells.{places_none}
use Rattle.smtlib_reader.specs.CommandShapes.{command_said}
use Rattle.problem_text.specs.Commands.{ScriptCommand, script_command_of}
use Rattle.text_items.specs.ItemsAt.{ItemsView, end_at, item_at}
use Rattle.text_items.specs.Nesting.{AreNested}
use Rattle.smtlib_reader.specs.ProblemReading.{HasItems, IsFirstItem, AreLeft, IsCommandRead}
use Rattle.problem_text.specs.Problems.{script_performed, ends, goes_on_after, script_commands}
use Rattle.term_reader.specs.Reading.{ComesTo, Comes, terms_read}
use Rattle.problem_text.specs.Outcomes.{Outcome, done, going_on, and_then}
use Rattle.problem_text.specs.Scripts.{Script}
use Rattle.smtlib_reader.specs.Sessions.{SessionView, IsSession, IsPerformed}
use Rattle.smtlib_reader.specs.declared.commands.Command as code
use Rattle.smtlib_reader.specs.declared.commands.Command.TheVariants.{SetLogic, WithoutEffect, DeclareSort, DeclareFun, DefineFun, Assert, CheckSat, Exit}
use Rattle.term_names.specs.declared.faults.ReadFault.{ReadFault}
use Rattle.text_items.specs.declared.nodes.Node.{Node}
use Rattle.problem_text.proofs.Growing.{by_commands}
use Rattle.term_reader.proofs.Coming.{IsPartOf, part_then, answers_whole, fails, refuses}
use Rattle.term_expansion.specs.SymbolsAndTerms.{both}

-- the first of the commands, by its shape
abbrev comes_of : Bool → Script → Items → Result ScriptCommand Refusal → Outcome Script ⊤
comes_of replaces sc rest r = going_on r sc (λ c before. goes_on_after replaces c before (script_commands replaces rest))

unfolds : (replaces : Bool) (i : Item) (rest : Items) (sc : Script) → script_commands replaces (item i rest) sc ≡ comes_of replaces sc rest (script_command_of sc.is_checked i)
unfolding script_commands
unfolds replaces i rest sc = refl

pub no_commands : (replaces : Bool) (sc : Script) → script_commands replaces no_items sc ≡ done tt sc
unfolding script_commands
no_commands replaces sc = refl

first_comes : (replaces : Bool) (i : Item) (rest : Items) (sc : Script) (whole : Outcome Script ⊤) (r : Result ScriptCommand Refusal)
    → script_command_of sc.is_checked i ≡ r → script_commands replaces (item i rest) sc ≡ whole → comes_of replaces sc rest r ≡ whole
first_comes replaces i rest sc whole r is comes = ap (comes_of replaces sc rest) (sym is) ∙ (sym (unfolds replaces i rest sc) ∙ comes)

-- what a command comes to, and then the others
abbrev then_rest : Bool → Items → Outcome Script ⊤ → Outcome Script ⊤
then_rest replaces rest o = and_then o (λ _ after. script_commands replaces rest after)

performs_first : (replaces : Bool) (c : ScriptCommand) (rest : Items) (sc : Script) → ends c ≡ false → comes_of replaces sc rest (Ok c) ≡ then_rest replaces rest (script_performed replaces c sc)
performs_first replaces c rest sc goes = rw goes refl

exits : (replaces : Bool) (c : ScriptCommand) (rest : Items) (sc : Script) → ends c ≡ true → comes_of replaces sc rest (Ok c) ≡ done tt sc
exits replaces c rest sc is = rw is refl

-- No command but an exit ends the text.
goes_further : (items : ItemsView) (c : code.Command) → (c ≡ Exit → ⊥) → ends (command_said items c) ≡ false
goes_further items (SetLogic name) other = refl
goes_further items WithoutEffect other = refl
goes_further items (DeclareSort head) other = refl
goes_further items (DeclareFun head) other = refl
goes_further items (DefineFun head body) other = refl
goes_further items (Assert t) other = refl
goes_further items CheckSat other = refl
goes_further items Exit other = absurd (other refl)

-- The nodes are those of the first command that is left, and the others stand from this place on.
pub record HasFirst (source : List ℕ) (items : ItemsView) (at : ℕ) (replaces : Bool) (sc : Script) (whole : Outcome Script ⊤) : Type 0 where
  pub others : Items
  pub some : 0 < length items.nodes
  pub all : end_at items 0 ≡ length items.nodes
  pub left : HasItems source at others
  pub comes : script_commands replaces (item (item_at items 0) others) sc ≡ whole

module _ {old new : List ℕ} {nodes slice : List Node} {from at : ℕ} {replaces : Bool} (found : (items : Items) → HasItems old from items → IsFirstItem new nodes at items) (same : slice ≡ nodes)
    {sc : Script} {whole : Outcome Script ⊤} (h : AreLeft old replaces from sc whole) where
  pub has_first : (view : ItemsView) → view ≡ record { source = new; nodes = slice } → HasFirst new view at replaces sc whole
  has_first view is =
      let f = found h.items h.here in
      rw (is, same) (record {
        others = f.others;
        some = f.here.some;
        all = f.here.whole;
        left = f.left;
        comes = ap (λ (i : Item). script_commands replaces (item i f.others) sc) f.here.item ∙ ap (λ x. script_commands replaces x sc) (sym f.split) ∙ h.comes;
      })

  pub are_nested : AreNested new slice
  are_nested = rw same (found h.items h.here).here.nested

ends_here : (source : List ℕ) {s : Table} {v : TermsView} {d : SessionView} (at : ℕ) (sc : Script) (whole : Outcome Script ⊤) → whole ≡ done tt sc → IsSession (both s v) d sc
    → Comes terms_read v (both s v) (IsCommandRead source (both s v) d at whole) whole (Ok false)
ends_here source {s} {v} at sc whole is session = record { answer = (sc, is, session); placed = places_none s v.pass v.pass _ refl }

pub nothing_left : {source : List ℕ} {s : Table} {v : TermsView} {d : SessionView} {at : ℕ} {replaces : Bool} {sc : Script} {whole : Outcome Script ⊤}
    → ((items : Items) → HasItems source at items → items ≡ no_items) → AreLeft source replaces at sc whole → IsSession (both s v) d sc → (after : List ℕ) (behind : ℕ)
    → Comes terms_read v (both s v) (IsCommandRead after (both s v) d behind whole) whole (Ok false)
nothing_left {source} {s} {v} {d} {at} {replaces} {sc} {whole} none h session after behind =
    ends_here after behind sc whole (sym h.comes ∙ (ap (λ x. script_commands replaces x sc) (none h.items h.here) ∙ no_commands replaces sc)) session

module _ {source : List ℕ} {items : ItemsView} {at : ℕ} {replaces : Bool} {sc : Script} {whole : Outcome Script ⊤} (h : HasFirst source items at replaces sc whole) {checked : Bool} (same : checked ≡ sc.is_checked) where
  first_is : (r : Result ScriptCommand Refusal) → script_command_of checked (item_at items 0) ≡ r → comes_of replaces sc h.others r ≡ whole
  first_is r found = first_comes replaces (item_at items 0) h.others sc whole r (ap (λ b. script_command_of b (item_at items 0)) (sym same) ∙ found) h.comes

  pub command_fault : (s : Table) (v : TermsView) (d : SessionView) (r : Refusal) → script_command_of checked (item_at items 0) ≡ Err r
      → Comes terms_read v (both s v) (IsCommandRead source (both s v) d at whole) whole (Err (ReadFault.Text r))
  command_fault s v d r found = refuses refl (ap (λ (o : Outcome Script ⊤). o.result) (sym (first_is (Err r) found)))

  module _ (c : code.Command) (found : script_command_of checked (item_at items 0) ≡ Ok (command_said items c)) where
    pub exit_read : {s : Table} {v : TermsView} {d : SessionView} → c ≡ Exit → IsSession (both s v) d sc → Comes terms_read v (both s v) (IsCommandRead source (both s v) d at whole) whole (Ok false)
    exit_read is session =
        ends_here source at sc whole (sym (first_is (Ok (command_said items c)) found) ∙ exits replaces (command_said items c) h.others sc (ap (λ x. ends (command_said items x)) is)) session

    module _ (other : c ≡ Exit → ⊥) where
      abbrev first_does : Outcome Script ⊤
      first_does = script_performed replaces (command_said items c) sc

      comes : then_rest replaces h.others first_does ≡ whole
      comes = sym (performs_first replaces (command_said items c) h.others sc (goes_further items c other)) ∙ first_is (Ok (command_said items c)) found

      part : IsPartOf terms_read first_does whole
      part = subst (λ (o : Outcome Script ⊤). IsPartOf terms_read first_does o) comes (part_then terms_read first_does _ (λ _ x q e. (by_commands x h.others replaces q e).0))

      -- a command more
      pub performed : {s : Table} {old new : TermsView} {d : SessionView} → d.reader.replaces_lets ≡ replaces → ComesTo terms_read old (both s new) (IsPerformed (both s new) d) first_does (Ok tt)
          → Comes terms_read old (both s new) (IsCommandRead source (both s new) d at whole) whole (Ok true)
      performed kept does =
          let after = does.answer.state in
          answers_whole whole part does (
            after,
            record { items = h.others; here = h.left; comes = ap (λ b. script_commands b h.others after) kept ∙ (sym (ap (then_rest replaces h.others) does.answer.is) ∙ comes) },
            does.answer.after.session,
          )

      pub not_performed : {s : Table} {old new : TermsView} {d : SessionView} {fault : ReadFault} → ComesTo terms_read old (both s new) (IsPerformed (both s new) d) first_does (Err fault)
          → Comes terms_read old (both s new) (IsCommandRead source (both s new) d at whole) whole (Err fault)
      not_performed does = fails whole part does
