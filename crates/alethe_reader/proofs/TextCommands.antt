-- The commands of a proof's text, the first one after the other.
use Rattle.std.proofs.Common.{◌≡◌, ◌<◌, refl, sym, ◌∙◌, ap, subst, ℕ, List, length, true, false, Result, Ok, Err}
use Rattle.std.specs.Prelude.{⊤}
use Rattle.sexpr.specs.declared.causes.Refusal.{Refusal}
use Rattle.sexpr.specs.Items.{Item, Items, no_items, item}
use Rattle.sym_table.specs.Table.{Table}
use Rattle.term_model.specs.Terms.{Var, Term}
use Rattle.term_pool.specs.Views.{TermsView}
use Rattle.term_pool.proofs.PlacedCells.{places_none}
use Rattle.rule_model.specs.Proofs.{ProofItems as Proof}
use Rattle.text_items.specs.ItemsAt.{ItemsView, end_at, item_at}
use Rattle.text_items.specs.Nesting.{AreNested}
use Rattle.text_items.specs.declared.nodes.Node.{Node}
use Rattle.problem_text.specs.Outcomes.{Outcome, going_on, and_then}
use Rattle.term_names.specs.declared.faults.ReadFault.{ReadFault}
use Rattle.term_reader.proofs.Coming.{IsPartOf, fails, answers_whole, refuses}
use Rattle.alethe_text.specs.Commands.{Command, command_of}
use Rattle.alethe_text.specs.ProofTexts.{performed, commands}
use Rattle.alethe_text.specs.States.{ProofSettings, ProofState, ◌>>=◌}
use Rattle.alethe_commands.specs.CommandNodes.{IsCommand, command_said}
use Rattle.alethe_commands.specs.declared.commands.Command as code
use Rattle.alethe_reader.specs.Answers.{terms_in, WasRead, AnswersAs}
use Rattle.alethe_commands.specs.TextItems.{HasCommandItems, IsFirst}
use Rattle.alethe_text.specs.CommandNames.{HasNames, HaveNames, IsNamed}
use Rattle.alethe_reader.specs.Sessions.{IsProofSession, StandsAfter}
use Rattle.alethe_reader.specs.Settings.{proof_settings}
use Rattle.alethe_reader.specs.TextReading.{closing_from, left_from, AreCommandsLeft, NoneLeft, ReadsProofCommand}
use Rattle.alethe_reader.specs.declared.session.Session.{Session}
use Rattle.alethe_reader.specs.declared.settings.SessionSettings.{SessionSettings}
use Rattle.alethe_text.proofs.CommandNames.{is_named_so}
use Rattle.alethe_reader.proofs.Answering.{part_of_whole}
use Rattle.alethe_reader.proofs.LeftToRead.{and_then_then}
use Rattle.alethe_reader.proofs.StillReadCommands.{keeps_left}
use Rattle.term_expansion.specs.SymbolsAndTerms.{both}

-- the first of the commands, by its shape
abbrev then_rest : ProofSettings → Items → Items → Outcome ProofState ⊤ → Outcome ProofState (Proof Var Term)
then_rest settings rest behind o = and_then o (λ _. left_from settings rest behind)

abbrev first_of : ProofSettings → Items → Items → ProofState → Result Command Refusal → Outcome ProofState (Proof Var Term)
first_of settings rest behind p r = going_on r p (λ c q. then_rest settings rest behind (performed settings c q))

unfolds : (settings : ProofSettings) (i : Item) (rest behind : Items) (p : ProofState) → left_from settings (item i rest) behind p ≡ first_of settings rest behind p (command_of i)
unfolding left_from commands ◌>>=◌
unfolds settings i rest behind p = go (command_of i)
  where
    go : (r : Result Command Refusal) → and_then (going_on r p (λ c q. and_then (performed settings c q) (λ _. commands settings rest))) (closing_from settings behind) ≡ first_of settings rest behind p r
    go (Ok c) = and_then_then (performed settings c p) (λ _. commands settings rest) (closing_from settings behind)
    go (Err refusal) = refl

none_comes : (settings : ProofSettings) (behind : Items) (p : ProofState) → left_from settings no_items behind p ≡ closing_from settings behind tt p
unfolding left_from commands ◌>>=◌
none_comes settings behind p = refl

-- the nodes are those of the first command that is left, and the others stand from this place on
pub record HasFirst (source : List ℕ) (items : ItemsView) (how : SessionSettings) (at : ℕ) (p : ProofState)
    (whole : Outcome ProofState (Proof Var Term)) : Type 0 where
  pub others : Items
  pub behind : Items
  pub some : 0 < length items.nodes
  pub ends : end_at items 0 ≡ length items.nodes
  pub left : HasCommandItems source how.in_list at others behind
  pub named : HasNames (item_at items 0) × HaveNames others
  pub comes : first_of (proof_settings how) others behind p (command_of (item_at items 0)) ≡ whole

-- some command is left of a text that is being read
abbrev pub IsLeft : List ℕ → SessionSettings → ℕ → Table → TermsView → Session → Type 0
IsLeft source how at s v d =
    (p : ProofState) × (whole : Outcome ProofState (Proof Var Term)) × AreCommandsLeft source how at p whole
    × IsProofSession (both s v) (proof_settings how) d p

-- the nodes that were read are those of the first command
pub first_nested : {how : SessionSettings} {old new : List ℕ} {nodes slice : List Node} {from at : ℕ} {s : Table} {v : TermsView} {d : Session} → slice ≡ nodes
    → ((items behind : Items) → HasCommandItems old how.in_list from items behind → IsFirst new how.in_list nodes at items behind)
    → IsLeft old how from s v d → AreNested new slice
first_nested {how} {old} {new} same found (p, whole, left, session) = subst (AreNested new) (sym same) (found left.items left.behind left.here).here.nested

module _ (how : SessionSettings) (p : ProofState) (whole : Outcome ProofState (Proof Var Term)) where
  pub has_first : (items : ItemsView) (old new : List ℕ) (nodes slice : List Node) (from at : ℕ) → items ≡ record { source = new; nodes = slice } → slice ≡ nodes
      → ((items behind : Items) → HasCommandItems old how.in_list from items behind → IsFirst new how.in_list nodes at items behind)
      → AreCommandsLeft old how from p whole → HasFirst new items how at p whole
  has_first items old new nodes slice from at is same found h =
      let f = found h.items h.behind h.here in
      rw (is, same) (record {
        others = f.others;
        behind = h.behind;
        some = f.here.some;
        ends = f.here.whole;
        left = f.left;
        named = subst (λ (i : Item). HasNames i × HaveNames f.others) (sym f.here.item) (subst HaveNames f.split h.named);
        comes = ap (λ (i : Item). first_of (proof_settings how) f.others h.behind p (command_of i)) f.here.item
            ∙ (sym (unfolds (proof_settings how) f.first f.others h.behind p)
            ∙ (ap (λ x. left_from (proof_settings how) x h.behind p) (sym f.split) ∙ h.comes));
      })

  pub none_left : (old new : List ℕ) (from at : ℕ)
      → ((items behind : Items) → HasCommandItems old how.in_list from items behind → (items ≡ no_items) × HasCommandItems new false at behind no_items)
      → AreCommandsLeft old how from p whole → NoneLeft new (proof_settings how) at p whole
  none_left old new from at none h =
      let (e, left) = none h.items h.behind h.here in
      record {
        behind = h.behind;
        here = left;
        comes = sym (none_comes (proof_settings how) h.behind p) ∙ (ap (λ x. left_from (proof_settings how) x h.behind p) (sym e) ∙ h.comes);
      }

  module _ {source : List ℕ} {items : ItemsView} {at : ℕ} (h : HasFirst source items how at p whole) where
    pub command_fault : (r : Refusal) → IsCommand items (Err r) (command_of (item_at items 0)) → whole.result ≡ Err r
    command_fault r is = ap (λ (o : Outcome ProofState (Proof Var Term)). o.result) (sym h.comes ∙ ap (first_of (proof_settings how) h.others h.behind p) is)

    -- what comes of the first command and of the others, and its names
    pub command_comes : (c : code.Command) → IsCommand items (Ok c) (command_of (item_at items 0))
        → then_rest (proof_settings how) h.others h.behind (performed (proof_settings how) (command_said items c) p) ≡ whole
    command_comes c is = ap (first_of (proof_settings how) h.others h.behind p) (sym is.0) ∙ h.comes

    pub command_named : (c : code.Command) → IsCommand items (Ok c) (command_of (item_at items 0)) → IsNamed (command_said items c)
    command_named c is = is_named_so (item_at items 0) (command_said items c) is.0 h.named.0

  part_read : (others behind : Items) (o : Outcome ProofState ⊤) → then_rest (proof_settings how) others behind o ≡ whole → IsPartOf terms_in o whole
  part_read others behind o comes =
      part_of_whole o (λ _. left_from (proof_settings how) others behind) (λ _. keeps_left (proof_settings how) others behind) comes

  -- a command more
  pub performs_well : {source : List ℕ} {s : Table} {old new : TermsView} {d : Session} {at : ℕ} {u : ⊤} (others behind : Items) (o : Outcome ProofState ⊤)
      → HasCommandItems source how.in_list at others behind → HaveNames others → then_rest (proof_settings how) others behind o ≡ whole
      → AnswersAs old (both s new) (StandsAfter (both s new) (proof_settings how) d) o (Ok u)
      → ReadsProofCommand source old (both s new) how d at whole (Ok true)
  performs_well others behind o here named comes h =
      answers_whole whole (part_read others behind o comes) h (
        h.answer.state,
        record {
          items = others;
          behind = behind;
          here = here;
          named = named;
          comes = sym (ap (then_rest (proof_settings how) others behind) h.answer.is) ∙ comes;
        },
        h.answer.after.session,
      )

  pub performs_not : {source : List ℕ} {s : Table} {old new : TermsView} {d : Session} {at : ℕ} {fault : ReadFault} (others behind : Items) (o : Outcome ProofState ⊤)
      → then_rest (proof_settings how) others behind o ≡ whole
      → AnswersAs old (both s new) (StandsAfter (both s new) (proof_settings how) d) o (Err fault)
      → ReadsProofCommand source old (both s new) how d at whole (Err fault)
  performs_not others behind o comes h = fails whole (part_read others behind o comes) h

  pub ends_here : {source : List ℕ} {s : Table} {v : TermsView} {d : Session} {at : ℕ} → NoneLeft source (proof_settings how) at p whole
      → IsProofSession (both s v) (proof_settings how) d p → ReadsProofCommand source v (both s v) how d at whole (Ok false)
  ends_here {source} {s} {v} none session = record { answer = (p, none, session); placed = places_none s v.pass v.pass (WasRead whole) refl }

  pub refused_here : {source : List ℕ} {s : Table} {v : TermsView} {d : Session} {at : ℕ} (r : Refusal) → whole.result ≡ Err r
      → ReadsProofCommand source v (both s v) how d at whole (Err (ReadFault.Text r))
  refused_here r is = refuses refl is
