-- Names of commands, one after another.
use Rattle.std.proofs.Common.{◌≡◌, ◌<◌, ◌≤◌, ℕ, List, [], ◌∷◌, ◌++◌, length, Option, Ok, Err, find, refl, sym, ◌∙◌, ap, arith}
use Rattle.std.specs.Prelude.{bytes_eq}
use Rattle.std.proofs.lemmas.List.{append_assoc, append-nil}
use Rattle.sexpr.specs.declared.causes.Cause.TheVariants.{NoStep}
use Rattle.sexpr.specs.declared.causes.Refusal.{Refusal}
use Rattle.sexpr.specs.Items.{Items}
use Rattle.rule_model.specs.Visibility.{Sight}
use Rattle.text_items.specs.declared.nodes.Node.{Node}
use Rattle.text_items.specs.ItemsAt.{ItemsView, end_at, items_at}
use Rattle.text_items.specs.Keywords.{symbols_fault}
use Rattle.text_items.specs.Stepping.{IsItemNode, IsSymbolAt, name_in}
use Rattle.text_items.proofs.ItemsAtLemmas.{items_are, no_items_are, first_and_others}
use Rattle.term_model.proofs.Basics.{or_none}
use Rattle.problem_text.specs.Outcomes.{Outcome, done, and_then}
use Rattle.alethe_commands.specs.CommandNodes.{AreSymbolsAt}
use Rattle.alethe_text.specs.Commands.{names_in}
use Rattle.alethe_text.specs.Ids.{indices_of}
use Rattle.alethe_text.specs.States.{ProofState, Reading, ◌>>=◌, give, found}
use Rattle.alethe_reader.specs.Reach.{IsIndex}
use Rattle.alethe_reader.proofs.LeftToRead.{and_then_then, and_then_same, and_then_give}

module _ (items : ItemsView) (k end : ℕ) (less : k < end) (are : AreSymbolsAt items k end) where
  pub symbol_here : IsSymbolAt items k
  symbol_here = record { inside = omega (arith, less, are.inside); symbol = (or_none _ _ (sym (ap symbols_fault (items_are items k end less are.inside)) ∙ are.symbols)).0 }

  -- symbols stand behind the first one
  pub other_symbols : (node : Node) → IsItemNode items k node → AreSymbolsAt items node.next end
  other_symbols node read = record { inside = are.inside; symbols = (or_none _ _ (sym (ap symbols_fault (first_and_others items k end node read less are.inside)) ∙ are.symbols)).1 }

module _ (sights : List Sight) (p : ProofState) where
  -- these indices, and then those of the names that are left
  abbrev behind : List ℕ → List ℕ → Reading (List ℕ)
  behind indices others = give (indices ++ others)

  abbrev pub then_those : List ℕ → Items → Outcome ProofState (List ℕ)
  then_those indices items = and_then (indices_of sights (names_in items) p) (behind indices)

  pub left_first : (indices : List ℕ) (items : Items) → indices ≡ [] → indices_of sights (names_in items) p ≡ then_those indices items
  left_first indices items none = sym (and_then_give (indices_of sights (names_in items) p) (λ is. [] ++ is) (λ is. refl)) ∙ ap (λ is. then_those is items) (sym none)

  module _ (whole : Outcome ProofState (List ℕ)) (indices : List ℕ) (items : ItemsView) (k end : ℕ) (h : whole ≡ then_those indices (items_at items k end)) where
    pub all_read : end ≤ k → whole ≡ done indices p
    unfolding indices_of
    all_read at_end = h ∙ ap (then_those indices) (no_items_are items k end at_end) ∙ ap (λ is. done is p) (append-nil indices)

    module _ (less : k < end) (inside : end ≤ length items.nodes) where
      abbrev pub sought : Option Sight
      sought = find (λ c. bytes_eq c.id (name_in items k).name) sights

      -- with what the first name is found to be
      later : Option Sight → Outcome ProofState (List ℕ)
      later o = and_then (and_then (found o NoStep (name_in items k).place p) (λ c q. and_then (indices_of sights (names_in (items_at items (end_at items k) end)) q) (λ is. give (c.index ∷ is)))) (behind indices)

      splits : whole ≡ later sought
      unfolding indices_of ◌>>=◌ later
      splits = h ∙ ap (then_those indices) (items_are items k end less inside)

      pub fails : (refusal : Refusal) → IsIndex sought (name_in items k).place (Err refusal) → whole.result ≡ Err refusal
      unfolding later
      fails refusal none = ap (λ (o : Outcome ProofState (List ℕ)). o.result) (splits ∙ ap later none.0) ∙ ap Err (sym none.1)

      pub left_next : (node : Node) → IsItemNode items k node → (i : ℕ) → IsIndex sought (name_in items k).place (Ok i) → (after : List ℕ) → after ≡ indices ++ i ∷ [] → whole ≡ then_those after (items_at items node.next end)
      unfolding later
      left_next node read i (c, is, same) after pushed =
          let others = indices_of sights (names_in (items_at items (end_at items k) end)) p in
          splits ∙ ap later is ∙ and_then_then others _ _
          ∙ and_then_same others _ _ (λ is q. ap (λ xs. done xs q) (sym (append_assoc indices (c.index ∷ []) is) ∙ ap (λ xs. xs ++ is) (ap (λ n. indices ++ n ∷ []) same ∙ sym pushed)))
          ∙ ap (λ n. then_those after (items_at items n end)) (sym read.next)
