-- The terms that were read stay read by the commands of a proof.
use Rattle.std.proofs.Common.{refl, ℕ, List, [], ◌∷◌, Option, Some, None}
use Rattle.std.specs.Prelude.{⊤}
use Rattle.std.proofs.lemmas.List.Elements.{Contains-append_left}
use Rattle.sexpr.specs.declared.causes.Cause.{Cause}
use Rattle.sexpr.specs.Items.{Item, word, quoted, string, list, Items, no_items, item}
use Rattle.term_model.specs.Terms.{Var, Term}
use Rattle.rule_model.specs.Proofs.{Step, ProofItems as Proof}
use Rattle.rule_model.specs.Scopes.{Nesting, outermost, inside}
use Rattle.text_items.specs.ItemShapes.{Name, excess}
use Rattle.problem_text.specs.Scripts.{with_term}
use Rattle.alethe_text.specs.Anchors.{script_changed, argument_read, arguments_read, with_anchor, anchor_read}
use Rattle.alethe_text.specs.Arguments.{is_naming, named_in, named_among, pivots_from, arguments_from}
use Rattle.alethe_text.specs.Commands.{Attribute, rule, premises, arguments, discharge, Argument, variable_alone, assigned, Command, assume, step, anchor}
use Rattle.alethe_text.specs.Ids.{Standing, id_judged, standing_of}
use Rattle.alethe_text.specs.ProofTexts.{performed, commands, none_behind, closed_proof}
use Rattle.alethe_text.specs.States.{ProofSettings}
use Rattle.alethe_text.specs.Steps.{assume_read, attribute_read, attributes_read, step_taken, step_read}
use Rattle.alethe_reader.specs.KeptReads.{KeepsRead}
use Rattle.alethe_reader.specs.TextReading.{closing_from, left_from}
use Rattle.alethe_reader.proofs.StillRead.{keeps_give, keeps_refuse, keeps_given, keeps_demand, keeps_seen, keeps_then, keeps_either, keeps_changed, keeps_term, keeps_formula, keeps_formulas, keeps_indices}

pub keeps_id : (of_anchor : Cause) (n : Name) → KeepsRead (id_judged of_anchor n)
keeps_id of_anchor n = keeps_then _ _ (keeps_seen _) (λ scope. keeps_then _ _ (keeps_demand _ _ _) (λ _. keeps_demand _ _ _))

pub keeps_standing : (n : Name) → KeepsRead (standing_of n)
unfolding standing_of
keeps_standing n = keeps_then _ _ (keeps_seen _) (λ scope. keeps_either _ _ _ (keeps_give _) (keeps_then _ _ (keeps_id _ n) (λ _. keeps_give _)))

module _ (settings : ProofSettings) (nesting : Nesting Var Term) where
  mutual
    unfolding named_in

    pub keeps_named : (i : Item) → KeepsRead (named_in settings nesting i)
    keeps_named (word place spelling) = keeps_give tt
    keeps_named (quoted place spelling) = keeps_give tt
    keeps_named (string place spelling) = keeps_give tt
    keeps_named (list place items) = keeps_either (is_naming items) _ _ (keeps_then _ _ (keeps_term settings nesting (list place items)) (λ _. keeps_give tt)) (keeps_named_among items)

    pub keeps_named_among : (items : Items) → KeepsRead (named_among settings nesting items)
    keeps_named_among no_items = keeps_give tt
    keeps_named_among (item i rest) = keeps_then _ _ (keeps_named i) (λ _. keeps_named_among rest)

  pub keeps_pivots : (items : Items) → KeepsRead (pivots_from settings nesting items)
  unfolding pivots_from
  keeps_pivots no_items = keeps_give _
  keeps_pivots (item i no_items) = keeps_then _ _ (keeps_term settings nesting i) (λ t. keeps_give None)
  keeps_pivots (item i (item truth rest)) =
      keeps_then _ _ (keeps_term settings nesting i) (λ t. keeps_then _ _ (keeps_named truth) (λ _. keeps_then _ _ (keeps_pivots rest) (λ ps. keeps_give _)))

  pub keeps_arguments : (items : Items) (s : Step Term) → KeepsRead (arguments_from settings nesting items s)
  unfolding arguments_from
  keeps_arguments items s =
      keeps_either _ _ _ (keeps_then _ _ (keeps_given _) (λ qs. keeps_give _))
      (keeps_either _ _ _ (keeps_then _ _ (keeps_pivots items) (λ ps. keeps_give _)) (keeps_then _ _ (keeps_named_among items) (λ _. keeps_give _)))

pub keeps_attribute : (settings : ProofSettings) (at : Standing) (a : Attribute) (s : Step Term) → KeepsRead (attribute_read settings at a s)
unfolding attribute_read
keeps_attribute settings at (rule n) s = keeps_then _ _ (keeps_demand _ _ _) (λ _. keeps_give _)
keeps_attribute settings at (premises ns) s = keeps_then _ _ (keeps_indices at.sees ns) (λ indices. keeps_give _)
keeps_attribute settings at (arguments items) s = keeps_arguments settings at.nesting items s
keeps_attribute settings at (discharge ns) s = keeps_then _ _ (keeps_indices at.discharges ns) (λ indices. keeps_give _)

pub keeps_attributes : (settings : ProofSettings) (at : Standing) (others : List Attribute) (s : Step Term) → KeepsRead (attributes_read settings at others s)
unfolding attributes_read
keeps_attributes settings at [] s = keeps_give s
keeps_attributes settings at (a ∷ others) s = keeps_then _ _ (keeps_attribute settings at a s) (keeps_attributes settings at others)

pub keeps_step : (settings : ProofSettings) (n : Name) (literals : Items) (others : List Attribute) → KeepsRead (step_read settings n literals others)
unfolding step_read
keeps_step settings n literals others =
    keeps_then _ _ (keeps_standing n)
    (λ at. keeps_then _ _ (keeps_formulas settings at.nesting literals)
    (λ clause. keeps_then _ _ (keeps_attributes settings at others _) (λ s. keeps_changed (step_taken s) (λ p. refl))))

pub keeps_assume : (settings : ProofSettings) (n : Name) (i : Item) → KeepsRead (assume_read settings n i)
unfolding assume_read
keeps_assume settings n i =
    keeps_then _ _ (keeps_id _ n) (λ _. keeps_then _ _ (keeps_seen _) (λ scope. keeps_then _ _ (keeps_formula settings scope.nesting i) (λ t. keeps_changed _ (λ p. refl))))

-- a term that is read
pub keeps_more : (t : Term) → KeepsRead (script_changed (with_term t))
keeps_more t = record { keeps = λ x p h. Contains-append_left p.script.terms (t ∷ []) x h }

pub keeps_argument : (settings : ProofSettings) (earlier : List (List ℕ)) (a : Argument) → KeepsRead (argument_read settings earlier a)
unfolding argument_read
keeps_argument settings earlier (variable_alone place) = keeps_refuse _ place
keeps_argument settings earlier (assigned place x sort i) =
    keeps_then _ _ (keeps_seen _)
    (λ state. keeps_then _ _ (keeps_demand _ _ _)
    (λ _. keeps_then _ _ (keeps_demand _ _ _)
    (λ _. keeps_then _ _ (keeps_changed _ (λ p. refl))
    (λ _. keeps_then _ _ (keeps_given _)
    (λ wanted. keeps_then _ _ (keeps_term settings state.scope.nesting i)
    (λ t. keeps_then _ _ (keeps_demand _ _ _)
    (λ _. keeps_then _ _ (keeps_more _)
    (λ _. keeps_then _ _ (keeps_demand _ _ _) (λ _. keeps_give _)))))))))

pub keeps_each_argument : (settings : ProofSettings) (earlier : List (List ℕ)) (others : List Argument) → KeepsRead (arguments_read settings earlier others)
unfolding arguments_read
keeps_each_argument settings earlier [] = keeps_give []
keeps_each_argument settings earlier (a ∷ others) =
    keeps_then _ _ (keeps_argument settings earlier a) (λ b. keeps_then _ _ (keeps_each_argument settings (b.0.name ∷ earlier) others) (λ bs. keeps_give _))

pub keeps_anchor : (settings : ProofSettings) (place : ℕ) (n : Name) (others : List Argument) → KeepsRead (anchor_read settings place n others)
unfolding anchor_read
keeps_anchor settings place n others =
    keeps_then _ _ (keeps_id _ n) (λ _. keeps_then _ _ (keeps_each_argument settings [] others) (λ bindings. keeps_changed (with_anchor place n.name bindings) (λ p. refl)))

pub keeps_performed : (settings : ProofSettings) (c : Command) → KeepsRead (performed settings c)
unfolding performed
keeps_performed settings (assume n i) = keeps_assume settings n i
keeps_performed settings (step n literals others) = keeps_step settings n literals others
keeps_performed settings (anchor place n others) = keeps_anchor settings place n others

pub keeps_commands : (settings : ProofSettings) (items : Items) → KeepsRead (commands settings items)
unfolding commands
keeps_commands settings no_items = keeps_give tt
keeps_commands settings (item i rest) = keeps_then _ _ (keeps_given _) (λ c. keeps_then _ _ (keeps_performed settings c) (λ _. keeps_commands settings rest))

keeps_none_behind : (place : Option ℕ) → KeepsRead (none_behind place)
keeps_none_behind None = keeps_give tt
keeps_none_behind (Some place) = keeps_refuse _ place

keeps_closed : (nesting : Nesting Var Term) (proof : Proof Var Term) (places : List ℕ) → KeepsRead (closed_proof nesting proof places)
keeps_closed outermost proof places = keeps_give proof
keeps_closed (inside around before last) proof places = keeps_refuse _ _

pub keeps_closing : (settings : ProofSettings) (behind : Items) (u : ⊤) → KeepsRead (closing_from settings behind u)
unfolding closing_from
keeps_closing settings behind u =
    keeps_then _ _ (keeps_none_behind (excess behind)) (λ _. keeps_then _ _ (keeps_seen _) (λ s. keeps_closed s.scope.nesting s.scope.items s.anchors))

pub keeps_left : (settings : ProofSettings) (items behind : Items) → KeepsRead (left_from settings items behind)
unfolding left_from
keeps_left settings items behind = keeps_then _ _ (keeps_commands settings items) (keeps_closing settings behind)
