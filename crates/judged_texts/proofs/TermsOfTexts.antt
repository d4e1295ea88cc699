-- The terms that count as read of two texts are among those of the scripts after them.
use Rattle.std.proofs.Common.{◌≡◌, ℕ, Bool, List, ◌++◌, inl, inr}
use Rattle.std.specs.List.{Contains}
use Rattle.std.proofs.lemmas.List.Elements.{Contains-append_left, Contains-append_right}
use Rattle.sexpr.specs.Items.{Items, StandsForItems}
use Rattle.term_model.specs.Terms.{Term}
use Rattle.problem_text.specs.Problems.{problem, StandsForProblem}
use Rattle.problem_text.specs.Scripts.{Script}
use Rattle.alethe_text.specs.ProofTexts.{proof_from}
use Rattle.alethe_text.specs.States.{unread}
use Rattle.command_words.specs.declared.request.Options.{Options}
use Rattle.judged_texts.specs.Reading.{settings_of, IsPlacedByCheck, IsReadOf, NeedsRoom}

module _ (one_reading : (source : List ℕ) (a b : Items) → StandsForItems source a → StandsForItems source b → a ≡ b) where
  among_own : (text : List ℕ) (replaces_lets : Bool) (items other : Items) (t : Term) → StandsForItems text items → StandsForItems text other → Contains (problem replaces_lets other).state.terms t → Contains (problem replaces_lets items).state.terms t
  among_own text replaces_lets items other t nested there h = rw (one_reading text other items there nested) at h

  pub among_problem : (text : List ℕ) (options : Options) (proof : List ℕ) (items : Items) → StandsForItems text items
      → ((sc : Script) → StandsForProblem text options.replaces_lets sc → ⊥) → (t : Term) → IsReadOf text options proof t → Contains (problem options.replaces_lets items).state.terms t
  among_problem text options proof items nested none t (inl h) = among_own text options.replaces_lets items h.items t nested h.nested h.read
  among_problem text options proof items nested none t (inr h) = absurd (none h.script h.stands)

  pub among_both : ((source : List ℕ) (replaces : Bool) (s t : Script) → StandsForProblem source replaces s → StandsForProblem source replaces t → s ≡ t)
      → (text : List ℕ) (options : Options) (proof : List ℕ) (sc : Script) (items others : Items)
      → StandsForItems text items → StandsForItems proof others → StandsForProblem text options.replaces_lets sc → (t : Term) → IsReadOf text options proof t
      → Contains ((problem options.replaces_lets items).state.terms ++ (proof_from (settings_of options) others (unread sc)).state.script.terms) t
  among_both one_script text options proof sc items others nested behind stands t (inl h) =
      Contains-append_left _ _ t (among_own text options.replaces_lets items h.items t nested h.nested h.read)
  among_both one_script text options proof sc items others nested behind stands t (inr h) =
      Contains-append_right _ _ t (rw (one_reading proof h.counted.items others h.counted.nested behind, one_script text options.replaces_lets h.script sc h.stands stands) at h.counted.read)

-- with the terms whose cells the check places
pub among_needed : (read placed : List Term) (text : List ℕ) (options : Options) (proof : List ℕ)
    → ((t : Term) → IsReadOf text options proof t → Contains read t) → ((t : Term) → IsPlacedByCheck text options proof t → Contains placed t)
    → (t : Term) → NeedsRoom text options proof t → Contains (read ++ placed) t
among_needed read placed text options proof is_read is_placed t (inl h) = Contains-append_left _ _ t (is_read t h)
among_needed read placed text options proof is_read is_placed t (inr h) = Contains-append_right _ _ t (is_placed t h)

-- behind no problem nothing is checked
pub among_read : (read : List Term) (text : List ℕ) (options : Options) (proof : List ℕ) → ((sc : Script) → StandsForProblem text options.replaces_lets sc → ⊥)
    → ((t : Term) → IsReadOf text options proof t → Contains read t) → (t : Term) → NeedsRoom text options proof t → Contains read t
among_read read text options proof none is_read t (inl h) = is_read t h
among_read read text options proof none is_read t (inr h) = absurd (none h.script h.problem_text)
