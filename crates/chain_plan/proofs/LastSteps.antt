-- Private. The last step of a plan.
use Rattle.std.proofs.Common.{◌≡◌, inr, ℕ, Bool, List, [], ◌∷◌, ◌++◌, refl, subst, All, Contains}
use Rattle.std.proofs.lemmas.List.Elements.{All-nil, All-cons, All-head}
use Rattle.rule_model.specs.declared.rules.Rule.{Rule}
use Rattle.rule_model.specs.Resolution.{IsFirstsOf}
use Rattle.clause_chain.specs.declared.signed_term.SignedTerm.{SignedTerm}
use Rattle.chain_plan.specs.declared.plan.Source.{Source}
use Rattle.chain_plan.specs.Carried.{Carried, IsCarriedFrom, IsItem, AreSound, IsGoing}
use Rattle.chain_plan.specs.Plans.{PlannedStep, clause_of, IsSource}
use Rattle.chain_plan.specs.Towers.{Towers, term_of, terms_of}
use Rattle.chain_plan.proofs.Going.{sound_more}
use Rattle.chain_plan.proofs.Joining.{image_in, image_of}

abbrev pub weakening_of : Source → List SignedTerm → PlannedStep
weakening_of source goal = record { rule = Rule.Weakening; clause = goal; premises = source ∷ []; pivots = [] }

pub weakening_sound : (t : Towers) (given : List (List SignedTerm)) (steps : List PlannedStep) (source : Source) (goal : List SignedTerm)
    → AreSound t given steps → IsSource given steps source → ((x : SignedTerm) → Contains (clause_of given steps source) x → Contains goal x)
    → All (IsItem t) goal → AreSound t given (steps ++ weakening_of source goal ∷ [])
weakening_sound t given steps source goal sound is within items =
    sound_more t given steps (weakening_of source goal) sound items
    (λ terms named. record {
      sources = All-cons (IsSource given steps) source [] is (All-nil (IsSource given steps));
      met = λ anchors. record {
        premise = terms_of terms (clause_of given steps source);
        one = refl;
        changed = λ u there.
            let i = image_of (term_of terms) (clause_of given steps source) u there in
            subst (Contains (terms_of terms goal)) i.2 (image_in (term_of terms) goal i.0 (within i.0 i.1));
      };
    })
    (inr (tt, refl))

-- a clause with which nothing was resolved is that of the one premise
pub record IsAlone (given : List (List SignedTerm)) (steps : List PlannedStep) (c : Carried) : Type 0 where
  pub source : Source
  pub is : c.sources ≡ source ∷ []
  pub stands : IsSource given steps source
  pub firsts : IsFirstsOf [] (clause_of given steps source) c.list

pub going_alone : (t : Towers) (given : List (List SignedTerm)) (steps : List PlannedStep) (c : Carried) → IsGoing t given steps c → c.pivots ≡ []
    → IsAlone given steps c
going_alone t given steps c going none = go c.sources c.pivots refl none going.sources going.carried
  where
    go : (sources : List Source) (pivots : List (ℕ × Bool)) → c.sources ≡ sources → pivots ≡ [] → All (IsSource given steps) sources
        → IsCarriedFrom given steps sources pivots c.list → IsAlone given steps c
    go [] pivots e none all carried = absurd carried
    go (first ∷ []) [] e none all carried =
        record { source = first; is = e; stands = All-head (IsSource given steps) first [] all; firsts = carried }
    go (first ∷ []) (p ∷ pivots) e none all carried = absurd carried
    go (first ∷ o ∷ others) [] e none all carried = absurd carried
    go (first ∷ o ∷ others) (p ∷ pivots) e none all carried = cc
