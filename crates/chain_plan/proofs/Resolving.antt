-- Private. The resolution of a carried clause is met.
use Rattle.std.proofs.Common.{◌≡◌, ◌≢◌, inl, ℕ, Bool, List, [], ◌∷◌, ◌++◌, map, refl, sym, ap, subst, All, Contains}
use Rattle.std.proofs.lemmas.List.Elements.{All-head, All-tail, All-contains}
use Rattle.term_model.specs.Terms.{Var, Term}
use Rattle.rule_model.specs.declared.rules.Rule.{Rule}
use Rattle.rule_model.specs.Conditions.{Met}
use Rattle.rule_model.specs.Resolution.{Chains}
use Rattle.clause_chain.specs.declared.signed_term.SignedTerm.{SignedTerm}
use Rattle.chain_plan.specs.declared.plan.Source.{Source}
use Rattle.chain_plan.specs.Carried.{Carried, IsCarriedFrom, IsItem, AreSound, IsGoing}
use Rattle.chain_plan.specs.Plans.{PlannedStep, clause_of, IsSource, judged}
use Rattle.chain_plan.specs.Towers.{Towers, HasNegation, AreNumbered, terms_of}
use Rattle.chain_plan.proofs.Going.{chains_mapped, sound_more}
use Rattle.chain_plan.proofs.Joining.{image_of}

abbrev pub resolution_of : Carried → PlannedStep
resolution_of c = record { rule = Rule.Resolution; clause = c.list; premises = c.sources; pivots = c.pivots }

module _ (t : Towers) (given : List (List SignedTerm)) (steps : List PlannedStep) (sound : AreSound t given steps) (terms : ℕ → Term)
    (named : AreNumbered t terms) where
  mapped_twice : (sources : List Source)
      → map (terms_of terms) (map (clause_of given steps) sources) ≡ map (λ source. terms_of terms (clause_of given steps source)) sources
  mapped_twice [] = refl
  mapped_twice (x ∷ xs) = ap (λ cs. terms_of terms (clause_of given steps x) ∷ cs) (mapped_twice xs)

  items_of : (source : Source) → IsSource given steps source → (x : SignedTerm) → Contains (clause_of given steps source) x → IsItem t x
  items_of source is x there = All-contains (IsItem t) (clause_of given steps source) x (sound.items source is) there

  clause_items : (sources : List Source) → All (IsSource given steps) sources → (c : List SignedTerm) → Contains (map (clause_of given steps) sources) c
      → (x : SignedTerm) → Contains c x → IsItem t x
  clause_items sources all c there x in_clause =
      let i = image_of (clause_of given steps) sources c there in
      items_of i.0 (All-contains (IsSource given steps) sources i.0 all i.1) x (subst (λ cs. Contains cs x) (sym i.2) in_clause)

  chain_met : (sources : List Source) (pivots : List (ℕ × Bool)) (list : List SignedTerm) (anchors : List (List (Var × Term)))
      → All (IsSource given steps) sources → All (λ p. HasNegation t p.0) pivots → pivots ≢ [] → IsCarriedFrom given steps sources pivots list
      → Met (judged terms given steps (record { rule = Rule.Resolution; clause = list; premises = sources; pivots = pivots }) anchors)
  chain_met [] pivots list anchors all more some none = absurd none
  chain_met (first ∷ []) [] list anchors all more some carried = absurd (some refl)
  chain_met (first ∷ []) (p ∷ pivots) list anchors all more some none = absurd none
  chain_met (first ∷ o ∷ others) pivots list anchors all more some joins =
      subst (λ cs. Chains (terms_of terms (clause_of given steps first)) cs (map (λ p. (terms p.0, p.1)) pivots) (terms_of terms list))
      (mapped_twice (o ∷ others))
      (chains_mapped t terms named (clause_of given steps first) (map (clause_of given steps) (o ∷ others)) pivots list
      (items_of first (All-head (IsSource given steps) first (o ∷ others) all))
      (clause_items (o ∷ others) (All-tail (IsSource given steps) first (o ∷ others) all)) more joins)

pub resolution_sound : (t : Towers) (given : List (List SignedTerm)) (steps : List PlannedStep) (c : Carried) → AreSound t given steps
    → IsGoing t given steps c → c.pivots ≢ [] → AreSound t given (steps ++ resolution_of c ∷ [])
resolution_sound t given steps c sound going some =
    sound_more t given steps (resolution_of c) sound going.items
    (λ terms named. record {
      sources = going.sources;
      met = λ anchors. chain_met t given steps sound terms named c.sources c.pivots c.list anchors going.sources going.pivots some going.carried;
    })
    (inl refl)
