-- Private. The literals of a command and of its premises' clauses stand for terms.
use Rattle.std.proofs.Common.{◌⊎◌, inl, inr, ℕ, List, [], ◌∷◌, Contains, flat_map, subst}
use Rattle.term_model.proofs.Lists.{contains_cases, contains_head, contains_later, contains_none}
use Rattle.term_model.specs.Terms.{Term}
use Rattle.term_pool.specs.Views.{TermsView, IsTerm, RefersTo, ReferToAll}
use Rattle.rule_model.specs.Reading.{clause_at, premises_at}
use Rattle.elaboration_laws.proofs.Reading.{clause_stands}
use Rattle.equality_steps.specs.declared.site.Site.{Site}
use Rattle.equality_blocks.specs.Commands.{IsToElaborate, clause_of_command, literals_of_command}
use Rattle.equality_ways.proofs.Places.{contains_in_either}

in_flat : {X : Type 0} (f : ℕ → List X) (js : List ℕ) (x : X) → Contains (flat_map f js) x → (j : ℕ) × Contains js j × Contains (f j) x
in_flat f [] x h = absurd (contains_none x h)
in_flat f (j ∷ js) x h = elim (contains_in_either (f j) (flat_map f js) x h) [
  | inl here ↦ (j, contains_head j js, here)
  | inr later ↦ (let rest = in_flat f js x later in (rest.0, contains_later j rest.0 js rest.1, rest.2))
]

pub refers_there : (p : Site) (v : TermsView) (rs : List ℕ) (ts : List Term) (r : ℕ) → ReferToAll p.symbols.now v rs ts → Contains rs r → IsTerm p.symbols.now v r
refers_there p v [] ts r h there = absurd (contains_none r there)
refers_there p v (x ∷ rs) [] r h there = absurd h
refers_there p v (x ∷ rs) (t ∷ ts) r h there = elim (contains_cases x r rs there) [
  | inl e ↦ record { means = t; refers = subst (λ z. RefersTo p.symbols.now v z t) e h.0 }
  | inr k ↦ refers_there p v rs ts r h.1 k
]

module _ (p : Site) (v : TermsView) (h : IsToElaborate p v) where
  pub literal_term : (r : ℕ) → Contains (literals_of_command p) r → IsTerm p.symbols.now v r
  literal_term r there = go (contains_in_either (clause_of_command p) (flat_map (clause_at p.proof.now) (premises_at p.proof.now p.command)) r there)
    where
      at_command : (j : ℕ) → Contains (clause_at p.proof.now j) r → IsTerm p.symbols.now v r
      at_command j k = refers_there p v (clause_at p.proof.now j) (clause_at h.proof j) r (clause_stands p.symbols.now v p.proof.now h.proof h.stand j) k

      go : Contains (clause_of_command p) r ⊎ Contains (flat_map (clause_at p.proof.now) (premises_at p.proof.now p.command)) r → IsTerm p.symbols.now v r
      go (inl own) = at_command p.command own
      go (inr given) = let found = in_flat (clause_at p.proof.now) (premises_at p.proof.now p.command) r given in at_command found.0 found.2
