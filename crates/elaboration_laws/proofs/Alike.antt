-- Scopes over references and over terms that correspond, and what can be seen in them.
use Rattle.std.proofs.Common.{◌≡◌, ◌+◌, ℕ, List, [], ◌∷◌, ◌++◌, map, refl, ap, arith}
use Rattle.std.specs.List.{AllZip}
use Rattle.sym_table.specs.Table.{Table}
use Rattle.term_model.proofs.Zips.{zip_append}
use Rattle.term_model.specs.Terms.{Var, Term}
use Rattle.term_pool.specs.Bindings.{IsBindingOf}
use Rattle.term_pool.specs.Views.{TermsView}
use Rattle.proof_store.specs.Meaning.{IsProofStepOf, StandForItems, no_items_stand, assume_stands, step_stands, subproof_stands}
use Rattle.proof_store.proofs.MeaningLemmas.{commands_same}
use Rattle.rule_model.specs.Proofs.{Step, ProofItems}
use Rattle.rule_model.specs.Scopes.{Anchor, Nesting, outermost, inside, inner, commands_in, first_index}
use Rattle.rule_model.specs.Visibility.{Sight, sight, direct, direct_assumes, seen_around, seen, assumes_in, open_ids, open_bindings}

pub record Alike (s : Table) (v : TermsView) (n : Nesting ℕ ℕ) (m : Nesting Var Term) : Type 0 where
  pub first : first_index n ≡ first_index m
  pub around : seen_around n ≡ seen_around m
  pub ids : open_ids n ≡ open_ids m
  pub bound : AllZip (IsBindingOf s v) (open_bindings n) (open_bindings m)
  pub outer : n ≡ outermost → m ≡ outermost

pub outermost_alike : (s : Table) (v : TermsView) → Alike s v outermost outermost
outermost_alike s v = record { first = refl; around = refl; ids = refl; bound = tt; outer = λ e. refl }

module _ (s : Table) (v : TermsView) where
  direct_same : (n : Nesting ℕ ℕ) (m : Nesting Var Term) (is : ProofItems ℕ ℕ) (ps : ProofItems Var Term) → first_index n ≡ first_index m → StandForItems s v is ps → direct n is ≡ direct m ps
  direct_same n m _ _ first no_items_stand = refl
  direct_same n m _ _ first (assume_stands is ps id r t h refers) =
      let before = direct_same n m is ps first h in
      let count = commands_same s v is ps h in
      let index : first_index n + commands_in is ≡ first_index m + commands_in ps = omega arith in
      λ i. before i ++ sight (index i) id ∷ []
  direct_same n m _ _ first (step_stands is ps step of h stands) =
      let before = direct_same n m is ps first h in
      let count = commands_same s v is ps h in
      let index : first_index n + commands_in is ≡ first_index m + commands_in ps = omega arith in
      let id = stands.id in
      λ i. before i ++ sight (index i) (id i) ∷ []
  direct_same n m _ _ first (subproof_stands is ps bs cs within proof step of h b g stands) =
      let before = direct_same n m is ps first h in
      let count = commands_same s v is ps h in
      let deep = commands_same s v within proof g in
      let index : first_index n + (commands_in is + commands_in within) ≡ first_index m + (commands_in ps + commands_in proof) = omega arith in
      let id = stands.id in
      λ i. before i ++ sight (index i) (id i) ∷ []

  direct_assumes_same : (n : Nesting ℕ ℕ) (m : Nesting Var Term) (is : ProofItems ℕ ℕ) (ps : ProofItems Var Term) → first_index n ≡ first_index m → StandForItems s v is ps
      → direct_assumes n is ≡ direct_assumes m ps
  direct_assumes_same n m _ _ first no_items_stand = refl
  direct_assumes_same n m _ _ first (assume_stands is ps id r t h refers) =
      let before = direct_assumes_same n m is ps first h in
      let count = commands_same s v is ps h in
      let index : first_index n + commands_in is ≡ first_index m + commands_in ps = omega arith in
      λ i. before i ++ sight (index i) id ∷ []
  direct_assumes_same n m _ _ first (step_stands is ps step of h stands) = direct_assumes_same n m is ps first h
  direct_assumes_same n m _ _ first (subproof_stands is ps bs cs within proof step of h b g stands) = direct_assumes_same n m is ps first h

  pub assumes_same : (n : Nesting ℕ ℕ) (m : Nesting Var Term) (is : ProofItems ℕ ℕ) (ps : ProofItems Var Term) → Alike s v n m → StandForItems s v is ps → assumes_in n is ≡ assumes_in m ps
  assumes_same n m is ps a h = ap (map (λ (x : Sight). x.index)) (direct_assumes_same n m is ps a.first h)

  pub seen_same : (n : Nesting ℕ ℕ) (m : Nesting Var Term) (is : ProofItems ℕ ℕ) (ps : ProofItems Var Term) → Alike s v n m → StandForItems s v is ps → seen n is ≡ seen m ps
  seen_same n m is ps a h =
      let around = a.around in let here = direct_same n m is ps a.first h in λ i. around i ++ here i

  pub inner_alike : (n : Nesting ℕ ℕ) (m : Nesting Var Term) (is : ProofItems ℕ ℕ) (ps : ProofItems Var Term) (bs : List (ℕ × ℕ)) (cs : List (Var × Term)) (step : Step ℕ) (of : Step Term)
      → Alike s v n m → StandForItems s v is ps → AllZip (IsBindingOf s v) bs cs → IsProofStepOf s v step of → Alike s v (inner n is bs step) (inner m ps cs of)
  inner_alike n m is ps bs cs step of a h bound stands = record {
    first = let f = a.first in let count = commands_same s v is ps h in omega arith;
    around = seen_same n m is ps a h;
    ids = let ids = a.ids in let id = stands.id in λ i. ids i ++ id i ∷ [];
    bound = zip_append (IsBindingOf s v) (open_bindings n) (open_bindings m) bs cs a.bound bound;
    outer = λ e. absurd (nothing n is (record { id = step.id; bindings = bs }) e);
  }
    where
      nothing : (n : Nesting ℕ ℕ) (is : ProofItems ℕ ℕ) (anchor : Anchor ℕ ℕ) → inside n is anchor ≡ outermost → ⊥
      nothing n is anchor e = cc
