-- Private. The cells that may be placed for a command, by what brings them: cells of its terms, its literals, and its rule. They are few.
use Rattle.std.proofs.Common.{◌≡◌, ◌≤◌, ◌+◌, ◌*◌, ◌⊎◌, inl, inr, ℕ, List, [], ◌∷◌, ◌++◌, length, flat_map, sym, ◌∙◌, ap, subst, arith}
use Rattle.std.proofs.lemmas.List.{length-append}
use Rattle.pair_pool.specs.Trees.{Tree}
use Rattle.pair_pool.specs.Views.{IsOneToOne}
use Rattle.term_model.specs.Flips.{equality}
use Rattle.term_model.specs.Terms.{Term}
use Rattle.term_pool.specs.CellCounts.{Has}
use Rattle.term_pool.specs.Views.{TermsView}
use Rattle.flip_steps.specs.Stages.{StandsBefore}
use Rattle.flip_steps.proofs.OrderLemmas.{references_antisymmetric}
use Rattle.rule_model.specs.declared.rules.Rule.{Rule}
use Rattle.rule_model.specs.Reading.{clause_at, premises_at}
use Rattle.equality_steps.specs.declared.site.Site.{Site}
use Rattle.equality_blocks.specs.Commands.{clause_of_command, literals_of_command, rule_of_command}
use Rattle.equality_blocks.specs.Pairs.{IsOfCongruence}
use Rattle.placing_laws.proofs.OneTrees.{IsTreeTable}
use Rattle.placing_laws.specs.Counts.{AtMost}
use Rattle.placing_laws.proofs.AtMost.{of_each, of_either, of_fewer, of_known, of_only_one, of_told}
use Rattle.placing_laws.proofs.CommandPairs.{AreMatchedBy, AreMatchedTrees, Ending, given_last, denied_last, equality_last}
use Rattle.placing_laws.proofs.CommandPairs.{IsArgumentCell, IsAssumedCell, IsCrossedCell, IsLiteralCell, IsOfNamed, IsPutInCell}
use Rattle.placing_laws.proofs.CommandPairs.{denied_or_equal, denied_or_given, few_argument_cells, few_assumed_cells, few_crossed_cells, few_implied_cells}
use Rattle.placing_laws.proofs.CommandPairs.{few_literal_cells, few_put_in_cells}
use Rattle.placing_laws.proofs.StageCells.{IsBroughtBy, few_brought}

module _ (p : Site) (v : TermsView) (table : IsTreeTable p.symbols.now) (one : IsOneToOne v.pass) where
  -- what a cell of the command's terms brings: 62 cells, with that one
  abbrev pub IsBroughtByCell : Tree → Tree → Type 0
  IsBroughtByCell = IsBroughtBy p.symbols.now table (StandsBefore p.symbols.now v) (references_antisymmetric p.symbols.now v table.table one)

  abbrev pub IsByCell : Tree → Tree → Type 0
  IsByCell key x = IsBroughtByCell key x ⊎ IsArgumentCell p v key x

  few_by_cell : (key : Tree) → AtMost 62 (IsByCell key)
  few_by_cell key =
      of_either (IsBroughtByCell key) (IsArgumentCell p v key) 30 32
      (few_brought p.symbols.now table (StandsBefore p.symbols.now v) (references_antisymmetric p.symbols.now v table.table one) key)
      (few_argument_cells p v table one key)

  -- what is brought by some of these cells, and by the literals
  abbrev pub IsByCells : List Tree → Tree → Type 0
  IsByCells cells x = (key : Tree) × Has cells key × IsByCell key x

  abbrev pub IsByLiterals : Tree → Type 0
  IsByLiterals x = (r : ℕ) × Has (literals_of_command p) r × IsLiteralCell p v r x

  few_by_literals : AtMost (16 * length (literals_of_command p)) IsByLiterals
  few_by_literals = of_each (IsLiteralCell p v) 16 (literals_of_command p) (λ r there. few_literal_cells p v table one r)

  -- by a refl, an assume, and a rule of congruence
  abbrev pub IsByPutIn : Tree → Type 0
  IsByPutIn x = (r : ℕ) × Has (literals_of_command p) r × IsPutInCell p v r x

  few_by_put_in : AtMost (48 * length (literals_of_command p)) IsByPutIn
  few_by_put_in = of_each (IsPutInCell p v) 48 (literals_of_command p) (λ r there. few_put_in_cells p v table one r)

  abbrev IsImpliedCell : Ending → Tree → Type 0
  IsImpliedCell ending = IsOfNamed (AreMatchedTrees p v ending)

  abbrev IsByGiven : Tree → Type 0
  IsByGiven x = IsImpliedCell given_last x ⊎ IsCrossedCell p v given_last x

  abbrev IsByDenied : Tree → Type 0
  IsByDenied x = IsImpliedCell denied_last x ⊎ IsCrossedCell p v denied_last x

  abbrev pub IsByMatched : Tree → Type 0
  IsByMatched x = (IsByGiven x ⊎ IsByDenied x) ⊎ IsCrossedCell p v equality_last x

  -- how many literals the command has by how its clause ends
  long_by_two : (before : List ℕ) (a b : ℕ) → clause_of_command p ≡ before ++ a ∷ b ∷ [] → 2 ≤ length (literals_of_command p)
  long_by_two before a b e =
      let whole = length-append (clause_of_command p) (flat_map (clause_at p.proof.now) (premises_at p.proof.now p.command)) in
      let clause = ap length e in
      let parts = length-append before (a ∷ b ∷ []) in
      omega arith

  long_by_one : (before : List ℕ) (a : ℕ) → clause_of_command p ≡ before ++ a ∷ [] → 1 ≤ length (literals_of_command p)
  long_by_one before a e =
      let whole = length-append (clause_of_command p) (flat_map (clause_at p.proof.now) (premises_at p.proof.now p.command)) in
      let clause = ap length e in
      let parts = length-append before (a ∷ []) in
      omega arith

  two_literals : (x : Tree) → IsByGiven x ⊎ IsByDenied x → 2 ≤ length (literals_of_command p)
  two_literals x (inl (inl h)) = let k = h.1.matched in long_by_two k.before k.denied k.given k.clause
  two_literals x (inl (inr h)) = let k = h.1.matched in long_by_two k.before k.denied k.given k.clause
  two_literals x (inr (inl h)) = let k = h.1.matched in long_by_two k.before k.given k.denied k.clause
  two_literals x (inr (inr h)) = let k = h.1.matched in long_by_two k.before k.given k.denied k.clause

  -- a clause that ends in what is denied has no other end beside, but for that of which it is given
  abbrev IsByOtherEnd : Tree → Type 0
  IsByOtherEnd x = IsCrossedCell p v given_last x ⊎ IsCrossedCell p v equality_last x

  not_both : (x z : Tree) → IsByOtherEnd x → IsByDenied z → ⊥
  not_both x z (inl h) (inl k) = denied_or_given p v table one k.1.left k.1.right (equality h.1.a h.1.b) h.1.c h.1.d k.1.matched h.1.matched
  not_both x z (inl h) (inr k) =
      denied_or_given p v table one (equality k.1.a k.1.b) (equality k.1.c k.1.d) (equality h.1.a h.1.b) h.1.c h.1.d k.1.matched h.1.matched
  not_both x z (inr h) (inl k) = denied_or_equal p v table one k.1.left k.1.right (equality h.1.a h.1.b) (equality h.1.c h.1.d) k.1.matched h.1.matched
  not_both x z (inr h) (inr k) =
      denied_or_equal p v table one (equality k.1.a k.1.b) (equality k.1.c k.1.d) (equality h.1.a h.1.b) (equality h.1.c h.1.d) k.1.matched h.1.matched

  few_other_ends : AtMost 134 (λ x. IsByOtherEnd x ⊎ IsByDenied x)
  few_other_ends =
      of_only_one IsByOtherEnd IsByDenied 134 not_both
      (of_either (IsCrossedCell p v given_last) (IsCrossedCell p v equality_last) 67 67 (few_crossed_cells p v table one given_last)
      (few_crossed_cells p v table one equality_last))
      (of_fewer IsByDenied IsByDenied 83 134 (omega arith) (λ x h. h)
      (of_either (IsImpliedCell denied_last) (IsCrossedCell p v denied_last) 16 67 (few_implied_cells p v table one denied_last)
      (few_crossed_cells p v table one denied_last)))

  few_matched : AtMost 150 IsByMatched
  few_matched =
      of_fewer IsByMatched (λ x. IsImpliedCell given_last x ⊎ (IsByOtherEnd x ⊎ IsByDenied x)) 150 150 (omega arith) among
      (of_either (IsImpliedCell given_last) (λ x. IsByOtherEnd x ⊎ IsByDenied x) 16 134 (few_implied_cells p v table one given_last) few_other_ends)
    where
      among : (x : Tree) → IsByMatched x → IsImpliedCell given_last x ⊎ (IsByOtherEnd x ⊎ IsByDenied x)
      among x (inl (inl (inl h))) = inl h
      among x (inl (inl (inr h))) = inr (inl (inl h))
      among x (inl (inr h)) = inr (inr h)
      among x (inr h) = inr (inl (inr h))

  few_by_matched : AtMost (48 * length (literals_of_command p) + 64) IsByMatched
  few_by_matched =
      of_told (λ x. IsByGiven x ⊎ IsByDenied x) (IsCrossedCell p v equality_last) (2 ≤ length (literals_of_command p))
      (48 * length (literals_of_command p) + 64) two_literals
      (λ two. of_fewer IsByMatched IsByMatched 150 (48 * length (literals_of_command p) + 64) (omega arith) (λ x h. h) few_matched)
      (of_known (IsCrossedCell p v equality_last) (1 ≤ length (literals_of_command p)) (48 * length (literals_of_command p) + 64)
      (λ x h. let k = h.1.matched in long_by_one k.before k.reference k.clause)
      (λ one_more. of_fewer (IsCrossedCell p v equality_last) (IsCrossedCell p v equality_last) 67 (48 * length (literals_of_command p) + 64) (omega arith)
      (λ x h. h) (few_crossed_cells p v table one equality_last)))

  -- these are rules of congruence
  by_congruence : (ending : Ending) (t u : Term) → AreMatchedBy p v ending t u → IsOfCongruence (rule_of_command p)
  by_congruence given_last t u h = subst IsOfCongruence (sym h.implied.rule) tt
  by_congruence denied_last t u h = subst IsOfCongruence (sym h.implied.rule) tt
  by_congruence equality_last t u h = h.rule

  matched_rule : (x : Tree) → IsByMatched x → IsOfCongruence (rule_of_command p)
  matched_rule x (inl (inl (inl h))) = by_congruence given_last h.1.left h.1.right h.1.matched
  matched_rule x (inl (inl (inr h))) = by_congruence given_last (equality h.1.a h.1.b) (equality h.1.c h.1.d) h.1.matched
  matched_rule x (inl (inr (inl h))) = by_congruence denied_last h.1.left h.1.right h.1.matched
  matched_rule x (inl (inr (inr h))) = by_congruence denied_last (equality h.1.a h.1.b) (equality h.1.c h.1.d) h.1.matched
  matched_rule x (inr h) = by_congruence equality_last (equality h.1.a h.1.b) (equality h.1.c h.1.d) h.1.matched

  -- a command has one rule
  abbrev pub IsByRule : Tree → Type 0
  IsByRule x = (IsByPutIn x ⊎ IsAssumedCell p v x) ⊎ IsByMatched x

  one_of_two : (x z : Tree) → IsByPutIn x → IsAssumedCell p v z → ⊥
  one_of_two x z h k = let e : Rule.Refl ≡ Rule.Assume = sym h.2.1.rule ∙ k.1.are.first.rule in absurd (cc)

  one_rule : (x z : Tree) → IsByPutIn x ⊎ IsAssumedCell p v x → IsByMatched z → ⊥
  one_rule x z (inl h) k = subst IsOfCongruence h.2.1.rule (matched_rule z k)
  one_rule x z (inr h) k = subst IsOfCongruence h.1.are.first.rule (matched_rule z k)

  few_by_rule : AtMost (48 * length (literals_of_command p) + 64) IsByRule
  few_by_rule =
      of_only_one (λ x. IsByPutIn x ⊎ IsAssumedCell p v x) IsByMatched (48 * length (literals_of_command p) + 64) one_rule
      (of_only_one IsByPutIn (IsAssumedCell p v) (48 * length (literals_of_command p) + 64) one_of_two
      (of_fewer IsByPutIn IsByPutIn (48 * length (literals_of_command p)) (48 * length (literals_of_command p) + 64) (omega arith) (λ x h. h) few_by_put_in)
      (of_fewer (IsAssumedCell p v) (IsAssumedCell p v) 19 (48 * length (literals_of_command p) + 64) (omega arith) (λ x h. h)
      (few_assumed_cells p v table one)))
      few_by_matched

  -- all that may be placed
  abbrev pub IsCounted : List Tree → Tree → Type 0
  IsCounted cells x = IsByCells cells x ⊎ (IsByLiterals x ⊎ IsByRule x)

  pub few_counted : (cells : List Tree) → AtMost (64 * (length cells + length (literals_of_command p) + 1)) (IsCounted cells)
  few_counted cells =
      of_fewer (IsCounted cells) (IsCounted cells) (62 * length cells + (16 * length (literals_of_command p) + (48 * length (literals_of_command p) + 64)))
      (64 * (length cells + length (literals_of_command p) + 1)) (omega arith) (λ x h. h)
      (of_either (IsByCells cells) (λ x. IsByLiterals x ⊎ IsByRule x) (62 * length cells)
      (16 * length (literals_of_command p) + (48 * length (literals_of_command p) + 64))
      (of_each IsByCell 62 cells (λ key there. few_by_cell key))
      (of_either IsByLiterals IsByRule (16 * length (literals_of_command p)) (48 * length (literals_of_command p) + 64) few_by_literals few_by_rule))
