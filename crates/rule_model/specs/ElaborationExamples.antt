-- Public. Small proofs that the laws on elaborations speak of, over numbers in the place of terms. Those here are held against
-- the worked example: a subproof with the assume 5 and a hole 6 in it, its closing step 7, and a hole with the empty clause.
use Rattle.std.specs.Prelude.{ℕ, [], ◌∷◌, codes}
use Rattle.rule_model.specs.declared.rules.Rule.{Rule}
use Rattle.rule_model.specs.Proofs.{ProofItems, no_items, with_assume, with_step, with_subproof}
use Rattle.rule_model.specs.Worked.{plain}

-- the last step
abbrev pub ending : ProofItems ℕ ℕ → Rule → ProofItems ℕ ℕ
ending items rule = with_step items (plain (codes "c") rule (codes "hole") [] [] [])

-- the subproof, with further steps inside it and before its anchor, and its assume behind one of them
abbrev pub with_more : ProofItems ℕ ℕ
with_more =
    with_subproof
    (with_step no_items (plain (codes "c1") Rule.NotNot (codes "not_not") (8 ∷ 9 ∷ []) [] []))
    []
    (with_step
    (with_step (with_assume no_items (codes "c2") 5) (plain (codes "c3") Rule.NotNot (codes "not_not") (9 ∷ 8 ∷ []) [] []))
    (plain (codes "c4") Rule.Hole (codes "hole") (6 ∷ []) (1 ∷ []) []))
    (plain (codes "c5") Rule.Subproof (codes "subproof") (7 ∷ []) [] (1 ∷ []))

-- the closing step as a step of its own
abbrev pub without_subproof : ProofItems ℕ ℕ
without_subproof = with_step no_items (plain (codes "c1") Rule.Hole (codes "hole") (7 ∷ []) [] [])
