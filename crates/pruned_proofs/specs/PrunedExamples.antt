-- Public. A proof, over numbers in the place of terms, with an assume and a subproof on which its refutation does not rest, and what
-- is left of it:
--   (assume h1 1)
--   (assume h2 2)
--   (anchor :step t1)
--   (assume t1.h 3)
--   (step t1.t (cl 4) :rule hole :premises (h1 t1.h))
--   (step t1 (cl 5) :rule subproof :discharge (t1.h))
--   (anchor :step t2)
--   (assume t2.h 6)
--   (step t2.t (cl 7) :rule hole :premises (h1))
--   (step t2 (cl 8) :rule subproof :discharge (t2.h))
--   (step t3 (cl) :rule hole :premises (t2 h1))
use Rattle.std.specs.Prelude.{ℕ, Bool, true, false, List, [], ◌∷◌, codes}
use Rattle.rule_model.specs.declared.rules.Rule.{Rule}
use Rattle.rule_model.specs.Proofs.{ProofItems, no_items, with_assume, with_step, with_subproof}
use Rattle.rule_model.specs.Worked.{plain}

-- the two subproofs, by the indices of the assume and of the premises
abbrev pub unused_subproof : ProofItems ℕ ℕ → ProofItems ℕ ℕ
unused_subproof items =
    with_subproof items []
    (with_step (with_assume no_items (codes "t1.h") 3) (plain (codes "t1.t") Rule.Hole (codes "hole") (4 ∷ []) (0 ∷ 2 ∷ []) []))
    (plain (codes "t1") Rule.Subproof (codes "subproof") (5 ∷ []) [] (2 ∷ []))

abbrev pub used_subproof : ProofItems ℕ ℕ → ℕ → ProofItems ℕ ℕ
used_subproof items assumed =
    with_subproof items []
    (with_step (with_assume no_items (codes "t2.h") 6) (plain (codes "t2.t") Rule.Hole (codes "hole") (7 ∷ []) (0 ∷ []) []))
    (plain (codes "t2") Rule.Subproof (codes "subproof") (8 ∷ []) [] (assumed ∷ []))

-- the proof
abbrev pub with_unused : ProofItems ℕ ℕ
with_unused =
    with_step
    (used_subproof (unused_subproof (with_assume (with_assume no_items (codes "h1") 1) (codes "h2") 2)) 5)
    (plain (codes "t3") Rule.Hole (codes "hole") [] (7 ∷ 0 ∷ []) [])

-- what is left of it
abbrev pub without_unused : ProofItems ℕ ℕ
without_unused =
    with_step
    (used_subproof (with_assume no_items (codes "h1") 1) 1)
    (plain (codes "t3") Rule.Hole (codes "hole") [] (3 ∷ 0 ∷ []) [])

-- which of its commands are reached from the last one
abbrev pub used_marks : List Bool
used_marks = true ∷ false ∷ false ∷ false ∷ false ∷ true ∷ true ∷ true ∷ true ∷ []
