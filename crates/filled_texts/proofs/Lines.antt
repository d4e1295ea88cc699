-- The lines of holes, one by one.
use Rattle.std.proofs.Common.{◌≡◌, ◌≢◌, ◌≤◌, ◌<◌, ◌+◌, ℕ, zero, suc, Bool, true, false, not, List, [], ◌∷◌, ◌++◌, length, min, slice_index_or, take, refl, sym, ap, ◌∙◌}
use Rattle.std.proofs.Common.{append_assoc, append-nil, add-one, arith}
use Rattle.std.proofs.Math.Bool.{beq}
use Rattle.judged_texts.specs.declared.judgement.Hole.{Hole}
use Rattle.filled_texts.specs.Printed.{line_where, lines_where}

no_line : (which f : Bool) (hole : Hole) → f ≢ which → line_where which hole f ≡ []
no_line true true hole h = absurd (h refl)
no_line true false hole h = refl
no_line false true hole h = refl
no_line false false hole h = absurd (h refl)

differ : (a b : Bool) → not (beq a b) ≡ true → a ≢ b
differ true true e = absurd cc
differ true false e = λ same. absurd cc
differ false true e = λ same. absurd cc
differ false false e = absurd cc

are_one : (a b : Bool) → not (beq a b) ≡ false → a ≡ b
are_one true true e = refl
are_one true false e = absurd cc
are_one false true e = absurd cc
are_one false false e = refl

module _ (which d : Bool) where
  -- the next hole gets a line
  next : (holes : List Hole) (filled : List Bool) (i : ℕ) (hole : Hole) → i < length holes → i < length filled → hole ≡ slice_index_or holes i hole →
      slice_index_or filled i d ≡ which →
      lines_where which (take (suc i) holes) (take (suc i) filled) ≡ lines_where which (take i holes) (take i filled) ++ line_where which hole which
  next [] filled i hole h k is told = absurd (omega (arith, h))
  next (x ∷ holes) [] i hole h k is told = absurd (omega (arith, k))
  next (x ∷ holes) (y ∷ filled) zero hole h k is told =
      append-nil (line_where which x y) ∙ (ap (λ z. line_where which z y) (sym is) ∙ ap (line_where which hole) told)
  next (x ∷ holes) (y ∷ filled) (suc i) hole h k is told =
      ap (λ l. line_where which x y ++ l) (next holes filled i hole (omega (arith, h)) (omega (arith, k)) is told)
      ∙ sym (append_assoc (line_where which x y) (lines_where which (take i holes) (take i filled)) (line_where which hole which))

  -- the next one gets none
  none_next : (holes : List Hole) (filled : List Bool) (i : ℕ) → i < length holes → i < length filled → slice_index_or filled i d ≢ which →
      lines_where which (take (suc i) holes) (take (suc i) filled) ≡ lines_where which (take i holes) (take i filled)
  none_next [] filled i h k other = absurd (omega (arith, h))
  none_next (x ∷ holes) [] i h k other = absurd (omega (arith, k))
  none_next (x ∷ holes) (y ∷ filled) zero h k other = append-nil (line_where which x y) ∙ no_line which y x other
  none_next (x ∷ holes) (y ∷ filled) (suc i) h k other =
      ap (λ l. line_where which x y ++ l) (none_next holes filled i (omega (arith, h)) (omega (arith, k)) other)

  module _ (holes : List Hole) (filled : List Bool) (i : ℕ) (within : i < length holes) (told_of : i < length filled) (first old : List ℕ)
      (before : old ≡ first ++ lines_where which (take i holes) (take i filled)) where
    pub one_more : (hole : Hole) → hole ≡ slice_index_or holes i hole → not (beq (slice_index_or filled i d) which) ≡ false → (new : List ℕ) →
        new ≡ old ++ line_where which hole which → new ≡ first ++ lines_where which (take (i + 1) holes) (take (i + 1) filled)
    one_more hole is told new added =
        rw (add-one i, next holes filled i hole within told_of is (are_one (slice_index_or filled i d) which told))
        (added ∙ (ap (λ l. l ++ line_where which hole which) before
        ∙ append_assoc first (lines_where which (take i holes) (take i filled)) (line_where which hole which)))

    pub none_more : not (beq (slice_index_or filled i d) which) ≡ true → old ≡ first ++ lines_where which (take (i + 1) holes) (take (i + 1) filled)
    none_more other = rw (add-one i, none_next holes filled i within told_of (differ (slice_index_or filled i d) which other)) before

pub lines_end : (which : Bool) (holes : List Hole) (filled : List Bool) (n : ℕ) → min (length holes) (length filled) ≤ n →
    lines_where which (take n holes) (take n filled) ≡ lines_where which holes filled
lines_end which [] filled zero h = refl
lines_end which [] filled (suc n) h = refl
lines_end which (x ∷ holes) [] zero h = refl
lines_end which (x ∷ holes) [] (suc n) h = refl
lines_end which (x ∷ holes) (y ∷ filled) zero h = absurd (omega (arith, h))
lines_end which (x ∷ holes) (y ∷ filled) (suc n) h = ap (λ l. line_where which x y ++ l) (lines_end which holes filled n (omega (arith, h)))
