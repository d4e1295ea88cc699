-- The holes that are found on the way over the commands.
use Rattle.std.proofs.Common.{◌≡◌, ◌≢◌, ℕ, zero, suc, ◌+◌, ◌<◌, ◌≤◌, List, [], ◌∷◌, ◌++◌, length, drop, slice_get, slice_index_or, Some, refl, sym, ap, ◌∙◌, arith, append_assoc, append-nil}
use Rattle.std.specs.List.{flat_map}
use Rattle.std.proofs.Math.Numerals.{add-one}
use Rattle.rule_model.specs.declared.statuses.Status.{Status}
use Rattle.rule_model.specs.Proofs.{ProofItems}
use Rattle.rule_model.specs.Reading.{id_at, rule_name_at}
use Rattle.judged_texts.specs.Holes.{holes_from}

module _ {V T : Type 0} (proof : ProofItems V T) where
  -- behind the last command there is none
  pub none_behind : (i k : ℕ) (statuses : List Status) → length statuses ≤ k → holes_from proof i (drop k statuses) ≡ []
  none_behind i zero [] e = refl
  none_behind i zero (s ∷ statuses) e = absurd (omega (arith, e))
  none_behind i (suc k) [] e = refl
  none_behind i (suc k) (s ∷ statuses) e = none_behind i k statuses (omega (arith, e))

  -- the next command is a hole, or it is none
  pub one_behind : (i k : ℕ) (statuses : List Status) → slice_get statuses k ≡ Some Status.Hole → holes_from proof i (drop k statuses) ≡ record { id = id_at proof i; rule = rule_name_at proof i } ∷ holes_from proof (suc i) (drop (suc k) statuses)
  one_behind i zero [] e = absurd (cc)
  one_behind i zero (s ∷ statuses) e = let is : s ≡ Status.Hole = cc in rw is refl
  one_behind i (suc k) [] e = absurd (cc)
  one_behind i (suc k) (s ∷ statuses) e = one_behind i k statuses e

  not_behind : (i : ℕ) (s : Status) (statuses : List Status) → s ≢ Status.Hole → holes_from proof i (s ∷ statuses) ≡ holes_from proof (suc i) statuses
  not_behind i Status.Ok statuses h = refl
  not_behind i Status.Hole statuses h = absurd (h refl)
  not_behind i (Status.Faulty cause) statuses h = refl
  not_behind i Status.Wide statuses h = refl

  pub more_behind : (i k : ℕ) (statuses : List Status) (s : Status) → slice_get statuses k ≡ Some s → s ≢ Status.Hole → holes_from proof i (drop k statuses) ≡ holes_from proof (suc i) (drop (suc k) statuses)
  more_behind i zero [] s e h = absurd (cc)
  more_behind i zero (z ∷ statuses) s e h = let is : z ≡ s = cc in rw is (not_behind i s statuses h)
  more_behind i (suc k) [] s e h = absurd (cc)
  more_behind i (suc k) (z ∷ statuses) s e h = more_behind i k statuses s e h

-- the lines of the elements from a place on
module _ {A : Type 0} (f : A → List ℕ) where
  lines_suc : (xs : List A) (k : ℕ) (x : A) → k < length xs → x ≡ slice_index_or xs k x → flat_map f (drop k xs) ≡ f x ++ flat_map f (drop (suc k) xs)
  lines_suc [] k x h e = absurd (omega (arith, h))
  lines_suc (y ∷ xs) zero x h e = ap (λ z. f z ++ flat_map f xs) (sym e)
  lines_suc (y ∷ xs) (suc k) x h e = lines_suc xs k x (omega (arith, h)) e

  pub lines_step : (xs : List A) (k : ℕ) (x : A) (old new whole : List ℕ) → k < length xs → x ≡ slice_index_or xs k x → new ≡ old ++ f x
      → old ++ flat_map f (drop k xs) ≡ whole → new ++ flat_map f (drop (k + 1) xs) ≡ whole
  lines_step xs k x old new whole h e added kept =
      let more : flat_map f (drop k xs) ≡ f x ++ flat_map f (drop (k + 1) xs) = rw (add-one k) (lines_suc xs k x h e) in
      rw added (append_assoc old (f x) (flat_map f (drop (k + 1) xs)) ∙ ap (λ l. old ++ l) (sym more) ∙ kept)

  no_lines : (xs : List A) (k : ℕ) → length xs ≤ k → flat_map f (drop k xs) ≡ []
  no_lines [] zero h = refl
  no_lines [] (suc k) h = refl
  no_lines (y ∷ xs) zero h = absurd (omega (arith, h))
  no_lines (y ∷ xs) (suc k) h = no_lines xs k (omega (arith, h))

  pub lines_end : (xs : List A) (k : ℕ) (text whole : List ℕ) → length xs ≤ k → text ++ flat_map f (drop k xs) ≡ whole → text ≡ whole
  lines_end xs k text whole h kept = sym (append-nil text) ∙ ap (λ l. text ++ l) (sym (no_lines xs k h)) ∙ kept
