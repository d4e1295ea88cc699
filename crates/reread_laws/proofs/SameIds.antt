-- Private. A proof with its ids numbered differs from it in ids alone, and its commands have the same words of rules.
use Rattle.std.proofs.Common.{◌≡◌, ℕ, zero, suc, List, [], ◌∷◌, ◌++◌, map, slice_get, refl, ap, sym, ◌∙◌}
use Rattle.std.specs.Option.{option_map_or}
use Rattle.std.proofs.lemmas.List.{map-append}
use Rattle.rule_model.specs.declared.statuses.Status.{Status}
use Rattle.rule_model.specs.Commands.{Line, lines_in, entry_of}
use Rattle.rule_model.specs.Holes.{hole_words_from}
use Rattle.rule_model.specs.LeftOut.{without_ids, IsSameUpToIds}
use Rattle.rule_model.specs.Proofs.{ProofItems, no_items, with_assume, with_step, with_subproof}
use Rattle.rule_model.specs.Reading.{rule_name_of, rule_name_at}
use Rattle.rule_model.specs.Scopes.{Nesting, outermost, inner}
use Rattle.printed_proofs.specs.Numbered.{numbered, numbered_proof}

module _ {V T : Type 0} where
  without_numbers : (nesting : Nesting V T) (items : ProofItems V T) → without_ids items ≡ without_ids (numbered nesting items)
  without_numbers nesting no_items = refl
  without_numbers nesting (with_assume items id t) = ap (λ xs. with_assume xs [] t) (without_numbers nesting items)
  without_numbers nesting (with_step items s) = ap (λ xs. with_step xs (record s { id = [] })) (without_numbers nesting items)
  without_numbers nesting (with_subproof items bindings proof s) =
      ap (λ xs. with_subproof xs bindings (without_ids proof) (record s { id = [] })) (without_numbers nesting items)
      ∙ ap (λ xs. with_subproof (without_ids (numbered nesting items)) bindings xs (record s { id = [] }))
      (without_numbers (inner nesting items bindings s) proof)

  pub same_up_to_ids : (proof : ProofItems V T) → IsSameUpToIds proof (numbered_proof proof)
  same_up_to_ids proof = without_numbers outermost proof

  -- the words of the rules, in file order: an assume has none
  abbrev words : ProofItems V T → List (List ℕ)
  words no_items = []
  words (with_assume items id t) = words items ++ [] ∷ []
  words (with_step items s) = words items ++ s.rule_name ∷ []
  words (with_subproof items bindings proof s) = (words items ++ words proof) ++ s.rule_name ∷ []

  numbered_words : (nesting : Nesting V T) (items : ProofItems V T) → words (numbered nesting items) ≡ words items
  numbered_words nesting no_items = refl
  numbered_words nesting (with_assume items id t) = ap (λ ws. ws ++ [] ∷ []) (numbered_words nesting items)
  numbered_words nesting (with_step items s) = ap (λ ws. ws ++ s.rule_name ∷ []) (numbered_words nesting items)
  numbered_words nesting (with_subproof items bindings proof s) =
      ap (λ ws. (ws ++ words (numbered (inner nesting items bindings s) proof)) ++ s.rule_name ∷ []) (numbered_words nesting items)
      ∙ ap (λ ws. (words items ++ ws) ++ s.rule_name ∷ []) (numbered_words (inner nesting items bindings s) proof)

  abbrev word_of : Line V T → List ℕ
  word_of l = rule_name_of l.command

  words_of_lines : (nesting : Nesting V T) (items : ProofItems V T) → map word_of (lines_in nesting items) ≡ words items
  words_of_lines nesting no_items = refl
  words_of_lines nesting (with_assume items id t) =
      map-append word_of (lines_in nesting items) _ ∙ ap (λ ws. ws ++ [] ∷ []) (words_of_lines nesting items)
  words_of_lines nesting (with_step items s) =
      map-append word_of (lines_in nesting items) _ ∙ ap (λ ws. ws ++ s.rule_name ∷ []) (words_of_lines nesting items)
  words_of_lines nesting (with_subproof items bindings proof s) =
      let inside : List (Line V T) = lines_in (inner nesting items bindings s) proof in
      map-append word_of (lines_in nesting items ++ inside) _
      ∙ ap (λ ws. ws ++ s.rule_name ∷ [])
      (map-append word_of (lines_in nesting items) inside
      ∙ (ap (λ ws. ws ++ map word_of inside) (words_of_lines nesting items)
      ∙ ap (λ ws. words items ++ ws) (words_of_lines (inner nesting items bindings s) proof)))

  word_at : (lines : List (Line V T)) (i : ℕ)
      → option_map_or (λ e. rule_name_of e.command) (slice_get (map entry_of lines) i) []
      ≡ option_map_or (λ w. w) (slice_get (map word_of lines) i) []
  word_at [] i = refl
  word_at (l ∷ lines) zero = refl
  word_at (l ∷ lines) (suc i) = word_at lines i

  same_words : (proof : ProofItems V T) (i : ℕ) → rule_name_at (numbered_proof proof) i ≡ rule_name_at proof i
  same_words proof i =
      word_at (lines_in outermost (numbered_proof proof)) i
      ∙ (ap (λ ws. option_map_or (λ w. w) (slice_get ws i) [])
      (words_of_lines outermost (numbered_proof proof) ∙ (numbered_words outermost proof ∙ sym (words_of_lines outermost proof)))
      ∙ sym (word_at (lines_in outermost proof) i))

  pub same_hole_words : (proof : ProofItems V T) (i : ℕ) (statuses : List Status)
      → hole_words_from (numbered_proof proof) i statuses ≡ hole_words_from proof i statuses
  same_hole_words proof i [] = refl
  same_hole_words proof i (Status.Hole ∷ statuses) =
      ap (λ w. w ∷ hole_words_from (numbered_proof proof) (suc i) statuses) (same_words proof i)
      ∙ ap (λ ws. rule_name_at proof i ∷ ws) (same_hole_words proof (suc i) statuses)
  same_hole_words proof i (Status.Ok ∷ statuses) = same_hole_words proof (suc i) statuses
  same_hole_words proof i (Status.Wide ∷ statuses) = same_hole_words proof (suc i) statuses
  same_hole_words proof i (Status.Faulty cause ∷ statuses) = same_hole_words proof (suc i) statuses
