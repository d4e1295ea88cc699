-- Private. The cells that a pass placed and did not know before, as trees.
use Rattle.std.proofs.Common.{◌≢◌, ◌⊎◌, ◌+◌, ◌*◌, inl, inr, ℕ, length, subst, arith}
use Rattle.pair_pool.specs.Trees.{Tree, cell}
use Rattle.pair_pool.specs.Views.{PassView, HasCell, HasListsInOrder, IsPlaced, Knows}
use Rattle.term_pool.specs.Placing.{IsWantedCell, PlacesCellsOf}
use Rattle.term_pool.specs.Views.{TermsView}
use Rattle.rule_model.specs.declared.rules.Rule.{Rule}
use Rattle.equality_steps.specs.declared.site.Site.{Site}
use Rattle.equality_blocks.specs.Commands.{literals_of_command, rule_of_command}
use Rattle.equality_blocks.specs.Made.{IsImageFor, IsMadeFor, IsPlacedFor}
use Rattle.elab_resolution.specs.Placed.{IsNewlyPlaced, PlacesAtMost}
use Rattle.placing_laws.specs.Counts.{AtMost}
use Rattle.placing_laws.specs.Placed.{IsPartOfImage, IsPlacedApart}
use Rattle.placing_laws.proofs.AtMost.{of_fewer, of_partners}
use Rattle.placing_laws.proofs.CommandCells.{made_cells}
use Rattle.placing_laws.proofs.CountedCells.{few_counted}
use Rattle.placing_laws.proofs.OwnCells.{Counting, IsPlacedCell}

of_parts : (pass : PassView) (r a b : ℕ) (s t : Tree) → HasCell pass r a b → Knows pass a s → Knows pass b t → Knows pass r (cell s t)
unfolding Knows
of_parts pass r a b s t h k l = (a, b, h, k, l)

module _ (p : Site) (old new : TermsView) (earlier : HasListsInOrder old.pass) (later : HasListsInOrder new.pass)
    (places : PlacesCellsOf p.symbols.now old.pass new.pass (IsPlacedFor p new)) (counting : Counting p new) where
  -- the tree of such a cell is counted, or is of an image
  as_tree : (r : ℕ) → IsPlacedApart p old new r → (tree : Tree) × Knows new.pass r tree × IsPlacedCell p new counting tree
  as_tree r h = go (places r h.placed.first h.placed.second h.placed.placed)
    where
      wanted : (w : IsWantedCell p.symbols.now new.pass (IsPlacedFor p new) h.placed.first h.placed.second) → IsMadeFor p new w.whole ⊎ IsImageFor p new w.whole
          → (tree : Tree) × Knows new.pass r tree × IsPlacedCell p new counting tree
      wanted w made = (
        cell w.cell.first w.cell.second,
        known,
        elim made [
          | inl of_command ↦ made_cells p new counting w.whole w.tree (cell w.cell.first w.cell.second) of_command w.stands tt w.cell.part
          | inr image ↦ absurd (h.apart (record {
            image = w.whole;
            is = image;
            tree = w.tree;
            stands = w.stands;
            part = cell w.cell.first w.cell.second;
            known = known;
            within = w.cell.part;
          }))
        ],
      )
        where
          known : Knows new.pass r (cell w.cell.first w.cell.second)
          known =
              of_parts new.pass r h.placed.first h.placed.second w.cell.first w.cell.second (later.placed r h.placed.first h.placed.second h.placed.placed)
              w.cell.first_known w.cell.second_known

      go : IsPlaced old.pass r h.placed.first h.placed.second ⊎ IsWantedCell p.symbols.now new.pass (IsPlacedFor p new) h.placed.first h.placed.second
          → (tree : Tree) × Knows new.pass r tree × IsPlacedCell p new counting tree
      go (inl before) = absurd (h.placed.unknown (earlier.placed r h.placed.first h.placed.second before))
      go (inr w) = wanted w w.wanted

  pub few_apart : AtMost (64 * (counting.number + length (literals_of_command p) + 1)) (IsPlacedApart p old new)
  few_apart =
      subst (λ m. AtMost (64 * (m + length (literals_of_command p) + 1)) (IsPlacedApart p old new)) counting.counts.count
      (of_partners (Knows new.pass) (IsPlacedApart p old new) (IsPlacedCell p new counting)
      (64 * (length counting.counts.cells + length (literals_of_command p) + 1)) (λ x z y h k. counting.one.one_reference x z y h k) as_tree
      (few_counted p new counting.table counting.one counting.counts.cells))

  -- by another rule than refl no image may be placed
  no_image : rule_of_command p ≢ Rule.Refl → (r : ℕ) → IsNewlyPlaced old.pass new.pass r → IsPlacedApart p old new r
  no_image other r h = record { placed = h; apart = λ (k : IsPartOfImage p new r). other k.is.rule }

  pub few_all : rule_of_command p ≢ Rule.Refl → PlacesAtMost old.pass new.pass (64 * (counting.number + length (literals_of_command p) + 1))
  few_all other =
      of_fewer (IsNewlyPlaced old.pass new.pass) (IsPlacedApart p old new) (64 * (counting.number + length (literals_of_command p) + 1))
      (64 * (counting.number + length (literals_of_command p) + 1)) (omega arith) (no_image other) few_apart
