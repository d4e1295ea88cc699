-- What the calls of a pool say, from what its table's functions say.
use Rattle.std.proofs.Common.{◌≡◌, ◌≢◌, ℕ, ◌+◌, ◌-◌, ◌*◌, ◌^◌, ◌<◌, ◌≤◌, ◌⊎◌, inl, inr, List, ◌∷◌, ◌++◌, length, arith}
use Rattle.std.proofs.Math.Nat.{mod-lt}
use Rattle.std.proofs.lemmas.Nat.{pow_pos}
use Rattle.std.proofs.lemmas.List.Elements.{All-contains}
use Rattle.pair_pool.specs.declared.holder.Holder.{Holder}
use Rattle.pair_pool.specs.Trees.{Tree, cell}
use Rattle.pair_pool.specs.Decoding.{HasTreesWithin}
use Rattle.pair_pool.specs.Views.{Cell, PassView, IsListed, IsSeen, IsPlaced, SeesMore, HasCell, Knows, IsKnown, Grows, AddsAtMost, IsFullFor, IsOneToOne}
use Rattle.pair_pool.specs.Views.{HasPartsOfTrees, HasListsInOrder}
use Rattle.pair_pool.specs.Words.{probe_start, probe_place, IsCell}
use Rattle.pair_pool.specs.GoodStates.{TellsTruth}
use Rattle.pair_pool.specs.Holders.{view_of, IsListedPart, cell_of}
use Rattle.pair_pool.specs.Sharing.{IsInGood, Sought, Missed}
use Rattle.pair_pool.proofs.WordLemmas.{one_cell, one_place}
use Rattle.pair_pool.proofs.ProbeLemmas.{comes_to}
use Rattle.pair_pool.proofs.PassLemmas.{known_is_reference, known_every_cell, known_first_part, known_second_part, known_parts, grows_from_cells}
use Rattle.pair_pool.proofs.StateLemmas.{one_to_one, parts_of_trees, whole_pass}
use Rattle.pair_pool.proofs.DecodingLemmas.{trees_within}
use Rattle.pair_pool.proofs.SharedLemmas.{listed_here, listed_more, listed_cases}
use Rattle.pair_pool.proofs.SharingLemmas.{listed_left, listed_right, listed_either}

-- ---- a pass of a good state

module _ (pass : PassView) (is : IsInGood pass) where
  pub good_truth : TellsTruth is.state.words pass
  good_truth = All-contains (TellsTruth is.state.words) is.state.passes pass is.good.passes is.among

  pub good_one_to_one : IsOneToOne pass
  good_one_to_one = one_to_one is.state.words pass good_truth is.good.table

  pub good_parts : HasPartsOfTrees pass
  good_parts = parts_of_trees is.state.words pass good_truth is.good.table

  pub good_lists : HasListsInOrder pass
  good_lists = record {
    placed = good_truth.placed;
    known = good_truth.known;
    one_first = λ r a b c d g h. (one_cell is.state.words r a b c d (good_truth.seen r a b g) (good_truth.seen r c d h)).0;
    one_second = λ r a b c d g h. (one_cell is.state.words r a b c d (good_truth.seen r a b g) (good_truth.seen r c d h)).1;
    one_place = λ p q a b g h. one_place is.state.words is.good.table p q a b (good_truth.seen p a b g) (good_truth.seen q a b h);
    whole = λ all r a b h. whole_pass is.state is.good pass is.among all r a b (good_truth.seen r a b h);
    size = let most : length is.state.words ≤ 2 ^ 26 = is.good.table.most in rw good_truth.places most;
  }

  pub good_trees : HasTreesWithin pass
  good_trees = trees_within pass good_one_to_one good_parts good_lists

  pub good_part : (r : ℕ) → IsKnown pass r → IsListedPart pass.known r
  good_part r known = known_is_reference is.state.words pass good_truth r known

  pub good_cell : (r a b : ℕ) → HasCell pass r a b → IsKnown pass r
  good_cell r a b h = known_every_cell is.state.words pass good_truth is.good.table r a b h

  pub good_first : (r a b : ℕ) → HasCell pass r a b → IsKnown pass a
  good_first r a b h = known_first_part is.state.words pass good_truth is.good.table r a b h

  pub good_second : (r a b : ℕ) → HasCell pass r a b → IsKnown pass b
  good_second r a b h = known_second_part is.state.words pass good_truth is.good.table r a b h

  pub good_both : (r c d : ℕ) → HasCell pass r c d → (s t : Tree) → Knows pass r (cell s t) → Knows pass c s × Knows pass d t
  good_both = known_parts is.state.words pass good_truth is.good.table

  pub good_as_cell : (r : ℕ) → 2 ^ 30 ≤ r → IsKnown pass r → (a : ℕ) × (b : ℕ) × IsListed pass.known r a b
  good_as_cell r high known = go (good_part r known)
    where
      go : IsListedPart pass.known r → (a : ℕ) × (b : ℕ) × IsListed pass.known r a b
      go (inl low) = absurd (omega arith)
      go (inr h) = h

  pub good_not_full : (r a b : ℕ) → HasCell pass r a b → IsFullFor pass a b → ⊥
  good_not_full r a b h full =
      let here = good_truth.seen r a b (good_truth.known r a b h) in
      let high : 2 ^ 30 ≤ r = here.is_cell in
      let bound : r < 2 ^ 30 + length is.state.words = here.inside in
      let places : pass.places ≡ length is.state.words = good_truth.places in
      let back : 2 ^ 30 + (r - 2 ^ 30) ≡ r = omega arith in
      go (r - 2 ^ 30) back here (full (r - 2 ^ 30) (omega arith))
    where
      differs : (c d : ℕ) → (c ≡ a) × (d ≡ b) → (c ≢ a) ⊎ (d ≢ b) → ⊥
      differs c d same (inl not) = not same.0
      differs c d same (inr not) = not same.1

      go : (k : ℕ) → 2 ^ 30 + k ≡ r → IsCell is.state.words r a b → (c : ℕ) × (d : ℕ) × IsSeen pass (2 ^ 30 + k) c d × ((c ≢ a) ⊎ (d ≢ b)) → ⊥
      go k back here (c, d, seen, unlike) = differs c d (one_cell is.state.words r c d a b (good_truth.seen r c d (rw back at seen)) here) unlike

-- ---- a probe

pub more_from : (old new : List Cell) (place a b : ℕ) → new ≡ cell_of place a b ∷ old → AddsAtMost old new (2 ^ 30 + place) a b
more_from old new place a b e = rw e (record {
  kept = λ q c d h. listed_more old (cell_of place a b) q c d h;
  only = λ q c d h. listed_cases old place a b q c d h;
})

pub same_from : (old new : List Cell) (r a b : ℕ) → new ≡ old → AddsAtMost old new r a b
same_from old new r a b e = rw e (record { kept = λ q c d h. h; only = λ q c d h. inl h })

pub grows_same : (old new : PassView) → new.known ≡ old.known → Grows old new
grows_same old new e = grows_from_cells old new (λ q c d h. rw e h)

module _ (a b place : ℕ) (old new : Holder) (h : Sought a b place old new) where
  pub sought_cell : HasCell (view_of new) (2 ^ 30 + place) a b
  sought_cell = rw h.known (listed_here old.known place a b)

  pub sought_known : AddsAtMost old.known new.known (2 ^ 30 + place) a b
  sought_known = more_from old.known new.known place a b h.known

  pub sought_placed : AddsAtMost old.placed new.placed (2 ^ 30 + place) a b
  sought_placed = go h.placed
    where
      go : (new.placed ≡ old.placed) ⊎ ((new.placed ≡ cell_of place a b ∷ old.placed) × ((r : ℕ) → IsListed old.seen r a b → ⊥)) →
          AddsAtMost old.placed new.placed (2 ^ 30 + place) a b
      go (inl e) = same_from old.placed new.placed (2 ^ 30 + place) a b e
      go (inr (e, _)) = more_from old.placed new.placed place a b e

  pub sought_was_there : (r : ℕ) → IsSeen (view_of old) r a b → new.placed ≡ old.placed
  sought_was_there r seen = go h.placed
    where
      go : (new.placed ≡ old.placed) ⊎ ((new.placed ≡ cell_of place a b ∷ old.placed) × ((r : ℕ) → IsListed old.seen r a b → ⊥)) → new.placed ≡ old.placed
      go (inl e) = e
      go (inr (_, nowhere)) = absurd (nowhere r seen)

module _ (a b : ℕ) (old new : Holder) (good : IsInGood (view_of new)) (h : Missed a b old new) where
  pub missed_full : IsFullFor (view_of new) a b
  missed_full place inside =
      let truth = good_truth (view_of new) good in
      let least : 2 ^ 12 ≤ length good.state.words = good.good.table.least in
      let long : new.places ≡ length good.state.words = truth.places in
      let some' : 0 < new.places = omega arith in
      go (comes_to new.places (probe_start new.places a b) place (mod-lt (a * 2654435761 + b * 40503) some') inside)
    where
      go : (k : ℕ) × (k < new.places) × (probe_place new.places (probe_start new.places a b) k ≡ place) → (c : ℕ) × (d : ℕ) ×
          IsListed new.seen (2 ^ 30 + place) c d × ((c ≢ a) ⊎ (d ≢ b))
      go (k, below, there) = rw there at (h.others k (rw h.seeks.places at below))

-- ---- a join

pub join_grows : (old other new : PassView) → new.known ≡ old.known ++ other.known → Grows old new × Grows other new
join_grows old other new e = (
  grows_from_cells old new (λ q c d h. rw e (listed_left old.known other.known q c d h)),
  grows_from_cells other new (λ q c d h. rw e (listed_right old.known other.known q c d h)),
)

pub join_sees : (old other new : PassView) → new.seen ≡ old.seen ++ other.seen → SeesMore old new × SeesMore other new
join_sees old other new e = (
  (λ r a b h. rw e (listed_left old.seen other.seen r a b h)),
  (λ r a b h. rw e (listed_right old.seen other.seen r a b h)),
)

pub join_placed : (old other new : PassView) → new.placed ≡ old.placed ++ other.placed → (r a b : ℕ) → IsPlaced new r a b → IsPlaced old r a b ⊎
    IsPlaced other r a b
join_placed old other new e r a b h = listed_either old.placed other.placed r a b (rw e at h)

pub some_words : (n bits : ℕ) → n ≡ 2 ^ bits → 0 < n
some_words n bits e = rw e (pow_pos bits)
