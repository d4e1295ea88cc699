-- Cited by crates above. What two halves of a value with a pass did, once they are joined again.
use Rattle.std.proofs.Common.{◌≡◌, ℕ, ◌+◌, ◌-◌, ◌<◌, ◌⊎◌, inl, inr, ◌∙◌, sym, arith}
use Rattle.pair_pool.specs.Views.{PassView, IsPlaced, Grows, SeesMore, IsFullFor, Knows}
use Rattle.pair_pool.proofs.StateLemmas.{not_listed}
use Rattle.sym_table.specs.Table.{Table}
use Rattle.term_model.specs.Terms.{Term}
use Rattle.term_pool.specs.Building.{IsCellIn}
use Rattle.term_pool.specs.Placing.{IsWantedCell, PlacesCellsOf, LacksCellOf}
use Rattle.term_pool.specs.Halves.{AreHalves, IsJoined}
use Rattle.term_pool.specs.Views.{TermsView, KeepsTerms}

-- ---- what a pass that knows more has of another

cell_in_more : (p q : PassView) → Grows p q → (a b : ℕ) → (t : _) → IsCellIn p a b t → IsCellIn q a b t
cell_in_more p q grows a b t h = record {
  first = h.first;
  second = h.second;
  first_known = grows a h.first h.first_known;
  second_known = grows b h.second h.second_known;
  part = h.part;
}

wanted_more : (s : Table) (p q : PassView) (P : Term → Type 0) → Grows p q → (a b : ℕ) → IsWantedCell s p P a b → IsWantedCell s q P a b
wanted_more s p q P grows a b h = record {
  whole = h.whole;
  wanted = h.wanted;
  tree = h.tree;
  stands = h.stands;
  cell = cell_in_more p q grows a b h.tree h.cell;
}

full_more : (p q : PassView) → SeesMore p q → q.places ≡ p.places → (a b : ℕ) → IsFullFor p a b → IsFullFor q a b
full_more p q sees wide a b full place inside =
    let there = full place (rw wide at inside) in (there.0, there.1, sees _ there.0 there.1 there.2, there.3)

pub lacks_later : (s : Table) (p q : PassView) (P : Term → Type 0) → Grows p q → SeesMore p q → q.places ≡ p.places → LacksCellOf s p P → LacksCellOf s q P
lacks_later s p q P grows sees wide h = record {
  whole = h.whole;
  wanted = h.wanted;
  tree = h.tree;
  stands = h.stands;
  full =
      record {
        first = h.full.first;
        second = h.full.second;
        wanted = cell_in_more p q grows h.full.first h.full.second h.tree h.full.wanted;
        full = full_more p q sees wide h.full.first h.full.second h.full.full;
      };
}

-- ---- split, worked on, and joined again

module _ (old left right one other new : TermsView) (halves : AreHalves old left right) (joined : IsJoined one other new) where
  pub halves_keep : KeepsTerms left one → KeepsTerms right other → KeepsTerms old new
  unfolding Knows
  halves_keep first second = record {
    pool = joined.pool ∙ first.pool ∙ halves.pool;
    pass =
        record {
          places = joined.places ∙ first.pass.places ∙ halves.places;
          shares =
              let some : 1 < old.pass.shares = halves.some in
              let all : new.pass.shares ≡ one.pass.shares + other.pass.shares = joined.shares in
              let one_is : one.pass.shares ≡ old.pass.shares - 1 = first.pass.shares ∙ halves.shares in
              let other_is : other.pass.shares ≡ 1 = second.pass.shares ∙ halves.right_shares in omega arith;
          grows = λ r t h. joined.grows r t (first.pass.grows r t (known r t h));
          sees = λ r a b h. joined.sees r a b (first.pass.sees r a b (rw halves.seen h));
        };
  }
    where
      known : Grows old.pass left.pass
      known r t h = rw halves.known h

  pub halves_place :
      (s : Table) (P : Term → Type 0) → PlacesCellsOf s left.pass one.pass P → PlacesCellsOf s right.pass other.pass P →
      PlacesCellsOf s old.pass new.pass P
  halves_place s P first second r a b h = by_whom (joined.placed r a b h)
    where
      mine : IsPlaced left.pass r a b ⊎ IsWantedCell s one.pass P a b → IsPlaced old.pass r a b ⊎ IsWantedCell s new.pass P a b
      mine (inl before) = inl (rw halves.placed at before)
      mine (inr wanted) = inr (wanted_more s one.pass new.pass P joined.grows a b wanted)

      others : IsPlaced right.pass r a b ⊎ IsWantedCell s other.pass P a b → IsPlaced old.pass r a b ⊎ IsWantedCell s new.pass P a b
      others (inl before) = absurd (not_listed r a b (rw halves.right_placed at before))
      others (inr wanted) = inr (wanted_more s other.pass new.pass P joined.other_grows a b wanted)

      by_whom : IsPlaced one.pass r a b ⊎ IsPlaced other.pass r a b → IsPlaced old.pass r a b ⊎ IsWantedCell s new.pass P a b
      by_whom (inl placed) = mine (first r a b placed)
      by_whom (inr placed) = others (second r a b placed)

  pub halves_lack :
      (s : Table) (P : Term → Type 0) → KeepsTerms left one → KeepsTerms right other → LacksCellOf s one.pass P ⊎ LacksCellOf s other.pass P →
      LacksCellOf s new.pass P
  halves_lack s P first second (inl lacks) = lacks_later s one.pass new.pass P joined.grows joined.sees joined.places lacks
  halves_lack s P first second (inr lacks) =
      let wide = joined.places ∙ first.pass.places ∙ halves.places ∙ sym halves.right_places ∙ sym second.pass.places in
      lacks_later s other.pass new.pass P joined.other_grows joined.other_sees wide lacks
