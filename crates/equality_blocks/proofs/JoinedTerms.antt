-- Cited by crates above. What is made to join two paired terms, which stand in terms of the command, is made for the command.
use Rattle.std.proofs.Common.{◌≡◌, inl, inr, ℕ, sym, refl, subst}
use Rattle.term_model.specs.Flips.{equality}
use Rattle.term_model.specs.Terms.{Term}
use Rattle.term_pool.proofs.References.{AreOne}
use Rattle.term_pool.specs.Views.{TermsView, RefersTo}
use Rattle.equality_steps.specs.declared.site.Site.{Site}
use Rattle.flip_steps.specs.Stages.{IsEqualityOf, IsMadeFrom, IsMadeToJoin, StandsIn}
use Rattle.flip_steps.specs.Subterms.{IsWithin, whole, argument}
use Rattle.equality_blocks.specs.Counts.{IsRootOf}
use Rattle.equality_blocks.specs.Made.{IsMadeFor, stated, paired, formed, equated}
use Rattle.equality_blocks.specs.Pairs.{ArePaired}

within_then : (t u x : Term) → IsWithin t u → IsWithin u x → IsWithin t x
within_then t u _ h whole = h
within_then t u _ h (argument y a k has) = argument y a (within_then t u y h k) has

module _ (p : Site) (v : TermsView) (one : AreOne p.symbols.now v) where
  -- from a term that stands in one of the command
  from_root : (root r : ℕ) (x : Term) → IsRootOf p v root → StandsIn p.symbols.now v root r → IsMadeFrom p.symbols.now v r x → IsMadeFor p v x
  from_root root r x is h m =
      let same : m.stands.whole ≡ h.term = (one r r m.stands.whole h.term m.stands.whole_refers h.refers).0 refl in
      stated x (formed root x is (record {
        from = m.from;
        stands = record {
          whole = h.whole;
          whole_refers = h.whole_refers;
          term = m.stands.term;
          refers = m.stands.refers;
          within = within_then h.whole h.term m.stands.term h.within (subst (λ t. IsWithin t m.stands.term) same m.stands.within);
        };
        made = m.made;
      }))

  equality_of_pair : (a b : ℕ) (t u x : Term) → RefersTo p.symbols.now v a t → RefersTo p.symbols.now v b u → ArePaired p v t u
      → IsEqualityOf p.symbols.now v a b x → IsMadeFor p v x
  equality_of_pair a b t u x left right pair e =
      let first : t ≡ e.left = (one a a t e.left left e.left_refers).0 refl in
      let second : u ≡ e.right = (one b b u e.right right e.right_refers).0 refl in
      let made : IsMadeFor p v (equality t u) = stated (equality t u) (paired t u (equality t u) pair equated) in
      subst (IsMadeFor p v) (sym e.is)
      (subst (λ z. IsMadeFor p v (equality e.left z)) second (subst (λ z. IsMadeFor p v (equality z u)) first made))

  pub joined_made : (a b : ℕ) (t u : Term) → RefersTo p.symbols.now v a t → RefersTo p.symbols.now v b u → ArePaired p v t u → (left_root right_root : ℕ)
      → IsRootOf p v left_root → StandsIn p.symbols.now v left_root a → IsRootOf p v right_root → StandsIn p.symbols.now v right_root b
      → (x : Term) → IsMadeToJoin p.symbols.now v a b x → IsMadeFor p v x
  joined_made a b t u left right pair left_root right_root here left_in there right_in x (inl (inl m)) = from_root left_root a x here left_in m
  joined_made a b t u left right pair left_root right_root here left_in there right_in x (inl (inr m)) = from_root right_root b x there right_in m
  joined_made a b t u left right pair left_root right_root here left_in there right_in x (inr e) = equality_of_pair a b t u x left right pair e
