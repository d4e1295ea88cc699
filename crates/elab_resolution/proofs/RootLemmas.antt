-- What is known of the literals once they are counted.
use Rattle.std.proofs.Common.{◌≡◌, inl, inr, ◌+◌, ◌-◌, ◌<◌, ◌≤◌, ◌^◌, ℕ, zero, suc, List, length, get_or, Option, Some, refl, sym}
use Rattle.std.proofs.Common.{◌∙◌, ap, subst, arith, All, Contains}
use Rattle.std.proofs.lemmas.List.{get_or_default}
use Rattle.std.specs.List.{AllZip}
use Rattle.sym_table.specs.Table.{Table}
use Rattle.term_model.specs.Terms.{Term, not_of}
use Rattle.term_model.proofs.Zips.{zip_at, zip_length}
use Rattle.term_pool.specs.Nots.{negated}
use Rattle.term_pool.specs.Views.{TermsView, IsTerm, KeepsTerms, RefersTo, ReferToAll}
use Rattle.term_pool.proofs.References.{AreOne}
use Rattle.elab_resolution.specs.Counted.{AreTops, IsBare, IsCounted, IsCountOf, top_in}
use Rattle.elab_resolution.specs.Levels.{nots_of_number, truth_term}
use Rattle.elab_resolution.specs.Numbered.{AreLevelsSpelled, HasRoomyNumber, HasTower, IsNumbering, number_in, reference_of}
use Rattle.elab_resolution.specs.Spellings.{IsNearTo}
use Rattle.elab_resolution.specs.declared.counting.Counted.{Counted}
use Rattle.elab_resolution.specs.declared.numbering.Numbering.{Numbering}
use Rattle.elab_resolution.proofs.NumberLemmas.{refers_later, sizes}
use Rattle.elab_resolution.proofs.TowerLemmas.{tower_refers}

pub negated_add : (m n : ℕ) (t : Term) → negated m (negated n t) ≡ negated (m + n) t
negated_add zero n t = ap (λ k. negated k t) (omega arith)
negated_add (suc m) n t =
    let next : suc (m + n) ≡ suc m + n = omega arith in
    ap not_of (negated_add m n t) ∙ ap (λ k. negated k t) next

-- literals that are counted, and the terms for which their references stand
module _ (s : Table) (v : TermsView) (roots : List ℕ) (literals : List Counted) (counts : AllZip (IsCountOf s v) roots literals) where
  pub same_many : length roots ≡ length literals
  same_many = zip_length (IsCountOf s v) roots literals counts

  -- each was counted for a reference
  pub counted_at : (x : Counted) → Contains literals x → (i : ℕ) × (i < length roots) × IsCountOf s v (get_or roots i 0) x
  counted_at x (i, below, is) =
      let within : i < length roots = let e = same_many in omega arith in
      (i, within, subst (IsCountOf s v (get_or roots i 0)) is (zip_at (IsCountOf s v) roots literals i 0 x counts within))

  pub tops_few : (tops : ℕ → Option ℕ) → AreTops literals tops → (q : ℕ) → top_in tops q < 2 ^ 31
  tops_few tops is q = elim (is.some q) [
    | inl none ↦ omega arith
    | inr there ↦ (counted_at (record { bare = q; nots = top_in tops q }) there).2.few
  ]

  pub all_bare : AreOne s v → All (IsTerm s v) roots → All (IsBare s v) literals
  all_bare one terms i d below = record {
    known = record { means = counted.above.inner; refers = counted.above.refers };
    none = λ t u refers e.
        counted.none u
        ((one (get_or literals i d).bare (get_or literals i d).bare counted.above.inner t counted.above.refers refers).0 refl ∙ e);
  }
    where
      within : i < length roots
      within = let e = same_many in omega arith

      count : IsCountOf s v (get_or roots i 0) (get_or literals i d)
      count = zip_at (IsCountOf s v) roots literals i 0 d counts within

      counted : IsCounted s v (terms i 0 within).means (get_or literals i d).bare (get_or literals i d).nots
      counted = count.counted (terms i 0 within).means (terms i 0 within).refers

  -- a bare term has a literal with as many `not`s as there are above it at most
  highest : (tops : ℕ → Option ℕ) → AreTops literals tops → (x : Counted) → Contains literals x
      → (y : Counted) × Contains literals y × (y.bare ≡ x.bare) × (y.nots ≡ top_in tops x.bare)
  highest tops is x there = elim (is.some x.bare) [
    | inl none ↦ (x, there, refl, let most = is.most x there in omega arith)
    | inr top ↦ (record { bare = x.bare; nots = top_in tops x.bare }, top, refl, refl)
  ]

  -- so what stands up to three `not`s above is one of the literals but for leading `not`s
  pub levels_spelled : AreOne s v → (tops : ℕ → Option ℕ) → AreTops literals tops → (ts : List Term) → ReferToAll s v roots ts
      → AreLevelsSpelled s v tops literals ts
  levels_spelled one tops is ts refer x there t u refers above =
      go (highest tops is x there)
    where
      go : (y : Counted) × Contains literals y × (y.bare ≡ x.bare) × (y.nots ≡ top_in tops x.bare) → IsNearTo ts u
      go (y, in_literals, bare, top) = from (counted_at y in_literals)
        where
          from : (i : ℕ) × (i < length roots) × IsCountOf s v (get_or roots i 0) y → IsNearTo ts u
          from (i, below, count) =
              let root = get_or ts i truth_term in
              let at : RefersTo s v (get_or roots i 0) root = zip_at (RefersTo s v) roots ts i 0 truth_term refer below in
              let counted = count.counted root at in
              let inner : counted.above.inner ≡ t = (one y.bare x.bare counted.above.inner t counted.above.refers refers).0 bare in
              let height : ℕ = top_in tops x.bare + 3 in
              let within = above.within in
              let sum : (height - above.nots) + above.nots ≡ 3 + y.nots = omega arith in
              record {
                root = root;
                is =
                    let within : i < length ts = let e = zip_length (RefersTo s v) roots ts refer in omega arith in
                    (i, within, get_or_default ts i root truth_term within);
                nots = height - above.nots;
                same =
                    ap (negated (height - above.nots)) above.is
                    ∙ (negated_add (height - above.nots) above.nots t
                    ∙ (ap (λ n. negated n t) sum
                    ∙ (sym (negated_add 3 y.nots t) ∙ ap (negated 3) (sym (counted.above.whole ∙ ap (negated y.nots) inner)))));
              }

  -- and each has a number with room above it, once there are towers
  pub all_roomy : (w : TermsView) (n : Numbering) → KeepsTerms v w → IsNumbering s w n → AreOne s w → All (IsTerm s v) roots
      → (tops : ℕ → Option ℕ) → AreTops literals tops
      → ((x : Counted) → Contains literals x → HasTower n x.bare (top_in tops x.bare + 3)) → All (HasRoomyNumber n) roots
  all_roomy w n keeps numbering one terms tops is towers i d below = record {
    number = tower.number + x.nots;
    is =
        let m = most in
        let b = (tower.levels x.nots (omega arith)).0 in
        subst (λ r. number_in n r ≡ Some (tower.number + x.nots)) same
        (numbering.finds (tower.number + x.nots) (let z = sizes numbering in omega arith));
    room = λ j within.
        let m = most in
        let at : tower.number + (x.nots + j) ≡ tower.number + x.nots + j = omega arith in
        let level = tower.levels (x.nots + j) (omega arith) in
        let base = tower.levels x.nots (omega arith) in (
          let b = level.0 in omega arith,
          ap (nots_of_number n.nots.items) (sym at) ∙ (level.1 ∙ ap (λ k. k + j) (sym base.1)),
        );
  }
    where
      x : Counted
      x = get_or literals i (record { bare = 0; nots = 0 })

      there : Contains literals x
      there =
          let within : i < length literals = let e = same_many in omega arith in
          (i, within, get_or_default literals i x (record { bare = 0; nots = 0 }) within)

      count : IsCountOf s v (get_or roots i d) x
      count = zip_at (IsCountOf s v) roots literals i d (record { bare = 0; nots = 0 }) counts below

      t : Term
      t = (terms i d below).means

      counted : IsCounted s v t x.bare x.nots
      counted = count.counted t (terms i d below).refers

      tower : HasTower n x.bare (top_in tops x.bare + 3)
      tower = towers x there

      most : x.nots ≤ top_in tops x.bare
      most = is.most x there

      reached : RefersTo s w (reference_of n.refs.items (tower.number + x.nots)) (negated x.nots counted.above.inner)
      reached =
          let m = most in
          tower_refers numbering one tower.number (top_in tops x.bare + 3) x.bare counted.above.inner tower.levels tower.is
          (refers_later s v w x.bare counted.above.inner keeps counted.above.refers) x.nots (omega arith)

      same : reference_of n.refs.items (tower.number + x.nots) ≡ get_or roots i d
      same =
          (one (reference_of n.refs.items (tower.number + x.nots)) (get_or roots i d) (negated x.nots counted.above.inner) t reached
          (refers_later s v w (get_or roots i d) t keeps (terms i d below).refers)).1 (sym counted.above.whole)
