-- Private. Two applications that the command links, and whose arguments are linked, may be stated; and what that owes may be repaired.
use Rattle.std.proofs.Common.{◌≡◌, ◌≢◌, ◌⊎◌, inl, inr, ℕ, zero, suc, Bool, true, false, List, [], ◌∷◌, ◌++◌, length, map, slice_get, ◌&&◌, nat_le}
use Rattle.std.proofs.Common.{Option, Some, Contains, refl, sym, ap, subst, arith}
use Rattle.std.proofs.lemmas.List.{length-map}
use Rattle.std.proofs.lemmas.List.Elements.{Contains-append_left}
use Rattle.term_model.proofs.Lists.{contains_cases, contains_head, contains_later, contains_none}
use Rattle.term_model.proofs.Sorting.{when-same}
use Rattle.term_model.proofs.Zips.{zip_length}
use Rattle.term_model.specs.declared.symbols.Op.{Op}
use Rattle.term_model.specs.declared.symbols.Sort.{Sort}
use Rattle.term_model.specs.Flips.{equality, EqualUpToFlips, AllEqualUpToFlips, same, operations, calls, flipped, none, each}
use Rattle.term_model.specs.Sorts.{IsOf, AreOf, application_sort, of_one_sort}
use Rattle.term_model.specs.Terms.{Term, Terms, no_terms, term}
use Rattle.term_model.proofs.Flips.{operation_flipped}
use Rattle.term_pool.proofs.References.{AreOne}
use Rattle.term_pool.specs.Reading.{arguments_of}
use Rattle.term_pool.specs.Views.{TermsView, RefersTo}
use Rattle.equality_steps.specs.declared.site.Site.{Site}
use Rattle.equality_steps.specs.Sites.{AreLiteralsAt, AreSides, IsSideAt}
use Rattle.equality_steps.proofs.SiteLemmas.{sides_fit}
use Rattle.equality_ways.specs.Sides.{ReferToBoth}
use Rattle.equality_ways.specs.declared.table.Table.{Table}
use Rattle.equality_ways.specs.Tables.{IsTableOf}
use Rattle.equality_ways.proofs.Places.{contains_of_get, get_of_contains, zip_get}
use Rattle.flip_steps.specs.Subterms.{IsWithin, whole, argument}
use Rattle.flip_steps.proofs.FormLemmas.{turned_sort}
use Rattle.flip_steps.proofs.SubtermLemmas.{argument_free, argument_sorted}
use Rattle.equality_blocks.specs.Commands.{clause_of_command, rule_of_command}
use Rattle.equality_blocks.specs.Counts.{literal}
use Rattle.equality_blocks.specs.Pairs.{AreMatched, ArePaired, IsOfCongruence, arguments, linked, outer, inner}
use Rattle.equality_blocks.specs.Pairs.{equated as linked_equated}
use Rattle.elab_denials.specs.Matching.{AreCrosswise, AreLinkedAt, AreLinkedPairs, AreMatchedBy, AreStraight, left_of, right_of}
use Rattle.elab_denials.specs.Owing.{AreRepairable, IsGiven}
use Rattle.elab_denials.specs.Stating.{AreReadyBy, AreStated, AreTurnable, IsNarrow}
use Rattle.elab_denials.specs.Walking.{AreGivenDenials}
use Rattle.elab_denials.specs.Working.{IsPlaceAt, IsRootedAt}
use Rattle.elab_denials.proofs.HeadLemmas.{arguments_are}
use Rattle.elab_denials.proofs.WalkLemmas.{ends_place, given_fits, literal_given}

-- terms that are equal up to flips have one sort
flipped_sort : (a b c d : Term) (s : Sort) → ((x : Sort) → IsOf a x → IsOf d x) → ((x : Sort) → IsOf b x → IsOf c x) → (ss : List Sort)
    → AreOf (term a (term b no_terms)) ss → application_sort Op.Equal ss ≡ Some s → IsOf (equality d c) s
flipped_sort a b c d s one other (x ∷ y ∷ []) have e =
    record { sorts = x ∷ y ∷ []; arguments = (one x have.0, (other y have.1.0, tt)); is = e }
flipped_sort a b c d s one other (x ∷ y ∷ z ∷ ss) have e = absurd have.1.1
flipped_sort a b c d s one other (x ∷ []) have e = absurd have.1
flipped_sort a b c d s one other [] have e = absurd have

mutual
  flips_sort : (t u : Term) (s : Sort) → EqualUpToFlips t u → IsOf t s → IsOf u s
  flips_sort _ _ s (same t) h = h
  flips_sort _ _ s (operations op ts us all) h = record {
    sorts = h.sorts;
    arguments = flips_sorts ts us h.sorts all h.arguments;
    is = operation_flipped op ts us h.sorts s all h.is;
  }
  flips_sort _ _ s (calls f ts us all) h = record { sorts = h.sorts; arguments = flips_sorts ts us h.sorts all h.arguments; is = h.is }
  flips_sort _ _ s (flipped a b c d first second) h =
      turned_sort d c s (flipped_sort a b c d s (λ x k. flips_sort a d x first k) (λ x k. flips_sort b c x second k) h.sorts h.arguments h.is)

  flips_sorts : (ts us : Terms) (ss : List Sort) → AllEqualUpToFlips ts us → AreOf ts ss → AreOf us ss
  flips_sorts _ _ ss none h = h
  flips_sorts _ _ [] (each t u ts us here rest) h = absurd h
  flips_sorts _ _ (s ∷ ss) (each t u ts us here rest) h = (flips_sort t u s here h.0, flips_sorts ts us ss rest h.1)

-- items of a list of images
get_map : {X Y : Type 0} (f : X → Y) (xs : List X) (k : ℕ) (x : X) → slice_get xs k ≡ Some x → slice_get (map f xs) k ≡ Some (f x)
get_map f [] k x e = cc
get_map f (y ∷ xs) zero x e = let is : y ≡ x = cc in ap (λ z. Some (f z)) is
get_map f (y ∷ xs) (suc k) x e = get_map f xs k x e

-- an equality is of Bool
equality_bool : (a b : Term) (s : Sort) → IsOf (equality a b) s → s ≡ Sort.Bool
equality_bool a b s h = when-same (nat_le 2 (length h.sorts) && of_one_sort h.sorts) Sort.Bool s h.is

-- the term stands in a literal of the command's clause, outside lets
pub record StandsInClause (p : Site) (v : TermsView) (t : Term) : Type 0 where
  pub root : ℕ
  pub among : Contains (clause_of_command p) root
  pub whole : Term
  pub refers : RefersTo p.symbols.now v root whole
  pub within : IsWithin whole t

-- the command matches the terms, which stand in its clause, and may stand as the sides of an equality
pub record AreJoined (p : Site) (v : TermsView) (t u : Term) : Type 0 where
  pub paired : ArePaired p v t u
  pub matched : AreMatched p v t u
  pub sides : AreSides p t u
  pub left_in : StandsInClause p v t
  pub right_in : StandsInClause p v u

module _ (p : Site) (v : TermsView) where
  rooted : (t x : Term) (r : ℕ) → StandsInClause p v t → RefersTo p.symbols.now v r x → Contains (arguments_of t) x → IsRootedAt p v r
  rooted t x r h refers has = record {
    root = h.root;
    is = literal (Contains-append_left (clause_of_command p) _ h.root h.among);
    stands = record { whole = h.whole; whole_refers = h.refers; term = x; refers = refers; within = argument t x h.within has };
  }

  -- what the command's clause equates at its end
  pub joined_here : AreLiteralsAt p v (clause_of_command p) → AreOne p.symbols.now v → IsOfCongruence (rule_of_command p) → (l r : Term)
      → (h : IsGiven p v (equality l r)) → (before : List ℕ) → clause_of_command p ≡ before ++ h.reference ∷ [] → AreJoined p v l r
  joined_here literals one rule l r h before ends = record {
    paired = inl (linked l r (linked_equated (inl (literal_given p v (equality l r) h))));
    matched = inl (record { rule = rule; before = before; reference = h.reference; clause = ends; refers = h.refers });
    sides = sides_fit p l r (given_fits p v literals one (equality l r) h);
    left_in = stands l (contains_head l (r ∷ []));
    right_in = stands r (contains_later l r (r ∷ []) (contains_head r []));
  }
    where
      stands : (x : Term) → Contains (l ∷ r ∷ []) x → StandsInClause p v x
      stands x has = record { root = h.reference; among = h.among; whole = equality l r; refers = h.refers; within = argument (equality l r) x whole has }

module _ (p : Site) (v : TermsView) (literals : AreLiteralsAt p v (clause_of_command p)) (one : AreOne p.symbols.now v) (sides : List (Option (ℕ × ℕ)))
    (given : AreGivenDenials p v sides) where
  module _ (l r : Term) (h : AreJoined p v l r) where
    flips_sides : (x y : Term) → Contains (arguments_of l) x → Contains (arguments_of r) y → EqualUpToFlips x y → AreSides p x y
    flips_sides x y left_in right_in equal =
        let sorted = argument_sorted l x left_in (record { sort = h.sides.sort; of = h.sides.left.0 }) in
        record {
          sort = sorted.sort;
          left = (sorted.of, λ z free. h.sides.left.1 z (argument_free z l x left_in free));
          right = (flips_sort x y sorted.sort equal sorted.of, λ z free. h.sides.right.1 z (argument_free z r y right_in free));
        }

    linked_place : (a b : ℕ) (x y : Term) → RefersTo p.symbols.now v a x → RefersTo p.symbols.now v b y → Contains (arguments_of l) x → Contains (arguments_of r) y
        → ArePaired p v x y → ArePaired p v y x → AreLinkedAt p v sides a b → IsPlaceAt p v a b
    linked_place a b x y left right left_in right_in there back (inl ends) = ends_place p v literals one sides given a b ends
    linked_place a b x y left right left_in right_in there back (inr flips) = record {
      left = x;
      right = y;
      left_refers = left;
      right_refers = right;
      sides = flips_sides x y left_in right_in
          (subst (EqualUpToFlips x) ((one b b flips.right y flips.right_refers right).0 refl)
          (subst (λ t. EqualUpToFlips t flips.right) ((one a a flips.left x flips.left_refers left).0 refl) flips.equal));
      paired = there;
      back = back;
      left_in = rooted p v l x a h.left_in left left_in;
      right_in = rooted p v r y b h.right_in right right_in;
    }

  module _ (a b : ℕ) (pairs : List (ℕ × ℕ)) where
    -- place by place
    module _ (k : AreStraight p v sides a b pairs) where
      abbrev pub l : Term
      l = left_of k.are_applied.head k.are_applied.es

      abbrev pub r : Term
      r = right_of k.are_applied.head k.are_applied.es

      left_arguments : arguments_of l ≡ map (λ (e : Term × Term). e.0) k.are_applied.es
      left_arguments = arguments_are k.are_applied.head (map (λ (e : Term × Term). e.0) k.are_applied.es) l refl

      right_arguments : arguments_of r ≡ map (λ (e : Term × Term). e.1) k.are_applied.es
      right_arguments = arguments_are k.are_applied.head (map (λ (e : Term × Term). e.1) k.are_applied.es) r refl

      straight_place : AreJoined p v l r → (q : ℕ × ℕ) → Contains pairs q → IsPlaceAt p v q.0 q.1
      straight_place h q has =
          let at = get_of_contains pairs q has in
          let found = zip_get (ReferToBoth p.symbols.now v) pairs k.are_applied.es at.0 q k.are_applied.refer at.1 in
          let x = found.0.0 in
          let y = found.0.1 in
          let left_there : slice_get (arguments_of l) at.0 ≡ Some x =
          subst (λ xs. slice_get xs at.0 ≡ Some x) (sym left_arguments) (get_map (λ (e : Term × Term). e.0) k.are_applied.es at.0 found.0 found.1) in
          let right_there : slice_get (arguments_of r) at.0 ≡ Some y =
          subst (λ xs. slice_get xs at.0 ≡ Some y) (sym right_arguments) (get_map (λ (e : Term × Term). e.1) k.are_applied.es at.0 found.0 found.1) in
          linked_place l r h q.0 q.1 x y found.2.0 found.2.1 (contains_of_get (arguments_of l) at.0 x left_there)
          (contains_of_get (arguments_of r) at.0 y right_there)
          (inl (arguments l r x y h.matched (record { place = at.0; left = left_there; right = right_there })))
          (inr (arguments l r x y h.matched (record { place = at.0; left = left_there; right = right_there }))) (k.linked q has)

      pub stated_here : AreJoined p v l r → AreStated p v a b pairs
      stated_here h = record {
        are_applied = k.are_applied;
        places = straight_place h;
        sides = h.sides;
        paired = h.paired;
      }

      pub straight_narrow : StandsInClause p v l → IsNarrow p v (length pairs)
      straight_narrow h = record {
        root = h.root;
        among = h.among;
        whole = h.whole;
        refers = h.refers;
        term = l;
        within = h.within;
        few =
            let first = zip_length (ReferToBoth p.symbols.now v) pairs k.are_applied.es k.are_applied.refer in
            let second = ap length left_arguments in
            let third = length-map k.are_applied.es (λ (e : Term × Term). e.0) in
            omega (arith, first, second, third);
      }

    -- crosswise
    module _ (k : AreCrosswise p v sides a b pairs) where
      abbrev pub left_whole : Term
      left_whole = equality k.one k.two

      abbrev pub right_whole : Term
      right_whole = equality k.three k.four

      crossed_place : AreJoined p v left_whole right_whole → (q : ℕ × ℕ) → Contains pairs q → IsPlaceAt p v q.0 q.1
      crossed_place h q has = go (contains_cases k.inner q (k.outer ∷ []) (subst (λ qs. Contains qs q) k.pairs_are has))
        where
          here_inner : AreLinkedAt p v sides k.inner.0 k.inner.1 → IsPlaceAt p v k.inner.0 k.inner.1
          here_inner =
              linked_place left_whole right_whole h k.inner.0 k.inner.1 k.two k.three k.two_refers k.three_refers
              (contains_later k.one k.two (k.two ∷ []) (contains_head k.two [])) (contains_head k.three (k.four ∷ []))
              (inl (inner k.one k.two k.three k.four h.matched)) (inr (inner k.one k.two k.three k.four h.matched))

          here_outer : AreLinkedAt p v sides k.outer.0 k.outer.1 → IsPlaceAt p v k.outer.0 k.outer.1
          here_outer =
              linked_place left_whole right_whole h k.outer.0 k.outer.1 k.one k.four k.one_refers k.four_refers (contains_head k.one (k.two ∷ []))
              (contains_later k.three k.four (k.four ∷ []) (contains_head k.four [])) (inl (outer k.one k.two k.three k.four h.matched))
              (inr (outer k.one k.two k.three k.four h.matched))

          go : (k.inner ≡ q) ⊎ Contains (k.outer ∷ []) q → IsPlaceAt p v q.0 q.1
          go (inl e) =
              subst (λ (x : ℕ × ℕ). IsPlaceAt p v x.0 x.1) e
              (here_inner (subst (λ (x : ℕ × ℕ). AreLinkedAt p v sides x.0 x.1) (sym e) (k.linked q has)))
          go (inr below) = elim (contains_cases k.outer q [] below) [
            | inl e ↦ subst (λ (x : ℕ × ℕ). IsPlaceAt p v x.0 x.1) e
                (here_outer (subst (λ (x : ℕ × ℕ). AreLinkedAt p v sides x.0 x.1) (sym e) (k.linked q has)))
            | inr nothing ↦ absurd (contains_none q nothing)
          ]

      pub turnable_here : AreJoined p v left_whole right_whole → k.one ≢ k.two → AreTurnable p v a b pairs
      turnable_here h apart = record {
        one = k.one;
        two = k.two;
        three = k.three;
        four = k.four;
        left_refers = k.left_refers;
        right_refers = k.right_refers;
        inner = k.inner;
        outer = k.outer;
        two_refers = k.two_refers;
        three_refers = k.three_refers;
        one_refers = k.one_refers;
        four_refers = k.four_refers;
        pairs_are = k.pairs_are;
        places = crossed_place h;
        left_sides = sides_fit p k.one k.two (subst (λ s. IsSideAt p s left_whole) (equality_bool k.one k.two h.sides.sort h.sides.left.0) h.sides.left);
        right_sides = sides_fit p k.three k.four (subst (λ s. IsSideAt p s right_whole) (equality_bool k.three k.four h.sides.sort h.sides.right.0) h.sides.right);
        paired = h.paired;
        matched = h.matched;
        apart = apart;
      }

      pub crossed_narrow : StandsInClause p v left_whole → IsNarrow p v (length pairs)
      crossed_narrow h = record {
        root = h.root;
        among = h.among;
        whole = h.whole;
        refers = h.refers;
        term = left_whole;
        within = h.within;
        few = let long = ap length k.pairs_are in omega (arith, long);
      }

    -- either way, by the two applications that the references stand for
    module _ (t u : Term) (left : RefersTo p.symbols.now v a t) (right : RefersTo p.symbols.now v b u) (h : AreJoined p v t u) where
      joined_as : (x y : Term) → RefersTo p.symbols.now v a x → RefersTo p.symbols.now v b y → AreJoined p v x y
      joined_as x y first second =
          subst (AreJoined p v x) ((one b b u y right second).0 refl) (subst (λ z. AreJoined p v z u) ((one a a t x left first).0 refl) h)

      pub ready_here : (crossed : Bool) → AreMatchedBy p v sides a b pairs crossed → AreReadyBy p v a b pairs crossed
      ready_here true k =
          turnable_here k.crosswise (joined_as (equality k.crosswise.one k.crosswise.two) (equality k.crosswise.three k.crosswise.four)
          k.crosswise.left_refers k.crosswise.right_refers) k.apart
      ready_here false k =
          stated_here k (joined_as (left_of k.are_applied.head k.are_applied.es) (right_of k.are_applied.head k.are_applied.es)
          k.are_applied.left_refers k.are_applied.right_refers)

      pub narrow_here : (crossed : Bool) → AreMatchedBy p v sides a b pairs crossed → IsNarrow p v (length pairs)
      narrow_here true k =
          crossed_narrow k.crosswise (joined_as (equality k.crosswise.one k.crosswise.two) (equality k.crosswise.three k.crosswise.four)
          k.crosswise.left_refers k.crosswise.right_refers).left_in
      narrow_here false k =
          straight_narrow k (joined_as (left_of k.are_applied.head k.are_applied.es) (right_of k.are_applied.head k.are_applied.es)
          k.are_applied.left_refers k.are_applied.right_refers).left_in

      pub places_here : (crossed : Bool) → AreMatchedBy p v sides a b pairs crossed → (q : ℕ × ℕ) → Contains pairs q → IsPlaceAt p v q.0 q.1
      places_here true k = (ready_here true k).places
      places_here false k = (ready_here false k).places

      pub linked_here : (crossed : Bool) → AreMatchedBy p v sides a b pairs crossed → AreLinkedPairs p v sides pairs
      linked_here true k = k.crosswise.linked
      linked_here false k = k.linked

      pub repairable_here : (table : Table) → IsTableOf sides table → (crossed : Bool) → AreMatchedBy p v sides a b pairs crossed → AreRepairable p v table pairs
      repairable_here table is crossed k = record {
        sides = sides;
        is_table = is;
        denied = given;
        places = places_here crossed k;
        linked = linked_here crossed k;
      }
