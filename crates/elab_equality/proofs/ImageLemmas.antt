-- Private. What open anchors put in where a command belongs is closed and has the sorts of its variables, so a side with the images put
-- in may stand there, and putting them in again changes nothing.
use Rattle.std.proofs.Common.{◌≡◌, ℕ, List, [], ◌∷◌, ◌++◌, Option, Some, None, sym, ◌∙◌, subst, arith}
use Rattle.std.specs.List.{AllByRecursion}
use Rattle.term_model.proofs.Lists.{all_joined, nth_there}
use Rattle.term_model.specs.declared.symbols.Sort.{Sort}
use Rattle.term_model.specs.FreeVariables.{IsClosed}
use Rattle.term_model.specs.Sorts.{IsOf}
use Rattle.term_model.specs.Terms.{Var, Term}
use Rattle.term_pool.specs.Views.{TermsView}
use Rattle.term_pool.proofs.OneTerm.{one_term}
use Rattle.rule_model.specs.Commands.{Line, lines_in}
use Rattle.rule_model.specs.Contexts.{AreAnchorsNested, IsBoundBy, IsClosedUnder, images}
use Rattle.rule_model.specs.Judged.{anchors_at, open_anchors}
use Rattle.rule_model.specs.Proofs.{ProofItems, no_items, with_assume, with_step, with_subproof}
use Rattle.rule_model.specs.Reading.{closes_at}
use Rattle.rule_model.specs.Replacement.{Replacement}
use Rattle.rule_model.specs.Scopes.{Nesting, outermost, inner}
use Rattle.rule_model.specs.Substitution.{put_in, HaveTheirSorts, Replaces}
use Rattle.rule_model.specs.Truth.{AreWellSorted, IsBindingIn}
use Rattle.rule_model.proofs.ContextLaws.{images_closed}
use Rattle.rule_model.proofs.LineReading.{anchors_are}
use Rattle.rule_model.proofs.Numbers.{lines_in_count}
use Rattle.rule_model.proofs.ScopedTruth.{all_changed}
use Rattle.rule_model.proofs.Standing.{all_at}
use Rattle.rule_model.proofs.Substituting.{free_was, put_in_closed, put_in_sort}
use Rattle.elaborator.specs.Sources.{own_anchors}
use Rattle.elaboration_laws.specs.StrictBlocks.{AnchorsStand}
use Rattle.elaboration_laws.proofs.Anchors.{own_list}
use Rattle.elaboration_laws.proofs.Ones.{one_anchors}
use Rattle.equality_steps.specs.declared.site.Site.{Site}
use Rattle.equality_steps.specs.Given.{AreSameInContext}
use Rattle.equality_steps.specs.Sites.{AreSides, IsClosedAt, IsSideAt}
use Rattle.equality_steps.proofs.LawLemmas.{closed_under}
use Rattle.equality_blocks.specs.Commands.{IsToElaborate}
use Rattle.equality_blocks.specs.Pairs.{IsPutIn}
use Rattle.equality_blocks.proofs.LiteralLemmas.{own_anchors_stand, within_terms}
use Rattle.elab_equality.specs.Reflecting.{IsImageOf}

-- anchors are nested, and bind terms of their variables' sorts
record AreGoodAnchors (anchors : List Replacement) : Type 0 where
  nested : AreAnchorsNested anchors
  sorted : AllByRecursion HaveTheirSorts anchors

abbrev IsGoodLine : Line Var Term → Type 0
IsGoodLine l = AreGoodAnchors (open_anchors l.scope.nesting)

lines_good : (n : Nesting Var Term) (items : ProofItems Var Term) → AreGoodAnchors (open_anchors n) → AreWellSorted n items → AllByRecursion IsGoodLine (lines_in n items)
lines_good n no_items good sorted = tt
lines_good n (with_assume items id t) good sorted = all_joined IsGoodLine (lines_in n items) _ (lines_good n items good sorted.0) (good, tt)
lines_good n (with_step items s) good sorted = all_joined IsGoodLine (lines_in n items) _ (lines_good n items good sorted.0) (good, tt)
lines_good n (with_subproof items bindings proof s) good sorted =
    let deep : AreGoodAnchors (open_anchors (inner n items bindings s)) = record {
      nested = (all_changed (IsBindingIn n) (λ b. IsClosedUnder (open_anchors n) b.1) (λ b h. h.closed) bindings sorted.1, good.nested);
      sorted = (all_changed (IsBindingIn n) (λ b. IsOf b.1 b.0.sort) (λ b h. h.sort) bindings sorted.1, good.sorted);
    } in
    all_joined IsGoodLine (lines_in n items ++ lines_in (inner n items bindings s) proof) _
    (all_joined IsGoodLine (lines_in n items) _ (lines_good n items good sorted.0) (lines_good (inner n items bindings s) proof deep sorted.2)) (deep, tt)

good_own : (o : Option ℕ) (anchors : List Replacement) → AreGoodAnchors anchors → AreGoodAnchors (own_list o anchors)
good_own None anchors h = h
good_own (Some k) [] h = h
good_own (Some k) (a ∷ anchors) h = record { nested = h.nested.1; sorted = h.sorted.1 }

-- of the laws of `rule_model`
abbrev pub AreImagesBound : Type 0
AreImagesBound = (anchors : List Replacement) → ((x : Var) → IsBoundBy anchors x → Replaces (images anchors) x)

abbrev pub AreImagesSorted : Type 0
AreImagesSorted = (anchors : List Replacement) → AllByRecursion HaveTheirSorts anchors → HaveTheirSorts (images anchors)

module _ (bound : AreImagesBound) (are_sorted : AreImagesSorted) (p : Site) (v : TermsView) (c : IsToElaborate p v) where
  good_here : AreGoodAnchors (own_list (closes_at p.proof.now p.command) (anchors_at c.proof p.command))
  good_here =
      let within = within_terms p v c in
      let count = lines_in_count outermost c.proof in
      let line = nth_there (lines_in outermost c.proof) p.command (omega (arith, within, count)) in
      good_own (closes_at p.proof.now p.command) (anchors_at c.proof p.command)
      (subst AreGoodAnchors (sym (anchors_are c.proof p.command line.0 line.1))
      (all_at IsGoodLine (lines_in outermost c.proof) p.command line.0
      (lines_good outermost c.proof (record { nested = tt; sorted = tt }) c.sorted) line.1))

  good_anchors : (anchors : List Replacement) → AnchorsStand p.symbols.now v (own_anchors p.proof.now p.command) anchors → AreGoodAnchors anchors
  good_anchors anchors stand =
      subst AreGoodAnchors
      (one_anchors p.symbols.now v c.known (one_term p.symbols.now c.table) (own_anchors p.proof.now p.command)
      (own_list (closes_at p.proof.now p.command) (anchors_at c.proof p.command)) anchors (own_anchors_stand p v c) stand)
      good_here

  -- a term that is closed at the site becomes a closed one
  image_closed : (anchors : List Replacement) (t : Term) → AnchorsStand p.symbols.now v (own_anchors p.proof.now p.command) anchors → IsClosedAt p t
      → IsClosed (put_in (images anchors) t)
  image_closed anchors t stand closed x free =
      let was = free_was (images anchors) t x (images_closed anchors (good_anchors anchors stand).nested) free in
      was.1 (bound anchors x ((closed_under p v anchors t stand).0 closed x was.0))

  module _ (t u : Term) (h : IsPutIn p v t u) (closed : IsClosedAt p t) where
    put_closed : IsClosed u
    put_closed = subst IsClosed (sym h.is) (image_closed h.anchors t h.anchors_stand closed)

    put_again : put_in (images h.anchors) t ≡ put_in (images h.anchors) u
    put_again = sym h.is ∙ sym (put_in_closed (images h.anchors) u put_closed)

    put_sort : (sort : Sort) → IsOf t sort → IsOf u sort
    put_sort sort of =
        subst (λ x. IsOf x sort) (sym h.is)
        (put_in_sort (images h.anchors) t sort (are_sorted h.anchors (good_anchors h.anchors h.anchors_stand).sorted) of)

  -- a side and what it becomes may be equated by refl, either way round
  module _ (r q : ℕ) (h : IsImageOf p v r q) (sort : Sort) (of : IsOf h.term sort) (closed : IsClosedAt p h.term) where
    pub image_fits : IsSideAt p sort h.image
    image_fits = (put_sort h.term h.image h.put_in closed sort of, λ x free. absurd (put_closed h.term h.image h.put_in closed x free))

    pub image_sides : AreSides p h.term h.image
    image_sides = record { sort = sort; left = (of, closed); right = image_fits }

    pub same_forth : AreSameInContext p v r q
    same_forth = record {
      left = h.term;
      right = h.image;
      left_refers = h.refers;
      right_refers = h.image_refers;
      anchors = h.put_in.anchors;
      anchors_stand = h.put_in.anchors_stand;
      same = put_again h.term h.image h.put_in closed;
    }

    pub same_back : AreSameInContext p v q r
    same_back = record {
      left = h.image;
      right = h.term;
      left_refers = h.image_refers;
      right_refers = h.refers;
      anchors = h.put_in.anchors;
      anchors_stand = h.put_in.anchors_stand;
      same = sym (put_again h.term h.image h.put_in closed);
    }
