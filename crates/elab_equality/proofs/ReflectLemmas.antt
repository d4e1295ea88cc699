-- Private. The steps of a refl: each side is what it becomes, and what the two become is equal up to flips.
use Rattle.std.proofs.Common.{◌≡◌, inl, inr, ℕ, List, ◌++◌, Option, Some, None, refl, sym, ◌∙◌, ap, subst}
use Rattle.std.proofs.lemmas.List.{append-nil}
use Rattle.std.specs.Option.{option_to_list}
use Rattle.term_model.specs.Flips.{equality, EqualUpToFlips}
use Rattle.term_model.specs.Sorts.{IsOf}
use Rattle.term_model.specs.Terms.{Var, Term}
use Rattle.term_pool.specs.Views.{TermsView}
use Rattle.term_pool.proofs.OneTerm.{one_term}
use Rattle.term_pool.proofs.TermLemmas.{equal_where}
use Rattle.proof_store.specs.AddedSteps.{AddedStep}
use Rattle.proof_store.specs.declared.added.Link.{Link}
use Rattle.rule_model.specs.declared.kinds.Family.{Family}
use Rattle.rule_model.specs.declared.rules.Mode.{Mode}
use Rattle.rule_model.specs.declared.rules.Rule.{Rule}
use Rattle.rule_model.specs.Contexts.{images}
use Rattle.rule_model.specs.Judged.{anchors_at}
use Rattle.rule_model.specs.Reading.{clause_at, closes_at, premise_clauses}
use Rattle.rule_model.specs.Refl.{MeetsRefl}
use Rattle.rule_model.specs.Substitution.{put_in}
use Rattle.elaborator.specs.Sources.{own_anchors}
use Rattle.elaboration_laws.specs.StrictBlocks.{AnchorsStand}
use Rattle.elaboration_laws.proofs.Ones.{one_anchors}
use Rattle.elaboration_laws.proofs.Reading.{anchors_stand}
use Rattle.equality_steps.specs.declared.site.Site.{Site}
use Rattle.equality_steps.specs.Given.{AreSameInContext}
use Rattle.equality_steps.specs.Sites.{AreSides, AreSidesAt, IsClosedAt}
use Rattle.equality_steps.proofs.LawLemmas.{own_same}
use Rattle.equality_steps.proofs.SiteLemmas.{sides_turned}
use Rattle.flip_steps.specs.Memory.{IsEquatedBy}
use Rattle.flip_steps.specs.Subterms.{whole}
use Rattle.equality_blocks.specs.Commands.{IsToElaborate, rule_of_command}
use Rattle.equality_blocks.specs.Counts.{side}
use Rattle.equality_blocks.specs.Made.{stated, paired, equated}
use Rattle.equality_blocks.specs.Pairs.{AreEquated, linked, put_in_one, put_in_both}
use Rattle.equality_blocks.proofs.ConditionLemmas.{closes_nothing, met_rule}
use Rattle.elab_equality.specs.Linked.{AreFlips, IsInCommand}
use Rattle.elab_equality.specs.Reflecting.{IsImageOf, IsReflected}
use Rattle.elab_equality.specs.Walking.{LeadOn, StatesEquality}
use Rattle.elab_equality.specs.Work.{AreMadeEqual}
use Rattle.elab_equality.specs.declared.reflecting.Reflected.{Reflected}
use Rattle.elab_equality.proofs.ClauseLemmas.{clause_literal, clause_sides, same_clause, states_equality}
use Rattle.elab_equality.proofs.ImageLemmas.{AreImagesBound, AreImagesSorted, image_fits, image_sides, same_back, same_forth}
use Rattle.elab_equality.proofs.WalkLemmas.{leads_more}

module _ (p : Site) (v : TermsView) (c : IsToElaborate p v) (is : rule_of_command p ≡ Rule.Refl) where
  pub refl_met : MeetsRefl Mode.Check (anchors_at c.proof p.command) (premise_clauses c.proof p.command) (clause_at c.proof p.command)
  refl_met = met_rule p v c Family.Refl Rule.Refl is refl (λ k met. met)

  pub refl_closes : closes_at p.proof.now p.command ≡ None
  refl_closes = closes_nothing p v c Family.Refl Rule.Refl is refl (λ k met. met)

  pub refl_states : StatesEquality p v
  refl_states = states_equality p v c refl_met.left refl_met.right refl_met.literal

  -- the anchors of a side are those by which the condition is met
  pub same_anchors : (anchors : List (List (Var × Term))) → AnchorsStand p.symbols.now v (own_anchors p.proof.now p.command) anchors
      → anchors_at c.proof p.command ≡ anchors
  same_anchors anchors stand =
      one_anchors p.symbols.now v c.known (one_term p.symbols.now c.table) (own_anchors p.proof.now p.command) (anchors_at c.proof p.command) anchors
      (subst (λ xs. AnchorsStand p.symbols.now v xs (anchors_at c.proof p.command)) (sym (own_same p.proof.now p.command refl_closes))
      (anchors_stand p.symbols.now v p.proof.now c.proof c.stand p.command))
      stand

module _ (bound : AreImagesBound) (are_sorted : AreImagesSorted) (p : Site) (v : TermsView) (c : IsToElaborate p v) (is : rule_of_command p ≡ Rule.Refl)
    (x : Reflected) (h : IsReflected p v x) where
  both : AreSides p h.ends.left h.ends.right
  both = clause_sides p v c x.left x.right h.ends

  left_same : h.ends.left ≡ h.left_is.term
  left_same = (equal_where p.symbols.now v c.table c.known x.left x.left h.ends.left h.left_is.term h.ends.left_refers h.left_is.refers).0 refl

  right_same : h.ends.right ≡ h.right_is.term
  right_same = (equal_where p.symbols.now v c.table c.known x.right x.right h.ends.right h.right_is.term h.ends.right_refers h.right_is.refers).0 refl

  left_of : IsOf h.left_is.term both.sort
  left_of = subst (λ t. IsOf t both.sort) left_same both.left.0

  left_closed : IsClosedAt p h.left_is.term
  left_closed = subst (IsClosedAt p) left_same both.left.1

  right_of : IsOf h.right_is.term both.sort
  right_of = subst (λ t. IsOf t both.sort) right_same both.right.0

  right_closed : IsClosedAt p h.right_is.term
  right_closed = subst (IsClosedAt p) right_same both.right.1

  left_sides : AreSides p h.left_is.term h.left_is.image
  left_sides = image_sides bound are_sorted p v c x.left x.left_image h.left_is both.sort left_of left_closed

  right_sides : AreSides p h.right_is.term h.right_is.image
  right_sides = image_sides bound are_sorted p v c x.right x.right_image h.right_is both.sort right_of right_closed

  pub first_same : AreSameInContext p v x.left x.left_image
  first_same = same_forth bound are_sorted p v c x.left x.left_image h.left_is both.sort left_of left_closed

  pub first_sides : AreSidesAt p v x.left x.left_image
  first_sides = record {
    left = h.left_is.term;
    right = h.left_is.image;
    left_refers = h.left_is.refers;
    right_refers = h.left_is.image_refers;
    sides = left_sides;
  }

  pub first_made : AreMadeEqual p v x.left x.left_image
  first_made = record {
    left = h.left_is.term;
    right = h.left_is.image;
    left_refers = h.left_is.refers;
    right_refers = h.left_is.image_refers;
    made = stated (equality h.left_is.term h.left_is.image)
        (paired h.left_is.term h.left_is.image (equality h.left_is.term h.left_is.image)
        (inl (linked h.left_is.term h.left_is.image (put_in_one h.left_is.put_in))) equated);
  }

  pub last_same : AreSameInContext p v x.right_image x.right
  last_same = same_back bound are_sorted p v c x.right x.right_image h.right_is both.sort right_of right_closed

  pub last_sides : AreSidesAt p v x.right_image x.right
  last_sides = record {
    left = h.right_is.image;
    right = h.right_is.term;
    left_refers = h.right_is.image_refers;
    right_refers = h.right_is.refers;
    sides = sides_turned p h.right_is.term h.right_is.image right_sides;
  }

  pub last_made : AreMadeEqual p v x.right_image x.right
  last_made = record {
    left = h.right_is.image;
    right = h.right_is.term;
    left_refers = h.right_is.image_refers;
    right_refers = h.right_is.refers;
    made = stated (equality h.right_is.image h.right_is.term)
        (paired h.right_is.image h.right_is.term (equality h.right_is.image h.right_is.term)
        (inr (linked h.right_is.term h.right_is.image (put_in_one h.right_is.put_in))) equated);
  }

  in_command : (r q : ℕ) (i : IsImageOf p v r q) → IsInCommand p v q
  in_command r q i = record {
    root = q;
    is = side i.term i.image i.put_in i.image_refers;
    stands = record { whole = i.image; whole_refers = i.image_refers; term = i.image; refers = i.image_refers; within = whole };
  }

  images_equal : EqualUpToFlips h.left_is.image h.right_is.image
  images_equal =
      let met = refl_met p v c is in
      let same = same_clause p v c x.left x.right h.ends met.left met.right met.literal in
      let left : met.left ≡ h.left_is.term = (let e : met.left ≡ h.ends.left = cc in e ∙ left_same) in
      let right : met.right ≡ h.right_is.term = (let e : met.right ≡ h.ends.right = cc in e ∙ right_same) in
      let left_is : put_in (images (anchors_at c.proof p.command)) met.left ≡ h.left_is.image =
      ap (λ anchors. put_in (images anchors) met.left) (same_anchors p v c is h.left_is.put_in.anchors h.left_is.put_in.anchors_stand)
      ∙ (ap (put_in (images h.left_is.put_in.anchors)) left ∙ sym h.left_is.put_in.is) in
      let right_is : put_in (images (anchors_at c.proof p.command)) met.right ≡ h.right_is.image =
      ap (λ anchors. put_in (images anchors) met.right) (same_anchors p v c is h.right_is.put_in.anchors h.right_is.put_in.anchors_stand)
      ∙ (ap (put_in (images h.right_is.put_in.anchors)) right ∙ sym h.right_is.put_in.is) in
      subst (λ t. EqualUpToFlips t h.right_is.image) left_is
      (subst (λ u. EqualUpToFlips (put_in (images (anchors_at c.proof p.command)) met.left) u) right_is met.same)

  clause_equated : AreEquated p v h.left_is.term h.right_is.term
  clause_equated =
      subst (λ t. AreEquated p v t h.right_is.term) left_same
      (subst (λ u. AreEquated p v h.ends.left u) right_same (inl (clause_literal p v c x.left x.right h.ends)))

  pub middle_flips : AreFlips p v x.left_image x.right_image
  middle_flips = record {
    left = h.left_is.image;
    right = h.right_is.image;
    left_refers = h.left_is.image_refers;
    right_refers = h.right_is.image_refers;
    left_in = in_command x.left x.left_image h.left_is;
    right_in = in_command x.right x.right_image h.right_is;
    sides = record {
      sort = both.sort;
      left = image_fits bound are_sorted p v c x.left x.left_image h.left_is both.sort left_of left_closed;
      right = image_fits bound are_sorted p v c x.right x.right_image h.right_is both.sort right_of right_closed;
    };
    paired = inl (linked h.left_is.image h.right_is.image (put_in_both (record {
      left = h.left_is.term;
      right = h.right_is.term;
      equated = clause_equated;
      left_put_in = h.left_is.put_in;
      right_put_in = h.right_is.put_in;
    })));
    equal = images_equal;
  }

-- a link that is there or not leads on
pub leads_maybe : (p : Site) (v : TermsView) (steps : List AddedStep) (a b c : ℕ) (links : List Link) (o : Option Link) → LeadOn p v steps a links b
    → IsEquatedBy p v steps o b c → LeadOn p v steps a (links ++ option_to_list o) c
leads_maybe p v steps a b c links None h same = subst (λ ls. LeadOn p v steps a ls c) (sym (append-nil links)) (subst (LeadOn p v steps a links) same h)
leads_maybe p v steps a b c links (Some link) h said = leads_more p v steps a b c links link h said.1
