-- Cited by crates above. What is made for a command, and how many steps are few for it, stays so as more is known of the terms.
use Rattle.std.proofs.Common.{◌≡◌, ◌⊎◌, inl, inr, ℕ, List, [], ◌∷◌, slice_get, Some, Contains}
use Rattle.std.specs.List.{AllZip}
use Rattle.pair_pool.specs.Trees.{Tree}
use Rattle.pair_pool.specs.Views.{Grows, Knows}
use Rattle.sym_table.specs.Table.{Table}
use Rattle.sym_table.proofs.Tables.{keeps_table}
use Rattle.term_model.proofs.Zips.{zip_weaken}
use Rattle.term_model.specs.Flips.{equality}
use Rattle.term_model.specs.Terms.{Var, Term, not_of}
use Rattle.term_pool.specs.Bindings.{IsBindingOf}
use Rattle.term_pool.specs.Views.{TermsView, RefersTo, KnowsAll}
use Rattle.proof_store.specs.Meaning.{StandForItems}
use Rattle.proof_store.proofs.MeaningLemmas.{items_stay}
use Rattle.rule_model.specs.Proofs.{ProofItems}
use Rattle.elaboration_laws.specs.StrictBlocks.{AnchorsStand}
use Rattle.equality_steps.specs.declared.site.Site.{Site}
use Rattle.flip_steps.specs.Memory.{IsCellWithin}
use Rattle.flip_steps.specs.Stages.{StandsBefore, IsStage, itself, refilled, formed as stage_formed, IsMadeAt, StandsIn, IsMadeFrom}
use Rattle.flip_steps.specs.Stages.{IsMadeFor as IsMadeForTerm, stage, equated as stages_equated}
use Rattle.flip_steps.proofs.OrderLemmas.{form_more, forms_more}
use Rattle.equality_blocks.specs.Commands.{IsLiteralOfCommand}
use Rattle.equality_blocks.specs.Counts.{IsFew, IsRootOf, literal as root_literal, asserted, side}
use Rattle.equality_blocks.specs.Made.{IsStatedFor, paired, literal, formed, IsMadeFor, stated, denied, apart, IsImageFor, IsPlacedFor}
use Rattle.equality_blocks.specs.Pairs.{AreConcluded, AreEquated, AreImplied, AreLinkedBy, AreMatched, AreOrdered, ArePaired, IsFirstAsserted, IsPutIn}
use Rattle.equality_blocks.specs.Pairs.{equated, implied, assumed, put_in_one, put_in_both, linked, arguments, outer, inner, reversed, turned}

module _ (s : Table) (v w : TermsView) (more : Grows v.pass w.pass) where
  pub refers_more : (r : ℕ) (t : Term) → RefersTo s v r t → RefersTo s w r t
  refers_more r t h = record { tree = h.tree; known = more r h.tree h.known; stands = h.stands }

  binding_more : (b : ℕ × ℕ) (c : Var × Term) → IsBindingOf s v b c → IsBindingOf s w b c
  binding_more b c h = record { variable = h.variable; term = refers_more b.1 c.1 h.term }

  pub anchors_more : (refs : List (List (ℕ × ℕ))) (anchors : List (List (Var × Term))) → AnchorsStand s v refs anchors → AnchorsStand s w refs anchors
  anchors_more refs anchors h =
      zip_weaken (λ bs cs. AllZip (IsBindingOf s v) bs cs) (λ bs cs. AllZip (IsBindingOf s w) bs cs)
      (λ bs cs k. zip_weaken (IsBindingOf s v) (IsBindingOf s w) binding_more bs cs k) refs anchors h

  pub items_more : (refs : ProofItems ℕ ℕ) (proof : ProofItems Var Term) → StandForItems s v refs proof → StandForItems s w refs proof
  items_more refs proof h = items_stay s s v w (keeps_table s) refers_more refs proof h

  before_more : (a b : Term) → StandsBefore s v a b → StandsBefore s w a b
  before_more a b h = record {
    left = h.left;
    right = h.right;
    left_refers = refers_more h.left a h.left_refers;
    right_refers = refers_more h.right b h.right_refers;
    order = h.order;
  }

  stage_more : (t x : Term) → IsStage s v t x → IsStage s w t x
  stage_more t _ itself = itself
  stage_more t _ (refilled us h) = refilled us (forms_more (StandsBefore s v) (StandsBefore s w) before_more _ us h)
  stage_more t _ (stage_formed f h) = stage_formed f (form_more (StandsBefore s v) (StandsBefore s w) before_more t f h)

  made_for_more : (t x : Term) → IsMadeForTerm s v t x → IsMadeForTerm s w t x
  made_for_more t _ (stage x h) = stage x (stage_more t x h)
  made_for_more t _ (stages_equated x y h k) = stages_equated x y (stage_more t x h) (stage_more t y k)

  pub stands_more : (root r : ℕ) → StandsIn s v root r → StandsIn s w root r
  stands_more root r h = record {
    whole = h.whole;
    whole_refers = refers_more root h.whole h.whole_refers;
    term = h.term;
    refers = refers_more r h.term h.refers;
    within = h.within;
  }

  made_from_more : (root : ℕ) (x : Term) → IsMadeFrom s v root x → IsMadeFrom s w root x
  made_from_more root x h = record {
    from = h.from;
    stands = stands_more root h.from h.stands;
    made = record {
      term = h.made.term;
      refers = refers_more h.from h.made.term h.made.refers;
      made = made_for_more h.made.term x h.made.made;
    };
  }

module _ (p : Site) (v w : TermsView) (more : Grows v.pass w.pass) where
  abbrev refers : (r : ℕ) (t : Term) → RefersTo p.symbols.now v r t → RefersTo p.symbols.now w r t
  refers r t h = refers_more p.symbols.now v w more r t h

  literal_more : (t : Term) → IsLiteralOfCommand p v t → IsLiteralOfCommand p w t
  literal_more t h = record { reference = h.reference; among = h.among; refers = refers h.reference t h.refers }

  equated_more : (t u : Term) → AreEquated p v t u → AreEquated p w t u
  equated_more t u (inl h) = inl (literal_more (equality t u) h)
  equated_more t u (inr h) = inr (literal_more (not_of (equality t u)) h)

  implied_more : (t u : Term) → AreImplied p v t u → AreImplied p w t u
  implied_more t u h = record {
    rule = h.rule;
    before = h.before;
    denied = h.denied;
    given = h.given;
    clause = h.clause;
    denied_refers = refers h.denied (not_of t) h.denied_refers;
    given_refers = refers h.given u h.given_refers;
  }

  first_more : (u : Term) (r : ℕ) → IsFirstAsserted p v u r → IsFirstAsserted p w u r
  first_more u r h = record {
    rule = h.rule;
    assumed = h.assumed;
    clause = h.clause;
    assumed_refers = refers h.assumed u h.assumed_refers;
    before = h.before;
    after = h.after;
    asserted = h.asserted;
    others = λ q has. let one = h.others q has in record { term = one.term; refers = refers q one.term one.refers; differs = one.differs };
    term = h.term;
    refers = refers r h.term h.refers;
    equal = h.equal;
  }

  put_in_more : (t u : Term) → IsPutIn p v t u → IsPutIn p w t u
  put_in_more t u h = record {
    rule = h.rule;
    anchors = h.anchors;
    anchors_stand = anchors_more p.symbols.now v w more _ h.anchors h.anchors_stand;
    other = h.other;
    side = elim h.side [ inl e ↦ inl (equated_more t h.other e) | inr e ↦ inr (equated_more h.other t e) ];
    is = h.is;
  }

  linked_more : (t u : Term) → AreLinkedBy p v t u → AreLinkedBy p w t u
  linked_more t u (equated h) = equated (equated_more t u h)
  linked_more t u (implied h) = implied (implied_more t u h)
  linked_more t u (assumed h) = assumed (record { reference = h.reference; first = first_more u h.reference h.first; refers = refers h.reference t h.refers })
  linked_more t u (put_in_one h) = put_in_one (put_in_more t u h)
  linked_more t u (put_in_both h) = put_in_both (record {
    left = h.left;
    right = h.right;
    equated = equated_more h.left h.right h.equated;
    left_put_in = put_in_more h.left t h.left_put_in;
    right_put_in = put_in_more h.right u h.right_put_in;
  })

  concluded_more : (t u : Term) → AreConcluded p v t u → AreConcluded p w t u
  concluded_more t u h = record {
    rule = h.rule;
    before = h.before;
    reference = h.reference;
    clause = h.clause;
    refers = refers h.reference (equality t u) h.refers;
  }

  matched_more : (t u : Term) → AreMatched p v t u → AreMatched p w t u
  matched_more t u (inl h) = inl (concluded_more t u h)
  matched_more t u (inr h) = inr (implied_more t u h)

  ordered_more : (t u : Term) → AreOrdered p v t u → AreOrdered p w t u
  ordered_more _ _ (linked t u h) = linked t u (linked_more t u h)
  ordered_more _ _ (arguments t u x y h at) = arguments t u x y (matched_more t u h) at
  ordered_more _ _ (outer a b c d h) = outer a b c d (matched_more (equality a b) (equality c d) h)
  ordered_more _ _ (inner a b c d h) = inner a b c d (matched_more (equality a b) (equality c d) h)
  ordered_more _ _ (reversed a b c d h) = reversed a b c d (matched_more (equality a b) (equality c d) h)
  ordered_more _ _ (turned a b c d h) = turned a b c d (matched_more (equality a b) (equality c d) h)

  pub paired_more : (t u : Term) → ArePaired p v t u → ArePaired p w t u
  paired_more t u (inl h) = inl (ordered_more t u h)
  paired_more t u (inr h) = inr (ordered_more u t h)

  pub root_more : (r : ℕ) → IsRootOf p v r → IsRootOf p w r
  root_more r (root_literal h) = root_literal h
  root_more r (asserted t h) = asserted t (first_more t r h)
  root_more r (side t u h k) = side t u (put_in_more t u h) (refers r u k)

  stated_more : (x : Term) → IsStatedFor p v x → IsStatedFor p w x
  stated_more _ (paired t u x h k) = paired t u x (paired_more t u h) k
  stated_more _ (literal x h) = literal x (literal_more x h)
  stated_more _ (formed root x h k) = formed root x (root_more root h) (made_from_more p.symbols.now v w more root x k)

  pub made_more : (x : Term) → IsMadeFor p v x → IsMadeFor p w x
  made_more _ (stated x h) = stated x (stated_more x h)
  made_more _ (denied t u h) = denied t u (paired_more t u h)
  made_more _ (apart t u h) = apart t u (paired_more t u h)

  pub placed_more : (x : Term) → IsPlacedFor p v x → IsPlacedFor p w x
  placed_more x (inl h) = inl (made_more x h)
  placed_more x (inr h) = inr (record {
    rule = h.rule;
    proof = h.proof;
    stand = items_more p.symbols.now v w more p.proof.now h.proof h.stand;
    image = h.image;
  })

  pub few_more : (n : ℕ) → IsFew p v n → IsFew p w n
  few_more n h = record {
    roots = h.roots;
    are = λ r has. root_more r (h.are r has);
    trees = h.trees;
    known = zip_weaken (Knows v.pass) (Knows w.pass) more h.roots h.trees h.known;
    cells = h.cells;
    count = h.count;
    few = h.few;
  }
