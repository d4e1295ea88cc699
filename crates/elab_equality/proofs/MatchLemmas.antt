-- Private. Two applications whose arguments are linked, place by place or crosswise.
use Rattle.std.proofs.Common.{◌≡◌, inl, ℕ, List, [], ◌∷◌, Result, Ok, Err, IsErrAnd, sym, subst, arith}
use Rattle.std.specs.List.{AllZip}
use Rattle.pair_pool.specs.Views.{IsOneToOne}
use Rattle.sym_table.specs.Table.{IsTable}
use Rattle.term_model.specs.declared.symbols.Op.{Op}
use Rattle.term_model.specs.declared.symbols.Sort.{Sort}
use Rattle.term_model.specs.Flips.{equality}
use Rattle.term_model.specs.Terms.{Term}
use Rattle.term_pool.specs.Placing.{LacksRoomFor, PlacesTerm}
use Rattle.term_pool.specs.Views.{TermsView, KeepsTerms, RefersTo, ReferToAll}
use Rattle.term_pool.proofs.PlacedCells.{lacks_for_term, places_of_term}
use Rattle.term_parts.specs.declared.answers.RuleStop.{RuleStop}
use Rattle.proof_store.specs.AddedSteps.{AddedStep}
use Rattle.proof_store.specs.declared.added.Link.{Link}
use Rattle.rule_model.specs.Congruence.{applied, operator}
use Rattle.equality_steps.specs.declared.site.Site.{Site}
use Rattle.equality_steps.specs.Given.{AreChained, AreLinkedArguments, AreTurned}
use Rattle.equality_steps.specs.Links.{LinkEquates}
use Rattle.equality_steps.specs.Sites.{AreSides, AreSidesAt}
use Rattle.equality_steps.proofs.SiteLemmas.{equality_fits}
use Rattle.equality_steps.proofs.StepLemmas.{refer_later}
use Rattle.flip_steps.proofs.EquateLemmas.{chained_two}
use Rattle.flip_steps.proofs.OrderLemmas.{refers_later}
use Rattle.flip_steps.proofs.UnitLemmas.{extends_itself}
use Rattle.equality_blocks.specs.Made.{IsMadeFor, IsPlacedFor}
use Rattle.equality_blocks.proofs.StayLemmas.{made_later}
use Rattle.elab_equality.specs.declared.matching.Crossed.{Crossed}
use Rattle.elab_equality.specs.declared.matching.Matched.{Matched}
use Rattle.elab_equality.specs.declared.work.Work.{Work}
use Rattle.elab_equality.specs.Linked.{AreLinkedBy, IsPair}
use Rattle.elab_equality.specs.Matching.{IsCrossed, IsMatched}
use Rattle.elab_equality.specs.Work.{AreMadeEqual, IsDone, IsWork}
use Rattle.elab_equality.proofs.LinkLemmas.{linked_said, pair_later}
use Rattle.elab_equality.proofs.WorkLemmas.{work_later}

-- applications that are matched
module _ (p : Site) (u v : TermsView) (x : Matched) (h : IsMatched p u x) (keeps : KeepsTerms u v) where
  pub matched_given : (steps : List AddedStep) (links others : List Link) → IsTable p.symbols.now → IsOneToOne v.pass → others ≡ links
      → AreLinkedBy p v steps x.lefts.now x.rights.now links → AreLinkedArguments p v steps others x.left x.right
  matched_given steps links others table one e linked =
      let said = linked_said p v steps table one x.lefts.now x.rights.now others h.ts h.us (refer_later p u v keeps x.lefts.now h.ts h.lefts_refer)
      (refer_later p u v keeps x.rights.now h.us h.rights_refer) (subst (AreLinkedBy p v steps x.lefts.now x.rights.now) (sym e) linked) in
      record {
        head = h.head;
        ts = h.ts;
        us = h.us;
        some = h.some;
        left_refers = refers_later p.symbols.now u v x.left (applied h.head h.ts) keeps h.left_refers;
        right_refers = refers_later p.symbols.now u v x.right (applied h.head h.us) keeps h.right_refers;
        clauses = said.clauses;
        say = said.say;
        differences = said.differences;
      }

  pub matched_sides : AreSidesAt p v x.left x.right
  matched_sides = record {
    left = applied h.head h.ts;
    right = applied h.head h.us;
    left_refers = refers_later p.symbols.now u v x.left (applied h.head h.ts) keeps h.left_refers;
    right_refers = refers_later p.symbols.now u v x.right (applied h.head h.us) keeps h.right_refers;
    sides = h.sides;
  }

  pub matched_made : AreMadeEqual p v x.left x.right
  matched_made = record {
    left = applied h.head h.ts;
    right = applied h.head h.us;
    left_refers = refers_later p.symbols.now u v x.left (applied h.head h.ts) keeps h.left_refers;
    right_refers = refers_later p.symbols.now u v x.right (applied h.head h.us) keeps h.right_refers;
    made = made_later p u v keeps (equality (applied h.head h.ts) (applied h.head h.us)) h.made;
  }

-- a term that is made is placed
pub placed_done : (p : Site) (u v : TermsView) (a : Work) (t : Term) → IsWork p u a → KeepsTerms u v → IsMadeFor p u t → PlacesTerm p.symbols.now u.pass v.pass t
    → IsDone {X = ℕ} p u v a a 0 (Ok 0)
placed_done p u v a t h keeps made placed = record {
  keeps = keeps;
  placed = places_of_term p.symbols.now u.pass v.pass (IsPlacedFor p v) t (inl (made_later p u v keeps t made)) placed;
  full = tt;
  moved = record { work = work_later p u v keeps a h; more = extends_itself a.block; few = omega arith };
}

pub refused_done : {Y : Type 0} (p : Site) (u v : TermsView) (a b : Work) (n : ℕ) (t : Term) (r : Result Y RuleStop) → KeepsTerms u v → IsMadeFor p u t
    → PlacesTerm p.symbols.now u.pass v.pass t → LacksRoomFor p.symbols.now v.pass t → IsErrAnd r (λ e. e ≡ RuleStop.PoolFull) → IsDone p u v a b n r
refused_done p u v a b n t (Ok y) keeps made placed full is = absurd is
refused_done p u v a b n t (Err e) keeps made placed full is = record {
  keeps = keeps;
  placed = places_of_term p.symbols.now u.pass v.pass (IsPlacedFor p v) t (inl (made_later p u v keeps t made)) placed;
  full = λ f. lacks_for_term p.symbols.now v.pass (IsPlacedFor p v) t (inl (made_later p u v keeps t made)) full;
  moved = tt;
}

-- equalities that are crossed
module _ (p : Site) (u v : TermsView) (x : Crossed) (h : IsCrossed p u x) (keeps : KeepsTerms u v) where
  whole_later : RefersTo p.symbols.now v x.left (equality h.outer.left h.inner.left)
  whole_later = refers_later p.symbols.now u v x.left (equality h.outer.left h.inner.left) keeps h.left_refers

  other_later : RefersTo p.symbols.now v x.right (equality h.inner.right h.outer.right)
  other_later = refers_later p.symbols.now u v x.right (equality h.inner.right h.outer.right) keeps h.right_refers

  pub crossed_turned : (turned : ℕ) → RefersTo p.symbols.now v turned (equality h.inner.left h.outer.left) → AreTurned p v x.left turned
  crossed_turned turned refers = record {
    left = h.outer.left;
    right = h.inner.left;
    whole_refers = whole_later;
    turned_refers = refers;
    sides = h.left_sides;
  }

  pub crossed_exchanged : (turned : ℕ) → RefersTo p.symbols.now v turned (equality h.inner.left h.outer.left) → AreMadeEqual p v x.left turned
  crossed_exchanged turned refers = record {
    left = equality h.outer.left h.inner.left;
    right = equality h.inner.left h.outer.left;
    left_refers = whole_later;
    right_refers = refers;
    made = made_later p u v keeps (equality (equality h.outer.left h.inner.left) (equality h.inner.left h.outer.left)) h.exchanged;
  }

  turned_sides : AreSides p (equality h.inner.left h.outer.left) (equality h.inner.right h.outer.right)
  turned_sides = record {
    sort = Sort.Bool;
    left = equality_fits p h.inner.left h.outer.left (record { sort = h.left_sides.sort; left = h.left_sides.right; right = h.left_sides.left });
    right = equality_fits p h.inner.right h.outer.right h.right_sides;
  }

  pub crossed_matched : (y : Matched) → RefersTo p.symbols.now v y.left (equality h.inner.left h.outer.left) → y.right ≡ x.right → y.lefts.now ≡ x.b ∷ x.a ∷ []
      → y.rights.now ≡ x.c ∷ x.d ∷ [] → IsMatched p v y
  crossed_matched y refers right lefts rights =
      let outer = pair_later p u v keeps x.a x.d h.outer in
      let inner = pair_later p u v keeps x.b x.c h.inner in
      record {
        head = operator Op.Equal;
        ts = h.inner.left ∷ h.outer.left ∷ [];
        us = h.inner.right ∷ h.outer.right ∷ [];
        some = λ e. cc;
        left_refers = refers;
        right_refers = subst (λ r. RefersTo p.symbols.now v r (equality h.inner.right h.outer.right)) (sym right) other_later;
        lefts_refer = subst (λ rs. ReferToAll p.symbols.now v rs (h.inner.left ∷ h.outer.left ∷ [])) (sym lefts) (
          refers_later p.symbols.now u v x.b h.inner.left keeps h.inner.left_refers,
          (refers_later p.symbols.now u v x.a h.outer.left keeps h.outer.left_refers, tt),
        );
        rights_refer = subst (λ rs. ReferToAll p.symbols.now v rs (h.inner.right ∷ h.outer.right ∷ [])) (sym rights) (
          refers_later p.symbols.now u v x.c h.inner.right keeps h.inner.right_refers,
          (refers_later p.symbols.now u v x.d h.outer.right keeps h.outer.right_refers, tt),
        );
        sides = turned_sides;
        made = made_later p u v keeps (equality (equality h.inner.left h.outer.left) (equality h.inner.right h.outer.right)) h.through;
        pairs = subst (λ rs. AllZip (IsPair p v) rs y.rights.now) (sym lefts) (subst (λ rs. AllZip (IsPair p v) (x.b ∷ x.a ∷ []) rs) (sym rights) (inner, (outer, tt)));
      }

  pub crossed_chained : (steps : List AddedStep) (first second : Link) (links : List Link) (turned : ℕ) → IsTable p.symbols.now → IsOneToOne v.pass
      → links ≡ first ∷ second ∷ [] → LinkEquates p v steps first x.left turned → LinkEquates p v steps second turned x.right
      → AreChained p v steps links x.left x.right
  crossed_chained steps first second links turned table one e h k = chained_two p v steps table one first second links x.left turned x.right e h k

  pub crossed_made : AreMadeEqual p v x.left x.right
  crossed_made = record {
    left = equality h.outer.left h.inner.left;
    right = equality h.inner.right h.outer.right;
    left_refers = whole_later;
    right_refers = other_later;
    made = made_later p u v keeps (equality (equality h.outer.left h.inner.left) (equality h.inner.right h.outer.right)) h.made;
  }
