-- Private. Which plain numbers the literals of a false clause have, and those of a clause that contradicts itself.
use Rattle.std.proofs.Common.{◌≡◌, ◌≢◌, ◌+◌, ◌⊎◌, inl, inr, ℕ, Bool, true, false, not, List}
use Rattle.std.proofs.Common.{refl, sym, ◌∙◌, ap, subst, arith, All, Contains}
use Rattle.std.proofs.lemmas.List.Elements.{All-contains}
use Rattle.term_model.specs.Terms.{Term}
use Rattle.rule_model.specs.declared.literal.Literal.{Literal}
use Rattle.rule_model.specs.declared.literal.Literal.TheVariants.{Plain, Always, Never}
use Rattle.rule_model.specs.Consequence.{Contradicts, IsFalse}
use Rattle.rule_model.specs.Literals.{negation_of}
use Rattle.rule_model.specs.Resolution.{as_clause, as_literal}
use Rattle.rule_model.proofs.Consequence.{negation_of-negation_of}
use Rattle.clause_chain.specs.declared.signed_term.SignedTerm.{SignedTerm}
use Rattle.chain_plan.specs.Lowering.{IsPlain, IsPlainOfSome}
use Rattle.chain_plan.specs.Contradicting.{IsPlainNumberOf}
use Rattle.chain_plan.specs.Towers.{Towers, nots_at, HasNegation, HasRoom, AreTowers, AreNumbered}
use Rattle.chain_plan.specs.Towers.{IsLiteral, item_of, plain_of, side, term_of, terms_of}
use Rattle.chain_plan.proofs.Joining.{image_of, same_or_other}
use Rattle.chain_plan.proofs.Literals.{IsSide, side_of, plain_literal, truth_literal, denied_truth}
use Rattle.chain_plan.proofs.Literals.{falsity_literal, denied_falsity, atom_side, one_spelling, opposite_literal}
use Rattle.chain_plan.proofs.Towers.{plain_has_none, plain_most, plain_stands, room_below}

pub plain_item : (t : Towers) → AreTowers t → (g : SignedTerm) → IsLiteral t g → IsPlain t (item_of (plain_of t g.term))
plain_item t towers g literal =
    let within = literal.room.one.within in
    let most = plain_most t g.term in
    record {
      item = record { unsigned = refl; within = omega arith };
      few = plain_has_none t towers g.term g.term (omega arith) (omega arith);
    }

pub plain_room : (t : Towers) → AreTowers t → (k : ℕ) → HasRoom t k → HasRoom t (plain_of t k)
plain_room t towers k room =
    let below = plain_stands t towers k (let w = room.one.within in omega arith) in
    room_below t towers below.pairs (plain_of t k) k below.is below.nots room

never_always : {A : Type 0} {l : Literal A} → l ≡ Never → l ≡ Always → ⊥
never_always e f = cc

atom_never : {A : Type 0} (a : A) (p : Bool) → Plain a p ≡ Never → ⊥
atom_never a p e = cc

atom_always : {A : Type 0} (a : A) (p : Bool) → Plain a p ≡ Always → ⊥
atom_always a p e = cc

-- a term that begins with no `not` and its negation are literals without pairs of `not`
pub record HasOpposites (t : Towers) (goal : List SignedTerm) : Type 0 where
  pub number : ℕ
  pub above : HasNegation t number
  pub none : nots_at t number ≡ 0
  pub one : IsPlainNumberOf t goal number
  pub two : IsPlainNumberOf t goal (number + 1)

module _ (t : Towers) (towers : AreTowers t) (terms : ℕ → Term) (named : AreNumbered t terms) where
  -- a constant that is true
  constant_always : (b : ℕ) (s : Bool) → as_literal (terms (side b s).term) ≡ Always → (b ≡ t.truth) ⊎ (b ≡ t.falsity)
      → (side b s ≡ item_of t.truth) ⊎ (side b s ≡ item_of (t.falsity + 1))
  constant_always b true e (inl at) = inl (ap item_of at)
  constant_always b false e (inl at) =
      absurd (never_always (ap (λ k. as_literal (terms (k + 1))) at ∙ denied_truth t towers terms named) e)
  constant_always b true e (inr at) =
      absurd (never_always (ap (λ k. as_literal (terms k)) at ∙ falsity_literal t towers terms named) e)
  constant_always b false e (inr at) = inr (ap (λ k. item_of (k + 1)) at)

  -- one that is false
  constant_never : (b : ℕ) (s : Bool) → as_literal (terms (side b s).term) ≡ Never → (b ≡ t.truth) ⊎ (b ≡ t.falsity)
      → (side b s ≡ item_of (t.truth + 1)) ⊎ (side b s ≡ item_of t.falsity)
  constant_never b true e (inl at) =
      absurd (never_always e (ap (λ k. as_literal (terms k)) at ∙ truth_literal t towers terms named))
  constant_never b false e (inl at) = inl (ap (λ k. item_of (k + 1)) at)
  constant_never b true e (inr at) = inr (ap item_of at)
  constant_never b false e (inr at) =
      absurd (never_always e (ap (λ k. as_literal (terms (k + 1))) at ∙ denied_falsity t towers terms named))

  -- a plain item is a constant that is true, one that is false, or no constant
  abbrev pub KindOf : SignedTerm → Type 0
  KindOf x =
      ((as_literal (terms x.term) ≡ Always) × ((x ≡ item_of t.truth) ⊎ (x ≡ item_of (t.falsity + 1))))
      ⊎ (((as_literal (terms x.term) ≡ Never) × ((x ≡ item_of (t.truth + 1)) ⊎ (x ≡ item_of t.falsity)))
      ⊎ ((h : IsSide t x) × (h.base ≢ t.truth) × (h.base ≢ t.falsity) × (as_literal (terms x.term) ≡ Plain (terms h.base) (not h.sign))))

  constant_kind : (x : SignedTerm) (h : IsSide t x) → (h.base ≡ t.truth) ⊎ (h.base ≡ t.falsity) → KindOf x
  constant_kind x h constant = go h.sign refl constant
    where
      of_side : as_literal (terms x.term) ≡ as_literal (terms (side h.base h.sign).term)
      of_side = ap (λ (z : SignedTerm). as_literal (terms z.term)) h.is

      at_side : (s : Bool) → h.sign ≡ s → as_literal (terms x.term) ≡ as_literal (terms (side h.base s).term)
      at_side s e = of_side ∙ ap (λ b. as_literal (terms (side h.base b).term)) e

      is_side : (s : Bool) → h.sign ≡ s → x ≡ side h.base s
      is_side s e = h.is ∙ ap (side h.base) e

      go : (s : Bool) → h.sign ≡ s → (h.base ≡ t.truth) ⊎ (h.base ≡ t.falsity) → KindOf x
      go true e (inl at) =
          inl (at_side true e ∙ (ap (λ k. as_literal (terms k)) at ∙ truth_literal t towers terms named), inl (is_side true e ∙ ap item_of at))
      go false e (inl at) =
          inr (inl (
            at_side false e ∙ (ap (λ k. as_literal (terms (k + 1))) at ∙ denied_truth t towers terms named),
            inl (is_side false e ∙ ap (λ k. item_of (k + 1)) at),
          ))
      go true e (inr at) =
          inr (inl (at_side true e ∙ (ap (λ k. as_literal (terms k)) at ∙ falsity_literal t towers terms named), inr (is_side true e ∙ ap item_of at)))
      go false e (inr at) =
          inl (
            at_side false e ∙ (ap (λ k. as_literal (terms (k + 1))) at ∙ denied_falsity t towers terms named),
            inr (is_side false e ∙ ap (λ k. item_of (k + 1)) at),
          )

  pub kind_of_plain : (x : SignedTerm) → IsPlain t x → KindOf x
  kind_of_plain x plain =
      let h = side_of t towers x plain in
      elim (same_or_other h.base t.truth) [
        | inl e ↦ constant_kind x h (inl e)
        | inr no_truth ↦
            elim (same_or_other h.base t.falsity) [
              | inl e ↦ constant_kind x h (inr e)
              | inr no_falsity ↦
                  inr (inr (
                    h,
                    no_truth,
                    no_falsity,
                    ap (λ (z : SignedTerm). as_literal (terms z.term)) h.is
                        ∙ atom_side t towers terms named h.base h.sign h.within h.none no_truth no_falsity h.room,
                  ))
            ]
      ]

  -- the literal of a goal
  goal_literal : (goal : List SignedTerm) (l : Literal Term) → Contains (as_clause (terms_of terms goal)) l
      → (g : SignedTerm) × Contains goal g × (as_literal (terms g.term) ≡ l)
  goal_literal goal l there =
      let i = image_of as_literal (terms_of terms goal) l there in
      let j = image_of (term_of terms) goal i.0 i.1 in
      (j.0, j.1, ap as_literal j.2 ∙ i.2)

  plain_same : (g : SignedTerm) → IsLiteral t g → as_literal (terms (plain_of t g.term)) ≡ as_literal (terms g.term)
  plain_same g literal = plain_literal t towers terms named g.term g.term (omega arith) (let w = literal.room.one.within in omega arith)

  -- A plain item that is false by a goal that does not contradict itself, and is no spelling of `false`, is what is left of
  -- one of its literals.
  pub plains_of_false : (goal : List SignedTerm) → All (IsLiteral t) goal → (Contradicts (as_clause (terms_of terms goal)) → ⊥)
      → (x : SignedTerm) → IsPlain t x → x ≢ item_of t.falsity → x ≢ item_of (t.truth + 1)
      → IsFalse (as_clause (terms_of terms goal)) (as_literal (terms x.term)) → IsPlainOfSome t goal x
  plains_of_false goal literals no_contradiction x plain no_falsity no_denied_truth is_false = go (kind_of_plain x plain) is_false
    where
      go : KindOf x → IsFalse (as_clause (terms_of terms goal)) (as_literal (terms x.term)) → IsPlainOfSome t goal x
      go (inl (e, at)) (inl f) = absurd (never_always f e)
      go (inl (e, at)) (inr there) =
          absurd (no_contradiction (as_literal (terms x.term), there, inl (ap negation_of e)))
      go (inr (inl (e, inl at))) f = absurd (no_denied_truth at)
      go (inr (inl (e, inr at))) f = absurd (no_falsity at)
      go (inr (inr (h, no_true, no_false, e))) (inl f) = absurd (atom_never (terms h.base) (not h.sign) (sym e ∙ f))
      go (inr (inr (h, no_true, no_false, e))) (inr there) =
          let g = goal_literal goal (as_literal (terms x.term)) there in
          let literal = All-contains (IsLiteral t) goal g.0 literals g.1 in
          let one = one_spelling t towers terms named (item_of (plain_of t g.0.term)) (plain_item t towers g.0 literal) h.base h.sign h.within h.none
          no_true no_false h.room
          (plain_same g.0 literal ∙ (g.2 ∙ ap (λ (z : SignedTerm). as_literal (terms z.term)) h.is)) in
          (g.0, g.1, h.is ∙ sym one)

  -- what shows that the goal contradicts itself
  abbrev pub IsOpposed : List SignedTerm → Type 0
  IsOpposed goal = IsPlainNumberOf t goal t.truth ⊎ (IsPlainNumberOf t goal (t.falsity + 1) ⊎ HasOpposites t goal)

  by_always : (goal : List SignedTerm) (g : SignedTerm) → Contains goal g
      → (item_of (plain_of t g.term) ≡ item_of t.truth) ⊎ (item_of (plain_of t g.term) ≡ item_of (t.falsity + 1)) → IsOpposed goal
  by_always goal g there (inl e) = inl (g, there, sym (ap (λ (z : SignedTerm). z.term) e))
  by_always goal g there (inr e) = inr (inl (g, there, sym (ap (λ (z : SignedTerm). z.term) e)))

  opposites : (goal : List SignedTerm) → All (IsLiteral t) goal → (g h : SignedTerm) → Contains goal g → Contains goal h
      → as_literal (terms h.term) ≡ negation_of (as_literal (terms g.term)) → IsOpposed goal
  opposites goal literals g h g_there h_there opposed = go (kind_of_plain x x_plain)
    where
      x : SignedTerm
      x = item_of (plain_of t g.term)

      y : SignedTerm
      y = item_of (plain_of t h.term)

      g_literal : IsLiteral t g
      g_literal = All-contains (IsLiteral t) goal g literals g_there

      h_literal : IsLiteral t h
      h_literal = All-contains (IsLiteral t) goal h literals h_there

      x_plain : IsPlain t x
      x_plain = plain_item t towers g g_literal

      y_plain : IsPlain t y
      y_plain = plain_item t towers h h_literal

      both : as_literal (terms y.term) ≡ negation_of (as_literal (terms x.term))
      both = plain_same h h_literal ∙ (opposed ∙ ap negation_of (sym (plain_same g g_literal)))

      y_always : as_literal (terms y.term) ≡ Always → KindOf y → IsOpposed goal
      y_always e (inl (f, at)) = by_always goal h h_there at
      y_always e (inr (inl (f, at))) = absurd (never_always f e)
      y_always e (inr (inr (k, no_true, no_false, f))) = absurd (atom_always (terms k.base) (not k.sign) (sym f ∙ e))

      of_sides : (k : IsSide t x) → k.base ≢ t.truth → k.base ≢ t.falsity → (s : Bool) → k.sign ≡ s → IsOpposed goal
      of_sides k no_true no_false true e =
          let at : x ≡ item_of k.base = k.is ∙ ap (side k.base) e in
          let number : plain_of t g.term ≡ k.base = ap (λ (z : SignedTerm). z.term) at in
          let more : HasNegation t k.base = subst (HasNegation t) number (plain_room t towers g.term g_literal.room).one in
          let other : y ≡ item_of (k.base + 1) =
          one_spelling t towers terms named y y_plain k.base false k.within k.none no_true no_false (λ h. more)
          (both ∙ (ap (λ (z : SignedTerm). negation_of (as_literal (terms z.term))) at ∙ opposite_literal t towers terms named k.base false more)) in
          inr (inr (record {
            number = k.base;
            above = more;
            none = k.none;
            one = (g, g_there, sym number);
            two = (h, h_there, sym (ap (λ (z : SignedTerm). z.term) other));
          }))
      of_sides k no_true no_false false e =
          let at : x ≡ item_of (k.base + 1) = k.is ∙ ap (side k.base) e in
          let more = k.room e in
          let other : y ≡ item_of k.base =
          one_spelling t towers terms named y y_plain k.base true k.within k.none no_true no_false (λ h. more)
          (both ∙ (ap (λ (z : SignedTerm). negation_of (as_literal (terms z.term))) at ∙ opposite_literal t towers terms named k.base true more)) in
          inr (inr (record {
            number = k.base;
            above = more;
            none = k.none;
            one = (h, h_there, sym (ap (λ (z : SignedTerm). z.term) other));
            two = (g, g_there, sym (ap (λ (z : SignedTerm). z.term) at));
          }))

      go : KindOf x → IsOpposed goal
      go (inl (e, at)) = by_always goal g g_there at
      go (inr (inl (e, at))) = y_always (both ∙ ap negation_of e) (kind_of_plain y y_plain)
      go (inr (inr (k, no_true, no_false, e))) = of_sides k no_true no_false k.sign refl

  pub contradicts_by : (goal : List SignedTerm) → All (IsLiteral t) goal → Contradicts (as_clause (terms_of terms goal)) → IsOpposed goal
  contradicts_by goal literals (l, there, is_false) = go is_false
    where
      g : (g : SignedTerm) × Contains goal g × (as_literal (terms g.term) ≡ l)
      g = goal_literal goal l there

      literal : IsLiteral t g.0
      literal = All-contains (IsLiteral t) goal g.0 literals g.1

      when_always : as_literal (terms (plain_of t g.0.term)) ≡ Always → KindOf (item_of (plain_of t g.0.term)) → IsOpposed goal
      when_always e (inl (f, at)) = by_always goal g.0 g.1 at
      when_always e (inr (inl (f, at))) = absurd (never_always f e)
      when_always e (inr (inr (k, no_true, no_false, f))) = absurd (atom_always (terms k.base) (not k.sign) (sym f ∙ e))

      go : IsFalse (as_clause (terms_of terms goal)) (negation_of l) → IsOpposed goal
      go (inl e) =
          when_always (plain_same g.0 literal ∙ (g.2 ∙ (sym (negation_of-negation_of l) ∙ ap negation_of e)))
          (kind_of_plain (item_of (plain_of t g.0.term)) (plain_item t towers g.0 literal))
      go (inr among) =
          let h = goal_literal goal (negation_of l) among in
          opposites goal literals g.0 h.0 g.1 h.1 (h.2 ∙ ap negation_of (sym g.2))
