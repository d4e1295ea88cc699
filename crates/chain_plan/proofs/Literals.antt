-- Private. Which literals numbers stand for.
use Rattle.std.proofs.Common.{◌≡◌, ◌≢◌, ◌≤◌, ◌<◌, ◌+◌, ◌-◌, ◌⊎◌, inl, inr, ℕ, zero}
use Rattle.std.proofs.Common.{suc, Bool, true, false, not, true≢false, List, [], ◌∷◌, ◌++◌, length}
use Rattle.std.proofs.Common.{refl, sym, ◌∙◌, ap, subst, arith, Contains}
use Rattle.std.proofs.lemmas.List.Elements.{Contains-push_cases}
use Rattle.term_model.specs.Terms.{Term}
use Rattle.rule_model.specs.declared.literal.Literal.{Literal}
use Rattle.rule_model.specs.declared.literal.Literal.TheVariants.{Plain, Always, Never}
use Rattle.rule_model.specs.Chaining.{AreFalse, LeavesOnly}
use Rattle.rule_model.specs.Literals.{negation_of}
use Rattle.rule_model.specs.Resolution.{as_literal, with_sign, IsJoined}
use Rattle.rule_model.proofs.Chaining.{taken_back, passed_over}
use Rattle.rule_model.proofs.Consequence.{negation_of-negation_of}
use Rattle.rule_model.proofs.Resolution.{bare_is_bare, atom_is_plain}
use Rattle.clause_chain.specs.declared.signed_term.SignedTerm.{SignedTerm}
use Rattle.chain_plan.specs.Lowering.{IsPivotAgainst, IsPlain}
use Rattle.chain_plan.specs.Towers.{Towers, nots_at, HasNegation, AreTowers, AreNumbered, item_of, plain_of, side, term_of, terms_of}
use Rattle.chain_plan.proofs.Going.{side_is, step_mapped}
use Rattle.chain_plan.proofs.Joining.{image_of, same_or_other}
use Rattle.chain_plan.proofs.Towers.{negated_before, pair_below, pair_literal, negation_literal}
use Rattle.chain_plan.proofs.Towers.{plain_below, plain_is, less_than_two, item_is}

-- what a plain item is a side of
pub record IsSide (t : Towers) (x : SignedTerm) : Type 0 where
  pub base : ℕ
  pub sign : Bool
  pub within : base < length t.nots
  pub none : nots_at t base ≡ 0
  pub room : sign ≡ false → HasNegation t base
  pub is : x ≡ side base sign

pub side_of : (t : Towers) → AreTowers t → (x : SignedTerm) → IsPlain t x → IsSide t x
side_of t towers x plain = go (nots_at t x.term) refl
  where
    go : (n : ℕ) → nots_at t x.term ≡ n → IsSide t x
    go zero e = record {
      base = x.term;
      sign = true;
      within = plain.item.within;
      none = e;
      room = λ h. absurd (true≢false h);
      is = item_is x plain.item.unsigned;
    }
    go (suc zero) e =
        let some : 1 ≤ x.term = positive x.term e in
        let before = negated_before t towers x.term (x.term - 1) 0 plain.item.within (e ∙ omega arith) (omega arith) in
        record {
          base = x.term - 1;
          sign = false;
          within = let w = plain.item.within in omega arith;
          none = before.1;
          room = λ h. before.0;
          is = item_is x plain.item.unsigned ∙ ap item_of (omega arith);
        }
      where
        positive : (k : ℕ) → nots_at t k ≡ 1 → 1 ≤ k
        positive zero h = absurd (let f = towers.first in omega arith)
        positive (suc k) h = omega arith
    go (suc (suc n)) e = absurd (let f = plain.few in omega arith)

abbrev atom_in : Literal Term → Term → Term
atom_in (Plain a b) d = a
atom_in l d = d

abbrev sign_in : Literal Term → Bool
sign_in (Plain a b) = b
sign_in l = true

not_one : (p q : Bool) → not p ≡ not q → p ≡ q
not_one true true e = refl
not_one false false e = refl
not_one true false e = sym e
not_one false true e = sym e

module _ (t : Towers) (towers : AreTowers t) (terms : ℕ → Term) (named : AreNumbered t terms) where
  -- pairs of `not` play no part
  pub plain_literal : (n k : ℕ) → k ≤ n → k < length t.nots → as_literal (terms (plain_of t k)) ≡ as_literal (terms k)
  plain_literal zero k most within =
      let first : k ≡ 0 = omega arith in
      let none : nots_at t k ≡ 0 = subst (λ j. nots_at t j ≡ 0) (sym first) towers.first in
      ap (λ j. as_literal (terms j)) (plain_is t k (omega arith))
  plain_literal (suc n) k most within =
      elim (less_than_two (nots_at t k)) [
        | inl few ↦ ap (λ j. as_literal (terms j)) (plain_is t k few)
        | inr many ↦
            let pair = pair_below t towers k within many in
            let is = pair.is in
            subst (λ j. as_literal (terms j) ≡ as_literal (terms k)) (plain_below t k (k - 2) pair)
            (plain_literal n (k - 2) (omega arith) (omega arith) ∙ sym (pair_literal t terms named k (k - 2) pair))
      ]

  truth_within : t.truth < length t.nots
  truth_within = let w = towers.truth_room.one.within in omega arith

  falsity_within : t.falsity < length t.nots
  falsity_within = let w = towers.falsity_room.one.within in omega arith

  pub bare_plain : (k : ℕ) → k < length t.nots → nots_at t k ≡ 0 → k ≢ t.truth → k ≢ t.falsity → as_literal (terms k) ≡ Plain (terms k) false
  bare_plain k within none no_truth no_falsity =
      bare_is_bare (terms k) (named.bare k within none)
      ∙ atom_is_plain (terms k) (λ e. no_truth (named.one k t.truth within truth_within (e ∙ sym named.truth)))
      (λ e. no_falsity (named.one k t.falsity within falsity_within (e ∙ sym named.falsity)))

  pub truth_literal : as_literal (terms t.truth) ≡ Always
  truth_literal = ap as_literal named.truth

  pub denied_truth : as_literal (terms (t.truth + 1)) ≡ Never
  denied_truth = negation_literal t terms named t.truth towers.truth_room.one ∙ ap negation_of truth_literal

  pub falsity_literal : as_literal (terms t.falsity) ≡ Never
  falsity_literal = ap as_literal named.falsity

  pub denied_falsity : as_literal (terms (t.falsity + 1)) ≡ Always
  denied_falsity = negation_literal t terms named t.falsity towers.falsity_room.one ∙ ap negation_of falsity_literal

  -- a side of a constant is a constant
  abbrev pub IsConstant : Literal Term → Type 0
  IsConstant l = (l ≡ Always) ⊎ (l ≡ Never)

  pub constant_side : (b : ℕ) (s : Bool) → (b ≡ t.truth) ⊎ (b ≡ t.falsity) → IsConstant (as_literal (terms (side b s).term))
  constant_side b true (inl e) = inl (ap (λ k. as_literal (terms k)) e ∙ truth_literal)
  constant_side b false (inl e) = inr (ap (λ k. as_literal (terms (k + 1))) e ∙ denied_truth)
  constant_side b true (inr e) = inr (ap (λ k. as_literal (terms k)) e ∙ falsity_literal)
  constant_side b false (inr e) = inl (ap (λ k. as_literal (terms (k + 1))) e ∙ denied_falsity)

  pub atom_side : (b : ℕ) (s : Bool) → b < length t.nots → nots_at t b ≡ 0 → b ≢ t.truth → b ≢ t.falsity → (s ≡ false → HasNegation t b)
      → as_literal (terms (side b s).term) ≡ Plain (terms b) (not s)
  atom_side b true within none no_truth no_falsity room = bare_plain b within none no_truth no_falsity
  atom_side b false within none no_truth no_falsity room =
      negation_literal t terms named b (room refl) ∙ ap negation_of (bare_plain b within none no_truth no_falsity)

  not_constant : (a : Term) (p : Bool) → ¬ IsConstant (Plain a p)
  not_constant a p (inl e) = cc
  not_constant a p (inr e) = cc

  -- a literal that is no constant has one plain spelling
  pub one_spelling : (x : SignedTerm) → IsPlain t x → (b : ℕ) (s : Bool) → b < length t.nots → nots_at t b ≡ 0 → b ≢ t.truth → b ≢ t.falsity
      → (s ≡ false → HasNegation t b) → as_literal (terms x.term) ≡ as_literal (terms (side b s).term) → x ≡ side b s
  one_spelling x plain b s within none no_truth no_falsity room same =
      elim (same_or_other here.base t.truth) [
        | inl e ↦ absurd (not_constant (terms b) (not s) (subst IsConstant of_b (constant_side here.base here.sign (inl e))))
        | inr not_true ↦
            elim (same_or_other here.base t.falsity) [
              | inl e ↦ absurd (not_constant (terms b) (not s) (subst IsConstant of_b (constant_side here.base here.sign (inr e))))
              | inr not_false ↦
                  let plains : Plain (terms here.base) (not here.sign) ≡ Plain (terms b) (not s) =
                  sym (atom_side here.base here.sign here.within here.none not_true not_false here.room) ∙ of_b in
                  let base : here.base ≡ b = named.one here.base b here.within within (ap (λ l. atom_in l (terms b)) plains) in
                  let sign : here.sign ≡ s = not_one here.sign s (ap sign_in plains) in
                  here.is ∙ (ap (λ k. side k here.sign) base ∙ ap (side b) sign)
            ]
      ]
    where
      here : IsSide t x
      here = side_of t towers x plain

      of_b : as_literal (terms (side here.base here.sign).term) ≡ Plain (terms b) (not s)
      of_b =
          ap (λ (z : SignedTerm). as_literal (terms z.term)) (sym here.is)
          ∙ (same ∙ atom_side b s within none no_truth no_falsity room)

  pub opposite_literal : (b : ℕ) (s : Bool) → HasNegation t b
      → negation_of (as_literal (terms (side b (not s)).term)) ≡ as_literal (terms (side b s).term)
  opposite_literal b true more = ap negation_of (negation_literal t terms named b more) ∙ negation_of-negation_of (as_literal (terms b))
  opposite_literal b false more = sym (negation_literal t terms named b more)

  -- Unit propagation made the literal of a number true, which is not the constant `false`.
  module _ (k b : ℕ) (s : Bool) (within : k < length t.nots) (against : IsPivotAgainst t k b s) (falses : List (Literal Term)) where
    literal_is : as_literal (terms k) ≡ as_literal (terms (side b (not s)).term)
    literal_is =
        sym (plain_literal k k (omega arith) within) ∙ ap (λ (z : SignedTerm). as_literal (terms z.term)) (sym against.there)

    opposed : negation_of (as_literal (terms k)) ≡ as_literal (terms (side b s).term)
    opposed = ap negation_of literal_is ∙ opposite_literal b s against.above

    base_within : b < length t.nots
    base_within = let w = against.above.within in omega arith

    pub back_constant : (b ≡ t.truth) ⊎ (b ≡ t.falsity) → as_literal (terms k) ≢ Never → (clause : List Term)
        → AreFalse (falses ++ negation_of (as_literal (terms k)) ∷ []) clause → AreFalse falses clause
    back_constant constant other clause all u there =
        elim (all u there) [
          | inl never ↦ inl never
          | inr among ↦
              elim (Contains-push_cases falses (negation_of (as_literal (terms k))) (as_literal u) among) [
                | inl before ↦ inr before
                | inr here ↦
                    elim (constant_side b (not s) constant) [
                      | inl always ↦ inl (sym here ∙ ap negation_of (literal_is ∙ always))
                      | inr never ↦ absurd (other (literal_is ∙ never))
                    ]
              ]
        ]

    pub back_passed : b ≢ t.truth → b ≢ t.falsity → (list : List SignedTerm) → ((x : SignedTerm) → Contains list x → IsPlain t x)
        → (¬ Contains list (side b s)) → AreFalse (falses ++ negation_of (as_literal (terms k)) ∷ []) (terms_of terms list)
        → AreFalse falses (terms_of terms list)
    back_passed no_truth no_falsity list plain lacks all =
        passed_over falses (as_literal (terms k)) (terms_of terms list) all
        (λ u there e.
        let i = image_of (term_of terms) list u there in
        lacks (subst (Contains list)
        (one_spelling i.0 (plain i.0 i.1) b s base_within against.none no_truth no_falsity (λ h. against.above) (ap as_literal i.2 ∙ (e ∙ opposed)))
        i.1))

    pub back_resolved : b ≢ t.truth → b ≢ t.falsity → (list right next : List SignedTerm)
        → ((x : SignedTerm) → Contains list x → IsPlain t x) → ((x : SignedTerm) → Contains right x → IsPlain t x)
        → AreFalse (falses ++ negation_of (as_literal (terms k)) ∷ []) (terms_of terms list) → LeavesOnly falses (as_literal (terms k)) (terms_of terms right)
        → IsJoined list right (side b s) (side b (not s)) next → AreFalse falses (terms_of terms next)
    back_resolved no_truth no_falsity list right next on_left on_right all only step =
        taken_back falses (as_literal (terms k)) (terms_of terms list) (terms_of terms right) (terms b) s (terms_of terms next) all only
        (λ u there e. spelled list on_left u s there (e ∙ opposed)) (λ u there e. spelled right on_right u (not s) there (e ∙ literal_is))
        (step_mapped t terms named list right (b, s) next (λ x there. (on_left x there).item) (λ x there. (on_right x there).item) against.above step)
      where
        spelled : (clause : List SignedTerm) → ((x : SignedTerm) → Contains clause x → IsPlain t x) → (u : Term) (sign : Bool)
            → Contains (terms_of terms clause) u → as_literal u ≡ as_literal (terms (side b sign).term) → u ≡ with_sign (terms b) sign
        spelled clause plain u sign there e =
            let i = image_of (term_of terms) clause u there in
            sym i.2
            ∙ (ap (term_of terms)
            (one_spelling i.0 (plain i.0 i.1) b sign base_within against.none no_truth no_falsity (λ h. against.above) (ap as_literal i.2 ∙ e))
            ∙ side_is t terms named b sign against.above)
