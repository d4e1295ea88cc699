-- Private. How a chain of resolutions goes on, and how it takes back the steps of unit propagation.
use Rattle.std.proofs.Common.{◌≢◌, ◌⊎◌, inl, inr, Bool, not, List, [], ◌∷◌, ◌++◌, refl, sym, ◌∙◌, subst, Contains}
use Rattle.std.proofs.lemmas.List.Elements.{Contains-append_cases, Contains-push_cases}
use Rattle.term_model.specs.Terms.{Term}
use Rattle.term_model.proofs.Lists.{contains_none, contains_cases, contains_head, contains_later}
use Rattle.rule_model.specs.declared.literal.Literal.{Literal}
use Rattle.rule_model.specs.Chaining.{AreFalse, IsSpelled, Lacks, LeavesOnly, SpellsBut}
use Rattle.rule_model.specs.Consequence.{IsFalse}
use Rattle.rule_model.specs.Literals.{negation_of}
use Rattle.rule_model.specs.Resolution.{as_literal, LeavesWithout, IsFirstsOf, with_sign, IsResolvent, Chains}

-- a chain and one resolution more
pub chain_on : (left : List Term) (premises : List (List Term)) (pivots : List (Term × Bool)) (middle right : List Term) (p : Term) (b : Bool)
    (result : List Term) → Chains left premises pivots middle → IsResolvent middle right p b result
    → Chains left (premises ++ right ∷ []) (pivots ++ (p, b) ∷ []) result
chain_on left [] [] middle right p b result same last = (result, subst (λ l. IsResolvent l right p b result) (sym same) last, refl)
chain_on left [] (pivot ∷ pivots) middle right p b result none last = absurd none
chain_on left (other ∷ premises) [] middle right p b result none last = absurd none
chain_on left (other ∷ premises) (pivot ∷ pivots) middle right p b result (next, first, rest) last =
    (next, first, chain_on next premises pivots middle right p b result rest last)

-- what is left was there, and is not what is removed
pub left_was : (p : Term) (ts rest : List Term) (u : Term) → LeavesWithout p ts rest → Contains rest u → Contains ts u × (u ≢ p)
left_was p [] rest u w c = absurd (contains_none u (rw w at c))
left_was p (t ∷ ts) rest u (inl (same, w)) c =
    let before = left_was p ts rest u w c in (contains_later t u ts before.0, before.1)
left_was p (t ∷ ts) rest u (inr (other, (us, e, w))) c =
    elim (contains_cases t u us (rw e at c)) [
      | inl here ↦ (rw (← here) (contains_head t ts), λ same. other (here ∙ same))
      | inr later ↦ let before = left_was p ts us u w later in (contains_later t u ts before.0, before.1)
    ]

pub firsts_were : (seen ts rest : List Term) (u : Term) → IsFirstsOf seen ts rest → Contains rest u → Contains ts u
firsts_were seen [] rest u f c = absurd (contains_none u (rw f at c))
firsts_were seen (t ∷ ts) rest u (inl (before, f)) c = contains_later t u ts (firsts_were seen ts rest u f c)
firsts_were seen (t ∷ ts) rest u (inr (new, (us, e, f))) c =
    elim (contains_cases t u us (rw e at c)) [
      | inl here ↦ rw (← here) (contains_head t ts)
      | inr later ↦ contains_later t u ts (firsts_were (seen ++ t ∷ []) ts us u f later)
    ]

-- a literal of the resolvent is one of a side, and not the pivot there
pub resolvent_was : (left right : List Term) (p : Term) (b : Bool) (result : List Term) (u : Term) → IsResolvent left right p b result
    → Contains result u → (Contains left u × (u ≢ with_sign p b)) ⊎ (Contains right u × (u ≢ with_sign p (not b)))
resolvent_was left right p b result u step c =
    elim (Contains-append_cases step.left_rest step.right_rest u (firsts_were [] (step.left_rest ++ step.right_rest) result u step.firsts c)) [
      | inl there ↦ inl (left_was (with_sign p b) left step.left_rest u step.left_is there)
      | inr there ↦ inr (left_was (with_sign p (not b)) right step.right_rest u step.right_is there)
    ]

-- Unit propagation made the literal true by a premise. A clause whose literals are false afterwards gives, resolved with the
-- premise, one whose literals were false before.
pub taken_back : (falses : List (Literal Term)) (l : Literal Term) (left right : List Term) (p : Term) (b : Bool) (result : List Term)
    → AreFalse (falses ++ negation_of l ∷ []) left → LeavesOnly falses l right → IsSpelled (negation_of l) (with_sign p b) left
    → IsSpelled l (with_sign p (not b)) right → IsResolvent left right p b result → AreFalse falses result
taken_back falses l left right p b result on_left on_right left_one right_one step t c =
    elim (resolvent_was left right p b result t step c) [
      | inl was ↦ not_taken was.0 was.1 (on_left t was.0)
      | inr was ↦
          elim (on_right t was.0) [ inl before ↦ before | inr unit ↦ absurd (was.1 (right_one t was.0 unit)) ]
    ]
  where
    not_taken : Contains left t → t ≢ with_sign p b → IsFalse (falses ++ negation_of l ∷ []) (as_literal t) → IsFalse falses (as_literal t)
    not_taken there other (inl never) = inl never
    not_taken there other (inr among) =
        elim (Contains-push_cases falses (negation_of l) (as_literal t) among) [
          | inl before ↦ inr before
          | inr here ↦ absurd (other (left_one t there (sym here)))
        ]

-- the same where the clause lacks the literal: nothing is to be done
pub passed_over : (falses : List (Literal Term)) (l : Literal Term) (clause : List Term) → AreFalse (falses ++ negation_of l ∷ []) clause
    → Lacks (negation_of l) clause → AreFalse falses clause
passed_over falses l clause all lacks t c =
    elim (all t c) [
      | inl never ↦ inl never
      | inr among ↦
          elim (Contains-push_cases falses (negation_of l) (as_literal t) among) [
            | inl before ↦ inr before
            | inr here ↦ absurd (lacks t c (sym here))
          ]
    ]

-- The other literals of a premise stand for what the pivot stands for: then the literals stay false. So pairs of `not` come
-- and go by not_not, and constants go by true and false.
pub bridged : (falses : List (Literal Term)) (left right : List Term) (p : Term) (b : Bool) (result : List Term) → AreFalse falses left
    → SpellsBut (as_literal (with_sign p b)) (with_sign p (not b)) right → IsResolvent left right p b result → AreFalse falses result
bridged falses left right p b result on_left like step t c =
    elim (resolvent_was left right p b result t step c) [
      | inl was ↦ on_left t was.0
      | inr was ↦
          elim (like t was.0) [
            | inl removed ↦ absurd (was.1 removed)
            | inr alike ↦ subst (IsFalse falses) (sym alike) (on_left (with_sign p b) step.on_left)
          ]
    ]
