-- Public. The pairs of terms that a command equates, and those that are equated on the way: by a rule of congruence, arguments at one
-- place, and of two equalities sides crosswise and the first one with its sides exchanged.
use Rattle.std.specs.Prelude.{⊤, ◌≡◌, ◌⊎◌, ◌++◌, [], ◌∷◌, ℕ, List, slice_get, Some, Contains}
use Rattle.term_model.specs.Flips.{equality, EqualUpToFlips}
use Rattle.term_model.specs.Terms.{Var, Term, not_of}
use Rattle.term_pool.specs.Reading.{arguments_of}
use Rattle.term_pool.specs.Views.{TermsView, RefersTo}
use Rattle.elaboration_laws.specs.StrictBlocks.{AnchorsStand}
use Rattle.elaborator.specs.Sources.{own_anchors}
use Rattle.equality_steps.specs.declared.site.Site.{Site}
use Rattle.rule_model.specs.declared.rules.Rule.{Rule}
use Rattle.rule_model.specs.Contexts.{images}
use Rattle.rule_model.specs.Substitution.{put_in}
use Rattle.equality_blocks.specs.Commands.{IsLiteralOfCommand, clause_of_command, rule_of_command}

-- a literal of the command or of a premise's clause equates the two terms, or denies that they are equal
abbrev pub AreEquated : Site → TermsView → Term → Term → Type 0
AreEquated p v t u = IsLiteralOfCommand p v (equality t u) ⊎ IsLiteralOfCommand p v (not_of (equality t u))

-- the clause of an eq_congruent_pred ends in `(not t)` and `u`, in either order
pub record AreImplied (p : Site) (v : TermsView) (t u : Term) : Type 0 where
  pub rule : rule_of_command p ≡ Rule.EqCongruentPred
  pub before : List ℕ
  pub denied : ℕ
  pub given : ℕ
  pub clause : (clause_of_command p ≡ before ++ denied ∷ given ∷ []) ⊎ (clause_of_command p ≡ before ++ given ∷ denied ∷ [])
  pub denied_refers : RefersTo p.symbols.now v denied (not_of t)
  pub given_refers : RefersTo p.symbols.now v given u

-- the reference stands for a term that is not equal to another up to flips
pub record IsOther (p : Site) (v : TermsView) (u : Term) (r : ℕ) : Type 0 where
  pub term : Term
  pub refers : RefersTo p.symbols.now v r term
  pub differs : ¬ EqualUpToFlips term u

-- the reference of the first assertion that is equal up to flips to the term u of an assume
pub record IsFirstAsserted (p : Site) (v : TermsView) (u : Term) (r : ℕ) : Type 0 where
  pub rule : rule_of_command p ≡ Rule.Assume
  pub assumed : ℕ
  pub clause : clause_of_command p ≡ assumed ∷ []
  pub assumed_refers : RefersTo p.symbols.now v assumed u
  pub before : List ℕ
  pub after : List ℕ
  pub asserted : p.asserted.now ≡ before ++ r ∷ after
  pub others : (q : ℕ) → Contains before q → IsOther p v u q
  pub term : Term
  pub refers : RefersTo p.symbols.now v r term
  pub equal : EqualUpToFlips term u

pub record AreAssumed (p : Site) (v : TermsView) (t u : Term) : Type 0 where
  pub reference : ℕ
  pub first : IsFirstAsserted p v u reference
  pub refers : RefersTo p.symbols.now v reference t

-- a refl equates the one term with something, and the other term is this one with the images of the open anchors' variables put in
pub record IsPutIn (p : Site) (v : TermsView) (t u : Term) : Type 0 where
  pub rule : rule_of_command p ≡ Rule.Refl
  pub anchors : List (List (Var × Term))
  pub anchors_stand : AnchorsStand p.symbols.now v (own_anchors p.proof.now p.command) anchors
  pub other : Term
  pub side : AreEquated p v t other ⊎ AreEquated p v other t
  pub is : u ≡ put_in (images anchors) t

-- what the two sides of a refl are with these images put in
pub record AreBothPutIn (p : Site) (v : TermsView) (t u : Term) : Type 0 where
  pub left : Term
  pub right : Term
  pub equated : AreEquated p v left right
  pub left_put_in : IsPutIn p v left t
  pub right_put_in : IsPutIn p v right u

-- the command links the two terms
pub data AreLinkedBy (p : Site) (v : TermsView) (t u : Term) : Type 0 where
  equated : AreEquated p v t u → AreLinkedBy p v t u
  implied : AreImplied p v t u → AreLinkedBy p v t u
  assumed : AreAssumed p v t u → AreLinkedBy p v t u
  put_in_one : IsPutIn p v t u → AreLinkedBy p v t u
  put_in_both : AreBothPutIn p v t u → AreLinkedBy p v t u

-- the rules that conclude from equal arguments
abbrev pub IsOfCongruence : Rule → Type 0
IsOfCongruence Rule.Cong = ⊤
IsOfCongruence Rule.EqCongruent = ⊤
IsOfCongruence Rule.EqCongruentPred = ⊤
IsOfCongruence rule = ⊥

-- the clause of a command by such a rule ends in the equality of the two terms
pub record AreConcluded (p : Site) (v : TermsView) (t u : Term) : Type 0 where
  pub rule : IsOfCongruence (rule_of_command p)
  pub before : List ℕ
  pub reference : ℕ
  pub clause : clause_of_command p ≡ before ++ reference ∷ []
  pub refers : RefersTo p.symbols.now v reference (equality t u)

-- by such a rule the clause says that the two terms are equal, or that the one gives the other
abbrev pub AreMatched : Site → TermsView → Term → Term → Type 0
AreMatched p v t u = AreConcluded p v t u ⊎ AreImplied p v t u

-- x and y are arguments of t and u at one place
pub record AreAtOnePlace (t u x y : Term) : Type 0 where
  pub place : ℕ
  pub left : slice_get (arguments_of t) place ≡ Some x
  pub right : slice_get (arguments_of u) place ≡ Some y

-- Two terms that may be equated for the command: it links them; they are arguments of matched terms at one place; or two equalities are
-- matched, which may be linked crosswise: then they are sides of the two, crosswise, or the first one and the same with its sides
-- exchanged, or this and the second one.
pub data AreOrdered (p : Site) (v : TermsView) : Term → Term → Type 0 where
  linked : (t u : Term) → AreLinkedBy p v t u → AreOrdered p v t u
  arguments : (t u x y : Term) → AreMatched p v t u → AreAtOnePlace t u x y → AreOrdered p v x y
  outer : (a b c d : Term) → AreMatched p v (equality a b) (equality c d) → AreOrdered p v a d
  inner : (a b c d : Term) → AreMatched p v (equality a b) (equality c d) → AreOrdered p v b c
  reversed : (a b c d : Term) → AreMatched p v (equality a b) (equality c d) → AreOrdered p v (equality a b) (equality b a)
  turned : (a b c d : Term) → AreMatched p v (equality a b) (equality c d) → AreOrdered p v (equality b a) (equality c d)

-- in either order
abbrev pub ArePaired : Site → TermsView → Term → Term → Type 0
ArePaired p v t u = AreOrdered p v t u ⊎ AreOrdered p v u t
