-- Public. The rules of simplification (Alethe specification, "List of rules"): tables of rewrites in order, and those over
-- the arguments of `and` and `or`. The step has no premise, and its clause is one equality. Both modes ask the same.
use Rattle.std.specs.Prelude.{ℕ, suc, zero, ◌+◌, ◌≡◌, ◌⊎◌, List, [], ◌∷◌, Contains}
use Rattle.term_model.specs.declared.symbols.Op.{Op}
use Rattle.term_model.specs.Flips.{equality}
use Rattle.term_model.specs.Terms.{Term, operation, terms_of, not_of}
use Rattle.rule_model.specs.Patterns.{a, b, c, d, yes, never, no, conj, disj, implies, equal, ite, less, less_eq, greater, greater_eq}
use Rattle.rule_model.specs.Resolution.{LeavesWithout, IsFirstsOf}
use Rattle.rule_model.specs.Rewriting.{RewriteRow, ◌⇝◌, over_truths, one_number, two_numbers, below, at_most, where_constants, Simplifies}

abbrev pub not_simplify : List RewriteRow
not_simplify =
    (no (no a) ⇝ a)
    ∷ (no never ⇝ yes)
    ∷ (no yes ⇝ never)
    ∷ []

abbrev pub implies_simplify : List RewriteRow
implies_simplify =
    (implies (no a) (no b) ⇝ implies b a)
    ∷ (implies never a ⇝ yes)
    ∷ (implies a yes ⇝ yes)
    ∷ (implies yes a ⇝ a)
    ∷ (implies a never ⇝ no a)
    ∷ (implies a a ⇝ yes)
    ∷ (implies (no a) a ⇝ a)
    ∷ (implies a (no a) ⇝ no a)
    ∷ (implies (implies a b) b ⇝ disj a b)
    ∷ []

-- both sides are of Bool
abbrev pub equiv_simplify : List RewriteRow
equiv_simplify =
    over_truths (no a) (no b) (equal a b)
    ∷ over_truths a a yes
    ∷ over_truths a (no a) never
    ∷ over_truths (no a) a never
    ∷ over_truths yes a a
    ∷ over_truths a yes a
    ∷ over_truths never a (no a)
    ∷ over_truths a never (no a)
    ∷ []

abbrev pub bool_simplify : List RewriteRow
bool_simplify =
    (no (implies a b) ⇝ conj a (no b))
    ∷ (no (disj a b) ⇝ conj (no a) (no b))
    ∷ (no (conj a b) ⇝ disj (no a) (no b))
    ∷ (implies a (implies b c) ⇝ implies (conj a b) c)
    ∷ (implies (implies a b) b ⇝ disj a b)
    ∷ (conj a (implies a b) ⇝ conj a b)
    ∷ (conj (implies a b) a ⇝ conj a b)
    ∷ []

abbrev pub ite_simplify : List RewriteRow
ite_simplify =
    (ite yes a b ⇝ a)
    ∷ (ite never a b ⇝ b)
    ∷ (ite c a a ⇝ a)
    ∷ (ite (no c) a b ⇝ ite c b a)
    ∷ (ite c (ite c a b) d ⇝ ite c a d)
    ∷ (ite c a (ite c b d) ⇝ ite c a d)
    ∷ (ite c yes never ⇝ c)
    ∷ (ite c never yes ⇝ no c)
    ∷ (ite c yes a ⇝ disj c a)
    ∷ (ite c a never ⇝ conj c a)
    ∷ (ite c never a ⇝ conj (no c) a)
    ∷ (ite c a yes ⇝ disj (no c) a)
    ∷ []

-- constants are compared by their numbers
abbrev pub eq_simplify : List RewriteRow
eq_simplify =
    (equal a a ⇝ yes)
    ∷ where_constants (two_numbers a b) (equal a b) never
    ∷ where_constants (one_number a b) (no (equal a b)) never
    ∷ []

abbrev pub comp_simplify : List RewriteRow
comp_simplify =
    where_constants (below a b) (less a b) yes
    ∷ where_constants (at_most b a) (less a b) never
    ∷ where_constants (at_most a b) (less_eq a b) yes
    ∷ where_constants (below b a) (less_eq a b) never
    ∷ (less a a ⇝ never)
    ∷ (less_eq a a ⇝ yes)
    ∷ (greater_eq a b ⇝ less_eq b a)
    ∷ (less a b ⇝ no (less_eq b a))
    ∷ (greater a b ⇝ no (less_eq a b))
    ∷ []

pub record MeetsSimplification (rows : List RewriteRow) (premises : List (List Term)) (clause : List Term) : Type 0 where
  pub left : Term
  pub right : Term
  pub none : premises ≡ []
  pub literal : clause ≡ equality left right ∷ []
  pub simplifies : Simplifies rows left right

-- a term behind so many `not`s
abbrev pub negated : ℕ → Term → Term
negated zero t = t
negated (suc n) t = not_of (negated n t)

-- two items are one term, the one behind an even and the other behind an odd number of `not`s
pub record AreOpposed (items : List Term) : Type 0 where
  pub same : Term
  pub m : ℕ
  pub n : ℕ
  pub even : Contains items (negated (m + m) same)
  pub odd : Contains items (negated (suc (n + n)) same)

-- without the neutral term, without later repeats, or without both
abbrev pub IsShortened : Term → List Term → List Term → Type 0
IsShortened neutral ts us =
    LeavesWithout neutral ts us ⊎ (IsFirstsOf [] ts us ⊎ ((vs : List Term) × LeavesWithout neutral ts vs × IsFirstsOf [] vs us))

-- what a list of arguments stands as: none as the neutral term, one as itself or as an application
abbrev pub StandsAs : Op → Term → List Term → Term → Type 0
StandsAs op neutral [] t = t ≡ neutral
StandsAs op neutral (u ∷ []) t = (t ≡ u) ⊎ (t ≡ operation op (terms_of (u ∷ [])))
StandsAs op neutral (u ∷ w ∷ us) t = t ≡ operation op (terms_of (u ∷ w ∷ us))

-- the absorbing term, where an argument is it or two are opposed; or a shortened list
abbrev pub JoinsTo : Op → Term → Term → List Term → Term → Type 0
JoinsTo op neutral absorbing ts t =
    ((t ≡ absorbing) × (Contains ts absorbing ⊎ AreOpposed ts)) ⊎ ((us : List Term) × IsShortened neutral ts us × StandsAs op neutral us t)

-- and_simplify and or_simplify
pub record MeetsJoining (op : Op) (neutral absorbing : Term) (premises : List (List Term)) (clause : List Term) : Type 0 where
  pub arguments : List Term
  pub right : Term
  pub none : premises ≡ []
  pub literal : clause ≡ equality (operation op (terms_of arguments)) right ∷ []
  pub joins : JoinsTo op neutral absorbing arguments right
