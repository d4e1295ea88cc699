-- Public. The rules of equality (Alethe specification, "List of rules") but `refl`: an equality turned round, a way over
-- equalities, and applications whose arguments equalities link. The equalities are premises, each a unit clause, or they
-- stand denied in the clause, before what they give.
use Rattle.std.specs.Prelude.{◌≡◌, ◌≢◌, ◌⊎◌, List, [], ◌∷◌, ◌++◌, map, Contains}
use Rattle.std.specs.List.{AllZip}
use Rattle.term_model.specs.declared.symbols.Op.{Op}
use Rattle.term_model.specs.declared.symbols.Sort.{Sort}
use Rattle.term_model.specs.Flips.{equality, EqualUpToFlips}
use Rattle.term_model.specs.Sorts.{IsOf}
use Rattle.term_model.specs.Terms.{Fun, Term, operation, call, terms_of, not_of}
use Rattle.rule_model.specs.declared.rules.Mode.{Mode}

-- the one premise is an equality, or its negation, and the clause is the same with the sides exchanged
pub record TurnsRound (sign : Term → Term) (premises : List (List Term)) (clause : List Term) : Type 0 where
  pub left : Term
  pub right : Term
  pub premise : premises ≡ (sign (equality left right) ∷ []) ∷ []
  pub turned : clause ≡ sign (equality right left) ∷ []

-- there is no premise, and the clause is `(= t t)`
pub record IsReflexive (premises : List (List Term)) (clause : List Term) : Type 0 where
  pub side : Term
  pub none : premises ≡ []
  pub literal : clause ≡ equality side side ∷ []

-- there is no premise, and the clause is `(= (= t u) (= u t))`
pub record IsSymmetric (premises : List (List Term)) (clause : List Term) : Type 0 where
  pub left : Term
  pub right : Term
  pub none : premises ≡ []
  pub literal : clause ≡ equality (equality left right) (equality right left) ∷ []

-- the clause is `(= t u)`, and t and u are related by the premises
pub record Equates (related : List (List Term) → Term → Term → Type 0) (premises : List (List Term)) (clause : List Term) : Type 0 where
  pub left : Term
  pub right : Term
  pub literal : clause ≡ equality left right ∷ []
  pub given : related premises left right

-- the clause is `(not t)` `u`, and t and u are related by the premises
pub record Implies (related : List (List Term) → Term → Term → Type 0) (premises : List (List Term)) (clause : List Term) : Type 0 where
  pub left : Term
  pub right : Term
  pub literals : clause ≡ not_of left ∷ right ∷ []
  pub given : related premises left right

-- the same with the literals in the other order
pub record IsImplied (related : List (List Term) → Term → Term → Type 0) (premises : List (List Term)) (clause : List Term) : Type 0 where
  pub left : Term
  pub right : Term
  pub literals : clause ≡ right ∷ not_of left ∷ []
  pub given : related premises left right

-- these pairs as equalities, each a unit clause, and as the literals that deny them
abbrev pub units : List (Term × Term) → List (List Term)
units sides = map (λ (p : Term × Term). equality p.0 p.1 ∷ []) sides

abbrev pub denials : List (Term × Term) → List Term
denials sides = map (λ (p : Term × Term). not_of (equality p.0 p.1)) sides

-- there is no premise; the clause denies some equalities and then has literals that meet a condition with these equalities
-- as premises
pub record Denies (condition : List (List Term) → List Term → Type 0) (premises : List (List Term)) (clause : List Term) : Type 0 where
  pub sides : List (Term × Term)
  pub rest : List Term
  pub none : premises ≡ []
  pub literals : clause ≡ denials sides ++ rest
  pub given : condition (units sides) rest

-- some premise has these two terms as its sides, in this order or the other; other premises are not used
abbrev pub AreSides : List (List Term) → Term → Term → Type 0
AreSides premises t u = Contains premises (equality t u ∷ []) ⊎ Contains premises (equality u t ∷ [])

-- the least relation that leads from each thing to itself, and on to what is near to what it leads to
pub data IsConnected {X : Type 0} (near : X → X → Type 0) : X → X → Type 0 where
  here : (x : X) → IsConnected near x x
  further : (x y z : X) → near x y → IsConnected near y z → IsConnected near x z

-- the premises are `(= u0 u1)`, `(= u1 u2)` and so on in order, the first side is t and the last one is u
abbrev pub IsChain : List (List Term) → Term → Term → Type 0
IsChain [] t u = t ≡ u
IsChain (premise ∷ premises) t u = (next : Term) × (premise ≡ equality t next ∷ []) × IsChain premises next u

-- The way of transitivity. Check mode: from side to side of premises, in any order and direction. With equal ends it is
-- there without premises. Strict mode: one premise or more, each used in its order and direction.
abbrev pub IsWay : Mode → List (List Term) → Term → Term → Type 0
IsWay Mode.Check premises t u = IsConnected (AreSides premises) t u
IsWay Mode.Strict premises t u = (premises ≢ []) × IsChain premises t u

-- what heads an application
pub data Head : Type 0 where
  operator : Op → Head
  function : Fun → Head

abbrev pub applied : Head → List Term → Term
applied (operator op) ts = operation op (terms_of ts)
applied (function f) ts = call f (terms_of ts)

-- two arguments are equal up to flips, or the sides of a premise
abbrev pub IsLinked : List (List Term) → Term → Term → Type 0
IsLinked premises t u = EqualUpToFlips t u ⊎ AreSides premises t u

-- the arguments of two equalities of two terms are linked crosswise
pub record AreCrossed (head : Head) (premises : List (List Term)) (ts us : List Term) : Type 0 where
  pub a : Term
  pub b : Term
  pub c : Term
  pub d : Term
  pub equal : head ≡ operator Op.Equal
  pub one : ts ≡ a ∷ b ∷ []
  pub other : us ≡ c ∷ d ∷ []
  pub outer : IsLinked premises a d
  pub inner : IsLinked premises b c

-- check mode: the arguments are linked place by place, those of an equality also crosswise
abbrev pub AreLinked : Head → List (List Term) → List Term → List Term → Type 0
AreLinked head premises ts us = AllZip (IsLinked premises) ts us ⊎ AreCrossed head premises ts us

-- strict mode, cong: the premises are `(= ti ui)` for each place where ti and ui differ, in order
abbrev pub AreDifferences : List (List Term) → List Term → List Term → Type 0
AreDifferences premises [] [] = premises ≡ []
AreDifferences premises [] (u ∷ us) = ⊥
AreDifferences premises (t ∷ ts) [] = ⊥
AreDifferences premises (t ∷ ts) (u ∷ us) =
    ((t ≡ u) × AreDifferences premises ts us)
    ⊎ ((t ≢ u) × ((rest : List (List Term)) × (premises ≡ (equality t u ∷ []) ∷ rest) × AreDifferences rest ts us))

-- strict mode, the rules without premises: `(= ti ui)` for every place, in order
abbrev pub ArePlaces : List (List Term) → List Term → List Term → Type 0
ArePlaces premises [] [] = premises ≡ []
ArePlaces premises [] (u ∷ us) = ⊥
ArePlaces premises (t ∷ ts) [] = ⊥
ArePlaces premises (t ∷ ts) (u ∷ us) =
    (rest : List (List Term)) × (premises ≡ (equality t u ∷ []) ∷ rest) × ArePlaces rest ts us

-- how arguments hang together, by the mode: for cong, and for the rules without premises
abbrev pub HangTogether : Mode → Head → List (List Term) → List Term → List Term → Type 0
HangTogether Mode.Check head premises ts us = AreLinked head premises ts us
HangTogether Mode.Strict head premises ts us = AreDifferences premises ts us

abbrev pub HangTogetherDenied : Mode → Head → List (List Term) → List Term → List Term → Type 0
HangTogetherDenied Mode.Check head premises ts us = AreLinked head premises ts us
HangTogetherDenied Mode.Strict head premises ts us = ArePlaces premises ts us

-- applications of one head to one argument or more, which hang together by the premises
pub record AreCongruent (together : Head → List (List Term) → List Term → List Term → Type 0) (premises : List (List Term)) (left right : Term) : Type 0 where
  pub head : Head
  pub ts : List Term
  pub us : List Term
  pub some : ts ≢ []
  pub left_is : left ≡ applied head ts
  pub right_is : right ≡ applied head us
  pub arguments : together head premises ts us

-- the same of terms of Bool
pub record AreCongruentTruths (together : Head → List (List Term) → List Term → List Term → Type 0)
    (premises : List (List Term)) (left right : Term) : Type 0 where
  pub left_sort : IsOf left Sort.Bool
  pub right_sort : IsOf right Sort.Bool
  pub congruent : AreCongruent together premises left right

-- two predicates: they are equated, or the one is denied and the other stands; in check mode in either order
abbrev pub GivesPredicates : Mode → List (List Term) → List Term → Type 0
GivesPredicates Mode.Check premises clause =
    Equates (AreCongruentTruths (HangTogetherDenied Mode.Check)) premises clause
    ⊎ (Implies (AreCongruent (HangTogetherDenied Mode.Check)) premises clause
    ⊎ IsImplied (AreCongruent (HangTogetherDenied Mode.Check)) premises clause)
GivesPredicates Mode.Strict premises clause =
    Equates (AreCongruentTruths (HangTogetherDenied Mode.Strict)) premises clause
    ⊎ Implies (AreCongruent (HangTogetherDenied Mode.Strict)) premises clause
