-- Private. When trees are equal up to flips, as terms and as lists, and what a walk over pairs of references remembers.
use Rattle.std.specs.Prelude.{◌≡◌, ◌≢◌, ℕ, ◌+◌, ◌<◌, ◌^◌, ◌==◌, Bool, true, false, ◌&&◌, ◌||◌, if◌then◌else◌, Option, Some, None}
use Rattle.std.specs.Bool.{nat_lt}
use Rattle.std.specs.declared.hash.FoldHasher.{FoldHasher}
use Rattle.std.specs.declared.hash.BuildHasherDefault.{BuildHasherDefault}
use Rattle.std.specs.HashMap.{get, HashMap, hash_map_len}
use Rattle.pair_pool.specs.Trees.{Tree, leaf, cell}
use Rattle.pair_pool.specs.Views.{PassView, Knows}
use Rattle.term_pool.specs.declared.flips.Pair.{Pair}
use Rattle.term_pool.specs.declared.flips.Reading.{Reading}
use Rattle.term_pool.specs.declared.flips.Visit.{Visit}
use Rattle.term_pool.specs.declared.flips.Visit.TheVariants.{Part, Done}
use Rattle.term_pool.specs.contracts.flips.PairPartialEq.TheImpl as pairs
use Rattle.term_pool.specs.StandsFor.{nil_tree}
use Rattle.term_pool.specs.Trees.{depth}
use Rattle.term_pool.specs.Views.{IsKnownCell}
use Rattle.term_pool.specs.Heights.{is_let_head}

-- whether two trees are one
abbrev pub same_tree : Tree → Tree → Bool
same_tree (leaf j) (leaf k) = j == k
same_tree (leaf j) (cell c d) = false
same_tree (cell a b) (leaf k) = false
same_tree (cell a b) (cell c d) = same_tree a c && same_tree b d

-- Whether two trees are equal up to flips, where `equal` is the leaf of `=`: as terms, and as lists of terms.
abbrev mutual
  pub same_terms : ℕ → Tree → Tree → Bool
  same_terms equal (leaf j) u = same_tree (leaf j) u
  same_terms equal (cell head list) (leaf k) = false
  same_terms equal (cell head list) (cell other others) =
      same_tree head other
      && (if is_let_head head then same_tree list others
      else (same_lists equal list others || (same_tree head (leaf equal) && crossed equal list others)))

  pub same_lists : ℕ → Tree → Tree → Bool
  same_lists equal (leaf j) u = same_tree (leaf j) u
  same_lists equal (cell first rest) (leaf k) = false
  same_lists equal (cell first rest) (cell other others) = same_terms equal first other && same_lists equal rest others

  -- both lists have two items, the first of each equal to the second of the other
  pub crossed : ℕ → Tree → Tree → Bool
  crossed equal (leaf j) u = false
  crossed equal (cell a (leaf j)) u = false
  crossed equal (cell a (cell b end)) (leaf k) = false
  crossed equal (cell a (cell b end)) (cell c (leaf k)) = false
  crossed equal (cell a (cell b end)) (cell c (cell d rest)) =
      (same_tree end nil_tree && same_tree rest nil_tree) && (same_terms equal a d && same_terms equal b c)

abbrev pub as_terms : ℕ → ℕ → Pair
as_terms p q = record { reading = Reading.Terms; left = p; right = q }

abbrev pub as_lists : ℕ → ℕ → Pair
as_lists p q = record { reading = Reading.Lists; left = p; right = q }

-- whether two trees are equal up to flips as what they are compared
abbrev pub same_as : ℕ → Reading → Tree → Tree → Bool
same_as equal Reading.Terms s t = same_terms equal s t
same_as equal Reading.Lists s t = same_lists equal s t

-- the answers of the pairs that were judged
abbrev pub Answers : Type 0
Answers = HashMap Pair Bool (BuildHasherDefault FoldHasher)

abbrev pub answer_of : Answers → Pair → Option Bool
answer_of memo x = get (pairs.ghosts).eq memo x

-- it is the answer for what the pair is known to be
abbrev pub IsAnswer : PassView → ℕ → Pair → Bool → Type 0
IsAnswer pass equal x b = (s t : Tree) → Knows pass x.left s → Knows pass x.right t → b ≡ same_as equal x.reading s t

abbrev pub AreAnswers : PassView → ℕ → Answers → Type 0
AreAnswers pass equal memo = (x : Pair) (b : Bool) → answer_of memo x ≡ Some b → IsAnswer pass equal x b

-- what is plain or was judged: one reference is equal to itself, and a leaf to nothing else
abbrev pub looked : Answers → Pair → Option Bool
looked memo x =
    if x.left == x.right then Some true
    else (if (nat_lt x.left (2 ^ 30) || nat_lt x.right (2 ^ 30)) then Some false else answer_of memo x)

-- whether two pairs are both equal up to flips, or the one that has to be visited first
abbrev pub both_of : Pair → Option Bool → Pair → Option Bool → Visit
both_of x None y found = Part x
both_of x (Some false) y found = Done false
both_of x (Some true) y None = Part y
both_of x (Some true) y (Some b) = Done b

-- the references are those of two different cells
pub record AreCells (pass : PassView) (x : Pair) : Type 0 where
  pub one : IsKnownCell pass x.left
  pub other : IsKnownCell pass x.right
  pub apart : x.left ≢ x.right

-- y is a pair of different cells below the pair x
pub record IsPairBelow (pass : PassView) (x y : Pair) : Type 0 where
  pub cells : AreCells pass y
  pub less :
      (s t u v : Tree) → Knows pass x.left s → Knows pass x.right t → Knows pass y.left u →
      Knows pass y.right v → depth u + depth v < depth s + depth t

-- the answer for x, or a pair below it that was not judged
abbrev pub IsJudged : PassView → ℕ → Answers → Pair → Visit → Type 0
IsJudged pass equal memo x (Done b) = IsAnswer pass equal x b
IsJudged pass equal memo x (Part y) = IsPairBelow pass x y × (answer_of memo y ≡ None)

-- whether the lists are equal crosswise, or a pair below them that was not judged
abbrev pub IsCrossed : PassView → ℕ → Answers → ℕ → ℕ → Visit → Type 0
IsCrossed pass equal memo p q (Done b) = (s t : Tree) → Knows pass p s → Knows pass q t → b ≡ crossed equal s t
IsCrossed pass equal memo p q (Part y) = IsPairBelow pass (as_lists p q) y × (answer_of memo y ≡ None)

-- one answer more, and what there was
pub record RemembersPair (old new : Answers) (x : Pair) (b : Bool) : Type 0 where
  pub here : answer_of new x ≡ Some b
  pub others : (y : Pair) → y ≢ x → answer_of new y ≡ answer_of old y
  pub size : hash_map_len new ≡ hash_map_len old + 1
  pub few : hash_map_len old < 2 ^ 64

-- a visit of x has come to its answer, or found a pair that is yet to be visited
abbrev pub IsPairVisit : PassView → ℕ → Answers → Answers → Pair → Visit → Type 0
IsPairVisit pass equal old new x (Done b) = RemembersPair old new x b × IsAnswer pass equal x b
IsPairVisit pass equal old new x (Part y) = (new ≡ old) × IsPairBelow pass x y × (answer_of old y ≡ None)

-- the two items of a list that has two
abbrev pub AreTwoItems : PassView → ℕ → Option (ℕ × ℕ) → Type 0
AreTwoItems pass list None = (a b : Tree) → Knows pass list (cell a (cell b nil_tree)) → ⊥
AreTwoItems pass list (Some items) =
    (a : Tree) × (b : Tree) × Knows pass list (cell a (cell b nil_tree)) × Knows pass items.0 a × Knows pass items.1 b
