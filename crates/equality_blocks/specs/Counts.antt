-- Public. How many steps may be added for a command.
use Rattle.std.specs.Prelude.{◌≡◌, ◌≤◌, ◌+◌, ◌*◌, ℕ, List, length, Contains}
use Rattle.pair_pool.specs.Trees.{Tree}
use Rattle.term_model.specs.Terms.{Term}
use Rattle.term_pool.specs.CellCounts.{CountsCells}
use Rattle.term_pool.specs.Views.{TermsView, RefersTo, KnowsAll}
use Rattle.equality_steps.specs.declared.site.Site.{Site}
use Rattle.flip_steps.specs.Memory.{IsCellWithin}
use Rattle.equality_blocks.specs.Commands.{literals_of_command}
use Rattle.equality_blocks.specs.Pairs.{IsFirstAsserted, IsPutIn}

-- A term of the command: a literal of it or of a premise's clause; of an assume the first assertion that is equal to its term up to
-- flips; and of a refl what a side is with the images put in.
pub data IsRootOf (p : Site) (v : TermsView) (r : ℕ) : Type 0 where
  literal : Contains (literals_of_command p) r → IsRootOf p v r
  asserted : (t : Term) → IsFirstAsserted p v t r → IsRootOf p v r
  side : (t u : Term) → IsPutIn p v t u → RefersTo p.symbols.now v r u → IsRootOf p v r

-- the reference of a cell that stands in such a term, outside lets
pub record IsCellOf (p : Site) (v : TermsView) (r : ℕ) : Type 0 where
  pub root : ℕ
  pub is : IsRootOf p v root
  pub within : IsCellWithin p.symbols.now v root r

-- n is at most 64 for each distinct cell of some terms of the command, for each literal of it and of its premises' clauses, and once more
pub record IsFew (p : Site) (v : TermsView) (n : ℕ) : Type 0 where
  pub roots : List ℕ
  pub are : (r : ℕ) → Contains roots r → IsRootOf p v r
  pub trees : List Tree
  pub known : KnowsAll v.pass roots trees
  pub cells : ℕ
  pub count : CountsCells trees cells
  pub few : n ≤ 64 * (cells + length (literals_of_command p) + 1)
