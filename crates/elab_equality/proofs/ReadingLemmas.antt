-- Private. What is read of a command by trans or refl: the sides of its clause, and a way over its premises.
use Rattle.std.proofs.Common.{◌≡◌, ◌≢◌, ◌≤◌, ◌+◌, ◌*◌, ℕ, List, [], ◌∷◌, length, flat_map, Option, Some, None, IsSome, IfNone, IfSome, Contains}
use Rattle.std.proofs.Common.{Result, Ok, Err, IfErr, IsErrAnd, refl, sym, ◌∙◌, subst, arith, length-append}
use Rattle.std.proofs.lemmas.List.{length-map}
use Rattle.pair_pool.specs.Trees.{Tree}
use Rattle.sym_table.specs.Table.{Table}
use Rattle.term_model.specs.Flips.{equality}
use Rattle.term_model.specs.Terms.{Term}
use Rattle.term_model.proofs.Zips.{zip_length}
use Rattle.term_parts.specs.Parts.{AreSidesOf}
use Rattle.term_parts.specs.declared.answers.RuleStop.{RuleStop}
use Rattle.term_pool.specs.CellCounts.{CountsCells}
use Rattle.term_pool.specs.Placing.{PlacesCellsOf}
use Rattle.term_pool.specs.Views.{TermsView, KnowsAll, RefersTo, ReferToAll}
use Rattle.term_pool.proofs.PlacedCells.{places_none}
use Rattle.rule_model.specs.declared.rules.Rule.{Rule}
use Rattle.rule_model.specs.Clausal.{as_it_stands}
use Rattle.rule_model.specs.Congruence.{AreSides, IsConnected}
use Rattle.rule_model.specs.Reading.{clause_at, premises_at, premise_clauses}
use Rattle.equality_steps.specs.declared.site.Site.{Site}
use Rattle.equality_ways.specs.Sides.{AreSidesOfUnit, AreSidesOfUnits}
use Rattle.equality_ways.specs.Ways.{AreEnds}
use Rattle.flip_steps.specs.Memory.{IsCellWithinAny, IsRemembered, count_of}
use Rattle.equality_blocks.specs.Commands.{IsToElaborate, clause_of_command, literals_of_command, rule_of_command}
use Rattle.equality_blocks.specs.Counts.{IsFew, IsRootOf, asserted, literal, side}
use Rattle.equality_blocks.proofs.FewLemmas.{few_of}
use Rattle.elab_equality.specs.declared.work.Work.{Work}
use Rattle.elab_equality.specs.Linked.{ArePremises}
use Rattle.elab_equality.specs.Walking.{AreSidesGiven, IsClauseOfSides, StatesEquality}
use Rattle.elab_equality.specs.Work.{IsWork}
use Rattle.elab_equality.proofs.ClauseLemmas.{connected_here}
use Rattle.elab_equality.proofs.LiteralTerms.{literal_term}

pub some_where : {X : Type 0} (o : Option X) (P : Type 0) → IfNone o P → (P → ⊥) → IsSome o
some_where (Some x) P n f = refl
some_where None P n f = absurd (f n)

-- what is said of what was found
pub found_used : {V : Type 0} (o : Option V) (x : V) (P : V → Type 0) → o ≡ Some x → IfSome o P → P x
found_used {V} o x P is h = subst (λ (f : Option V). IfSome f P) is h

-- the literal that states an equality
module _ (p : Site) (v : TermsView) (e : StatesEquality p v) (r : ℕ) (is : r ∷ [] ≡ clause_of_command p) where
  pub literal_is : RefersTo p.symbols.now v r (equality e.left e.right)
  literal_is = let same : e.literal ≡ r = (let f : e.literal ∷ [] ≡ r ∷ [] = sym e.clause ∙ sym is in cc) in subst (λ q. RefersTo p.symbols.now v q (equality e.left e.right)) same e.refers

  pub has_sides : {X : Type 0} (o : Option X) → IfNone o ((t u w : Term) → RefersTo p.symbols.now v r t → t ≢ equality u w) → IsSome o
  has_sides o none = some_where o _ none (λ f. f (equality e.left e.right) e.left e.right literal_is refl)

  pub sides_there : (q : ℕ × ℕ) → ((t : Term) → RefersTo p.symbols.now v r t → AreSidesOf p.symbols.now v as_it_stands q t) → IsClauseOfSides p v q.0 q.1
  sides_there q f =
      let k = f (equality e.left e.right) literal_is in
      record {
        literal = r;
        clause = sym is;
        left = k.left;
        right = k.right;
        literal_refers = subst (RefersTo p.symbols.now v r) k.is literal_is;
        left_refers = k.left_refers;
        right_refers = k.right_refers;
      }

-- the sides of the premises
module _ (p : Site) (v : TermsView) (h : IsToElaborate p v) where
  pub sides_given_there : (sides : List (Option (ℕ × ℕ))) → ArePremises p v (premise_clauses h.proof p.command)
      → AreSidesOfUnits p.symbols.now v sides (premise_clauses h.proof p.command) → AreSidesGiven p v sides
  sides_given_there sides are sides_are = record { within = h.within; premises = premise_clauses h.proof p.command; are = are; sides_are = sides_are }

  pub sides_few : (sides : List (Option (ℕ × ℕ))) → AreSidesGiven p v sides → length sides ≡ length (premises_at p.proof.now p.command)
  sides_few sides g =
      zip_length (AreSidesOfUnit p.symbols.now v) sides g.premises g.sides_are
      ∙ (sym (zip_length (ReferToAll p.symbols.now v) (premise_clauses p.proof.now p.command) g.premises g.are)
      ∙ length-map (premises_at p.proof.now p.command) (clause_at p.proof.now))

-- of the law of `equality_ways`
abbrev pub ConnectedAlike : Table → TermsView → Type 0
ConnectedAlike s v =
    (sides : List (Option (ℕ × ℕ))) (premises : List (List Term)) (a b : ℕ) (t u : Term) → AreSidesOfUnits s v sides premises →
    RefersTo s v a t → RefersTo s v b u → IsConnected (AreSides premises) t u → IsConnected (AreEnds sides) a b

pub connected_ends : (p : Site) (v : TermsView) → IsToElaborate p v → rule_of_command p ≡ Rule.Trans → ConnectedAlike p.symbols.now v → (a b : ℕ) → IsClauseOfSides p v a b
    → (sides : List (Option (ℕ × ℕ))) → AreSidesGiven p v sides → IsConnected (AreEnds sides) a b
connected_ends p v job rule law a b e sides g =
    law sides g.premises a b e.left e.right g.sides_are e.left_refers e.right_refers (connected_here p v job rule a b e g.premises g.are)

-- nothing is placed, and a refusal for memory is none for room
pub none_placed : (p : Site) (u v : TermsView) (P : Term → Type 0) → v ≡ u → PlacesCellsOf p.symbols.now u.pass v.pass P
none_placed p u v P same = subst (λ (w : TermsView). PlacesCellsOf p.symbols.now u.pass w.pass P) (sym same) (places_none p.symbols.now u.pass u.pass P refl)

pub memory_full : {X : Type 0} (Q : Type 0) (r : Result X RuleStop) → IsErrAnd r (λ e. e ≡ RuleStop.Memory) → IfErr r (λ e. e ≡ RuleStop.PoolFull → Q)
memory_full Q (Ok x) h = tt
memory_full Q (Err e) h = λ f. let both : RuleStop.Memory ≡ RuleStop.PoolFull = sym h ∙ f in cc

-- few steps, by the forms that are remembered
literal_root : (p : Site) (v : TermsView) → rule_of_command p ≡ Rule.Trans → (r : ℕ) → IsRootOf p v r → Contains (literals_of_command p) r
literal_root p v rule r (literal h) = h
literal_root p v rule r (asserted t h) = absurd (let clash : Rule.Trans ≡ Rule.Assume = sym rule ∙ h.rule in cc)
literal_root p v rule r (side t u h k) = absurd (let clash : Rule.Trans ≡ Rule.Refl = sym rule ∙ h.rule in cc)

pub trans_few : (p : Site) (v : TermsView) → IsToElaborate p v → rule_of_command p ≡ Rule.Trans → (w : Work) → IsWork p v w
    → ((roots : List ℕ) (trees : List Tree) (n : ℕ) → ((r : ℕ) → IsRemembered w.forms r → IsCellWithinAny p.symbols.now v roots r)
    → KnowsAll v.pass roots trees → CountsCells trees n → count_of w.forms ≤ n)
    → (used : ℕ) → used ≤ length (flat_map (clause_at p.proof.now) (premises_at p.proof.now p.command)) → length w.block ≤ 3 * count_of w.forms + (used + 1)
    → IsFew p v (length w.block)
trans_few p v job rule w work cells used short bound =
    few_of p v (literals_of_command p) (count_of w.forms) 0 (length w.block) (record {
      are = λ r has. literal has;
      terms = literal_term p v job;
      few = λ trees m known counts. cells (literals_of_command p) trees m (λ r k. let cell = work.met r k in record {
        root = cell.root;
        among = literal_root p v rule cell.root cell.is;
        within = cell.within;
      }) known counts;
      narrow = λ trees m known counts. omega arith;
      bound =
          let size = length-append (clause_of_command p) (flat_map (clause_at p.proof.now) (premises_at p.proof.now p.command)) in
          omega (arith, bound, short, size);
    })
