-- Private. What a step by eq_transitive equates is connected by the sides of the equalities that it denies.
use Rattle.std.proofs.Common.{◌≡◌, ◌↔◌, inl, inr, ◌≤◌, ◌+◌, ◌*◌, ℕ, List, [], ◌∷◌, ◌++◌, length, flat_map, Option, Some, None, Contains}
use Rattle.std.proofs.Common.{refl, sym, ◌∙◌, ap, subst, arith, length-append}
use Rattle.std.proofs.lemmas.Slice.Zip.{AllZip-long}
use Rattle.sym_table.specs.Table.{Table}
use Rattle.term_model.proofs.Lists.{contains_cases, contains_head, contains_later, contains_none}
use Rattle.term_model.specs.Flips.{equality}
use Rattle.term_model.specs.Terms.{Term, not_of}
use Rattle.term_pool.specs.Views.{TermsView, RefersTo, ReferToAll}
use Rattle.rule_model.specs.Congruence.{AreSides, IsConnected, denials, units}
use Rattle.rule_model.specs.Congruence.{here as no_step, further as one_step}
use Rattle.term_parts.specs.Parts.{AreSidesOf}
use Rattle.rule_model.specs.Clausal.{as_it_stands}
use Rattle.rule_model.specs.declared.kinds.Family.{Family}
use Rattle.rule_model.specs.declared.rules.Rule.{Rule}
use Rattle.rule_model.specs.Reading.{clause_at, closes_at, premises_at}
use Rattle.elaboration_laws.proofs.Reading.{clause_stands}
use Rattle.equality_steps.specs.declared.site.Site.{Site}
use Rattle.equality_ways.specs.Sides.{AreSidesOfDenial, AreSidesOfDenials, AreSidesOfUnit, AreSidesOfUnits}
use Rattle.equality_ways.specs.Tables.{IsTableOf}
use Rattle.equality_ways.specs.Ways.{AreEnds}
use Rattle.equality_blocks.specs.Commands.{IsToElaborate, clause_of_command, rule_of_command}
use Rattle.equality_blocks.specs.Counts.{IsFew}
use Rattle.elab_denials.proofs.ConditionLemmas.{closes_nothing, met_rule}
use Rattle.flip_steps.specs.Memory.{count_of}
use Rattle.elab_denials.proofs.OwnLemmas.{AreOfCells, few_work}
use Rattle.elab_denials.proofs.WalkLemmas.{given_there}
use Rattle.elab_denials.specs.declared.transitive.Plan.{Plan}
use Rattle.elab_denials.specs.declared.work.Work.{Work}
use Rattle.elab_denials.specs.Working.{IsWork}
use Rattle.elab_denials.specs.Walking.{AreConnectedEnds, AreGivenDenials, EquatesEnds, IsPlan, IsTrailOver}

in_front : (xs ys : List (List Term)) (x : List Term) → Contains xs x → Contains (xs ++ ys) x
in_front [] ys x has = absurd (contains_none x has)
in_front (w ∷ xs) ys x has = elim (contains_cases w x xs has) [
  | inl here ↦ subst (Contains (w ∷ (xs ++ ys))) here (contains_head w (xs ++ ys))
  | inr below ↦ contains_later w x (xs ++ ys) (in_front xs ys x below)
]

more_sides : (ps qs : List (List Term)) (t u : Term) → AreSides ps t u → AreSides (ps ++ qs) t u
more_sides ps qs t u (inl h) = inl (in_front ps qs (equality t u ∷ []) h)
more_sides ps qs t u (inr h) = inr (in_front ps qs (equality u t ∷ []) h)

more_connected : (ps qs : List (List Term)) (t u : Term) → IsConnected (AreSides ps) t u → IsConnected (AreSides (ps ++ qs)) t u
more_connected ps qs _ _ (no_step t) = no_step t
more_connected ps qs _ _ (one_step t w u near more) = one_step t w u (more_sides ps qs t w near) (more_connected ps qs w u more)

in_last : (xs : List Term) (t : Term) → Contains (xs ++ t ∷ []) t
in_last [] t = contains_head t []
in_last (x ∷ xs) t = contains_later x t (xs ++ t ∷ []) (in_last xs t)

module _ (s : Table) (v : TermsView) where
  unit_of_denial : (o : Option (ℕ × ℕ)) (t u : Term) → AreSidesOfDenial s v o (not_of (equality t u)) → AreSidesOfUnit s v o (equality t u ∷ [])
  unit_of_denial None t u none = absurd (none t u refl)
  unit_of_denial (Some q) t u (e, both, is) = (e, both, cc)

  none_of_equality : (o : Option (ℕ × ℕ)) (t u : Term) → AreSidesOfDenial s v o (equality t u) → AreSidesOfUnit s v o []
  none_of_equality None t u none = λ a b e. absurd cc
  none_of_equality (Some q) t u (e, both, is) = absurd cc

  -- the sides are those of the denied equalities as units, and of a clause that is none
  units_of_denials : (es : List (Term × Term)) (t u : Term) (sides : List (Option (ℕ × ℕ))) → AreSidesOfDenials s v sides (denials es ++ equality t u ∷ [])
      → AreSidesOfUnits s v sides (units es ++ [] ∷ [])
  units_of_denials [] t u [] are = absurd are
  units_of_denials [] t u (o ∷ []) are = (none_of_equality o t u are.0, tt)
  units_of_denials [] t u (o ∷ x ∷ sides) are = absurd are.1
  units_of_denials (e ∷ es) t u [] are = absurd are
  units_of_denials (e ∷ es) t u (o ∷ sides) are = (unit_of_denial o e.0 e.1 are.0, units_of_denials es t u sides are.1)

abbrev pub AreConnectedTerms : Table → TermsView → Type 0
AreConnectedTerms s v =
    (sides : List (Option (ℕ × ℕ))) (premises : List (List Term)) (a b : ℕ) (t u : Term) → AreSidesOfUnits s v sides premises → RefersTo s v a t →
    RefersTo s v b u → IsConnected (AreEnds sides) a b ↔ IsConnected (AreSides premises) t u

pub connected_ends : (p : Site) (v : TermsView) → AreConnectedTerms p.symbols.now v → (sides : List (Option (ℕ × ℕ))) (ends : ℕ × ℕ) → EquatesEnds p v ends
    → ((ts : List Term) → ReferToAll p.symbols.now v (clause_of_command p) ts → AreSidesOfDenials p.symbols.now v sides ts) → AreGivenDenials p v sides
    → AreConnectedEnds p v sides ends
connected_ends p v law sides ends h are given =
    let equated = equality h.left h.right in
    let clause = denials h.sides ++ equated ∷ [] in
    let as_units = units_of_denials p.symbols.now v h.sides h.left h.right sides (are clause h.stands) in
    record {
      denied = given;
      given = record {
        left = h.left;
        right = h.right;
        left_refers = h.left_refers;
        right_refers = h.right_refers;
        given = given_there p v clause equated h.stands (in_last (denials h.sides) equated);
      };
      connected =
          (law sides (units h.sides ++ [] ∷ []) ends.0 ends.1 h.left h.right as_units h.left_refers h.right_refers).1
          (more_connected (units h.sides) ([] ∷ []) h.left h.right h.connected);
    }

-- what a command by eq_transitive meets in check mode
pub record MeetsTransitive (p : Site) (v : TermsView) : Type 0 where
  pub sides : List (Term × Term)
  pub left : Term
  pub right : Term
  pub front : List ℕ
  pub literal : ℕ
  pub clause : clause_of_command p ≡ front ++ literal ∷ []
  pub refers : RefersTo p.symbols.now v literal (equality left right)
  pub stands : ReferToAll p.symbols.now v (clause_of_command p) (denials sides ++ equality left right ∷ [])
  pub connected : IsConnected (AreSides (units sides)) left right

-- the last of some references
pub record HasLast (s : Table) (v : TermsView) (rs : List ℕ) (t : Term) : Type 0 where
  pub front : List ℕ
  pub last : ℕ
  pub is : rs ≡ front ++ last ∷ []
  pub refers : RefersTo s v last t

has_last : (s : Table) (v : TermsView) (rs : List ℕ) (ts : List Term) (t : Term) → ReferToAll s v rs (ts ++ t ∷ []) → HasLast s v rs t
has_last s v [] [] t h = absurd h
has_last s v [] (u ∷ ts) t h = absurd h
has_last s v (r ∷ []) [] t h = record { front = []; last = r; is = refl; refers = h.0 }
has_last s v (r ∷ q ∷ rs) [] t h = absurd h.1
has_last s v (r ∷ rs) (u ∷ ts) t h =
    let more = has_last s v rs ts t h.1 in
    record { front = r ∷ more.front; last = more.last; is = ap (λ qs. r ∷ qs) more.is; refers = more.refers }

pub transitive_met : (p : Site) (v : TermsView) → IsToElaborate p v → rule_of_command p ≡ Rule.EqTransitive → MeetsTransitive p v
transitive_met p v h rule =
    let met = met_rule p v h Family.Congruence Rule.EqTransitive rule refl (λ k closes. closes) in
    let given = met.given in
    let is = met.literals ∙ ap (λ ts. denials met.sides ++ ts) given.literal in
    let stands =
    subst (ReferToAll p.symbols.now v (clause_of_command p)) is (clause_stands p.symbols.now v p.proof.now h.proof h.stand p.command) in
    let last = has_last p.symbols.now v (clause_of_command p) (denials met.sides) (equality given.left given.right) stands in
    record {
      sides = met.sides;
      left = given.left;
      right = given.right;
      front = last.front;
      literal = last.last;
      clause = last.is;
      refers = last.refers;
      stands = stands;
      connected = given.given;
    }

pub transitive_closes_nothing : (p : Site) (v : TermsView) → IsToElaborate p v → rule_of_command p ≡ Rule.EqTransitive → closes_at p.proof.now p.command ≡ None
transitive_closes_nothing p v h rule = closes_nothing p v h Family.Congruence Rule.EqTransitive rule refl (λ k closes. closes)

snoc_last : (xs ys : List ℕ) (x y : ℕ) → xs ++ x ∷ [] ≡ ys ++ y ∷ [] → x ≡ y
snoc_last [] [] x y e = cc
snoc_last [] (b ∷ []) x y e = absurd cc
snoc_last [] (b ∷ d ∷ ys) x y e = absurd cc
snoc_last (a ∷ []) [] x y e = absurd cc
snoc_last (a ∷ d ∷ xs) [] x y e = absurd cc
snoc_last (a ∷ xs) (b ∷ ys) x y e = let rest : xs ++ x ∷ [] ≡ ys ++ y ∷ [] = cc in snoc_last xs ys x y rest

-- the last literal of the command's clause is the equality
pub last_refers : (p : Site) (v : TermsView) (m : MeetsTransitive p v) (front : List ℕ) (r : ℕ) → clause_of_command p ≡ front ++ r ∷ []
    → RefersTo p.symbols.now v r (equality m.left m.right)
last_refers p v m front r is =
    subst (λ q. RefersTo p.symbols.now v q (equality m.left m.right)) (sym (snoc_last front m.front r m.literal (sym is ∙ m.clause))) m.refers

-- the sides that are read
same_equality : (t u a b : Term) → equality t u ≡ equality a b → (t ≡ a) × (u ≡ b)
same_equality t u a b e = (cc, cc)

pub equates_ends : (p : Site) (v : TermsView) (m : MeetsTransitive p v) (q : ℕ × ℕ)
    → AreSidesOf p.symbols.now v as_it_stands q (equality m.left m.right) → EquatesEnds p v q
equates_ends p v m q both =
    let parts = same_equality m.left m.right both.left both.right both.is in
    record {
      sides = m.sides;
      left = m.left;
      right = m.right;
      left_refers = subst (RefersTo p.symbols.now v q.0) (sym parts.0) both.left_refers;
      right_refers = subst (RefersTo p.symbols.now v q.1) (sym parts.1) both.right_refers;
      stands = m.stands;
      connected = m.connected;
    }

-- how few steps there are
pub transitive_few : (p : Site) (v : TermsView) → IsToElaborate p v → rule_of_command p ≡ Rule.EqTransitive → (w : Work) → IsWork p v w
    → AreOfCells p v w → length w.block ≤ 3 * count_of w.forms + 4 * length (clause_of_command p) + 1 → IsFew p v (length w.block + 1)
transitive_few p v job rule w work cells bound =
    let long = length-append (clause_of_command p) (flat_map (clause_at p.proof.now) (premises_at p.proof.now p.command)) in
    few_work p v job (λ e. let clash : Rule.EqTransitive ≡ Rule.Assume = sym rule ∙ e in cc)
    (λ e. let clash : Rule.EqTransitive ≡ Rule.Refl = sym rule ∙ e in cc) w work cells 0 (length w.block + 1)
    (λ trees m known counts. omega arith) (omega (arith, bound, long))

-- a way over the equalities that are read is a plan
pub plan_made : (p : Site) (v : TermsView) → IsToElaborate p v → (sides : List (Option (ℕ × ℕ))) (plan : Plan) → IsTableOf sides plan.table
    → IsTrailOver sides plan.ends plan.trail.refs.items plan.trail.pairs.items → AreConnectedEnds p v sides plan.ends
    → ((ts : List Term) → ReferToAll p.symbols.now v (clause_of_command p) ts → AreSidesOfDenials p.symbols.now v sides ts)
    → length plan.trail.pairs.items ≤ length sides → IsPlan p v plan
plan_made p v job sides plan table trail connected are short =
    let ts = clause_at job.proof p.command in
    let stands = clause_stands p.symbols.now v p.proof.now job.proof job.stand p.command in
    let one : length ts ≡ length sides = AllZip-long (AreSidesOfDenial p.symbols.now v) sides ts (are ts stands) in
    let two : length ts ≡ length (clause_of_command p) = AllZip-long (RefersTo p.symbols.now v) (clause_of_command p) ts stands in
    record {
      sides = sides;
      is_table = table;
      trail = trail;
      denied = connected.denied;
      given = connected.given;
      short = omega (arith, one, two, short);
    }
