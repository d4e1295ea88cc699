-- Private. Commands by eq_congruent and eq_congruent_pred: what they meet in check mode, and what steps in their place begin with.
use Rattle.std.proofs.Common.{◌≡◌, ◌≢◌, inl, inr, ◌≤◌, ◌+◌, ℕ, List, [], ◌∷◌, ◌++◌, length, flat_map}
use Rattle.std.proofs.Common.{Option, Some, None, Contains, refl, sym, ◌∙◌, ap, subst, arith}
use Rattle.std.proofs.lemmas.List.Elements.{Contains-append_left}
use Rattle.pair_pool.specs.Trees.{Tree}
use Rattle.term_model.proofs.Lists.{contains_cases, contains_head, contains_later, contains_none}
use Rattle.term_model.specs.Flips.{equality}
use Rattle.term_model.specs.Terms.{Term, not_of}
use Rattle.term_pool.proofs.References.{AreOne}
use Rattle.term_pool.specs.CellCounts.{CountsCells}
use Rattle.term_pool.specs.Reading.{arguments_of}
use Rattle.term_pool.specs.Views.{TermsView, IsTerm, KeepsTerms, KnowsAll, RefersTo, ReferToAll}
use Rattle.term_parts.specs.Parts.{AreSidesOf}
use Rattle.rule_model.specs.declared.kinds.Family.{Family}
use Rattle.rule_model.specs.declared.rules.Mode.{Mode}
use Rattle.rule_model.specs.declared.rules.Rule.{Rule}
use Rattle.rule_model.specs.Clausal.{as_it_stands}
use Rattle.rule_model.specs.Congruence.{AreCongruent, Denies, Equates, HangTogetherDenied, denials, units}
use Rattle.rule_model.specs.Reading.{clause_at, closes_at, premises_at, premise_clauses}
use Rattle.elaboration_laws.proofs.Reading.{clause_stands}
use Rattle.equality_steps.specs.declared.site.Site.{Site}
use Rattle.equality_steps.specs.Sites.{AreLiteralsAt}
use Rattle.equality_ways.specs.declared.table.Table.{Table}
use Rattle.equality_ways.specs.Sides.{AreSidesOfDenial, AreSidesOfDenials}
use Rattle.equality_ways.proofs.Places.{zip_contained}
use Rattle.flip_steps.specs.Memory.{IsCellWithinAny, IsRemembered, count_of}
use Rattle.equality_blocks.specs.Commands.{IsToElaborate, clause_of_command, literals_of_command, rule_of_command}
use Rattle.equality_blocks.specs.Pairs.{IsOfCongruence}
use Rattle.equality_blocks.specs.Counts.{IsFew}
use Rattle.equality_blocks.proofs.FewLemmas.{few_places}
use Rattle.elab_denials.specs.declared.matching.Match.{Match}
use Rattle.elab_denials.specs.declared.work.Work.{Work}
use Rattle.elab_denials.specs.Matching.{AreLinkedTerms, HasGivenTable, IsGivenTable, IsMatchOf, Links}
use Rattle.elab_denials.specs.Owing.{IsGiven}
use Rattle.elab_denials.specs.Stating.{AreFewSteps, IsBegun, IsByCongruence, IsNarrow}
use Rattle.elab_denials.specs.Working.{IsWork}
use Rattle.elab_denials.proofs.ConditionLemmas.{closes_nothing, met_rule}
use Rattle.elab_denials.proofs.OwnLemmas.{few_work}
use Rattle.elab_denials.proofs.ReadyLemmas.{joined_here, narrow_here, ready_here, repairable_here}
use Rattle.elab_denials.proofs.WorkLemmas.{later, refer_among}

-- equalities as units, and the literals that deny them
same_equality : (a b t u : Term) → equality a b ∷ [] ≡ equality t u ∷ [] → equality a b ≡ equality t u
same_equality a b t u e = cc

by_congruence : (p : Site) → IsByCongruence p → IsOfCongruence (rule_of_command p)
by_congruence p (inl rule) = subst IsOfCongruence (sym rule) tt
by_congruence p (inr rule) = subst IsOfCongruence (sym rule) tt

unit_denied : (es : List (Term × Term)) (t u : Term) → Contains (units es) (equality t u ∷ []) → Contains (denials es) (not_of (equality t u))
unit_denied [] t u has = absurd (contains_none (equality t u ∷ []) has)
unit_denied (e ∷ es) t u has = elim (contains_cases (equality e.0 e.1 ∷ []) (equality t u ∷ []) (units es) has) [
  | inl here ↦ subst (λ x. Contains (not_of (equality e.0 e.1) ∷ denials es) (not_of x)) (same_equality e.0 e.1 t u here)
      (contains_head (not_of (equality e.0 e.1)) (denials es))
  | inr below ↦ contains_later (not_of (equality e.0 e.1)) (not_of (equality t u)) (denials es) (unit_denied es t u below)
]

module _ (p : Site) (v : TermsView) (one : AreOne p.symbols.now v) (sides : List (Option (ℕ × ℕ))) where
  pair_there : (t u : Term) (a b : ℕ) (o : Option (ℕ × ℕ)) → Contains sides o → AreSidesOfDenial p.symbols.now v o (not_of (equality t u))
      → RefersTo p.symbols.now v a t → RefersTo p.symbols.now v b u → Contains sides (Some (a, b))
  pair_there t u a b None has h left right = absurd (h t u refl)
  pair_there t u a b (Some q) has (e, both, is) left right =
      let first : t ≡ e.0 = cc in
      let second : u ≡ e.1 = cc in
      let one_is : q.0 ≡ a = (one q.0 a e.0 t both.0 left).1 (sym first) in
      let other_is : q.1 ≡ b = (one q.1 b e.1 u both.1 right).1 (sym second) in
      subst (λ x. Contains sides (Some (a, x))) other_is (subst (λ x. Contains sides (Some (x, q.1))) one_is has)

  pub denied_there : (ts : List Term) → AreSidesOfDenials p.symbols.now v sides ts → (t u : Term) (a b : ℕ) → Contains ts (not_of (equality t u))
      → RefersTo p.symbols.now v a t → RefersTo p.symbols.now v b u → Contains sides (Some (a, b))
  denied_there ts are t u a b has left right =
      let found = zip_contained (AreSidesOfDenial p.symbols.now v) sides ts (not_of (equality t u)) are has in
      pair_there t u a b found.0 found.1 found.2 left right

  -- what the denied equalities link is linked
  pub links_here : (ts : List Term) (es : List (Term × Term)) (rest : List Term) → AreSidesOfDenials p.symbols.now v sides ts → ts ≡ denials es ++ rest
      → Links p v sides (units es)
  links_here ts es rest are is t u (inl flips) a b left right = inr (record { left = t; right = u; left_refers = left; right_refers = right; equal = flips })
  links_here ts es rest are is t u (inr (inl has)) a b left right = inl (inl (denied_there ts are t u a b (inside t u has) left right))
    where
      inside : (x y : Term) → Contains (units es) (equality x y ∷ []) → Contains ts (not_of (equality x y))
      inside x y there =
          subst (λ zs. Contains zs (not_of (equality x y))) (sym is)
          (Contains-append_left (denials es) rest (not_of (equality x y)) (unit_denied es x y there))
  links_here ts es rest are is t u (inr (inr has)) a b left right = inl (inr (denied_there ts are u t b a (inside u t has) right left))
    where
      inside : (x y : Term) → Contains (units es) (equality x y ∷ []) → Contains ts (not_of (equality x y))
      inside x y there =
          subst (λ zs. Contains zs (not_of (equality x y))) (sym is)
          (Contains-append_left (denials es) rest (not_of (equality x y)) (unit_denied es x y there))

-- the last of some references
record HasLast (p : Site) (v : TermsView) (rs : List ℕ) (t : Term) : Type 0 where
  front : List ℕ
  last : ℕ
  is : rs ≡ front ++ last ∷ []
  refers : RefersTo p.symbols.now v last t

has_last : (p : Site) (v : TermsView) (rs : List ℕ) (ts : List Term) (t : Term) → ReferToAll p.symbols.now v rs (ts ++ t ∷ []) → HasLast p v rs t
has_last p v [] [] t h = absurd h
has_last p v [] (u ∷ ts) t h = absurd h
has_last p v (r ∷ []) [] t h = record { front = []; last = r; is = refl; refers = h.0 }
has_last p v (r ∷ q ∷ rs) [] t h = absurd h.1
has_last p v (r ∷ rs) (u ∷ ts) t h =
    let more = has_last p v rs ts t h.1 in
    record { front = r ∷ more.front; last = more.last; is = ap (λ qs. r ∷ qs) more.is; refers = more.refers }

snoc_last : (xs ys : List ℕ) (x y : ℕ) → xs ++ x ∷ [] ≡ ys ++ y ∷ [] → x ≡ y
snoc_last [] [] x y e = cc
snoc_last [] (b ∷ []) x y e = absurd cc
snoc_last [] (b ∷ d ∷ ys) x y e = absurd cc
snoc_last (a ∷ []) [] x y e = absurd cc
snoc_last (a ∷ d ∷ xs) [] x y e = absurd cc
snoc_last (a ∷ xs) (b ∷ ys) x y e = let rest : xs ++ x ∷ [] ≡ ys ++ y ∷ [] = cc in snoc_last xs ys x y rest

snoc_there : (xs : List ℕ) (x : ℕ) → Contains (xs ++ x ∷ []) x
snoc_there [] x = contains_head x []
snoc_there (y ∷ xs) x = contains_later y x (xs ++ x ∷ []) (snoc_there xs x)

module _ (p : Site) (v : TermsView) (one : AreOne p.symbols.now v) where
  -- the last literal of a clause that denies equalities and then equates
  pub last_equates : (R : List (List Term) → Term → Term → Type 0) (premises : List (List Term)) (ts : List Term) → ReferToAll p.symbols.now v (clause_of_command p) ts
      → (h : Denies (Equates R) premises ts) → ReferToAll p.symbols.now v (clause_of_command p) (denials h.sides ++ equality h.given.left h.given.right ∷ [])
  last_equates R premises ts refer h =
      subst (ReferToAll p.symbols.now v (clause_of_command p)) (h.literals ∙ ap (λ xs. denials h.sides ++ xs) h.given.literal) refer

  pub no_last : (R : List (List Term) → Term → Term → Type 0) (premises : List (List Term)) (ts : List Term) → ReferToAll p.symbols.now v (clause_of_command p) ts
      → ((front : List ℕ) (r : ℕ) → clause_of_command p ≢ front ++ r ∷ []) → ¬ Denies (Equates R) premises ts
  no_last R premises ts refer none h =
      let last = has_last p v (clause_of_command p) (denials h.sides) (equality h.given.left h.given.right) (last_equates R premises ts refer h) in
      none last.front last.last last.is

  pub last_is : (R : List (List Term) → Term → Term → Type 0) (premises : List (List Term)) (ts : List Term) (front : List ℕ) (r : ℕ)
      → ReferToAll p.symbols.now v (clause_of_command p) ts → clause_of_command p ≡ front ++ r ∷ [] → (h : Denies (Equates R) premises ts)
      → RefersTo p.symbols.now v r (equality h.given.left h.given.right)
  last_is R premises ts front r refer split h =
      let last = has_last p v (clause_of_command p) (denials h.sides) (equality h.given.left h.given.right) (last_equates R premises ts refer h) in
      subst (λ x. RefersTo p.symbols.now v x (equality h.given.left h.given.right)) (snoc_last last.front front last.last r (sym last.is ∙ split)) last.refers

  pub no_sides : (R : List (List Term) → Term → Term → Type 0) (premises : List (List Term)) (ts : List Term) (front : List ℕ) (r : ℕ)
      → ReferToAll p.symbols.now v (clause_of_command p) ts → clause_of_command p ≡ front ++ r ∷ []
      → ((t x y : Term) → RefersTo p.symbols.now v r t → t ≢ equality x y) → ¬ Denies (Equates R) premises ts
  no_sides R premises ts front r refer split none h =
      none (equality h.given.left h.given.right) h.given.left h.given.right (last_is R premises ts front r refer split h) refl

  -- the sides of the last literal
  same_sides : (a b x y : Term) → equality a b ≡ equality x y → (a ≡ x) × (b ≡ y)
  same_sides a b x y e = (cc, cc)

  pub not_matched : (premises : List (List Term)) (ts : List Term) (front : List ℕ) (r : ℕ) (q : ℕ × ℕ) (sides : List (Option (ℕ × ℕ)))
      → AreSidesOfDenials p.symbols.now v sides ts → ReferToAll p.symbols.now v (clause_of_command p) ts → clause_of_command p ≡ front ++ r ∷ []
      → ((t : Term) → RefersTo p.symbols.now v r t → AreSidesOf p.symbols.now v as_it_stands q t)
      → ((units : List (List Term)) (t u : Term) → Links p v sides units → RefersTo p.symbols.now v q.0 t → RefersTo p.symbols.now v q.1 u
      → ¬ AreCongruent (HangTogetherDenied Mode.Check) units t u) → ¬ Denies (Equates (AreCongruent (HangTogetherDenied Mode.Check))) premises ts
  not_matched premises ts front r q sides are refer split both none h =
      let R = AreCongruent (HangTogetherDenied Mode.Check) in
      let l = h.given.left in
      let m = h.given.right in
      let found = both (equality l m) (last_is R premises ts front r refer split h) in
      let parts = same_sides l m found.left found.right found.is in
      none (units h.sides) l m (links_here p v one sides ts h.sides h.rest are h.literals)
      (subst (RefersTo p.symbols.now v q.0) (sym parts.0) found.left_refers) (subst (RefersTo p.symbols.now v q.1) (sym parts.1) found.right_refers) h.given.given

  -- what steps begin with
  pub begun_here : IsByCongruence p → (table : Table) (front : List ℕ) (r : ℕ) (t : Term) (q : ℕ × ℕ) (given : HasGivenTable p v table) (m : Match)
      → AreLiteralsAt p v (clause_of_command p) → clause_of_command p ≡ front ++ r ∷ [] → RefersTo p.symbols.now v r t
      → AreSidesOf p.symbols.now v as_it_stands q t → IsMatchOf p v given.sides q.0 q.1 m → IsBegun p v table m
  begun_here rule table front r t q given m literals split refers both found =
      let there : IsGiven p v (equality both.left both.right) =
      record {
        reference = r;
        among = subst (λ xs. Contains xs r) (sym split) (snoc_there front r);
        refers = subst (RefersTo p.symbols.now v r) both.is refers;
      }
      in
      let joined = joined_here p v literals one (by_congruence p rule) both.left both.right there front split in
      let g = given.given in
      let left : RefersTo p.symbols.now v m.left both.left = subst (λ x. RefersTo p.symbols.now v x both.left) (sym found.left_is) both.left_refers in
      let right : RefersTo p.symbols.now v m.right both.right = subst (λ x. RefersTo p.symbols.now v x both.right) (sym found.right_is) both.right_refers in
      record {
        repairable = repairable_here p v literals one given.sides g.denied q.0 q.1 m.pairs.items both.left both.right both.left_refers both.right_refers joined
            table g.is_table m.crossed found.matched;
        equate = record {
          given = record { left = both.left; right = both.right; left_refers = left; right_refers = right; given = there };
          ready = ready_here p v literals one given.sides g.denied m.left m.right m.pairs.items both.left both.right left right joined m.crossed
              (subst (λ x. Rattle.elab_denials.specs.Matching.AreMatchedBy p v given.sides m.left x m.pairs.items m.crossed) (sym found.right_is)
              (subst (λ x. Rattle.elab_denials.specs.Matching.AreMatchedBy p v given.sides x q.1 m.pairs.items m.crossed) (sym found.left_is) found.matched));
        };
        narrow = narrow_here p v literals one given.sides g.denied q.0 q.1 m.pairs.items both.left both.right both.left_refers both.right_refers joined
            m.crossed found.matched;
      }

-- what an eq_congruent meets in check mode
pub congruent_met : (p : Site) (v : TermsView) (h : IsToElaborate p v) → rule_of_command p ≡ Rule.EqCongruent
    → Denies (Equates (AreCongruent (HangTogetherDenied Mode.Check))) (premise_clauses h.proof p.command) (clause_at h.proof p.command)
congruent_met p v h rule = met_rule p v h Family.Congruence Rule.EqCongruent rule refl (λ k closes. closes)

pub own_clause : (p : Site) (v : TermsView) (h : IsToElaborate p v) → ReferToAll p.symbols.now v (clause_of_command p) (clause_at h.proof p.command)
own_clause p v h = clause_stands p.symbols.now v p.proof.now h.proof h.stand p.command

-- such commands close nothing
pub congruence_closes_nothing : (p : Site) (v : TermsView) → IsToElaborate p v → IsByCongruence p → closes_at p.proof.now p.command ≡ None
congruence_closes_nothing p v h (inl rule) = closes_nothing p v h Family.Congruence Rule.EqCongruent rule refl (λ k closes. closes)
congruence_closes_nothing p v h (inr rule) = closes_nothing p v h Family.Congruence Rule.EqCongruentPred rule refl (λ k closes. closes)

no_assume : (p : Site) → IsByCongruence p → rule_of_command p ≢ Rule.Assume
no_assume p (inl rule) e = let clash : Rule.EqCongruent ≡ Rule.Assume = sym rule ∙ e in cc
no_assume p (inr rule) e = let clash : Rule.EqCongruentPred ≡ Rule.Assume = sym rule ∙ e in cc

no_refl : (p : Site) → IsByCongruence p → rule_of_command p ≢ Rule.Refl
no_refl p (inl rule) e = let clash : Rule.EqCongruent ≡ Rule.Refl = sym rule ∙ e in cc
no_refl p (inr rule) e = let clash : Rule.EqCongruentPred ≡ Rule.Refl = sym rule ∙ e in cc

-- how few steps there are
pub congruence_few : (p : Site) (v : TermsView) (job : IsToElaborate p v) → IsByCongruence p → (w : Work) → IsWork p v w
    → ((roots : List ℕ) (trees : List Tree) (n : ℕ) → ((r : ℕ) → IsRemembered w.forms r → IsCellWithinAny p.symbols.now v roots r) → KnowsAll v.pass roots trees
    → CountsCells trees n → count_of w.forms ≤ n) → AreFewSteps p v w → IsFew p v (length w.block + 1)
congruence_few p v job rule w work cells h =
    let n = length (arguments_of h.narrow.term) in
    let few = h.narrow.few in
    let bound = h.bound in
    few_work p v job (no_assume p rule) (no_refl p rule) w work cells n (length w.block + 1)
    (λ trees m known counts. few_places p.symbols.now v job.known (literals_of_command p) trees m known counts h.narrow.root
    (Contains-append_left (clause_of_command p) (flat_map (clause_at p.proof.now) (premises_at p.proof.now p.command)) h.narrow.root h.narrow.among)
    h.narrow.whole h.narrow.term h.narrow.refers h.narrow.within) (omega (arith, few, bound))

pub narrow_later : (p : Site) (v w : TermsView) → KeepsTerms v w → (n : ℕ) → IsNarrow p v n → IsNarrow p w n
narrow_later p v w keeps n h = record {
  root = h.root;
  among = h.among;
  whole = h.whole;
  refers = later p v w keeps h.root h.whole h.refers;
  term = h.term;
  within = h.within;
  few = h.few;
}

-- the last literal stands for a term
pub last_term : (p : Site) (v : TermsView) → IsToElaborate p v → (front : List ℕ) (r : ℕ) → clause_of_command p ≡ front ++ r ∷ [] → IsTerm p.symbols.now v r
last_term p v h front r split =
    let found =
    refer_among p v (clause_of_command p) (clause_at h.proof p.command) r (own_clause p v h) (subst (λ xs. Contains xs r) (sym split) (snoc_there front r))
    in record { means = found.term; refers = found.refers }
