-- A sweep from the nodes of terms comes to their linear forms.
use Rattle.std.proofs.Common.{◌≡◌, ◌≢◌, ◌⊎◌, inl, inr, ℕ, zero, suc, ◌+◌, ◌<◌, ◌≤◌, ◌^◌, min, Bool, true, false, nat_eq, nat_lt, if◌then◌else◌, ℤ, pos, neg_ℤ, ◌-ℤ◌, ◌*ℤ◌, unsigned_abs, List, [], ◌∷◌, All, length, slice_index_or, replicate, Option, Some, None, Decides, FitsSigned, refl, sym, ap, ◌∙◌, subst, arith}
use Rattle.std.proofs.Math.IntN.{*ℤ_comm, zero-*ℤ}
use Rattle.std.specs.Global.{Vec}
use Rattle.std.proofs.lemmas.Int.{ints}
use Rattle.std.proofs.lemmas.Bool.Decides.{nat_tests}
use Rattle.std.proofs.lemmas.List.Elements.{All-head, All-tail, All-weaker}
use Rattle.pair_pool.specs.Views.{IsOneToOne, HasPartsOfTrees}
use Rattle.sym_table.specs.Table.{Table, IsTable}
use Rattle.term_model.specs.Terms.{Term, Terms, no_terms, term}
use Rattle.term_pool.specs.Views.{TermsView, RefersTo, IsTerm}
use Rattle.term_pool.proofs.TermLemmas.{equal_where}
use Rattle.rule_model.specs.LinearForms.{one_at, coefficient, HaveOneForm}
use Rattle.rule_model.specs.TermTests.{term_eq}
use Rattle.rule_model.specs.Weights.{weight, weight_sum}
use Rattle.rule_model.proofs.Ring.{one-mul, neg-mul}
use Rattle.rule_model.proofs.TermTests.{term_eq_decides}
use Rattle.linear_forms.specs.declared.forms.Numbers.{Numbers}
use Rattle.linear_forms.specs.declared.forms.OneForm.{OneForm}
use Rattle.linear_forms.specs.declared.graph.Graph.{Graph}
use Rattle.linear_forms.specs.declared.memory.Item.{Item}
use Rattle.linear_forms.specs.declared.memory.Item.TheVariants.{Term as TermItem}
use Rattle.linear_forms.specs.declared.nodes.Coefficient.{Coefficient}
use Rattle.linear_forms.specs.declared.nodes.Info.{Info}
use Rattle.linear_forms.specs.declared.nodes.Node.{Node}
use Rattle.linear_forms.specs.declared.nodes.Node.TheVariants.{Number, Opaque, Multiple, Sum}
use Rattle.linear_forms.specs.Coefficients.{sum_at, sizes_of, AreOfDifferentTerms}
use Rattle.linear_forms.specs.Factors.{added, total, load, total_value, CountsUnits, IsWeighed}
use Rattle.linear_forms.specs.Forms.{IsReferred, ListsCoefficients, IsToldWeight, IsLinearForm, IsDifferenceForm, TellsOneForm}
use Rattle.linear_forms.specs.Graphs.{IsOneTerm, IsNode, IsGraphAt, IsGraph, IsRemembered, no_info, info_at}
use Rattle.linear_forms.specs.Infos.{limit_weight}
use Rattle.linear_forms.specs.Readings.{FormReading, for_constants, for_parts, unit_of, opaque_in, read, sum_in}
use Rattle.linear_forms.specs.Roots.{told_weight, single_factors, pair_factors, IsExpandedForm, IsTold}
use Rattle.linear_forms.specs.Sweeps.{node_at, factor_at, AreWeighed, AreCounted, IsOpaqueFrom, HaveOwnNodes, CanSweep, IsSwept}
use Rattle.linear_forms.proofs.Meaning.{term_one}
use Rattle.linear_forms.proofs.Passing.{total_added, load_added, added_length}
use Rattle.linear_forms.proofs.Products.{sum_one}
use Rattle.linear_forms.proofs.Sweeping.{fits_of}
use Rattle.linear_forms.proofs.Weighing.{sum_positive}

-- factors of 0
zeros_length : (n : ℕ) → length (replicate n (pos 0)) ≡ n
zeros_length zero = refl
zeros_length (suc n) = ap suc (zeros_length n)

zeros_total : (v : ℕ → ℤ) (n : ℕ) → total v (replicate n (pos 0)) ≡ pos 0
zeros_total v zero = refl
zeros_total v (suc n) = omega (arith, ints, zero-*ℤ (v 0), zeros_total (λ k. v (suc k)) n)

zeros_load : (w : ℕ → ℕ) (n : ℕ) → load w (replicate n (pos 0)) ≡ 0
zeros_load w zero = refl
zeros_load w (suc n) = omega (arith, zeros_load (λ k. w (suc k)) n)

zeros_at : (n k : ℕ) → factor_at (replicate n (pos 0)) k ≡ pos 0
zeros_at zero k = refl
zeros_at (suc n) zero = refl
zeros_at (suc n) (suc k) = zeros_at n k

pub zero_room : (n k : ℕ) → unsigned_abs (slice_index_or (replicate n (pos 0)) k (pos 0)) ≡ 0
zero_room n k = ap unsigned_abs (zeros_at n k)

single_at : (fs : List ℤ) (k l : ℕ) (z : ℤ) → ((j : ℕ) → factor_at fs j ≡ pos 0) → unsigned_abs (factor_at (added fs k z) l) ≤ unsigned_abs z
single_at [] k l z h = omega arith
single_at (f ∷ fs) zero zero z h = omega (arith, ints, h 0)
single_at (f ∷ fs) zero (suc l) z h = omega (arith, ints, h (suc l))
single_at (f ∷ fs) (suc k) zero z h = omega (arith, ints, h 0)
single_at (f ∷ fs) (suc k) (suc l) z h = single_at fs k l z (λ j. h (suc j))

pub pair_room : (n k l : ℕ) → unsigned_abs (slice_index_or (single_factors n k) l (pos 0)) ≤ 1
pair_room n k l = single_at (replicate n (pos 0)) k l (pos 1) (zeros_at n)

pub single_length : (n k : ℕ) → length (single_factors n k) ≡ n
single_length n k = added_length (replicate n (pos 0)) k (pos 1) ∙ zeros_length n

pub pair_length : (n k l : ℕ) → length (pair_factors n k l) ≡ n
pair_length n k l = added_length (single_factors n k) l (neg_ℤ (pos 1)) ∙ single_length n k

single_total : (v : ℕ → ℤ) (n k : ℕ) → k < n → total v (single_factors n k) ≡ v k
single_total v n k h =
    omega (arith, ints, total_added v (replicate n (pos 0)) k (pos 1) (rw (zeros_length n) h), zeros_total v n, one-mul (v k))

pair_total : (v : ℕ → ℤ) (n k l : ℕ) → k < n → l < n → total v (pair_factors n k l) ≡ v k -ℤ v l
pair_total v n k l h j =
    let e : neg_ℤ (pos 1) *ℤ v l ≡ neg_ℤ (pos 1 *ℤ v l) = neg-mul (pos 1) (v l) in
    omega (arith, ints, total_added v (single_factors n k) l (neg_ℤ (pos 1)) (rw (single_length n k) j), single_total v n k h, e, one-mul (v l))

single_load : (w : ℕ → ℕ) (n k : ℕ) → k < n → load w (single_factors n k) ≤ w k
single_load w n k h = omega (arith, load_added w (replicate n (pos 0)) k (pos 1) (rw (zeros_length n) h), zeros_load w n)

pair_load : (w : ℕ → ℕ) (n k l : ℕ) → k < n → l < n → load w (pair_factors n k l) ≤ w k + w l
pair_load w n k l h j = omega (arith, load_added w (single_factors n k) l (neg_ℤ (pos 1)) (rw (single_length n k) j), single_load w n k h)

-- lists of coefficients
total_nothing : (cs : List Coefficient) → total_value (λ r. pos 0) cs ≡ pos 0
total_nothing [] = refl
total_nothing (c ∷ cs) = omega (arith, ints, *ℤ_comm c.number (pos 0), zero-*ℤ c.number, total_nothing cs)

total_at : (q : ℕ) (cs : List Coefficient) → total_value (λ r. if nat_eq r q then pos 1 else pos 0) cs ≡ sum_at cs q
total_at q [] = refl
total_at q (c ∷ cs) = omega (arith, ints, here (nat_eq c.term q), total_at q cs)
  where
    here : (b : Bool) → c.number *ℤ (if b then pos 1 else pos 0) ≡ (if b then c.number else pos 0)
    here true = *ℤ_comm c.number (pos 1) ∙ one-mul c.number
    here false = *ℤ_comm c.number (pos 0) ∙ zero-*ℤ c.number

number_absent : (q : ℕ) (cs : List Coefficient) → All (λ (d : Coefficient). d.term ≢ q) cs → sum_at cs q ≡ pos 0
number_absent q [] h = refl
number_absent q (c ∷ cs) h =
    let other : c.term ≢ q = All-head (λ (d : Coefficient). d.term ≢ q) c cs h in
    let e : nat_eq c.term q ≡ false = grind (arith, nat_tests) in
    let rest = number_absent q cs (All-tail (λ (d : Coefficient). d.term ≢ q) c cs h) in
    rw e (omega (arith, ints, rest))

number_first : (c : Coefficient) (cs : List Coefficient) → AreOfDifferentTerms (c ∷ cs) → sum_at (c ∷ cs) c.term ≡ c.number
number_first c cs h =
    let e : nat_eq c.term c.term ≡ true = grind (arith, nat_tests) in
    let rest = number_absent c.term cs h.0 in
    rw e (omega (arith, ints, rest))

-- weights up to the limit
pub limited_none : (w n : ℕ) → w ≡ min n limit_weight → told_weight w ≡ None → limit_weight ≤ n
limited_none w n is e = go (nat_lt w limit_weight) refl e
  where
    go : (b : Bool) → nat_lt w limit_weight ≡ b → (if b then Some w else None) ≡ None → limit_weight ≤ n
    go true f e = absurd (cc)
    go false f e = grind (arith, nat_tests)

pub limited_some : (w n x : ℕ) → w ≡ min n limit_weight → told_weight w ≡ Some x → (x ≡ n) × (n < limit_weight)
limited_some w n x is e = go (nat_lt w limit_weight) refl e
  where
    go : (b : Bool) → nat_lt w limit_weight ≡ b → (if b then Some w else None) ≡ Some x → (x ≡ n) × (n < limit_weight)
    go true f e = let same : w ≡ x = cc in let less : w < limit_weight = grind (arith, nat_tests) in (omega (arith, same, is, less), omega (arith, is, less))
    go false f e = absurd (cc)

pub limited_within : (w n : ℕ) → w ≡ min n limit_weight → IsToldWeight (told_weight w) n
limited_within w n is = go (told_weight w) refl
  where
    go : (o : Option ℕ) → told_weight w ≡ o → IsToldWeight o n
    go None e = limited_none w n is e
    go (Some x) e = limited_some w n x is e

module _ (s : Table) (v : TermsView) (graph : Graph) (at : ℕ → Terms) (right : IsGraphAt s v graph at) (table : IsTable s) (one : IsOneToOne v.pass) (parts : HasPartsOfTrees v.pass) where
  abbrev nodes : List Node
  nodes = graph.nodes.items

  abbrev weights : ℕ → ℕ
  weights k = weight_sum (at k)

  node_weighed : (k : ℕ) (node : Node) → IsNode s v at (at k) node → IsWeighed weights node (weights k)
  node_weighed k (Number n) h = h.weighs
  node_weighed k (Opaque r) h = tt
  node_weighed k (Multiple p) h = h.weighs
  node_weighed k (Sum p q) h = h.weighs

  weighed : AreWeighed nodes weights
  weighed = record {
    positive = λ k. sum_positive (at k) (right.filled k);
    each = λ k below narrow. node_weighed k (node_at nodes k) (right.right k below narrow);
  }

  -- values of opaque terms by their references
  abbrev AreOpaqueValues : FormReading → (ℕ → ℤ) → Type 0
  AreOpaqueValues reading o = (k r : ℕ) (t : Term) → node_at nodes k ≡ Opaque r → RefersTo s v r t → o r ≡ opaque_in reading t

  counted : (reading : FormReading) (o : ℕ → ℤ) → AreOpaqueValues reading o → AreCounted nodes weights (unit_of reading) o (λ k. sum_in reading (at k))
  counted reading o values k below narrow = go (node_at nodes k) refl (right.right k below narrow)
    where
      go : (node : Node) → node_at nodes k ≡ node → IsNode s v at (at k) node → CountsUnits (unit_of reading) o (λ j. sum_in reading (at j)) node (sum_in reading (at k))
      go (Number n) e h = h.counts reading
      go (Opaque r) e h = h.counts reading ∙ sym (values k r h.one.means e h.one.refers)
      go (Multiple p) e h = h.counts reading
      go (Sum p q) e h = h.counts reading

  own_nodes : HaveOwnNodes nodes
  own_nodes i j r e f =
      let one_place : Some i ≡ Some j = sym (right.own i r e) ∙ right.own j r f in cc

  opaque_refers : (k r : ℕ) → node_at nodes k ≡ Opaque r → IsOneTerm s v r (at k)
  opaque_refers k r e = right.meant (TermItem r) k (right.own k r e)

  -- whether an opaque term stands among the first nodes
  abbrev IsNowhere : Term → ℕ → Type 0
  IsNowhere x n = (k r : ℕ) (t : Term) → k < n → node_at nodes k ≡ Opaque r → RefersTo s v r t → t ≢ x

  -- a node that is none of the term
  further : (x : Term) (n : ℕ) → IsNowhere x n → ((r : ℕ) (t : Term) → node_at nodes n ≡ Opaque r → RefersTo s v r t → t ≢ x) → IsNowhere x (suc n)
  further x n h last k r t below e refers = go (split k below)
    where
      split : (k : ℕ) → k < suc n → (k < n) ⊎ (k ≡ n)
      split k below = grind (arith, below)

      go : (k < n) ⊎ (k ≡ n) → t ≢ x
      go (inl less) = h k r t less e refers
      go (inr is) = last r t (subst (λ j. node_at nodes j ≡ Opaque r) is e) refers

  look_opaque : (x : Term) (n r : ℕ) → IsNowhere x n → node_at nodes n ≡ Opaque r → IsNowhere x (suc n) ⊎ IsReferred s v x
  look_opaque x n r h e = go (term_eq here.means x) (term_eq_decides here.means x)
    where
      here : IsOneTerm s v r (at n)
      here = opaque_refers n r e

      go : (b : Bool) → Decides b (here.means ≡ x) → IsNowhere x (suc n) ⊎ IsReferred s v x
      go true d = inr (record { reference = r; refers = subst (RefersTo s v r) (d.0 refl) here.refers })
      go false d = inl (further x n h (λ q t f refers same.
          let g : Opaque r ≡ Opaque q = sym e ∙ f in
          let reference : r ≡ q = cc in
          let means = term_one s v table one parts q here.means t (subst (λ z. RefersTo s v z here.means) reference here.refers) refers in
          let never : false ≡ true = d.1 (means ∙ same) in
          absurd (cc)))

  look_at : (x : Term) (n : ℕ) → IsNowhere x n → (node : Node) → node_at nodes n ≡ node → IsNowhere x (suc n) ⊎ IsReferred s v x
  look_at x n h (Opaque r) e = look_opaque x n r h e
  look_at x n h (Number m) e = inl (further x n h (λ r t f refers same. let g : Number m ≡ Opaque r = sym e ∙ f in absurd (cc)))
  look_at x n h (Multiple p) e = inl (further x n h (λ r t f refers same. let g : Multiple p ≡ Opaque r = sym e ∙ f in absurd (cc)))
  look_at x n h (Sum p q) e = inl (further x n h (λ r t f refers same. let g : Sum p q ≡ Opaque r = sym e ∙ f in absurd (cc)))

  scan : (x : Term) (n : ℕ) → IsNowhere x n ⊎ IsReferred s v x
  scan x zero = inl (λ k r t below e refers same. omega (arith, below))
  scan x (suc n) =
      elim (scan x n) [
        | inl h ↦ look_at x n h (node_at nodes n) refl
        | inr h ↦ inr h
      ]

  opaque_below : (k r : ℕ) → node_at nodes k ≡ Opaque r → k < length nodes
  opaque_below k r e = right.there (TermItem r) k (right.own k r e)

  -- what opaque terms count, by their references
  nothing_values : AreOpaqueValues for_constants (λ r. pos 0)
  nothing_values k r t e refers = refl

  nowhere_values : (x : Term) → IsNowhere x (length nodes) → AreOpaqueValues (for_parts (one_at x)) (λ r. pos 0)
  nowhere_values x h k r t e refers = go (term_eq t x) (term_eq_decides t x)
    where
      go : (b : Bool) → Decides b (t ≡ x) → pos 0 ≡ (if b then pos 1 else pos 0)
      go true d = absurd (h k r t (opaque_below k r e) e refers (d.0 refl))
      go false d = refl

  referred_values : (q : ℕ) (x : Term) → RefersTo s v q x → AreOpaqueValues (for_parts (one_at x)) (λ r. if nat_eq r q then pos 1 else pos 0)
  referred_values q x there k r t e refers = go (nat_eq r q) refl (term_eq t x) (term_eq_decides t x)
    where
      same : (r ≡ q → t ≡ x) × (t ≡ x → r ≡ q)
      same = equal_where s v table one r q t x refers there

      go : (a : Bool) → nat_eq r q ≡ a → (b : Bool) → Decides b (t ≡ x) → (if a then pos 1 else pos 0) ≡ (if b then pos 1 else pos 0)
      go true f true d = refl
      go false f false d = refl
      go true f false d =
          let is : r ≡ q = grind (arith, nat_tests) in let never : false ≡ true = d.1 (same.0 is) in absurd (cc)
      go false f true d =
          let is : r ≡ q = same.1 (d.0 refl) in absurd (grind (arith, nat_tests))

  module _ (factors : List ℤ) (c : ℤ) (found : List Coefficient) (bound : load weights factors < 2 ^ 127) (swept : IsSwept nodes factors c found) where
    pub swept_constant : c ≡ total (λ k. sum_in for_constants (at k)) factors
    swept_constant =
        omega (
          arith,
          ints,
          swept.kept weights (pos 1) (λ r. pos 0) (λ k. sum_in for_constants (at k)) weighed bound (counted for_constants (λ r. pos 0) nothing_values),
          total_nothing found,
          *ℤ_comm c (pos 1),
          one-mul c,
        )

    swept_parts : (x : Term) (o : ℕ → ℤ) → AreOpaqueValues (for_parts (one_at x)) o → total (λ k. sum_in (for_parts (one_at x)) (at k)) factors ≡ total_value o found
    swept_parts x o values =
        omega (
          arith,
          ints,
          swept.kept weights (pos 0) o (λ k. sum_in (for_parts (one_at x)) (at k)) weighed bound (counted (for_parts (one_at x)) o values),
          *ℤ_comm c (pos 0),
          zero-*ℤ c,
        )

    pub swept_coefficients : (f : Term → ℤ) → ((x : Term) → total (λ k. sum_in (for_parts (one_at x)) (at k)) factors ≡ f x) → ListsCoefficients s v found f
    swept_coefficients f is = record {
      right = λ r t refers. sym (is t) ∙ swept_parts t (λ q. if nat_eq q r then pos 1 else pos 0) (referred_values r t refers) ∙ total_at r found;
      covered = λ t. elim (scan t (length nodes)) [
        | inl h ↦ inl (sym (is t) ∙ swept_parts t (λ r. pos 0) (nowhere_values t h) ∙ total_nothing found)
        | inr h ↦ inr h
      ];
      terms = All-weaker (λ (d : Coefficient). IsOpaqueFrom nodes 0 d.term) (λ (d : Coefficient). IsTerm s v d.term) (λ d h. let e = opaque_refers h.number d.term h.node in record { means = e.means; refers = e.refers }) found swept.from;
      apart = swept.apart own_nodes;
      others = swept.others;
    }

    pub swept_light : unsigned_abs c + sizes_of found ≤ load weights factors
    swept_light = swept.light weights weighed bound

  -- the number of a term
  number_there : (r k : ℕ) → IsRemembered graph (TermItem r) k → k < length nodes
  number_there r k e = right.there (TermItem r) k e

  module _ (r k : ℕ) (t : Term) (e : IsRemembered graph (TermItem r) k) (refers : RefersTo s v r t) where
    number_terms : at k ≡ term t no_terms
    number_terms =
        let h = right.meant (TermItem r) k e in
        h.alone ∙ ap (λ u. term u no_terms) (term_one s v table one parts r h.means t h.refers refers)

    number_weight : weights k ≡ weight t
    number_weight = ap weight_sum number_terms ∙ plain (weight t)
      where
        plain : (n : ℕ) → n + 0 ≡ n
        plain n = omega arith

    number_reads : (reading : FormReading) → sum_in reading (at k) ≡ read reading t
    number_reads reading = ap (sum_in reading) number_terms ∙ sum_one reading t

    pub number_info : (info_at graph k).sum ≡ min (weight t) limit_weight
    number_info = (right.known k (number_there r k e)).sum_is ∙ ap (λ n. min n limit_weight) number_weight

  pub single_sweeps : (r k : ℕ) (t : Term) → IsRemembered graph (TermItem r) k → RefersTo s v r t → weight t < limit_weight → CanSweep nodes (single_factors (length nodes) k)
  single_sweeps r k t e refers narrow = record {
    weights = weights;
    weighed = weighed;
    within = omega (arith, single_load weights (length nodes) k (number_there r k e), number_weight r k t e refers, narrow);
    ordered = right.above;
    long = single_length (length nodes) k;
  }

  pub pair_sweeps : (r k : ℕ) (t : Term) (q l : ℕ) (u : Term) → IsRemembered graph (TermItem r) k → RefersTo s v r t → IsRemembered graph (TermItem q) l → RefersTo s v q u → weight t + weight u < limit_weight → CanSweep nodes (pair_factors (length nodes) k l)
  pair_sweeps r k t q l u e refers f other narrow = record {
    weights = weights;
    weighed = weighed;
    within = omega (arith, pair_load weights (length nodes) k l (number_there r k e) (number_there q l f), number_weight r k t e refers, number_weight q l u f other, narrow);
    ordered = right.above;
    long = pair_length (length nodes) k l;
  }

  pub single_expanded : (r k : ℕ) (t : Term) (w : ℕ) (n : Numbers) (found : List Coefficient) → IsRemembered graph (TermItem r) k → RefersTo s v r t → (n.weight ≡ weight t) × (weight t < limit_weight) → IsSwept nodes (single_factors (length nodes) k) n.constant found → IsExpandedForm s v t n found
  single_expanded r k t w n found e refers narrow swept =
      let below = number_there r k e in
      let factors = single_factors (length nodes) k in
      let heavy : load weights factors ≤ weight t = omega (arith, single_load weights (length nodes) k below, number_weight r k t e refers) in
      let bound : load weights factors < 2 ^ 127 = omega (arith, heavy, narrow.1) in
      record {
        weight_is = narrow.0;
        narrow = narrow.1;
        constant_is = swept_constant factors n.constant found bound swept ∙ single_total (λ j. sum_in for_constants (at j)) (length nodes) k below ∙ number_reads r k t e refers for_constants;
        coefficients = swept_coefficients factors n.constant found bound swept (λ x. read (for_parts (one_at x)) t) (λ x. single_total (λ j. sum_in (for_parts (one_at x)) (at j)) (length nodes) k below ∙ number_reads r k t e refers (for_parts (one_at x)));
        light = omega (arith, swept_light factors n.constant found bound swept, heavy, narrow.0);
      }

  pub pair_expanded : (r k : ℕ) (t : Term) (q l : ℕ) (u : Term) (n : Numbers) (found : List Coefficient) → IsRemembered graph (TermItem r) k → RefersTo s v r t → IsRemembered graph (TermItem q) l → RefersTo s v q u → (n.weight ≡ weight t + weight u) × (weight t + weight u < limit_weight) → IsSwept nodes (pair_factors (length nodes) k l) n.constant found → IsDifferenceForm s v t u n found
  pair_expanded r k t q l u n found e refers f other narrow swept =
      let below = number_there r k e in
      let lower = number_there q l f in
      let factors = pair_factors (length nodes) k l in
      let heavy : load weights factors ≤ weight t + weight u = omega (arith, pair_load weights (length nodes) k l below lower, number_weight r k t e refers, number_weight q l u f other) in
      let bound : load weights factors < 2 ^ 127 = omega (arith, heavy, narrow.1) in
      record {
        weight_is = narrow.0;
        narrow = narrow.1;
        constant_is =
            swept_constant factors n.constant found bound swept ∙ pair_total (λ j. sum_in for_constants (at j)) (length nodes) k l below lower
            ∙ rw (number_reads r k t e refers for_constants, number_reads q l u f other for_constants) refl;
        coefficients =
            swept_coefficients factors n.constant found bound swept (λ x. read (for_parts (one_at x)) t -ℤ read (for_parts (one_at x)) u)
            (λ x.
            pair_total (λ j. sum_in (for_parts (one_at x)) (at j)) (length nodes) k l below lower
            ∙ rw (number_reads r k t e refers (for_parts (one_at x)), number_reads q l u f other (for_parts (one_at x))) refl);
        light = omega (arith, swept_light factors n.constant found bound swept, heavy, narrow.0);
      }

-- one form
pub tells_yes : (s : Table) (v : TermsView) (t u : Term) (n : Numbers) (found : List Coefficient) → IsDifferenceForm s v t u n found → n.constant ≡ pos 0 → found ≡ [] → TellsOneForm t u OneForm.Yes
tells_yes s v t u n found h zero_constant none = (h.narrow, record { constants_are = omega (arith, ints, h.constant_is, zero_constant); coefficients_are = same })
  where
    gone : (x : Term) → coefficient t x -ℤ coefficient u x ≡ pos 0
    gone x =
        elim (h.coefficients.covered x) [
          | inl e ↦ e
          | inr e ↦ h.coefficients.right e.reference x e.refers ∙ ap (λ cs. sum_at cs e.reference) none
        ]

    same : (x : Term) → coefficient t x ≡ coefficient u x
    same x = omega (arith, ints, gone x)

pub tells_no_constant : (s : Table) (v : TermsView) (t u : Term) (n : Numbers) (found : List Coefficient) → IsDifferenceForm s v t u n found → n.constant ≢ pos 0 → TellsOneForm t u OneForm.No
tells_no_constant s v t u n found h other = (h.narrow, λ same. other (let e = same.constants_are in omega (arith, ints, h.constant_is, e)))

pub tells_no_coefficient : (s : Table) (v : TermsView) (t u : Term) (n : Numbers) (found : List Coefficient) → IsDifferenceForm s v t u n found → found ≢ [] → TellsOneForm t u OneForm.No
tells_no_coefficient s v t u n [] h other = absurd (other refl)
tells_no_coefficient s v t u n (c ∷ cs) h other = (h.narrow, λ same. never same)
  where
    first : IsTerm s v c.term
    first = All-head (λ (d : Coefficient). IsTerm s v d.term) c cs h.coefficients.terms

    never : HaveOneForm t u → ⊥
    never same =
        let e = same.coefficients_are first.means in
        let f = h.coefficients.right c.term first.means first.refers in
        let g = number_first c cs h.coefficients.apart in
        All-head (λ (d : Coefficient). d.number ≢ pos 0) c cs h.coefficients.others (omega (arith, ints, e, f, g))

pub tells_form : (s : Table) (v : TermsView) (t u : Term) (n : Numbers) (found : List Coefficient) (told : OneForm) → IsDifferenceForm s v t u n found → IsTold n.constant found told → TellsOneForm t u told
tells_form s v t u n found OneForm.Yes h told = tells_yes s v t u n found h told.0 told.1
tells_form s v t u n found OneForm.No h (inl other) = tells_no_constant s v t u n found h other
tells_form s v t u n found OneForm.No h (inr other) = tells_no_coefficient s v t u n found h other
tells_form s v t u n found OneForm.TooWide h told = absurd told

pub form_fits : (s : Table) (v : TermsView) (t u : Term) (n : Numbers) (found : List Coefficient) → IsDifferenceForm s v t u n found → FitsSigned mir.Syntax.w128 n.constant
form_fits s v t u n found h = fits_of n.constant (omega (arith, h.light, h.weight_is, h.narrow))

pub expanded_fits : (s : Table) (v : TermsView) (t : Term) (n : Numbers) (found : List Coefficient) → IsExpandedForm s v t n found → FitsSigned mir.Syntax.w128 n.constant
expanded_fits s v t n found h = fits_of n.constant (omega (arith, h.light, h.weight_is, h.narrow))

pub any_default : {X : Type 0} (xs : List X) (k : ℕ) (d e : X) → k < length xs → slice_index_or xs k d ≡ slice_index_or xs k e
any_default [] k d e h = absurd (omega (arith, h))
any_default (x ∷ xs) zero d e h = refl
any_default (x ∷ xs) (suc k) d e h = any_default xs k d e (omega (arith, h))

pub number_in : (s : Table) (v : TermsView) (graph : Graph) (x : Item) (k : ℕ) → IsGraph s v graph → IsRemembered graph x k → k < length graph.infos.items
number_in s v graph x k h e = omega (arith, h.right.there x k e, h.right.long)

-- what stands at the number of a term
pub root_sum : (s : Table) (v : TermsView) (graph : Graph) (r k : ℕ) (t : Term) (info : Info) → IsTable s → IsOneToOne v.pass → HasPartsOfTrees v.pass → IsGraph s v graph → IsRemembered graph (TermItem r) k → RefersTo s v r t → info ≡ slice_index_or graph.infos.items k info → info.sum ≡ min (weight t) limit_weight
root_sum s v graph r k t info table one parts h e refers is =
    let same : info ≡ info_at graph k = is ∙ any_default graph.infos.items k info no_info (number_in s v graph (TermItem r) k h e) in
    ap (λ (i : Info). i.sum) same ∙ number_info s v graph h.at h.right table one parts r k t e refers

pub pair_sum : (a b m n w : ℕ) → a ≡ min m limit_weight → b ≡ min n limit_weight → w ≡ min (a + b) limit_weight → w ≡ min (m + n) limit_weight
pair_sum a b m n w e f is = omega (arith, e, f, is)

pub linear_of : (s : Table) (v : TermsView) (t : Term) (n : Numbers) (found : List Coefficient) (coefs : Vec Coefficient) → coefs.items ≡ found → IsExpandedForm s v t n found → IsLinearForm s v t (record { constant = n.constant; coefs = coefs; weight = n.weight })
linear_of s v t n found coefs is h = record {
  weight_is = h.weight_is;
  narrow = h.narrow;
  constant_is = h.constant_is;
  coefficients = rw is h.coefficients;
  light = rw is h.light;
}
