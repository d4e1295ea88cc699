-- Cited by crates above. How high the terms are that are made for a command.
use Rattle.std.proofs.Common.{◌≡◌, ◌≤◌, ◌<◌, ◌+◌, ◌*◌, ◌⊎◌, inl, inr, ℕ, Bool, true, false, not, max, List, [], ◌∷◌, ◌++◌, flat_map}
use Rattle.std.proofs.Common.{Option, Some, None, All, Contains, sym, ap, subst, arith, cond}
use Rattle.std.specs.List.{AllByRecursion}
use Rattle.std.proofs.lemmas.List.Elements.{All-contains, Contains-append_left, Contains-append_right, recursion_from_All}
use Rattle.pair_pool.specs.Views.{IsOneToOne}
use Rattle.sym_table.specs.Table.{Table, IsTable}
use Rattle.term_model.specs.Flips.{equality}
use Rattle.term_model.specs.Heights.{height, highest, highest_bound}
use Rattle.term_model.specs.Terms.{Var, var_eq, Term, numeral, variable, operation, call, let_in, Terms, no_terms, term, Bindings, no_bindings, binding, not_of}
use Rattle.term_pool.specs.Views.{TermsView, RefersTo, ReferToAll}
use Rattle.term_model.proofs.Lists.{contains_head, contains_later}
use Rattle.term_pool.proofs.OneTerm.{one_term}
use Rattle.term_pool.proofs.HeightLemmas.{argument_less}
use Rattle.proof_store.specs.Meaning.{StandForItems}
use Rattle.rule_model.specs.Contexts.{images}
use Rattle.rule_model.specs.Elaboration.{IsLowProof}
use Rattle.rule_model.specs.Judged.{anchors_at}
use Rattle.rule_model.specs.Proofs.{ProofItems}
use Rattle.rule_model.specs.Reading.{clause_at, closes_at, premises_at}
use Rattle.rule_model.specs.Replacement.{Replacement, binds, replaced_by}
use Rattle.rule_model.specs.Substitution.{put_in, put_in_all, put_in_bound, unbound}
use Rattle.rule_model.proofs.LinearForms.{all_split}
use Rattle.rule_model.proofs.ReplacementLists.{all_filtered}
use Rattle.elaborator.specs.Sources.{own_anchors}
use Rattle.elaboration_laws.specs.StrictBlocks.{AnchorsStand}
use Rattle.elaboration_laws.proofs.Anchors.{own_list}
use Rattle.elaboration_laws.proofs.Lowering.{low_at}
use Rattle.elaboration_laws.proofs.Ones.{one_anchors, one_clause}
use Rattle.equality_steps.specs.declared.site.Site.{Site}
use Rattle.flip_steps.specs.Stages.{IsMadeFrom}
use Rattle.equality_blocks.specs.Commands.{IsToElaborate, IsLiteralOfCommand, clause_of_command}
use Rattle.equality_blocks.specs.Counts.{IsRootOf, literal as root_literal, asserted as root_asserted, side as root_side}
use Rattle.equality_blocks.specs.Made.{IsMadeForPair, left, right, equated, turned as turned_pair, exchanged, IsStatedFor, paired, formed}
use Rattle.equality_blocks.specs.Made.{literal as stated_literal, IsMadeFor, stated, denied, apart}
use Rattle.equality_blocks.specs.Pairs.{AreAssumed, AreConcluded, AreEquated, AreImplied, AreLinkedBy, AreMatched, AreOrdered, ArePaired, IsPutIn}
use Rattle.equality_blocks.specs.Pairs.{assumed, implied, put_in_one, put_in_both, linked, arguments, outer, inner, reversed, turned}
use Rattle.equality_blocks.specs.Pairs.{equated as linked_equated}
use Rattle.equality_blocks.proofs.LiteralLemmas.{literal_low, own_anchors_stand, referred_among, within_terms}

-- terms that are put in for variables make a term higher by their height at most
module _ (m : ℕ) where
  abbrev pub AreLow : Replacement → Type 0
  AreLow s = AllByRecursion (λ (b : Var × Term). height b.1 ≤ m) s

  put_low : (s : Replacement) (x : Var) → AreLow s → height (replaced_by s x) ≤ 1 + m
  unfolding height
  put_low [] x h = omega arith
  put_low (b ∷ s) x h = go (var_eq b.0 x) (put_low s x h.1)
    where
      go : (t : Bool) → height (replaced_by s x) ≤ 1 + m → height (cond t b.1 (replaced_by s x)) ≤ 1 + m
      go true rest = let a = h.0 in omega (arith, a)
      go false rest = rest

  operation_low : (n k : ℕ) → n ≤ k + m → 1 + n ≤ 1 + k + m
  operation_low n k h = omega arith

  both_low : (a b c d : ℕ) → a ≤ b + m → c ≤ d + m → max a c ≤ max b d + m
  both_low a b c d h k = omega arith

  under : (s : Replacement) (bs : Bindings) → AreLow s → AreLow (unbound bs s)
  under s bs h = all_filtered (λ (b : Var × Term). height b.1 ≤ m) (λ b. not (binds bs b.0)) s h

  mutual
    unfolding height highest highest_bound

    pub put_in_low : (t : Term) (s : Replacement) → AreLow s → height (put_in s t) ≤ height t + m
    put_in_low (numeral n) s h = omega arith
    put_in_low (variable x) s h = put_low s x h
    put_in_low (operation op ts) s h = operation_low (highest (put_in_all s ts)) (highest ts) (all_put_in_low ts s h)
    put_in_low (call f ts) s h = operation_low (highest (put_in_all s ts)) (highest ts) (all_put_in_low ts s h)
    put_in_low (let_in bs t) s h =
        operation_low (max (highest_bound (put_in_bound s bs)) (height (put_in (unbound bs s) t))) (max (highest_bound bs) (height t))
        (both_low (highest_bound (put_in_bound s bs)) (highest_bound bs) (height (put_in (unbound bs s) t)) (height t) (bound_put_in_low bs s h)
        (put_in_low t (unbound bs s) (under s bs h)))

    all_put_in_low : (ts : Terms) (s : Replacement) → AreLow s → highest (put_in_all s ts) ≤ highest ts + m
    all_put_in_low no_terms s h = omega arith
    all_put_in_low (term t ts) s h =
        both_low (height (put_in s t)) (height t) (highest (put_in_all s ts)) (highest ts) (put_in_low t s h) (all_put_in_low ts s h)

    bound_put_in_low : (bs : Bindings) (s : Replacement) → AreLow s → highest_bound (put_in_bound s bs) ≤ highest_bound bs + m
    bound_put_in_low no_bindings s h = omega arith
    bound_put_in_low (binding x t bs) s h =
        both_low (height (put_in s t)) (height t) (highest_bound (put_in_bound s bs)) (highest_bound bs) (put_in_low t s h) (bound_put_in_low bs s h)

equality_height : (a b : Term) → height (equality a b) ≡ 1 + max (height a) (height b)
unfolding height highest
equality_height a b = omega arith

negation_height : (t : Term) → height (not_of t) ≡ 1 + height t
unfolding height highest
negation_height t = omega arith

-- of the law of `flip_steps`
abbrev pub FromIsLow : Type 0
FromIsLow =
    (s : Table) (v : TermsView) → IsTable s → IsOneToOne v.pass → (root : ℕ) (x t : Term) → IsMadeFrom s v root x → RefersTo s v root t →
    height x ≤ height t + 1

-- of the law of `proof_store`
abbrev pub StandForOne : Type 0
StandForOne =
    (s : Table) (v : TermsView) (refs : ProofItems ℕ ℕ) (p q : ProofItems Var Term) → IsTable s → IsOneToOne v.pass →
    StandForItems s v refs p → StandForItems s v refs q → p ≡ q

-- what open anchors put in where a command belongs
images_own : (n : ℕ) (o : Option ℕ) (anchors : List (List (Var × Term))) → All (λ (b : Var × Term). height b.1 ≤ n) (images anchors)
    → AllByRecursion (λ (b : Var × Term). height b.1 ≤ n) (images (own_list o anchors))
images_own n None anchors all = recursion_from_All (λ (b : Var × Term). height b.1 ≤ n) (images anchors) all
images_own n (Some k) [] all = tt
images_own n (Some k) (a ∷ anchors) all =
    (all_split (λ (b : Var × Term). height b.1 ≤ n) _ (images anchors) (recursion_from_All (λ (b : Var × Term). height b.1 ≤ n) (images (a ∷ anchors)) all)).1

record AreBelow (n : ℕ) (t u : Term) : Type 0 where
  pub left : height t ≤ n
  pub right : height u ≤ n

module _ (from_low : FromIsLow) (p : Site) (v : TermsView) (c : IsToElaborate p v) (n : ℕ) (low : IsLowProof n c.proof)
    (assertions_low : All (λ a. height a ≤ n) c.assertions) where
  literal_below : (t : Term) → IsLiteralOfCommand p v t → height t ≤ n
  literal_below t h = literal_low p v c n low t h

  equated_below : (t u : Term) → AreEquated p v t u → AreBelow n t u
  equated_below t u (inl h) =
      let whole = literal_below (equality t u) h in
      let e = equality_height t u in
      record { left = omega (arith, whole, e); right = omega (arith, whole, e) }
  equated_below t u (inr h) =
      let whole = literal_below (not_of (equality t u)) h in
      let d = negation_height (equality t u) in
      let e = equality_height t u in
      record { left = omega (arith, whole, d, e); right = omega (arith, whole, d, e) }

  of_clause : (r : ℕ) (t : Term) → Contains (clause_of_command p) r → RefersTo p.symbols.now v r t → height t ≤ n
  of_clause r t has refers =
      literal_below t
      (record {
        reference = r;
        among = Contains-append_left (clause_of_command p) (flat_map (clause_at p.proof.now) (premises_at p.proof.now p.command)) r has;
        refers = refers;
      })

  at_end : (before : List ℕ) (x y : ℕ) → clause_of_command p ≡ before ++ x ∷ y ∷ [] → Contains (clause_of_command p) x × Contains (clause_of_command p) y
  at_end before x y e = (
    subst (λ rs. Contains rs x) (sym e) (Contains-append_right before (x ∷ y ∷ []) x (contains_head x (y ∷ []))),
    subst (λ rs. Contains rs y) (sym e) (Contains-append_right before (x ∷ y ∷ []) y (contains_later x y (y ∷ []) (contains_head y []))),
  )

  implied_below : (t u : Term) → AreImplied p v t u → AreBelow n t u
  implied_below t u h =
      let both : Contains (clause_of_command p) h.denied × Contains (clause_of_command p) h.given =
      elim h.clause [ inl e ↦ at_end h.before h.denied h.given e | inr e ↦ (let f = at_end h.before h.given h.denied e in (f.1, f.0)) ] in
      let one = of_clause h.denied (not_of t) both.0 h.denied_refers in
      let d = negation_height t in
      record { left = omega (arith, one, d); right = of_clause h.given u both.1 h.given_refers }

  assertion_below : (r : ℕ) (t : Term) → Contains p.asserted.now r → RefersTo p.symbols.now v r t → height t ≤ n
  assertion_below r t has refers =
      All-contains (λ a. height a ≤ n) c.assertions t assertions_low
      (referred_among p.symbols.now v c.table c.known p.asserted.now c.assertions c.asserted r t has refers)

  assumed_below : (t u : Term) → AreAssumed p v t u → AreBelow n t u
  assumed_below t u h = record {
    left =
        assertion_below h.reference t
        (subst (λ rs. Contains rs h.reference) (sym h.first.asserted)
        (Contains-append_right h.first.before (h.reference ∷ h.first.after) h.reference (contains_head h.reference h.first.after)))
        h.refers;
    right =
        of_clause h.first.assumed u (subst (λ rs. Contains rs h.first.assumed) (sym h.first.clause) (contains_head h.first.assumed [])) h.first.assumed_refers;
  }

  images_below : (anchors : List (List (Var × Term))) → AnchorsStand p.symbols.now v (own_anchors p.proof.now p.command) anchors → AreLow n (images anchors)
  images_below anchors stand =
      let same = one_anchors p.symbols.now v c.known (one_term p.symbols.now c.table) (own_anchors p.proof.now p.command)
      (own_list (closes_at p.proof.now p.command) (anchors_at c.proof p.command)) anchors (own_anchors_stand p v c) stand in
      subst (λ xs. AreLow n (images xs)) same
      (images_own n (closes_at p.proof.now p.command) (anchors_at c.proof p.command) (low_at n c.proof p.command (within_terms p v c) low).images)

  side_below : (t u : Term) → AreEquated p v t u ⊎ AreEquated p v u t → height t ≤ n
  side_below t u (inl h) = (equated_below t u h).left
  side_below t u (inr h) = (equated_below u t h).right

  put_in_below : (t u : Term) → IsPutIn p v t u → (height t ≤ n) × (height u ≤ 2 * n)
  put_in_below t u h =
      let first = side_below t h.other h.side in
      let second = put_in_low n t (images h.anchors) (images_below h.anchors h.anchors_stand) in
      let same = ap height h.is in
      (first, omega (arith, first, second, same))

  linked_below : (t u : Term) → AreLinkedBy p v t u → AreBelow (2 * n) t u
  linked_below t u (linked_equated h) =
      let b = equated_below t u h in let x = b.left in let y = b.right in record { left = omega (arith, x); right = omega (arith, y) }
  linked_below t u (implied h) =
      let b = implied_below t u h in let x = b.left in let y = b.right in record { left = omega (arith, x); right = omega (arith, y) }
  linked_below t u (assumed h) =
      let b = assumed_below t u h in let x = b.left in let y = b.right in record { left = omega (arith, x); right = omega (arith, y) }
  linked_below t u (put_in_one h) = let b = put_in_below t u h in let x = b.0 in record { left = omega (arith, x); right = b.1 }
  linked_below t u (put_in_both h) = record { left = (put_in_below h.left t h.left_put_in).1; right = (put_in_below h.right u h.right_put_in).1 }

  concluded_below : (t u : Term) → AreConcluded p v t u → AreBelow n t u
  concluded_below t u h =
      let there = subst (λ rs. Contains rs h.reference) (sym h.clause)
      (Contains-append_right h.before (h.reference ∷ []) h.reference (contains_head h.reference [])) in
      let whole = of_clause h.reference (equality t u) there h.refers in
      let e = equality_height t u in
      record { left = omega (arith, whole, e); right = omega (arith, whole, e) }

  matched_below : (t u : Term) → AreMatched p v t u → AreBelow n t u
  matched_below t u (inl h) = concluded_below t u h
  matched_below t u (inr h) = implied_below t u h

  crossed_below : (a b c d x y : Term) → AreMatched p v (equality a b) (equality c d) → (height x ≤ max (height a) (height b) + 1)
      → (height y ≤ max (height c) (height d) + 1) → AreBelow n x y
  crossed_below a b c d x y h first second =
      let k = matched_below (equality a b) (equality c d) h in
      let one = k.left in
      let other = k.right in
      let e = equality_height a b in
      let f = equality_height c d in
      record { left = omega (arith, one, e, first); right = omega (arith, other, f, second) }

  twice : (t u : Term) → AreBelow n t u → AreBelow (2 * n) t u
  twice t u b = let x = b.left in let y = b.right in record { left = omega (arith, x); right = omega (arith, y) }

  ordered_below : (t u : Term) → AreOrdered p v t u → AreBelow (2 * n) t u
  ordered_below _ _ (linked t u h) = linked_below t u h
  ordered_below _ _ (arguments t u x y h k) =
      let b = matched_below t u h in
      let first = b.left in
      let second = b.right in
      let one = argument_less t x k.place k.left in
      let other = argument_less u y k.place k.right in
      record { left = omega (arith, first, one); right = omega (arith, second, other) }
  ordered_below _ _ (outer a b c d h) = twice a d (crossed_below a b c d a d h (omega arith) (omega arith))
  ordered_below _ _ (inner a b c d h) = twice b c (crossed_below a b c d b c h (omega arith) (omega arith))
  ordered_below _ _ (reversed a b c d h) =
      let k = (matched_below (equality a b) (equality c d) h).left in
      let e = equality_height a b in
      let f = equality_height b a in
      record { left = omega (arith, k); right = omega (arith, k, e, f) }
  ordered_below _ _ (turned a b c d h) =
      let e = equality_height b a in
      let f = equality_height c d in
      twice (equality b a) (equality c d) (crossed_below a b c d (equality b a) (equality c d) h (omega (arith, e)) (omega (arith, f)))

  paired_below : (t u : Term) → ArePaired p v t u → AreBelow (2 * n) t u
  paired_below t u (inl h) = ordered_below t u h
  paired_below t u (inr h) = let b = ordered_below u t h in record { left = b.right; right = b.left }

  for_pair_below : (t u x : Term) → AreBelow (2 * n) t u → IsMadeForPair t u x → height x ≤ 2 * n + 2
  for_pair_below t u _ b left = let y = b.left in omega (arith, y)
  for_pair_below t u _ b right = let y = b.right in omega (arith, y)
  for_pair_below t u _ b equated = let y = b.left in let z = b.right in let e = equality_height t u in omega (arith, y, z, e)
  for_pair_below t u _ b turned_pair = let y = b.left in let z = b.right in let e = equality_height u t in omega (arith, y, z, e)
  for_pair_below t u _ b exchanged =
      let y = b.left in
      let z = b.right in
      let e = equality_height t u in
      let f = equality_height u t in
      let g = equality_height (equality t u) (equality u t) in
      omega (arith, y, z, e, f, g)

  from_below : (root : ℕ) (x t : Term) → IsMadeFrom p.symbols.now v root x → RefersTo p.symbols.now v root t → height t ≤ 2 * n → height x ≤ 2 * n + 2
  from_below root x t made refers low = let h = from_low p.symbols.now v c.table c.known root x t made refers in omega (arith, h, low)

  formed_below : (root : ℕ) (x : Term) → IsRootOf p v root → IsMadeFrom p.symbols.now v root x → height x ≤ 2 * n + 2
  formed_below root x (root_literal among) made =
      let t = made.stands.whole in
      let h = literal_below t (record { reference = root; among = among; refers = made.stands.whole_refers }) in
      from_below root x t made made.stands.whole_refers (omega (arith, h))
  formed_below root x (root_asserted u first) made =
      let t = made.stands.whole in
      let h = assertion_below root t
      (subst (λ rs. Contains rs root) (sym first.asserted) (Contains-append_right first.before (root ∷ first.after) root (contains_head root first.after)))
      made.stands.whole_refers in
      from_below root x t made made.stands.whole_refers (omega (arith, h))
  formed_below root x (root_side t u put refers) made = from_below root x u made refers (put_in_below t u put).1

  stated_below : (x : Term) → IsStatedFor p v x → height x ≤ 2 * n + 2
  stated_below _ (paired t u x h k) = for_pair_below t u x (paired_below t u h) k
  stated_below _ (stated_literal x h) = let y = literal_below x h in omega (arith, y)
  stated_below _ (formed root x h k) = formed_below root x h k

  made_below : (x : Term) → IsMadeFor p v x → height x ≤ 2 * n + 10
  made_below _ (stated x h) = let y = stated_below x h in omega (arith, y)
  made_below _ (denied t u h) = let y = (paired_below t u h).left in let e = negation_height t in omega (arith, y, e)
  made_below _ (apart t u h) =
      let b = paired_below t u h in
      let y = b.left in
      let z = b.right in
      let e = equality_height t u in
      let f = negation_height (equality t u) in
      omega (arith, y, z, e, f)

pub made_low : FromIsLow → StandForOne → (p : Site) (v : TermsView) (proof : ProofItems Var Term) (assertions : List Term) (n : ℕ) (x : Term)
    → IsToElaborate p v → StandForItems p.symbols.now v p.proof.now proof → ReferToAll p.symbols.now v p.asserted.now assertions
    → All (λ a. height a ≤ n) assertions → IsLowProof n proof → IsMadeFor p v x → height x ≤ 2 * n + 10
made_low from_low one_of p v proof assertions n x c stand refer low_assertions low made =
    let same_proof = one_of p.symbols.now v p.proof.now proof c.proof c.table c.known stand c.stand in
    let same_assertions = one_clause p.symbols.now v c.known (one_term p.symbols.now c.table) p.asserted.now assertions c.assertions refer c.asserted in
    made_below from_low p v c n (subst (IsLowProof n) same_proof low) (subst (All (λ a. height a ≤ n)) same_assertions low_assertions) x made
