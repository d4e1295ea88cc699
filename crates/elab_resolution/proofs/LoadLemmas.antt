-- A step over the numbers of its terms.
use Rattle.std.proofs.Common.{◌≡◌, ◌≢◌, ◌⊎◌, inl, inr, ◌+◌, ◌<◌, ℕ, zero, suc, List, [], ◌∷◌, length, map, get_or, Some}
use Rattle.std.proofs.Common.{refl, sym, ◌∙◌, ap, subst, append_assoc, arith, All, Contains}
use Rattle.std.proofs.lemmas.List.{get_or_default}
use Rattle.std.proofs.lemmas.List.Elements.{All-nil, All-cons, All-head, All-tail, All-contains, Contains-append_left, Contains-append_right}
use Rattle.std.specs.Borrow.{Bor}
use Rattle.std.specs.Global.{Vec}
use Rattle.std.specs.List.{AllZip}
use Rattle.pair_pool.specs.Trees.{leaf}
use Rattle.pair_pool.specs.Views.{Knows}
use Rattle.sym_table.specs.Leaf.{operator}
use Rattle.sym_table.specs.Table.{Table, IsLeaf}
use Rattle.term_model.specs.declared.symbols.Op.{Op}
use Rattle.term_model.specs.Terms.{Term, operation, no_terms, term, not_of}
use Rattle.term_model.proofs.Lists.{contains_head, contains_later}
use Rattle.term_model.proofs.Zips.{zip_append, zip_weaken}
use Rattle.term_parts.specs.Judging.{ReferToClauses}
use Rattle.term_pool.specs.Views.{TermsView, KeepsTerms, RefersTo, ReferToAll}
use Rattle.term_pool.proofs.References.{AreOne}
use Rattle.chain_plan.specs.Towers.{Towers, AreNumbered, AreTowers, HasNegation, HasRoom, IsLiteral, nots_at, terms_of}
use Rattle.clause_chain.specs.Chaining.{clauses_of}
use Rattle.clause_chain.specs.declared.signed_term.SignedTerm.{SignedTerm}
use Rattle.elab_resolution.specs.Levels.{falsity_term, nots_of_number, numbered, truth_term}
use Rattle.elab_resolution.specs.Loaded.{AreItemsOf, HasNumber, IsItemOf, reference_or}
use Rattle.elab_resolution.specs.Numbered.{AreAllSpelled, HasRoomyNumber, IsNumbering, number_in, root_references}
use Rattle.elab_resolution.specs.Spellings.{IsNearTo, leading_nots, roots_of}
use Rattle.elab_resolution.specs.declared.numbering.Numbering.{Numbering}
use Rattle.elab_resolution.proofs.LevelLemmas.{bare_number}
use Rattle.elab_resolution.proofs.NumberLemmas.{all_refer_later, refers_at, sizes, some_same}
use Rattle.elab_resolution.proofs.TowerLemmas.{start_is}

pub constant_refers : (s : Table) (v : TermsView) (r k : ℕ) (op : Op) → Knows v.pass r (leaf k) → IsLeaf s k (operator op)
    → RefersTo s v r (operation op no_terms)
constant_refers s v r k op known is = record { tree = leaf k; known = known; stands = is }

-- the references of the literals stand for them
pub refer_roots : (s : Table) (v : TermsView) (premises : List (Bor (List ℕ))) (ps : List (List Term)) (clause : List ℕ) (ts : List Term) (truth falsity : ℕ)
    → ReferToClauses s v premises ps → ReferToAll s v clause ts → RefersTo s v truth truth_term → RefersTo s v falsity falsity_term
    → ReferToAll s v (root_references premises clause truth falsity) (roots_of ps ts)
refer_roots s v [] [] clause ts truth falsity h k t f = zip_append (RefersTo s v) clause ts (truth ∷ falsity ∷ []) (truth_term ∷ falsity_term ∷ []) k
    (t, (f, tt))
refer_roots s v [] (p ∷ ps) clause ts truth falsity h k t f = absurd h
refer_roots s v (r ∷ rs) [] clause ts truth falsity h k t f = absurd h
refer_roots s v (r ∷ rs) (p ∷ ps) clause ts truth falsity h k t f =
    rw (append_assoc, append_assoc) (zip_append (RefersTo s v) r.now p _ _ h.0 (refer_roots s v rs ps clause ts truth falsity h.1 k t f))

-- what holds of all of them holds of each clause's
pub all_of_clause : (P : ℕ → Type 0) (premises : List (Bor (List ℕ))) (clause : List ℕ) (truth falsity : ℕ)
    → ((r : ℕ) → Contains (root_references premises clause truth falsity) r → P r)
    → ((r : ℕ) → Contains clause r → P r) × P truth × P falsity
all_of_clause P [] clause truth falsity all = (
  λ r there. all r (Contains-append_left clause (truth ∷ falsity ∷ []) r there),
  all truth (Contains-append_right clause (truth ∷ falsity ∷ []) truth (0, omega arith, refl)),
  all falsity (Contains-append_right clause (truth ∷ falsity ∷ []) falsity (1, omega arith, refl)),
)
all_of_clause P (p ∷ ps) clause truth falsity all =
    all_of_clause P ps clause truth falsity
    (λ r there. all r (rw append_assoc (Contains-append_right p.now (root_references ps clause truth falsity) r there)))

pub all_of_premises : (P : ℕ → Type 0) (premises : List (Bor (List ℕ))) (clause : List ℕ) (truth falsity : ℕ)
    → ((r : ℕ) → Contains (root_references premises clause truth falsity) r → P r)
    → All (λ (p : Bor (List ℕ)). All P p.now) premises
all_of_premises P [] clause truth falsity all = All-nil (λ (p : Bor (List ℕ)). All P p.now)
all_of_premises P (p ∷ ps) clause truth falsity all =
    All-cons (λ (p : Bor (List ℕ)). All P p.now) p ps
    (λ i d below. all (get_or p.now i d) (rw append_assoc (Contains-append_left p.now (root_references ps clause truth falsity) (get_or p.now i d)
    (i, below, get_or_default p.now i (get_or p.now i d) d below))))
    (all_of_premises P ps clause truth falsity (λ r there. all r
    (rw append_assoc (Contains-append_right p.now (root_references ps clause truth falsity) r there))))

pub has_number : (n : Numbering) (r : ℕ) → HasRoomyNumber n r → HasNumber n r
has_number n r h = record { number = h.number; is = h.is }

bare_leading : (t : Term) → ((u : Term) → t ≢ not_of u) → leading_nots t ≡ 0
bare_leading (operation Op.Not (term t no_terms)) none = absurd (none t refl)
bare_leading _ none = refl

module _ (s : Table) (v : TermsView) (n : Numbering) (h : IsNumbering s v n) (one : AreOne s v) where
  -- the item of a reference stands for its term
  pub number_term : (r k : ℕ) (t : Term) → number_in n r ≡ Some k → RefersTo s v r t → numbered h.terms k ≡ t
  number_term r k t is refers =
      let there = h.found r k is in
      start_is h one k r t (let b = there.0 in let z = sizes h in omega arith) there.1 refers

  pub items_terms : (rs : List ℕ) (items : List SignedTerm) (ts : List Term) → AllZip (IsItemOf n) rs items → ReferToAll s v rs ts
      → terms_of (numbered h.terms) items ≡ ts
  items_terms [] [] [] a b = refl
  items_terms [] [] (t ∷ ts) a b = absurd b
  items_terms [] (x ∷ items) ts a b = absurd a
  items_terms (r ∷ rs) [] ts a b = absurd a
  items_terms (r ∷ rs) (x ∷ items) [] a b = absurd b
  items_terms (r ∷ rs) (x ∷ items) (t ∷ ts) a b =
      ap (λ u. u ∷ terms_of (numbered h.terms) items) (number_term r x.term t a.0.number b.0)
      ∙ ap (λ us. t ∷ us) (items_terms rs items ts a.1 b.1)

  pub clauses_terms : (premises : List (Bor (List ℕ))) (given : List (Vec SignedTerm)) (ps : List (List Term)) → AllZip (AreItemsOf n) premises given
      → ReferToClauses s v premises ps → map (terms_of (numbered h.terms)) (clauses_of given) ≡ ps
  clauses_terms [] [] [] a b = refl
  clauses_terms [] [] (p ∷ ps) a b = absurd b
  clauses_terms [] (x ∷ given) ps a b = absurd a
  clauses_terms (r ∷ rs) [] ps a b = absurd a
  clauses_terms (r ∷ rs) (x ∷ given) [] a b = absurd b
  clauses_terms (r ∷ rs) (x ∷ given) (p ∷ ps) a b =
      ap (λ u. u ∷ map (terms_of (numbered h.terms)) (clauses_of given)) (items_terms r.now x.items p a.0 b.0)
      ∙ ap (λ us. p ∷ us) (clauses_terms rs given ps a.1 b.1)

  pub items_refs : (truth : ℕ) (rs : List ℕ) (items : List SignedTerm) → AllZip (IsItemOf n) rs items
      → map (λ (x : SignedTerm). reference_or n.refs.items truth x.term) items ≡ rs
  items_refs truth [] [] a = refl
  items_refs truth [] (x ∷ items) a = absurd a
  items_refs truth (r ∷ rs) [] a = absurd a
  items_refs truth (r ∷ rs) (x ∷ items) a =
      let there = h.found r x.term a.0.number in
      let is : reference_or n.refs.items truth x.term ≡ r = get_or_default n.refs.items x.term truth 0 there.0 ∙ there.1 in
      ap (λ q. q ∷ map (λ (x : SignedTerm). reference_or n.refs.items truth x.term) items) is ∙ ap (λ qs. r ∷ qs) (items_refs truth rs items a.1)

  -- each number has as many `not`s as its term
  pub nots_are : (k : ℕ) → k < length n.nots.items → leading_nots (numbered h.terms k) ≡ nots_of_number n.nots.items k
  nots_are zero below = bare_leading (numbered h.terms 0) (h.levels.bare 0 below h.levels.first) ∙ sym h.levels.first
  nots_are (suc k) below = elim (h.levels.next k (omega arith)) [
    | inl bare ↦
        let zero : nots_of_number n.nots.items (suc k) ≡ 0 = ap (nots_of_number n.nots.items) (omega arith) ∙ bare in
        bare_leading (numbered h.terms (suc k)) (h.levels.bare (suc k) below zero) ∙ sym zero
    | inr more ↦
        let next : k + 1 ≡ suc k = omega arith in
        let is = h.levels.negation k (omega arith) more in
        ap leading_nots (ap (numbered h.terms) (sym next) ∙ is)
        ∙ (ap suc (nots_are k (omega arith)) ∙ (omega arith ∙ (sym more ∙ ap (nots_of_number n.nots.items) next)))
  ]

  pub all_spelled : (roots : List Term) → AreAllSpelled s v roots n → All (IsNearTo roots) h.terms
  all_spelled roots spelled k d below =
      let within : k < length n.nots.items = let z = h.levels.size in omega arith in
      subst (IsNearTo roots) (get_or_default h.terms k truth_term d below)
      (spelled k (let z = sizes h in omega arith) (numbered h.terms k) (refers_at h k within))

  -- the constants have bare numbers
  pub constant_bare : (r k : ℕ) (t : Term) → number_in n r ≡ Some k → RefersTo s v r t → ((u : Term) → t ≢ not_of u) → nots_of_number n.nots.items k ≡ 0
  constant_bare r k t is refers none =
      bare_number n.nots.items h.terms h.levels k (let b = (h.found r k is).0 in let z = sizes h in omega arith)
      (λ u e. none u (sym (number_term r k t is refers) ∙ e))

-- numbers of towers, once the constants have theirs
room_of : (t : Towers) (n : Numbering) (r k : ℕ) → t.nots ≡ n.nots.items → number_in n r ≡ Some k → HasRoomyNumber n r → HasRoom t k
room_of t n r k same is roomy = record {
  one = subst (HasNegation t) (omega arith) (step 0 (omega arith));
  two = step 1 (omega arith);
  three = step 2
      (omega arith);
}
  where
    at : roomy.number ≡ k
    at = some_same roomy.number k (sym roomy.is ∙ is)

    nots_of : (i : ℕ) → nots_at t i ≡ nots_of_number n.nots.items i
    nots_of i = ap (λ ns. get_or ns i 0) same

    step : (j : ℕ) → j < 3 → HasNegation t (k + j)
    step j less =
        let here = roomy.room j (omega arith) in
        let there = roomy.room (j + 1) (omega arith) in
        let from : roomy.number + j ≡ k + j = ap (λ i. i + j) at in
        let to : roomy.number + (j + 1) ≡ k + j + 1 = omega arith in
        let long = ap length same in
        record {
          within = let b = there.0 in omega arith;
          more =
              nots_of (k + j + 1)
              ∙ (ap (nots_of_number n.nots.items) (sym to)
              ∙ (there.1 ∙ (omega arith ∙ ap (λ m. m + 1) (sym (nots_of (k + j) ∙ (ap (nots_of_number n.nots.items) (sym from) ∙ here.1))))));
        }

pub item_literal : (t : Towers) (n : Numbering) (r : ℕ) (x : SignedTerm) → t.nots ≡ n.nots.items → IsItemOf n r x → HasRoomyNumber n r → IsLiteral t x
item_literal t n r x same is roomy = record { unsigned = is.unsigned; room = room_of t n r x.term same is.number roomy }

pub items_literals : (t : Towers) (n : Numbering) (rs : List ℕ) (items : List SignedTerm) → t.nots ≡ n.nots.items → AllZip (IsItemOf n) rs items
    → ((r : ℕ) → Contains rs r → HasRoomyNumber n r) → All (IsLiteral t) items
items_literals t n [] [] same a all = All-nil (IsLiteral t)
items_literals t n [] (x ∷ items) same a all = absurd a
items_literals t n (r ∷ rs) [] same a all = absurd a
items_literals t n (r ∷ rs) (x ∷ items) same a all =
    All-cons (IsLiteral t) x items (item_literal t n r x same a.0 (all r (contains_head r rs)))
    (items_literals t n rs items same a.1 (λ q there. all q (contains_later r q rs there)))

pub clauses_literals : (t : Towers) (n : Numbering) (premises : List (Bor (List ℕ))) (given : List (Vec SignedTerm)) → t.nots ≡ n.nots.items
    → AllZip (AreItemsOf n) premises given → All (λ (p : Bor (List ℕ)). All (HasRoomyNumber n) p.now) premises
    → All (λ (c : Vec SignedTerm). All (IsLiteral t) c.items) given
clauses_literals t n [] [] same a all = All-nil (λ (c : Vec SignedTerm). All (IsLiteral t) c.items)
clauses_literals t n [] (x ∷ given) same a all = absurd a
clauses_literals t n (r ∷ rs) [] same a all = absurd a
clauses_literals t n (r ∷ rs) (x ∷ given) same a all =
    All-cons (λ (c : Vec SignedTerm). All (IsLiteral t) c.items) x given
    (items_literals t n r.now x.items same a.0
    (λ q there. All-contains (HasRoomyNumber n) r.now q (All-head (λ (p : Bor (List ℕ)). All (HasRoomyNumber n) p.now) r rs all) there))
    (clauses_literals t n rs given same a.1 (All-tail (λ (p : Bor (List ℕ)). All (HasRoomyNumber n) p.now) r rs all))

module _ (s : Table) (v : TermsView) (n : Numbering) (h : IsNumbering s v n) (one : AreOne s v) (t : Towers) (same : t.nots ≡ n.nots.items)
    (yes no : ℕ) (yes_is : RefersTo s v yes truth_term) (no_is : RefersTo s v no falsity_term)
    (yes_number : number_in n yes ≡ Some t.truth) (no_number : number_in n no ≡ Some t.falsity) where
  is_no_negation : (op : Op) (u : Term) → operation op no_terms ≢ not_of u
  is_no_negation op u e = cc

  by : (P : List ℕ → Type 0) → P n.nots.items → P t.nots
  by P p = subst P (sym same) p

  pub are_towers : HasRoomyNumber n yes → HasRoomyNumber n no → AreTowers t
  are_towers yes_roomy no_roomy = record {
    first = by (λ ns. get_or ns 0 0 ≡ 0) h.levels.first;
    next = by (λ ns. (k : ℕ) → k + 1 < length ns → (get_or ns (k + 1) 0 ≡ 0) ⊎ (get_or ns (k + 1) 0 ≡ get_or ns k 0 + 1)) h.levels.next;
    truth_bare = by (λ ns. get_or ns t.truth 0 ≡ 0) (constant_bare s v n h one yes t.truth truth_term yes_number yes_is (is_no_negation Op.True));
    truth_room = room_of t n yes t.truth same yes_number yes_roomy;
    falsity_bare = by (λ ns. get_or ns t.falsity 0 ≡ 0) (constant_bare s v n h one no t.falsity falsity_term no_number no_is (is_no_negation Op.False));
    falsity_room = room_of t n no t.falsity same no_number no_roomy;
  }

  pub are_numbered : AreNumbered t (numbered h.terms)
  are_numbered = record {
    one = by (λ ns. (j k : ℕ) → j < length ns → k < length ns → numbered h.terms j ≡ numbered h.terms k → j ≡ k) h.levels.one;
    bare = by (λ ns. (k : ℕ) → k < length ns → get_or ns k 0 ≡ 0 → (u : Term) → numbered h.terms k ≢ not_of u) h.levels.bare;
    negation = λ k next.
        by (λ ns. k + 1 < length ns → get_or ns (k + 1) 0 ≡ get_or ns k 0 + 1 → numbered h.terms (k + 1) ≡ not_of (numbered h.terms k))
        (h.levels.negation k) next.within next.more;
    truth = number_term s v n h one yes t.truth truth_term yes_number yes_is;
    falsity = number_term s v n h one no t.falsity falsity_term no_number no_is;
  }

pub roots_there : (s : Table) (v : TermsView) (premises : List (Bor (List ℕ))) (clause roots : List ℕ) (truth falsity one two : ℕ)
    → roots ≡ root_references premises clause truth falsity → Knows v.pass truth (leaf one) → IsLeaf s one (operator Op.True)
    → Knows v.pass falsity (leaf two) → IsLeaf s two (operator Op.False) → (ps : List (List Term)) (ts : List Term)
    → ReferToClauses s v premises ps → ReferToAll s v clause ts → ReferToAll s v roots (roots_of ps ts)
roots_there s v premises clause roots truth falsity one two is one_known one_leaf two_known two_leaf ps ts h k =
    subst (λ rs. ReferToAll s v rs (roots_of ps ts)) (sym is)
    (refer_roots s v premises ps clause ts truth falsity h k (constant_refers s v truth one Op.True one_known one_leaf)
    (constant_refers s v falsity two Op.False two_known two_leaf))

pub clauses_later : (s : Table) (v w : TermsView) → KeepsTerms v w → (premises : List (Bor (List ℕ))) (ps : List (List Term)) → ReferToClauses s v premises ps
    → ReferToClauses s w premises ps
clauses_later s v w keeps =
    zip_weaken (λ (p : Bor (List ℕ)) ts. ReferToAll s v p.now ts) (λ (p : Bor (List ℕ)) ts. ReferToAll s w p.now ts)
    (λ p ts h. all_refer_later s v w keeps p.now ts h)

module _ (n : Numbering) (premises : List (Bor (List ℕ))) (clause roots : List ℕ) (truth falsity : ℕ)
    (is : roots ≡ root_references premises clause truth falsity)
    (rooms : All (HasRoomyNumber n) roots) where
  each_root : (r : ℕ) → Contains (root_references premises clause truth falsity) r → HasRoomyNumber n r
  each_root r there = All-contains (HasRoomyNumber n) roots r rooms (subst (λ rs. Contains rs r) (sym is) there)

  pub clause_roomy : (r : ℕ) → Contains clause r → HasRoomyNumber n r
  clause_roomy = (all_of_clause (HasRoomyNumber n) premises clause truth falsity each_root).0

  pub truth_roomy : HasRoomyNumber n truth
  truth_roomy = (all_of_clause (HasRoomyNumber n) premises clause truth falsity each_root).1

  pub falsity_roomy : HasRoomyNumber n falsity
  falsity_roomy = (all_of_clause (HasRoomyNumber n) premises clause truth falsity each_root).2

  pub premises_roomy : All (λ (p : Bor (List ℕ)). All (HasRoomyNumber n) p.now) premises
  premises_roomy = all_of_premises (HasRoomyNumber n) premises clause truth falsity each_root

  pub clause_numbered : All (HasNumber n) clause
  clause_numbered i d below =
      has_number n (get_or clause i d) (clause_roomy (get_or clause i d) (i, below, get_or_default clause i (get_or clause i d) d below))

  pub premises_numbered : All (λ (p : Bor (List ℕ)). All (HasNumber n) p.now) premises
  premises_numbered i d below j e within = has_number n (get_or (get_or premises i d).now j e) (premises_roomy i d below j e within)
