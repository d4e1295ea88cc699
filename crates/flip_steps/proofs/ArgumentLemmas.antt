-- Private. The arguments of terms that a pass knew: their references, how high they are, and how many turns their visits take.
use Rattle.std.proofs.Common.{◌≡◌, ◌<◌, ◌+◌, ◌⊎◌, inl, inr, ℕ, List, [], ◌∷◌, map, Option, Contains, refl, sym, ◌∙◌, ap, subst, arith}
use Rattle.std.proofs.lemmas.List.Sums.{sum_by-cons}
use Rattle.std.specs.List.{AllByRecursion, sum_by}
use Rattle.std.specs.Option.{option_map_or}
use Rattle.pair_pool.specs.Trees.{Tree, leaf, cell}
use Rattle.pair_pool.specs.Views.{IsOneToOne, HasPartsOfTrees, Knows}
use Rattle.sym_table.specs.Leaf.{Leaf, operator}
use Rattle.sym_table.specs.Table.{Table, IsTable}
use Rattle.term_model.specs.Heights.{height}
use Rattle.term_model.specs.Terms.{Term, numeral, variable, operation, call, let_in, Terms, no_terms, term, list_of, terms_of}
use Rattle.term_model.proofs.Lists.{contains_cases, contains_head, contains_later, contains_none, terms_of-list_of}
use Rattle.term_pool.specs.CellCounts.{Has}
use Rattle.term_pool.specs.Decoding.{HasTermsAt}
use Rattle.term_pool.specs.Reading.{arguments_of}
use Rattle.term_pool.specs.StandsFor.{StandsForApplication, StandsForList, function_leaf}
use Rattle.term_pool.specs.Views.{TermsView, KeepsTerms, RefersTo, ReferToAll}
use Rattle.term_pool.proofs.TermLemmas.{equal_where}
use Rattle.flip_steps.specs.declared.visits.Visit.{Visit}
use Rattle.flip_steps.specs.Walks.{visited, level_at, turns, turns_of, turns_at}
use Rattle.flip_steps.proofs.OrderLemmas.{refers_later}
use Rattle.flip_steps.proofs.SubtermLemmas.{argument_lower}

-- references of terms
pub record HaveReferences (s : Table) (v : TermsView) (ts : List Term) : Type 0 where
  pub references : List ℕ
  pub refer : ReferToAll s v references ts

module _ (s : Table) (v : TermsView) (parts : HasPartsOfTrees v.pass) where
  known_list : (ts : Terms) (list : Tree) (b : ℕ) → Knows v.pass b list → StandsForList s list ts → HaveReferences s v (list_of ts)
  known_list no_terms list b known stands = record { references = []; refer = tt }
  known_list (term t ts) (leaf k) b known stands = absurd stands
  known_list (term t ts) (cell first rest) b known (here, there) =
      let p = parts.parts b first rest known in
      let later = known_list ts rest p.1 p.4 there in
      record { references = p.0 ∷ later.references; refer = (record { tree = first; known = p.3; stands = here }, later.refer) }

  known_application : (l : Leaf) (ts : Terms) (tree : Tree) (r : ℕ) → Knows v.pass r tree → StandsForApplication s tree l ts → HaveReferences s v (list_of ts)
  known_application l no_terms tree r known stands = record { references = []; refer = tt }
  known_application l (term t ts) (leaf k) r known stands = absurd stands
  known_application l (term t ts) (cell head list) r known (here, there) =
      let p = parts.parts r head list known in known_list (term t ts) list p.1 p.4 there

  pub known_arguments : (t : Term) (r : ℕ) → RefersTo s v r t → HaveReferences s v (arguments_of t)
  known_arguments (numeral n) r h = record { references = []; refer = tt }
  known_arguments (variable x) r h = record { references = []; refer = tt }
  known_arguments (operation op ts) r h = known_application (operator op) ts h.tree r h.known h.stands
  known_arguments (call f ts) r h = known_application (function_leaf f) ts h.tree r h.known h.stands
  known_arguments (let_in bs u) r h = record { references = []; refer = tt }

-- the reference of one of them
pub record HasReference (s : Table) (v : TermsView) (rs : List ℕ) (a : Term) : Type 0 where
  pub reference : ℕ
  pub has : Has rs reference
  pub refers : RefersTo s v reference a

pub reference_in : (s : Table) (v : TermsView) (rs : List ℕ) (ts : List Term) (a : Term) → ReferToAll s v rs ts → Contains ts a → HasReference s v rs a
reference_in s v [] [] a h there = absurd (contains_none a there)
reference_in s v [] (t ∷ ts) a h there = absurd h
reference_in s v (r ∷ rs) [] a h there = absurd h
reference_in s v (r ∷ rs) (t ∷ ts) a h there = go (λ later. reference_in s v rs ts a h.1 later) (contains_cases t a ts there)
  where
    go : (Contains ts a → HasReference s v rs a) → (t ≡ a) ⊎ Contains ts a → HasReference s v (r ∷ rs) a
    go rest (inl e) = record { reference = r; has = inl refl; refers = subst (RefersTo s v r) e h.0 }
    go rest (inr later) = let k = rest later in record { reference = k.reference; has = inr k.has; refers = k.refers }

-- what a pass knows of arguments now it knew before
module _ (s : Table) (v w : TermsView) (parts : HasPartsOfTrees v.pass) (table : IsTable s) (one : IsOneToOne w.pass) (keeps : KeepsTerms v w) where
  same_references : (rs qs : List ℕ) (ts : List Term) → ReferToAll s v rs ts → ReferToAll s w qs ts → rs ≡ qs
  same_references [] [] [] h k = refl
  same_references [] [] (t ∷ ts) h k = absurd h
  same_references [] (q ∷ qs) [] h k = absurd k
  same_references [] (q ∷ qs) (t ∷ ts) h k = absurd h
  same_references (r ∷ rs) qs [] h k = absurd h
  same_references (r ∷ rs) [] (t ∷ ts) h k = absurd k
  same_references (r ∷ rs) (q ∷ qs) (t ∷ ts) h k =
      ap (λ x. x ∷ rs) ((equal_where s w table one r q t t (refers_later s v w r t keeps h.0) k.0).1 refl)
      ∙ ap (λ xs. q ∷ xs) (same_references rs qs ts h.1 k.1)

  pub arguments_before : (t : Term) (r : ℕ) (args : List ℕ) → RefersTo s v r t → ReferToAll s w args (arguments_of t) → ReferToAll s v args (arguments_of t)
  arguments_before t r args refers h =
      let k = known_arguments s v parts t r refers in
      subst (λ xs. ReferToAll s v xs (arguments_of t)) (same_references k.references args (arguments_of t) k.refer h) k.refer

  pub argument_before : (t a : Term) (r q : ℕ) → RefersTo s v r t → Contains (arguments_of t) a → RefersTo s w q a → RefersTo s v q a
  argument_before t a r q refers there h =
      let k = known_arguments s v parts t r refers in
      let found = reference_in s v k.references (arguments_of t) a k.refer there in
      subst (λ x. RefersTo s v x a)
      ((equal_where s w table one found.reference q a a (refers_later s v w found.reference a keeps found.refers) h).1 refl) found.refers

-- how high they are, and how many turns they take
turns_are : (t : Term) → turns t ≡ 2 + turns_of (terms_of (arguments_of t))
turns_are (numeral n) = refl
turns_are (variable x) = refl
turns_are (operation op ts) = ap (λ us. 2 + turns_of us) (sym (terms_of-list_of ts))
turns_are (call f ts) = ap (λ us. 2 + turns_of us) (sym (terms_of-list_of ts))
turns_are (let_in bs t) = refl

module _ (s : Table) (v : TermsView) (table : IsTable s) (terms : HasTermsAt v) where
  pub level_is : (r : ℕ) (t : Term) → RefersTo s v r t → level_at s v r ≡ height t
  level_is r t h = ap (λ (o : Option Term). option_map_or height o 0) (terms s r t table h)

  turns_known : (r : ℕ) (t : Term) → RefersTo s v r t → turns_at s v (Visit.Open r) ≡ turns t
  turns_known r t h = ap (λ (o : Option Term). option_map_or turns o 1) (terms s r t table h)

  pub turns_is : (r : ℕ) (t : Term) → RefersTo s v r t → turns_at s v (Visit.Open r) ≡ 2 + turns_of (terms_of (arguments_of t))
  turns_is r t h = turns_known r t h ∙ turns_are t

  pub turns_opened : (rs : List ℕ) (ts : List Term) → ReferToAll s v rs ts → sum_by (turns_at s v) (map (λ q. Visit.Open q) rs) ≡ turns_of (terms_of ts)
  turns_opened [] [] h = refl
  turns_opened [] (t ∷ ts) h = absurd h
  turns_opened (r ∷ rs) [] h = absurd h
  turns_opened (r ∷ rs) (t ∷ ts) h =
      let first = turns_known r t h.0 in
      let rest = turns_opened rs ts h.1 in
      let whole = sum_by-cons (turns_at s v) (Visit.Open r) (map (λ q. Visit.Open q) rs) in
      omega (arith, first, rest, whole)

  -- an argument is lower
  pub opened_lower : (r : ℕ) (t : Term) → RefersTo s v r t → (rs : List ℕ) (ts : List Term) → ReferToAll s v rs ts
      → ((a : Term) → Contains ts a → Contains (arguments_of t) a)
      → AllByRecursion (λ x. level_at s v (visited x) < level_at s v r) (map (λ q. Visit.Open q) rs)
  opened_lower r t refers [] ts h k = tt
  opened_lower r t refers (q ∷ rs) [] h k = absurd h
  opened_lower r t refers (q ∷ rs) (a ∷ ts) h k =
      let high = level_is r t refers in
      let low = level_is q a h.0 in
      let less = argument_lower t a (k a (contains_head a ts)) in
      (omega (arith, high, low, less), opened_lower r t refers rs ts h.1 (λ b there. k b (contains_later a b ts there)))
