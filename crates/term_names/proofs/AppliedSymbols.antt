-- Symbols applied to values.
use Rattle.std.proofs.Common.{◌≡◌, ℕ, ◌+◌, ◌<◌, inl, inr, List, [], ◌∷◌, length, length-drop, drop, map, Bool, true, false, IsTrue, if◌then◌else◌, Option, Some, None, option_map, Result, Ok, Err, All, refl, sym, ◌∙◌, ap, subst, arith}
use Rattle.std.specs.List.{list_all}
use Rattle.std.proofs.lemmas.List.Elements.{All-cons, All-nil}
use Rattle.std.proofs.lemmas.Option.{slice_get_within}
use Rattle.std.proofs.lemmas.Bool.{and_parts}
use Rattle.pair_pool.specs.Trees.{Tree}
use Rattle.pair_pool.specs.Views.{IsKnown}
use Rattle.sym_table.specs.Leaf as leaf
use Rattle.sym_table.specs.Table.{Table, LeafMeets}
use Rattle.term_model.specs.declared.symbols.Sort.{Sort}
use Rattle.term_model.specs.declared.symbols.Op.{Op}
use Rattle.term_model.specs.Sorts.{divides, divides_rightly, application_sort, operation_sort}
use Rattle.term_model.specs.Terms.{Term, Terms, operation, call}
use Rattle.sort_check.specs.Applications.{is_head, IsHead, applied_sort}
use Rattle.sort_check.proofs.Leaves.{at_leaf, meets}
use Rattle.term_pool.specs.Building.{IsAppliedLeaf, Builds, LacksRoom}
use Rattle.term_pool.specs.StandsFor.{function_leaf, StandsFor, StandForAll}
use Rattle.term_pool.specs.Trees.{app_tree}
use Rattle.term_pool.specs.Views.{TermsView, RefersTo, ReferToAll, KnowsAll}
use Rattle.term_names.specs.Heads.{IsSymbolOf}
use Rattle.term_model.specs.Heights.{height, highest}
use Rattle.term_model.proofs.Lists.{list_of-terms_of}
use Rattle.term_model.proofs.Sorting.{application_operation}
use Rattle.term_names.specs.Making.{Makes}
use Rattle.problem_text.specs.Names.{Meaning, value, trees, sorts_of, meaning_applied}
use Rattle.rule_model.specs.Replacement.{HasNoLet, HaveNoLet}
use Rattle.problem_text.specs.TypedTerms.{Typed}
use Rattle.term_names.specs.Stacks.{greatest_height}
use Rattle.term_expansion.specs.Values.{AreValues}
use Rattle.term_names.specs.declared.faults.ReadFault.{ReadFault}
use Rattle.term_expansion.specs.declared.values.Value.{Value}
use Rattle.term_names.proofs.MadeTerms.{made, full, unchanged}
use Rattle.term_names.proofs.ValueLists.{references}
use Rattle.term_expansion.specs.SymbolsAndTerms.{both}

module _ (s : Table) (v : TermsView) where
  -- the values stand for the terms, and the pass knows trees of them
  record AreTreesOf (cs : List Value) (ts : List Typed) : Type 0 where
    all : List Tree
    sorts : map (λ c. c.sort) cs ≡ sorts_of ts
    each : All (IsKnown v.pass) (references cs)
    known : KnowsAll v.pass (references cs) all
    stand : StandForAll s all (map (λ t. t.tree) ts)
    refer : ReferToAll s v (references cs) (map (λ t. t.tree) ts)
    high : highest (trees ts) ≡ greatest_height cs
    plain : list_all (λ c. c.plain) cs ≡ true → HaveNoLet (trees ts)

  values-trees : (cs : List Value) (ts : List Typed) → AreValues (both s v) cs ts → AreTreesOf cs ts
  unfolding height
  values-trees [] [] h = record { all = []; sorts = refl; each = All-nil (IsKnown v.pass); known = tt; stand = tt; refer = tt; high = refl; plain = λ e. tt }
  values-trees [] (t ∷ ts) h = absurd h
  values-trees (c ∷ cs) [] h = absurd h
  values-trees (c ∷ cs) (t ∷ ts) h =
      let is = h.0 in
      let rest = values-trees cs ts h.1 in
      record {
        all = is.refers.tree ∷ rest.all;
        sorts = let e = is.sort in let f = rest.sorts in cc;
        each = All-cons (IsKnown v.pass) c.term (references cs) (record { tree = is.refers.tree; stands = is.refers.known }) rest.each;
        known = (is.refers.known, rest.known);
        stand = (is.refers.stands, rest.stand);
        refer = (is.refers, rest.refer);
        high = let e = is.high in let f = rest.high in omega arith;
        plain = λ e. let parts = and_parts c.plain (list_all (λ c. c.plain) cs) e in (is.plain parts.0, rest.plain parts.1);
      }

  pub values-refer : (cs : List Value) (ts : List Typed) → AreValues (both s v) cs ts → ReferToAll s v (references cs) (map (λ t. t.tree) ts)
  values-refer cs ts h = (values-trees cs ts h).refer

  pub values-sorts : (cs : List Value) (ts : List Typed) → AreValues (both s v) cs ts → map (λ c. c.sort) cs ≡ sorts_of ts
  values-sorts cs ts h = (values-trees cs ts h).sorts

  pub values-known : (cs : List Value) (ts : List Typed) → AreValues (both s v) cs ts → All (IsKnown v.pass) (references cs)
  values-known cs ts h = (values-trees cs ts h).each

-- the term is that of the symbol applied to the others
pub record IsTermOf (s : Table) (k : ℕ) (ts : List Typed) (t : Term) : Type 0 where
  pub application : IsAppliedLeaf s k (map (λ u. u.tree) ts) t
  pub high : height t ≡ 1 + highest (trees ts)
  pub plain : HaveNoLet (trees ts) → HasNoLet t

pub record IsAppliedTo (s : Table) (k : ℕ) (m : Meaning) (ts : List Typed) (t : Typed) : Type 0 where
  pub expected : meaning_applied m ts ≡ Some t
  pub is : IsTermOf s k ts t.tree

symbol-applied : (s : Table) (k : ℕ) (m : Meaning) (ts : List Typed) (sort : Sort) → IsSymbolOf s k m → LeafMeets s k (λ l. Some sort ≡ applied_sort l (sorts_of ts))
    → ((t : Term) → IsAppliedLeaf s k (map (λ u. u.tree) ts) t → true ≡ divides_rightly t) → (t : Typed) × (t.sort ≡ sort) × IsAppliedTo s k m ts t
unfolding meaning_applied height
symbol-applied s k m ts sort (inl (f, here, e)) h rightly =
    let given = at_leaf s k (function_leaf f) (λ l. Some sort ≡ applied_sort l (sorts_of ts)) here h in
    rw e (
      record { tree = call f (trees ts); sort = sort },
      refl,
      record {
        expected = ap (λ o. option_map (λ z. record { tree = call f (trees ts); sort = z }) o) (sym given);
        is = record { application = (here, list_of-terms_of (map (λ u. u.tree) ts)); high = refl; plain = λ p. p };
      },
    )
symbol-applied s k m ts sort (inr (op, here, e)) h rightly =
    let given = at_leaf s k (leaf.operator op) (λ l. Some sort ≡ applied_sort l (sorts_of ts)) here h in
    rw e (
      record { tree = operation op (trees ts); sort = sort },
      refl,
      record {
        expected = ap (λ o. option_map (λ z. record { tree = operation op (trees ts); sort = z }) o)
            (application_operation op (trees ts) (sorts_of ts) sort
            (sym (rightly (operation op (trees ts)) (here, list_of-terms_of (map (λ u. u.tree) ts)))) (sym given));
        is = record { application = (here, list_of-terms_of (map (λ u. u.tree) ts)); high = refl; plain = λ p. p };
      },
    )

pub symbol-below : (s : Table) (k : ℕ) (m : Meaning) → IsSymbolOf s k m → k < length s.leaves
symbol-below s k m (inl (f, here, e)) = slice_get_within s.leaves k _ here
symbol-below s k m (inr (op, here, e)) = slice_get_within s.leaves k _ here

pub symbol-head : (s : Table) (k : ℕ) (m : Meaning) → IsSymbolOf s k m → IsHead s k
symbol-head s k m (inl (f, here, e)) = meets s k (function_leaf f) (λ l. IsTrue (is_head l)) here refl
symbol-head s k m (inr (op, here, e)) = meets s k (leaf.operator op) (λ l. IsTrue (is_head l)) here refl

-- an operator that sorts do not allow is not applied, whatever it divides by
no-operation : (op : Op) (ts : Terms) (ss : List Sort) → application_sort op ss ≡ None → operation_sort op ts ss ≡ None
no-operation op ts ss e = go (divides op ts)
  where
    go : (b : Bool) → (if b then application_sort op ss else None) ≡ None
    go true = e
    go false = refl

symbol-refused : (s : Table) (k : ℕ) (m : Meaning) (ts : List Typed) → IsSymbolOf s k m → LeafMeets s k (λ l. None ≡ applied_sort l (sorts_of ts)) → meaning_applied m ts ≡ None
unfolding meaning_applied
symbol-refused s k m ts (inl (f, here, e)) h =
    let given = at_leaf s k (function_leaf f) (λ l. None ≡ applied_sort l (sorts_of ts)) here h in
    rw e (ap (λ o. option_map (λ z. record { tree = call f (trees ts); sort = z }) o) (sym given))
symbol-refused s k m ts (inr (op, here, e)) h =
    let given = at_leaf s k (leaf.operator op) (λ l. None ≡ applied_sort l (sorts_of ts)) here h in
    rw e (ap (λ o. option_map (λ z. record { tree = operation op (trees ts); sort = z }) o) (no-operation op (trees ts) (sorts_of ts) (sym given)))

-- where it would divide by something else, neither is it applied
divided-wrongly : (s : Table) (k : ℕ) (m : Meaning) (ts : List Typed) → IsSymbolOf s k m
    → ((t : Term) → IsAppliedLeaf s k (map (λ u. u.tree) ts) t → false ≡ divides_rightly t) → meaning_applied m ts ≡ None
unfolding meaning_applied
divided-wrongly s k m ts (inl (f, here, e)) wrongly =
    absurd (let no = wrongly (call f (trees ts)) (here, list_of-terms_of (map (λ u. u.tree) ts)) in cc)
divided-wrongly s k m ts (inr (op, here, e)) wrongly =
    let no = wrongly (operation op (trees ts)) (here, list_of-terms_of (map (λ u. u.tree) ts)) in
    rw e (ap (λ b. option_map (λ z. record { tree = operation op (trees ts); sort = z }) (if b then application_sort op (sorts_of ts) else None)) (sym no))

module _ (s : Table) (old : TermsView) (k : ℕ) (cs : List Value) (m : Meaning) (ts : List Typed) (symbol : IsSymbolOf s k m) (values : AreValues (both s old) cs ts)
    (ss : List Sort) (given : ss ≡ map (λ c. c.sort) cs) (o : Option Sort) (meets : LeafMeets s k (λ l. o ≡ applied_sort l ss)) where
  meets-sorts : (w : Option Sort) → o ≡ w → LeafMeets s k (λ l. w ≡ applied_sort l (sorts_of ts))
  meets-sorts w e =
      subst (λ us. LeafMeets s k (λ l. w ≡ applied_sort l us)) (given ∙ values-sorts s old cs ts values)
      (subst (λ z. LeafMeets s k (λ l. z ≡ applied_sort l ss)) e meets)

  pub not-applied : o ≡ None → Makes old (both s old) (meaning_applied m ts) (Ok None)
  not-applied e = unchanged s old (meaning_applied m ts) (Ok None) (symbol-refused s k m ts symbol (meets-sorts None e))

  -- where a divisor is no constant other than zero
  pub not-divided : ((us : List Term) (t : Term) → ReferToAll s old (references cs) us → IsAppliedLeaf s k us t → false ≡ divides_rightly t)
      → Makes old (both s old) (meaning_applied m ts) (Ok None)
  not-divided wrongly =
      unchanged s old (meaning_applied m ts) (Ok None)
      (divided-wrongly s k m ts symbol (λ t app. wrongly (map (λ u. u.tree) ts) t (values-refer s old cs ts values) app))

  module _ (new : TermsView) (sort : Sort) (some : o ≡ Some sort)
      (rightly : (us : List Term) (t : Term) → ReferToAll s old (references cs) us → IsAppliedLeaf s k us t → true ≡ divides_rightly t)
      (law : (s : Table) (head : ℕ) (trees : List Tree) (ts : List Term) (t : Term) → StandForAll s trees ts → IsAppliedLeaf s head ts t → StandsFor s (app_tree head trees) t) where
    what : (t : Typed) × (t.sort ≡ sort) × IsAppliedTo s k m ts t
    what = symbol-applied s k m ts sort symbol (meets-sorts (Some sort) some)
        (λ t app. rightly (map (λ u. u.tree) ts) t (values-refer s old cs ts values) app)

    pub application-made : (r high : ℕ) (plain : Bool)
        → ((s : Table) (us : List Term) (t : Term) → ReferToAll s old (references cs) us → IsAppliedLeaf s k us t → RefersTo s new r t)
        → ((us : List Tree) → KnowsAll old.pass (references cs) us → Builds old.pass new.pass r (app_tree k us))
        → high ≡ 1 + greatest_height cs → plain ≡ list_all (λ c. c.plain) cs
        → Makes old (both s new) (meaning_applied m ts) (Ok (Some (record { term = r; sort = sort; height = high; plain = plain })))
    application-made r high plain term built e f =
        let (t, same, is) = what in
        let known = values-trees s old cs ts values in
        let highest_is = known.high in
        let whole = is.is.high in
        rw is.expected
        (made s old new t (app_tree k known.all) (record { term = r; sort = sort; height = high; plain = plain })
        (law s k known.all (map (λ u. u.tree) ts) t.tree known.stand is.is.application) (built known.all known.known).placed
        (record {
          refers = term s (map (λ u. u.tree) ts) t.tree known.refer is.is.application;
          sort = sym same;
          high = omega arith;
          plain = λ g. is.is.plain (known.plain (sym f ∙ g));
        }))

    pub application-full : (result : Result (Option Value) ReadFault)
        → ((us : List Tree) → KnowsAll old.pass (references cs) us → LacksRoom old.pass new.pass (app_tree k us))
        → result ≡ Err ReadFault.PoolFull
        → Makes old (both s new) (meaning_applied m ts) result
    application-full result lacks e =
        let (t, same, is) = what in
        let known = values-trees s old cs ts values in
        let no_room = lacks known.all known.known in
        rw is.expected
        (full s old new t (app_tree k known.all) result (law s k known.all (map (λ u. u.tree) ts) t.tree known.stand is.is.application)
        no_room.placed no_room.full e)

-- A term takes no arguments.
pub term-refused : (s : Table) (v : TermsView) (from : ℕ) (cs : List Value) (m : Meaning) (ts : List Typed) → from < length cs → AreValues (both s v) (drop from cs) ts → (t : Typed) × (m ≡ value t) → Makes v (both s v) (meaning_applied m ts) (Ok None)
unfolding meaning_applied
term-refused s v from cs m ts below h (t, e) = unchanged s v (meaning_applied m ts) (Ok None) (go (drop from cs) ts some h)
  where
    some : 0 < length (drop from cs)
    some = let count = length-drop {A = Value} from cs in omega arith

    go : (cs : List Value) (ts : List Typed) → 0 < length cs → AreValues (both s v) cs ts → meaning_applied m ts ≡ None
    go [] ts n h = absurd (omega arith)
    go (c ∷ cs) [] n h = absurd h
    go (c ∷ cs) (u ∷ ts) n h = ap (λ k. meaning_applied k (u ∷ ts)) e
