-- Private. A let binds no more variables than its command has cells, so the steps in the place of a step by let are few.
use Rattle.std.proofs.Common.{◌≡◌, ◌≤◌, ◌+◌, ◌*◌, ◌⊎◌, inl, inr, ℕ, zero, suc, List, [], ◌∷◌, ◌++◌, length, flat_map, slice_get, Some, Contains}
use Rattle.std.proofs.Common.{refl, sym, ◌∙◌, ap, subst, arith}
use Rattle.std.proofs.lemmas.List.{length-append}
use Rattle.std.proofs.lemmas.List.Elements.{Contains-append_left}
use Rattle.pair_pool.specs.Trees.{Tree, leaf, cell}
use Rattle.pair_pool.specs.Views.{HasPartsOfTrees, IsOneToOne, Knows, PassView}
use Rattle.sym_table.specs.Table.{Table, IsTable}
use Rattle.term_model.proofs.Lists.{contains_cases, contains_head, contains_none}
use Rattle.term_model.specs.Flips.{equality}
use Rattle.term_model.specs.FreeVariables.{bound_terms}
use Rattle.term_model.specs.Terms.{Term, Bindings, no_bindings, binding, let_in}
use Rattle.term_pool.specs.CellCounts.{Has, AreApart, CountsCells, IsPartOfAny}
use Rattle.term_pool.specs.StandsFor.{StandsFor, StandsForBindings}
use Rattle.term_pool.specs.Trees.{IsCellTree, IsPartOf}
use Rattle.term_pool.specs.Views.{TermsView, KeepsTerms, KnowsAll, ReferToAll}
use Rattle.term_pool.proofs.Keeping.{part-refl, part-trans}
use Rattle.proof_store.specs.AddedSteps.{AddedStep}
use Rattle.proof_store.specs.declared.added.Link.{Link}
use Rattle.rule_model.specs.declared.rules.Rule.{Rule}
use Rattle.rule_model.specs.Reading.{clause_at, premises_at}
use Rattle.elaboration_laws.proofs.Reading.{clause_stands}
use Rattle.equality_steps.specs.declared.site.Site.{Site}
use Rattle.flip_steps.specs.declared.forms.Forms.{Forms}
use Rattle.flip_steps.specs.Memory.{IsCellWithinAny, IsRemembered, count_of}
use Rattle.equality_blocks.specs.Blocks.{IsClosingBlockFor}
use Rattle.equality_blocks.specs.Commands.{IsToElaborate, clause_of_command, literals_of_command, rule_of_command}
use Rattle.equality_blocks.specs.Counts.{IsCellOf, IsFew, IsRootOf, literal, asserted, side}
use Rattle.equality_blocks.specs.Made.{AreMadeSteps, IsMadeStep, StandsForMade, stated}
use Rattle.equality_blocks.specs.Made as made
use Rattle.equality_blocks.proofs.FewLemmas.{apart_few, few_of}
use Rattle.equality_blocks.proofs.LowLemmas.{StandForOne}
use Rattle.elab_equality.specs.Closing.{AreBound}
use Rattle.elab_equality.specs.declared.work.Work.{Work}
use Rattle.elab_equality.specs.Linked.{AreLinkedBy}
use Rattle.elab_equality.specs.Work.{IsMove, IsWork}
use Rattle.elab_equality.proofs.LiteralTerms.{literal_term}
use Rattle.elab_equality.proofs.ClosingLemmas.{bound_later, closing_step}

-- the cells of a list of bindings: one for each
abbrev size_of : Tree → ℕ
size_of (leaf k) = 1
size_of (cell a b) = 1 + (size_of a + size_of b)

abbrev spine : Bindings → Tree → List Tree
spine no_bindings list = []
spine (binding x t bs) (leaf k) = []
spine (binding x t bs) (cell a b) = cell a b ∷ spine bs b

module _ (s : Table) where
  spine_long : (bs : Bindings) (list : Tree) → StandsForBindings s list bs → length (spine bs list) ≡ length (bound_terms bs)
  spine_long no_bindings list h = refl
  spine_long (binding x t bs) (leaf k) h = absurd h
  spine_long (binding x t bs) (cell a b) h = let rest = spine_long bs b h.1 in omega (arith, rest)

  spine_small : (bs : Bindings) (list x : Tree) → Has (spine bs list) x → size_of x ≤ size_of list
  spine_small no_bindings list x h = absurd h
  spine_small (binding y t bs) (leaf k) x h = absurd h
  spine_small (binding y t bs) (cell a b) x (inl e) = let same = ap size_of e in omega (arith, same)
  spine_small (binding y t bs) (cell a b) x (inr h) = let rest = spine_small bs b x h in omega (arith, rest)

  spine_apart : (bs : Bindings) (list : Tree) → AreApart (spine bs list)
  spine_apart no_bindings list = tt
  spine_apart (binding x t bs) (leaf k) = tt
  spine_apart (binding x t bs) (cell a b) = (λ h. let small = spine_small bs b (cell a b) h in absurd (omega (arith, small)), spine_apart bs b)

  spine_part : (bs : Bindings) (list x : Tree) → Has (spine bs list) x → IsCellTree x × IsPartOf x list
  spine_part no_bindings list x h = absurd h
  spine_part (binding y t bs) (leaf k) x h = absurd h
  spine_part (binding y t bs) (cell a b) x (inl e) = (subst IsCellTree (sym e) tt, inl e)
  spine_part (binding y t bs) (cell a b) x (inr h) = let k = spine_part bs b x h in (k.0, inr (inr k.1))

  few_bindings : (bs : Bindings) (list : Tree) (trees : List Tree) (n : ℕ) → StandsForBindings s list bs → CountsCells trees n
      → ((x : Tree) → IsPartOf x list → IsPartOfAny x trees) → length (bound_terms bs) ≤ n
  few_bindings bs list trees n stands counts inside =
      let few = apart_few (spine bs list) counts.cells (spine_apart bs list) (λ x h. let k = spine_part bs list x h in counts.complete x k.0 (inside x k.1)) in
      let long = spine_long bs list stands in
      let count = counts.count in
      omega (arith, few, long, count)

  -- the list of what a let binds is a part of the tree of an equality of which it is a side
  record HasList (tree : Tree) (bs : Bindings) : Type 0 where
    list : Tree
    stands : StandsForBindings s list bs
    is : IsPartOf list tree

  let_list : (bs : Bindings) (u : Term) (tree : Tree) → StandsFor s tree (let_in bs u) → HasList tree bs
  let_list bs u (leaf k) h = absurd h
  let_list bs u (cell a (leaf k)) h = absurd h.1
  let_list bs u (cell a (cell list body)) h = record { list = list; stands = h.1.0; is = inr (inr (inr (inl (part-refl list)))) }

  side_list : (bs : Bindings) (u w : Term) (tree : Tree) → StandsFor s tree (equality (let_in bs u) w) → HasList tree bs
  side_list bs u w (leaf k) h = absurd h
  side_list bs u w (cell a (leaf k)) h = absurd h.1
  side_list bs u w (cell a (cell first rest)) h =
      let found = let_list bs u first h.1.0 in
      record { list = found.list; stands = found.stands; is = inr (inr (inr (inl found.is))) }

-- the trees of known references
record HasTree (pass : PassView) (trees : List Tree) (r : ℕ) : Type 0 where
  tree : Tree
  known : Knows pass r tree
  part : (t : Tree) → IsPartOf t tree → IsPartOfAny t trees

root_tree : (pass : PassView) (roots : List ℕ) (trees : List Tree) (r : ℕ) → KnowsAll pass roots trees → Contains roots r → HasTree pass trees r
root_tree pass [] trees r h there = absurd (contains_none r there)
root_tree pass (x ∷ roots) [] r h there = absurd h
root_tree pass (x ∷ roots) (tree ∷ trees) r h there = go (λ k. root_tree pass roots trees r h.1 k) (contains_cases x r roots there)
  where
    go : (Contains roots r → HasTree pass trees r) → (x ≡ r) ⊎ Contains roots r → HasTree pass (tree ∷ trees) r
    go behind (inl e) = record { tree = tree; known = subst (λ z. Knows pass z tree) e h.0; part = λ t k. inl k }
    go behind (inr k) = let found = behind k in record { tree = found.tree; known = found.known; part = λ t z. inr (found.part t z) }

-- what the law on remembered forms says of cells
abbrev pub AreOfCells : Forms → Type 0
AreOfCells forms =
    (s : Table) (v : TermsView) (roots : List ℕ) (trees : List Tree) (n : ℕ) → IsTable s → IsOneToOne v.pass → HasPartsOfTrees v.pass →
    ((r : ℕ) → IsRemembered forms r → IsCellWithinAny s v roots r) → KnowsAll v.pass roots trees → CountsCells trees n → count_of forms ≤ n

module _ (p : Site) (v : TermsView) (h : IsToElaborate p v) (is : rule_of_command p ≡ Rule.Let) where
  root_literal : (r : ℕ) → IsRootOf p v r → Contains (literals_of_command p) r
  root_literal r (literal has) = has
  root_literal r (asserted t first) = absurd (let e : Rule.Let ≡ Rule.Assume = sym is ∙ first.rule in cc)
  root_literal r (side t u put refers) = absurd (let e : Rule.Let ≡ Rule.Refl = sym is ∙ put.rule in cc)

  narrow : (values images : List ℕ) (x : AreBound p v values images) (trees : List Tree) (m : ℕ) → KnowsAll v.pass (literals_of_command p) trees → CountsCells trees m
      → length values ≤ m
  narrow values images x trees m known counts =
      go (clause_of_command p) refl
      (subst (ReferToAll p.symbols.now v (clause_of_command p)) x.closing.clause (clause_stands p.symbols.now v p.proof.now x.proof x.stand p.command))
    where
      long : (rs : List ℕ) (ts : List Term) → ReferToAll p.symbols.now v rs ts → length rs ≡ length ts
      long [] [] k = refl
      long [] (t ∷ ts) k = absurd k
      long (r ∷ rs) [] k = absurd k
      long (r ∷ rs) (t ∷ ts) k = let rest = long rs ts k.1 in omega (arith, rest)

      go : (rs : List ℕ) → clause_of_command p ≡ rs → ReferToAll p.symbols.now v rs (equality (let_in x.closing.bindings x.closing.body) x.closing.result ∷ [])
          → length values ≤ m
      go [] e k = absurd k
      go (r ∷ (q ∷ rs)) e k = absurd k.1
      go (r ∷ []) e k =
          let has =
          Contains-append_left (clause_of_command p) (flat_map (clause_at p.proof.now) (premises_at p.proof.now p.command)) r
          (subst (λ ks. Contains ks r) (sym e) (contains_head r [])) in
          let here = root_tree v.pass (literals_of_command p) trees r known has in
          let same : k.0.tree ≡ here.tree = h.known.one_tree r k.0.tree here.tree k.0.known here.known in
          let found =
          side_list p.symbols.now x.closing.bindings x.closing.body x.closing.result here.tree
          (subst (λ t. StandsFor p.symbols.now t (equality (let_in x.closing.bindings x.closing.body) x.closing.result)) same k.0.stands) in
          let few =
          few_bindings p.symbols.now x.closing.bindings found.list trees m found.stands counts
          (λ y part. here.part y (part-trans y found.list here.tree part found.is)) in
          let size = long values (bound_terms x.closing.bindings) x.values_refer in
          omega (arith, few, size)

  pub few_closing : HasPartsOfTrees v.pass → (w : Work) → AreOfCells w.forms → ((r : ℕ) → IsRemembered w.forms r → IsCellOf p v r) → (values images : List ℕ)
      (x : AreBound p v values images) (n : ℕ) → n ≤ 3 * count_of w.forms + 2 * length values + 1 → IsFew p v n
  few_closing parts w of_cells met values images x n bound =
      few_of p v (literals_of_command p) (count_of w.forms) (length values) n
      (record {
        are = λ r has. literal has;
        terms = literal_term p v h;
        few = λ trees m known counts. of_cells p.symbols.now v (literals_of_command p) trees m h.table h.known parts within known counts;
        narrow = λ trees m known counts. narrow values images x trees m known counts;
        bound = omega (arith, bound);
      })
    where
      within : (r : ℕ) → IsRemembered w.forms r → IsCellWithinAny p.symbols.now v (literals_of_command p) r
      within r k = let c = met r k in record { root = c.root; among = root_literal c.root c.is; within = c.within }

  -- the closing step behind the others
  get_cases : {X : Type 0} (xs : List X) (x y : X) (k : ℕ) → slice_get (xs ++ x ∷ []) k ≡ Some y → (slice_get xs k ≡ Some y) ⊎ (x ≡ y)
  get_cases [] x y zero e = inr (cc)
  get_cases [] x y (suc k) e = cc
  get_cases (z ∷ xs) x y zero e = inl e
  get_cases (z ∷ xs) x y (suc k) e = get_cases xs x y k e

  own_made : (r : ℕ) → Contains (clause_of_command p) r → StandsForMade p v r
  own_made r has =
      let there = Contains-append_left (clause_of_command p) (flat_map (clause_at p.proof.now) (premises_at p.proof.now p.command)) r has in
      let t = literal_term p v h r there in
      record { term = t.means; refers = t.refers; made = stated t.means (made.literal t.means (record { reference = r; among = there; refers = t.refers })) }

  made_with : (steps : List AddedStep) (a : AddedStep) → a.clause ≡ clause_of_command p → a.pivots ≡ [] → AreMadeSteps p v steps → AreMadeSteps p v (steps ++ a ∷ [])
  made_with steps a clause pivots made_steps number b e = go (get_cases steps a b number e)
    where
      last : IsMadeStep p v a
      last = record {
        literals = λ r has. own_made r (subst (λ rs. Contains rs r) clause has);
        pivots = λ q has. absurd (contains_none q (subst (λ qs. Contains qs q) pivots has));
      }

      go : (slice_get steps number ≡ Some b) ⊎ (a ≡ b) → IsMadeStep p v b
      go (inl there) = made_steps number b there
      go (inr same) = subst (IsMadeStep p v) same last

  pub closing_block : StandForOne → HasPartsOfTrees v.pass → (w : Work) → AreOfCells w.forms → IsWork p v w → (values images : List ℕ)
      (x : AreBound p v values images) (links : List Link) → AreLinkedBy p v w.block values images links
      → length w.block ≤ 3 * count_of w.forms + 2 * length values
      → IsClosingBlockFor p v (w.block ++ record { rule = Rule.Let; clause = clause_of_command p; premises = links; pivots = [] } ∷ [])
  closing_block one_of parts w of_cells work values images x links linked few =
      let a : AddedStep = record { rule = Rule.Let; clause = clause_of_command p; premises = links; pivots = [] } in
      record {
        command = h;
        before = w.block;
        last = a;
        is = refl;
        steps = work.block;
        closing = closing_step p v h one_of values images x w.block links linked;
        made = made_with w.block a refl refl work.made;
        few =
            let size = length-append w.block (a ∷ []) in
            few_closing parts w of_cells work.met values images x (length (w.block ++ a ∷ [])) (omega (arith, size, few));
      }

-- steps that began with none
module _ (p : Site) (u v : TermsView) (job : IsToElaborate p v) (is : rule_of_command p ≡ Rule.Let) (keeps : KeepsTerms u v) (values images : List ℕ)
    (x : AreBound p u values images) (a b : Work) (block : a.block ≡ []) (count : count_of a.forms ≡ 0) where
  pub closing_made : StandForOne → HasPartsOfTrees v.pass → AreOfCells b.forms → IsMove p v a b (2 * length values) → (links : List Link)
      → AreLinkedBy p v b.block values images links → (steps all : List AddedStep) (last : AddedStep) → steps ≡ b.block
      → last ≡ record { rule = Rule.Let; clause = clause_of_command p; premises = links; pivots = [] } → all ≡ steps ++ last ∷ [] → IsClosingBlockFor p v all
  closing_made one_of parts of_cells moved links linked steps all last first second whole =
      subst (IsClosingBlockFor p v) (sym (whole ∙ (ap (λ xs. xs ++ last ∷ []) first ∙ ap (λ y. b.block ++ y ∷ []) second)))
      (closing_block p v job is one_of parts b of_cells moved.work values images (bound_later p u v keeps values images x) links linked
      (let few = moved.few in
      let none = ap length block in
      omega (arith, few, none, count)))
