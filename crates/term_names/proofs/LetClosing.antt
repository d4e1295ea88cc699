-- The let of variables and values, by its parts.
use Rattle.std.proofs.Common.{◌≡◌, ℕ, ◌+◌, ◌<◌, ◌≤◌, ◌^◌, max, List, [], ◌∷◌, length, Bool, false, if◌then◌else◌, Option, Some, Result, Ok, Err, All, refl, ◌∙◌, ap, arith}
use Rattle.std.specs.List.{AllZip}
use Rattle.std.proofs.lemmas.List.Elements.{All-cons, All-nil}
use Rattle.std.proofs.lemmas.Option.{slice_get_within}
use Rattle.pair_pool.specs.Trees.{Tree}
use Rattle.pair_pool.specs.Views.{IsKnown, Knows}
use Rattle.sym_table.specs.Table.{Table, IsLeaf}
use Rattle.term_model.specs.Terms.{Term, Bindings, let_in}
use Rattle.term_pool.specs.Building.{AreBindings, Builds, LacksRoom}
use Rattle.term_pool.specs.StandsFor.{StandsFor, StandForValues, variable_leaf}
use Rattle.term_pool.specs.Trees.{let_term_tree}
use Rattle.term_pool.specs.Views.{TermsView, RefersTo, KnowsAll}
use Rattle.term_model.specs.Heights.{height, highest_bound}
use Rattle.term_names.specs.InScope.{AreValuesBound}
use Rattle.term_names.specs.Making.{Makes}
use Rattle.problem_text.specs.Names.{Bound, Place, let_bindings_of, let_term}
use Rattle.problem_text.specs.TypedTerms.{Typed}
use Rattle.term_names.specs.Stacks.{greatest_height}
use Rattle.term_expansion.specs.Values.{IsValue}
use Rattle.term_names.specs.declared.faults.ReadFault.{ReadFault}
use Rattle.term_expansion.specs.declared.values.Value.{Value}
use Rattle.term_names.proofs.MadeTerms.{made, full}
use Rattle.term_names.proofs.ValueLists.{references}
use Rattle.term_expansion.specs.SymbolsAndTerms.{both}

few-leaves : (s : Table) (ks : List ℕ) (bs : List Bound) → length s.leaves ≤ 2 ^ 30 → AllZip (λ k b. IsLeaf s k (variable_leaf b.variable)) ks bs → All (λ k. k < 2 ^ 30) ks
few-leaves s [] bs few h = All-nil (λ k. k < 2 ^ 30)
few-leaves s (k ∷ ks) [] few h = absurd h
few-leaves s (k ∷ ks) (b ∷ bs) few h =
    let below = slice_get_within s.leaves k _ h.0 in
    All-cons (λ k. k < 2 ^ 30) k ks (omega arith) (few-leaves s ks bs few h.1)

module _ (s : Table) (v : TermsView) where
  pub leaves-few : (ks : List ℕ) (cs : List Value) (bs : List Bound) → length s.leaves ≤ 2 ^ 30 → AreValuesBound (both s v) ks cs bs → All (λ k. k < 2 ^ 30) ks
  leaves-few ks cs bs few h = few-leaves s ks bs few h.leaves

  -- The values are those of bindings, and the pass knows trees of them.
  record AreTreesOf (ks : List ℕ) (cs : List Value) (bs : List Bound) : Type 0 where
    trees : List Tree
    each : All (IsKnown v.pass) (references cs)
    known : KnowsAll v.pass (references cs) trees
    stand : StandForValues s ks trees (let_bindings_of bs)
    refer : AreBindings s v ks (references cs) (let_bindings_of bs)
    high : highest_bound (let_bindings_of bs) ≡ greatest_height cs

  bound-trees : (ks : List ℕ) (cs : List Value) (bs : List Bound) → AreValuesBound (both s v) ks cs bs → AreTreesOf ks cs bs
  unfolding height
  bound-trees [] [] [] h = record { trees = []; each = All-nil (IsKnown v.pass); known = tt; stand = tt; refer = tt; high = refl }
  bound-trees [] cs (b ∷ bs) h = absurd h.leaves
  bound-trees (k ∷ ks) cs [] h = absurd h.leaves
  bound-trees [] (c ∷ cs) [] h = absurd h.values
  bound-trees (k ∷ ks) [] (b ∷ bs) h = absurd h.values
  bound-trees (k ∷ ks) (c ∷ cs) (b ∷ bs) h =
      let is = h.values.0 in
      let rest = bound-trees ks cs bs (record { leaves = h.leaves.1; values = h.values.1 }) in
      record {
        trees = is.refers.tree ∷ rest.trees;
        each = All-cons (IsKnown v.pass) c.term (references cs) (record { tree = is.refers.tree; stands = is.refers.known }) rest.each;
        known = (is.refers.known, rest.known);
        stand = (h.leaves.0, is.refers.stands, rest.stand);
        refer = (h.leaves.0, is.refers, rest.refer);
        high = let high = is.high in let below = rest.high in omega arith;
      }

  pub bound-known : (ks : List ℕ) (cs : List Value) (bs : List Bound) → AreValuesBound (both s v) ks cs bs → All (IsKnown v.pass) (references cs)
  bound-known ks cs bs h = (bound-trees ks cs bs h).each

let-height : (bs : Bindings) (t : Term) → height (let_in bs t) ≡ 1 + max (highest_bound bs) (height t)
unfolding height
let-height bs t = refl

let-kept : (p : Place) (bs : List Bound) (t : Typed) (replaces : Bool) → p.settings.replaces_lets ≡ replaces → replaces ≡ false → let_term p bs t ≡ record { tree = let_in (let_bindings_of bs) t.tree; sort = t.sort }
let-kept p bs t replaces e f = ap (λ b. if b then t else record { tree = let_in (let_bindings_of bs) t.tree; sort = t.sort }) (e ∙ f)

module _ (s : Table) (old new : TermsView) (ks : List ℕ) (cs : List Value) (bs : List Bound) (p : Place) (t : Typed) (body : Value) (replaces : Bool)
    (law : (s : Table) (vars : List ℕ) (trees : List Tree) (body : Tree) (bs : Bindings) (u : Term) → StandForValues s vars trees bs → StandsFor s body u → StandsFor s (let_term_tree vars trees body) (let_in bs u))
    (bound : AreValuesBound (both s old) ks cs bs) (is : IsValue (both s old) body t) (same : p.settings.replaces_lets ≡ replaces) (kept : replaces ≡ false) where
  stands : (h : AreTreesOf s old ks cs bs) → StandsFor s (let_term_tree ks h.trees is.refers.tree) (let_in (let_bindings_of bs) t.tree)
  stands h = law s ks h.trees is.refers.tree (let_bindings_of bs) t.tree h.stand is.refers.stands

  pub let-made : (r high : ℕ)
      → ((s : Table) (bs : Bindings) (u : Term) → AreBindings s old ks (references cs) bs → RefersTo s old body.term u → RefersTo s new r (let_in bs u))
      → ((ts : List Tree) (u : Tree) → KnowsAll old.pass (references cs) ts → Knows old.pass body.term u → Builds old.pass new.pass r (let_term_tree ks ts u))
      → high ≡ 1 + max (greatest_height cs) body.height
      → Makes old (both s new) (Some (let_term p bs t)) (Ok (Some (record { term = r; sort = body.sort; height = high; plain = false })))
  let-made r high term built e =
      let trees = bound-trees s old ks cs bs bound in
      let highest = trees.high in
      let whole = let-height (let_bindings_of bs) t.tree in
      let below = is.high in
      rw (let-kept p bs t replaces same kept)
      (made s old new (record { tree = let_in (let_bindings_of bs) t.tree; sort = t.sort }) (let_term_tree ks trees.trees is.refers.tree)
      (record { term = r; sort = body.sort; height = high; plain = false }) (stands trees)
      (built trees.trees is.refers.tree trees.known is.refers.known).placed
      (record {
        refers = term s (let_bindings_of bs) t.tree trees.refer is.refers;
        sort = is.sort;
        high = omega arith;
        plain = λ e. absurd cc;
      }))

  pub let-full : (result : Result (Option Value) ReadFault)
      → ((ts : List Tree) (u : Tree) → KnowsAll old.pass (references cs) ts → Knows old.pass body.term u → LacksRoom old.pass new.pass (let_term_tree ks ts u))
      → result ≡ Err ReadFault.PoolFull
      → Makes old (both s new) (Some (let_term p bs t)) result
  let-full result lacks e =
      let trees = bound-trees s old ks cs bs bound in
      let no_room = lacks trees.trees is.refers.tree trees.known is.refers.known in
      rw (let-kept p bs t replaces same kept)
      (full s old new (record { tree = let_in (let_bindings_of bs) t.tree; sort = t.sort }) (let_term_tree ks trees.trees is.refers.tree) result (stands trees)
      no_room.placed no_room.full e)
