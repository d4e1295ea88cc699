-- The parameters of a defined function get their leaves and stand in scope, each for itself.
use Rattle.std.proofs.Common.{◌≡◌, ℕ, ◌<◌, ◌+◌, List, [], ◌∷◌, ◌++◌, map, take, length, get_or, refl, ◌∙◌, ap, subst, false}
use Rattle.std.specs.List.{AllZip}
use Rattle.std.proofs.lemmas.List.{map-append, take_more}
use Rattle.indexmap.proofs.SetLemmas.{AllZip-push}
use Rattle.pair_pool.specs.Trees.{leaf}
use Rattle.pair_pool.specs.Views.{PassView, Knows}
use Rattle.sym_table.specs.Leaf as symbol
use Rattle.sym_table.specs.Table.{Table, IsLeaf, Keeps}
use Rattle.term_model.specs.declared.symbols.Sort.{Sort}
use Rattle.term_model.specs.Terms.{Var}
use Rattle.term_pool.specs.StandsFor.{variable_leaf}
use Rattle.term_pool.specs.Views.{TermsView}
use Rattle.term_pool.proofs.Keeping.{terms-refl}
use Rattle.smtlib_reader.specs.Defining.{AddsParameter, AreListed, IsReadyForBody}
use Rattle.term_model.specs.Heights.{height}
use Rattle.term_names.specs.InScope.{IsScope, AreValuesBound}
use Rattle.problem_text.specs.Names.{Bound, Place, itself, place_inside}
use Rattle.smtlib_reader.specs.Parameters.{parameter_said, parameters_said}
use Rattle.term_reader.specs.Reading.{IsReaderIdle}
use Rattle.term_names.specs.Entries.{EntriesView}
use Rattle.term_names.specs.Scope.{Scoped}
use Rattle.problem_text.specs.Scripts.{Script}
use Rattle.smtlib_reader.specs.Sessions.{top}
use Rattle.term_names.specs.Standing.{AreLeavesOf, AddsNoSymbols}
use Rattle.term_expansion.specs.Values.{IsValue}
use Rattle.smtlib_reader.specs.declared.defining.Listed.{Listed}
use Rattle.text_items.specs.ItemsAt.{ItemsView}
use Rattle.smtlib_reader.specs.declared.parameters.Parameter.{Parameter}
use Rattle.term_reader.specs.ReadingViews.{ReadingView}
use Rattle.term_expansion.specs.declared.values.Value.{Value}
use Rattle.term_reader.proofs.Staying.{bound_stays, scope_stays, script_stays}
use Rattle.term_expansion.specs.SymbolsAndTerms.{SymbolsAndTerms, both}

-- a leaf, as a term
pub is_added : (s : Table) (v : TermsView) (old new : List Value) (k : ℕ) (name : List ℕ) (sort : Sort) (x : Var) (c : Value)
    → IsLeaf s k (symbol.variable name sort) → name ≡ x.name → sort ≡ x.sort → ((pass : PassView) → Knows pass c.term (leaf k)) → c.sort ≡ sort → c.height ≡ 1
    → new ≡ old ++ c ∷ [] → AddsParameter (both s v) old new k x
unfolding height
is_added s v old new k name sort x c here same same_sort known is high pushed = record {
  leaf = there;
  value = c;
  pushed = pushed;
  is = record {
    refers = record { tree = leaf k; known = known v.pass; stands = there };
    sort = is ∙ same_sort;
    high = high;
    plain = λ _. tt;
  };
}
  where
    there : IsLeaf s k (variable_leaf x)
    there = rw same_sort at (rw same at here)

-- one more that is bound
bound_more : (s : Table) (v : TermsView) (ks : List ℕ) (cs : List Value) (bs : List Bound) (k : ℕ) (c : Value) (b : Bound)
    → AreValuesBound (both s v) ks cs bs → IsLeaf s k (variable_leaf b.variable) → IsValue (both s v) c (record { tree = b.stands_for; sort = b.variable.sort })
    → AreValuesBound (both s v) (ks ++ k ∷ []) (cs ++ c ∷ []) (bs ++ b ∷ [])
bound_more s v ks cs bs k c b h l is = record { leaves = AllZip-push _ ks bs k b h.leaves l; values = AllZip-push _ cs bs c b h.values is }

-- one parameter more has its leaf
pub one_listed : (items : ItemsView) (s z : Table) (v : TermsView) (ps : List Parameter) (i : ℕ) (d : Parameter) (leaves more : List ℕ) (values new : List Value) (k : ℕ) → i < length ps
    → AreValuesBound (both s v) leaves values (map itself (parameters_said items (take i ps))) → Keeps s z → AddsParameter (both z v) values new k (parameter_said items (get_or ps i d)) → more ≡ leaves ++ k ∷ []
    → AreValuesBound (both z v) more new (map itself (parameters_said items (take (i + 1) ps)))
one_listed items s z v ps i d leaves more values new k less h keeps a pushed =
    let front = parameters_said items (take i ps) in
    let x = parameter_said items (get_or ps i d) in
    let before = bound_stays s z v v keeps (terms-refl v) leaves values (map itself front) h in
    let now = bound_more z v leaves values (map itself front) k a.value (itself x) before a.leaf a.is in
    rw (pushed, a.pushed, take_more ps i d less, map-append (parameter_said items) (take i ps) (get_or ps i d ∷ []), map-append itself front (x ∷ [])) now

-- leaves and sorts of what is bound
leaves_bound : (s : Table) (ks : List ℕ) (xs : List Var) → AllZip (λ k (b : Bound). IsLeaf s k (variable_leaf b.variable)) ks (map itself xs) → AreLeavesOf s ks xs
leaves_bound s [] [] h = tt
leaves_bound s [] (x ∷ xs) h = absurd h
leaves_bound s (k ∷ ks) [] h = absurd h
leaves_bound s (k ∷ ks) (x ∷ xs) h = (h.0, leaves_bound s ks xs h.1)

sorts_bound : (w : SymbolsAndTerms) (cs : List Value) (xs : List Var) → AllZip (λ c (b : Bound). IsValue w c (record { tree = b.stands_for; sort = b.variable.sort })) cs (map itself xs)
    → map (λ (c : Value). c.sort) cs ≡ map (λ (x : Var). x.sort) xs
sorts_bound w [] [] h = refl
sorts_bound w [] (x ∷ xs) h = absurd h
sorts_bound w (c ∷ cs) [] h = absurd h
sorts_bound w (c ∷ cs) (x ∷ xs) h = let e = h.0.sort in let f = sorts_bound w cs xs h.1 in cc

-- what stands for itself inside a let does so twice
inside_themselves : (xs : List Var) → map (λ (b : Bound). itself b.variable) (map itself xs) ++ [] ≡ map itself xs
inside_themselves [] = refl
inside_themselves (x ∷ xs) = ap (λ bs. itself x ∷ bs) (inside_themselves xs)

-- the parameters are in scope, and listed
pub is_entered : (s z : Table) (v : TermsView) (r : ReadingView) (l : Listed) (e : EntriesView) (scope : List Scoped) (values none : List Value) (xs : List Var) (sc : Script)
    → AddsNoSymbols s z → IsReaderIdle (both s v) r sc (top r.replaces_lets) → AreValuesBound (both z v) l.leaves.items values (map itself xs) → l.sorts.items ≡ map (λ (c : Value). c.sort) values
    → ((p : Place) → IsScope (both z v) r.names.scope p.scope → p.settings.replaces_lets ≡ false → IsScope (both z v) scope (place_inside (map itself xs) p).scope) → e ≡ r.names.known.own → none ≡ []
    → AreListed z l xs × IsReadyForBody (both z v) (record r { names = record { known = record r.names.known { own = e }; scope = scope }; values = none }) xs sc
is_entered s z v r l e scope values none xs sc adds idle bound sorts put same no_values = (
  record { leaves = leaves_bound z l.leaves.items xs bound.leaves; sorts = sorts ∙ sorts_bound (both z v) values xs bound.values },
  record {
    script = rw same (script_stays s z v v adds (terms-refl v) r.names.known sc idle.script);
    scope = subst (λ (bs : List Bound). IsScope (both z v) scope bs) (inside_themselves xs) (put (top false) (scope_stays s z v v adds.keeps (terms-refl v) r.names.scope [] idle.scope) refl);
    no_values = no_values;
    no_leaves = idle.no_leaves;
    no_frames = idle.no_frames;
  },
)
