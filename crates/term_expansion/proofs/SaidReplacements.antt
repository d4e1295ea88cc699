-- What a replacement puts in for variables.
use Rattle.std.proofs.Common.{◌≡◌, ◌≢◌, ℕ, ◌≤◌, ◌<◌, ◌^◌, ◌⊎◌, inl, inr, refl, sym, ◌∙◌, subst, arith, List, [], ◌∷◌, length, drop, Option, Bool, true, false, cond, eqb, if◌then◌else◌}
use Rattle.std.proofs.lemmas.Bool.Decides.{eqb_tells}
use Rattle.std.proofs.lemmas.Option.{slice_get_within}
use Rattle.std.proofs.lemmas.Bool.{true≢false}
use Rattle.pair_pool.specs.Trees.{leaf}
use Rattle.pair_pool.specs.Views.{PassView, Knows}
use Rattle.sym_table.specs.Table.{Table, IsLeaf, IsTable}
use Rattle.term_model.specs.Terms.{Var, var_eq, Term}
use Rattle.term_model.proofs.Tests.{var_eq_decides}
use Rattle.term_model.proofs.Lists.{drop-whole}
use Rattle.term_pool.specs.StandsFor.{variable_leaf}
use Rattle.term_pool.specs.Views.{TermsView, RefersTo}
use Rattle.term_pool.proofs.Leaves.{one_leaf}
use Rattle.term_expansion.specs.Assigned.{term_of}
use Rattle.term_expansion.specs.Expanding.{SaysWhole}
use Rattle.rule_model.specs.Replacement.{Replacement, replaced_by}
use Rattle.term_expansion.specs.Values.{IsReplacement}
use Rattle.term_expansion.specs.declared.assignments.Assigned.{Assigned}
use Rattle.term_expansion.specs.declared.values.Bound.{Bound}
use Rattle.term_expansion.proofs.NeedLemmas.{one_variable}
use Rattle.term_expansion.specs.SymbolsAndTerms.{both}

-- every pass knows a leaf
pub leaf_known : (pass : PassView) (k : ℕ) → k < 2 ^ 30 → Knows pass k (leaf k)
unfolding Knows
leaf_known pass k low = (refl, low)

-- a variable stands for itself
itself_refers : (s : Table) (v : TermsView) → length s.leaves ≤ 2 ^ 30 → (k : ℕ) (x : Var) → IsLeaf s k (variable_leaf x) → RefersTo s v k (replaced_by [] x)
itself_refers s v few k x l =
    let within = slice_get_within s.leaves k (variable_leaf x) l in
    record { tree = leaf k; known = leaf_known v.pass k (omega arith); stands = l }

says-none : (s : Table) (v : TermsView) (assigned : List Assigned) (bs : List Bound) (q : Replacement) → length s.leaves ≤ 2 ^ 30 → assigned ≡ [] → bs ≡ [] → IsReplacement (both s v) bs q → SaysWhole (both s v) assigned q
says-none s v assigned [] [] few none e h =
    subst (λ (a : List Assigned). SaysWhole (both s v) a []) (sym none) (record { variables = tt; puts = λ k x l. itself_refers s v few k x l })
says-none s v assigned [] (x ∷ q) few none e h = absurd h
says-none s v assigned (b ∷ bs) q few none e h = absurd cc

pub says-start : (s : Table) (v : TermsView) (assigned : List Assigned) (bs : List Bound) (q : Replacement) → length s.leaves ≤ 2 ^ 30 → assigned ≡ [] → IsReplacement (both s v) (drop (length bs) bs) q → SaysWhole (both s v) assigned q
says-start s v assigned bs q few none h = says-none s v assigned (drop (length bs) bs) q few none (drop-whole bs) h

says-one : (s : Table) (v : TermsView) → IsTable s → (assigned : List Assigned) (q : Replacement) (a : Assigned) (x : Var) (t : Term) → IsLeaf s a.variable (variable_leaf x) → RefersTo s v a.term t → SaysWhole (both s v) assigned q → SaysWhole (both s v) (a ∷ assigned) ((x, t) ∷ q)
says-one s v table assigned q a x t here refers h = record {
  variables = ((x, here), h.variables);
  puts = λ k y l. go k y l (eqb a.variable k) (var_eq x y) refl (eqb_tells a.variable k);
}
  where
    go : (k : ℕ) (y : Var) → IsLeaf s k (variable_leaf y) → (b c : Bool) → var_eq x y ≡ c → ((b ≡ true) × (a.variable ≡ k)) ⊎ ((b ≡ false) × (a.variable ≢ k)) → RefersTo s v (cond b a.term (term_of k assigned)) (if c then t else replaced_by q y)
    go k y l true true d tells = refers
    go k y l true false d (inl both) =
        absurd (true≢false (sym ((var_eq_decides x y).1 (one_variable s a.variable k x y here l both.1)) ∙ d))
    go k y l true false d (inr both) = absurd (true≢false both.0)
    go k y l false true d (inl both) = absurd (true≢false (sym both.0))
    go k y l false true d (inr both) = absurd (both.1 (one_leaf s table a.variable k x y here l ((var_eq_decides x y).0 d)))
    go k y l false false d tells = h.puts k y l

pub says-next : (s : Table) (v : TermsView) → IsTable s → (assigned new : List Assigned) (b : Bound) (bs : List Bound) (outer : Option ℕ) → ((q : Replacement) → IsReplacement (both s v) bs q → SaysWhole (both s v) assigned q) → new ≡ record { variable = b.variable; term = b.value.term; outer = outer } ∷ assigned → (q : Replacement) → IsReplacement (both s v) (b ∷ bs) q → SaysWhole (both s v) new q
says-next s v table assigned new b bs outer before e [] h = absurd h
says-next s v table assigned new b bs outer before e (x ∷ q) h =
    subst (λ (a : List Assigned). SaysWhole (both s v) a (x ∷ q)) (sym e)
    (says-one s v table assigned q (record { variable = b.variable; term = b.value.term; outer = outer }) x.0 x.1 h.0.leaf h.0.value.refers (before q h.1))
