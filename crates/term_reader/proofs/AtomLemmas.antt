-- Numerals and symbols where they stand, and what is found of a name.
use Rattle.std.proofs.Common.{◌≡◌, ℕ, ℤ, ◌<◌, ◌^◌, inl, inr, length, true, false, refl, sym, ap, ◌∙◌, subst, arith, List, [], Option, Some, None, Result, Ok, Err}
use Rattle.std.proofs.lemmas.Option.{slice_get_within}
use Rattle.pair_pool.specs.Trees.{leaf}
use Rattle.pair_pool.specs.Views.{PassView, Knows}
use Rattle.sexpr.specs.declared.causes.Cause.TheVariants.{UnknownName, SortMismatch}
use Rattle.sexpr.specs.declared.causes.Refusal.{Refusal}
use Rattle.sym_table.specs.Leaf as Leaf
use Rattle.sym_table.specs.Table.{Table, IsLeaf, FindsOrAdds}
use Rattle.term_model.specs.declared.symbols.Sort.{Sort}
use Rattle.term_pool.specs.Views.{TermsView}
use Rattle.term_reader.specs.Entering.{IsNumber, is_none_found, IsHeadFound, IsReadAlone}
use Rattle.text_items.specs.ItemShapes.{Name}
use Rattle.problem_text.specs.Forms.{symbol}
use Rattle.term_names.specs.Heads.{HeadMeans}
use Rattle.term_model.specs.Heights.{height}
use Rattle.term_names.specs.Known.{KnownView}
use Rattle.term_names.specs.LookingUp.{IsFoundMeaning}
use Rattle.term_names.specs.Making.{IsMade, Makes}
use Rattle.problem_text.specs.Limits.{most_height}
use Rattle.problem_text.specs.Names.{Place, Meaning, meaning_of, meaning_applied}
use Rattle.term_reader.specs.Reading.{terms_read, ComesTo}
use Rattle.problem_text.specs.TypedTerms.{Typed}
use Rattle.problem_text.specs.Scripts.{Script}
use Rattle.term_reader.specs.Settling.{SettlesTerm}
use Rattle.problem_text.specs.Terms.{settled, term_from}
use Rattle.term_names.specs.declared.faults.ReadFault.{ReadFault}
use Rattle.term_names.specs.declared.heads.Head.{Head}
use Rattle.term_names.specs.declared.looking_up.Found.{Found}
use Rattle.term_expansion.specs.declared.values.Value.{Value}
use Rattle.term_reader.proofs.Coming.{refuses, same_outcome}
use Rattle.term_reader.proofs.Resuming.{known_symbol, unknown_symbol}
use Rattle.term_reader.proofs.Settled.{made_settles, made_fails}
use Rattle.term_expansion.specs.SymbolsAndTerms.{both}

-- a numeral
pub number_is : (s : Table) (r k : ℕ) (m n : ℤ) → r ≡ k → m ≡ n → IsLeaf s k (Leaf.numeral m) → ((pass : PassView) → Knows pass r (leaf k))
    → IsNumber s (record { term = r; sort = Sort.Int; height = 1; plain = true }) n
unfolding height
number_is s r k m n same e here known = record {
  is =
      λ v j f. record {
        refers = record { tree = leaf k; known = known v.pass; stands = subst (λ i. IsLeaf s k (Leaf.numeral i)) (e ∙ f) here };
        sort = refl;
        high = refl;
        plain = λ _. tt;
      };
  low = omega arith;
}

-- the leaf of a numeral is among those that a reference can be
pub number_low : (old new : Table) (k : ℕ) (l : Leaf.Leaf) → FindsOrAdds old new k l → length old.leaves < 2 ^ 30 → k < 2 ^ 30
number_low old new k l (inl (here, same)) room = omega (arith, slice_get_within old.leaves k l here)
number_low old new k l (inr (lacks, last, more)) room = omega arith

-- what is found has a meaning, unless nothing is
pub found_means : (s : Table) (v : TermsView) (k : KnownView) (p : Place) (found : Found) (o : Option Meaning) → is_none_found found ≡ false
    → IsFoundMeaning (both s v) k p found o → (m : Meaning) × (o ≡ Some m)
found_means s v k p (Found.Term c) o e (t, is, rest) = (_, is)
found_means s v k p (Found.Named w) o e (m, is, rest) = (m, is)
found_means s v k p (Found.Macro w) o e (m, is, rest) = (m, is)
found_means s v k p (Found.Symbol n) o e (m, is, rest) = (m, is)
found_means s v k p Found.Unknown o e h = absurd cc

pub none_means : (s : Table) (v : TermsView) (k : KnownView) (p : Place) (found : Found) (o : Option Meaning) → is_none_found found ≡ true
    → IsFoundMeaning (both s v) k p found o → o ≡ None
none_means s v k p (Found.Term c) o e h = absurd cc
none_means s v k p (Found.Named w) o e h = absurd cc
none_means s v k p (Found.Macro w) o e h = absurd cc
none_means s v k p (Found.Symbol n) o e h = absurd cc
none_means s v k p Found.Unknown o e h = h

-- what is applied, where something is found
pub head_found : (s : Table) (v : TermsView) (k : KnownView) (p : Place) (found : Found) (o : Option Meaning) (head : Option Head)
    → is_none_found found ≡ false → IsFoundMeaning (both s v) k p found o
    → ((m : Meaning) → IsFoundMeaning (both s v) k p found (Some m) → (h : Head) × (head ≡ Some h) × HeadMeans (both s v) k h m)
    → IsHeadFound (both s v) k head o
head_found s v k p found o head known is applies =
    let (m, e) = found_means s v k p found o known is in
    let (h, same, of) = applies m (subst (IsFoundMeaning (both s v) k p found) e is) in
    subst (λ a. IsHeadFound (both s v) k a o) (sym same) (m, e, of)

-- a symbol of this meaning stands alone
module _ (s : Table) (old new : TermsView) (x : Name) (p : Place) (sc : Script) (m : Meaning) (known : meaning_of p sc x.name ≡ Some m)
    (limited : p.settings.limit ≡ Some most_height) where
  is_settled : term_from (symbol x) p sc ≡ settled SortMismatch (Some most_height) x.place (meaning_applied m []) sc
  is_settled = known_symbol x m p sc known ∙ ap (λ (limit : Option ℕ). settled SortMismatch limit x.place (meaning_applied m []) sc) limited

  pub symbol_settles : (place : ℕ) (made : Option Value) (result : Result Value ReadFault) → place ≡ x.place
      → Makes old (both s new) (meaning_applied m []) (Ok made)
      → ((o : Option Typed) → IsMade (both s new) o (Ok made) → SettlesTerm (both s new) SortMismatch place o sc result)
      → ComesTo terms_read old (both s new) (IsReadAlone (both s new) sc) (term_from (symbol x) p sc) result
  symbol_settles place made result same makes settles =
      same_outcome is_settled
      (made_settles s old new SortMismatch x.place (meaning_applied m []) sc made result makes
      (λ is. subst (λ (n : ℕ). SettlesTerm (both s new) SortMismatch n (meaning_applied m []) sc result) same (settles (meaning_applied m []) is)))

  pub symbol_fails : (f : ReadFault) → Makes old (both s new) (meaning_applied m []) (Err f)
      → ComesTo terms_read old (both s new) (IsReadAlone (both s new) sc) (term_from (symbol x) p sc) (Err f)
  symbol_fails f makes = same_outcome is_settled (made_fails s old new SortMismatch x.place (meaning_applied m []) sc _ f makes)

pub symbol_unknown : (s : Table) (v : TermsView) (x : Name) (p : Place) (sc : Script) (r : Refusal) (place : ℕ) → meaning_of p sc x.name ≡ None
    → r ≡ record { cause = UnknownName; at = place } → place ≡ x.place
    → ComesTo terms_read v (both s v) (IsReadAlone (both s v) sc) (term_from (symbol x) p sc) (Err (ReadFault.Text r))
symbol_unknown s v x p sc r place none is same =
    same_outcome (unknown_symbol x p sc none) (refuses refl (sym (ap Err (is ∙ ap (λ n. record { cause = UnknownName; at = n }) same))))

-- what is found by the name of a symbol
pub found_named : (s : Table) (v : TermsView) (k : KnownView) (p : Place) (sc : Script) (x : Name) (found : Found) (name : List ℕ) → name ≡ x.name
    → IsFoundMeaning (both s v) k p found (meaning_of p sc name)
    → IsFoundMeaning (both s v) k p found (meaning_of p sc x.name)
found_named s v k p sc x found name same is = subst (λ (n : List ℕ). IsFoundMeaning (both s v) k p found (meaning_of p sc n)) same is
